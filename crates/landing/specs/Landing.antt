-- What a skip and an answer come to in a call.
use Rattle.std.specs.Prelude.{◌≡◌, true, false, List, ◌∷◌, ℕ}
use Rattle.std.proofs.Math.Option.{none}
use Rattle.model.specs.declared.Marks.{Marks}
use Rattle.model.specs.Text.{Bytes}
use Rattle.model.specs.Report.{Tally}
use Rattle.model.specs.Machine.{Frame, skip_in, Outputs}
use Rattle.state.specs.declared.State.{State}
use Rattle.state.specs.State.{shared_of, state_of}
use Rattle.call.specs.declared.Call.{Call}
use Rattle.call.specs.Call.{frame_of, Placed}
use Rattle.answer.specs.Answers.{Answer, is_left, is_offer, settle, next_of}
use Rattle.answer.specs.Kept.{OnlyMoves}

-- r is what a skip of n lines comes to in the call c, which becomes c'
pub record LandsSkip (m : Marks) (text : Bytes) (c : Call) (n : ℕ) (r : Answer) (c' : Call) : Type 0 where
  pub settled : is_offer r ≡ false
  pub moves : OnlyMoves c r c'
  pub placed : Placed text c → Placed text c'
  pub same : (fs : List Frame) (y : Tally) (line : Bytes) (s : State) (o : Outputs)
      → settle (skip_in m n (frame_of m text c ∷ fs) (shared_of s o) (state_of text none fs y s o)) ≡ next_of m text fs y r c' s line o

-- a is what the answer r to a line that the call c offered comes to in c, which becomes c'
pub record LandsTurn (m : Marks) (text : Bytes) (c : Call) (r a : Answer) (c' : Call) : Type 0 where
  pub settled : is_left r ≡ true → is_offer a ≡ false
  pub moves : OnlyMoves c a c'
  pub placed : Placed text c → Placed text c'
  pub same : is_left r ≡ true → (fs : List Frame) (y : Tally) (line : Bytes) (s : State) (o : Outputs)
      → next_of m text (frame_of m text c ∷ fs) y r c s line o ≡ next_of m text fs y a c' s line o
