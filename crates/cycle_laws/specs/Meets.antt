-- What the functions of the cycle ensure. It holds for every loaded text that they can go by, and for all callers.
-- In both records w is what they go by, `depth` is the number of callers, s o counts are the state, outputs and counts before, and s' o' counts' those after.
use Rattle.std.specs.Prelude.{◌≡◌, true, false, List, ◌∷◌, ◌++◌, ℕ, ◌<◌, length}
use Rattle.std.proofs.Math.Option.{Option, none}
use Rattle.model.specs.Text.{Bytes}
use Rattle.model.specs.Load.{Loaded}
use Rattle.model.specs.Machine.{Outputs, Frame, running}
use Rattle.state.specs.declared.State.{State}
use Rattle.state.specs.State.{state_of}
use Rattle.call.specs.declared.Call.{Call}
use Rattle.call.specs.Call.{frame_of}
use Rattle.answer.specs.Answers.{Answer, is_left, is_offer, next_of, rooms_of, comes_to}
use Rattle.answer.specs.Kept.{Open, Follows}
use Rattle.usage.specs.Counts.{Counts}
use Rattle.matching.specs.Book.{Basis, Book, tally_in}

-- r is what the expansion comes to, with a line `pending` that is perhaps to be offered, and the calls `own` above the callers: they are
-- all left, so that no call or built line matters
pub record Meets (w : Basis) (pending : Option Bytes) (own : List Frame) (depth : ℕ)
    (s : State) (o : Outputs) (counts : List ℕ) (r : Answer) (s' : State) (o' : Outputs) (counts' : List ℕ) : Type 0 where
  pub follows : Follows w.text s o s' o'
  pub counted : Counts counts' s'.fuel
  pub left : is_left r ≡ true
  pub same : (t : Loaded) → Book w t → (fs : List Frame) → length fs ≡ depth → (c : Call) (line : Bytes)
      → comes_to s.fuel (rooms_of o) t (running (state_of w.text pending (own ++ fs) (tally_in t counts) s o))
      ≡ comes_to s'.fuel (rooms_of o) t (next_of w.marks w.text fs (tally_in t counts') r c s' line o')

-- a is what the expansion comes to from the next code line of the call c on, up to the code line after it: what it offers is done with,
-- so that no built line matters. c' is the call after it
pub record Advances (w : Basis) (c : Call) (depth : ℕ)
    (s : State) (o : Outputs) (counts : List ℕ) (a : Answer) (s' : State) (c' : Call) (o' : Outputs) (counts' : List ℕ) : Type 0 where
  pub follows : Follows w.text s o s' o'
  pub counted : Counts counts' s'.fuel
  pub settled : is_offer a ≡ false
  pub less : is_left a ≡ false → s'.fuel < s.fuel
  pub stays : is_left a ≡ false → Open w.marks w.text c'
  pub same : (t : Loaded) → Book w t → (fs : List Frame) → length fs ≡ depth → (line : Bytes)
      → comes_to s.fuel (rooms_of o) t (running (state_of w.text none (frame_of w.marks w.text c ∷ fs) (tally_in t counts) s o))
      ≡ comes_to s'.fuel (rooms_of o) t (next_of w.marks w.text fs (tally_in t counts') a c' s' line o')
