-- What the skips of code lines come to. As in finish, a contract says nothing of what its function does not touch.
use Rattle.std.specs.Prelude.{◌≡◌, Bool, ℕ, ℤ, Some, Result, Ok, Err}
use Rattle.std.proofs.Math.Option.{none, some}
use Rattle.faults.specs.declared.RunFault.{RunFault}
use Rattle.faults.specs.declared.RunFault.TheVariants.{NoValue}
use Rattle.model.specs.declared.Marks.{Marks}
use Rattle.model.specs.declared.Comparison.{Comparison}
use Rattle.model.specs.Text.{Bytes, same}
use Rattle.model.specs.Store.{Store}
use Rattle.model.specs.Value.{value_of}
use Rattle.model.specs.Machine.{param, skip_by, skip_if, skip_compared, wanted, Outputs}
use Rattle.state.specs.declared.State.{State}
use Rattle.state.specs.State.{shared_of, Sound}
use Rattle.call.specs.declared.Call.{Call}
use Rattle.call.specs.Call.{frame_of, Placed}
use Rattle.number.specs.Number.{InRange}
use Rattle.answer.specs.Answers.{Answer}
use Rattle.answer.specs.Kept.{OnlyMoves, Comes}

-- In the records below c is the call before and c' the call after, s is the state, which stays, and r is the answer.

-- a skip by the value v
pub record SkipsLines (m : Marks) (text : Bytes) (c : Call) (v : ℤ) (r : Answer) (c' : Call) : Type 0 where
  pub moves : OnlyMoves c r c'
  pub comes : (s : State) (o : Outputs) (b : Bytes) → Placed text c → Sound text s o → Comes m text (skip_by (some v) (frame_of m text c) (shared_of s o)) s o b r s c' o

-- parameter d has the value, which is in range, or none and the fault says so
abbrev pub HasValue : Marks → Call → ℕ → Store → Result ℤ RunFault → Type 0
HasValue m c d es (Ok v) = InRange (Some v) × ((text : Bytes) → value_of m es (param (frame_of m text c) d) ≡ some v)
HasValue m c d es (Err e) = (e ≡ NoValue) × ((text : Bytes) → value_of m es (param (frame_of m text c) d) ≡ none)

-- r is the value of parameter d, with the names es
pub record ParamValue (m : Marks) (c : Call) (d : ℕ) (es : Store) (r : Result ℤ RunFault) : Type 0 where
  pub is : HasValue m c d es r

-- q: parameters 1 and 2 are the same
pub record Agrees (c : Call) (q : Bool) : Type 0 where
  pub is : (m : Marks) (text : Bytes) → q ≡ same (param (frame_of m text c) 1) (param (frame_of m text c) 2)

-- F4, by parameter d
pub record SkipsBy (m : Marks) (text : Bytes) (c : Call) (d : ℕ) (s : State) (r : Answer) (c' : Call) : Type 0 where
  pub moves : OnlyMoves c r c'
  pub comes : (o : Outputs) (b : Bytes) → Placed text c → Sound text s o
      → Comes m text (skip_by (value_of m s.store (param (frame_of m text c) d)) (frame_of m text c) (shared_of s o)) s o b r s c' o

-- by parameter 3, where a test holds
pub record SkipsIf (m : Marks) (text : Bytes) (q : Bool) (c : Call) (s : State) (r : Answer) (c' : Call) : Type 0 where
  pub moves : OnlyMoves c r c'
  pub comes : (o : Outputs) (b : Bytes) → Placed text c → Sound text s o → Comes m text (skip_if m q (frame_of m text c) (shared_of s o)) s o b r s c' o

-- F5
pub record SkipsText (m : Marks) (text : Bytes) (q : Bool) (c : Call) (s : State) (r : Answer) (c' : Call) : Type 0 where
  pub moves : OnlyMoves c r c'
  pub comes : (o : Outputs) (b : Bytes) → Placed text c → Sound text s o
      → Comes m text (skip_if m (wanted q (same (param (frame_of m text c) 1) (param (frame_of m text c) 2))) (frame_of m text c) (shared_of s o)) s o b r s c' o

-- F6
pub record SkipsValue (m : Marks) (text : Bytes) (k : Comparison) (c : Call) (s : State) (r : Answer) (c' : Call) : Type 0 where
  pub moves : OnlyMoves c r c'
  pub comes : (o : Outputs) (b : Bytes) → Placed text c → Sound text s o
      → Comes m text
      (skip_compared m k (value_of m s.store (param (frame_of m text c) 1)) (value_of m s.store (param (frame_of m text c) 2)) (frame_of m text c) (shared_of s o))
      s o b r s c' o
