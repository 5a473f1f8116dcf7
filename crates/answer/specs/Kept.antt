-- What is kept from one answer to the next, and what a code line's answer is.
use Rattle.std.specs.Prelude.{◌≡◌, true, List, ℕ, ◌≤◌, length, take, drop}
use Rattle.std.proofs.Math.Option.{none}
use Rattle.model.specs.Limits.{fuel_most}
use Rattle.model.specs.declared.Marks.{Marks}
use Rattle.model.specs.Text.{Bytes}
use Rattle.model.specs.Report.{Tally}
use Rattle.model.specs.Machine.{Outputs, Frame, Step, stepped}
use Rattle.model.specs.Sizes.{Nested}
use Rattle.state.specs.declared.State.{State}
use Rattle.state.specs.State.{Sound, state_of}
use Rattle.call.specs.declared.Call.{Call}
use Rattle.call.specs.Call.{frame_of, Placed}
use Rattle.answer.specs.Answers.{Answer, is_left, settle, next_of}

-- what was written to an output stays, and so does what lies beyond what is written now
pub record Extends (o : Bytes) (w : ℕ) (o' : Bytes) (w' : ℕ) : Type 0 where
  pub front : take w o' ≡ take w o
  pub rest : drop w' o' ≡ drop w' o
  pub long : length o' ≡ length o
  pub more : w ≤ w'
  pub fits : w' ≤ length o

-- both outputs do
pub record ExtendsBoth (o : Outputs) (s : State) (o' : Outputs) (s' : State) : Type 0 where
  pub first : Extends o.first s.written o'.first s'.written
  pub second : Extends o.second s.second o'.second s'.second

-- what is asked of a call that is opened
pub record Begun (m : Marks) (text : Bytes) (c : Call) : Type 0 where
  pub number : c.number ≤ fuel_most
  pub next : c.next ≤ length text
  pub nested : Nested m (frame_of m text c)

-- what is asked of an open call
pub record Open (m : Marks) (text : Bytes) (c : Call) : Type 0 where
  pub placed : Placed text c
  pub nested : Nested m (frame_of m text c)

-- ---- while a code line is carried out

-- what no code line changes, but that input lines may be read
pub record Stays (s t : State) : Type 0 where
  pub from : s.at ≤ t.at
  pub calls : t.calls ≡ s.calls
  pub events : t.events ≡ s.events
  pub fuel : t.fuel ≡ s.fuel

-- with the answer r the call c becomes c': only where its next code line starts may change, and that only where the call goes on
pub record OnlyMoves (c : Call) (r : Answer) (c' : Call) : Type 0 where
  pub rest : c' ≡ record c { next = c'.next }
  pub kept : is_left r ≡ true → c' ≡ c

-- r is what the step p comes to from the state s. A step has what calls share with it, so that of the state before only input, line, calls and events
-- count.
--   s o        state and outputs before it
--   line       the line that was built
--   s' c' o'   state, call and outputs after it
pub record Comes (m : Marks) (text : Bytes) (p : Step) (s : State) (o : Outputs) (line : Bytes) (r : Answer) (s' : State) (c' : Call) (o' : Outputs) : Type 0 where
  pub same : (fs : List Frame) (y : Tally) → settle (stepped m fs p (state_of text none fs y s o')) ≡ next_of m text fs y r c' s' line o'
  pub sound : Sound text s' o'
  pub placed : Placed text c'
  pub stays : Stays s s'
  pub extends : ExtendsBoth o s o' s'

-- ---- from one event to another

-- the state and outputs that follow s and o
pub record Follows (text : Bytes) (s : State) (o : Outputs) (s' : State) (o' : Outputs) : Type 0 where
  pub sound : Sound text s' o'
  pub from : s.at ≤ s'.at
  pub fuel : s'.fuel ≤ s.fuel
  pub extends : ExtendsBoth o s o' s'
