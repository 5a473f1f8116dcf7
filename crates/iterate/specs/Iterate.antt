-- What the functions over a call's iterations answer.
use Rattle.std.specs.Prelude.{◌≡◌, List, ◌∷◌, ℕ, ◌≤◌, ℤ, pos, negsuc, length, Option, Some, None, Result, Ok, Err}
use Rattle.std.proofs.Math.Option.{some}
use Rattle.model.specs.declared.Marks.{Marks}
use Rattle.model.specs.Text.{Bytes, part}
use Rattle.model.specs.Load.{body_at}
use Rattle.model.specs.Machine.{Loop, Frame, Shared, Step, continues, halts, param, pass_of, take_pass, end_pass, start_repeat}
use Rattle.faults.specs.declared.RunFault.{RunFault}
use Rattle.faults.specs.Numbers.{run_number}
use Rattle.call.specs.declared.Param.{Param}
use Rattle.call.specs.declared.Pieces.{Pieces}
use Rattle.call.specs.declared.Kind.TheVariants as Kinds
use Rattle.call.specs.declared.Iteration.{Iteration}
use Rattle.call.specs.declared.Call.{Call}
use Rattle.call.specs.Call.{text_of, texts_of, delimiters_of, rest_of, list_of, loop_by, loop_of, frame_of, PlacedPieces, PlacedLoop, Placed}

-- what an answer comes to: the call goes on, or a fault ends the run
unfoldable pub pass_step : Marks → Bytes → Result Unit RunFault → Call → Shared → Step
pass_step m text (Ok u) r w = continues (frame_of m text r) w
pass_step m text (Err fault) r w = halts (run_number fault) w

-- ---- passes

-- the call f with these parameters, code lines left and iterations
abbrev pub with_params : Frame → List Param → List Bytes → List Loop → Frame
with_params f ps next ls = record { number = f.number; params = texts_of ps; delimiters = delimiters_of ps; next = next; loops = ls }

-- f has these parameters
pub record Has (f : Frame) (ps : List Param) : Type 0 where
  pub params : f.params ≡ texts_of ps
  pub delimiters : f.delimiters ≡ delimiters_of ps

-- what an iteration comes to that lies in those of ls: it makes another pass, or ends, or a fault ends the run. x is the iteration then, and ps are
-- the parameters
unfoldable pub again_step : Marks → Bytes → Result (Option ℕ) RunFault → Iteration → List Param → List Loop → Frame → Shared → Step
again_step m text (Ok (Some after)) x ps ls f w = continues (with_params f ps (body_at m text after) (loop_of m text x ∷ ls)) w
again_step m text (Ok None) x ps ls f w = continues (with_params f ps f.next ls) w
again_step m text (Err fault) x ps ls f w = halts (run_number fault) w

-- what a pass of an ed7 comes to, whose code lines after the opening line are `after`
unfoldable pub taken_step : Bytes → Result Unit RunFault → Pieces → List Param → List Bytes → List Loop → Frame → Shared → Step
taken_step text (Ok u) x ps after ls f w = continues (with_params f ps after (loop_by text after (Kinds.Pieces x) ∷ ls)) w
taken_step text (Err fault) x ps after ls f w = halts (run_number fault) w

-- a pass of the ed7 x over the rest of its line; ps are the parameters, and x' and ps' what they are afterwards
pub record TakesPass (m : Marks) (text : Bytes) (x : Pieces) (ps : List Param) (r : Result Unit RunFault) (x' : Pieces) (ps' : List Param) : Type 0 where
  pub step : (after : List Bytes) (ls : List Loop) (f : Frame) (w : Shared) → Has f ps
      → take_pass x.param (pass_of m (list_of text x) (rest_of x)) (list_of text x) (text_of x.before) after ls f w ≡ taken_step text r x' ps' after ls f w
  pub placed : PlacedPieces text x'

-- the place where the call goes on lies in the text
abbrev pub GoesWithin : Bytes → Result (Option ℕ) RunFault → Type 0
GoesWithin text (Ok (Some after)) = after ≤ length text
GoesWithin text (Ok None) = Unit
GoesWithin text (Err fault) = Unit

-- the iteration x makes another pass, or ends
pub record GoesOn (m : Marks) (text : Bytes) (x : Iteration) (ps : List Param) (r : Result (Option ℕ) RunFault) (x' : Iteration) (ps' : List Param) : Type 0 where
  pub step : (ls : List Loop) (f : Frame) (w : Shared) → Has f ps → end_pass m (loop_of m text x ∷ ls) f w ≡ again_step m text r x' ps' ls f w
  pub placed : PlacedLoop text x'
  pub within : GoesWithin text r

-- ed7: the first pass of parameter d over `line`, with the delimiters text[list..end]. c is the call at entry and c' at exit
pub record StartsPass (m : Marks) (text : Bytes) (c : Call) (d : ℕ) (line : Bytes) (list end : ℕ) (r : Result Unit RunFault) (c' : Call) : Type 0 where
  pub step : (w : Shared)
      → take_pass d (pass_of m (part text list end) line) (part text list end) (param (frame_of m text c) d) (frame_of m text c).next (frame_of m text c).loops (frame_of m text c) w
      ≡ pass_step m text r c' w
  pub placed : Placed text c'

-- eF8
pub record EndsPass (m : Marks) (text : Bytes) (c : Call) (r : Result Unit RunFault) (c' : Call) : Type 0 where
  pub step : (w : Shared) → end_pass m (frame_of m text c).loops (frame_of m text c) w ≡ pass_step m text r c' w
  pub placed : Placed text c'

-- ---- counted iterations

-- the number of passes that a value asks for
unfoldable pub pass_count : ℤ → ℕ
pass_count (pos n) = n
pass_count (negsuc n) = 0

pub record CountsPasses (v : ℤ) (r : ℕ) : Type 0 where
  pub is : r ≡ pass_count v

-- eF7 with the value v: c is the call at entry and c' at exit
pub record StartsRepeat (m : Marks) (text : Bytes) (c : Call) (v : ℤ) (c' : Call) : Type 0 where
  pub step : (w : Shared) → start_repeat m (some v) (frame_of m text c) w ≡ continues (frame_of m text c') w
  pub placed : Placed text c → Placed text c'
  pub params : c'.params ≡ c.params
