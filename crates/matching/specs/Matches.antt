-- What an offered line comes to up to a call, and what opening its reading answers.
use Rattle.std.specs.Prelude.{◌≡◌, List, [], ℕ, ◌≤◌, ◌<◌, length, get_or, replicate, Option, Some, None, Result, Ok, Err}
use Rattle.std.proofs.Math.Option.{some}
use Rattle.faults.specs.declared.RunFault.{RunFault}
use Rattle.faults.specs.declared.RunFault.TheVariants.{NoFuel, DeepCall}
use Rattle.model.specs.Limits.{macros_most, calls_most}
use Rattle.model.specs.declared.Marks.{Marks}
use Rattle.model.specs.Text.{Bytes}
use Rattle.model.specs.Reading.{Reading as ReadingOf, chosen}
use Rattle.model.specs.Load.{templates, Macro, no_macro, Loaded}
use Rattle.model.specs.Report.{one_more_of}
use Rattle.model.specs.Machine.{Frame, padded}
use Rattle.model.specs.Sizes.{Nested}
use Rattle.call.specs.declared.Call.{Call}
use Rattle.call.specs.Call.{frame_of}
use Rattle.call.specs.Params.{PiecesInside, Opens}
use Rattle.fit.specs.declared.Reading.{Reading}
use Rattle.state.specs.declared.State.{State}
use Rattle.state.specs.State.{counted_event}
use Rattle.write.specs.Output.{PassesThrough}

-- where a line is counted by its reading: at its template's place, or behind all templates where it has none
abbrev pub chosen_place : Option Reading → ℕ
chosen_place (Some r) = r.template
chosen_place None = macros_most

-- a line with the reading c, if it has one, is counted, unless no fuel is left
pub record CountsDecided (c : Option Reading) (fuel : ℕ) (counts counts' : List ℕ) : Type 0 where
  pub spent : fuel ≡ 0 → counts' ≡ counts
  pub counted : 0 < fuel → counts' ≡ one_more_of (chosen_place c) counts

-- r is what a line comes to by its reading c, if it has one, with `depth` calls open, up to the opening of a call; s and output are the state and the
-- first output before it, and s' and output' after it
pub record Decides (c : Option Reading) (line : Bytes) (depth : ℕ) (s : State) (output : Bytes) (r : Result Unit RunFault) (s' : State) (output' : Bytes) : Type 0 where
  pub spent : s.fuel ≡ 0 → (r ≡ Err NoFuel) × (s' ≡ s) × (output' ≡ output)
  pub writes : 0 < s.fuel → c ≡ None → PassesThrough line (counted_event s) output r s' output'
  pub deep : 0 < s.fuel → (x : Reading) → c ≡ Some x → depth ≡ calls_most → (r ≡ Err DeepCall) × (s' ≡ counted_event s) × (output' ≡ output)
  pub opens : 0 < s.fuel → (x : Reading) → c ≡ Some x → ¬ (depth ≡ calls_most) → (r ≡ Ok tt) × (s' ≡ counted_event s) × (output' ≡ output)

-- the pieces of a reading lie in a line, and its template is one that a table has a place for
pub record Opening (line : Bytes) (c : Reading) : Type 0 where
  pub pieces : PiecesInside line c.starts c.lens
  pub place : c.template < macros_most

-- r is the call that is chosen
pub record Opened (bodies : List ℕ) (line : Bytes) (c : Reading) (number : ℕ) (r : Call) : Type 0 where
  pub nine : length c.starts ≡ 9
  pub opens : Opens number (get_or bodies c.template 0) line c.starts c.lens r

-- a new call of a macro, with the pieces of a reading
unfoldable pub opened : ℕ → Macro → List Bytes → Frame
opened number x ps = record { number = number; params = padded ps; delimiters = replicate 9 []; next = x.body; loops = [] }

-- c is the call that the line opens
pub record Calls (m : Marks) (text : Bytes) (t : Loaded) (line : Bytes) (number : ℕ) (c : Call) : Type 0 where
  pub reading : ReadingOf
  pub is : chosen m (templates t.macros) line ≡ some reading
  pub frame : frame_of m text c ≡ opened number (get_or t.macros reading.which no_macro) reading.pieces
  pub same : c.number ≡ number
  pub within : c.next ≤ length text
  pub nested : Nested m (frame_of m text c)
