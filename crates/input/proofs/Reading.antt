-- Laws of the expansion where an input line is read.
use mathlib.Core.Path.{◌≡◌, refl, sym, ap, ◌∙◌}
use mathlib.Core.Bool.{true, false}
use mathlib.Core.Option.{none, some}
use Rattle.std.specs.Prelude.{Ok, Err}
use Rattle.faults.specs.declared.RunFault.TheVariants.{LongInput}
use mathlib.Core.List.{[], ◌∷◌}
use Prim.Native.Nat.{ℕ, suc, ◌+◌}
use native.Mathlib.Numerals.{add-one}
use lib.Dec.{leb}
use lib.ListN.{length, drop}
use Rattle.model.specs.declared.Marks.{Marks}
use Rattle.model.specs.Text.{Bytes, up_to, lines}
use Rattle.model.specs.Load.{Loaded}
use Rattle.model.specs.Report.{Tally}
use Rattle.model.specs.Machine as Machine
use Rattle.model.specs.Machine.{Rooms, Outputs, running, ended, state_with, outcome}
use Rattle.model.proofs.Steps as Steps
use Rattle.state.specs.declared.State.{State}
use Rattle.state.specs.State.{shared_of, state_of, with_input}
use Rattle.answer.specs.declared.Turn.TheVariants.{Ends}
use Rattle.answer.specs.Answers.{comes_to, result_after}

module _ (room : Rooms) (m : Marks) (text : Bytes) (t : Loaded) (y : Tally) (s : State) (o : Outputs) where
  -- no line is left
  pub input_over : lines (drop s.at text) ≡ [] → comes_to s.fuel room t (running (state_of text none [] y s o)) ≡ result_after t y (Ok Ends) s o
  unfolding outcome Machine.result_of state_with
  input_over e = ap (outcome t) (Steps.input_done s.fuel room t (state_of text none [] y s o) refl refl e)

  module _ (marks : t.marks ≡ m) (l c : Bytes) (at : ℕ) (e : lines (drop s.at text) ≡ l ∷ lines (drop at text)) (q : c ≡ up_to m.source l) where
    reading_is : Steps.reading t.marks l (lines (drop at text)) (state_of text none [] y s o) ≡ state_of text (some c) [] y (with_input s at (s.line + 1)) o
    unfolding Steps.reading
    reading_is =
        ap (λ (x : Marks). record { input = lines (drop at text); line = suc s.line; pending = some (up_to x.source l); frames = []; calls = s.calls; shared = shared_of s o; events = s.events; tally = y }) marks
        ∙ ap (λ (x : Bytes). record { input = lines (drop at text); line = suc s.line; pending = some x; frames = []; calls = s.calls; shared = shared_of s o; events = s.events; tally = y }) (sym q)
        ∙ ap (λ (n : ℕ). record { input = lines (drop at text); line = n; pending = some c; frames = []; calls = s.calls; shared = shared_of s o; events = s.events; tally = y }) (sym (add-one s.line))

    measure_is : leb (length (up_to t.marks.source l)) 200 ≡ leb (length c) 200
    measure_is = ap (λ (x : Marks). leb (length (up_to x.source l)) 200) marks ∙ ap (λ (x : Bytes). leb (length x) 200) (sym q)

    -- a line is read, and is to be offered
    pub input_read : leb (length c) 200 ≡ true
        → comes_to s.fuel room t (running (state_of text none [] y s o)) ≡ comes_to s.fuel room t (running (state_of text (some c) [] y (with_input s at (s.line + 1)) o))
    input_read b =
        ap (outcome t) (Steps.input_line s.fuel room t (state_of text none [] y s o) l (lines (drop at text)) refl refl e (measure_is ∙ b))
        ∙ ap (λ (x : Machine.State). comes_to s.fuel room t (running x)) reading_is

    -- it is too long
    pub input_long : leb (length c) 200 ≡ false → comes_to s.fuel room t (running (state_of text none [] y s o)) ≡ result_after t y (Err LongInput) (with_input s at (s.line + 1)) o
    unfolding outcome Machine.result_of
    input_long b =
        ap (outcome t) (Steps.input_long s.fuel room t (state_of text none [] y s o) l (lines (drop at text)) refl refl e (measure_is ∙ b))
        ∙ ap (λ (x : Machine.State). outcome t (ended 11 x)) reading_is
