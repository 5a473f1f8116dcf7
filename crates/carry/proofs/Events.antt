-- Laws of the expansion where a call is to go on: one for each way that this can go, from the states that the code stands for.
use mathlib.Core.Path.{◌≡◌, refl, sym, ap, ◌∙◌}
use mathlib.Core.Bool.{true}
use mathlib.Core.Option.{Option, none}
use Rattle.std.specs.Prelude.{Err}
use Rattle.faults.specs.declared.RunFault.TheVariants.{NoFuel}
use mathlib.Core.List.{List, [], ◌∷◌}
use Prim.Native.Nat.{ℕ, suc, ◌-◌, ◌<◌}
use native.Mathlib.Numerals.{add-one}
use native.Mathlib.Omega.{arith}
use lib.ListN.{drop}
use Rattle.model.specs.declared.Marks.{Marks}
use Rattle.model.specs.Text.{Bytes, lines}
use Rattle.model.specs.Code.{parse}
use Rattle.model.specs.Load.{Loaded}
use Rattle.model.specs.Report.{Tally}
use Rattle.model.specs.Machine as Machine
use Rattle.model.specs.Machine.{Frame, resume_at, carry_out, running, state_with, stepped, outcome, Outputs, Rooms}
use Rattle.model.proofs.Steps as Steps
use Rattle.state.specs.declared.State.{State}
use Rattle.state.specs.State.{shared_of, state_of, counted_event}
use Rattle.answer.specs.Answers.{comes_to, result_after}

module _ (text : Bytes) (y : Tally) (s : State) (o : Outputs) where
  -- an event is counted
  pub counted_is : (pending : Option Bytes) (fs : List Frame) → Machine.counted (state_of text pending fs y s o) ≡ state_of text none fs y (counted_event s) o
  unfolding Machine.counted
  counted_is pending fs =
      ap (λ (n : ℕ). record { input = lines (drop s.at text); line = s.line; pending = none; frames = fs; calls = s.calls; shared = shared_of s o; events = n; tally = y }) (sym (add-one s.events))

  module _ (room : Rooms) (t : Loaded) (f : Frame) (fs : List Frame) where
    -- a finished call closes
    pub closes : f.next ≡ [] → comes_to s.fuel room t (running (state_of text none (f ∷ fs) y s o)) ≡ comes_to s.fuel room t (running (state_of text none fs y s o))
    unfolding state_with
    closes e = ap (outcome t) (Steps.close_step s.fuel room t (state_of text none (f ∷ fs) y s o) f fs refl refl e)

    module _ (c : Bytes) (cs : List Bytes) (e : f.next ≡ c ∷ cs) where
      -- no fuel is left where a code line is to begin
      pub code_spent : s.fuel ≡ 0 → comes_to s.fuel room t (running (state_of text none (f ∷ fs) y s o)) ≡ result_after t y (Err NoFuel) s o
      unfolding outcome Machine.result_of
      code_spent spent =
          ap (λ (n : ℕ). comes_to n room t (running (state_of text none (f ∷ fs) y s o))) spent
          ∙ ap (outcome t) (Steps.code_spent room t (state_of text none (f ∷ fs) y s o) f fs c cs refl refl e)

      -- a code line is begun
      pub begins : (m : Marks) → t.marks ≡ m → 0 < s.fuel → comes_to s.fuel room t (running (state_of text none (f ∷ fs) y s o))
          ≡ comes_to (s.fuel - 1) room t (stepped m fs (carry_out room m (parse m true c) (resume_at f f.loops cs) (shared_of s o)) (state_of text none (f ∷ fs) y (counted_event s) o))
      begins m marks some_fuel =
          let one_more : s.fuel ≡ suc (s.fuel - 1) = omega arith in
          ap (λ (n : ℕ). comes_to n room t (running (state_of text none (f ∷ fs) y s o))) one_more
          ∙ ap (outcome t) (Steps.code_step (s.fuel - 1) room t (state_of text none (f ∷ fs) y s o) f fs c cs refl refl e)
          ∙ ap (λ (x : Machine.State). comes_to (s.fuel - 1) room t (stepped t.marks fs (carry_out room t.marks (parse t.marks true c) (resume_at f f.loops cs) (shared_of s o)) x)) (counted_is none (f ∷ fs))
          ∙ ap (λ (x : Marks). comes_to (s.fuel - 1) room t (stepped x fs (carry_out room x (parse x true c) (resume_at f f.loops cs) (shared_of s o)) (state_of text none (f ∷ fs) y (counted_event s) o))) marks
