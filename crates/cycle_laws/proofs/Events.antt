-- Laws of the expansion where a line is to be offered: one for each way that this can go, from the states that the code stands for.
use mathlib.Core.Path.{◌≡◌, refl, sym, ap, ◌∙◌}
use mathlib.Core.Bool.{true, false}
use mathlib.Core.Option.{Option, none, some}
use mathlib.Core.List.{List, ◌∷◌}
use Rattle.std.specs.Prelude.{Err}
use Rattle.faults.specs.declared.RunFault.TheVariants.{NoFuel, DeepCall}
use Prim.Native.Nat.{ℕ, suc, ◌+◌, ◌-◌, ◌<◌}
use native.Mathlib.Numerals.{add-one}
use native.Mathlib.Omega.{arith}
use lib.Dec.{leb}
use lib.ListN.{length, get_or}
use Rattle.model.specs.declared.Marks.{Marks}
use Rattle.model.specs.Text.{Bytes}
use Rattle.model.specs.Reading.{Reading, chosen}
use Rattle.model.specs.Load.{templates, Loaded, no_macro}
use Rattle.model.specs.Report.{Tally, tallied}
use Rattle.model.specs.Machine as Machine
use Rattle.model.specs.Machine.{Rooms, Outputs, Frame, Next, running, call, pass_through, decided, offered_as, offered, outcome}
use Rattle.model.proofs.Fuel.{after_ended}
use Rattle.model.proofs.Steps as Steps
use Rattle.model.proofs.Choices.{when_true, when_false}
use Rattle.state.specs.declared.State.{State}
use Rattle.state.specs.State.{state_of, counted_event, with_call}
use Rattle.matching.specs.Matches.{opened}
use Rattle.answer.specs.Answers.{comes_to, result_after}
use Rattle.carry.proofs.Events.{counted_is}

-- an event is counted, and n calls are opened so far
abbrev pub event_with : ℕ → State → State
event_with n s = record s { calls = n; events = s.events + 1; fuel = s.fuel - 1 }

module _ (room : Rooms) (m : Marks) (text : Bytes) (t : Loaded) (y : Tally) (s : State) (o : Outputs) where
  -- no fuel is left where a line is to be offered
  pub offer_spent : s.fuel ≡ 0 → (l : Bytes) (fs : List Frame) → comes_to s.fuel room t (running (state_of text (some l) fs y s o)) ≡ result_after t y (Err NoFuel) s o
  unfolding outcome Machine.result_of
  offer_spent spent l fs =
      ap (λ (n : ℕ). comes_to n room t (running (state_of text (some l) fs y s o))) spent
      ∙ ap (outcome t) (Steps.offer_spent room t (state_of text (some l) fs y s o) l refl)

  module _ (marks : t.marks ≡ m) (some_fuel : 0 < s.fuel) where
    one_more : s.fuel ≡ suc (s.fuel - 1)
    one_more = omega arith

    -- a line is offered
    pub offers-line : (l : Bytes) (fs : List Frame) → comes_to s.fuel room t (running (state_of text (some l) fs y s o))
        ≡ comes_to (s.fuel - 1) room t (offered_as room t l (state_of text none fs y (counted_event s) o) (chosen m (templates t.macros) l))
    unfolding offered
    offers-line l fs =
        ap (λ (n : ℕ). comes_to n room t (running (state_of text (some l) fs y s o))) one_more
        ∙ ap (outcome t) (Steps.offer_step (s.fuel - 1) room t (state_of text (some l) fs y s o) l refl)
        ∙ ap (λ (x : Machine.State). comes_to (s.fuel - 1) room t (offered room t l x)) (counted_is text y s o (some l) fs)
        ∙ ap (λ (x : Marks). comes_to (s.fuel - 1) room t (offered_as room t l (state_of text none fs y (counted_event s) o) (chosen x (templates t.macros) l))) marks

    -- it has no reading
    pub no_call : (l : Bytes) (fs : List Frame) → chosen m (templates t.macros) l ≡ none
        → comes_to s.fuel room t (running (state_of text (some l) fs y s o)) ≡ comes_to (s.fuel - 1) room t (pass_through room l (state_of text none fs (tallied none y) (counted_event s) o))
    unfolding offered_as decided
    no_call l fs e = offers-line l fs ∙ ap (λ (r : Option Reading). comes_to (s.fuel - 1) room t (offered_as room t l (state_of text none fs y (counted_event s) o) r)) e

    module _ (l : Bytes) (fs : List Frame) (r : Reading) (e : chosen m (templates t.macros) l ≡ some r) where
      opens_call : comes_to s.fuel room t (running (state_of text (some l) fs y s o))
          ≡ comes_to (s.fuel - 1) room t (call (get_or t.macros r.which no_macro) r.pieces (state_of text none fs (tallied (some r.which) y) (counted_event s) o))
      unfolding offered_as decided
      opens_call = offers-line l fs ∙ ap (λ (r : Option Reading). comes_to (s.fuel - 1) room t (offered_as room t l (state_of text none fs y (counted_event s) o) r)) e

      -- a thirteenth call
      pub too_deep : leb 12 (length fs) ≡ true → comes_to s.fuel room t (running (state_of text (some l) fs y s o)) ≡ result_after t (tallied (some r.which) y) (Err DeepCall) (counted_event s) o
      unfolding call outcome Machine.result_of
      too_deep b = opens_call ∙ ap (λ (x : Next). comes_to (s.fuel - 1) room t x) (when_true _ _ b) ∙ ap (outcome t) (after_ended (s.fuel - 1) room t 14 (state_of text none fs (tallied (some r.which) y) (counted_event s) o))

      -- a call is opened
      pub enters : leb 12 (length fs) ≡ false → comes_to s.fuel room t (running (state_of text (some l) fs y s o))
          ≡ comes_to (s.fuel - 1) room t (running (state_of text none (opened (s.calls + 1) (get_or t.macros r.which no_macro) r.pieces ∷ fs) (tallied (some r.which) y) (with_call (counted_event s)) o))
      unfolding call opened
      enters b = opens_call ∙ ap (λ (x : Next). comes_to (s.fuel - 1) room t x)
          (when_false _ _ b
          ∙ ap (λ (n : ℕ). running (state_of text none (opened n (get_or t.macros r.which no_macro) r.pieces ∷ fs) (tallied (some r.which) y) (event_with n s) o)) (sym (add-one s.calls)))
