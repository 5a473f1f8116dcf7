-- The answer of fit is the first reading of the line, and so is what a line offered in a run comes to. The theorems: fit_first, offered_first.
use mathlib.Core.Path.{◌≡◌, refl, ap, sym, ◌∙◌, subst}
use mathlib.Core.Bool.{Bool, false, ◌||◌}
use mathlib.Core.Option.{Option, none, some}
use mathlib.Core.List.{List, [], ◌∷◌}
use Prim.Native.Nat.{ℕ, zero, suc, ◌*◌, ◌≤◌, ◌<◌}
use native.Mathlib.Omega.{arith}
use lib.Dec.{leb}
use lib.ListN.{length, get_or}
use borrow.Author.Tests.{le-ltb}
use Rattle.model.specs.declared.Marks.{Marks}
use Rattle.model.specs.declared.Channel.TheVariants as Channel
use Rattle.model.specs.Text.{Bytes, lines}
use Rattle.model.specs.Reading.{Pieces, Reading, chosen}
use Rattle.model.specs.Load.{Macro, no_macro, templates, nodes, Loaded, loaded, load}
use Rattle.model.specs.Machine.{Rooms, State, Next, running, ended, state_with, call, Shared, wrote, passed, pass_through, decided, offered_as, offered, counted, event}
use Rattle.model.specs.Places.{places_taken, bytes_read}
use Rattle.model.specs.Results.{short_row, short_dead, fitted_as, fitted_in, fit_of_line}
use Rattle.model.specs.Fitting.{First}
use Rattle.model.specs.FirstReading.{FitsFirst, OffersFirst}
use Rattle.model.specs.Legal.{MacrosAt}
use Rattle.model.proofs.Choices.{both, when_false}
use Rattle.model.proofs.Loading.{templates-length, loaded_no_call, loaded_chosen}
use Rattle.model.proofs.Input.{load_at}
use Rattle.model.proofs.Places.{few_read, loaded_places}
use Rattle.model.proofs.Steps.{event_pending}

-- ---- fit

-- neither test holds
neither : (a b : Bool) → a ≡ false → b ≡ false → (a || b) ≡ false
neither a b p q = rw (p, q)

-- each macro stands at a line from 1 on
line_positive : (m : Marks) (all : List Bytes) (ms : List Macro) (i : ℕ) → MacrosAt m all ms → i < length ms → 0 < (get_or ms i no_macro).line
line_positive m all [] i h k = absurd (omega arith)
line_positive m all (x ∷ ms) zero h k = h.0.first
line_positive m all (x ∷ ms) (suc i) h k = line_positive m all ms i h.1 (omega arith)

module _ (text : Bytes) (t : Loaded) (loads : load text ≡ loaded t) (line : Bytes) where
  -- without a reading the answer's line is 0, and with one it is the template's
  fitted_first : (o : Option Reading) (k n : ℕ) → chosen t.marks (templates t.macros) line ≡ o → k ≤ nodes t.macros * suc (length line) → n ≤ k * length line
      → FitsFirst t line (fitted_as t o k n)
  unfolding fitted_as
  fitted_first none k n e few read = record {
    done = refl;
    no_call = (λ z. (loaded_no_call text t loads line).0 e, λ h. refl);
    call = λ l. absurd (omega arith);
    few_places = few;
    few_bytes = read;
  }
  fitted_first (some r) k n e few read =
      let f : First t.marks (templates t.macros) line r.which r.pieces = loaded_chosen text t loads line r e in
      let l : 0 < (get_or t.macros r.which no_macro).line =
      line_positive t.marks (lines text) t.macros r.which (load_at text t loads).0 (subst (λ (n : ℕ). r.which < n) (templates-length t.macros) f.reads.place) in
      record {
        done = refl;
        no_call = (λ z. absurd (omega arith), λ h. absurd (h r.which r.pieces f.reads));
        call = λ z. (r.which, r.pieces, f, record { line = refl; start = refl; length = refl });
        few_places = few;
        few_bytes = read;
      }

  -- for legal rows and a line of at most 200 bytes
  pub fit_first : (rows dead : ℕ) → 2048 ≤ rows → 51456 ≤ dead → length line ≤ 200 → FitsFirst t line (fit_of_line rows dead text line)
  unfolding fit_of_line fitted_in short_row short_dead
  fit_first rows dead r d l =
      subst (FitsFirst t line)
      (sym (when_false {q = short_row rows || short_dead dead} _ _ (neither (short_row rows) (short_dead dead) (le-ltb rows 2048 r) (le-ltb dead 51456 d)) ∙ ap (fitted_in line) loads ∙ when_false _ _ (le-ltb 200 (length line) l)))
      (fitted_first (chosen t.marks (templates t.macros) line) (places_taken t.marks (templates t.macros) line)
      (bytes_read t.marks (templates t.macros) line) refl (loaded_places text t loads line) (few_read t.marks (templates t.macros) line))

-- ---- a line offered in a run

-- a call counts one call more, or ends with 14
abbrev IsCall : State → Next → Type 0
IsCall s (running x) = x.calls ≡ suc s.calls
IsCall s (ended k x) = k ≡ 14

-- passing a line through counts none, or ends with 13
abbrev IsPass : State → Next → Type 0
IsPass s (running x) = x.calls ≡ s.calls
IsPass s (ended k x) = k ≡ 13

-- so a call is never what passing through comes to
call_no_pass : (x : Macro) (i : ℕ) (ps : Pieces) (s : State) (room : Rooms) (l : Bytes) → ¬ (call x ps (decided (some i) s) ≡ pass_through room l (decided none s))
unfolding call decided pass_through passed state_with
call_no_pass x i ps s room l e = not_both (pass_through room l (decided none s)) (subst (IsCall s) e is_call) is_pass
  where
    is_call : IsCall s (call x ps (decided (some i) s))
    is_call = both (IsCall s) (leb 12 (length s.frames)) _ _ refl refl

    by : (o : Option Shared) → IsPass s (passed (decided none s) o)
    by none = refl
    by (some w) = refl

    is_pass : IsPass s (pass_through room l (decided none s))
    is_pass = by (wrote room Channel.First l s.shared)

    not_both : (y : Next) → IsCall s y → IsPass s y → ⊥
    not_both (running y) p q = omega arith
    not_both (ended k y) p q = omega arith

module _ (text : Bytes) (t : Loaded) (loads : load text ≡ loaded t) (room : Rooms) (l : Bytes) (s : State) where
  -- without a reading the line is passed through, and with one it is a call of the first
  offered_as_first : (o : Option Reading) → chosen t.marks (templates t.macros) l ≡ o → OffersFirst room t l s (offered_as room t l s o)
  unfolding offered_as
  offered_as_first none e = record {
    passed = (λ z. (loaded_no_call text t loads l).0 e, λ h. refl);
    called = λ z. absurd (z refl);
  }
  offered_as_first (some r) e =
      let f : First t.marks (templates t.macros) l r.which r.pieces = loaded_chosen text t loads l r e in
      record {
        passed = (λ z. absurd (call_no_pass _ r.which r.pieces s room l z), λ h. absurd (h r.which r.pieces f.reads));
        called = λ z. (r.which, r.pieces, f, refl);
      }

-- the event of a state with a pending line
pub offered_first : (text : Bytes) (t : Loaded) → load text ≡ loaded t → (room : Rooms) (s : State) (l : Bytes) → s.pending ≡ some l → OffersFirst room t l (counted s) (event room t s)
unfolding offered
offered_first text t loads room s l e =
    subst (OffersFirst room t l (counted s)) (sym (event_pending room t s l e)) (offered_as_first text t loads room l (counted s) (chosen t.marks (templates t.macros) l) refl)
