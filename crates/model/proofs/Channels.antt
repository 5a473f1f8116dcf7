-- The digit after F1 and F2: 7 leaves 0, 3 and 4 legal (document 02, ticket 4).
-- The theorems: channel_refused, one_malformed, two_malformed.
use mathlib.Core.Path.{◌≡◌, refl, ap, ◌∙◌}
use mathlib.Core.Logic.{◌↔◌}
use mathlib.Core.Bool.{true, false, not, ◌||◌}
use mathlib.Core.Option.{Option, none, some}
use mathlib.Core.List.{◌∷◌}
use Prim.Native.Nat.{ℕ}
use native.Mathlib.Omega.{arith}
use borrow.Author.Tests.{eqb-false, eq-eqb, ne_eqb, not-false}
use lib.Dec.{eqb}
use Rattle.model.specs.declared.Marks.{Marks}
use Rattle.model.specs.declared.Channel.{Channel}
use Rattle.model.specs.declared.Channel.TheVariants.{Nowhere, First, Second}
use Rattle.model.specs.declared.Effect.TheVariants.{Malformed}
use Rattle.model.specs.Text.{Bytes, is_digit}
use Rattle.model.specs.Code.{channel_of, OtherDigit, Code, ends, part, onto, only, writing, copying, line_function, function, form, parse, effect_of, effect}
use Rattle.model.proofs.Choices.{when_true, split, or_false}

-- no channel exactly where such a digit follows
pub channel_refused : (x : ℕ) (s : Bytes) → channel_of (x ∷ s) ≡ none ↔ OtherDigit x
unfolding channel_of
channel_refused x s = (there, back)
  where
    differ : {A : Type 0} (ch : Channel) → ◌≡◌ {A = Option Channel} (some ch) none → A
    differ ch e = let z : ◌≡◌ {A = ℕ} 0 1 = cc in absurd (omega arith)

    there : channel_of (x ∷ s) ≡ none → OtherDigit x
    there = split (λ (o : Option Channel). o ≡ none → OtherDigit x) (eqb x 48) _ _ (λ _ e. differ Nowhere e) (λ p.
        split (λ (o : Option Channel). o ≡ none → OtherDigit x) (eqb x 52) _ _ (λ _ e. differ Second e) (λ q.
        split (λ (o : Option Channel). o ≡ none → OtherDigit x) (eqb x 51 || not (is_digit x)) _ none (λ _ e. differ First e) (λ r _.
        let k = or_false (eqb x 51) (not (is_digit x)) r in (not-false (is_digit x) k.1, eqb-false x 48 p, eqb-false x 51 k.0, eqb-false x 52 q))))

    back : OtherDigit x → channel_of (x ∷ s) ≡ none
    back h = rw (ne_eqb x 48 h.1, ne_eqb x 52 h.3, ne_eqb x 51 h.2, h.0, channel_of) refl

-- what an escape at a line's start says
escaped : (m : Marks) (a b : ℕ) (s : Bytes) → parse m true (m.escape ∷ a ∷ b ∷ s) ≡ elim (form m true a b s) [ ends k ↦ only k | part p ↦ onto p (parse m false s) ]
unfolding parse
escaped m a b s = when_true _ _ (eq-eqb m.escape m.escape refl)

-- and there F1 and F2 are malformed
pub one_malformed : (m : Marks) (x : ℕ) (s : Bytes) → OtherDigit x → effect m (m.escape ∷ 70 ∷ 49 ∷ x ∷ s) ≡ Malformed
unfolding effect effect_of form function writing only
one_malformed m x s h = ap (λ (c : Code). effect_of c.ending) (escaped m 70 49 (x ∷ s)) ∙ rw ((channel_refused x s).1 h, writing) refl

pub two_malformed : (m : Marks) (x : ℕ) (s : Bytes) → OtherDigit x → effect m (m.escape ∷ 70 ∷ 50 ∷ x ∷ s) ≡ Malformed
unfolding effect effect_of form function line_function copying only
two_malformed m x s h = ap (λ (c : Code). effect_of c.ending) (escaped m 70 50 (x ∷ s)) ∙ rw ((channel_refused x s).1 h, copying) refl
