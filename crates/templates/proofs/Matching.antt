-- The loop of `match_both`: how much two templates have in common.
use mathlib.Core.Path.{◌≡◌, refl, sym, ◌∙◌}
use mathlib.Core.List.{◌∷◌}
use mathlib.Core.Logic.{⊎_elim}
use Prim.Native.Nat.{ℕ, suc, ◌+◌, ◌≤◌, ◌<◌, min}
use native.Mathlib.Numerals.{add-one}
use lib.Seq.{drop-cons}
use Rattle.templates.proofs.Keys.{lt_or}
use native.Mathlib.Omega.{arith}
use borrow.Author.Tests.{eq-eqb, ne_eqb}
use lib.ListN.{length, get_or, drop, drop_of_length-le}
use Rattle.model.specs.Text.{Bytes}
use Rattle.templates.specs.Count.{common}

-- the first elements are the same, or differ
pub common-same : (x y : ℕ) (s t : Bytes) → x ≡ y → common (x ∷ s) (y ∷ t) ≡ suc (common s t)
unfolding common
common-same x y s t e = rw (eq-eqb x y e, common) refl

pub common_other : (x y : ℕ) (s t : Bytes) → (x ≡ y → ⊥) → common (x ∷ s) (y ∷ t) ≡ 0
unfolding common
common_other x y s t e = rw (ne_eqb x y e, common) refl

-- the first x elements of s and t are the same
pub record Matching (s t : Bytes) (x : ℕ) : Type 0 where
  pub in_s : x ≤ length s
  pub in_t : x ≤ length t
  pub rest : common s t ≡ x + common (drop x s) (drop x t)

module _ (s t : Bytes) (x : ℕ) (m : Matching s t x) where
  module _ (u : x < length s) (v : x < length t) where
    -- they differ here
    pub match_differ : (get_or s x 0 ≡ get_or t x 0 → ⊥) → x ≡ common s t
    match_differ ne = sym (m.rest ∙ rw (drop-cons s x 0 u, drop-cons t x 0 v, common_other _ _ (drop (suc x) s) (drop (suc x) t) ne) (omega arith))

    pub match_more : get_or s x 0 ≡ get_or t x 0 → Matching s t (x + 1)
    match_more e = record {
      in_s = omega arith;
      in_t = omega arith;
      rest = m.rest ∙ rw (drop-cons s x 0 u, drop-cons t x 0 v, common-same _ _ (drop (suc x) s) (drop (suc x) t) e, add-one x) (omega arith);
    }

  -- both end here
  pub match_all : length s ≤ x → length t ≤ x → x + 1 ≡ common s t
  unfolding common
  match_all u v = sym (m.rest ∙ rw (drop_of_length-le s u, drop_of_length-le t v) refl)

  -- one of them does
  pub match_short : x < length s → length t ≤ x → x ≡ common s t
  unfolding common
  match_short u v = sym (m.rest ∙ rw (drop-cons s x 0 u, drop_of_length-le t v) (omega arith))

  pub match_longer : length s ≤ x → x < length t → x ≡ common s t
  unfolding common
  match_longer u v = sym (m.rest ∙ rw (drop_of_length-le s u, drop-cons t x 0 v) (omega arith))

  pub match_one : min (length s) (length t) ≤ x → ¬ (length s ≡ length t) → x ≡ common s t
  match_one u f = ⊎_elim (λ v. match_short v (omega arith)) (λ v. match_longer v (omega arith)) (lt_or x (length s))
