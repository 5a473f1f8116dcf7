-- Numbers that are all different and below a bound are no more than the bound. The law: few_different.
use mathlib.Core.Path.{◌≡◌, refl, sym, ◌∙◌, subst}
use mathlib.Core.Bool.{Bool, true, false}
use mathlib.Core.List.{List, [], ◌∷◌}
use mathlib.Core.Logic.{◌⊎◌, inl, inr, ⊎_elim}
use Prim.Native.Nat.{ℕ, zero, suc, ◌≤◌, ◌<◌}
use native.Mathlib.Omega.{arith}
use lib.Dec.{eqb}
use lib.ListN.{length}
use borrow.Author.Tests.{eq-eqb, ne_eqb}
use Rattle.model.specs.Text.{has}
use Rattle.model.proofs.Chosen.{Tested, alike, apart, tested}
use Rattle.model.proofs.Choices.{false-not-true}
use Rattle.model.proofs.Text.{has_more}

-- each number is there once
unfoldable pub Different : List ℕ → Type 0
Different [] = Unit {0}
Different (x ∷ xs) = (has x xs ≡ false) × Different xs

-- without the first k
without : ℕ → List ℕ → List ℕ
without k [] = []
without k (x ∷ xs) = elim (eqb x k) [ true ↦ xs | false ↦ x ∷ without k xs ]

-- a number among some is the first or among the others
pub has_first_or : (y x : ℕ) (xs : List ℕ) → has y (x ∷ xs) ≡ true → (x ≡ y) ⊎ (has y xs ≡ true)
unfolding has
has_first_or y x xs e = by (eqb x y) (tested x y) e
  where
    by : (t : Bool) → Tested x y t → ◌≡◌ {A = Bool} (elim t [ true ↦ true | false ↦ has y xs ]) true → (x ≡ y) ⊎ (has y xs ≡ true)
    by true (alike a) h = inl a
    by false (apart a) h = inr h

-- the first is among them
pub has-head : (x : ℕ) (xs : List ℕ) → has x (x ∷ xs) ≡ true
unfolding has
has-head x xs = rw (eq-eqb x x refl, has) refl

-- what is left is one shorter at most, all different, and has no k
record Less (k : ℕ) (xs ys : List ℕ) : Type 0 where
  long : length xs ≤ suc (length ys)
  diff : Different ys
  old : (y : ℕ) → has y ys ≡ true → has y xs ≡ true
  gone : has k ys ≡ false

-- without k
less_by : (k : ℕ) (xs : List ℕ) → Different xs → Less k xs (without k xs)
unfolding Different without has
less_by k [] d = record { long = omega arith; diff = tt; old = λ y e. e; gone = refl }
less_by k (x ∷ xs) d = by (eqb x k) (tested x k) (less_by k xs d.1)
  where
    not_old : (w : List ℕ) → ((y : ℕ) → has y w ≡ true → has y xs ≡ true) → (b : Bool) → has x w ≡ b → has x w ≡ false
    not_old w o true e = false-not-true (sym d.0 ∙ o x e)
    not_old w o false e = e

    by : (t : Bool) → Tested x k t → Less k xs (without k xs) → Less k (x ∷ xs) (elim t [ true ↦ xs | false ↦ x ∷ without k xs ])
    by true (alike a) h = record { long = omega arith; diff = d.1; old = λ y e. has_more y x xs e; gone = subst (λ (k : ℕ). has k xs ≡ false) a d.0 }
    by false (apart a) h = record {
      long = omega (arith, h.long);
      diff = (not_old (without k xs) h.old (has x (without k xs)) refl, h.diff);
      old = λ y e. ⊎_elim (λ z. subst (λ (y : ℕ). has y (x ∷ xs) ≡ true) z (has-head x xs)) (λ z. has_more y x xs (h.old y z)) (has_first_or y x (without k xs) e);
      gone = rw (ne_eqb x k a, has) h.gone;
    }

-- different numbers below M are M at most
pub few_different : (M : ℕ) (xs : List ℕ) → ((x : ℕ) → has x xs ≡ true → x < M) → Different xs → length xs ≤ M
few_different zero [] h d = omega arith
few_different zero (x ∷ xs) h d = absurd (omega (arith, h x (has-head x xs)))
few_different (suc M) xs h d =
    let l = less_by M xs d in
    let w = few_different M (without M xs) (λ x e. below x (eqb x M) (tested x M) e (h x (l.old x e)) l.gone) l.diff in
    omega (arith, l.long, w)
  where
    below : (x : ℕ) (t : Bool) → Tested x M t → has x (without M xs) ≡ true → x < suc M → has M (without M xs) ≡ false → x < M
    below x true (alike a) e lt g = false-not-true (sym g ∙ subst (λ (x : ℕ). has x (without M xs) ≡ true) a e)
    below x false (apart a) e lt g = omega (arith, a, lt)
