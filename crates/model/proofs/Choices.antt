-- What a test decides: the two truth values differ, a definition that goes by a test, and two tests together.
use mathlib.Core.Path.{◌≡◌, refl, sym, subst}
use mathlib.Core.Bool.{Bool, true, false, ◌&&◌, ◌||◌}
use Prim.Native.Nat.{ℕ}
use native.Mathlib.Omega.{arith}

-- the two truth values differ
pub false-not-true : {A : Type 0} → false ≡ true → A
false-not-true e = let z : ◌≡◌ {A = ℕ} 0 1 = cc in absurd (omega arith)

-- ---- a definition by `elim (test) [ true ↦ x | false ↦ y ]`

-- where the test is known
pub when_true : {A : Type 0} {q : Bool} (x y : A) → q ≡ true → elim q as (λ _. A) [ true ↦ x | false ↦ y ] ≡ x
when_true {A} x y e = subst (λ (b : Bool). elim b as (λ _. A) [ true ↦ x | false ↦ y ] ≡ x) (sym e) refl

pub when_false : {A : Type 0} {q : Bool} (x y : A) → q ≡ false → elim q as (λ _. A) [ true ↦ x | false ↦ y ] ≡ y
when_false {A} x y e = subst (λ (b : Bool). elim b as (λ _. A) [ true ↦ x | false ↦ y ] ≡ y) (sym e) refl

-- a property of both branches. Write the test; the branches are found
pub both {ℓ κ} : {A : Type ℓ} (P : A → Type κ) (b : Bool) (x y : A) → P x → P y → P (elim b as (λ c. A) [ true ↦ x | false ↦ y ])
both P true x y p q = p
both P false x y p q = q

-- as `both`, each branch with its test's answer
pub split {ℓ κ} : {A : Type ℓ} (P : A → Type κ) (b : Bool) (x y : A) → (b ≡ true → P x) → (b ≡ false → P y) → P (elim b as (λ c. A) [ true ↦ x | false ↦ y ])
split P true x y p q = p refl
split P false x y p q = q refl

-- ---- two tests

-- both tests hold: the first
pub and_left : (a b : Bool) → (a && b) ≡ true → a ≡ true
and_left true b e = refl
and_left false b e = e

-- both tests hold: the second
pub and_right : (a b : Bool) → (a && b) ≡ true → b ≡ true
and_right true b e = e
and_right false b e = false-not-true e

-- two tests that hold
pub and_both : (a b : Bool) → a ≡ true → b ≡ true → (a && b) ≡ true
and_both a b p q = rw (p, q)

-- neither of two tests holds
pub or_false : (a b : Bool) → (a || b) ≡ false → (a ≡ false) × (b ≡ false)
or_false true b e = (e, false-not-true (sym e))
or_false false b e = (refl, e)
