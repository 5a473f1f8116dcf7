-- That the templates of a table are in order holds in one way at most, so a struct may hold it: the order has a template at one place alone.
use mathlib.Core.Path.{◌≡◌, refl, sym, ◌∙◌, ap}
use mathlib.Core.Bool.{Bool, true, false, Bool-set}
use mathlib.Core.List.{List}
use mathlib.Core.HLevel.{×_prop, Σ_prop_path}
use Prim.Native.Nat.{ℕ, zero, suc, ◌-◌, ◌≤◌, ◌<◌}
use native.Mathlib.Omega.{arith}
use native.Mathlib.Nat.{ℕ_set}
use native.Mathlib.Bridge.{le_prop}
use native.Mathlib.Decide.{dec_lt, ℕ_discrete}
use borrow.Author.Tests.{ltb-true, ltb-false}
use lib.Dec.{ltb}
use lib.ListN.{length}
use Rattle.model.specs.Text.{Bytes}
use Rattle.macros.specs.declared.Table.{Table}
use Rattle.macros.specs.Table.{Entries}
use Rattle.templates.specs.Keys.{pick}
use Rattle.templates.specs.Order.{InOrder}

-- numbers below n that differ, each below s: there are no more than s of them. Without one of them the rest are below s - 1
abbrev squeeze : ℕ → ℕ → ℕ
squeeze v x = pick (ltb v x) (x - 1) x

squeeze_lt : (v x s : ℕ) → (x ≡ v → ⊥) → x < suc s → v < suc s → squeeze v x < s
squeeze_lt v x s ne a b = go (ltb v x) refl
  where
    go : (t : Bool) → ltb v x ≡ t → pick t (x - 1) x < s
    go true e = omega (arith, ltb-true v x e)
    go false e = omega (arith, ltb-false v x e)

squeeze_inj : (v x y : ℕ) → (x ≡ v → ⊥) → (y ≡ v → ⊥) → squeeze v x ≡ squeeze v y → x ≡ y
squeeze_inj v x y n m = go (ltb v x) refl (ltb v y) refl
  where
    go : (t : Bool) → ltb v x ≡ t → (u : Bool) → ltb v y ≡ u → pick t (x - 1) x ≡ pick u (y - 1) y → x ≡ y
    go true e true g h = omega (arith, ltb-true v x e, ltb-true v y g)
    go true e false g h = absurd (m (omega (arith, ltb-true v x e, ltb-false v y g)))
    go false e true g h = absurd (n (omega (arith, ltb-false v x e, ltb-true v y g)))
    go false e false g h = h

pub pigeon : (n s : ℕ) (g : ℕ → ℕ) → ((i : ℕ) → i < n → g i < s) → ((i j : ℕ) → i < j → j < n → g i ≡ g j → ⊥) → n ≤ s
pigeon zero s g b d = omega arith
pigeon (suc n) zero g b d = absurd (omega (arith, b n (omega arith)))
pigeon (suc n) (suc s) g b d =
    let ne : (i : ℕ) → i < n → g i ≡ g n → ⊥ = λ i u. d i n u (omega arith) in
    let h = pigeon n s (λ i. squeeze (g n) (g i)) (λ i u. squeeze_lt (g n) (g i) s (ne i u) (b i (omega arith)) (b n (omega arith)))
    (λ i j u v e. d i j u (omega arith) (squeeze_inj (g n) (g i) (g j) (ne i (omega arith)) (ne j v) e)) in
    omega (arith, h)

-- g has each number below n at a place below n
module _ (n : ℕ) (g : ℕ → ℕ) (every : (k : ℕ) → k < n → (i : ℕ) × (i < n) × (g i ≡ k)) where
  -- a place where it has k
  at : ℕ → ℕ
  at k = elim (dec_lt k n) [ yes u ↦ (every k u).0 | no u ↦ 0 ]

  at_is : (k : ℕ) → k < n → (at k < n) × (g (at k) ≡ k)
  unfolding at
  at_is k u = elim (dec_lt k n) as (λ d. let i : ℕ = elim d [ yes u ↦ (every k u).0 | no u ↦ 0 ] in (i < n) × (g i ≡ k)) [ yes v ↦ let (i, a, e) = every k v in (a, e) | no v ↦ absurd (v u) ]

  -- each place is one of these: without it the n numbers would have n - 1 places
  none_left : (v : ℕ) → v < n → ((k : ℕ) → k < n → at k ≡ v → ⊥) → ⊥
  none_left v w f =
      let h = pigeon n (n - 1) (λ k. squeeze v (at k))
      (λ k u. squeeze_lt v (at k) (n - 1) (f k u) (omega (arith, at_is k u)) (omega arith))
      (λ k l u z e. omega (arith, (at_is k (omega arith)).1, (at_is l z).1, ap g (squeeze_inj v (at k) (at l) (f k (omega arith)) (f l z) e))) in
      omega arith

  -- so g has no number at two places, and that it has each holds in one way
  number_of : (k i : ℕ) → k < n → at k ≡ i → k ≡ g i
  number_of k i u q = sym (at_is k u).1 ∙ ap g q

  one_place : (i j : ℕ) → i < n → j < n → g i ≡ g j → i ≡ j
  one_place i j u v e = elim (ℕ_discrete i j) [
    | yes z ↦ z
    | no z ↦ absurd (elim (ℕ_discrete (at (g i)) i) [
      | yes y ↦ none_left j v (λ k w q. z (sym y ∙ ap at (e ∙ sym (number_of k j w q)) ∙ q))
      | no y ↦ none_left i u (λ k w q. y (ap at (sym (number_of k i w q)) ∙ q))
    ])
  ]

  place_prop : (k : ℕ) → IsProp ((i : ℕ) × (i < n) × (g i ≡ k))
  place_prop k a b =
      let flat : (i : ℕ) × ((i < n) × (g i ≡ k)) → (i : ℕ) × (i < n) × (g i ≡ k) = λ (i, h). (i, h.0, h.1) in
      ap flat (Σ_prop_path (λ i. ×_prop le_prop (ℕ_set _ _)) {u = (a.0, (a.1, a.2))} {v = (b.0, (b.1, b.2))} (one_place a.0 b.0 a.1 b.1 (a.2 ∙ sym b.2)))

in_order_prop : (p : ℕ) (ts : List Bytes) (order : ℕ → ℕ) → IsProp (InOrder p ts order)
in_order_prop p ts order a b = λ i. record {
  within = λ j u. le_prop (a.within j u) (b.within j u) i;
  every = λ k u. place_prop (length ts) order a.every k (a.every k u) (b.every k u) i;
  ascending = λ j l u v. Bool-set _ _ (a.ascending j l u v) (b.ascending j l u v) i;
}

entries_prop : (text : Bytes) (t : Table) (n : ℕ) → IsProp (Entries text t n)
entries_prop text t n = hlevel le_prop

pub ordered_prop : {text : Bytes} {t : Table} {n p : ℕ} {ts : List Bytes} {order : ℕ → ℕ} → IsProp (Entries text t n × InOrder p ts order)
ordered_prop {text} {t} {n} {p} {ts} {order} = ×_prop (entries_prop text t n) (in_order_prop p ts order)
