-- The tree has a node for each new beginning: the count is exact.
use mathlib.Core.Path.{◌≡◌, sym, ◌∙◌, ap, subst}
use mathlib.Core.List.{List}
use mathlib.Core.Logic.{◌⊎◌, inl, inr, ⊎_elim}
use Prim.Native.Nat.{ℕ, zero, suc, ◌+◌, ◌-◌, ◌≤◌, ◌<◌}
use native.Mathlib.Omega.{arith}
use lib.ListN.{length}
use Rattle.nodes.specs.declared.Node.{Node}
use Rattle.nodes.specs.Rows.{elem, template_of, height}
use Rattle.templates.specs.Count.{sum}
use Rattle.templates.specs.Keys.{Share}
use Rattle.tree.specs.Nodes.{columns, Half}
use Rattle.templates.specs.Unique.{pigeon}
use Rattle.templates.proofs.Keys.{lt_or, share_more, share_sym}
use Rattle.tree.proofs.Room.{Known}

-- the template and the place of each new beginning
locate : (len old : ℕ → ℕ) (n r : ℕ) → r < sum (λ k. suc (len k) - old k) n
    → (t : ℕ) × (t < n) × (x : ℕ) × (old t ≤ x) × (x ≤ len t) × (sum (λ k. suc (len k) - old k) t + (x - old t) ≡ r)
unfolding sum
locate len old zero r u = absurd (omega arith)
locate len old (suc n) r u =
    ⊎_elim (λ a. let w = locate len old n r a in (w.0, omega (arith, w.1), w.2, w.3, w.4, w.5))
    (λ a. (n, omega arith, old n + (r - sum (λ k. suc (len k) - old k) n), omega arith, omega arith, omega arith))
    (lt_or r (sum (λ k. suc (len k) - old k) n))

module _ (f : ℕ → ℕ → ℕ) (len : ℕ → ℕ) (n : ℕ) (rows : List Node) (half : Half f len n (columns rows) (length rows) (length rows) (length rows) 0) (ends : (k x : ℕ) → f k x ≡ 256 → len k ≤ x) where
  -- an end is the end of its template
  pub at-end : (j : ℕ) → 0 < j → j < length rows → elem rows j ≡ 256 → f (template_of rows j) (200 - height rows j) ≡ 256
  at-end j z u e = sym (half.node j z u).element ∙ e

  -- a node whose beginning the template t has is no end, while t goes on
  pub goes_on : (j t : ℕ) → j < length rows → Share f t (template_of rows j) (201 - height rows j) → 201 - height rows j < suc (len t) → ¬ (elem rows j ≡ 256)
  goes_on zero t u s lt e = omega (arith, half.root.2)
  goes_on (suc j) t u s lt e =
      let x = half.node (suc j) (omega arith) u in
      omega (arith, x.deep, ends t (200 - height rows (suc j)) (s (200 - height rows (suc j)) (omega (arith, x.deep)) ∙ at-end (suc j) (omega arith) u e))

module _ (f : ℕ → ℕ → ℕ) (len old : ℕ → ℕ) (n : ℕ) (known : Known f len old n) (rows : List Node) (half : Half f len n (columns rows) (length rows) (length rows) (length rows) 0)
    (bounded : (k x : ℕ) → f k x < 258) (ends : (k x : ℕ) → f k x ≡ 256 → len k ≤ x) where
  -- each beginning of a template has a node
  node_for : (t d : ℕ) → t < n → d ≤ suc (len t) → (j : ℕ) × (j < length rows) × (201 - height rows j ≡ d) × Share f (template_of rows j) t d
  node_for t zero u le = (0, half.some_node, omega (arith, half.root.1), λ x v. absurd (omega arith))
  node_for t (suc d) u le =
      let (j, v, z, s) = node_for t d u (omega arith) in
      let s' : Share f (template_of rows j) t (201 - height rows j) = λ x w. s x (omega (arith, z)) in
      let h = half.done j v in
      let r = h.run (goes_on f len n rows half ends j t v (λ x w. sym (s' x w)) (omega (arith, z))) in
      let (m, lo, hi, e) = r.full t u (λ x w. sym (s' x w)) (bounded t (201 - height rows j)) in
      let k = r.kid m lo hi in
      let e' : f (template_of rows m) d ≡ f t d = subst (λ (y : ℕ). f (template_of rows m) y ≡ f t y) z e in (
        m,
        omega (arith, hi, h.in_row),
        omega (arith, k.1, z, (half.node m (omega (arith, lo, h.after)) (omega (arith, hi, h.in_row))).deep),
        λ x w. share_more f (template_of rows m) t d (λ y a. k.0 y (omega (arith, z)) ∙ s y a) e' x (omega arith),
      )

  abbrev new : ℕ → ℕ
  new k = suc (len k) - old k

  -- each new beginning has its own
  ranked : (r : ℕ) → r < sum new n → (j : ℕ) × (0 < j) × (j < length rows) × (sum new (template_of rows j) + (200 - height rows j - old (template_of rows j)) ≡ r)
  ranked r u =
      let (t, a, x, lo, hi, q) = locate len old n r u in
      let (j, v, z, s) = node_for t (suc x) a (omega arith) in
      let p : 0 < j = positive j z in
      let w = half.node j p v in
      let same : template_of rows j ≡ t = ⊎_elim (λ y. absurd (omega (arith, known.upper t (template_of rows j) (suc x) a y (omega arith) (share_sym f (template_of rows j) t (suc x) s))))
      (λ y. ⊎_elim (λ c. absurd (w.first t c (λ i k. sym (s i (omega (arith, z)))))) (λ c. omega arith) (lt_or t (template_of rows j))) (lt_or (template_of rows j) t) in
      let d : 200 - height rows j ≡ x = omega (arith, z) in
      (j, p, v, subst (λ (m : ℕ). sum new m + (200 - height rows j - old m) ≡ r) (sym same) (ap (λ (y : ℕ). sum new t + (y - old t)) d ∙ q))
    where
      positive : (j : ℕ) {x : ℕ} → 201 - height rows j ≡ suc x → 0 < j
      positive zero z = absurd (omega (arith, z, half.root.1))
      positive (suc j) z = omega arith

  -- its place, where there is one
  place : (r : ℕ) → (r < sum new n) ⊎ (sum new n ≤ r) → ℕ
  place r (inl u) = (ranked r u).0 - 1
  place r (inr u) = 0

  place_node : (r : ℕ) (s : (r < sum new n) ⊎ (sum new n ≤ r)) → r < sum new n
      → (place r s + 1 < length rows) × (sum new (template_of rows (place r s + 1)) + (200 - height rows (place r s + 1) - old (template_of rows (place r s + 1))) ≡ r)
  unfolding place
  place_node r (inl u) v =
      let w = ranked r u in
      let z : w.0 - 1 + 1 ≡ w.0 = omega (arith, w.1) in
      subst (λ (j : ℕ). (j < length rows) × (sum new (template_of rows j) + (200 - height rows j - old (template_of rows j)) ≡ r)) (sym z) (w.2, w.3)
  place_node r (inr u) v = absurd (omega arith)

  pub at_least : suc (sum (λ k. suc (len k) - old k) n) ≤ length rows
  at_least =
      let g : ℕ → ℕ = λ r. place r (lt_or r (sum new n)) in
      let p = pigeon (sum new n) (length rows - 1) g
      (λ r u. omega (arith, (place_node r (lt_or r (sum new n)) u).0))
      (λ r s u v e. let a = (place_node r (lt_or r (sum new n)) (omega arith)).1 in let b = (place_node s (lt_or s (sum new n)) v).1 in
      omega (arith, a, b, ap (λ (j : ℕ). sum new (template_of rows (j + 1)) + (200 - height rows (j + 1) - old (template_of rows (j + 1)))) e)) in
      omega (arith, p, half.some_node)
