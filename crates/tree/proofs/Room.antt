-- A tree that is being built has no more nodes than its templates have beginnings, and the root: each node has its own.
use mathlib.Core.Path.{◌≡◌, refl, sym, ◌∙◌, ap}
use mathlib.Core.Logic.{⊎_elim}
use Prim.Native.Nat.{ℕ, zero, suc, ◌+◌, ◌-◌, ◌≤◌, ◌<◌}
use native.Mathlib.Omega.{arith}
use native.Mathlib.Nat.{eq-or-lt_of_le}
use lib.Dec.{eqb}
use borrow.Author.Tests.{eq-eqb, ne_eqb}
use Rattle.templates.specs.Count.{sum}
use Rattle.templates.specs.Keys.{pick, Share, one}
use Rattle.tree.specs.Nodes.{Columns, IsNode, Half}
use Rattle.templates.specs.Unique.{pigeon}
use Rattle.templates.proofs.Keys.{lt_or}
use Rattle.tree.proofs.Nodes.{Next, Agree, carry, append}

-- how many of its first elements a template has in common with an earlier one
pub record Known (f : ℕ → ℕ → ℕ) (len old : ℕ → ℕ) (n : ℕ) : Type 0 where
  pub upper : (k l x : ℕ) → k < n → l < k → x ≤ suc (len k) → Share f k l x → x ≤ old k
  pub reached : (k : ℕ) → k < n → 0 < old k → (l : ℕ) × (l < k) × Share f k l (old k)

module _ (f : ℕ → ℕ → ℕ) (len old : ℕ → ℕ) (n : ℕ) (known : Known f len old n) where
  -- how many beginnings of a template are new
  abbrev new : ℕ → ℕ
  new k = suc (len k) - old k

  sum_step : (m : ℕ) → sum new (suc m) ≡ sum new m + new m
  unfolding sum
  sum_step m = refl

  sum_mono : (l m : ℕ) → l ≤ m → sum new l ≤ sum new m
  sum_mono l zero le = let z : l ≡ 0 = omega arith in rw z (omega arith)
  sum_mono l (suc m) le = ⊎_elim (λ q. rw q (omega arith)) (λ q. omega (arith, sum_mono l m (omega arith), sum_step m)) (eq-or-lt_of_le le)

  -- the place of a node's beginning among the new ones
  rank : ℕ → ℕ → ℕ
  rank t h = sum new t + (200 - h - old t)

  -- a node's beginning is new
  node_new : (t h e o : ℕ) → IsNode f len n t h e o → old t ≤ 200 - h
  node_new t h e o x =
      ⊎_elim (λ u. absurd (let (l, v, s) = known.reached t x.known (omega arith) in x.first l v (λ y w. sym (s y (omega (arith, x.deep)))))) (λ u. u) (lt_or (200 - h) (old t))

  rank_below : (t h e o : ℕ) → IsNode f len n t h e o → rank t h < sum new (suc t)
  unfolding rank
  rank_below t h e o x = omega (arith, sum_step t, node_new t h e o x, x.live)

  rank-apart : (t h e o t' h' e' o' : ℕ) → IsNode f len n t h e o → IsNode f len n t' h' e' o' → rank t h ≡ rank t' h' → (t ≡ t') × (h ≡ h')
  unfolding rank
  rank-apart t h e o t' h' e' o' x y r =
      let b = rank_below t h e o x in
      let b' = rank_below t' h' e' o' y in
      let q : t ≡ t' = ⊎_elim (λ u. absurd (omega (arith, sum_mono (suc t) t' u))) (λ u. ⊎_elim (λ v. absurd (omega (arith, sum_mono (suc t') t v))) (λ v. omega arith) (lt_or t' t)) (lt_or t t') in
      (q, omega (arith, ap (sum new) q, ap old q, node_new t h e o x, node_new t' h' e' o' y, x.deep, y.deep))

  -- no more nodes than new beginnings, and the root
  pub bound : (N : Columns) (i c F low : ℕ) → Half f len n N i c F low → c ≤ suc (sum (λ k. suc (len k) - old k) n)
  bound N i zero F low h = omega arith
  bound N i (suc c) F low h =
      let p = pigeon c (sum new n) (λ x. rank (N.template (suc x)) (N.height (suc x)))
      (λ x u. let w = h.node (suc x) (omega arith) (omega arith) in omega (arith, rank_below _ _ _ _ w, sum_mono (suc (N.template (suc x))) n w.known))
      (λ x y u v r. let q = rank-apart _ _ _ _ _ _ _ _ (h.node (suc x) (omega arith) (omega arith)) (h.node (suc y) (omega arith) (omega arith)) r
      in h.distinct (suc x) (suc y) (omega arith) (omega arith) q.0 q.1) in
      omega (arith, p)

  -- a function with another value at c
  abbrev upd : (ℕ → ℕ) → ℕ → ℕ → ℕ → ℕ
  upd T c v j = pick (eqb j c) v (T j)

  upd_other : (T : ℕ → ℕ) (c v j : ℕ) → j < c → upd T c v j ≡ T j
  upd_other T c v j u = rw (ne_eqb j c (λ z. omega arith)) refl

  upd_same : (T : ℕ → ℕ) (c v : ℕ) → upd T c v c ≡ v
  upd_same T c v = rw (eq-eqb c c refl) refl

  -- there is room for the node that is found: with it there are no more nodes than new beginnings, and the root
  pub room : (N : Columns) (i c F low : ℕ) → Half f len n N i c F low → i < c → ((k x : ℕ) → len k ≤ x → f k x ≡ 256) → (key who : ℕ) → (N.element i ≡ 256 → ⊥)
      → Next f n (N.template i) (201 - N.height i) low key who → key < 258 → 0 < N.height i
      → c < suc (sum (λ k. suc (len k) - old k) n)
  room N i c F low half u ended key who ne l kb hp =
      let N' : Columns = record {
        template = upd N.template c who;
        height = upd N.height c (N.height i - 1);
        element = upd N.element c key;
        holes = upd N.holes c (N.holes i + one (eqb key 257));
        first = N.first;
        number = N.number;
      } in
      let g : Agree f len n N N' i c = record {
        template = upd_other N.template c who;
        height = upd_other N.height c (N.height i - 1);
        element = upd_other N.element c key;
        holes = upd_other N.holes c (N.holes i + one (eqb key 257));
        first = λ p v. refl;
        number = λ p v. refl;
      } in
      let l' : Next f n (N'.template i) (201 - N'.height i) low key who = rw (g.template i u, g.height i u) l in
      let m = append f len n N' i c F low (carry f len n N N' i c g F low u half) u ended key who
      (λ z. ne (sym (g.element i u) ∙ z)) l' kb (upd_same N.template c who)
      (ap (λ (x : ℕ). x + 1) (upd_same N.height c (N.height i - 1)) ∙ omega (arith, g.height i u))
      (upd_same N.element c key) (upd_same N.holes c (N.holes i + one (eqb key 257)) ∙ ap (λ (x : ℕ). x + one (eqb key 257)) (sym (g.holes i u))) in
      omega (arith, bound N' i (c + 1) F (key + 1) m)
