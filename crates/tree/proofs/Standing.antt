-- Where the templates stand while the tree is built: each node that waits has a run of their order.
use mathlib.Core.Path.{◌≡◌, sym, ◌∙◌, ap}
use mathlib.Core.Logic.{⊎_elim}
use Prim.Native.Nat.{ℕ, ◌+◌, ◌-◌, ◌≤◌, ◌<◌}
use native.Mathlib.Omega.{arith}
use Rattle.templates.specs.Keys.{Share}
use Rattle.templates.specs.Order.{TakesRun}
use Rattle.tree.specs.Nodes.{Columns, Waiting}
use Rattle.templates.proofs.Keys.{lt_or, share_sym, share_trans, share_more}
use Rattle.macros.proofs.Entries.{one_more}
use Rattle.tree.proofs.Nodes.{Next, Agree}

-- what the order of templates gives: it has each of them, and where they have their first d elements in common their keys there ascend
pub record Ordered (f : ℕ → ℕ → ℕ) (n : ℕ) (order : ℕ → ℕ) : Type 0 where
  pub within : (q : ℕ) → q < n → order q < n
  pub every : (k : ℕ) → k < n → (q : ℕ) × (q < n) × (order q ≡ k)
  pub ascending : (q r d t : ℕ) → q ≤ r → r < n → Share f (order q) t d → Share f (order r) t d → f (order q) d ≤ f (order r) d

-- the run of a node of depth d, from `first` up to `end`, is cut at a place: before it the keys are below low, and from it on they are not
pub record Cut (f : ℕ → ℕ → ℕ) (order : ℕ → ℕ) (first end d place low : ℕ) : Type 0 where
  pub from : first ≤ place
  pub below : (q : ℕ) → first ≤ q → q < place → f (order q) d < low
  pub above : (q : ℕ) → place ≤ q → q < end → low ≤ f (order q) d

module _ (f : ℕ → ℕ → ℕ) (len : ℕ → ℕ) (n : ℕ) where
  -- the nodes after i wait
  pub after : (N : Columns) (order : ℕ → ℕ) (i c : ℕ) → Waiting f len n N order i c → Waiting f len n N order (i + 1) c
  after N order i c w = record { within = λ j v. w.within j (omega arith); shared = λ j q v. w.shared j q (omega arith); stands = λ j q v. w.stands j q (omega arith) }

  -- nodes that have the same wait too
  pub waiting_carry : (N N' : Columns) (order : ℕ → ℕ) (e i c : ℕ) → Agree f len n N N' e c
      → ((j : ℕ) → i ≤ j → j < c → (N'.first j ≡ N.first j) × (N'.number j ≡ N.number j)) → Waiting f len n N order i c → Waiting f len n N' order i c
  waiting_carry N N' order e i c g same w = record {
    within = λ j v u. let s = same j v u in rw (s.0, s.1) (w.within j v u);
    shared = λ j q v u lo hi. let s = same j v u in rw (g.template j u, g.height j u) (w.shared j q v u (rw s.0 at lo) (rw (s.0, s.1) at hi));
    stands = λ j q v u b sh. let s = same j v u in rw (s.0, s.1) (w.stands j q v u b (rw (g.template j u, g.height j u) at sh));
  }

  -- the run of the node i is cut at a place
  module _ (N : Columns) (order : ℕ → ℕ) (ordered : Ordered f n order) (i c place low : ℕ) (w : Waiting f len n N order i c) (u : i < c)
      (cut : Cut f order (N.first i) (N.first i + N.number i) (201 - N.height i) place low) where
    abbrev t : ℕ
    t = N.template i

    abbrev d : ℕ
    d = 201 - N.height i

    abbrev last : ℕ
    last = N.first i + N.number i

    -- a template that has the node's beginning, and there a key from low on, stands from the place on
    on : (k : ℕ) → k < n → Share f k t d → low ≤ f k d → (q : ℕ) × (place ≤ q) × (q < last) × (order q ≡ k)
    on k v s le =
        let (q, b, e) = ordered.every k v in
        let x = w.stands i q (omega arith) u b (rw e s) in
        let y : low ≤ f (order q) d = rw e le in
        (q, ⊎_elim (λ z. absurd (omega (arith, cut.below q x.0 z))) (λ z. z) (lt_or q place), x.1, e)

    -- none is left at the end of the run
    pub no_next : (who : ℕ) → last ≤ place → Next f n t d low 258 who
    no_next who le = record {
      most = omega arith;
      there = λ v. absurd (omega arith);
      first = λ v. absurd (omega arith);
      least = λ k v s z. let x = on k v s z in absurd (omega (arith, x.1, x.2));
    }

    -- the templates of the next key are taken
    module _ (key who end : ℕ) (run : TakesRun f order place last d key who end) where
      -- the templates from there on have the node's beginning, and their keys ascend
      in_run : (q : ℕ) → place ≤ q → q < last → Share f (order q) t d
      in_run q lo hi = w.shared i q (omega arith) u (omega (arith, cut.from)) hi

      climbs : (q r : ℕ) → place ≤ q → q ≤ r → r < last → f (order q) d ≤ f (order r) d
      climbs q r lo le hi = ordered.ascending q r d t le (omega (arith, w.within i (omega arith) u)) (in_run q lo (omega arith)) (in_run r (omega arith) hi)

      -- the key is none of those before
      low_key : low ≤ key
      low_key = omega (arith, cut.above place (omega arith) (omega (arith, run.longer, run.within)), run.same place (omega arith) run.longer)

      -- and those past the templates that are taken are greater
      beyond : (q : ℕ) → end ≤ q → q < last → key < f (order q) d
      beyond q lo hi =
          let a = climbs place end (omega arith) (omega (arith, run.longer)) (omega arith) in
          let b = run.same place (omega arith) run.longer in
          let s = climbs end q (omega (arith, run.longer)) lo hi in
          ⊎_elim (λ z. omega (arith, s)) (λ z. absurd (run.stops (omega arith) (omega (arith, a, b)))) (lt_or key (f (order end) d))

      -- so what has the key is taken
      before-end : (q : ℕ) → q < last → f (order q) d ≡ key → q < end
      before-end q hi e = ⊎_elim (λ z. z) (λ z. absurd (omega (arith, beyond q z hi))) (lt_or q end)

      -- the first template of the text that has the key
      found : (who < n) × Share f who t d × (f who d ≡ key)
      found =
          let (q, lo, hi, e) = run.there in
          let b : q < last = omega (arith, run.within) in
          (rw (← e) (ordered.within q (omega (arith, w.within i (omega arith) u))), rw (← e) (in_run q lo b), rw (← e) (run.same q lo hi))

      -- it is the next key
      pub next : Next f n t d low key who
      next = record {
        most = omega (arith, run.small);
        there = λ v. (found.0, found.1, found.2, low_key);
        first = λ v m lt s e.
            let (q, lo, hi, x) = on m (omega (arith, found.0)) s (omega (arith, low_key)) in
            omega (arith, run.first q lo (before-end q hi (ap (λ (k : ℕ). f k d) x ∙ e)));
        least = λ k v s le.
            let (q, lo, hi, x) = on k v s le in
            let y : f (order q) d ≡ f k d = ap (λ (k : ℕ). f k d) x in
            omega (arith, climbs place q (omega arith) lo hi, run.same place (omega arith) run.longer);
      }

      -- the run is cut behind them
      pub cut_on : Cut f order (N.first i) last d end (key + 1)
      cut_on = record {
        from = omega (arith, cut.from, run.longer);
        below = λ q lo hi. ⊎_elim (λ z. omega (arith, cut.below q lo z, low_key)) (λ z. omega (arith, run.same q z hi)) (lt_or q place);
        above = λ q lo hi. omega (arith, beyond q lo hi);
      }

      -- and the node c is theirs
      module _ (et : N.template c ≡ who) (eh : N.height c + 1 ≡ N.height i) (high : N.height i ≤ 201) (ef : N.first c ≡ place) (en : N.number c ≡ end - place) where
        -- its beginning is longer by one, and its run ends with them
        one-longer : 201 - N.height c ≡ d + 1
        one-longer = omega arith

        ends : N.first c + N.number c ≡ end
        ends = omega (arith, run.longer)

        -- what has the longer beginning is taken
        stands_on : (q : ℕ) → q < n → Share f (order q) who (d + 1) → (place ≤ q) × (q < end)
        stands_on q v s =
            let e : f (order q) d ≡ key = s d (omega arith) ∙ found.2 in
            let (lo, hi) = w.stands i q (omega arith) u v (share_trans f (order q) who t d (λ x y. s x (omega arith)) found.1) in
            (⊎_elim (λ z. absurd (omega (arith, cut.below q lo z, low_key))) (λ z. z) (lt_or q place), before-end q hi e)

        -- and what is taken has it
        shared_on : (q : ℕ) → place ≤ q → q < end → Share f (order q) who (d + 1)
        shared_on q lo hi =
            share_more f (order q) who d (share_trans f (order q) t who d (in_run q lo (omega (arith, run.within))) (share_sym f who t d found.1)) (run.same q lo hi ∙ sym found.2)

        -- it waits with them
        pub waiting_more : Waiting f len n N order i (c + 1)
        waiting_more = record {
          within = λ j v b. one_more c (λ j. i ≤ j → N.first j + N.number j ≤ n) (λ j b v. w.within j v b)
              (λ v. omega (arith, ends, run.within, w.within i (omega arith) u)) j b v;
          shared = λ j q v b. one_more c (λ j. i ≤ j → N.first j ≤ q → q < N.first j + N.number j → Share f (order q) (N.template j) (201 - N.height j))
              (λ j b v. w.shared j q v b) (λ v lo hi. rw (et, one-longer) (shared_on q (omega arith) (omega (arith, ends)))) j b v;
          stands = λ j q v b. one_more c (λ j. i ≤ j → q < n → Share f (order q) (N.template j) (201 - N.height j) → (N.first j ≤ q) × (q < N.first j + N.number j))
              (λ j b v. w.stands j q v b) (λ v k s. let x = stands_on q k (rw (et, one-longer) at s) in (omega (arith, x.0), omega (arith, x.1, ends))) j b v;
        }
