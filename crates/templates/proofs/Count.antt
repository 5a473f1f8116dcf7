-- The laws of counting beginnings, and that `nodes` of the model counts them.
use mathlib.Core.Path.{◌≡◌, refl, sym, ◌∙◌, ap}
use mathlib.Core.Bool.{Bool, true, false}
use mathlib.Core.List.{List, [], ◌∷◌, ◌++◌, append_assoc}
use Prim.Native.Nat.{ℕ, zero, suc, ◌+◌, ◌-◌, ◌≤◌, ◌<◌, max}
use native.Mathlib.Omega.{arith}
use borrow.Author.Tests.{eqb-true, leb-true, leb-false, le-leb, lt-leb}
use lib.Dec.{eqb, leb, leb-suc-suc, leb-suc-zero}
use lib.ListN.{length, get_or, take, drop, length-append, length-drop}
use lib.Seq.{take-suc, drop-cons, get_or-take, length-take-le}
use Rattle.model.specs.Text.{Bytes, same}
use Rattle.model.specs.Load.{Macro, templates, met, begins, begun, fresh, nodes_from, nodes}
use Rattle.model.specs.Fitting.{Distinct}
use Rattle.templates.specs.Count.{common, longest, known, added, sum, beginnings, Counted}

-- ---- what two templates have in common

-- p is a beginning of t where p, as a beginning of a template, is no longer than what that template has in common with t
begins-common : (p s t : Bytes) → begins p t ≡ leb (length p) (common (p ++ s) t)
unfolding begins common
begins-common [] s t = sym (le-leb 0 (common s t) (omega arith))
begins-common (x ∷ p) s [] = sym (leb-suc-zero (length p))
begins-common (x ∷ p) s (y ∷ t) = by (eqb x y) (begins-common p s t)
  where
    by : (b : Bool) → begins p t ≡ leb (length p) (common (p ++ s) t)
        → ◌≡◌ {A = Bool} (elim b [ true ↦ begins p t | false ↦ false ]) (leb (suc (length p)) (elim b [ true ↦ suc (common (p ++ s) t) | false ↦ 0 ]))
    by true h = h ∙ sym (leb-suc-suc (length p) (common (p ++ s) t))
    by false h = sym (leb-suc-zero (length p))

-- templates are the same where they have all in common
same-common : (s t : Bytes) → same s t ≡ leb (suc (length s)) (common s t)
unfolding same common
same-common [] [] = refl
same-common [] (y ∷ t) = refl
same-common (x ∷ s) [] = sym (leb-suc-zero (suc (length s)))
same-common (x ∷ s) (y ∷ t) = by (eqb x y) (same-common s t)
  where
    by : (b : Bool) → same s t ≡ leb (suc (length s)) (common s t)
        → ◌≡◌ {A = Bool} (elim b [ true ↦ same s t | false ↦ false ]) (leb (suc (suc (length s))) (elim b [ true ↦ suc (common s t) | false ↦ 0 ]))
    by true h = h ∙ sym (leb-suc-suc (suc (length s)) (common s t))
    by false h = sym (leb-suc-zero (suc (length s)))

-- a test of the larger of two
leb-max : (a b c : ℕ) (t u : Bool) → t ≡ leb a b → u ≡ leb a c → ◌≡◌ {A = Bool} (elim t [ true ↦ true | false ↦ u ]) (leb a (max b c))
leb-max a b c true u e g = sym (le-leb a (max b c) (omega (arith, leb-true a b (sym e))))
leb-max a b c false true e g = sym (le-leb a (max b c) (omega (arith, leb-true a c (sym g))))
leb-max a b c false false e g = sym (lt-leb a (max b c) (omega (arith, leb-false a b (sym e), leb-false a c (sym g))))

begun-longest : (p s : Bytes) (ms : List Macro) → 0 < length p → begun p ms ≡ leb (length p) (longest (p ++ s) (templates ms))
unfolding begun longest templates
begun-longest p s [] h = sym (lt-leb (length p) 0 h)
begun-longest p s (x ∷ ms) h = leb-max (length p) (common (p ++ s) x.template) (longest (p ++ s) (templates ms)) _ _ (begins-common p s x.template) (begun-longest p s ms h)

met-longest : (c : Bytes) (ms : List Macro) → met c ms ≡ leb (suc (length c)) (longest c (templates ms))
unfolding met longest templates
met-longest c [] = sym (leb-suc-zero (length c))
met-longest c (x ∷ ms) = leb-max (suc (length c)) (common c x.template) (longest c (templates ms)) _ _ (same-common c x.template) (met-longest c ms)

-- new are the beginnings longer than what is in common with others
fresh-longest : (t p : Bytes) (ms : List Macro) → longest (p ++ t) (templates ms) ≤ length p + length t
    → fresh p t ms ≡ suc (length t) - (longest (p ++ t) (templates ms) - length p)
unfolding fresh
fresh-longest [] p ms h = omega arith
fresh-longest (x ∷ t) p ms h =
    let e : (p ++ (x ∷ [])) ++ t ≡ p ++ (x ∷ t) = append_assoc p (x ∷ []) t in
    let l : length (p ++ (x ∷ [])) ≡ suc (length p) = omega (arith, length-append p (x ∷ [])) in
    let b = begun-longest (p ++ (x ∷ [])) t ms (omega arith) in
    let f = fresh-longest t (p ++ (x ∷ [])) ms (omega (arith, ap (λ (s : Bytes). longest s (templates ms)) e)) in
    by (begun (p ++ (x ∷ [])) ms) (b ∙ ap (λ (n : ℕ). leb n (longest ((p ++ (x ∷ [])) ++ t) (templates ms))) l ∙ ap (λ (s : Bytes). leb (suc (length p)) (longest s (templates ms))) e)
    (f ∙ ap (λ (n : ℕ). suc (length t) - (longest ((p ++ (x ∷ [])) ++ t) (templates ms) - n)) l ∙ ap (λ (s : Bytes). suc (length t) - (longest s (templates ms) - suc (length p))) e)
  where
    by : {f : ℕ} (b : Bool) → b ≡ leb (suc (length p)) (longest (p ++ (x ∷ t)) (templates ms)) → f ≡ suc (length t) - (longest (p ++ (x ∷ t)) (templates ms) - suc (length p))
        → ◌≡◌ {A = ℕ} (elim b [ true ↦ f | false ↦ suc f ]) (suc (suc (length t)) - (longest (p ++ (x ∷ t)) (templates ms) - length p))
    by true e q = omega (arith, leb-true (suc (length p)) (longest (p ++ (x ∷ t)) (templates ms)) (sym e))
    by false e q = omega (arith, leb-false (suc (length p)) (longest (p ++ (x ∷ t)) (templates ms)) (sym e))

-- ---- the count of one template

pub counted : (ts : List Bytes) (c : Bytes) (r : ℕ) → r ≡ suc (length c) - longest c ts → Counted ts c r
counted ts c r e = record {
  before = λ z ms q. met-longest c ms ∙ ap (λ (l : List Bytes). leb (suc (length c)) (longest c l)) q ∙ le-leb (suc (length c)) (longest c ts) (omega arith);
  anew = λ z ms q. met-longest c ms ∙ ap (λ (l : List Bytes). leb (suc (length c)) (longest c l)) q ∙ lt-leb (suc (length c)) (longest c ts) (omega arith);
  count = λ z ms q. fresh-longest c [] ms (omega (arith, ap (longest c) q)) ∙ ap (λ (l : List Bytes). suc (length c) - (longest c l - 0)) q ∙ omega arith;
  most = omega arith;
}

-- one template more
longest_snoc : (s : Bytes) (ts : List Bytes) (t : Bytes) → longest s (ts ++ (t ∷ [])) ≡ max (longest s ts) (common s t)
unfolding longest
longest_snoc s [] t = omega arith
longest_snoc s (u ∷ ts) t = omega (arith, longest_snoc s ts t)

-- ---- all templates

-- what is in common with all is in common with one
pub longest_upper : (s : Bytes) (ts : List Bytes) (l : ℕ) → l < length ts → common s (get_or ts l []) ≤ longest s ts
unfolding longest
longest_upper s [] l u = absurd (omega arith)
longest_upper s (t ∷ ts) zero u = omega arith
longest_upper s (t ∷ ts) (suc l) u = omega (arith, longest_upper s ts l (omega arith))

pub longest_reached : (s : Bytes) (ts : List Bytes) → 0 < longest s ts → (l : ℕ) × (l < length ts) × (common s (get_or ts l []) ≡ longest s ts)
unfolding longest
longest_reached s [] u = absurd (omega arith)
longest_reached s (t ∷ ts) u = by (leb (longest s ts) (common s t)) refl (λ v. longest_reached s ts v)
  where
    by : (b : Bool) → leb (longest s ts) (common s t) ≡ b → (0 < longest s ts → (l : ℕ) × (l < length ts) × (common s (get_or ts l []) ≡ longest s ts))
        → (l : ℕ) × (l < suc (length ts)) × (common s (get_or (t ∷ ts) l []) ≡ max (common s t) (longest s ts))
    by true e h = (0, omega arith, omega (arith, leb-true (longest s ts) (common s t) e))
    by false e h = let w = h (omega (arith, leb-false (longest s ts) (common s t) e)) in (suc w.0, omega (arith, w.1), omega (arith, w.2, leb-false (longest s ts) (common s t) e))

-- all in common: the same
common-same : (s t : Bytes) → suc (length s) ≤ common s t → s ≡ t
unfolding common
common-same [] [] h = refl
common-same [] (y ∷ t) h = absurd (omega arith)
common-same (x ∷ s) [] h = absurd (omega arith)
common-same (x ∷ s) (y ∷ t) h = by (eqb x y) refl h (λ k. common-same s t k)
  where
    by : (b : Bool) → eqb x y ≡ b → ◌≤◌ (suc (suc (length s))) (elim b [ true ↦ suc (common s t) | false ↦ 0 ]) → (suc (length s) ≤ common s t → s ≡ t) → x ∷ s ≡ y ∷ t
    by true e k ih = let a = eqb-true x y e in let b = ih (omega arith) in cc
    by false e k ih = absurd (omega arith)

-- a template that no earlier one equals
known-less : (ts : List Bytes) (j : ℕ) → Distinct ts → j < length ts → known ts j ≤ length (get_or ts j [])
known-less ts j d u = by (leb (known ts j) (length (get_or ts j []))) refl
  where
    by : (b : Bool) → leb (known ts j) (length (get_or ts j [])) ≡ b → known ts j ≤ length (get_or ts j [])
    by true e = leb-true _ _ e
    by false e =
        let k = leb-false (known ts j) (length (get_or ts j [])) e in
        let (l, v, q) = longest_reached (get_or ts j []) (take j ts) (omega arith) in
        let w : l < j = omega (arith, v, length-take-le j ts (omega arith)) in
        let z : get_or ts j [] ≡ get_or ts l [] = common-same (get_or ts j []) (get_or (take j ts) l []) (omega (arith, q)) ∙ get_or-take j ts l [] w in
        absurd (omega (arith, d j l u (omega arith) z))

-- `nodes_from` adds what each template adds
nodes-from : (ts : List Bytes) → Distinct ts → (ms earlier : List Macro) (j : ℕ) → j ≤ length ts → drop j ts ≡ templates ms
    → ((s : Bytes) → longest s (templates earlier) ≡ longest s (take j ts)) → sum (added ts) j + nodes_from earlier ms ≡ sum (added ts) (length ts)
unfolding nodes_from templates sum longest
nodes-from ts d [] earlier j u e h =
    let z : j ≡ length ts = omega (arith, length-drop j ts, ap length e) in
    rw z (omega arith)
nodes-from ts d (x ∷ ms) earlier j u e h =
    let v : j < length ts = omega (arith, length-drop j ts, ap length e) in
    let q : get_or ts j [] ∷ drop (suc j) ts ≡ x.template ∷ templates ms = sym (drop-cons ts j [] v) ∙ e in
    let a : get_or ts j [] ≡ x.template = cc in
    let b : drop (suc j) ts ≡ templates ms = cc in
    let l : longest x.template (templates earlier) ≡ known ts j = h x.template ∙ ap (λ (s : Bytes). longest s (take j ts)) (sym a) in
    let f = fresh-longest x.template [] earlier (omega (arith, known-less ts j d v, ap length a)) in
    let r = nodes-from ts d ms (x ∷ earlier) (suc j) v b (λ s. omega (arith, h s, longest_snoc s (take j ts) (get_or ts j []), ap (longest s) (take-suc ts j [] v), ap (common s) a)) in
    omega (arith, r, f, l, ap length a)

-- the model's nodes are the root and the beginnings
pub nodes-beginnings : (ts : List Bytes) (ms : List Macro) → templates ms ≡ ts → Distinct ts → nodes ms ≡ suc (beginnings ts)
unfolding nodes sum longest templates
nodes-beginnings ts ms e d = omega (arith, nodes-from ts d ms [] 0 (omega arith) (sym e) (λ s. refl))
