-- What templates have in common, as keys.
use mathlib.Core.Path.{◌≡◌, refl, sym, ◌∙◌, ap, subst}
use mathlib.Core.Bool.{Bool, true, false}
use mathlib.Core.List.{List, [], ◌∷◌}
use mathlib.Core.Logic.{⊎_elim}
use Prim.Native.Nat.{ℕ, zero, suc, ◌+◌, ◌-◌, ◌≤◌, ◌<◌}
use native.Mathlib.Omega.{arith}
use borrow.Author.Tests.{eqb-true, eqb-false}
use lib.Dec.{eqb}
use lib.ListN.{length, get_or, take, drop, get_or-eq_default}
use lib.Seq.{length-take-le, get_or-take, get_or-drop}
use Rattle.model.specs.Text.{Bytes}
use Rattle.macros.specs.declared.Table.{Table}
use Rattle.macros.specs.Table.{start_in, len_in, templates_in}
use Rattle.templates.specs.Count.{common, known}
use Rattle.templates.specs.Keys.{AllBytes, Smalls, byte_key, key_of, keys}
use Rattle.macros.proofs.Entries.{templates_in_length, templates_in_at}
use Rattle.templates.proofs.Count.{longest_upper, longest_reached}
use Rattle.templates.proofs.Keys.{lt_or, byte_no_end, byte_inj}
use Rattle.tree.proofs.Room.{Known}

-- the elements that templates have in common have the same keys
common-keys : (p : ℕ) (s t : Bytes) (x : ℕ) → x < common s t → key_of p s x ≡ key_of p t x
unfolding common key_of
common-keys p [] [] x u = refl
common-keys p [] (y ∷ t) x u = absurd (omega arith)
common-keys p (a ∷ s) [] x u = absurd (omega arith)
common-keys p (a ∷ s) (y ∷ t) zero u = by (eqb a y) refl u
  where
    by : (b : Bool) → eqb a y ≡ b → ◌<◌ 0 (elim b [ true ↦ suc (common s t) | false ↦ 0 ]) → byte_key p a ≡ byte_key p y
    by true e v = ap (byte_key p) (eqb-true a y e)
    by false e v = absurd (omega arith)
common-keys p (a ∷ s) (y ∷ t) (suc x) u = common-keys p s t x (by (eqb a y) u)
  where
    by : (b : Bool) → ◌<◌ (suc x) (elim b [ true ↦ suc (common s t) | false ↦ 0 ]) → x < common s t
    by true v = omega arith
    by false v = absurd (omega arith)

-- and no others do
keys-common : (p : ℕ) (s t : Bytes) (x : ℕ) → AllBytes s → AllBytes t → x ≤ suc (length s) → ((y : ℕ) → y < x → key_of p s y ≡ key_of p t y) → x ≤ common s t
unfolding common key_of
keys-common p s t zero a b u h = omega arith
keys-common p [] [] (suc x) a b u h = omega arith
keys-common p [] (y ∷ t) (suc x) a b u h = absurd (byte_no_end p y (b 0) (sym (h 0 (omega arith))))
keys-common p (z ∷ s) [] (suc x) a b u h = absurd (byte_no_end p z (a 0) (h 0 (omega arith)))
keys-common p (z ∷ s) (y ∷ t) (suc x) a b u h =
    by (eqb z y) refl (byte_inj p y (b 0) z (a 0) (h 0 (omega arith))) (keys-common p s t x (λ i. a (suc i)) (λ i. b (suc i)) (omega arith) (λ w v. h (suc w) (omega arith)))
  where
    by : (c : Bool) → eqb z y ≡ c → z ≡ y → x ≤ common s t → ◌≤◌ (suc x) (elim c [ true ↦ suc (common s t) | false ↦ 0 ])
    by true e q k = omega arith
    by false e q k = absurd (eqb-false z y e q)

-- `known` of the templates is what their keys have in common
pub templates-known : (p : ℕ) (ts : List Bytes) → Smalls ts → Known (keys p ts) (λ k. length (get_or ts k [])) (known ts) (length ts)
templates-known p ts small = record {
  upper = λ k l x u v w s.
      let z : length (take k ts) ≡ k = length-take-le k ts (omega arith) in
      let g : common (get_or ts k []) (get_or (take k ts) l []) ≡ common (get_or ts k []) (get_or ts l []) = ap (common (get_or ts k [])) (get_or-take k ts l [] v) in
      omega (arith, keys-common p (get_or ts k []) (get_or ts l []) x (small k) (small l) w s, longest_upper (get_or ts k []) (take k ts) l (omega arith), g);
  reached = λ k u v.
      let (l, w, e) = longest_reached (get_or ts k []) (take k ts) v in
      let z : l < k = omega (arith, w, length-take-le k ts (omega arith)) in
      let g : get_or (take k ts) l [] ≡ get_or ts l [] = get_or-take k ts l [] z in
      (l, z, λ x y. common-keys p (get_or ts k []) (get_or (take k ts) l []) x (omega (arith, e)) ∙ ap (λ (t : Bytes). key_of p t x) g);
}

-- a part of bytes has bytes, and so have the templates of a table
take-small : (k : ℕ) (s : Bytes) → AllBytes s → AllBytes (take k s)
take-small zero s h i = omega arith
take-small (suc k) [] h i = omega arith
take-small (suc k) (x ∷ s) h zero = h 0
take-small (suc k) (x ∷ s) h (suc i) = take-small k s (λ i. h (suc i)) i

pub table_small : (text : Bytes) (t : Table) (n : ℕ) → AllBytes text → Smalls (templates_in text t n)
table_small text t n h k i = ⊎_elim
    (λ u. subst (λ (c : Bytes). get_or c i 0 < 256) (sym (templates_in_at text t n k u))
    (take-small (start_in t k + len_in t k - start_in t k) (drop (start_in t k) text)
    (λ j. subst (λ (b : ℕ). b < 256) (sym (get_or-drop (start_in t k) text j 0)) (h (start_in t k + j))) i))
    (λ u. subst (λ (c : Bytes). get_or c i 0 < 256) (sym (get_or-eq_default (templates_in text t n) [] (omega (arith, templates_in_length text t n)))) (omega arith))
    (lt_or k n)
