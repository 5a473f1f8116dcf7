-- Beginnings as lists of elements.
use mathlib.Core.Path.{◌≡◌, refl, sym, ◌∙◌, ap}
use mathlib.Core.Bool.{Bool, true, false}
use mathlib.Core.List.{List, [], ◌∷◌, ◌++◌, map, append-nil, append_assoc}
use mathlib.Core.Logic.{⊎_elim}
use Prim.Native.Nat.{ℕ, zero, suc, ◌+◌, ◌<◌}
use native.Mathlib.Omega.{arith}
use native.Mathlib.Nat.{eq-or-lt_of_le}
use lib.Dec.{eqb}
use lib.ListN.{length, get_or, length-append, get_or-append}
use lib.Seq.{get_or_at, ext_get_or}
use borrow.Author.Tests.{eqb-true, eqb-false}
use Rattle.model.specs.declared.Marks.{Marks}
use Rattle.model.specs.Text.{Bytes}
use Rattle.model.specs.Parts.{Elem, lit, hole, stop, elems}
use Rattle.model.specs.Children.{element_of, holes_in}
use Rattle.templates.specs.Keys.{AllBytes, byte_key, key_of, keys, Share, one, cnt, holed}
use Rattle.model.proofs.Chosen.{Tested, alike, tested}
use Rattle.model.proofs.Children.{one_key, byte-key, holes_append}
use Rattle.templates.proofs.Keys.{byte_hole, byte_plain}

-- the placeholder's key counts one placeholder
holes_key : (k : ℕ) → holes_in (element_of k ∷ []) ≡ one (eqb k 257)
unfolding holes_in element_of
holes_key k = by (eqb k 256) (eqb k 257) (tested k 256) (tested k 257)
  where
    by : (s t : Bool) → Tested k 256 s → Tested k 257 t → holes_in ((elim s as (λ x. Elem) [ true ↦ stop | false ↦ elim t as (λ x. Elem) [ true ↦ hole | false ↦ lit k ] ]) ∷ []) ≡ one t
    by true true (alike e) (alike h) = absurd (omega (arith, e, h))
    by true false e h = refl
    by false true e h = refl
    by false false e h = refl

-- the first d elements of a stream
pub begin : (ℕ → ℕ → ℕ) → ℕ → ℕ → List Elem
begin f k zero = []
begin f k (suc d) = begin f k d ++ element_of (f k d) ∷ []

module _ (f : ℕ → ℕ → ℕ) where
  pub begin_zero : (k : ℕ) → begin f k 0 ≡ []
  unfolding begin
  begin_zero k = refl

  pub begin_suc : (k d : ℕ) → begin f k (suc d) ≡ begin f k d ++ element_of (f k d) ∷ []
  unfolding begin
  begin_suc k d = refl

  -- a beginning of n elements more
  pub begin_more : (k d n : ℕ) → (es : List Elem) × (begin f k (n + d) ≡ begin f k d ++ es)
  unfolding begin
  begin_more k d zero = let z : 0 + d ≡ d = omega arith in ([], ap (begin f k) z ∙ sym (append-nil (begin f k d)))
  begin_more k d (suc n) =
      let (es, e) = begin_more k d n in
      let z : suc n + d ≡ suc (n + d) = omega arith in
      let last : List Elem = element_of (f k (n + d)) ∷ [] in
      (es ++ last, ap (begin f k) z ∙ ap (λ (l : List Elem). l ++ last) e ∙ append_assoc (begin f k d) es last)

  pub begin_length : (k d : ℕ) → length (begin f k d) ≡ d
  unfolding begin
  begin_length k zero = refl
  begin_length k (suc d) = omega (arith, length-append (begin f k d) (element_of (f k d) ∷ []), begin_length k d)

  pub begin_share : (k m d : ℕ) → Share f k m d → begin f k d ≡ begin f m d
  unfolding begin
  begin_share k m zero s = refl
  begin_share k m (suc d) s = rw (begin_share k m d (λ x u. s x (omega arith)), s d (omega arith)) refl

  pub begin-at : (k d x : ℕ) → x < d → get_or (begin f k d) x stop ≡ element_of (f k x)
  unfolding begin
  begin-at k zero x u = absurd (omega arith)
  begin-at k (suc d) x u =
      ⊎_elim (λ q. rw q (get_or_at (begin f k d) (element_of (f k d)) [] stop d (begin_length k d)))
      (λ q. get_or-append (begin f k d) (element_of (f k d) ∷ []) stop x (omega (arith, begin_length k d)) ∙ begin-at k d x q)
      (eq-or-lt_of_le {n = x} {m = d} (omega arith))

  -- the placeholders of a beginning are those of its keys
  pub begin_holes : (k d : ℕ) → cnt (holed f k) d ≡ holes_in (begin f k d)
  unfolding begin cnt holes_in
  begin_holes k zero = refl
  begin_holes k (suc d) = omega (arith, begin_holes k d, holes_append (begin f k d) (element_of (f k d) ∷ []), holes_key (f k d))

  -- a beginning that goes on after another
  pub begin_on : (k D m d : ℕ) (e : Elem) (es : List Elem) → begin f k D ≡ begin f m d ++ e ∷ es → (d < D) × Share f k m d × (element_of (f k d) ≡ e)
  begin_on k D m d e es q =
      let a : D ≡ d + suc (length es) = omega (arith, ap length q, begin_length k D, begin_length m d, length-append (begin f m d) (e ∷ es)) in (
        omega arith,
        λ x u. one_key (f k x) (f m x) (sym (begin-at k D x (omega arith)) ∙ ap (λ (l : List Elem). get_or l x stop) q
            ∙ get_or-append (begin f m d) (e ∷ es) stop x (omega (arith, begin_length m d)) ∙ begin-at m d x u),
        sym (begin-at k D d (omega arith)) ∙ ap (λ (l : List Elem). get_or l d stop) q ∙ get_or_at (begin f m d) e es stop d (begin_length m d),
      )

-- the elements of a template are those of its keys
elems-length : (m : Marks) (c : Bytes) → length (elems m c) ≡ suc (length c)
unfolding elems
elems-length m [] = refl
elems-length m (b ∷ c) = by (eqb b m.placeholder) (elems-length m c)
  where
    by : (t : Bool) → length (elems m c) ≡ suc (length c)
        → length {A = Elem} (elim t as (λ x. List Elem) [ true ↦ hole ∷ elems m c | false ↦ lit b ∷ elems m c ]) ≡ suc (suc (length c))
    by true h = ap suc h
    by false h = ap suc h

elems_at : (m : Marks) (c : Bytes) (x : ℕ) → AllBytes c → get_or (elems m c) x stop ≡ element_of (key_of m.placeholder c x)
unfolding elems key_of element_of
elems_at m [] zero h = refl
elems_at m [] (suc x) h = refl
elems_at m (b ∷ c) zero h = by (eqb b m.placeholder) refl (h 0)
  where
    by : (t : Bool) → eqb b m.placeholder ≡ t → b < 256
        → get_or {A = Elem} (elim t as (λ x. List Elem) [ true ↦ hole ∷ elems m c | false ↦ lit b ∷ elems m c ]) 0 stop ≡ element_of (byte_key m.placeholder b)
    by true e u = ap element_of (byte_hole m.placeholder b (eqb-true b m.placeholder e))
    by false e u = sym (byte-key b u) ∙ ap element_of (byte_plain m.placeholder b (eqb-false b m.placeholder e))
elems_at m (b ∷ c) (suc x) h = by (eqb b m.placeholder) (elems_at m c x (λ i. h (suc i)))
  where
    by : (t : Bool) → get_or (elems m c) x stop ≡ element_of (key_of m.placeholder c x)
        → get_or {A = Elem} (elim t as (λ x. List Elem) [ true ↦ hole ∷ elems m c | false ↦ lit b ∷ elems m c ]) (suc x) stop ≡ element_of (key_of m.placeholder c x)
    by true e = e
    by false e = e

pub whole : (m : Marks) (ts : List Bytes) (k : ℕ) → AllBytes (get_or ts k []) → elems m (get_or ts k []) ≡ begin (keys m.placeholder ts) k (suc (length (get_or ts k [])))
whole m ts k h =
    let c = get_or ts k [] in
    let f = keys m.placeholder ts in
    ext_get_or stop (elems m c) (begin f k (suc (length c))) (elems-length m c ∙ sym (begin_length f k (suc (length c))))
    (λ x u. elems_at m c x h ∙ sym (begin-at f k (suc (length c)) x (omega (arith, elems-length m c))))

-- each of a list
pub map_at : (g : Bytes → List Elem) (ts : List Bytes) (k : ℕ) → k < length ts → get_or (map g ts) k [] ≡ g (get_or ts k [])
map_at g [] k u = absurd (omega arith)
map_at g (t ∷ ts) zero u = refl
map_at g (t ∷ ts) (suc k) u = map_at g ts k (omega arith)
