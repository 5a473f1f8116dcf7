-- Keys and elements: each key has an element of its own, and the test of two elements says whether they are equal. The placeholders of a beginning.
use mathlib.Core.Path.{◌≡◌, refl, sym, ◌∙◌, ap}
use mathlib.Core.Bool.{Bool, true, false}
use mathlib.Core.List.{List, [], ◌∷◌, ◌++◌}
use Prim.Native.Nat.{ℕ, ◌+◌, ◌<◌}
use native.Mathlib.Omega.{arith}
use lib.Dec.{eqb}
use borrow.Author.Tests.{ne_eqb}
use Rattle.model.specs.Parts.{Elem, lit, hole, stop}
use Rattle.model.specs.Places.{same_elem}
use Rattle.model.specs.Children.{end_key, placeholder_key, element_of, holes_in}
use Rattle.model.proofs.Choices.{false-not-true}
use Rattle.model.proofs.Chosen.{Tested, alike, apart, tested}
use Rattle.model.proofs.Beginnings.{one-elem, elem_itself}

-- ---- two elements

-- a test of two elements, with what its answer says
pub data Compared (x y : Elem) : Bool → Type 0 where
  equal : x ≡ y → Compared x y true
  different : ¬ (x ≡ y) → Compared x y false

-- each test comes with what it says
pub compared : (x y : Elem) → Compared x y (same_elem x y)
compared x y = by (same_elem x y) refl
  where
    by : (t : Bool) → same_elem x y ≡ t → Compared x y t
    by true e = equal (one-elem x y e)
    by false e = different (λ w. false-not-true (sym e ∙ ap (same_elem x) (sym w) ∙ elem_itself x))

-- ---- the element of a key

-- the key of an element
abbrev pub key_for : Elem → ℕ
key_for stop = end_key
key_for hole = placeholder_key
key_for (lit b) = b

-- a key comes back from its element
key_back : (k : ℕ) → key_for (element_of k) ≡ k
unfolding element_of
key_back k = by (eqb k end_key) (eqb k placeholder_key) (tested k end_key) (tested k placeholder_key)
  where
    by : (s t : Bool) → Tested k end_key s → Tested k placeholder_key t → key_for (elim s [ true ↦ stop | false ↦ elim t [ true ↦ hole | false ↦ lit k ] ]) ≡ k
    by true t (alike e) h = sym e
    by false true (apart e) (alike h) = sym h
    by false false (apart e) (apart h) = refl

-- so a key is its element's
pub key_is : (k : ℕ) (e : Elem) → element_of k ≡ e → k ≡ key_for e
key_is k e w = sym (key_back k) ∙ ap key_for w

-- and two keys do not share an element
pub one_key : (a b : ℕ) → element_of a ≡ element_of b → a ≡ b
one_key a b w = key_is a (element_of b) w ∙ key_back b

-- the end's key
pub end-key : element_of end_key ≡ stop
unfolding element_of
end-key = refl

-- the placeholder's
pub hole_key : element_of placeholder_key ≡ hole
unfolding element_of
hole_key = refl

-- a byte is its own key
pub byte-key : (b : ℕ) → b < 256 → element_of b ≡ lit b
unfolding element_of
byte-key b lt = rw (ne_eqb b end_key (λ z. omega arith), ne_eqb b placeholder_key (λ z. omega arith), element_of) refl

-- a key is the end's where its element is the end
pub key_stop : (k : ℕ) → eqb k end_key ≡ same_elem (element_of k) stop
unfolding element_of same_elem
key_stop k = by (eqb k end_key) (eqb k placeholder_key)
  where
    by : (s t : Bool) → s ≡ same_elem (elim s [ true ↦ stop | false ↦ elim t [ true ↦ hole | false ↦ lit k ] ]) stop
    by true t = refl
    by false true = refl
    by false false = refl

-- and the placeholder's where it is a placeholder
pub key_hole : (k : ℕ) → eqb k placeholder_key ≡ same_elem (element_of k) hole
unfolding element_of same_elem
key_hole k = by (eqb k end_key) (eqb k placeholder_key) (tested k end_key) (tested k placeholder_key)
  where
    by : (s t : Bool) → Tested k end_key s → Tested k placeholder_key t → t ≡ same_elem (elim s [ true ↦ stop | false ↦ elim t [ true ↦ hole | false ↦ lit k ] ]) hole
    by true true (alike e) (alike h) = absurd (omega (arith, e, h))
    by true false e h = refl
    by false true e h = refl
    by false false e h = refl

-- ---- placeholders

-- those of two beginnings add up
pub holes_append : (a b : List Elem) → holes_in (a ++ b) ≡ holes_in a + holes_in b
unfolding holes_in
holes_append [] b = omega arith
holes_append (lit x ∷ a) b = holes_append a b
holes_append (hole ∷ a) b = omega (arith, holes_append a b)
holes_append (stop ∷ a) b = holes_append a b
