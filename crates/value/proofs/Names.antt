-- Names at the front of a text: bytes that are no marks.
use mathlib.Core.Path.{◌≡◌, refl, sym, ap, ◌∙◌}
use mathlib.Core.Bool.{Bool, true, false, not, cond, ◌||◌}
use mathlib.Core.List.{List, [], ◌∷◌}
use mathlib.Core.Option.{none, some}
use Prim.Native.Nat.{ℕ, suc, ◌+◌, ◌≤◌, ◌<◌}
use native.Mathlib.Omega.{arith}
use borrow.Author.Tests.{ltb-false}
use lib.Dec.{eqb, ltb}
use lib.IntN.{ℤ}
use lib.ListN.{length, get_or, take, drop, length-drop}
use Rattle.model.specs.declared.Marks.{Marks}
use Rattle.model.specs.Text.{has}
use Rattle.model.specs.Store.{Store, find}
use Rattle.model.specs.Value.{Read, giving, is_mark, name_of, of_stored, stored_number}
use Rattle.store.specs.Seek.{Found}
use Rattle.store.specs.Names.{GetsText}
use Rattle.std.specs.Prelude.{Some, None, position}
use Rattle.std.specs.List.{list_any, position_or_len}
use Rattle.std.specs.Option.{unwrap_or}
use Rattle.number.specs.Number.{Gives, Valued}
use Rattle.number.proofs.Signed.{read_back, told_in, gives_value}
use Rattle.value.specs.Reads.{name_at}

-- ---- the marks, by std's test of a row

any_has : (b : ℕ) (s : List ℕ) → list_any (λ x. eqb x b) s ≡ has b s
unfolding has
any_has b [] = refl
any_has b (x ∷ s) = by (eqb x b) (any_has b s)
  where
    by : (t : Bool) {y z : Bool} → y ≡ z → t || y ≡ elim t [ true ↦ true | false ↦ z ]
    by true e = refl
    by false e = e

pub marks : (m : Marks) (b : ℕ)
    → list_any (λ x. eqb x b) (m.blank ∷ m.left ∷ m.plus ∷ m.minus ∷ m.times ∷ m.divide ∷ m.right ∷ []) ≡ is_mark m b
unfolding is_mark
marks m b = any_has b (m.blank ∷ m.left ∷ m.plus ∷ m.minus ∷ m.times ∷ m.divide ∷ m.right ∷ [])

-- ---- the length of a name

-- how many bytes stand before the first mark
abbrev pub name_length : Marks → List ℕ → ℕ
name_length m s = position_or_len (is_mark m) s

name_first : (m : Marks) (x : ℕ) (s : List ℕ) (t : Bool) → is_mark m x ≡ t → name_length m (x ∷ s) ≡ cond t 0 (suc (name_length m s))
name_first m x s true e = ap (λ (q : Bool). cond (not q) (1 + name_length m s) 0) e
name_first m x s false e = ap (λ (q : Bool). cond (not q) (1 + name_length m s) 0) e ∙ omega arith

name_most : (m : Marks) (s : List ℕ) → name_length m s ≤ length s
name_most m [] = omega arith
name_most m (x ∷ s) = by (is_mark m x) refl (name_most m s)
  where
    by : (q : Bool) → is_mark m x ≡ q → name_length m s ≤ length s → name_length m (x ∷ s) ≤ suc (length s)
    by true q h = omega (arith, name_first m x s true q)
    by false q h = omega (arith, name_first m x s false q)

-- where the first mark stands, or the text ends
pub name_found : (m : Marks) (s : List ℕ) → unwrap_or (position (is_mark m) s) (length s) ≡ name_length m s
name_found m s = by (ltb (name_length m s) (length s)) refl
  where
    at : Bool → ℕ
    at q = unwrap_or (cond q (Some (name_length m s)) None) (length s)

    by : (q : Bool) → ltb (name_length m s) (length s) ≡ q → at (ltb (name_length m s) (length s)) ≡ name_length m s
    by true q = ap at q
    by false q = ap at q ∙ omega (arith, ltb-false (name_length m s) (length s) q, name_most m s)

-- ---- a name is split from what follows at its length

abbrev split : ℕ → List ℕ → List ℕ × List ℕ
split k l = (take k l, drop k l)

abbrev longer : ℕ → List ℕ × List ℕ → List ℕ × List ℕ
longer x p = (x ∷ p.0, p.1)

name-of_first : (m : Marks) (x : ℕ) (s : List ℕ) (t : Bool) → is_mark m x ≡ t → name_of m (x ∷ s) ≡ elim t [ true ↦ ([], x ∷ s) | false ↦ (x ∷ (name_of m s).0, (name_of m s).1) ]
unfolding name_of
name-of_first m x s true e = rw (e, name_of)
name-of_first m x s false e = rw (e, name_of)

pub name_splits : (m : Marks) (l : List ℕ) → name_of m l ≡ split (name_length m l) l
unfolding name_of
name_splits m [] = refl
name_splits m (x ∷ l) = go (is_mark m x) refl (name_splits m l)
  where
    go : (t : Bool) → is_mark m x ≡ t → name_of m l ≡ split (name_length m l) l → name_of m (x ∷ l) ≡ split (name_length m (x ∷ l)) (x ∷ l)
    go true e ih = name-of_first m x l true e ∙ ap (λ (k : ℕ). split k (x ∷ l)) (sym (name_first m x l true e))
    go false e ih = name-of_first m x l false e ∙ ap (longer x) ih ∙ ap (λ (k : ℕ). split k (x ∷ l)) (sym (name_first m x l false e))

pub name_past : (m : Marks) (l : List ℕ) → 1 ≤ length l → is_mark m (get_or l 0 0) ≡ false → length (name_of m l).1 < length l
name_past m [] h e = absurd (omega arith)
name_past m (x ∷ l) h e =
    let k = name_length m (x ∷ l) in
    let long : k ≡ suc (name_length m l) = name_first m x l false e in
    let left : length (name_of m (x ∷ l)).1 ≡ length (drop k (x ∷ l)) = ap (λ p. length p.1) (name_splits m (x ∷ l)) in
    omega (arith, left, long, length-drop k (x ∷ l))

-- ---- the text stored under it

module _ {es : Store} {name : List ℕ} {r : Found} (m : Marks) (s : GetsText es name r) where
  pub not_stored : r ≡ None → Gives None (of_stored m (find name es))
  unfolding of_stored
  not_stored e = gives_value (rw (← s.is, e)) tt

  pub stored_value : {t : List ℕ} → r ≡ Some t → {v : Valued} → Gives v (stored_number m t) → Gives v (of_stored m (find name es))
  unfolding of_stored
  stored_value e g = rw (← s.is, e) g

-- ---- a name as an operand

module _ (m : Marks) (st : Store) (l : List ℕ) {k : ℕ} (is : k ≡ name_length m l) {name left : List ℕ} (front : name ≡ take k l) (back : left ≡ drop k l) where
  at_is : name_at m st l ≡ giving (of_stored m (find name st)) left
  at_is = rw (front, back, is) (ap (λ p. giving (of_stored m (find p.0 st)) p.1) (name_splits m l))

  pub no_name : Gives None (of_stored m (find name st)) → ◌≡◌ {A = Read} none (name_at m st l)
  unfolding giving
  no_name g = rw (at_is, ← g.is)

  -- the value is read back from its bits
  pub name_read : {z : ℤ} → Gives (Some z) (of_stored m (find name st)) → ◌≡◌ {A = Read} (some (read_back z, left)) (name_at m st l)
  unfolding giving
  name_read {z} g = rw (told_in z g.fits, at_is, ← g.is)
