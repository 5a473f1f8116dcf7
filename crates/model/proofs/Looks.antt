-- The bytes of a look for the next atom, case by case, and that a search reads no more bytes than it takes up places times the line's length.
-- The laws: look-end, look-atom, look_right, look_open, look_most, few_bytes.
use mathlib.Core.Path.{◌≡◌, refl, ◌∙◌, ap}
use mathlib.Core.Bool.{Bool, true, false}
use mathlib.Core.List.{List, [], ◌∷◌, ◌++◌}
use mathlib.Core.Option.{Option, none, some}
use Prim.Native.Nat.{ℕ, zero, suc, ◌+◌, ◌*◌, ◌≤◌}
use native.Mathlib.Nat.{suc-mul, add-mul}
use native.Mathlib.Omega.{arith}
use lib.Dec.{eqb}
use lib.ListN.{length, length-append}
use borrow.Author.Tests.{eq-eqb, ne_eqb}
use Rattle.model.specs.declared.Marks.{Marks}
use Rattle.model.specs.Text.{Bytes}
use Rattle.model.specs.Reading.{atom}
use Rattle.model.specs.Parts.{Elem, lit, hole, stop}
use Rattle.model.specs.Places.{Found, Place, is_in, Tried, idle, or_try, take_up, bytes_of_look, try_child, try_end, try_past, try_atom, try_byte, try_piece, try_place}
use Rattle.model.proofs.Atoms.{none-some, atom_right, atom_sound}

-- ---- one look

module _ (m : Marks) where
  -- nothing is read at the line's end
  pub look-end : bytes_of_look m [] ≡ 0
  unfolding bytes_of_look
  look-end = refl

  -- an atom is read
  pub look-atom : (s a t : Bytes) → atom m s ≡ some (a, t) → bytes_of_look m s ≡ length a
  unfolding bytes_of_look atom
  look-atom [] a t e = none-some e
  look-atom (b ∷ s) a t e = rw (e, bytes_of_look) refl

  -- a right bracket alone
  pub look_right : (b : ℕ) (s : Bytes) → b ≡ m.right → bytes_of_look m (b ∷ s) ≡ 1
  unfolding bytes_of_look
  look_right b s r = rw (atom_right m b s r, eq-eqb b m.right r, bytes_of_look) refl

  -- and at any other byte with no atom, which is a left bracket without a partner, all that is left
  pub look_open : (b : ℕ) (s : Bytes) → ¬ (b ≡ m.right) → atom m (b ∷ s) ≡ none → bytes_of_look m (b ∷ s) ≡ length (b ∷ s)
  unfolding bytes_of_look
  look_open b s r e = rw (e, ne_eqb b m.right r, bytes_of_look) refl

  -- never more than is left
  pub look_most : (s : Bytes) → bytes_of_look m s ≤ length s
  unfolding bytes_of_look
  look_most [] = omega arith
  look_most (b ∷ s) = by (atom m (b ∷ s)) (eqb b m.right) refl
    where
      by : (o : Option (Bytes × Bytes)) (r : Bool) → atom m (b ∷ s) ≡ o
          → (elim o as (λ _. ℕ) [ some x ↦ length x.0 | none ↦ elim r as (λ _. ℕ) [ true ↦ 1 | false ↦ length (b ∷ s) ] ]) ≤ length (b ∷ s)
      by (some (a, t)) r e = omega (arith, ap length (atom_sound m (b ∷ s) a t e).joined, length-append a t)
      by none true e = omega arith
      by none false e = omega arith

-- ---- a search

module _ (m : Marks) (kid : ℕ → Elem → ℕ) (holey : ℕ → Bool) (w : ℕ) where
  -- w bytes are read at most for each place that is taken up
  abbrev Few : Tried → Type 0
  Few t = t.bytes ≤ length t.taken * w

  -- and for one more, whose look is among them
  abbrev FewLooked : Tried → Type 0
  FewLooked t = t.bytes ≤ suc (length t.taken) * w

  -- with n left, of the line's last w bytes
  FewAt : ℕ → Type 0
  FewAt n = (i p : ℕ) (s : Bytes) (ds : List Place) → length s ≤ w → Few (try_place m kid holey n i p s ds)

  -- at a child
  child_few : (n j p : ℕ) (s : Bytes) (ds : List Place) → FewAt n → length s ≤ w → Few (try_child (λ j. try_place m kid holey n j p s ds) j ds)
  unfolding FewAt
  child_few n zero p s ds ih l = omega arith
  child_few n (suc c) p s ds ih l = ih (suc c) p s ds l

  -- at a template's end
  end_few : (j p : ℕ) (ds : List Place) → Few (try_end j p ds)
  end_few zero p ds = omega arith
  end_few (suc j) p ds = omega arith

  -- the three steps
  byte_few : (n i p : ℕ) (s : Bytes) (ds : List Place) → FewAt n → length s ≤ w → Few (try_byte kid (try_place m kid holey n) i p s ds)
  byte_few n i p [] ds ih l = end_few (kid i stop) p ds
  byte_few n i p (b ∷ s) ds ih l = child_few n (kid i (lit b)) (p + 1) s ds ih (omega arith)

  piece_few : (n i p : ℕ) (s : Bytes) (ds : List Place) → FewAt n → length s ≤ w → Few (try_piece kid (try_place m kid holey n) i p s ds)
  piece_few n i p s ds ih l = child_few n (kid i hole) p s ds ih l

  past_few : (n i p : ℕ) (s : Bytes) (o : Option (Bytes × Bytes)) (ds : List Place) → FewAt n → atom m s ≡ o → length s ≤ w → Few (try_past (try_place m kid holey n i) p o ds)
  unfolding FewAt
  past_few n i p s none ds ih e l = omega arith
  past_few n i p s (some (a, t)) ds ih e l = ih i (p + length a) t ds (omega (arith, l, ap length (atom_sound m s a t e).joined, length-append a t))

  -- the third has the look of the place that is taken up
  atom_few : (n i p : ℕ) (b : Bool) (s : Bytes) (ds : List Place) → FewAt n → length s ≤ w → FewLooked (try_atom m (try_place m kid holey n i) b p s ds)
  atom_few n i p false s ds ih l = omega arith
  atom_few n i p true s ds ih l =
      let t = try_past (try_place m kid holey n i) p (atom m s) ds in
      omega (arith, past_few n i p s (atom m s) ds ih refl l, look_most m s, l, suc-mul (length t.taken) w)

  -- if a step leads nowhere, the next
  or_few : (o : Option Found) (ds ts : List Place) (c : ℕ) (next : List Place → Tried) → c ≤ length ts * w → ((ds : List Place) → FewLooked (next ds))
      → FewLooked (or_try (record { found = o; dead = ds; taken = ts; bytes = c }) next)
  or_few (some f) ds ts c next h g = omega (arith, h, suc-mul (length ts) w)
  or_few none ds ts c next h g =
      let n = length (next ds).taken in
      let e : suc (length (ts ++ (next ds).taken)) * w ≡ length ts * w + suc n * w = ap (λ (k : ℕ). k * w) (omega (arith, length-append ts (next ds).taken)) ∙ add-mul (length ts) (suc n) w in
      omega (arith, h, g ds, e)

  -- with any fuel
  few_all : (n : ℕ) → FewAt n
  unfolding FewAt try_place
  few_all zero i p s ds l = omega arith
  few_all (suc n) i p s ds l = by (is_in i p ds) (few_all n)
    where
      first : Tried
      first = try_byte kid (try_place m kid holey n) i p s ds

      second : List Place → Tried
      second ds = try_piece kid (try_place m kid holey n) i p s ds

      third : List Place → Tried
      third ds = try_atom m (try_place m kid holey n i) (holey i) p s ds

      by : (t : Bool) → FewAt n → Few (elim t as (λ _. Tried) [ true ↦ idle ds | false ↦ take_up (record { node = i; at = p }) (or_try first (λ ds. or_try (second ds) third)) ])
      by true ih = omega arith
      by false ih =
          or_few first.found first.dead first.taken first.bytes (λ ds. or_try (second ds) third) (byte_few n i p s ds ih l) (λ ds.
          let t = second ds in
          or_few t.found t.dead t.taken t.bytes third (piece_few n i p s ds ih l) (λ ds. atom_few n i p (holey i) s ds ih l))

  -- the bytes that a search reads are at most the places that it takes up times the bytes that are left
  pub few_bytes : (n i p : ℕ) (s : Bytes) (ds : List Place) → length s ≤ w → (try_place m kid holey n i p s ds).bytes ≤ length (try_place m kid holey n i p s ds).taken * w
  unfolding FewAt
  few_bytes n = few_all n
