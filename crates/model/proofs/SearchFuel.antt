-- Any fuel that is enough gives the search the same result. The law: fuel_enough.
use mathlib.Core.Path.{◌≡◌, refl, ap, ap₂, fun_ext}
use mathlib.Core.Bool.{Bool, true, false}
use mathlib.Core.List.{List, [], ◌∷◌}
use mathlib.Core.Option.{Option, none, some}
use Prim.Native.Nat.{ℕ, zero, suc, ◌+◌, ◌≤◌, ◌<◌}
use native.Mathlib.Omega.{arith}
use lib.ListN.{length, length-append}
use Rattle.model.specs.declared.Marks.{Marks}
use Rattle.model.specs.Text.{Bytes}
use Rattle.model.specs.Reading.{atom}
use Rattle.model.specs.Parts.{Elem, lit, hole}
use Rattle.model.specs.Places.{with_byte, piece_found, with_atom, Place, is_in, Tried, idle, within, or_try, take_up, after_look, bytes_of_look, try_child, try_past, try_atom, try_byte, try_piece, try_place, beginnings, beginning_at, child_in, holey_in, together, fitting}
use Rattle.model.proofs.Atoms.{atom_sound}
use Rattle.model.proofs.Beginnings.{rank_in, rank_falls}

-- `rank` falls from a node to its children
module _ (m : Marks) (kid : ℕ → Elem → ℕ) (holey : ℕ → Bool) (rank : ℕ → ℕ) (falls : (i : ℕ) (e : Elem) (c : ℕ) → kid i e ≡ suc c → rank (suc c) < rank i) where
  -- the search, with n left
  abbrev go : ℕ → ℕ → ℕ → Bytes → List Place → Tried
  go n = try_place m kid holey n

  -- with n left, and with any other fuel that is enough
  Enough : ℕ → Type 0
  Enough n = (k i p : ℕ) (s : Bytes) (ds : List Place) → rank i + length s < n → rank i + length s < k → go n i p s ds ≡ go k i p s ds

  -- at a child
  child_enough : (n k i : ℕ) (e : Elem) (j q : ℕ) (s t : Bytes) (ds : List Place) → Enough n → kid i e ≡ j → length t ≤ length s → rank i + length s ≤ n → rank i + length s ≤ k
      → try_child (λ j. go n j q t ds) j ds ≡ try_child (λ j. go k j q t ds) j ds
  unfolding Enough
  child_enough n k i e zero q s t ds ih w l a b = refl
  child_enough n k i e (suc c) q s t ds ih w l a b = let d = falls i e c w in ih k (suc c) q t ds (omega arith) (omega arith)

  -- the three steps
  byte_enough : (n k i p : ℕ) (s : Bytes) (ds : List Place) → Enough n → rank i + length s ≤ n → rank i + length s ≤ k → try_byte kid (go n) i p s ds ≡ try_byte kid (go k) i p s ds
  byte_enough n k i p [] ds ih a b = refl
  byte_enough n k i p (x ∷ s) ds ih a b = ap (within (with_byte x)) (child_enough n k i (lit x) (kid i (lit x)) (p + 1) (x ∷ s) s ds ih refl (omega arith) a b)

  piece_enough : (n k i p : ℕ) (s : Bytes) (ds : List Place) → Enough n → rank i + length s ≤ n → rank i + length s ≤ k → try_piece kid (go n) i p s ds ≡ try_piece kid (go k) i p s ds
  piece_enough n k i p s ds ih a b = ap (within piece_found) (child_enough n k i hole (kid i hole) p s s ds ih refl (omega arith) a b)

  -- past an atom
  past_enough : (n k i p : ℕ) (s : Bytes) (o : Option (Bytes × Bytes)) (ds : List Place) → Enough n → atom m s ≡ o → rank i + length s ≤ n → rank i + length s ≤ k
      → try_past (go n i) p o ds ≡ try_past (go k i) p o ds
  unfolding Enough
  past_enough n k i p s none ds ih e a b = refl
  past_enough n k i p s (some (x, t)) ds ih e a b =
      let o = atom_sound m s x t e in
      let l : length t < length s = omega (arith, ap length o.joined, length-append x t, o.some_byte) in
      ap (within (with_atom x)) (ih k i (p + length x) t ds (omega arith) (omega arith))

  atom_enough : (n k i p : ℕ) (t : Bool) (s : Bytes) (ds : List Place) → Enough n → rank i + length s ≤ n → rank i + length s ≤ k → try_atom m (go n i) t p s ds ≡ try_atom m (go k i) t p s ds
  atom_enough n k i p true s ds ih a b = ap (after_look (bytes_of_look m s)) (past_enough n k i p s (atom m s) ds ih refl a b)
  atom_enough n k i p false s ds ih a b = refl

  -- with any fuel
  enough_all : (n : ℕ) → Enough n
  unfolding Enough try_place
  enough_all zero k i p s ds a b = absurd (omega arith)
  enough_all (suc n) zero i p s ds a b = absurd (omega arith)
  enough_all (suc n) (suc k) i p s ds a b = by (enough_all n)
    where
      x : Place
      x = record { node = i; at = p }

      by : Enough n → go (suc n) i p s ds ≡ go (suc k) i p s ds
      by ih =
          ap₂ (λ (t : Tried) (next : List Place → Tried). elim (is_in i p ds) as (λ _. Tried) [ true ↦ idle ds | false ↦ take_up x (or_try t next) ])
          (byte_enough n k i p s ds ih (omega arith) (omega arith))
          (fun_ext (λ ds. ap₂ (λ (t : Tried) (next : List Place → Tried). or_try t next) (piece_enough n k i p s ds ih (omega arith) (omega arith))
          (fun_ext (λ ds. atom_enough n k i p (holey i) s ds ih (omega arith) (omega arith)))))

  -- two fuels that are enough
  pub same_enough : (n k i p : ℕ) (s : Bytes) (ds : List Place) → rank i + length s < n → rank i + length s < k → try_place m kid holey n i p s ds ≡ try_place m kid holey k i p s ds
  unfolding Enough
  same_enough n = enough_all n

-- so the fuel of `fitting` doesn't matter, as it is enough
pub fuel_enough : (m : Marks) (ts : List Bytes) (line : Bytes) (n : ℕ) → together (beginnings m ts) + length line < n
    → try_place m (child_in (beginnings m ts)) (holey_in (beginnings m ts)) n 0 0 line [] ≡ fitting m ts line
unfolding fitting beginning_at
fuel_enough m ts line n lt =
    let bs = beginnings m ts in
    same_enough m (child_in bs) (holey_in bs) (rank_in bs) (rank_falls bs) n (suc (together bs + length line)) 0 0 line [] (omega arith) (omega arith)
