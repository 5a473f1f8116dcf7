-- Laws of parts of a text, and of numbers among others.
use mathlib.Core.Path.{◌≡◌, refl, ap, sym, ◌∙◌}
use mathlib.Core.Bool.{true}
use mathlib.Core.List.{List, [], ◌∷◌, ◌++◌}
use Prim.Native.Nat.{ℕ, zero, suc, ◌+◌, ◌-◌, ◌≤◌, ◌<◌}
use native.Mathlib.Nat.{min-le_left, sub-zero}
use native.Mathlib.Numerals.{add-one}
use native.Mathlib.Omega.{arith}
use lib.Dec.{eqb}
use lib.ListN.{length, get_or, take, drop, length-take, length-drop}
use lib.Seq.{length-take-le, take_all, take-take, take-nil, take-suc, take-add, drop-cons, drop-drop, get_or-drop}
use Rattle.model.specs.Text.{Bytes, has, part}
use Rattle.model.proofs.Choices.{both}

-- ---- how long it is

pub part_length : (s : Bytes) (a e : ℕ) → e ≤ length s → length (part s a e) ≡ e - a
part_length s a e h = length-take-le (e - a) (drop a s) (omega (arith, length-drop a s))

-- a part given by its length
pub part-long : (s : Bytes) (a n : ℕ) → a + n ≤ length s → length (part s a (a + n)) ≡ n
part-long s a n h = part_length s a (a + n) h ∙ omega arith

-- wherever the list ends
pub part_most : (s : Bytes) (a e : ℕ) → length (part s a e) ≤ e - a
part_most s a e = simp length-take (omega (arith, min-le_left (e - a) (length (drop a s))))

-- ---- a whole list, its front and its rest

pub part-rest : (s : Bytes) (a : ℕ) → part s a (length s) ≡ drop a s
part-rest s a = take_all (length s - a) (drop a s) (omega (arith, length-drop a s))

pub part-whole : (s : Bytes) → part s 0 (length s) ≡ s
part-whole s = part-rest s 0

pub part_front : (s : Bytes) (n : ℕ) → part s 0 n ≡ take n s
part_front s n = ap (λ (k : ℕ). take k s) (sub-zero n)

-- ---- its bytes

pub part_empty : (s : Bytes) (a e : ℕ) → e ≤ a → part s a e ≡ []
part_empty s a e h = let z : e - a ≡ 0 = omega arith in ap (λ (n : ℕ). take n (drop a s)) z

-- its first byte, and the rest
pub part_cons : (s : Bytes) (a e : ℕ) → a < e → e ≤ length s → part s a e ≡ get_or s a 0 ∷ part s (suc a) e
part_cons s a e h k =
    let z : e - a ≡ suc (e - suc a) = omega arith in
    ap (λ (n : ℕ). take n (drop a s)) z ∙ ap (take (suc (e - suc a))) (drop-cons s a 0 (omega arith))

-- the same, with the next place written as a sum
pub part_first : (s : Bytes) (a e : ℕ) → a < e → e ≤ length s → part s a e ≡ get_or s a 0 ∷ part s (a + 1) e
part_first s a e h k = part_cons s a e h k ∙ ap (λ (i : ℕ). get_or s a 0 ∷ part s i e) (sym (add-one a))

-- one byte more
pub part-more : (s : Bytes) (a e : ℕ) → a ≤ e → e < length s → part s a (e + 1) ≡ part s a e ++ get_or s e 0 ∷ []
part-more s a e h k =
    let x : e + 1 - a ≡ suc (e - a) = omega arith in
    let y : a + (e - a) ≡ e = omega arith in
    rw x (take-suc (drop a s) (e - a) 0 (simp length-drop (omega arith)) ∙ rw (get_or-drop, y) refl)

-- ---- a part of it

pub part-take : (s : Bytes) (a e n : ℕ) → n ≤ e - a → take n (part s a e) ≡ part s a (a + n)
part-take s a e n h = let z : a + n - a ≡ n = omega arith in take-take n (e - a) (drop a s) h ∙ ap (λ (k : ℕ). take k (drop a s)) (sym z)

pub drop-take : (b n : ℕ) (l : Bytes) → drop b (take n l) ≡ take (n - b) (drop b l)
drop-take zero n l = ap (λ (k : ℕ). take k l) (sym (sub-zero n))
drop-take (suc b) zero l = let z : 0 - suc b ≡ 0 = omega arith in ap (λ (k : ℕ). take k (drop (suc b) l)) (sym z)
drop-take (suc b) (suc n) [] = sym (take-nil (suc n - suc b))
drop-take (suc b) (suc n) (x ∷ l) = let z : suc n - suc b ≡ n - b = omega arith in drop-take b n l ∙ ap (λ (k : ℕ). take k (drop b l)) (sym z)

pub part-drop : (s : Bytes) (a e n : ℕ) → drop n (part s a e) ≡ part s (a + n) e
part-drop s a e n =
    let z : e - a - n ≡ e - (a + n) = omega arith in
    drop-take n (e - a) (drop a s) ∙ ap (take (e - a - n)) (drop-drop n a s) ∙ ap (λ (k : ℕ). take k (drop (a + n) s)) z

-- two parts in a row
pub part_join : (s : Bytes) (a b c : ℕ) → a ≤ b → b ≤ c → part s a b ++ part s b c ≡ part s a c
part_join s a b c h k =
    let x : a + (b - a) ≡ b = omega arith in
    let y : b - a + (c - b) ≡ c - a = omega arith in
    ap (λ (j : ℕ). part s a b ++ take (c - b) (drop j s)) (sym x) ∙ ap (λ (l : Bytes). part s a b ++ take (c - b) l) (sym (drop-drop (b - a) a s))
    ∙ sym (take-add (b - a) (c - b) (drop a s)) ∙ ap (λ (n : ℕ). take n (drop a s)) y

-- ---- a number among others

-- is among these with one more in front
pub has_more : (k x : ℕ) (ns : List ℕ) → has k ns ≡ true → has k (x ∷ ns) ≡ true
unfolding has
has_more k x ns e = both (λ b. b ≡ true) (eqb x k) _ _ refl e
