-- A bit that is read and one that is added, by the binary digits of the byte that has it; and the row that is cleared.
use mathlib.Core.Path.{◌≡◌, refl, sym, ap, ◌∙◌}
use mathlib.Core.Bool.{Bool, true, false}
use mathlib.Core.Logic.{◌≢◌}
use mathlib.Core.List.{List, ◌++◌}
use Prim.Native.Nat.{ℕ, zero, suc, ◌+◌, ◌-◌, ◌*◌, ◌/◌, ◌%◌, ◌^◌, ◌≤◌, ◌<◌}
use native.Mathlib.Nat.{pow-suc, mul-mod_left, div-eq_of_lt, zero-div}
use native.Mathlib.Omega.{arith}
use borrow.Author.Tests.{ltb-true, ltb-false, eqb-true, eqb-false}
use lib.Bits.{bit_and, bit_or, and_mask, or_shr, or_mod, or_zero_r}
use lib.Dec.{eqb, ltb}
use lib.ListN.{length, get_or, set, take, drop, replicate}
use lib.Pow.{pow-add, pow-lt, shl_exact, shl-shr}
use lib.Seq.{get_or-set_same, get_or-set_other}
use Rattle.std.specs.Prelude.{min}
use Rattle.std.proofs.lemmas.Grind.{div_ceil_times}
use Rattle.std.proofs.lemmas.List.{get_or_append_left, get_or-append_right, get_or-drop, get_or-replicate, length-replicate, length-take-le}
use Rattle.places.specs.Bits.{bit_of, bit, AddsBit, ClearsBits}

-- ---- the digits of a number

-- the k-th digit of b, from the lowest
abbrev digit : ℕ → ℕ → ℕ
digit b k = b / 2 ^ k % 2

-- the k-th digit of 2 to the k is 1
own_digit : (k : ℕ) → digit (1 * 2 ^ k) k ≡ 1
own_digit k = ap (λ (q : ℕ). q % 2) (shl-shr 1 k)

-- its lower digits are 0
no_lower : (j k : ℕ) → j < k → digit (2 ^ k) j ≡ 0
no_lower j k lt =
    let e : ℕ = k - suc j in
    let z : k ≡ suc e + j = omega arith in
    ap (λ (n : ℕ). digit (2 ^ n) j) z
    ∙ ap (λ (n : ℕ). digit n j) (pow-add 2 (suc e) j)
    ∙ ap (λ (q : ℕ). q % 2) (shl-shr (2 ^ suc e) j ∙ pow-suc 2 e)
    ∙ mul-mod_left (2 ^ e) 2

-- and so are its higher digits
no_higher : (j k : ℕ) → k < j → digit (2 ^ k) j ≡ 0
no_higher j k lt = ap (λ (q : ℕ). q % 2) (div-eq_of_lt (pow-lt lt))

-- all its other digits, then
no_other : (j k : ℕ) → j ≢ k → digit (1 * 2 ^ k) j ≡ 0
no_other j k ne = ap (λ (n : ℕ). digit n j) (omega arith) ∙ by (ltb j k) refl
  where
    by : (t : Bool) → ltb j k ≡ t → digit (2 ^ k) j ≡ 0
    by true e = no_lower j k (ltb-true j k e)
    by false e = no_higher j k (let h = ltb-false j k e in omega arith)

-- two numbers are joined digit by digit
digit_or : (b w k : ℕ) → digit (bit_or b w) k ≡ bit_or (digit b k) (digit w k)
digit_or b w k = ap (λ (q : ℕ). q % 2) (or_shr b w k) ∙ or_mod (b / 2 ^ k) (w / 2 ^ k) 1

-- a digit joined with 1 is 1
or_one : (d : ℕ) → d < 2 → bit_or d 1 ≡ 1
or_one zero lt = refl
or_one (suc zero) lt = refl
or_one (suc (suc d)) lt = absurd (omega arith)

-- ---- the bits of a byte

-- the byte b with its k-th bit set, as the code computes it
abbrev with_bit : ℕ → ℕ → ℕ
with_bit b k = bit_or b (1 * 2 ^ k % 256)

module _ (b k : ℕ) (lt : k < 8) where
  -- the bit's weight fits in a byte
  whole : with_bit b k ≡ bit_or b (1 * 2 ^ k)
  whole = ap (bit_or b) (shl_exact 1 k 8 (omega arith) (omega arith))

  -- the bit is there
  bit-set : bit_of (with_bit b k) k ≡ true
  unfolding bit_of
  bit-set =
      ap (λ (d : ℕ). eqb d 1)
      (ap (λ (n : ℕ). digit n k) whole ∙ digit_or b (1 * 2 ^ k) k ∙ ap (bit_or (digit b k)) (own_digit k) ∙ or_one (digit b k) (omega arith))

  -- every other bit is as it was
  bit_kept : (j : ℕ) → j ≢ k → bit_of (with_bit b k) j ≡ bit_of b j
  unfolding bit_of
  bit_kept j ne =
      ap (λ (d : ℕ). eqb d 1)
      (ap (λ (n : ℕ). digit n j) whole ∙ digit_or b (1 * 2 ^ k) j ∙ ap (bit_or (digit b j)) (no_other j k ne) ∙ or_zero_r (digit b j))

-- the byte 0 has no bit
no_bit : (k : ℕ) → bit_of 0 k ≡ false
unfolding bit_of
no_bit k = ap (λ (q : ℕ). eqb (q % 2) 1) (zero-div (2 ^ k))

-- ---- the bits of a row

-- the bit as the code reads it
pub bit_read : (row : List ℕ) (x : ℕ) → eqb (bit_and (get_or row (x / 8) 0 / 2 ^ (x % 8)) 1) 1 ≡ bit row x
unfolding bit bit_of
bit_read row x = ap (λ (d : ℕ). eqb d 1) (and_mask (get_or row (x / 8) 0 / 2 ^ (x % 8)) 1)

-- the row as the code writes it
pub bit_added : (row : List ℕ) (x : ℕ) → x / 8 < length row → AddsBit row (set row (x / 8) (with_bit (get_or row (x / 8) 0) (x % 8))) x
unfolding bit
bit_added row x lt = record {
  here = ap (λ (v : ℕ). bit_of v k) (get_or-set_same row i b 0 lt) ∙ bit-set (get_or row i 0) k (omega arith);
  other = λ y ne. by y ne (eqb (y / 8) i) refl;
}
  where
    i : ℕ
    i = x / 8

    k : ℕ
    k = x % 8

    b : ℕ
    b = with_bit (get_or row i 0) k

    by : (y : ℕ) → y ≢ x → (t : Bool) → eqb (y / 8) i ≡ t → bit_of (get_or (set row i b) (y / 8) 0) (y % 8) ≡ bit_of (get_or row (y / 8) 0) (y % 8)
    by y ne true e =
        let q = eqb-true (y / 8) i e in
        ap (λ (j : ℕ). bit_of (get_or (set row i b) j 0) (y % 8)) q
        ∙ ap (λ (v : ℕ). bit_of v (y % 8)) (get_or-set_same row i b 0 lt)
        ∙ bit_kept (get_or row i 0) k (omega arith) (y % 8) (λ z. ne (omega arith))
        ∙ ap (λ (j : ℕ). bit_of (get_or row j 0) (y % 8)) (sym q)
    by y ne false e = ap (λ (v : ℕ). bit_of v (y % 8)) (get_or-set_other row i (y / 8) b 0 (eqb-false (y / 8) i e))

-- ---- the row that is cleared

-- its front is zeros, up to the last byte with a bit below n; the rest is as it was
pub clear_front : {row zs : List ℕ} {n k : ℕ} → n ≤ 8 * length row → k ≡ n / 8 + min 1 (n % 8) → zs ≡ replicate (length (take k row)) 0 → ClearsBits row (zs ++ drop k row) n
unfolding bit
clear_front {row} {zs} {n} {k} h e q =
    let t : (n ≤ k * 8) × (k * 8 < n + 8) = rw e (div_ceil_times n 8 (omega arith)) in
    let u : k ≤ length row = omega (arith, t.1, h) in
    let z : zs ≡ replicate k 0 = q ∙ ap (λ (m : ℕ). replicate m 0) (length-take-le k row u) in
    let l : length zs ≡ k = ap length z ∙ length-replicate k 0 in
    record {
      none = λ x lt.
          let w : x / 8 < k = omega (arith, t.0, lt) in
          ap (λ (b : ℕ). bit_of b (x % 8)) (get_or_append_left zs (drop k row) 0 (x / 8) (omega (arith, l, w)) ∙ ap (λ (ys : List ℕ). get_or ys (x / 8) 0) z ∙ get_or-replicate k (x / 8) 0 0 w) ∙ no_bit (x % 8);
      kept = λ j le.
          let w : k ≤ j = omega (arith, t.1, le) in
          let v : k + (j - k) ≡ j = omega (arith, w) in
          get_or-append_right zs (drop k row) k j 0 l w ∙ get_or-drop k row (j - k) 0 ∙ ap (λ (i : ℕ). get_or row i 0) v;
    }
