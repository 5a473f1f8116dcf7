-- What stands where after a copy or a move, over `paste` of lib.Seq.
use mathlib.Core.Path.{◌≡◌, ap, ap₂, ◌∙◌}
use mathlib.Core.List.{List}
use Prim.Native.Nat.{ℕ, ◌+◌, ◌≤◌, ◌<◌}
use native.Mathlib.Omega.{arith}
use lib.ListN.{length, get_or, set, take}
use lib.Seq.{paste-zero, take-paste, take-length, length-paste}
use Rattle.std.proofs.lemmas.List.Edits.{paste_more}
use Rattle.buffer.specs.Pasted.{Pasted}

-- the list is as long as before
pub pasted_long : {d : List ℕ} {at : ℕ} {s : List ℕ} {n : ℕ} {d' : List ℕ} → Pasted d at s n d' → at + n ≤ length d → n ≤ length s → length d' ≡ length d
pasted_long {d} {at} {s} {n} g h k = ap (λ (x : List ℕ). length x) g.is ∙ length-paste d at s n h k

-- what was pasted at the front
pub front_pasted : {d s d' : List ℕ} → Pasted d 0 s (length s) d' → length s ≤ length d → take (length s) d' ≡ s
front_pasted {d} {s} {d'} g h =
    let z : length s ≡ 0 + length s = omega arith in
    ap₂ (λ (n : ℕ) (x : List ℕ). take n x) z g.is ∙ take-paste d 0 s (length s) (omega arith) (omega arith) ∙ take-length s

-- ---- byte by byte

-- no byte yet
pub pasted_none : {d : List ℕ} {at : ℕ} {s : List ℕ} → Pasted d at s 0 d
pasted_none {d} {at} {s} = record { is = paste-zero d at s }

-- one more
pub pasted_more : {d : List ℕ} {at : ℕ} {s : List ℕ} {i : ℕ} {d' : List ℕ} → Pasted d at s i d' → at + i < length d → i < length s
    → Pasted d at s (i + 1) (set d' (at + i) (get_or s i 0))
pasted_more {d} {at} {s} {i} {d'} g h k = record {
  is = ap (λ (x : List ℕ). set x (at + i) (get_or s i 0)) g.is ∙ paste_more d at s i 0 h k;
}
