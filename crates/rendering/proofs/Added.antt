-- Bytes that come after the first w of a list, one part after the other.
use mathlib.Core.Path.{◌≡◌, sym, ap, subst}
use mathlib.Core.List.{[], ◌++◌, append_assoc, append-nil}
use Prim.Native.Nat.{ℕ, ◌+◌, ◌≤◌}
use native.Mathlib.Omega.{arith}
use lib.ListN.{length, take}
use Rattle.model.specs.Text.{Bytes}
use Rattle.buffer.specs.Written.{Written}
use Rattle.buffer.proofs.Written.{written_none, written-take, written-more}
use Rattle.rendering.specs.Added.{AddsAt}

-- what is written by another name
adds_by : {o : Bytes} {w : ℕ} {s front : Bytes} {n v : ℕ} {o' : Bytes} → Written o front v o' → front ≡ take w o ++ s → v ≡ w + n → AddsAt o w s n o'
adds_by {o} {w} {s} {front} {n} {v} {o'} r e f =
    record { is = subst (λ (k : ℕ). Written o (take w o ++ s) k o') f (subst (λ (x : Bytes). Written o x v o') e r) }

-- the same bytes by another name
pub adds_as : {o : Bytes} {w : ℕ} {s t : Bytes} {n k : ℕ} {o' : Bytes} → AddsAt o w s n o' → s ≡ t → n ≡ k → AddsAt o w t k o'
adds_as {o} {w} a e f = adds_by a.is (ap (λ (x : Bytes). take w o ++ x) e) (ap (λ (k : ℕ). w + k) f)

-- ---- what is added

-- nothing
pub adds_none : {o : Bytes} {w : ℕ} → w ≤ length o → AddsAt o w [] 0 o
adds_none {o} {w} h = adds_by (written_none o w h) (sym (append-nil (take w o))) (omega arith)

-- a part more
pub adds_more : {o : Bytes} {w : ℕ} {s t : Bytes} {n k : ℕ} {o₁ o₂ : Bytes} → AddsAt o w s n o₁ → AddsAt o₁ (w + n) t k o₂ → AddsAt o w (s ++ t) (n + k) o₂
adds_more {o} {w} {s} {t} {n} {k} a b = adds_by (written-more t a.is b.is) (append_assoc (take w o) s t) (omega arith)

-- ---- what is known then

-- they are the front, with what was there before them
pub adds_take : {o : Bytes} {w : ℕ} {s : Bytes} {n : ℕ} {o' : Bytes} → AddsAt o w s n o' → take (w + n) o' ≡ take w o ++ s
adds_take a = written-take a.is
