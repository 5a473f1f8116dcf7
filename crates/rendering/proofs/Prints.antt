-- Bytes that are printed one part after another: what is printed then, and the room for what is left.
use mathlib.Core.Path.{◌≡◌, refl, sym, subst, ◌∙◌}
use mathlib.Core.List.{[], ◌++◌}
use Prim.Native.Nat.{ℕ, ◌+◌, ◌-◌, ◌≤◌}
use native.Mathlib.Omega.{arith}
use lib.ListN.{length, length-append}
use Rattle.model.specs.Text.{Bytes}
use Rattle.buffer.specs.Written.{Written}
use Rattle.buffer.proofs.Written.{written-length}
use Rattle.rendering.specs.Added.{AddsAt}
use Rattle.rendering.specs.Prints.{RoomFor, Prints}
use Rattle.rendering.proofs.Added.{adds_as, adds_none, adds_more}

-- nothing more
pub prints_none : {o : Bytes} {w : ℕ} → w ≤ length o → Prints o w [] w o
prints_none h = record { adds = adds_none h; ends = omega arith; long = refl; fits = h }

-- the same bytes by another name
pub prints_as : {o : Bytes} {w : ℕ} {s t : Bytes} {r : ℕ} {o' : Bytes} → s ≡ t → Prints o w s r o' → Prints o w t r o'
prints_as {o} {w} {r = r} {o'} e p = subst (λ (x : Bytes). Prints o w x r o') e p

pub room_as : {o : Bytes} {w : ℕ} {s t : Bytes} → s ≡ t → RoomFor o w s → RoomFor o w t
room_as {o} {w} e h = subst (λ (x : Bytes). RoomFor o w x) e h

-- ---- from the front

-- what is written there is printed
pub written_prints : {o s : Bytes} {w : ℕ} {o' : Bytes} → Written o s w o' → Prints o 0 s w o'
written_prints {o} {s} {w} {o'} h =
    let l = h.long in
    let z : w ≡ 0 + length s = omega arith in
    record { adds = record { is = subst (λ (n : ℕ). Written o s n o') z h }; ends = z; long = written-length h; fits = h.fits }

-- and what is printed there is written
pub prints_written : {o s : Bytes} {r : ℕ} {o' : Bytes} → Prints o 0 s r o' → Written o s r o'
prints_written {o} {s} {r} {o'} p = subst (λ (n : ℕ). Written o s n o') (sym p.ends) p.adds.is

-- ---- one part after another

-- a part more
pub prints_more : {o : Bytes} {w : ℕ} {s t : Bytes} {r k : ℕ} {o₁ o₂ : Bytes} → Prints o w s r o₁ → Prints o₁ r t k o₂ → Prints o w (s ++ t) k o₂
prints_more {o} {w} {s} {t} {r} {k} {o₁} {o₂} p q =
    let l = length-append s t in
    let a : AddsAt o₁ (w + length s) t (length t) o₂ = subst (λ (n : ℕ). AddsAt o₁ n t (length t) o₂) p.ends q.adds in
    record {
      adds = adds_as (adds_more p.adds a) refl (sym l);
      ends = omega (arith, p.ends, q.ends);
      long = q.long ∙ p.long;
      fits = omega (arith, q.fits, p.long);
    }

-- the room for a part
pub room_first : {o : Bytes} {w : ℕ} (s t : Bytes) → RoomFor o w (s ++ t) → RoomFor o w s
room_first s t h = let l = length-append s t in record { fits = omega (arith, h.fits) }

-- and for what comes after it
pub room_next : {o : Bytes} {w : ℕ} {s : Bytes} (t : Bytes) {r : ℕ} {o₁ : Bytes} → RoomFor o w (s ++ t) → Prints o w s r o₁ → RoomFor o₁ r t
room_next {s = s} t h p = let l = length-append s t in record { fits = omega (arith, h.fits, p.ends, p.long) }

-- a row of four parts
module _ {o : Bytes} {w : ℕ} (a b c d : Bytes) (h : RoomFor o w (a ++ b ++ c ++ d)) where
  pub room_1 : RoomFor o w a
  room_1 = room_first a b (room_first (a ++ b) c (room_first (a ++ b ++ c) d h))

  pub room_2 : {i : ℕ} {o₁ : Bytes} → Prints o w a i o₁ → RoomFor o₁ i b
  room_2 p = room_next b (room_first (a ++ b) c (room_first (a ++ b ++ c) d h)) p

  pub room_3 : {i j : ℕ} {o₁ o₂ : Bytes} → Prints o w a i o₁ → Prints o₁ i b j o₂ → RoomFor o₂ j c
  room_3 p q = room_next c (room_first (a ++ b ++ c) d h) (prints_more p q)

  pub room_4 : {i j k : ℕ} {o₁ o₂ o₃ : Bytes} → Prints o w a i o₁ → Prints o₁ i b j o₂ → Prints o₂ j c k o₃ → RoomFor o₃ k d
  room_4 p q r = room_next d h (prints_more (prints_more p q) r)

pub prints_4 : {o : Bytes} {w : ℕ} {a b c d : Bytes} {i j k l : ℕ} {o₁ o₂ o₃ o₄ : Bytes}
    → Prints o w a i o₁ → Prints o₁ i b j o₂ → Prints o₂ j c k o₃ → Prints o₃ k d l o₄ → Prints o w (a ++ b ++ c ++ d) l o₄
prints_4 p q r s = prints_more (prints_more (prints_more p q) r) s
