-- A list that is written from its front.
use mathlib.Core.Path.{◌≡◌, sym, ap, ap₂, ◌∙◌}
use mathlib.Core.List.{List, [], ◌∷◌, ◌++◌}
use Prim.Native.Nat.{ℕ, suc, ◌+◌, ◌-◌, ◌≤◌, ◌<◌}
use native.Mathlib.Omega.{arith}
use lib.ListN.{length, get_or, set, take, drop, length-append, length-drop, take-append-drop}
use lib.Seq.{take_at, take-length, set_at, drop-drop, drop_at, drop-cons, append_snoc, length-take-le}
use Rattle.buffer.specs.Pasted.{Pasted}
use Rattle.buffer.specs.Written.{Written}

pub written_none : (o : List ℕ) (w : ℕ) → w ≤ length o → Written o (take w o) w o
written_none o w h = record { is = sym (take-append-drop w o); long = length-take-le w o h; fits = h }

-- ---- what stands where

pub written-length : {o front : List ℕ} {w : ℕ} {out : List ℕ} → Written o front w out → length out ≡ length o
written-length {o} {front} {w} r =
    let a = length-append front (drop w o) in
    let b = length-drop w o in
    ap (λ (x : List ℕ). length x) r.is ∙ omega arith

pub written-take : {o front : List ℕ} {w : ℕ} {out : List ℕ} → Written o front w out → take w out ≡ front
written-take {o} {front} {w} r = ap (λ (x : List ℕ). take w x) r.is ∙ take_at front (drop w o) w r.long

-- from what is written on the list is as it was
pub written-drop : {o front : List ℕ} {w : ℕ} {out : List ℕ} → Written o front w out → (k : ℕ) → w ≤ k → drop k out ≡ drop k o
written-drop {o} {front} {w} {out} r k h =
    let j : ℕ = k - w in
    let z : k ≡ w + j = omega arith in
    ap (λ (i : ℕ). drop i out) z
    ∙ sym (drop-drop j w out)
    ∙ ap (λ (x : List ℕ). drop j x) (ap (λ (x : List ℕ). drop w x) r.is ∙ drop_at front (drop w o) w r.long)
    ∙ drop-drop j w o
    ∙ ap (λ (i : ℕ). drop i o) (sym z)

-- ---- what is written next

pub written-copy : {o front : List ℕ} {w : ℕ} {out s out' : List ℕ} → Written o front w out → Pasted out w s (length s) out' → w + length s ≤ length o
    → Written o (front ++ s) (w + length s) out'
written-copy {o} {front} {w} {out} {s} r g h = record {
  is = g.is ∙ ap₂ (λ (x y : List ℕ). x ++ y ++ drop (w + length s) out) (written-take r) (take-length s)
      ∙ ap (λ (x : List ℕ). front ++ s ++ x) (written-drop r (w + length s) (omega arith));
  long = length-append front s ∙ ap (λ (n : ℕ). n + length s) r.long;
  fits = h;
}

pub written_store : {o front : List ℕ} {w : ℕ} {out : List ℕ} (v : ℕ) → Written o front w out → w < length o → Written o (front ++ (v ∷ [])) (w + 1) (set out w v)
written_store {o} {front} {w} {out} v r h =
    let z : suc w ≡ w + 1 = omega arith in
    record {
      is = ap (λ (x : List ℕ). set x w v) (r.is ∙ ap (λ (x : List ℕ). front ++ x) (drop-cons o w 0 h)) ∙ set_at front (get_or o w 0) (drop (suc w) o) v w r.long
          ∙ sym (append_snoc front v (drop (suc w) o)) ∙ ap (λ (n : ℕ). front ++ (v ∷ []) ++ drop n o) z;
      long = length-append front (v ∷ []) ∙ ap (λ (n : ℕ). n + 1) r.long;
      fits = omega arith;
    }

-- what is written again, with what was written left in front
pub written-more : {o front : List ℕ} {w : ℕ} {out : List ℕ} (x : List ℕ) {w' : ℕ} {out' : List ℕ} → Written o front w out → Written out (take w out ++ x) w' out'
    → Written o (front ++ x) w' out'
written-more {o} {front} {w} {out} x {w'} r s =
    let n = written-length r in
    let e = written-take r in
    let a = length-append (take w out) x in
    let b = ap (λ (y : List ℕ). length y) e in
    record {
      is = s.is ∙ ap₂ (λ (y z : List ℕ). y ++ x ++ z) e (written-drop r w' (omega arith));
      long = ap (λ (y : List ℕ). length (y ++ x)) (sym e) ∙ s.long;
      fits = omega arith;
    }
