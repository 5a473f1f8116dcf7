-- Each name, or each text, written with a mark after it.
use mathlib.Core.Path.{◌≡◌, refl, sym, ap, ap₂, ◌∙◌, subst}
use mathlib.Core.List.{List, [], ◌∷◌, ◌++◌, append_assoc, append-nil}
use Prim.Native.Nat.{ℕ, suc, ◌+◌, ◌≤◌, ◌<◌}
use native.Mathlib.Omega.{arith}
use lib.ListN.{length, get_or, set, take, drop, length-append}
use lib.Seq.{paste, paste-suc, take-length, take-append_seam, get_or_at, length-take-le}
use Rattle.model.specs.Store.{Store}
use Rattle.buffer.specs.Pasted.{Pasted}
use Rattle.buffer.specs.Written.{Written}
use Rattle.buffer.proofs.Written.{written_none, written-length, written-copy}
use Rattle.store.specs.Memory.{held}
use Rattle.store.specs.Seek.{entries_left, FirstEntry, BeginsEntries}
use Rattle.store.specs.List.{part_at, each, Marked, WritesEach}
use Rattle.store.specs.declared.Index.{Index}
use Rattle.store.specs.declared.Entry.{Entry}
use Rattle.store.specs.declared.Entries.{Entries}
use Rattle.store.specs.declared.Part.{Part}

-- a copy and a byte after it are one copy
pub marks : {o : List ℕ} {a : ℕ} {s o' : List ℕ} {b : ℕ} → Pasted o a s (length s) o' → a + length s < length o → Marked o a s b (a + length s + 1) (set o' (a + length s) b)
marks {o} {a} {s} {o'} {b} p h =
    let n : ℕ = length s in
    let t : List ℕ = s ++ (b ∷ []) in
    let l : length t ≡ n + 1 = length-append s (b ∷ []) in
    let z : suc n ≡ length t = omega arith in
    let e : o' ≡ paste o a t n = p.is ∙ ap (λ (x : List ℕ). take a o ++ x ++ drop (a + n) o) (take-length s ∙ sym (take-append_seam s (b ∷ []))) in
    let f : b ≡ get_or t n 0 = sym (get_or_at s b [] 0 n refl) in
    record {
      is = record { is = ap₂ (λ (x : List ℕ) (v : ℕ). set x (a + n) v) e f ∙ paste-suc o a t n 0 (omega arith) (omega arith) ∙ ap (λ (i : ℕ). paste o a t i) z };
      end = omega arith;
    }

-- the loop: what is written, and what the entries that are left add, is all
pub record Writing (m : List ℕ) (x : Index) (p : Part) (b : ℕ) (o : List ℕ) (start : ℕ) (s : Entries) (w : ℕ) (out : List ℕ) : Type 0 where
  pub front : List ℕ
  pub wrote : Written o front w out
  pub long : length out ≡ length o
  pub comes : front ++ each p b (entries_left s) ≡ take start o ++ each p b (held x.count m)
  pub room : start + length (each p b (held x.count m)) ≤ length o

pub write_begins : {m : List ℕ} {x : Index} {p : Part} {b : ℕ} {o : List ℕ} {start : ℕ} {s : Entries} → BeginsEntries m x s → start + length (each p b (held x.count m)) ≤ length o
    → Writing m x p b o start s start o
write_begins {p = p} {b} {o} {start} g h = record {
  front = take start o;
  wrote = written_none o start (omega arith);
  long = refl;
  comes = ap (λ (es : Store). take start o ++ each p b es) g.is;
  room = h;
}

-- what a turn writes, and what comes after it
record Turn (m : List ℕ) (x : Index) (p : Part) (b : ℕ) (o : List ℕ) (start w : ℕ) (front l : List ℕ) (t : Entries) : Type 0 where
  comes : front ++ (l ++ (b ∷ [])) ++ each p b (entries_left t) ≡ take start o ++ each p b (held x.count m)
  room : w + length (l ++ (b ∷ [])) ≤ length o

module _ {m : List ℕ} {x : Index} {p : Part} {b : ℕ} {o : List ℕ} {start w : ℕ} {out : List ℕ} {s : Entries} {e : Entry} {t : Entries} {l : List ℕ}
    (g : Writing m x p b o start s w out) (f : FirstEntry s e t) (q : l ≡ part_at p (e.name.now, e.text.now)) where
  turn : Turn m x p b o start w g.front l t
  unfolding each
  turn =
      let r : List ℕ = each p b (entries_left t) in
      let comes : g.front ++ (l ++ (b ∷ [])) ++ r ≡ take start o ++ each p b (held x.count m) =
      append_assoc g.front (l ++ (b ∷ [])) r
      ∙ ap (λ (x : List ℕ). g.front ++ x) (append_assoc l (b ∷ []) r ∙ ap (λ (x : List ℕ). x ++ (b ∷ r)) q)
      ∙ sym (ap (λ (es : Store). g.front ++ each p b es) f.is)
      ∙ g.comes in
      let l1 = ap (λ (x : List ℕ). length x) comes in
      let l2 = length-append (g.front ++ (l ++ (b ∷ []))) r in
      let l3 = length-append g.front (l ++ (b ∷ [])) in
      let l4 = length-append (take start o) (each p b (held x.count m)) in
      let l6 = length-take-le start o (omega (arith, g.room)) in
      let l7 = g.wrote.long in
      record { comes = comes; room = omega (arith, l1, l2, l3, l4, l6, l7, g.room) }

  pub write_room : w + length l < length out
  write_room =
      let r = turn.room in
      let k = length-append l (b ∷ []) in
      omega (arith, r, k, g.long)

  pub write-on : {w' : ℕ} {out' : List ℕ} → Marked out w l b w' out' → Writing m x p b o start t w' out'
  write-on {w'} {out'} k =
      let z : List ℕ = l ++ (b ∷ []) in
      let v : Written o (g.front ++ z) w' out' =
      subst (λ (i : ℕ). Written o (g.front ++ z) i out') (sym k.end) (written-copy g.wrote k.is turn.room) in
      record { front = g.front ++ z; wrote = v; long = written-length v; comes = turn.comes; room = g.room }

pub write_done : {m : List ℕ} {x : Index} {p : Part} {b : ℕ} {o : List ℕ} {start w : ℕ} {out : List ℕ} {s : Entries} → Writing m x p b o start s w out → entries_left s ≡ []
    → WritesEach m x p b start o w out
unfolding each
write_done {p = p} {b} {o} {w = w} {out} g h =
    record { is = subst (λ (f : List ℕ). Written o f w out) (sym (append-nil g.front) ∙ sym (ap (λ (es : Store). g.front ++ each p b es) h) ∙ g.comes) g.wrote }

-- what the goals of write_each go by
pub ruleset writing_each = (write_begins, write-on)
