-- A walk through memory, entry by entry.
use mathlib.Core.Path.{◌≡◌, refl, sym, ap, ap₂, ◌∙◌, subst}
use mathlib.Core.List.{List, [], ◌∷◌}
use Prim.Native.Nat.{ℕ, zero, suc, ◌+◌, ◌-◌, ◌≤◌, ◌<◌}
use native.Mathlib.Omega.{arith}
use lib.ListN.{length, get_or, take, drop}
use lib.Seq.{drop-cons, drop-drop}
use Rattle.model.specs.Text.{part}
use Rattle.model.proofs.Text.{part_length}
use Rattle.store.specs.Memory.{held, extent}
use Rattle.store.specs.Seek.{EntryAt, entries_left, IsWithin, FirstEntry}
use Rattle.store.specs.declared.Entry.{Entry}
use Rattle.store.specs.declared.Entries.{Entries}

two_lengths : (k : ℕ) (s : List ℕ) → 2 ≤ extent (suc k) s
unfolding extent
two_lengths k [] = omega arith
two_lengths k (n ∷ []) = omega arith
two_lengths k (n ∷ t ∷ s) = omega arith

opened : (m : List ℕ) (a : ℕ) → a + 2 ≤ length m → drop a m ≡ get_or m a 0 ∷ get_or m (a + 1) 0 ∷ drop (a + 2) m
opened m a h =
    let e : suc a ≡ a + 1 = omega arith in
    let f : suc (suc a) ≡ a + 2 = omega arith in
    drop-cons m a 0 (omega arith) ∙ ap (λ (r : List ℕ). get_or m a 0 ∷ r) (drop-cons m (suc a) 0 (omega arith) ∙ ap₂ (λ (i j : ℕ). get_or m i 0 ∷ drop j m) e f)

-- the first entry that is left is the one at a
record First (m : List ℕ) (a k : ℕ) : Type 0 where
  fits : a + 2 + get_or m a 0 + get_or m (a + 1) 0 + extent k (drop (a + 2 + get_or m a 0 + get_or m (a + 1) 0) m) ≡ a + extent (suc k) (drop a m)
  entry : held (suc k) (drop a m) ≡ (take (get_or m a 0) (drop (a + 2) m), take (get_or m (a + 1) 0) (drop (a + 2 + get_or m a 0) m)) ∷ held k (drop (a + 2 + get_or m a 0 + get_or m (a + 1) 0) m)

first : (m : List ℕ) (a k : ℕ) → a + extent (suc k) (drop a m) ≤ length m → First m a k
unfolding extent held
first m a k h =
    let n : ℕ = get_or m a 0 in
    let t : ℕ = get_or m (a + 1) 0 in
    let w = two_lengths k (drop a m) in
    let e = opened m a (omega arith) in
    let z : a + 2 + (n + t) ≡ a + 2 + n + t = omega arith in
    let d : drop t (drop n (drop (a + 2) m)) ≡ drop (a + 2 + n + t) m = drop-drop t n (drop (a + 2) m) ∙ drop-drop (n + t) (a + 2) m ∙ ap (λ (i : ℕ). drop i m) z in
    let f : extent (suc k) (drop a m) ≡ 2 + n + t + extent k (drop t (drop n (drop (a + 2) m))) = ap (λ (s : List ℕ). extent (suc k) s) e in
    let g : extent k (drop t (drop n (drop (a + 2) m))) ≡ extent k (drop (a + 2 + n + t) m) = ap (λ (s : List ℕ). extent k s) d in
    record {
      fits = omega arith;
      entry = ap (λ (s : List ℕ). held (suc k) s) e
          ∙ ap₂ (λ (x y : List ℕ). (take n (drop (a + 2) m), take t x) ∷ held k y) (drop-drop n (a + 2) m) d;
    }

pub ahead : (m : List ℕ) (a left : ℕ) → (left ≡ 0 → ⊥) → a + extent left (drop a m) ≤ length m → a + 2 + get_or m a 0 + get_or m (a + 1) 0 ≤ length m
ahead m a zero z h = absurd (z refl)
ahead m a (suc k) z h = let f = first m a k h in omega (arith, f.fits)

-- the entry that is read at the walk's place is the first that is left
pub first_entry : {s : Entries} {e : Entry} {t : Entries} → (s.left ≡ 0 → ⊥) → IsWithin s → EntryAt s.memory.now s.at e
    → t.at ≡ s.at + (2 + length e.name.now + length e.text.now) → t.left ≡ s.left - 1 → t.memory.now ≡ s.memory.now → FirstEntry s e t
first_entry {s} {e} {t} z w r ta tl tm =
    let m : List ℕ = s.memory.now in
    let a : ℕ = s.at in
    let j : ℕ = s.left - 1 in
    let c : s.left ≡ suc j = omega arith in
    let f = first m a j (subst (λ (i : ℕ). a + extent i (drop a m) ≤ length m) c w) in
    let g0 : ℕ = get_or m a 0 in
    let g1 : ℕ = get_or m (a + 1) 0 in
    let zn : a + 2 + g0 - (a + 2) ≡ g0 = omega arith in
    let zk : a + 2 + g0 + g1 - (a + 2 + g0) ≡ g1 = omega arith in
    let zat : t.at ≡ a + 2 + g0 + g1 = omega (arith, ta, r.name_long, r.text_long) in
    let name : e.name.now ≡ take g0 (drop (a + 2) m) = r.name ∙ ap (λ (i : ℕ). take i (drop (a + 2) m)) zn in
    let text : e.text.now ≡ take g1 (drop (a + 2 + g0) m) = r.text ∙ ap (λ (i : ℕ). take i (drop (a + 2 + g0) m)) zk in
    record {
      is = ap (λ (i : ℕ). held i (drop a m)) c ∙ f.entry ∙ (λ i. (sym name i, sym text i) ∷ held (sym tl i) (drop (sym zat i) (sym tm i)));
      at = r.at;
      next = omega (arith, ta);
      end = (λ i. zat i + extent (tl i) (drop (zat i) (tm i))) ∙ f.fits ∙ ap (λ (i : ℕ). a + extent i (drop a m)) (sym c);
      memory = tm;
      short = r.short;
    }

pub entry_at : {m : List ℕ} {a : ℕ} {e : Entry} {n k : ℕ} → a + 2 + get_or m a 0 + get_or m (a + 1) 0 ≤ length m → n ≡ get_or m a 0 → k ≡ get_or m (a + 1) 0 → k < 256
    → e.at ≡ a → e.name.now ≡ part m (a + 2) (a + 2 + n) → e.text.now ≡ part m (a + 2 + n) (a + 2 + n + k) → EntryAt m a e
entry_at {m} {a} {e} {n} {k} h en ek b ea e1 e2 =
    let g0 : ℕ = get_or m a 0 in
    let g1 : ℕ = get_or m (a + 1) 0 in
    let name : e.name.now ≡ part m (a + 2) (a + 2 + g0) = e1 ∙ ap (λ (i : ℕ). part m (a + 2) (a + 2 + i)) en in
    let text : e.text.now ≡ part m (a + 2 + g0) (a + 2 + g0 + g1) = e2 ∙ ap₂ (λ (i j : ℕ). part m (a + 2 + i) (a + 2 + i + j)) en ek in
    let l1 : length e.name.now ≡ a + 2 + g0 - (a + 2) = ap (λ (l : List ℕ). length l) name ∙ part_length m (a + 2) (a + 2 + g0) (omega (arith, h)) in
    let l2 : length e.text.now ≡ a + 2 + g0 + g1 - (a + 2 + g0) = ap (λ (l : List ℕ). length l) text ∙ part_length m (a + 2 + g0) (a + 2 + g0 + g1) h in
    record { at = ea; name = name; text = text; name_long = omega (arith, l1); text_long = omega (arith, l2); short = omega (arith, l2, ek, b) }

pub nothing_left : (s : Entries) → s.left ≡ 0 → entries_left s ≡ []
unfolding held
nothing_left s e = ap (λ (i : ℕ). held i (drop s.at s.memory.now)) e

-- it may be called again, and fewer are left
pub still_within : {s : Entries} {e : Entry} {t : Entries} → IsWithin s → FirstEntry s e t → IsWithin t
still_within {s} {e} {t} w f = rw (f.end, f.memory) w
