-- A new name and its text, appended.
use mathlib.Core.Path.{◌≡◌, sym, ap, ap₂, ◌∙◌}
use mathlib.Core.List.{List, [], ◌∷◌, ◌++◌, append_assoc, append-nil}
use Prim.Native.Nat.{ℕ, suc, ◌+◌, ◌*◌, ◌≤◌, ◌<◌}
use native.Mathlib.Omega.{arith}
use lib.ListN.{length, set, take, drop, length-set, length-append}
use Rattle.std.proofs.lemmas.List.{drop-drop, drop-set-lt}
use Rattle.std.proofs.lemmas.List.Edits.{drop-paste}
use lib.Seq.{take-length, take-paste, take_at, take-suc-set}
use Rattle.model.specs.Store.{Store, put}
use Rattle.buffer.specs.Pasted.{Pasted}
use Rattle.buffer.proofs.Pasted.{pasted_long}
use Rattle.store.specs.Memory.{held, packed, Kept}
use Rattle.store.specs.Seek.{Locates}
use Rattle.store.specs.Put.{Puts, StaysClean}
use Rattle.store.specs.declared.Index.{Index}
use Rattle.std.specs.Prelude.{None}
use Rattle.std.specs.Prelude.{Ok, Err}
use Rattle.store.specs.declared.Full.{Full}
use Rattle.store.specs.Filled.{filled}
use Rattle.store.proofs.Packed.{packed_append, size-packed}
use Rattle.store.proofs.Placed.{missing}
use Rattle.store.proofs.Holding.{holds_by, puts_done, puts_full, too_many, too_large}
use Rattle.store.proofs.Cleared.{stays_clean, clean_longer}

-- the entries with one more
record Grown (m : List ℕ) (x : Index) (name text : List ℕ) : Type 0 where
  front : take x.used m ≡ packed (held x.count m)
  bytes : packed (put name text (held x.count m)) ≡ packed (held x.count m) ++ (length name ∷ length text ∷ (name ++ text))
  count : length (put name text (held x.count m)) ≡ suc x.count
  long : length (packed (put name text (held x.count m))) ≡ x.used + 2 + length name + length text

grown : {m : List ℕ} {x : Index} {name : List ℕ} (text : List ℕ) → Kept m x → Locates m x name None → Grown m x name text
unfolding packed
grown {m} {x} {name} text k e =
    let es : Store = held x.count m in
    let g = filled k in
    let s = missing name es 0 (sym e.is) in
    let bytes : packed (put name text es) ≡ packed es ++ (length name ∷ length text ∷ (name ++ text)) =
    ap (λ (y : Store). packed y) (s.puts text) ∙ packed_append es ((name, text) ∷ []) ∙ simp append-nil in
    let l1 = ap (λ (y : List ℕ). length y) bytes in
    let l2 = length-append (packed es) (length name ∷ length text ∷ (name ++ text)) in
    let l3 = length-append name text in
    let c1 = ap (λ (y : Store). length y) (s.puts text) in
    let c2 = length-append es ((name, text) ∷ []) in
    record {
      front = ap (λ (y : List ℕ). take x.used y) g.is ∙ take_at (packed es) (drop x.used m) x.used (omega arith);
      bytes = bytes;
      count = omega arith;
      long = omega arith;
    }

module _ {m : List ℕ} {x : Index} {name text m1 m2 : List ℕ} {b c : ℕ} (k : Kept m x) (e : Locates m x name None)
    (f : x.count ≡ 256 → ⊥) (r : x.used + 2 + length name + length text ≤ 8192 + 2 * (x.count + 1))
    (eb : b ≡ length name) (ec : c ≡ length text)
    (g1 : Pasted (set (set m x.used b) (x.used + 1) c) (x.used + 2) name (length name) m1)
    (g2 : Pasted m1 (x.used + 2 + length name) text (length text) m2) where
  pub appends : Puts m x name text m2 (Ok (record { count = x.count + 1; used = x.used + 2 + length name + length text }))
  appends =
      let w = grown text k e in
      let u : ℕ = x.used in
      let F : List ℕ = packed (held x.count m) in
      let s1 : List ℕ = set m u b in
      let s2 : List ℕ = set s1 (u + 1) c in
      let l1 = length-set m u b in
      let l2 = length-set s1 (u + 1) c in
      let z1 : u + 1 ≡ suc u = omega arith in
      let z2 : u + 2 ≡ suc (u + 1) = omega arith in
      let t1 : take (u + 1) s1 ≡ F ++ (b ∷ []) = ap (λ (i : ℕ). take i s1) z1 ∙ take-suc-set m u b (omega arith) ∙ ap (λ (y : List ℕ). y ++ (b ∷ [])) w.front in
      let t2 : take (u + 2) s2 ≡ F ++ (b ∷ []) ++ (c ∷ []) = ap (λ (i : ℕ). take i s2) z2 ∙ take-suc-set s1 (u + 1) c (omega arith) ∙ ap (λ (y : List ℕ). y ++ (c ∷ [])) t1 in
      let l3 = pasted_long g1 (omega arith) (omega arith) in
      let l4 = pasted_long g2 (omega arith) (omega arith) in
      let t3 : take (u + 2 + length name) m1 ≡ F ++ (b ∷ []) ++ (c ∷ []) ++ name =
      ap (λ (y : List ℕ). take (u + 2 + length name) y) g1.is ∙ take-paste s2 (u + 2) name (length name) (omega arith) (omega arith)
      ∙ ap₂ (λ (y z : List ℕ). y ++ z) t2 (take-length name) in
      let t4 : take (u + 2 + length name + length text) m2 ≡ F ++ (b ∷ []) ++ (c ∷ []) ++ name ++ text =
      ap (λ (y : List ℕ). take (u + 2 + length name + length text) y) g2.is ∙ take-paste m1 (u + 2 + length name) text (length text) (omega arith) (omega arith)
      ∙ ap₂ (λ (y z : List ℕ). y ++ z) t3 (take-length text) in
      let t5 : F ++ (b ∷ []) ++ (c ∷ []) ++ name ++ text ≡ F ++ (b ∷ c ∷ (name ++ text)) = simp append_assoc in
      puts_done (holds_by (put name text (held x.count m)) m2 (record { count = x.count + 1; used = u + 2 + length name + length text })
      (t4 ∙ t5 ∙ ap₂ (λ (i j : ℕ). F ++ (i ∷ j ∷ (name ++ text))) eb ec ∙ sym w.bytes)
      (omega arith) (omega arith) (omega arith) (omega arith) (omega arith))

  pub appends_clean : StaysClean m x m2 (Ok (record { count = x.count + 1; used = x.used + 2 + length name + length text }))
  appends_clean =
      let u : ℕ = x.used in
      let s1 : List ℕ = set m u b in
      let s2 : List ℕ = set s1 (u + 1) c in
      let v : Index = record { count = x.count + 1; used = u + 2 + length name + length text } in
      let l1 = length-set m u b in
      let l2 = length-set s1 (u + 1) c in
      let l3 = pasted_long g1 (omega (arith, k.long, k.few, r)) (omega arith) in
      let l4 = pasted_long g2 (omega (arith, k.long, k.few, r)) (omega arith) in
      let d1 : drop (u + 2 + length name) m1 ≡ drop (u + 2 + length name) s2 =
      ap (λ (l : List ℕ). drop (u + 2 + length name) l) g1.is ∙ drop-paste s2 (u + 2) name (length name) (omega (arith, k.long, k.few, r)) (omega arith) in
      let d2 : drop (u + 2 + length name + length text) m2 ≡ drop (u + 2 + length name + length text) s2 =
      ap (λ (l : List ℕ). drop (u + 2 + length name + length text) l) g2.is
      ∙ drop-paste m1 (u + 2 + length name) text (length text) (omega (arith, k.long, k.few, r)) (omega arith)
      ∙ sym (drop-drop (length text) (u + 2 + length name) m1) ∙ ap (λ (l : List ℕ). drop (length text) l) d1 ∙ drop-drop (length text) (u + 2 + length name) s2 in
      let d3 = drop-set-lt (u + 2 + length name + length text) s1 (u + 1) c (omega arith) in
      let d4 = drop-set-lt (u + 2 + length name + length text) m u b (omega arith) in
      stays_clean (clean_longer {y = v} (omega arith) (omega arith) (d2 ∙ d3 ∙ d4))

pub no_more : {m : List ℕ} {x : Index} {name text : List ℕ} {f : Full} → Kept m x → Locates m x name None → x.count ≡ 256 → Puts m x name text m (Err f)
no_more {m} {x} {name} {text} k e q =
    let w = grown text k e in
    puts_full (too_many (put name text (held x.count m)) (omega arith))

pub no_room : {m : List ℕ} {x : Index} {name text : List ℕ} {f : Full} → Kept m x → Locates m x name None → (x.count ≡ 256 → ⊥)
    → 8192 + 2 * (x.count + 1) < x.used + 2 + length name + length text → Puts m x name text m (Err f)
no_room {m} {x} {name} {text} k e q r =
    let w = grown text k e in
    let s = size-packed (put name text (held x.count m)) in
    puts_full (too_large (put name text (held x.count m)) (omega arith) (omega arith))
