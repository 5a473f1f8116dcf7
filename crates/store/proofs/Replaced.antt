-- The text of a name that is there, replaced.
use mathlib.Core.Path.{◌≡◌, sym, ap, ap₂, ◌∙◌, subst}
use mathlib.Core.List.{List, [], ◌∷◌, ◌++◌, append_assoc}
use Prim.Native.Nat.{ℕ, ◌+◌, ◌-◌, ◌*◌, ◌≤◌, ◌<◌}
use native.Mathlib.Omega.{arith}
use lib.ListN.{length, get_or, set, take, drop, replicate, length-set, length-append}
use lib.Seq.{paste, take-length, take-take, take-append-le, drop-drop, take_at, drop_at, set_at, length-take-le, take-append_seam, drop-append_seam}
use Rattle.std.proofs.lemmas.List.{length-replicate}
use Rattle.model.specs.Store.{Store, put}
use Rattle.buffer.specs.Pasted.{Pasted}
use Rattle.buffer.proofs.Pasted.{pasted_long}
use Rattle.store.specs.Memory.{held, packed, Kept}
use Rattle.store.specs.Seek.{Locates}
use Rattle.store.specs.Put.{Puts, StaysClean}
use Rattle.store.specs.declared.Index.{Index}
use Rattle.std.specs.Prelude.{Some}
use Rattle.std.specs.Prelude.{Ok, Err}
use Rattle.store.specs.declared.Full.{Full}
use Rattle.store.proofs.Packed.{size-packed}
use Rattle.store.proofs.Placed.{Entry, entry, entry_text, entry_from-text, packed-long}
use Rattle.store.proofs.Holding.{holds_by, puts_done, puts_full, too_large}
use Rattle.store.proofs.Cleared.{stays_clean, clean_shorter}

module _ {m : List ℕ} {x : Index} {name : List ℕ} {p : ℕ} (y : Entry m x name p) where
  -- the entry up to its text
  up_to_text : take (p + 2 + length name) m ≡ y.before ++ (length name ∷ length y.text ∷ name)
  up_to_text =
      let h : List ℕ = y.before ++ (length name ∷ length y.text ∷ name) in
      let t : List ℕ = y.text ++ (y.after ++ drop x.used m) in
      let w : m ≡ h ++ t = y.is ∙ sym (append_assoc y.before (length name ∷ length y.text ∷ name) t) in
      let a = length-append y.before (length name ∷ length y.text ∷ name) in
      ap (λ (l : List ℕ). take (p + 2 + length name) l) w ∙ take_at h t (p + 2 + length name) (omega arith)

  past_text : drop (p + 2 + length name + length y.text) m ≡ y.after ++ drop x.used m
  past_text =
      sym (drop-drop (length y.text) (p + 2 + length name) m) ∙ ap (λ (l : List ℕ). drop (length y.text) l) (entry_from-text y)
      ∙ drop-append_seam y.text (y.after ++ drop x.used m)

  -- the move of what stands after the text, the copy of the new text and its length
  rewritten : {text m1 m2 : List ℕ} → p + 2 + length name + length text + length y.after ≤ length m
      → Pasted m (p + 2 + length name + length text) (y.after ++ drop x.used m) (length y.after) m1
      → Pasted m1 (p + 2 + length name) text (length text) m2
      → set m2 (p + 1) (length text) ≡ (y.before ++ (length name ∷ length text ∷ (name ++ (text ++ y.after)))) ++ drop (p + 2 + length name + length text + length y.after) m
  rewritten {text} {m1} {m2} fits g1 g2 =
      let b : List ℕ = y.before in
      let a : List ℕ = y.after in
      let f : ℕ = p + 2 + length name in
      let e : ℕ = f + length text in
      let h : List ℕ = b ++ (length name ∷ length y.text ∷ name) in
      let j : List ℕ = drop (e + length a) m in
      let le : length (take e m) ≡ e = length-take-le e m (omega arith) in
      let e1 : m1 ≡ take e m ++ (a ++ j) =
      g1.is ∙ ap (λ (l : List ℕ). take e m ++ l ++ j) (take-append_seam a (drop x.used m)) ∙ append_assoc (take e m) a j in
      let e2 : take f m1 ≡ h =
      ap (λ (l : List ℕ). take f l) e1 ∙ take-append-le f (take e m) (a ++ j) (omega arith) ∙ take-take f e m (omega arith) ∙ up_to_text in
      let e3 : drop e m1 ≡ a ++ j = ap (λ (l : List ℕ). drop e l) e1 ∙ drop_at (take e m) (a ++ j) e le in
      let e4 : m2 ≡ h ++ text ++ (a ++ j) = g2.is ∙ (λ i. e2 i ++ take-length text i ++ e3 i) in
      let s : List ℕ = name ++ (text ++ (a ++ j)) in
      let e5 : m2 ≡ (b ++ (length name ∷ [])) ++ (length y.text ∷ s) = e4 ∙ simp append_assoc in
      let l1 = length-append b (length name ∷ []) in
      ap (λ (l : List ℕ). set l (p + 1) (length text)) e5 ∙ set_at (b ++ (length name ∷ [])) (length y.text) s (length text) (p + 1) (omega arith) ∙ simp append_assoc

-- what memory is then, and the index: the bytes of the entries, and what was there behind them
record Rewritten (m : List ℕ) (x : Index) (name text w : List ℕ) (u : ℕ) : Type 0 where
  is : w ≡ packed (put name text (held x.count m)) ++ drop u m
  used : length (packed (put name text (held x.count m))) ≡ u
  count : length (put name text (held x.count m)) ≡ x.count
  long : length w ≡ 8704
  within : x.used ≤ 8704

module _ {m : List ℕ} {x : Index} {name : List ℕ} {p t : ℕ} {text m1 m2 : List ℕ} {b : ℕ} (k : Kept m x) (e : Locates m x name (Some p)) (g : t ≡ get_or m (p + 1) 0)
    (r : p + 2 + length name + length text + (x.used - (p + 2 + length name + t)) ≤ 8192 + 2 * x.count)
    (g1 : Pasted m (p + 2 + length name + length text) (drop (p + 2 + length name + t) m) (x.used - (p + 2 + length name + t)) m1)
    (g2 : Pasted m1 (p + 2 + length name) text (length text) m2)
    (eb : b ≡ length text) where
  rewrites : Rewritten m x name text (set m2 (p + 1) b) (p + 2 + length name + length text + (x.used - (p + 2 + length name + t)))
  rewrites =
      let y = entry k e in
      let n = entry_text y in
      let a : List ℕ = y.after in
      let zl : x.used - (p + 2 + length name + t) ≡ length a = omega arith in
      let zn : p + 2 + length name + t ≡ p + 2 + length name + length y.text = omega arith in
      let zu : p + 2 + length name + length text + length a ≡ p + 2 + length name + length text + (x.used - (p + 2 + length name + t)) = omega arith in
      let zq : drop (p + 2 + length name + t) m ≡ a ++ drop x.used m = ap (λ (i : ℕ). drop i m) zn ∙ past_text y in
      let p1 : Pasted m (p + 2 + length name + length text) (a ++ drop x.used m) (length a) m1 = record { is = g1.is ∙ (λ i. paste m (p + 2 + length name + length text) (zq i) (zl i)) } in
      let l1 = pasted_long p1 (omega arith) (simp length-append (omega arith)) in
      let l2 = pasted_long g2 (omega arith) (omega arith) in
      let l3 = length-set m2 (p + 1) b in
      let l4 = ap (λ (l : List ℕ). length l) (y.puts text) in
      let l5 = packed-long y.before name text a in
      record {
        is = ap (λ (v : ℕ). set m2 (p + 1) v) eb ∙ rewritten y (omega arith) p1 g2 ∙ ap₂ (λ (l : List ℕ) (i : ℕ). l ++ drop i m) (sym (y.puts text)) zu;
        used = omega arith;
        count = y.count text;
        long = omega arith;
        within = omega arith;
      }

  module _ {j : ℕ} {m3 : List ℕ} (g3 : Pasted (set m2 (p + 1) b) (p + 2 + length name + length text + (x.used - (p + 2 + length name + t))) (replicate j 0) j m3) where
    -- whatever is written behind the new end
    pub replaces : p + 2 + length name + length text + (x.used - (p + 2 + length name + t)) + j ≤ 8704
        → Puts m x name text m3 (Ok (record { count = x.count; used = p + 2 + length name + length text + (x.used - (p + 2 + length name + t)) }))
    replaces h =
        let es : Store = put name text (held x.count m) in
        let u : ℕ = p + 2 + length name + length text + (x.used - (p + 2 + length name + t)) in
        let w : List ℕ = set m2 (p + 1) b in
        let y = rewrites in
        let z : List ℕ = replicate j 0 in
        let l1 : length z ≡ j = length-replicate j 0 in
        let l2 = pasted_long g3 (omega (arith, h, y.long)) (omega (arith, l1)) in
        let l3 = length-take-le u w (omega (arith, h, y.long)) in
        let f : take u m3 ≡ packed es =
        ap (λ (l : List ℕ). take u l) g3.is ∙ ap (λ (l : List ℕ). take u l) (append_assoc (take u w) (take j z) (drop (u + j) w))
        ∙ take_at (take u w) (take j z ++ drop (u + j) w) u l3 ∙ ap (λ (l : List ℕ). take u l) y.is
        ∙ take_at (packed es) (drop u m) u y.used in
        puts_done (holds_by es m3 (record { count = x.count; used = u }) f (omega (arith, l2, y.long)) y.count y.used k.few r)

    -- zeroes, as far as the old entries went
    pub clears : j ≡ x.used - (p + 2 + length name + length text + (x.used - (p + 2 + length name + t)))
        → StaysClean m x m3 (Ok (record { count = x.count; used = p + 2 + length name + length text + (x.used - (p + 2 + length name + t)) }))
    clears q =
        let u : ℕ = p + 2 + length name + length text + (x.used - (p + 2 + length name + t)) in
        let y = rewrites in
        let w : List ℕ = set m2 (p + 1) b in
        let v : Index = record { count = x.count; used = u } in
        let d : drop u w ≡ drop u m = ap (λ (l : List ℕ). drop u l) y.is ∙ drop_at (packed (put name text (held x.count m))) (drop u m) u y.used in
        let z : Pasted w u (replicate (x.used - u) 0) (x.used - u) m3 = subst (λ (i : ℕ). Pasted w u (replicate i 0) i m3) q g3 in
        stays_clean (clean_shorter {y = v} (omega (arith, k.long, y.within)) (omega (arith, r, k.few, k.long)) (omega (arith, k.long, y.long)) d z)

pub too_long : {m : List ℕ} {x : Index} {name : List ℕ} {p t : ℕ} {text : List ℕ} {f : Full} → Kept m x → Locates m x name (Some p) → t ≡ get_or m (p + 1) 0
    → 8192 + 2 * x.count < p + 2 + length name + length text + (x.used - (p + 2 + length name + t)) → Puts m x name text m (Err f)
too_long {m} {x} {name} {p} {t} {text} k e g r =
    let es : Store = put name text (held x.count m) in
    let y = entry k e in
    let n = entry_text y in
    let c = y.count text in
    let l1 = ap (λ (l : List ℕ). length l) (y.puts text) in
    let l2 = packed-long y.before name text y.after in
    let s = size-packed es in
    puts_full (too_large es (omega arith) (omega arith))
