-- The whole listing: names, the byte 10, texts.
use mathlib.Core.Path.{◌≡◌, refl, sym, ap, ◌∙◌, subst}
use mathlib.Core.List.{List, [], ◌∷◌, ◌++◌, append_assoc}
use Prim.Native.Nat.{ℕ, zero, suc, ◌+◌, ◌-◌, ◌*◌, ◌≤◌, ◌<◌}
use native.Mathlib.Omega.{arith}
use lib.ListN.{length, set, take, drop, length-append}
use lib.Seq.{length-take-le, set_at}
use Rattle.model.specs.Store.{Store, names, texts, listing, size}
use Rattle.buffer.specs.Written.{Written}
use Rattle.buffer.proofs.Written.{written_none, written-length, written_store, written-more}
use Rattle.store.specs.Memory.{held, Kept}
use Rattle.store.specs.List.{each, WritesEach, ClosesNames, Lists}
use Rattle.store.specs.declared.Index.{Index}
use Rattle.store.specs.declared.Part.TheVariants.{Name, Text}
use Rattle.store.specs.Filled.{filled}
use Rattle.store.proofs.Packed.{size-packed}

-- ---- names and texts as `each` has them

each-names : (e : List ℕ × List ℕ) (es : Store) → each Name 0 (e ∷ es) ≡ names (e ∷ es) ++ (0 ∷ [])
unfolding each names
each-names e [] = refl
each-names e (f ∷ es) = ap (λ (r : List ℕ). e.0 ++ (0 ∷ r)) (each-names f es) ∙ sym (append_assoc e.0 (0 ∷ names (f ∷ es)) (0 ∷ []))

each-texts : (es : Store) → each Text 10 es ≡ texts es
unfolding each texts
each-texts [] = refl
each-texts (e ∷ es) = ap (λ (r : List ℕ). e.1 ++ (10 ∷ r)) (each-texts es)

each_long : (es : Store) → length (each Name 0 es) + length (each Text 10 es) ≡ size es + 2 * length es
unfolding each size
each_long [] = refl
each_long (e ∷ es) =
    let i = each_long es in
    let a = length-append e.0 (0 ∷ each Name 0 es) in
    let b = length-append e.1 (10 ∷ each Text 10 es) in
    omega arith

-- together they are as long as the entries
each_room : {m : List ℕ} {x : Index} → Kept m x → length (each Name 0 (held x.count m)) + length (each Text 10 (held x.count m)) ≡ x.used
each_room {m} {x} k =
    let g = filled k in
    let s = size-packed (held x.count m) in
    let e = each_long (held x.count m) in
    omega arith

pub names_fit : {m : List ℕ} {x : Index} {n : ℕ} → Kept m x → 8704 ≤ n → 0 + length (each Name 0 (held x.count m)) ≤ n
names_fit k h = let r = each_room k in omega arith

-- ---- the end of the names

closed : (es : Store) {o : List ℕ} {a : ℕ} {out : List ℕ} {r : ℕ} {out' : List ℕ} → 0 < length o → Written o (take 0 o ++ each Name 0 es) a out
    → ClosesNames a out r out' → Written o (names es ++ (10 ∷ [])) r out'
unfolding each names
closed [] {o} {a} {out} {r} {out'} h w c =
    let z : a ≡ 0 = sym w.long in
    let e = c.alone z in
    let f : out ≡ o = w.is ∙ ap (λ (i : ℕ). drop i o) z in
    let s : Written o (10 ∷ []) 1 (set o 0 10) = written_store 10 (written_none o 0 (omega arith)) h in
    subst (λ (i : ℕ). Written o (10 ∷ []) i out') (sym e.0) (subst (λ (y : List ℕ). Written o (10 ∷ []) 1 y) (ap (λ (y : List ℕ). set y 0 10) (sym f) ∙ sym e.1) s)
closed (e ∷ es) {o} {a} {out} {r} {out'} h w c =
    let n : List ℕ = names (e ∷ es) in
    let en = each-names e es in
    let l2 = ap (λ (y : List ℕ). length y) en in
    let l3 = length-append n (0 ∷ []) in
    let l4 = length-append n (10 ∷ []) in
    let d = c.last (omega arith) in
    let i1 : out ≡ n ++ (0 ∷ drop a o) = w.is ∙ ap (λ (y : List ℕ). y ++ drop a o) en ∙ append_assoc n (0 ∷ []) (drop a o) in
    let i2 : out' ≡ n ++ (10 ∷ []) ++ drop r o =
    d.1 ∙ ap (λ (y : List ℕ). set y (a - 1) 10) i1 ∙ set_at n 0 (drop a o) 10 (a - 1) (omega arith) ∙ sym (append_assoc n (10 ∷ []) (drop a o))
    ∙ ap (λ (i : ℕ). n ++ (10 ∷ []) ++ drop i o) (sym d.0) in
    record { is = i2; long = omega arith; fits = omega arith }

no_names : (es : Store) → length (each Name 0 es) ≡ 0 → length (each Text 10 es) ≡ 0
unfolding each
no_names [] h = refl
no_names (e ∷ es) h = let a = length-append e.0 (0 ∷ each Name 0 es) in absurd (omega arith)

closed_room : (es : Store) {a : ℕ} {out : List ℕ} {r : ℕ} {out' : List ℕ} {n : ℕ} → 0 < n → length (each Name 0 es) ≡ a → a + length (each Text 10 es) ≤ n
    → ClosesNames a out r out' → r + length (each Text 10 es) ≤ n
closed_room es {a = zero} p e h c = let f = (c.alone refl).0 in let g = no_names es e in omega arith
closed_room es {a = suc a} p e h c = let f = (c.last (omega arith)).0 in omega arith

-- ---- the listing

-- the texts end within 8,704 bytes
texts-end : {m : List ℕ} {x : Index} {o : List ℕ} {a : ℕ} {out : List ℕ} {r : ℕ} {out1 : List ℕ} → Kept m x → WritesEach m x Name 0 0 o a out → ClosesNames a out r out1
    → r + length (each Text 10 (held x.count m)) ≤ 8704
texts-end {m} {x} k l c =
    let e = each_room k in
    let f = l.is.long in
    closed_room (held x.count m) (omega arith) f (omega arith) c

pub texts_fit : {m : List ℕ} {x : Index} {o : List ℕ} {a : ℕ} {out : List ℕ} {r : ℕ} {out1 : List ℕ} → Kept m x → 8704 ≤ length o → WritesEach m x Name 0 0 o a out
    → ClosesNames a out r out1 → r + length (each Text 10 (held x.count m)) ≤ length out1
texts_fit {m} {x} k h l c =
    let n = written-length (closed (held x.count m) (omega arith) l.is c) in
    let e = texts-end k l c in
    omega arith

pub listed : {m : List ℕ} {x : Index} {o : List ℕ} {a : ℕ} {out : List ℕ} {r : ℕ} {out1 : List ℕ} {s : ℕ} {out2 : List ℕ} → Kept m x → 8704 ≤ length o
    → WritesEach m x Name 0 0 o a out → ClosesNames a out r out1 → WritesEach m x Text 10 r out1 s out2 → Lists m x o s out2
unfolding listing
listed {m} {x} {o} {a} {out} {r} {out1} {s} {out2} k h l c t =
    let es : Store = held x.count m in
    let v = closed es (omega arith) l.is c in
    let w = written-more (each Text 10 es) v t.is in
    let e = texts-end k l c in
    let f = v.fits in
    let n = written-length v in
    let p = length-append (take r out1) (each Text 10 es) in
    let q = length-take-le r out1 (omega arith) in
    let g = t.is.long in
    record {
      is = subst (λ (f : List ℕ). Written o f s out2) (append_assoc (names es) (10 ∷ []) (each Text 10 es) ∙ ap (λ (y : List ℕ). names es ++ (10 ∷ y)) (each-texts es)) w;
      few = omega arith;
    }
