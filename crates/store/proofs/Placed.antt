-- The entry of a name: among the entries, and in memory.
use mathlib.Core.Path.{◌≡◌, refl, sym, ap, ap₂, ◌∙◌}
use mathlib.Core.Bool.{Bool, true, false}
use mathlib.Core.Option.{none, some}
use mathlib.Core.List.{List, [], ◌∷◌, ◌++◌, append_assoc}
use Prim.Native.Nat.{ℕ, suc, ◌+◌, ◌≤◌}
use native.Mathlib.Omega.{arith}
use lib.ListN.{length, get_or, drop, length-append}
use lib.Seq.{drop-append_seam, drop-append-add, get_or-append-add}
use Rattle.model.specs.Text.{same}
use Rattle.model.specs.Store.{Store, find, put}
use Rattle.model.proofs.Choices.{when_true, when_false}
use Rattle.buffer.proofs.Same.{same_eq}
use Rattle.store.specs.Memory.{held, packed, Kept}
use Rattle.store.specs.Seek.{Place, place_in, Locates}
use Rattle.store.specs.declared.Index.{Index}
use Rattle.std.specs.Prelude.{Some, None}
use Rattle.store.specs.Filled.{filled}
use Rattle.store.proofs.Packed.{packed_append}

-- ---- among the entries

-- es has its first entry of that name at p, the entries beginning at a
record Spot (name : List ℕ) (a : ℕ) (es : Store) (p : ℕ) : Type 0 where
  front : Store
  text : List ℕ
  back : Store
  splits : es ≡ front ++ ((name, text) ∷ back)
  place : p ≡ a + length (packed front)
  finds : find name es ≡ some text
  puts : (v : List ℕ) → put name v es ≡ front ++ ((name, v) ∷ back)

spot_cons : (name : List ℕ) (a p : ℕ) (e : List ℕ × List ℕ) (es : Store) (q : Bool) → same e.0 name ≡ q
    → elim q as (λ _. Place) [ true ↦ Some a | false ↦ place_in name (a + 2 + length e.0 + length e.1) es ] ≡ Some p
    → (place_in name (a + 2 + length e.0 + length e.1) es ≡ Some p → Spot name (a + 2 + length e.0 + length e.1) es p)
    → Spot name a (e ∷ es) p
unfolding packed find put
spot_cons name a p e es true q h f =
    let n : e.0 ≡ name = same_eq e.0 name q in
    let b : a ≡ p = cc in
    record {
      front = [];
      text = e.1;
      back = es;
      splits = ap (λ (x : List ℕ). (x, e.1) ∷ es) n;
      place = omega arith;
      finds = when_true (some e.1) (find name es) q;
      puts = λ v. when_true ((name, v) ∷ es) (e ∷ put name v es) q;
    }
spot_cons name a p e es false q h f =
    let s = f h in
    let l1 = length-append e.0 (e.1 ++ packed s.front) in
    let l2 = length-append e.1 (packed s.front) in
    record {
      front = e ∷ s.front;
      text = s.text;
      back = s.back;
      splits = ap (λ (x : Store). e ∷ x) s.splits;
      place = omega arith;
      finds = when_false (some e.1) (find name es) q ∙ s.finds;
      puts = λ v. when_false ((name, v) ∷ es) (e ∷ put name v es) q ∙ ap (λ (x : Store). e ∷ x) (s.puts v);
    }

spot : (name : List ℕ) (es : Store) (a p : ℕ) → place_in name a es ≡ Some p → Spot name a es p
unfolding place_in
spot name [] a p h = let z : ◌≡◌ {A = ℕ} 0 1 = cc in absurd (omega arith)
spot name (e ∷ es) a p h =
    spot_cons name a p e es (same e.0 name) refl h (spot name es (a + 2 + length e.0 + length e.1) p)

-- es has no entry of that name
pub record Missing (name : List ℕ) (es : Store) : Type 0 where
  pub finds : find name es ≡ none
  pub puts : (v : List ℕ) → put name v es ≡ es ++ ((name, v) ∷ [])

missing_cons : (name : List ℕ) (a : ℕ) (e : List ℕ × List ℕ) (es : Store) (q : Bool) → same e.0 name ≡ q
    → elim q as (λ _. Place) [ true ↦ Some a | false ↦ place_in name (a + 2 + length e.0 + length e.1) es ] ≡ None
    → (place_in name (a + 2 + length e.0 + length e.1) es ≡ None → Missing name es)
    → Missing name (e ∷ es)
unfolding find put
missing_cons name a e es true q h f = let z : ◌≡◌ {A = ℕ} 0 1 = cc in absurd (omega arith)
missing_cons name a e es false q h f =
    let s = f h in
    record {
      finds = when_false (some e.1) (find name es) q ∙ s.finds;
      puts = λ v. when_false ((name, v) ∷ es) (e ∷ put name v es) q ∙ ap (λ (x : Store). e ∷ x) (s.puts v);
    }

pub missing : (name : List ℕ) (es : Store) (a : ℕ) → place_in name a es ≡ None → Missing name es
unfolding place_in find put
missing name [] a h = record { finds = refl; puts = λ v. refl }
missing name (e ∷ es) a h = missing_cons name a e es (same e.0 name) refl h (missing name es (a + 2 + length e.0 + length e.1))

-- ---- in memory

-- the entry of a name that is there, and what is found and put under the name
pub record Entry (m : List ℕ) (x : Index) (name : List ℕ) (p : ℕ) : Type 0 where
  pub text : List ℕ
  pub before : List ℕ
  pub after : List ℕ
  pub is : m ≡ before ++ (length name ∷ length text ∷ (name ++ (text ++ (after ++ drop x.used m))))
  pub place : length before ≡ p
  pub used : p + 2 + length name + length text + length after ≡ x.used
  pub finds : find name (held x.count m) ≡ some text
  pub puts : (v : List ℕ) → packed (put name v (held x.count m)) ≡ before ++ (length name ∷ length v ∷ (name ++ (v ++ after)))
  pub count : (v : List ℕ) → length (put name v (held x.count m)) ≡ x.count

pub packed-long : (before name text after : List ℕ)
    → length (before ++ (length name ∷ length text ∷ (name ++ (text ++ after)))) ≡ length before + 2 + length name + length text + length after
packed-long before name text after =
    let a = length-append before (length name ∷ length text ∷ (name ++ (text ++ after))) in
    let b = length-append name (text ++ after) in
    let c = length-append text after in
    omega arith

pub entry : {m : List ℕ} {x : Index} {name : List ℕ} {p : ℕ} → Kept m x → Locates m x name (Some p) → Entry m x name p
unfolding packed
entry {m} {x} {name} {p} k e =
    let es : Store = held x.count m in
    let rest : List ℕ = drop x.used m in
    let s = spot name es 0 p (sym e.is) in
    let g = filled k in
    let b : List ℕ = packed s.front in
    let a : List ℕ = packed s.back in
    let w : packed es ≡ b ++ (length name ∷ length s.text ∷ (name ++ (s.text ++ a))) =
    ap (λ (l : Store). packed l) s.splits ∙ packed_append s.front ((name, s.text) ∷ s.back) in
    let l1 = ap (λ (l : List ℕ). length l) w in
    let l2 = packed-long b name s.text a in
    record {
      text = s.text;
      before = b;
      after = a;
      is = g.is ∙ ap (λ (l : List ℕ). l ++ rest) w ∙ simp append_assoc;
      place = omega arith;
      used = omega arith;
      finds = s.finds;
      puts = λ v. ap (λ (l : Store). packed l) (s.puts v) ∙ packed_append s.front ((name, v) ∷ s.back);
      count = λ v.
          let c1 = ap (λ (l : Store). length l) (s.puts v) in
          let c2 = length-append s.front ((name, v) ∷ s.back) in
          let c3 = ap (λ (l : Store). length l) s.splits in
          let c4 = length-append s.front ((name, s.text) ∷ s.back) in
          omega arith;
    }

-- what is read there
module _ {m : List ℕ} {x : Index} {name : List ℕ} {p : ℕ} (e : Entry m x name p) where
  pub entry_text : get_or m (p + 1) 0 ≡ length e.text
  entry_text =
      let s : List ℕ = length name ∷ length e.text ∷ (name ++ (e.text ++ (e.after ++ drop x.used m))) in
      ap (λ (l : List ℕ). get_or l (p + 1) 0) e.is ∙ ap (λ (i : ℕ). get_or (e.before ++ s) (i + 1) 0) (sym e.place) ∙ get_or-append-add e.before s 1 0

  pub entry_from-text : drop (p + 2 + length name) m ≡ e.text ++ (e.after ++ drop x.used m)
  entry_from-text =
      let s : List ℕ = e.text ++ (e.after ++ drop x.used m) in
      let z : p + 2 + length name ≡ length e.before + suc (suc (length name)) = omega arith in
      ap₂ (λ (i : ℕ) (l : List ℕ). drop i l) z e.is
      ∙ drop-append-add e.before (length name ∷ length e.text ∷ (name ++ s)) (suc (suc (length name)))
      ∙ drop-append_seam name s

-- ---- as the functions ask it

-- where the entry ends
pub entry_used : {m : List ℕ} {x : Index} {name : List ℕ} {p : ℕ} → Kept m x → Locates m x name (Some p) → p + 2 + length name + get_or m (p + 1) 0 ≤ x.used
entry_used k e = let y = entry k e in let t = entry_text y in omega (arith, t, y.used)

pub used_within : {m : List ℕ} {x : Index} → Kept m x → x.used ≤ length m
used_within k = omega (arith, k.small, k.few, k.long)

-- so the entry lies in the memory
pub entry_within : {m : List ℕ} {x : Index} {name : List ℕ} {p : ℕ} → Kept m x → Locates m x name (Some p) → p + 2 + length name + get_or m (p + 1) 0 ≤ length m
entry_within k e = omega (arith, entry_used k e, used_within k)
