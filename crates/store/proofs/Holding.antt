-- When memory holds entries, and when `put` is done or refused.
use mathlib.Core.Path.{◌≡◌, refl, sym, ap, ap₂, ◌∙◌, subst}
use mathlib.Core.Bool.{Bool, false, ◌&&◌}
use mathlib.Core.List.{List, [], ◌++◌}
use Prim.Native.Nat.{ℕ, ◌+◌, ◌*◌, ◌≤◌, ◌<◌}
use native.Mathlib.Omega.{arith}
use borrow.Author.Tests.{le-leb, lt-leb}
use lib.Dec.{leb}
use lib.ListN.{length, take, drop, take-append-drop}
use Rattle.model.specs.Store.{Store, put, size, within, memory_fault}
use Rattle.store.specs.Memory.{held, extent, packed, Holds}
use Rattle.store.specs.Put.{Puts}
use Rattle.store.specs.declared.Index.{Index}
use Rattle.std.specs.Prelude.{Ok, Err}
use Rattle.store.specs.declared.Full.{Full}
use Rattle.store.proofs.Packed.{held-packed, extent-packed, size-packed}

-- memory that begins with the bytes of entries holds them
pub holds_by : (es : Store) (m : List ℕ) (y : Index) → take y.used m ≡ packed es → length m ≡ 8704 → length es ≡ y.count → length (packed es) ≡ y.used
    → y.count ≤ 256 → y.used ≤ 8192 + 2 * y.count → Holds m y es
unfolding within
holds_by es m y e l c u f g =
    let w : m ≡ packed es ++ drop y.used m = sym (take-append-drop y.used m) ∙ ap (λ (x : List ℕ). x ++ drop y.used m) e in
    let s = size-packed es in
    record {
      kept = record {
        long = l;
        whole = ap₂ (λ (k : ℕ) (x : List ℕ). extent k x) (sym c) w ∙ extent-packed es (drop y.used m) ∙ u;
        few = f;
        small = g;
      };
      is = ap₂ (λ (k : ℕ) (x : List ℕ). held k x) (sym c) w ∙ held-packed es (drop y.used m);
      fits = ap₂ ◌&&◌ (le-leb (length es) 256 (omega arith)) (le-leb (size es) 8192 (omega arith));
    }

pub nothing_yet : (m : List ℕ) → length m ≡ 8704 → Holds m (record { count = 0; used = 0 }) []
unfolding packed
nothing_yet m l = holds_by [] m (record { count = 0; used = 0 }) refl l refl refl (omega arith) (omega arith)

pub puts_done : {m : List ℕ} {x : Index} {name text m' : List ℕ} {y : Index} → Holds m' y (put name text (held x.count m)) → Puts m x name text m' (Ok y)
puts_done {m} {x} {name} {text} {m'} {y} h = record {
  number = ap memory_fault (sym h.fits);
  done = λ z e. let q : y ≡ z = cc in subst (λ (i : Index). Holds m' i (put name text (held x.count m))) q h;
  full = λ f e. let z : ◌≡◌ {A = ℕ} 0 1 = cc in absurd (omega arith);
}

pub puts_full : {m : List ℕ} {x : Index} {name text : List ℕ} {f : Full} → within (put name text (held x.count m)) ≡ false → Puts m x name text m (Err f)
puts_full {m} {x} {name} {text} {f} h = record {
  number = ap memory_fault (sym h);
  done = λ y e. let z : ◌≡◌ {A = ℕ} 0 1 = cc in absurd (omega arith);
  full = λ g e. (refl, h);
}

pub too_many : (es : Store) → 256 < length es → within es ≡ false
unfolding within
too_many es h = ap (λ (b : Bool). b && leb (size es) 8192) (lt-leb (length es) 256 h)

pub too_large : (es : Store) → length es ≤ 256 → 8192 < size es → within es ≡ false
unfolding within
too_large es l h = ap₂ ◌&&◌ (le-leb (length es) 256 l) (lt-leb (size es) 8192 h)
