-- What the store's methods answer, from what its entries hold.
use mathlib.Core.Path.{◌≡◌, sym, ap, ◌∙◌}
use mathlib.Core.List.{List}
use Prim.Native.Nat.{ℕ}
use native.Mathlib.Omega.{arith}
use lib.ListN.{length}
use Rattle.model.specs.Store.{find}
use Rattle.store.specs.Memory.{held, Kept}
use Rattle.store.specs.Seek.{Found, SeeksName}
use Rattle.store.specs.Names.{Names, GetsText}
use Rattle.store.specs.declared.Index.{Index}
use Rattle.store.specs.Filled.{filled}

module _ {m : List ℕ} {x : Index} {es : Names} (k : Kept m x) (v : held x.count m ≡ es) where
  -- as many names as entries
  pub length_names : x.count ≡ length es
  length_names = sym (filled k).count ∙ ap (λ (l : Names). length l) v

  pub gets_text : {name : List ℕ} {r : Found} → SeeksName m x name r → GetsText es name r
  gets_text {name} s = record { is = s.is ∙ ap (λ (l : Names). find name l) v; short = s.short; few = omega (arith, length_names, k.few) }
