-- What callers take from the contracts, over the store that memory holds.
use mathlib.Core.Path.{◌≡◌, ap, ◌∙◌}
use mathlib.Core.List.{List}
use Prim.Native.Nat.{ℕ}
use lib.ListN.{take, drop}
use lib.Seq.{take_at}
use Rattle.model.specs.Store.{Store}
use Rattle.store.specs.Memory.{held, packed, Kept, Holds}
use Rattle.store.specs.Filled.{filled}
use Rattle.store.specs.Clean.{Clean}
use Rattle.store.specs.Put.{Stored, Puts, StaysClean}
use Rattle.store.specs.declared.Index.{Index}
use Rattle.std.specs.Prelude.{Ok}
use Rattle.store.proofs.Holding.{holds_by}

-- the index fits memory: it holds what is read there, and that is within the limits
pub kept_holds : {m : List ℕ} {x : Index} → Kept m x → Holds m x (held x.count m)
kept_holds {m} {x} k =
    let es : Store = held x.count m in
    let g = filled k in
    holds_by es m x (ap (λ (l : List ℕ). take x.used l) g.is ∙ take_at (packed es) (drop x.used m) x.used g.long) k.long g.count g.long k.few k.small

pub put_kept : {m : List ℕ} {x : Index} {name text m' : List ℕ} {r : Stored} {y : Index} → Puts m x name text m' r → r ≡ Ok y → Kept m' y
put_kept p e = (p.done _ e).kept

pub put_clean : {m : List ℕ} {x : Index} {m' : List ℕ} {r : Stored} {y : Index} → StaysClean m x m' r → r ≡ Ok y → Clean m x → Clean m' y
put_clean p e c = p.is _ e c
