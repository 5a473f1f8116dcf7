-- What lies behind the bytes that entries take: zeroes. So the entries alone say which bytes memory has, and what its index is.
use mathlib.Core.Path.{◌≡◌, sym, ap, ◌∙◌}
use mathlib.Core.List.{List, ◌++◌}
use Prim.Native.Nat.{ℕ, ◌-◌}
use native.Mathlib.Omega.{arith}
use lib.ListN.{length, drop, replicate}
use Rattle.model.specs.Limits.{store_least}
use Rattle.model.specs.Store.{Store}
use Rattle.store.specs.Memory.{held, packed, Kept}
use Rattle.store.specs.Filled.{filled}
use Rattle.store.specs.declared.Index.{Index}

-- each byte that no entry takes is 0
pub record Clean (memory : List ℕ) (x : Index) : Type 0 where
  pub zeroes : drop x.used memory ≡ replicate (length memory - x.used) 0

-- the memory of entries, and its index
abbrev pub memory_of : Store → List ℕ
memory_of es = packed es ++ replicate (store_least - length (packed es)) 0

abbrev pub index_of : Store → Index
index_of es = record { count = length es; used = length (packed es) }

-- memory that is kept and clean is that of the entries that it holds
pub memory_back : {m : List ℕ} {x : Index} → Kept m x → Clean m x → memory_of (held x.count m) ≡ m
memory_back {m} {x} k c =
    let g = filled k in
    let P : List ℕ = packed (held x.count m) in
    let z : length m - x.used ≡ store_least - length P = omega (arith, k.long, g.long) in
    sym (g.is ∙ ap (λ (l : List ℕ). P ++ l) (c.zeroes ∙ ap (λ (n : ℕ). replicate n 0) z))

pub index_back : {m : List ℕ} {x : Index} → Kept m x → index_of (held x.count m) ≡ x
index_back k = let g = filled k in λ i. record { count = g.count i; used = g.long i }
