-- The entries that memory holds. An entry is a byte with the name's length, one with the text's, the name and the text.
use Rattle.std.specs.Prelude.{◌≡◌, true, List, [], ◌∷◌, ◌++◌, ℕ, zero, suc, ◌+◌, ◌*◌, ◌≤◌, length, take, drop}
use Rattle.model.specs.Limits.{names_most, memory_most, store_least}
use Rattle.model.specs.Store.{Store, within}
use Rattle.store.specs.declared.Index.{Index}

-- the first k entries of s
unfoldable pub held : ℕ → List ℕ → Store
held zero s = []
held (suc k) [] = []
held (suc k) (n ∷ []) = []
held (suc k) (n ∷ t ∷ s) = (take n s, take t (drop n s)) ∷ held k (drop t (drop n s))

-- how many bytes those take; more than s has where it does not have them
unfoldable pub extent : ℕ → List ℕ → ℕ
extent zero s = 0
extent (suc k) [] = 2
extent (suc k) (n ∷ []) = 2
extent (suc k) (n ∷ t ∷ s) = 2 + n + t + extent k (drop t (drop n s))

-- the bytes of entries
unfoldable pub packed : Store → List ℕ
packed [] = []
packed (e ∷ es) = length e.0 ∷ length e.1 ∷ (e.0 ++ (e.1 ++ packed es))

-- the index fits memory: what each function asks
pub record Kept (memory : List ℕ) (x : Index) : Type 0 where
  pub long : length memory ≡ store_least
  pub whole : extent x.count memory ≡ x.used
  pub few : x.count ≤ names_most
  pub small : x.used ≤ memory_most + 2 * x.count

-- memory and index hold the entries es: what each change ensures
pub record Holds (memory : List ℕ) (x : Index) (es : Store) : Type 0 where
  pub kept : Kept memory x
  pub is : held x.count memory ≡ es
  pub fits : within es ≡ true
