-- What `listing` and its parts write.
use Rattle.std.specs.Prelude.{◌≡◌, List, [], ◌∷◌, ◌++◌, ℕ, ◌+◌, ◌-◌, ◌≤◌, ◌<◌, length, take, set}
use Rattle.model.specs.Limits.{store_least}
use Rattle.model.specs.Store.{Store, listing}
use Rattle.buffer.specs.Pasted.{Pasted}
use Rattle.buffer.specs.Written.{Written}
use Rattle.store.specs.Memory.{held}
use Rattle.store.specs.declared.Index.{Index}
use Rattle.store.specs.declared.Part.{Part}
use Rattle.store.specs.declared.Part.TheVariants.{Name, Text}

-- a part of an entry
abbrev pub part_at : Part → List ℕ × List ℕ → List ℕ
part_at Name e = e.0
part_at Text e = e.1

-- that of each, with the byte b after it
unfoldable pub each : Part → ℕ → Store → List ℕ
each p b [] = []
each p b (e ∷ es) = part_at p e ++ (b ∷ each p b es)

-- what `write_marked` does: o' is o with s and the byte b from offset a up to r
pub record Marked (o : List ℕ) (a : ℕ) (s : List ℕ) (b r : ℕ) (o' : List ℕ) : Type 0 where
  pub is : Pasted o a (s ++ (b ∷ [])) (length (s ++ (b ∷ []))) o'
  pub end : r ≡ a + length (s ++ (b ∷ []))

-- what `write_each` does: o' is o with the texts or names from offset w up to r
pub record WritesEach (m : List ℕ) (x : Index) (p : Part) (b w : ℕ) (o : List ℕ) (r : ℕ) (o' : List ℕ) : Type 0 where
  pub is : Written o (take w o ++ each p b (held x.count m)) r o'

-- what `close_names` does: a byte 10 in place of the last byte before a, or alone
pub record ClosesNames (a : ℕ) (o : List ℕ) (r : ℕ) (o' : List ℕ) : Type 0 where
  pub alone : a ≡ 0 → (r ≡ 1) × (o' ≡ set o 0 10)
  pub last : 0 < a → (r ≡ a) × (o' ≡ set o (a - 1) 10)

-- what `listing` does: o' is o with the listing of the entries in front, of r bytes
pub record Lists (m : List ℕ) (x : Index) (o : List ℕ) (r : ℕ) (o' : List ℕ) : Type 0 where
  pub is : Written o (listing (held x.count m)) r o'
  pub few : r ≤ store_least
