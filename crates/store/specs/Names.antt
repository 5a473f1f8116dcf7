-- What the store's methods answer, over the names that it has with their texts.
use Rattle.std.specs.Prelude.{◌≡◌, false, List, ℕ, ◌≤◌, ◌<◌, length, Option, Result, Ok, Err, IfSome}
use Rattle.model.specs.Limits.{names_most, store_least}
use Rattle.model.specs.Store as Model
use Rattle.model.specs.Store.{find, put, within, memory_fault, listing}
use Rattle.buffer.specs.Written.{Written}
use Rattle.store.specs.Seek.{found_text}
use Rattle.store.specs.declared.Full.{Full}

abbrev pub Names : Type 0
Names = Model.Store

-- r is the text under a name, if it is stored; no text is long, and the names are never too many to be counted
pub record GetsText (es : Names) (name : List ℕ) (r : Option (List ℕ)) : Type 0 where
  pub is : found_text r ≡ find name es
  pub short : IfSome r (λ t. length t < 256)
  pub few : length es ≤ names_most

-- document 01's number for an answer: full is 19
abbrev pub put_fault : Result Unit Full → ℕ
put_fault (Ok _) = 0
put_fault (Err _) = 19

-- the text is stored, or would not be within the limits and nothing changes
pub record PutsText (es : Names) (name text : List ℕ) (r : Result Unit Full) (es' : Names) : Type 0 where
  pub number : put_fault r ≡ memory_fault (within (put name text es))
  pub done : r ≡ Ok tt → es' ≡ put name text es
  pub full : (f : Full) → r ≡ Err f → (es' ≡ es) × (within (put name text es) ≡ false)

-- o' is o with the listing in front, of r bytes
pub record ListsNames (es : Names) (o : List ℕ) (r : ℕ) (o' : List ℕ) : Type 0 where
  pub is : Written o (listing es) r o'
  pub few : r ≤ store_least
