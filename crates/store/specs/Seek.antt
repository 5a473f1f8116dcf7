-- A walk through the entries, where one lies, and what `seek` answers.
use Rattle.std.specs.Prelude.{◌≡◌, true, false, List, [], ◌∷◌, ℕ, ◌+◌, ◌≤◌, ◌<◌, length, get_or, drop, Option as Answered, Some, None, MatchOption, IfSome}
use Rattle.std.proofs.Math.Option.{Option, none, some}
use Rattle.model.specs.Text.{same, part}
use Rattle.model.specs.Store.{Store, find}
use Rattle.store.specs.Memory.{held, extent}
use Rattle.store.specs.declared.Index.{Index}
use Rattle.store.specs.declared.Entry.{Entry}
use Rattle.store.specs.declared.Entries.{Entries}

-- e is the entry at a
pub record EntryAt (memory : List ℕ) (a : ℕ) (e : Entry) : Type 0 where
  pub at : e.at ≡ a
  pub name : e.name.now ≡ part memory (a + 2) (a + 2 + get_or memory a 0)
  pub text : e.text.now ≡ part memory (a + 2 + get_or memory a 0) (a + 2 + get_or memory a 0 + get_or memory (a + 1) 0)
  pub name_long : length e.name.now ≡ get_or memory a 0
  pub text_long : length e.text.now ≡ get_or memory (a + 1) 0
  pub short : length e.text.now < 256

-- the entries that are left
abbrev pub entries_left : Entries → Store
entries_left s = held s.left (drop s.at s.memory.now)

-- where they end
abbrev pub entries_end : Entries → ℕ
entries_end s = s.at + extent s.left (drop s.at s.memory.now)

-- they end within memory
abbrev pub IsWithin : Entries → Type 0
IsWithin s = entries_end s ≤ length s.memory.now

-- e is the first of those that are left in s, and t has the others
pub record FirstEntry (s : Entries) (e : Entry) (t : Entries) : Type 0 where
  pub is : entries_left s ≡ (e.name.now, e.text.now) ∷ entries_left t
  pub at : e.at ≡ s.at
  pub next : t.at ≡ s.at + 2 + length e.name.now + length e.text.now
  pub end : entries_end t ≡ entries_end s
  pub memory : t.memory.now ≡ s.memory.now
  pub short : length e.text.now < 256

-- a call from s gave the first, or none where none is left
abbrev pub YieldsEntry : Entries → Answered Entry → Entries → Type 0
YieldsEntry s r t = MatchOption r (entries_left s ≡ []) (λ e. FirstEntry s e t)

-- r has all entries
pub record BeginsEntries (memory : List ℕ) (x : Index) (r : Entries) : Type 0 where
  pub is : entries_left r ≡ held x.count memory
  pub within : IsWithin r
  pub begins : r.at ≡ 0
  pub end : entries_end r ≡ x.used

-- what the code answers: an offset, or none
abbrev pub Place : Type 0
Place = Answered ℕ

-- where the entry of a name begins, the entries beginning at a
unfoldable pub place_in : List ℕ → ℕ → Store → Place
place_in name a [] = None
place_in name a (e ∷ es) = elim (same e.0 name) [ true ↦ Some a | false ↦ place_in name (a + 2 + length e.0 + length e.1) es ]

-- the entry of a name begins there, if it has one
pub record Locates (memory : List ℕ) (x : Index) (name : List ℕ) (r : Place) : Type 0 where
  pub is : r ≡ place_in name 0 (held x.count memory)

-- what the code answers: a text, or none
abbrev pub Found : Type 0
Found = Answered (List ℕ)

-- the text of an answer
abbrev pub found_text : Found → Option (List ℕ)
found_text (Some t) = some t
found_text None = none

-- what `seek` answers
pub record SeeksName (memory : List ℕ) (x : Index) (name : List ℕ) (r : Found) : Type 0 where
  pub is : found_text r ≡ find name (held x.count memory)
  pub short : IfSome r (λ t. length t < 256)

-- where an entry begins, and its text
abbrev pub entry_place : Answered Entry → Place
entry_place (Some e) = Some e.at
entry_place None = None

abbrev pub entry_text : Answered Entry → Found
entry_text (Some e) = Some e.text.now
entry_text None = None

-- what `find_entry` answers
pub record FindsEntry (memory : List ℕ) (x : Index) (name : List ℕ) (r : Answered Entry) : Type 0 where
  pub place : Locates memory x name (entry_place r)
  pub text : SeeksName memory x name (entry_text r)
