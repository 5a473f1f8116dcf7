-- The table of macros, and the macros that it stands for.
use Rattle.std.specs.Prelude.{◌≡◌, List, [], ◌∷◌, ◌++◌, ℕ, zero, suc, ◌+◌, ◌≤◌, ◌<◌, map, length, get_or, set}
use Rattle.model.specs.Limits.{line_most, macros_most}
use Rattle.model.specs.declared.Marks.{Marks}
use Rattle.model.specs.Text.{Bytes, part}
use Rattle.model.specs.Load.{Macro, body_at}
use Rattle.macros.specs.declared.Entry.{Entry}
use Rattle.macros.specs.declared.Table.{Table}

-- what stands past the end of the entries
abbrev pub no_entry : Entry
no_entry = record { start = 0; len = 0; line = 0; body = 0 }

-- what the table has of macro k
abbrev pub entry_in : Table → ℕ → Entry
entry_in t k = get_or t.entries k no_entry

-- of macro k: where its template starts, how long that is, the number of its line, and where its body starts
abbrev pub start_in : Table → ℕ → ℕ
start_in t k = (entry_in t k).start

abbrev pub len_in : Table → ℕ → ℕ
len_in t k = (entry_in t k).len

abbrev pub line_in : Table → ℕ → ℕ
line_in t k = (entry_in t k).line

abbrev pub body_in : Table → ℕ → ℕ
body_in t k = (entry_in t k).body

-- where each macro's body starts
abbrev pub bodies_in : Table → List ℕ
bodies_in t = map (λ (e : Entry). e.body) t.entries

-- the number of the macro at a place of the order
abbrev pub order_in : Table → ℕ → ℕ
order_in t place = get_or t.order place 0

-- the table has one macro more, the last in the text: its number stands at a place of the order, those of the others from there on one place
-- further, and all else is as it was
pub record PutsMacro (t : Table) (e : Entry) (place : ℕ) (t' : Table) : Type 0 where
  pub more : t'.count ≡ t.count + 1
  pub entries : t'.entries ≡ set t.entries t.count e
  pub last : entry_in t' t.count ≡ e
  pub before : (i : ℕ) → i < place → order_in t' i ≡ order_in t i
  pub there : order_in t' place ≡ t.count
  pub further : (i : ℕ) → place ≤ i → i < t.count → order_in t' (suc i) ≡ order_in t i
  pub behind : (i : ℕ) → t.count < i → order_in t' i ≡ order_in t i

-- ---- what a table stands for

-- template k, and the first n templates
abbrev pub template_in : Bytes → Table → ℕ → Bytes
template_in text t k = part text (start_in t k) (start_in t k + len_in t k)

unfoldable pub templates_in : Bytes → Table → ℕ → List Bytes
templates_in text t zero = []
templates_in text t (suc n) = templates_in text t n ++ (template_in text t n ∷ [])

-- macro k, and the first n macros
abbrev pub macro_in : Marks → Bytes → Table → ℕ → Macro
macro_in m text t k = record { line = line_in t k; template = template_in text t k; body = body_at m text (body_in t k) }

unfoldable pub macros_in : Marks → Bytes → Table → ℕ → List Macro
macros_in m text t zero = []
macros_in m text t (suc n) = macros_in m text t n ++ (macro_in m text t n ∷ [])

-- the table has the first n templates, and each lies in the text
pub record Entries (text : Bytes) (t : Table) (n : ℕ) : Type 0 where
  pub few : n ≤ macros_most
  pub inside : (k : ℕ) → k < n → start_in t k + len_in t k ≤ length text

-- they are short, and the bodies start in the text too
pub record EntriesInside (text : Bytes) (t : Table) (n : ℕ) : Type 0 where
  pub entries : Entries text t n
  pub short : (k : ℕ) → k < n → len_in t k ≤ line_most
  pub body : (k : ℕ) → k < n → body_in t k ≤ length text
