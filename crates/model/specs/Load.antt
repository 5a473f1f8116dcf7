-- Loading a text (document 01, "The text" and the table of numbers).
use Rattle.std.specs.Prelude.{Bool, true, false, not, ◌&&◌, ◌||◌, List, [], ◌∷◌, ◌++◌, ℕ, suc, ◌+◌, ◌-◌, min, eqb, leb, ltb, length, drop}
use Rattle.std.proofs.Math.Option.{Option, none, some}
use Rattle.model.specs.Limits.{text_most, line_most, macros_most, code_lines_most, nodes_most, placeholders_most}
use Rattle.model.specs.declared.Marks.{Marks}
use Rattle.model.specs.Text.{Bytes, same, has, starts_with, up_to, lines, marks_fault, marks_of}
use Rattle.model.specs.Code.{effect}
use Rattle.model.specs.declared.Effect.{Effect}
use Rattle.model.specs.declared.Effect.TheVariants.{Malformed, Plain, Opens, Closes, Owns}

pub record Macro : Type 0 where
  pub line : ℕ
  pub template : List ℕ
  pub body : List (List ℕ)

-- the templates, in the order of the text
unfoldable pub templates : List Macro → List Bytes
templates [] = []
templates (x ∷ xs) = x.template ∷ templates xs

-- the contents of a body's code lines: up to a line that begins with mark 3
unfoldable pub body_of : Marks → List (List ℕ) → List (List ℕ)
body_of m [] = []
body_of m (l ∷ ls) = elim (starts_with m.code l) [ true ↦ [] | false ↦ up_to m.code l ∷ body_of m ls ]

-- the body whose first line stands at a place of the text
abbrev pub body_at : Marks → Bytes → ℕ → List Bytes
body_at m text at = body_of m (lines (drop at text))

-- the macros so far, their code lines' number, whether the last one's body is being read, how many iterations are open
-- there, and whether a layout is due
pub record Progress : Type 0 where
  pub macros : List Macro
  pub codes : ℕ
  pub in_body : Bool
  pub opened : ℕ
  pub due : Bool

pub data Seen : Type 0 where
  fault : ℕ → Seen
  more : Progress → Seen
  section_ends : Seen

-- the lowest number of the causes that hold
unfoldable pub lowest : List (Bool × ℕ) → Option ℕ
lowest [] = none
lowest (c ∷ cs) = elim c.0 [ true ↦ some c.1 | false ↦ lowest cs ]

unfoldable pub count : ℕ → List ℕ → ℕ
count b [] = 0
count b (x ∷ s) = elim (eqb x b) [ true ↦ suc (count b s) | false ↦ count b s ]

unfoldable pub met : List ℕ → List Macro → Bool
met t [] = false
met t (x ∷ xs) = elim (same t x.template) [ true ↦ true | false ↦ met t xs ]

-- p is a beginning of t
unfoldable pub begins : List ℕ → List ℕ → Bool
begins [] t = true
begins (x ∷ p) [] = false
begins (x ∷ p) (y ∷ t) = elim (eqb x y) [ true ↦ begins p t | false ↦ false ]

unfoldable pub begun : List ℕ → List Macro → Bool
begun p [] = false
begun p (x ∷ xs) = elim (begins p x.template) [ true ↦ true | false ↦ begun p xs ]

-- how many beginnings of p ++ t longer than p are not beginnings of earlier templates; its end is one more
unfoldable pub fresh : List ℕ → List ℕ → List Macro → ℕ
fresh p [] ms = 1
fresh p (x ∷ t) ms = elim (begun (p ++ (x ∷ [])) ms) [ true ↦ fresh (p ++ (x ∷ [])) t ms | false ↦ suc (fresh (p ++ (x ∷ [])) t ms) ]

-- tree nodes: the root, and one for each distinct beginning
unfoldable pub nodes_from : List Macro → List Macro → ℕ
nodes_from earlier [] = 0
nodes_from earlier (x ∷ xs) = fresh [] x.template earlier + nodes_from (x ∷ earlier) xs

unfoldable pub nodes : List Macro → ℕ
nodes ms = suc (nodes_from [] ms)

unfoldable pub template_fault : Marks → List Macro → List ℕ → Option ℕ
template_fault m ms c =
    lowest ((ltb line_most (length c), 4) ∷ (ltb placeholders_most (count m.placeholder c), 5) ∷ (met c ms, 6)
    ∷ (leb macros_most (length ms) || ltb nodes_most (nodes ms + fresh [] c ms), 9) ∷ [])

-- a layout is no code
unfoldable pub effect_here : Marks → Bool → List ℕ → Effect
effect_here m due c = elim due [ true ↦ Plain | false ↦ effect m c ]

-- malformed, an eF8 without its iteration, or a fifth iteration in one another
unfoldable pub unmatched : Effect → ℕ → Bool
unmatched Malformed n = true
unmatched Plain n = false
unmatched Opens n = leb 4 n
unmatched Closes n = eqb n 0
unmatched Owns n = false

unfoldable pub open_after : Effect → ℕ → ℕ
open_after Malformed n = n
open_after Plain n = n
open_after Opens n = suc n
open_after Closes n = n - 1
open_after Owns n = n

unfoldable pub is_owner : Effect → Bool
is_owner Malformed = false
is_owner Plain = false
is_owner Opens = false
is_owner Closes = false
is_owner Owns = true

unfoldable pub no_macro : Macro
no_macro = record { line = 0; template = []; body = [] }

unfoldable pub unless : Option ℕ → Progress → Seen
unless (some k) r = fault k
unless none r = more r

unfoldable pub template_line : Marks → Progress → ℕ → List ℕ → List (List ℕ) → Seen
template_line m r n c ls =
    unless (template_fault m r.macros c)
    (record { macros = r.macros ++ (record { line = n; template = c; body = body_of m ls } ∷ []); codes = r.codes; in_body = true; opened = 0; due = false })

unfoldable pub code_line : Progress → List ℕ → Effect → Seen
code_line r c e =
    unless (lowest ((ltb line_most (length c), 4) ∷ (unmatched e r.opened, 7) ∷ (leb code_lines_most r.codes, 9) ∷ []))
    (record { macros = r.macros; codes = suc r.codes; in_body = true; opened = open_after e r.opened; due = is_owner e })

-- a line that begins with mark 3 ends the macro, and with two of them the section; `s` is what follows the first
unfoldable pub after_line : Marks → Progress → List ℕ → Seen
after_line m r s =
    elim (eqb r.opened 0 && not r.due) [
      | true ↦ elim (starts_with m.code s) [
        | true ↦ section_ends
        | false ↦ more (record { macros = r.macros; codes = r.codes; in_body = false; opened = 0; due = false })
      ]
      | false ↦ fault 7
    ]

-- the n-th line l; the lines ls follow it
unfoldable pub line_seen : Marks → Progress → ℕ → List ℕ → List (List ℕ) → Seen
line_seen m r n l ls =
    elim r.in_body [
      | false ↦ template_line m r n (up_to m.source l) ls
      | true ↦ elim (starts_with m.code l) [
        | true ↦ after_line m r (drop 1 l)
        | false ↦ code_line r (up_to m.code l) (effect_here m r.due (up_to m.code l))
      ]
    ]

-- a loaded text
pub record Loaded : Type 0 where
  pub marks : Marks
  pub macros : List Macro
  pub last : ℕ
  pub input : List (List ℕ)

pub data Load : Type 0 where
  refused : ℕ → ℕ → Load
  loaded : Loaded → Load

-- at the text's last line a section that isn't ended, 8, comes before 9
unfoldable pub lowest_at : List Bytes → ℕ → ℕ
lowest_at [] k = min k 8
lowest_at (l ∷ ls) k = k

-- what the n-th line comes to; the lines ls follow it
unfoldable pub load_on : Marks → List Macro → ℕ → List (List ℕ) → (Progress → Load) → Seen → Load
load_on m ms n ls go (fault k) = refused (lowest_at ls k) n
load_on m ms n ls go (more r) = go r
load_on m ms n ls go section_ends = loaded (record { marks = m; macros = ms; last = n; input = ls })

-- n lines stand before these
unfoldable pub load_from : Marks → Progress → ℕ → List (List ℕ) → Load
load_from m r n [] = refused 8 n
load_from m r n (l ∷ ls) = load_on m r.macros (n + 1) ls (λ r'. load_from m r' (n + 1) ls) (line_seen m r (n + 1) l ls)

unfoldable pub none_read : Progress
none_read = record { macros = []; codes = 0; in_body = false; opened = 0; due = false }

unfoldable pub load_lines : List (List ℕ) → Load
load_lines [] = refused (marks_fault none) 1
load_lines (f ∷ ls) = elim (marks_of f) [ none ↦ refused (marks_fault none) 1 | some m ↦ load_from m none_read 1 ls ]

unfoldable pub load : List ℕ → Load
load text = elim (ltb text_most (length text) || has 0 text) [ true ↦ refused 2 0 | false ↦ load_lines (lines text) ]
