-- What a text that loads has: its marks and macros are legal, each macro stands at its line, and the input follows the section.
use Rattle.std.specs.Prelude.{◌≡◌, true, List, [], ◌∷◌, ℕ, ◌+◌, ◌-◌, ◌≤◌, ◌<◌, length, get_or, drop}
use Rattle.model.specs.Limits.{line_most, macros_most, nodes_most}
use Rattle.model.specs.declared.Marks.{Marks}
use Rattle.model.specs.Text.{Bytes, all_plain, distinct, up_to}
use Rattle.model.specs.Load.{Macro, body_of, count, nodes, templates}
use Rattle.model.specs.Fitting.{Distinct}

-- marks 6 to 12
abbrev pub operators : Marks → List ℕ
operators m = m.blank ∷ m.left ∷ m.plus ∷ m.minus ∷ m.times ∷ m.divide ∷ m.right ∷ []

-- none is F, byte 0 or a digit; marks 1 and 3 may be equal, and 2 and 4; all others differ
pub record Lawful (m : Marks) : Type 0 where
  pub plain : all_plain (m.source ∷ m.placeholder ∷ m.code ∷ m.escape ∷ operators m) ≡ true
  pub sources : distinct (m.source ∷ m.placeholder ∷ operators m) ≡ true
  pub codes : distinct (m.code ∷ m.escape ∷ operators m) ≡ true
  pub ends : ¬ (m.source ≡ m.escape)
  pub signs : ¬ (m.placeholder ≡ m.code)

pub record Legal (m : Marks) (ms : List Macro) : Type 0 where
  pub few : length ms ≤ macros_most
  pub tree : nodes ms ≤ nodes_most
  pub short : (i : ℕ) → length (get_or (templates ms) i []) ≤ line_most
  pub nine : (i : ℕ) → count m.placeholder (get_or (templates ms) i []) ≤ 9
  pub different : Distinct (templates ms)

-- the code lines of all bodies, layouts included
unfoldable pub code_lines : List Macro → ℕ
code_lines [] = 0
code_lines (x ∷ xs) = length x.body + code_lines xs

-- i lines of all are read, and these are left
pub record At (all : List Bytes) (i : ℕ) (ls : List Bytes) : Type 0 where
  pub read : i ≤ length all
  pub left : ls ≡ drop i all

-- a macro's line number is that of its template, and its body follows
pub record MacroAt (m : Marks) (all : List Bytes) (x : Macro) : Type 0 where
  pub first : 0 < x.line
  pub last : x.line ≤ length all
  pub template : x.template ≡ up_to m.source (get_or all (x.line - 1) [])
  pub body : x.body ≡ body_of m (drop x.line all)

abbrev pub MacrosAt : Marks → List Bytes → List Macro → Type 0
MacrosAt m all [] = Unit {0}
MacrosAt m all (x ∷ xs) = MacroAt m all x × MacrosAt m all xs
