-- Where bytes, lines and marks stand in a text. Each record is what one function ensures.
use Rattle.std.specs.Prelude.{◌≡◌, Bool, [], ◌∷◌, ℕ, ◌≤◌, ◌<◌, length, drop, Option, None, Some, MatchOption}
use Rattle.std.proofs.Math.Option as Math
use Rattle.model.specs.declared.Marks.{Marks}
use Rattle.model.specs.Text.{Bytes, part, has, starts_with, up_to, lines, plain, all_plain, distinct, legal_marks, marks_fault, marks_of}
use Rattle.model.specs.Legal.{operators}
use Rattle.model.specs.Load.{body_at}
use Rattle.scan.specs.declared.Line.{Line}

-- the whole line that starts at a place
abbrev pub line_at : Bytes → ℕ → Bytes
line_at text at = up_to 10 (drop at text)

-- r is the place of the first b from `from` on, or `to`
pub record FindsByte (s : Bytes) (from to b r : ℕ) : Type 0 where
  pub low : from ≤ r
  pub high : r ≤ to
  pub is : part s from r ≡ up_to b (part s from to)

-- whether b is among s
pub record Has (s : Bytes) (b : ℕ) (r : Bool) : Type 0 where
  pub is : r ≡ has b s

-- the line at `at` is text[at..end], and the next one starts at `next`
pub record LineAt (text : Bytes) (at end next : ℕ) : Type 0 where
  pub low : at ≤ end
  pub high : end ≤ next
  pub ahead : at < next
  pub within : next ≤ length text
  pub is : lines (drop at text) ≡ part text at end ∷ lines (drop next text)

-- no mark and no byte 10 stands before r: wherever the next byte 10 stands, the line at `at` ends there, and its content at r
pub record FindsEnd (text : Bytes) (at mark r : ℕ) : Type 0 where
  pub low : at ≤ r
  pub high : r ≤ length text
  pub line : (stop : ℕ) → FindsByte text r (length text) 10 stop → FindsByte text at (length text) 10 stop
  pub content : (stop : ℕ) → FindsByte text r (length text) 10 stop → FindsByte text at stop mark r

-- its content, up to the mark, is text[at..end]
pub record ContentAt (text : Bytes) (mark at end next : ℕ) : Type 0 where
  pub low : at ≤ end
  pub high : end ≤ next
  pub ahead : at < next
  pub within : next ≤ length text
  pub content : part text at end ≡ up_to mark (line_at text at)
  pub is : lines (drop at text) ≡ line_at text at ∷ lines (drop next text)

-- whether a line begins with the mark, where b is its first byte, or byte 10
pub record BeginsMarked (b mark : ℕ) (r : Bool) : Type 0 where
  pub is : r ≡ starts_with mark (up_to 10 (b ∷ []))

-- the body at `at` goes on with a code line, whose content is text[at..l.end]
pub record CodeLine (m : Marks) (text : Bytes) (at : ℕ) (l : Line) : Type 0 where
  pub low : at ≤ l.end
  pub high : l.end ≤ l.next
  pub ahead : at < l.next
  pub within : l.next ≤ length text
  pub is : body_at m text at ≡ part text at l.end ∷ body_at m text l.next

-- r is the code line at `at`, or the body ends there
pub record CodeAt (m : Marks) (text : Bytes) (at : ℕ) (r : Option Line) : Type 0 where
  pub is : MatchOption r (body_at m text at ≡ []) (λ l. CodeLine m text at l)

-- the tests of a flag line's marks
pub record PlainByte (b : ℕ) (r : Bool) : Type 0 where
  pub is : r ≡ plain b

pub record AllPlain (s : Bytes) (r : Bool) : Type 0 where
  pub is : r ≡ all_plain s

pub record AllDiffer (s : Bytes) (r : Bool) : Type 0 where
  pub is : r ≡ distinct s

-- mark 5, which is no part of m, is the byte `0`
pub record LegalMarks (m : Marks) (r : Bool) : Type 0 where
  pub is : r ≡ legal_marks m.source m.placeholder m.code m.escape 48 (operators m)

-- the marks that an answer holds
abbrev pub flags_of : Option Marks → Math.Option Marks
flags_of (Some m) = Math.some m
flags_of None = Math.none

-- and document 01's number for it: a fault is 3
abbrev pub flags_fault : Option Marks → ℕ
flags_fault (Some m) = 0
flags_fault None = 3

-- the flag line s is answered
pub record MarksAt (s : Bytes) (r : Option Marks) : Type 0 where
  pub is : flags_of r ≡ marks_of s
  pub number : flags_fault r ≡ marks_fault (marks_of s)
