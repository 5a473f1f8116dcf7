-- Bytes, lines and marks of a text (document 01, "The text").
use Rattle.std.specs.Prelude.{◌≡◌, Bool, true, false, not, ◌&&◌, List, [], ◌∷◌, ◌++◌, ℕ, ◌-◌, eqb, leb, length, get_or, take, drop}
use Rattle.std.proofs.Math.Option.{Option, none, some}
use Rattle.model.specs.declared.Marks.{Marks}

abbrev pub Bytes : Type 0
Bytes = List ℕ

-- a is a beginning of b
abbrev pub Grows : Bytes → Bytes → Type 0
Grows a b = (rest : Bytes) × (b ≡ a ++ rest)

-- the bytes of s from place a up to place e
abbrev pub part : Bytes → ℕ → ℕ → Bytes
part s a e = take (e - a) (drop a s)

-- the same bytes
unfoldable pub same : List ℕ → List ℕ → Bool
same [] [] = true
same [] (y ∷ t) = false
same (x ∷ s) [] = false
same (x ∷ s) (y ∷ t) = elim (eqb x y) [ true ↦ same s t | false ↦ false ]

unfoldable pub has : ℕ → List ℕ → Bool
has b [] = false
has b (x ∷ s) = elim (eqb x b) [ true ↦ true | false ↦ has b s ]

unfoldable pub starts_with : ℕ → List ℕ → Bool
starts_with b [] = false
starts_with b (x ∷ s) = eqb x b

unfoldable pub is_digit : ℕ → Bool
is_digit b = leb 48 b && leb b 57

-- what precedes the first b, or all
unfoldable pub up_to : ℕ → List ℕ → List ℕ
up_to b [] = []
up_to b (x ∷ s) = elim (eqb x b) [ true ↦ [] | false ↦ x ∷ up_to b s ]

-- the byte in front of the first line
unfoldable pub onto_first : ℕ → List (List ℕ) → List (List ℕ)
onto_first b [] = (b ∷ []) ∷ []
onto_first b (l ∷ ls) = (b ∷ l) ∷ ls

-- lines end at byte 10; a last line without it counts if not empty
unfoldable pub lines : List ℕ → List (List ℕ)
lines [] = []
lines (b ∷ s) = elim (eqb b 10) [ true ↦ [] ∷ lines s | false ↦ onto_first b (lines s) ]

-- none is F, byte 0 or a digit
unfoldable pub plain : ℕ → Bool
plain b = not (is_digit b) && (not (eqb b 70) && not (eqb b 0))

unfoldable pub all_plain : List ℕ → Bool
all_plain [] = true
all_plain (b ∷ s) = plain b && all_plain s

unfoldable pub distinct : List ℕ → Bool
distinct [] = true
distinct (b ∷ s) = not (has b s) && distinct s

-- marks 1 and 3 may be equal, and 2 and 4; all others differ. `o` has marks 6 to 12
unfoldable pub apart : ℕ → ℕ → ℕ → ℕ → List ℕ → Bool
apart a b c d o =
    distinct (a ∷ b ∷ o) && (distinct (c ∷ d ∷ o) && (not (eqb a d) && not (eqb b c)))

unfoldable pub legal_marks : ℕ → ℕ → ℕ → ℕ → ℕ → List ℕ → Bool
legal_marks a b c d z o = eqb z 48 && (all_plain (a ∷ b ∷ c ∷ d ∷ o) && apart a b c d o)

unfoldable pub others : List ℕ → List ℕ
others s = get_or s 5 0 ∷ get_or s 6 0 ∷ get_or s 7 0 ∷ get_or s 8 0 ∷ get_or s 9 0 ∷ get_or s 10 0 ∷ get_or s 11 0 ∷ []

unfoldable pub legal_flags : List ℕ → Bool
legal_flags s = leb 12 (length s) && legal_marks (get_or s 0 0) (get_or s 1 0) (get_or s 2 0) (get_or s 3 0) (get_or s 4 0) (others s)

-- document 01's number for the marks of a flag line: 3 where there are none
abbrev pub marks_fault : Option Marks → ℕ
marks_fault none = 3
marks_fault (some m) = 0

-- the marks of a flag line, or none where it isn't legal
unfoldable pub marks_of : List ℕ → Option Marks
marks_of s = elim (legal_flags s) [
  | true ↦ some (record {
    source = get_or s 0 0;
    placeholder = get_or s 1 0;
    code = get_or s 2 0;
    escape = get_or s 3 0;
    blank = get_or s 5 0;
    left = get_or s 6 0;
    plus = get_or s 7 0;
    minus = get_or s 8 0;
    times = get_or s 9 0;
    divide = get_or s 10 0;
    right = get_or s 11 0;
  })
  | false ↦ none
]
