-- The numbers of document 01's table, by what answers them; 10 is none of them.
use Rattle.std.specs.Prelude.{List, [], ◌∷◌, ◌++◌, ℕ}

-- a text that does not load
abbrev pub load_numbers : List ℕ
load_numbers = 2 ∷ 3 ∷ 4 ∷ 5 ∷ 6 ∷ 7 ∷ 8 ∷ 9 ∷ []

-- an expansion that ends
abbrev pub end_numbers : List ℕ
end_numbers = 0 ∷ 11 ∷ 12 ∷ 13 ∷ 14 ∷ 15 ∷ 16 ∷ 17 ∷ 18 ∷ 19 ∷ 21 ∷ []

-- a run of a text that loads, with legal fuel and rooms: that of the expansion, or spent
abbrev pub begun_numbers : List ℕ
begun_numbers = 20 ∷ end_numbers

-- the public calls, for every argument: 0 to 9; 0 to 9 and 11; 0 to 9 and 11 to 21
abbrev pub check_numbers : List ℕ
check_numbers = 0 ∷ 1 ∷ load_numbers

abbrev pub fit_numbers : List ℕ
fit_numbers = 11 ∷ check_numbers

abbrev pub run_numbers : List ℕ
run_numbers = 1 ∷ load_numbers ++ begun_numbers
