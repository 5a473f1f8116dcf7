-- Document 01's starred examples ("Fitting a line", "Values") with those of document 02's tickets 1 to 3 and 5, one list, computed against the definitions in one proof; and examples of ticket 4's copies.
use mathlib.Core.Path.{◌≡◌, refl}
use mathlib.Core.Option.{Option, none, some}
use mathlib.Core.List.{List, [], ◌∷◌, ◌++◌, map}
use Prim.Native.Nat.{ℕ, ◌-◌}
use Prim.Native.Char.{code}
use Prim.Native.String as S
use Prim.Native.String.{String}
use lib.IntN.{ℤ, pos, negsuc}
use lib.ListN.{length, get_or, replicate}
use Rattle.model.specs.declared.Marks.{Marks}
use Rattle.model.specs.declared.Channel.{Channel}
use Rattle.model.specs.declared.Channel.TheVariants.{Nowhere, First, Second}
use Rattle.model.specs.declared.Conversion.{Conversion}
use Rattle.model.specs.declared.Conversion.TheVariants.{Length, CodePoint}
use Rattle.model.specs.Text.{Bytes, is_digit, has, same, up_to}
use Rattle.model.specs.Utf8.{points_fault, is_tail, of_two, character, onto_points, points_from, points}
use Rattle.model.specs.Reading.{group, atom, Reading, chosen, balanced_from, balanced, cuts, with_piece, with_literal, readings, rank, less, as_readings, all_readings, least_of, least}
use Rattle.model.specs.Parts.{elems}
use Rattle.model.specs.Store.{find, decimal, digits_of}
use Rattle.model.specs.Value.{value_fault, value_of, checked, quotient, divided, and_then, giving, number, is_mark, name_of, only_digits, is_stored_number, stored_number, of_stored, closing, expression, sum, product, factors, operand, whole}
use Rattle.model.specs.Load.{begins}
use Rattle.model.specs.Report.{no_lines}
use Rattle.model.specs.Machine.{Rooms, rooms, appended, with_first, with_second, wrote, Next, running, ended, state_with, past_line, is_too_long, copy_lines, copy_input, Frame, param, Building, built, failed, add, add_length, add_code_point, add_converted, Piece, one_pass, pass_of, no_pass, no_output}
use Rattle.model.specs.Places.{is_in, try_place, same_elem, same_elems, number_from, add_beginnings, beginnings_from, beginnings, beginning_at, child_in, ends_in_hole, holey_in, together, bytes_of_look, fitting, places_taken, bytes_read}

-- the bytes of a quoted text, of characters of one byte
unfoldable pub bytes : String → List ℕ
bytes S.[] = []
bytes (S.◌∷◌ c s) = code c ∷ bytes s

-- the session's marks: `$!$!0 (+-*/)`
abbrev pub session : Marks
session = record { source = 36; placeholder = 33; code = 36; escape = 33; blank = 32; left = 40; plus = 43; minus = 45; times = 42; divide = 47; right = 41 }

-- what is told of an example
pub data Told : Type 0 where
  call : (template : List ℕ) (pieces : List (List ℕ)) → Told
  no_call : Told
  counts : (places bytes : ℕ) → Told
  value : ℤ → Told
  code-points : List ℕ → Told
  line : (built : Bytes) → Told
  piece : (taken rest : Bytes) → Told
  fault : (number : ℕ) → Told

abbrev told_reading : List String → Option Reading → Told
told_reading ts none = no_call
told_reading ts (some r) = call (get_or (map bytes ts) r.which []) r.pieces

abbrev told_value : Option ℤ → Told
told_value none = fault (value_fault none)
told_value (some v) = value v

-- a line fitted against templates
abbrev fitted : List String → String → Told
fitted ts l = told_reading ts (chosen session (map bytes ts) (bytes l))

-- the places that are taken up for it, and the bytes that are read. Among the examples below, `aa` meets a dead place again; `)(` and `a)(` have a
-- look at a right bracket, `(=`, `((` and `(a` one at a left bracket without a partner
abbrev counted : List String → String → Told
counted ts l = counts (places_taken session (map bytes ts) (bytes l)) (bytes_read session (map bytes ts) (bytes l))

-- a text as an expression, with nothing stored
abbrev valued : String → Told
valued s = told_value (value_of session [] (bytes s))

-- a name as an expression, with the text s stored under it
abbrev stored : String → Told
stored s = told_value (value_of session ((bytes "A", bytes s) ∷ []) (bytes "A"))

-- a call whose parameter 1 is s
abbrev calling : Bytes → Frame
calling s = record { number = 1; params = s ∷ replicate 8 []; delimiters = replicate 9 []; next = []; loops = [] }

abbrev told_points : Option (List ℕ) → Told
told_points none = fault (points_fault none)
told_points (some vs) = code-points vs

abbrev told_line : Building → Told
told_line (built l w) = line l
told_line (failed k w) = fault k

abbrev told_piece : Option Piece → Told
told_piece none = fault (no_pass [])
told_piece (some p) = piece p.piece p.rest

-- a conversion of a parameter, in a line with nothing before it
abbrev converted : Conversion → Bytes → Told
converted c s = told_line (add_converted session (calling s) 1 c [] (record { symbols = 0; store = []; output = no_output }))

-- a pass without a list
abbrev passed : Bytes → Told
passed s = told_piece (pass_of session [] s)

-- `é`
abbrev accent : Bytes
accent = 195 ∷ 169 ∷ []

abbrev reads : String → List String → Told
reads t ps = call (bytes t) (map bytes ps)

abbrev three : List String
three = "AB!" ∷ "!B" ∷ "!=!" ∷ []

-- each example with what its document says of it
abbrev examples : List (Told × Told)
examples =
    (fitted three "AB", reads "AB!" ("" ∷ []))
    ∷ (fitted three "ABB", reads "AB!" ("B" ∷ []))
    ∷ (fitted three "XB", reads "!B" ("X" ∷ []))
    ∷ (fitted three "A=B", reads "!=!" ("A" ∷ "B" ∷ []))
    ∷ (fitted three "(=)=", reads "!=!" ("(=)" ∷ "" ∷ []))
    ∷ (fitted three "(=", no_call)
    ∷ (fitted three "", no_call)
    ∷ (fitted ("!" ∷ []) ")(", no_call)
    ∷ (counted three "AB", counts 5 0)
    ∷ (counted three "ABB", counts 6 1)
    ∷ (counted three "XB", counts 5 1)
    ∷ (counted three "A=B", counts 8 2)
    ∷ (counted three "(=)=", counts 6 3)
    ∷ (counted three "(=", counts 2 2)
    ∷ (counted three "", counts 2 0)
    ∷ (counted ("!" ∷ []) ")(", counts 2 1)
    ∷ (counted ("!" ∷ []) "a)(", counts 3 2)
    ∷ (counted ("!" ∷ []) "()()", counts 5 4)
    ∷ (counted ("!" ∷ []) "((", counts 2 2)
    ∷ (counted ("(!" ∷ []) "((a", counts 3 2)
    ∷ (counted ("!a!b" ∷ []) "aa", counts 8 3)
    ∷ (valued "", value (pos 0))
    ∷ (valued "2-3*4", value (negsuc 9))
    ∷ (valued "(-7)/2", value (negsuc 2))
    ∷ (valued "2147483647+1", value (pos 2147483648))
    ∷ (valued "(-2147483647-1)/(-1)", value (pos 2147483648))
    ∷ (valued "-2147483648", value (negsuc 2147483647))
    ∷ (valued "9223372036854775807+1", fault 15)
    ∷ (valued "(-9223372036854775807-1)/(-1)", fault 15)
    ∷ (valued "-9223372036854775808", fault 15)
    ∷ (valued "-9223372036854775807-1", value (negsuc 9223372036854775807))
    ∷ (stored "9223372036854775807", value (pos 9223372036854775807))
    ∷ (stored "-9223372036854775808", value (negsuc 9223372036854775807))
    ∷ (stored "9223372036854775808", fault 15)
    ∷ (stored "-9223372036854775809", fault 15)
    ∷ (stored "9999999999999999999", fault 15)
    ∷ (stored "0000000000000000001", value (pos 1))
    ∷ (stored "00000000000000000001", fault 15)
    ∷ (told_points (points accent), code-points (233 ∷ []))
    ∷ (converted Length accent, line (bytes "1"))
    ∷ (converted CodePoint accent, line (bytes "233"))
    ∷ (passed (accent ++ accent), piece accent accent)
    ∷ []

-- what the definitions give is what the documents say
pub starred : map (λ e. e.0) examples ≡ map (λ e. e.1) examples
unfolding group atom elems is_in try_place same_elem same_elems number_from add_beginnings beginnings_from beginnings beginning_at child_in ends_in_hole holey_in together bytes_of_look fitting places_taken bytes_read bytes is_digit has same find chosen balanced_from balanced cuts with_piece with_literal readings rank less as_readings all_readings least_of least value_of checked quotient divided and_then giving number is_mark name_of only_digits is_stored_number stored_number of_stored closing expression sum product factors operand whole is_tail of_two character onto_points points_from points digits_of decimal param add add_length add_code_point add_converted one_pass pass_of
starred = refl

-- ---- copies (document 02, ticket 4)

-- what a copy comes to: the call goes on, or a number ends the run; both outputs, the last input line read, how many are left, the events
pub data Copy : Type 0 where
  copied : (number : Option ℕ) (first second : Bytes) (line left events : ℕ) → Copy

abbrev told_copy : Next → Copy
told_copy (running s) = copied none s.shared.output.first s.shared.output.second s.line (length s.input) s.events
told_copy (ended k s) = copied (some k) s.shared.output.first s.shared.output.second s.line (length s.input) s.events

-- eF2 with the name as parameter 1, after input line 5 and event 7
abbrev copying : Rooms → Channel → String → List Bytes → Copy
copying room ch name ls =
    told_copy (copy_input session room ch (bytes name)
    (record { input = ls; line = 5; pending = none; frames = []; calls = 0; shared = record { symbols = 0; store = []; output = no_output }; events = 7; tally = no_lines [] }))

-- a line of 201 bytes
abbrev long : String → Bytes
long s = bytes s ++ replicate (201 - length (bytes s)) 65

-- a line and its byte 10
abbrev written : String → Bytes
written s = bytes s ++ (10 ∷ [])

abbrev wide : Rooms
wide = rooms 500 500

abbrev copies : List (Copy × Copy)
copies =
    -- each channel; the line that begins with the name is read, and dropped
    (copying wide First "X" (bytes "A" ∷ bytes "XB" ∷ bytes "C" ∷ []), copied none (written "A") [] 7 1 7)
    ∷ (copying wide Second "X" (bytes "A" ∷ bytes "XB" ∷ bytes "C" ∷ []), copied none [] (written "A") 7 1 7)
    ∷ (copying wide Nowhere "X" (bytes "A" ∷ bytes "XB" ∷ bytes "C" ∷ []), copied none [] [] 7 1 7)
    -- it is compared before it is measured, and a dropped line isn't measured
    ∷ (copying wide First "X" (long "X" ∷ []), copied none [] [] 6 0 7)
    ∷ (copying wide Nowhere "X" (long "A" ∷ []), copied none [] [] 6 0 7)
    ∷ (copying wide Second "X" (bytes "B" ∷ long "A" ∷ bytes "C" ∷ []), copied (some 11) [] (written "B") 7 1 7)
    -- 13 writes nothing of its line, and what was copied stays
    ∷ (copying (rooms 4 500) First "X" (bytes "A" ∷ bytes "BC" ∷ bytes "D" ∷ []), copied (some 13) (written "A") [] 7 1 7)
    ∷ (copying (rooms 500 4) Second "X" (bytes "A" ∷ bytes "BC" ∷ bytes "D" ∷ []), copied (some 13) [] (written "A") 7 1 7)
    -- 11 comes before 13
    ∷ (copying (rooms 0 0) First "X" (long "A" ∷ []), copied (some 11) [] [] 6 0 7)
    -- the input's end ends it, and with an empty name no line is read
    ∷ (copying wide First "X" (bytes "" ∷ bytes "A" ∷ []), copied none (written "" ++ written "A") [] 7 0 7)
    ∷ (copying wide First "" (bytes "A" ∷ []), copied none [] [] 5 1 7)
    -- contents are compared and copied: they end before mark 1, and so a name that has it is never met
    ∷ (copying wide First "X" (bytes "A$X" ∷ bytes "X$" ∷ []), copied none (written "A") [] 7 0 7)
    ∷ (copying wide First "X$" (bytes "X$" ∷ []), copied none (written "X") [] 6 0 7)
    ∷ []

pub starred_copies : map (λ e. e.0) copies ≡ map (λ e. e.1) copies
unfolding bytes up_to begins appended with_first with_second wrote is_too_long past_line state_with copy_lines copy_input no_output
starred_copies = refl
