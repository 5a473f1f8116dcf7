-- The expansion (document 01, "Events, store and result"): a machine that is fed a loaded text and the rooms of the two outputs.
use Rattle.std.specs.Prelude.{Bool, true, false, not, ◌&&◌, ◌||◌, List, [], ◌∷◌, ◌++◌, ℕ, zero, suc, ◌+◌, ◌-◌, ◌*◌, min, eqb, leb, ltb, length, get_or, drop, set, replicate, ℤ, pos, negsuc}
use Rattle.std.proofs.Math.Option.{Option, none, some}
use Rattle.model.specs.Limits.{line_most, calls_most}
use Rattle.model.specs.declared.Marks.{Marks}
use Rattle.model.specs.Text.{Bytes, Grows, same, has, up_to}
use Rattle.model.specs.Utf8.{Character, character_fault, character, points, points_fault}
use Rattle.model.specs.Reading.{Reading, chosen, atom}
use Rattle.model.specs.Code.{Code, Part, Ending, byte, serial, convert, parse, offer, assign, iterate, stop, write, layout, copy, save, skip, skip_text, skip_value, repeat, again, leave, malformed, effect}
use Rattle.model.specs.declared.Channel.{Channel}
use Rattle.model.specs.declared.Channel.TheVariants.{Nowhere, First, Second}
use Rattle.model.specs.declared.Effect.TheVariants.{Malformed, Plain, Opens, Closes, Owns}
use Rattle.model.specs.declared.Conversion.{Conversion}
use Rattle.model.specs.declared.Conversion.TheVariants.{Itself, StoredText, Symbol, LatestDelimiter, ExpressionValue, Length, CodePoint}
use Rattle.model.specs.declared.Comparison.{Comparison}
use Rattle.model.specs.declared.Comparison.TheVariants.{Equal, Unequal, Less, Greater}
use Rattle.model.specs.Store.{Store, find, put, within, memory_fault, decimal, listing}
use Rattle.model.specs.Value.{value_fault, value_of, written}
use Rattle.model.specs.Load.{begins, templates, Macro, Loaded, Load, refused, loaded, no_macro}
use Rattle.model.specs.Report.{Tally, no_lines, tallied, report_rows, report_bytes}

-- an open iteration. ed7 has the rest of the built line, the list of delimiters and d's old value; eF7 the passes left. `after` are the
-- code lines after the opening line
pub data Loop : Type 0 where
  by_pieces : (d : ℕ) (rest delimiters old : Bytes) (after : List Bytes) → Loop
  by_count : (left : ℕ) (after : List Bytes) → Loop

-- an open call: its number, nine parameters with their latest delimiters (one byte, or none), the code lines left, the open iterations
pub record Frame : Type 0 where
  pub number : ℕ
  pub params : List Bytes
  pub delimiters : List Bytes
  pub next : List Bytes
  pub loops : List Loop

-- the rooms of the two outputs, in bytes: the first is channel 3's, the second channel 4's
pub record Rooms : Type 0 where
  pub first : ℕ
  pub second : ℕ

abbrev pub rooms : (first second : ℕ) → Rooms
rooms a b = record { first = a; second = b }

-- what is written to each
pub record Outputs : Type 0 where
  pub first : Bytes
  pub second : Bytes

abbrev pub outputs : (first second : Bytes) → Outputs
outputs a b = record { first = a; second = b }

-- each output of the second pair begins with that of the first
abbrev pub Extends : Outputs → Outputs → Type 0
Extends a b = Grows a.first b.first × Grows a.second b.second

-- what every call shares: the last number of ed2, stored names and texts, and the outputs
pub record Shared : Type 0 where
  pub symbols : ℕ
  pub store : Store
  pub output : Outputs

-- what a code line comes to: the call goes on, offers a line, skips code lines, ends its body, copies input lines to a channel, or the run
-- ends with a number
pub data Step : Type 0 where
  continues : Frame → Shared → Step
  offers : Bytes → Frame → Shared → Step
  skips : ℕ → Frame → Shared → Step
  leaves : Shared → Step
  copies : Rooms → Channel → Frame → Shared → Step
  halts : ℕ → Shared → Step

-- parameter d
unfoldable pub param : Frame → ℕ → Bytes
param f d = get_or f.params (d - 1) []

-- the call with another text as parameter d
unfoldable pub with_param : Frame → ℕ → Bytes → Frame
with_param f d v = record { number = f.number; params = set f.params (d - 1) v; delimiters = f.delimiters; next = f.next; loops = f.loops }

-- the call with these iterations open and these code lines left
unfoldable pub resume_at : Frame → List Loop → List Bytes → Frame
resume_at f ls cs = record { number = f.number; params = f.params; delimiters = f.delimiters; next = cs; loops = ls }

unfoldable pub with_store : Shared → Store → Shared
with_store w st = record { symbols = w.symbols; store = st; output = w.output }

-- ---- the built line

-- a line being built, or the number that ends the run
pub data Building : Type 0 where
  built : Bytes → Shared → Building
  failed : ℕ → Shared → Building

-- a line being built has at most 200 bytes
unfoldable pub add : Bytes → Bytes → Shared → Building
add l s w = elim (leb (length l + length s) line_most) [ true ↦ built (l ++ s) w | false ↦ failed 12 w ]

-- ed1: the stored text, or nothing
unfoldable pub or_nothing : Option Bytes → Bytes
or_nothing none = []
or_nothing (some s) = s

-- ed2: the next of 1, 2, 3, .. is stored first where the name isn't
unfoldable pub add_symbol : Bytes → Bytes → Option Bytes → Shared → Building
add_symbol l name (some s) w = add l s w
add_symbol l name none w =
    let text : Bytes = decimal (suc w.symbols) in
    let more : Store = put name text w.store in
    elim (within more) [
      | true ↦ add l text (record { symbols = suc w.symbols; store = more; output = w.output })
      | false ↦ failed (memory_fault false) w
    ]

-- ed4: the value, or 15
unfoldable pub add_value : Marks → Bytes → Option ℤ → Shared → Building
add_value m l none w = failed (value_fault none) w
add_value m l (some v) w = add l (written m v) w

-- ed5: the number of its characters, or 21
unfoldable pub add_length : Bytes → Option (List ℕ) → Shared → Building
add_length l none w = failed (points_fault none) w
add_length l (some vs) w = add l (decimal (length vs)) w

-- document 01's number for ed8, by its parameter's code points: 21 where a character is malformed, and else 16 unless there is exactly one
abbrev pub code_point_fault : Option (List ℕ) → ℕ
code_point_fault none = points_fault none
code_point_fault (some []) = 16
code_point_fault (some (v ∷ [])) = 0
code_point_fault (some (v ∷ u ∷ vs)) = 16

-- ed8: the code point of its only character, or 21 or 16
unfoldable pub add_code_point : Bytes → Option (List ℕ) → Shared → Building
add_code_point l none w = failed (code_point_fault none) w
add_code_point l (some []) w = failed (code_point_fault (some [])) w
add_code_point l (some (v ∷ [])) w = add l (decimal v) w
add_code_point l (some (v ∷ u ∷ vs)) w = failed (code_point_fault (some (v ∷ u ∷ vs))) w

-- a conversion of parameter d
unfoldable pub add_converted : Marks → Frame → ℕ → Conversion → Bytes → Shared → Building
add_converted m f d Itself l w = add l (param f d) w
add_converted m f d StoredText l w = add l (or_nothing (find (param f d) w.store)) w
add_converted m f d Symbol l w = add_symbol l (param f d) (find (param f d) w.store) w
add_converted m f d LatestDelimiter l w = add l (get_or f.delimiters (d - 1) []) w
add_converted m f d ExpressionValue l w = add_value m l (value_of m w.store (param f d)) w
add_converted m f d Length l w = add_length l (points (param f d)) w
add_converted m f d CodePoint l w = add_code_point l (points (param f d)) w

-- a byte is copied; e0k is the call's number times 10, plus k
unfoldable pub add_part : Marks → Frame → Part → Bytes → Shared → Building
add_part m f (byte b) l w = add l (b ∷ []) w
add_part m f (serial k) l w = add l (decimal (f.number * 10 + k)) w
add_part m f (convert d c) l w = add_converted m f d c l w

-- the parts of a code line, from left to right
unfoldable pub build : Marks → Frame → List Part → Bytes → Shared → Building
build m f [] l w = built l w
build m f (p ∷ ps) l w = elim (add_part m f p l w) [ built k v ↦ build m f ps k v | failed n v ↦ failed n v ]

-- ---- iterations

-- a piece, the delimiter that ended it, and the rest
pub record Piece : Type 0 where
  pub piece : Bytes
  pub delimiter : Bytes
  pub rest : Bytes

-- a piece with an atom in front
unfoldable pub longer : Bytes → Option Piece → Option Piece
longer a none = none
longer a (some p) = some (record { piece = a ++ p.piece; delimiter = p.delimiter; rest = p.rest })

-- the shortest row of atoms before a delimiter or the end; none where a bracket begins no atom
unfoldable pub piece_of : ℕ → Marks → Bytes → Bytes → Option Piece
piece_of zero m ds s = none
piece_of (suc f) m ds [] = some (record { piece = []; delimiter = []; rest = [] })
piece_of (suc f) m ds (x ∷ s) =
    elim (has x ds) [
      | true ↦ some (record { piece = []; delimiter = x ∷ []; rest = s })
      | false ↦ elim (atom m (x ∷ s)) [ none ↦ none | some a ↦ longer a.0 (piece_of f m ds a.1) ]
    ]

-- a character as a piece
unfoldable pub one_pass : Option Character → Option Piece
one_pass none = none
one_pass (some c) = some (record { piece = c.bytes; delimiter = []; rest = c.rest })

-- what a pass takes: with no list, one character, or nothing of an empty line
unfoldable pub pass_of : Marks → Bytes → Bytes → Option Piece
pass_of m [] [] = some (record { piece = []; delimiter = []; rest = [] })
pass_of m [] (x ∷ s) = one_pass (character (x ∷ s))
pass_of m (d ∷ ds) s = piece_of (length s + 1) m (d ∷ ds) s

-- document 01's number where a pass finds nothing to take, by the list: 21 without one, for a character is malformed; 17 with one, for a bracket begins
-- no atom
abbrev pub no_pass : Bytes → ℕ
no_pass [] = character_fault none
no_pass (d ∷ ds) = 17

-- a pass sets d and its delimiter, and goes on after the opening line; 17 or 21 where it finds nothing to take
unfoldable pub take_pass : ℕ → Option Piece → Bytes → Bytes → List Bytes → List Loop → Frame → Shared → Step
take_pass d none ds old after ls f w = halts (no_pass ds) w
take_pass d (some p) ds old after ls f w =
    continues (record {
      number = f.number;
      params = set f.params (d - 1) p.piece;
      delimiters = set f.delimiters (d - 1) p.delimiter;
      next = after;
      loops = by_pieces d p.rest ds old after ∷ ls;
    }) w

-- eF8 of an ed7: the next pass, or the end, where d regains its old value
unfoldable pub next_pass : Marks → ℕ → Bytes → Bytes → Bytes → List Bytes → List Loop → Frame → Shared → Step
next_pass m d [] ds old after ls f w = continues (resume_at (with_param f d old) ls f.next) w
next_pass m d (x ∷ rest) ds old after ls f w = take_pass d (pass_of m ds (x ∷ rest)) ds old after ls f w

-- eF8: the innermost iteration's next pass, or its end
unfoldable pub end_pass : Marks → List Loop → Frame → Shared → Step
end_pass m [] f w = continues f w
end_pass m (by_count zero after ∷ ls) f w = continues (resume_at f ls f.next) w
end_pass m (by_count (suc n) after ∷ ls) f w = continues (resume_at f (by_count n after ∷ ls) after) w
end_pass m (by_pieces d rest ds old after ∷ ls) f w = next_pass m d rest ds old after ls f w

-- the code lines past the matching eF8; d iterations were opened since. A layout goes with its owner, so lines are looked at in twos
unfoldable pub past_loop : Marks → ℕ → List Bytes → List Bytes
past_loop m d [] = []
past_loop m d (c ∷ []) = []
past_loop m d (c ∷ b ∷ cs) =
    elim (effect m c) [
      | Malformed ↦ past_loop m d (b ∷ cs)
      | Plain ↦ past_loop m d (b ∷ cs)
      | Opens ↦ past_loop m (suc d) (b ∷ cs)
      | Closes ↦ elim (eqb d 0) [ true ↦ b ∷ cs | false ↦ past_loop m (d - 1) (b ∷ cs) ]
      | Owns ↦ past_loop m d cs
    ]

-- eF7: so many passes; 0 or less skips past the matching eF8
unfoldable pub start_repeat : Marks → Option ℤ → Frame → Shared → Step
start_repeat m none f w = halts (value_fault none) w
start_repeat m (some (pos zero)) f w = continues (resume_at f f.loops (past_loop m 0 f.next)) w
start_repeat m (some (pos (suc n))) f w = continues (resume_at f (by_count n f.next ∷ f.loops) f.next) w
start_repeat m (some (negsuc n)) f w = continues (resume_at f f.loops (past_loop m 0 f.next)) w

-- ---- outputs and layouts

-- an output with a line and its byte 10 after it; none where the room is too small
unfoldable pub appended : (room : ℕ) (line output : Bytes) → Option Bytes
appended room l o = elim (leb (length o + length l + 1) room) [ true ↦ some (o ++ (l ++ (10 ∷ []))) | false ↦ none ]

-- what calls share with this output in the first one's place, or in the second one's; none where there is none
unfoldable pub with_first : Shared → Option Bytes → Option Shared
with_first w none = none
with_first w (some o) = some (record { symbols = w.symbols; store = w.store; output = outputs o w.output.second })

unfoldable pub with_second : Shared → Option Bytes → Option Shared
with_second w none = none
with_second w (some o) = some (record { symbols = w.symbols; store = w.store; output = outputs w.output.first o })

-- a line and its byte 10 written to a channel; none where its room is too small
unfoldable pub wrote : Rooms → Channel → Bytes → Shared → Option Shared
wrote room Nowhere l w = some w
wrote room First l w = with_first w (appended room.first l w.output.first)
wrote room Second l w = with_second w (appended room.second l w.output.second)

-- the call goes on with the line written, or 13
unfoldable pub goes_written : Frame → Shared → Option Shared → Step
goes_written f w none = halts 13 w
goes_written f w (some v) = continues f v

-- F1
unfoldable pub write_to : Rooms → Channel → Bytes → Frame → Shared → Step
write_to room ch l f w = goes_written f w (wrote room ch l w)

-- the first n bytes, with blanks after a shorter text
unfoldable pub field : ℕ → ℕ → Bytes → Bytes
field blank zero s = []
field blank (suc n) [] = blank ∷ field blank n []
field blank (suc n) (x ∷ s) = x ∷ field blank n s

-- a layout's text: each longest run of one digit 1 to 9 is a field for that parameter; other bytes are copied. `digit` and `n`: the run being
-- read and its bytes so far; 256, which is no byte, where there is none
unfoldable pub fields : Marks → Frame → ℕ → ℕ → Bytes → Bytes
fields m f digit n [] = field m.blank n (param f (digit - 48))
fields m f digit n (x ∷ s) =
    elim (eqb x digit) [
      | true ↦ fields m f digit (suc n) s
      | false ↦
          elim (leb 49 x && leb x 57) [
            | true ↦ field m.blank n (param f (digit - 48)) ++ fields m f x 1 s
            | false ↦ field m.blank n (param f (digit - 48)) ++ (x ∷ fields m f 256 0 s)
          ]
    ]

-- eF1 at a line's start: the layout is the next code line
unfoldable pub write_layout : Rooms → Marks → Channel → List Bytes → Frame → Shared → Step
write_layout room m ch [] f w = continues f w
write_layout room m ch (c ∷ cs) f w = write_to room ch (fields m f 256 0 c) (resume_at f f.loops cs) w

-- ---- storing, comparing, skipping

-- F3: a text is stored, or 19
unfoldable pub save_text : Bytes → Bytes → Frame → Shared → Step
save_text name text f w =
    let more : Store = put name text w.store in
    elim (within more) [ true ↦ continues f (with_store w more) | false ↦ halts (memory_fault false) w ]

-- a skip by a value: 15 where it is none, 18 where it is negative
unfoldable pub skip_by : Option ℤ → Frame → Shared → Step
skip_by none f w = halts (value_fault none) w
skip_by (some (pos n)) f w = skips n f w
skip_by (some (negsuc n)) f w = halts 18 w

unfoldable pub is_less : ℤ → ℤ → Bool
is_less (pos a) (pos b) = ltb a b
is_less (pos a) (negsuc b) = false
is_less (negsuc a) (pos b) = true
is_less (negsuc a) (negsuc b) = ltb b a

-- F60, F61, F6 with minus, F6 with plus
unfoldable pub compares : Comparison → ℤ → ℤ → Bool
compares Equal a b = not (is_less a b || is_less b a)
compares Unequal a b = is_less a b || is_less b a
compares Less a b = is_less a b
compares Greater a b = is_less b a

-- parameter 3 is valued only if the comparison holds
unfoldable pub skip_if : Marks → Bool → Frame → Shared → Step
skip_if m b f w = elim b [ true ↦ skip_by (value_of m w.store (param f 3)) f w | false ↦ continues f w ]

-- F6: both values, then the comparison
unfoldable pub skip_compared : Marks → Comparison → Option ℤ → Option ℤ → Frame → Shared → Step
skip_compared m o none b f w = halts (value_fault none) w
skip_compared m o (some a) none f w = halts (value_fault none) w
skip_compared m o (some a) (some b) f w = skip_if m (compares o a b) f w

-- F50 wants equal texts, F51 unequal ones
unfoldable pub wanted : Bool → Bool → Bool
wanted true b = b
wanted false b = not b

-- ---- carrying out a code line of the call f, with that line already passed

unfoldable pub finish : Rooms → Marks → Ending → Bytes → Frame → Shared → Step
finish room m offer l f w = offers l f w
finish room m (assign d) l f w = continues (with_param f d l) w
finish room m (iterate d ds) l f w = take_pass d (pass_of m ds l) ds (param f d) f.next f.loops f w
finish room m stop l f w = halts 0 w
finish room m (write ch) l f w = write_to room ch l f w
finish room m (layout ch) l f w = write_layout room m ch f.next f w
finish room m (copy ch) l f w = copies room ch f w
finish room m save l f w = save_text (param f 1) (param f 2) f w
finish room m skip l f w = skip_by (value_of m w.store (param f 1)) f w
finish room m (skip_text b) l f w = skip_if m (wanted b (same (param f 1) (param f 2))) f w
finish room m (skip_value o) l f w = skip_compared m o (value_of m w.store (param f 1)) (value_of m w.store (param f 2)) f w
finish room m repeat l f w = start_repeat m (value_of m w.store l) f w
finish room m again l f w = end_pass m f.loops f w
finish room m leave l f w = leaves w
finish room m malformed l f w = continues f w

-- a number met while building ends the run
unfoldable pub finish_built : Rooms → Marks → Ending → Frame → Building → Step
finish_built room m k f (failed n w) = halts n w
finish_built room m k f (built l w) = finish room m k l f w

-- a code line carried out: its parts are built, then its ending is done
unfoldable pub carry_out : Rooms → Marks → Code → Frame → Shared → Step
carry_out room m c f w = finish_built room m c.ending f (build m f c.parts [] w)

-- ---- the machine

-- the machine's state: the input lines left and the last one read, a line that is to be offered, the open calls (the innermost first), the last
-- call number, what calls share, the events, and what was decided of the lines offered
pub record State : Type 0 where
  pub input : List Bytes
  pub line : ℕ
  pub pending : Option Bytes
  pub frames : List Frame
  pub calls : ℕ
  pub shared : Shared
  pub events : ℕ
  pub tally : Tally

-- the machine goes on, or has ended with a number
pub data Next : Type 0 where
  running : State → Next
  ended : ℕ → State → Next

-- the state with these open calls, and perhaps a line to be offered
unfoldable pub state_with : State → Option Bytes → List Frame → Shared → State
state_with s p fs w = record { input = s.input; line = s.line; pending = p; frames = fs; calls = s.calls; shared = w; events = s.events; tally = s.tally }

-- lines passed over: landed before these lines, beyond the body's end with some left to pass, or a bad landing
pub data Passed : Type 0 where
  landed : List Bytes → Passed
  beyond : ℕ → Passed
  bad_landing : Passed

-- document 01's number for lines passed over: 18 for a bad landing
abbrev pub landing_fault : Passed → ℕ
landing_fault (landed cs) = 0
landing_fault (beyond n) = 0
landing_fault bad_landing = 18

-- n code lines passed over, a layout with its owner; d iterations were opened on the way. The line landed on must lie in
-- the same iterations as the line skipped from, and a body's end lies in none
unfoldable pub pass_over : Marks → ℕ → ℕ → List Bytes → Passed
pass_over m zero zero cs = landed cs
pass_over m zero (suc d) cs = bad_landing
pass_over m (suc n) zero [] = beyond (suc n)
pass_over m (suc n) (suc d) [] = bad_landing
pass_over m (suc n) zero (c ∷ cs) =
    elim (effect m c) [ Malformed ↦ pass_over m n zero cs | Plain ↦ pass_over m n zero cs | Opens ↦ pass_over m n (suc zero) cs | Closes ↦ bad_landing | Owns ↦ pass_over m n zero (drop 1 cs) ]
pass_over m (suc n) (suc d) (c ∷ cs) =
    elim (effect m c) [ Malformed ↦ pass_over m n (suc d) cs | Plain ↦ pass_over m n (suc d) cs | Opens ↦ pass_over m n (suc (suc d)) cs | Closes ↦ pass_over m n d cs | Owns ↦ pass_over m n (suc d) (drop 1 cs) ]

-- what a skip comes to in one call: f goes on at the line landed on, or the lines left are passed over further out
unfoldable pub skip_from : Frame → List Frame → Shared → State → (ℕ → Next) → Passed → Next
skip_from f fs w s out (landed cs) = running (state_with s none (resume_at f f.loops cs ∷ fs) w)
skip_from f fs w s out (beyond k) = out k
skip_from f fs w s out bad_landing = ended (landing_fault bad_landing) (state_with s none (f ∷ fs) w)

-- lines passed over in the innermost call, then in its callers, at last in the input
unfoldable pub skip_in : Marks → ℕ → List Frame → Shared → State → Next
skip_in m n [] w s =
    running (record { input = drop n s.input; line = s.line + min n (length s.input); pending = none; frames = []; calls = s.calls; shared = w; events = s.events; tally = s.tally })
skip_in m n (f ∷ fs) w s = skip_from f fs w s (λ k. skip_in m k fs w s) (pass_over m n 0 f.next)

-- nine parameters; those that the template lacks are empty
unfoldable pub padded : List Bytes → List Bytes
padded ps = ps ++ replicate (9 - length ps) []

-- a call of a macro, or 14
unfoldable pub call : Macro → List Bytes → State → Next
call x ps s =
    elim (leb calls_most (length s.frames)) [
      | true ↦ ended 14 s
      | false ↦ running (record {
        input = s.input;
        line = s.line;
        pending = none;
        frames = record { number = suc s.calls; params = padded ps; delimiters = replicate 9 []; next = x.body; loops = [] } ∷ s.frames;
        calls = suc s.calls;
        shared = s.shared;
        events = s.events;
        tally = s.tally;
      })
    ]

-- a line that is no call is written to the first output, or 13
unfoldable pub passed : State → Option Shared → Next
passed s none = ended 13 s
passed s (some w) = running (state_with s none s.frames w)

unfoldable pub pass_through : Rooms → Bytes → State → Next
pass_through room l s = passed s (wrote room First l s.shared)

-- a line is counted when its reading is decided, by the template that is chosen or none, whatever follows
unfoldable pub decided : (which : Option ℕ) → State → State
decided i s = record { input = s.input; line = s.line; pending = s.pending; frames = s.frames; calls = s.calls; shared = s.shared; events = s.events; tally = tallied i s.tally }

unfoldable pub offered_as : Rooms → Loaded → Bytes → State → Option Reading → Next
offered_as room t l s none = pass_through room l (decided none s)
offered_as room t l s (some r) = call (get_or t.macros r.which no_macro) r.pieces (decided (some r.which) s)

-- an offered line's first reading opens a call; without a reading the line is written
unfoldable pub offered : Rooms → Loaded → Bytes → State → Next
offered room t l s = offered_as room t l s (chosen t.marks (templates t.macros) l)

-- ---- copying input lines

-- the state with one input line more read, and ls left
unfoldable pub past_line : List Bytes → State → State
past_line ls s = record { input = ls; line = suc s.line; pending = none; frames = s.frames; calls = s.calls; shared = s.shared; events = s.events; tally = s.tally }

-- whether a content is too long to be copied; a dropped one isn't measured
unfoldable pub is_too_long : Channel → Bytes → Bool
is_too_long Nowhere c = false
is_too_long First c = ltb line_most (length c)
is_too_long Second c = ltb line_most (length c)

-- contents of input lines are copied to a channel until one begins with the name, which is dropped, or the input ends. Each is compared,
-- then measured, or 11, then written, or 13
unfoldable pub copy_lines : Marks → Rooms → Channel → Bytes → List Bytes → State → Next
copy_lines m room ch name [] s = running s
copy_lines m room ch name (l ∷ ls) s =
    let c : Bytes = up_to m.source l in
    elim (begins name c) [
      | true ↦ running (past_line ls s)
      | false ↦
          elim (is_too_long ch c) [
            | true ↦ ended 11 (past_line ls s)
            | false ↦
                elim (wrote room ch c s.shared) [ none ↦ ended 13 (past_line ls s) | some w ↦ copy_lines m room ch name ls (state_with (past_line ls s) none s.frames w) ]
          ]
    ]

-- F2; with an empty name no line is read
unfoldable pub copy_input : Marks → Rooms → Channel → Bytes → State → Next
copy_input m room ch [] s = running s
copy_input m room ch (x ∷ name) s = copy_lines m room ch (x ∷ name) s.input s

-- what a code line of the innermost call makes of the state; fs are its callers
unfoldable pub stepped : Marks → List Frame → Step → State → Next
stepped m fs (continues f w) s = running (state_with s none (f ∷ fs) w)
stepped m fs (offers l f w) s = running (state_with s (some l) (f ∷ fs) w)
stepped m fs (skips n f w) s = skip_in m n (f ∷ fs) w s
stepped m fs (leaves w) s = running (state_with s none fs w)
stepped m fs (copies room ch f w) s = copy_input m room ch (param f 1) (state_with s none (f ∷ fs) w)
stepped m fs (halts k w) s = ended k (state_with s none fs w)

-- what comes without an event: finished calls close, and with none open the next input line is read and measured
unfoldable pub closed : Frame → List Frame → List Frame → List Bytes → List Frame
closed f fs outer [] = outer
closed f fs outer (c ∷ cs) = f ∷ fs

-- the open calls without the finished ones
unfoldable pub unfinished : List Frame → List Frame
unfinished [] = []
unfinished (f ∷ fs) = closed f fs (unfinished fs) f.next

-- an input content over 200 bytes ends the run with 11
unfoldable pub measured : State → Bytes → Bool → Next
measured s c true = running s
measured s c false = ended 11 s

-- the next input line, up to mark 1; with none left the run ends with 0
unfoldable pub read_input : Marks → List Bytes → State → Next
read_input m [] s = ended 0 (state_with s none [] s.shared)
read_input m (l ∷ ls) s =
    let c : Bytes = up_to m.source l in
    measured (record { input = ls; line = suc s.line; pending = some c; frames = []; calls = s.calls; shared = s.shared; events = s.events; tally = s.tally }) c (leb (length c) line_most)

unfoldable pub ready_in : Marks → State → List Frame → Next
ready_in m s [] = read_input m s.input s
ready_in m s (f ∷ fs) = running (state_with s none (f ∷ fs) s.shared)

unfoldable pub ready_for : Marks → State → Option Bytes → Next
ready_for m s (some l) = running s
ready_for m s none = ready_in m s (unfinished s.frames)

-- the machine before its next event
unfoldable pub ready : Marks → State → Next
ready m s = ready_for m s s.pending

-- the innermost call's next code line is begun
unfoldable pub begin_at : Rooms → Marks → Frame → List Frame → State → List Bytes → Next
begin_at room m f fs s [] = running s
begin_at room m f fs s (c ∷ cs) = stepped m fs (carry_out room m (parse m true c) (resume_at f f.loops cs) s.shared) s

unfoldable pub begin_line : Rooms → Marks → List Frame → State → Next
begin_line room m [] s = running s
begin_line room m (f ∷ fs) s = begin_at room m f fs s f.next

-- an event is counted
unfoldable pub counted : State → State
counted s = record { input = s.input; line = s.line; pending = none; frames = s.frames; calls = s.calls; shared = s.shared; events = suc s.events; tally = s.tally }

unfoldable pub event_for : Rooms → Loaded → State → Option Bytes → Next
event_for room t s (some l) = offered room t l (counted s)
event_for room t s none = begin_line room t.marks s.frames (counted s)

-- one event: a line is offered, or a code line begun
unfoldable pub event : Rooms → Loaded → State → Next
event room t s = event_for room t s s.pending

unfoldable pub follow : (State → Next) → Next → Next
follow go (ended k s) = ended k s
follow go (running s) = go s

-- the machine n events later: ended by then, or just before its next event
unfoldable pub after : ℕ → Rooms → Loaded → Next → Next
after zero room t x = follow (λ s. ready t.marks s) x
after (suc n) room t x = follow (λ s. follow (λ s'. after n room t (event room t s')) (ready t.marks s)) x

-- nothing is written
unfoldable pub no_output : Outputs
no_output = outputs [] []

-- at first no call is open and nothing is stored, written or counted
unfoldable pub initial : Loaded → State
initial t = record { input = t.input; line = t.last; pending = none; frames = []; calls = 0; shared = record { symbols = 0; store = []; output = no_output }; events = 0; tally = no_lines t.macros }

-- number, line, events, and what is written to the outputs, the store and the report
pub record Result : Type 0 where
  pub number : ℕ
  pub line : ℕ
  pub events : ℕ
  pub output : Outputs
  pub store : Bytes
  pub report : Bytes

unfoldable pub result_of : Loaded → ℕ → State → Result
result_of t k s =
    record { number = k; line = s.line; events = s.events; output = s.shared.output; store = listing s.shared.store; report = report_bytes (report_rows t.macros s.tally) }

-- a machine that goes on when its fuel is used is spent: 20
unfoldable pub outcome : Loaded → Next → Result
outcome t (ended k s) = result_of t k s
outcome t (running s) = result_of t 20 s

-- no run begins: nothing is written
abbrev pub no_run : (number line : ℕ) → Result
no_run k n = record { number = k; line = n; events = 0; output = no_output; store = []; report = [] }

-- a run's result, for legal fuel and rooms
unfoldable pub run : ℕ → Rooms → Load → Result
run fuel room (refused k n) = no_run k n
run fuel room (loaded t) = outcome t (after fuel room t (running (initial t)))
