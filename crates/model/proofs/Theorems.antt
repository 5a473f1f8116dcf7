-- What is proved of document 01's definitions, in one place: the first reading, the places of a search, the keys of children, the fuels, the events, the usage report, the numbers, what is demanded of a run, the sizes
-- of its states, the places of its lines, the digits of conversions and channels, function 2, characters, and the range of values. Every statement is for all texts that load and all rooms; the proofs are in the
-- modules that each line cites.
use mathlib.Core.Path.{◌≡◌, refl}
use mathlib.Core.Logic.{◌↔◌}
use mathlib.Core.Bool.{true, false}
use mathlib.Core.Option.{none, some}
use mathlib.Core.List.{List, [], ◌∷◌, ◌++◌}
use Prim.Native.Nat.{ℕ, suc, ◌+◌, ◌*◌, ◌^◌, ◌≤◌, ◌<◌}
use native.Mathlib.Omega.{arith}
use lib.ListN.{length, get_or}
use lib.IntN.{ℤ}
use Rattle.model.specs.declared.Marks.{Marks}
use Rattle.model.specs.declared.Ran.{Ran}
use Rattle.model.specs.declared.Channel.{Channel}
use Rattle.model.specs.declared.Conversion.{Conversion}
use Rattle.model.specs.declared.Conversion.TheVariants.{Length, CodePoint}
use Rattle.model.specs.declared.Effect.TheVariants.{Malformed}
use Rattle.model.specs.Limits.{line_most, nodes_most, dead_least, report_least, fuel_most, largest, digits_most}
use Rattle.model.specs.Text.{Bytes, up_to, has, lines}
use Rattle.model.specs.Utf8.{Character, character, points, Point, encode, encode_all, Points, Leads, MalformedText, MalformedFront}
use Rattle.model.specs.Reading.{atom, Pieces, Reading, chosen}
use Rattle.model.specs.Code.{digit_of, conversion_of, channel_of, OtherDigit, effect}
use Rattle.model.specs.Store.{Store, decimal}
use Rattle.model.specs.Value.{FitsWidth, checked, expression, whole, value_of}
use Rattle.model.specs.Load.{begins, no_macro, templates, nodes, Loaded, Load, loaded, load}
use Rattle.model.specs.Report.{report_bytes, total, NoLess}
use Rattle.model.specs.Usage.{events_of, is_chosen, is_passed, lines_offered, lines_decided, rows_after}
use Rattle.model.specs.Machine.{Rooms, rooms, Extends, Loop, Frame, Shared, halts, param, failed, add, add_converted, piece_of, pass_of, take_pass, State, is_too_long, copy_input, skip_in, running, ended, counted, event, after, initial, result_of, run}
use Rattle.model.specs.Places.{Found, bytes_of_look, try_place, beginnings, child_in, holey_in, together, fitting, places_taken, bytes_read, Once}
use Rattle.model.specs.Parts.{lit, hole, stop}
use Rattle.model.specs.Children.{end_key, placeholder_key, element_of}
use Rattle.model.specs.Results.{check_text, fit_of_line, run_text}
use Rattle.model.specs.Fitting.{Reads, First}
use Rattle.model.specs.FirstReading.{FitsFirst, OffersFirst}
use Rattle.model.specs.Copies.{contents, NoneBegins, Takes, LacksRoom, received, moved_further}
use Rattle.model.specs.Legal.{Lawful, Legal, code_lines, At, MacrosAt}
use Rattle.model.specs.Sizes.{BodiesOk, Small, PendingSmall, LoopsFew}
use Rattle.model.specs.Runs.{Runs}
use Rattle.model.specs.NumberTable.{begun_numbers, check_numbers, fit_numbers, run_numbers}
use Rattle.model.specs.Demands.{EndsInFuel, GoesBeyond, OffersInRun, FollowsExpansion}
use Rattle.model.proofs.FirstReading as FirstReading
use Rattle.model.proofs.Search.{search}
use Rattle.model.proofs.Looks as Looks
use Rattle.model.proofs.Places as Places
use Rattle.model.proofs.Children as Children
use Rattle.model.proofs.Places.{IsChosen}
use Rattle.model.proofs.SearchFuel as SearchFuel
use Rattle.model.proofs.Fuel as Fuel
use Rattle.model.proofs.Events as Events
use Rattle.model.proofs.NumberTable as NumberTable
use Rattle.model.proofs.Demands as Demands
use Rattle.model.proofs.Loading as Loading
use Rattle.model.proofs.Nesting as Nesting
use Rattle.model.proofs.Input as Input
use Rattle.model.proofs.Sizes as Sizes
use Rattle.model.proofs.Conversions as Conversions
use Rattle.model.proofs.Channels as Channels
use Rattle.model.proofs.Copies as Copies
use Rattle.model.proofs.Utf8 as Utf8
use Rattle.model.proofs.Characters as Characters
use Rattle.model.proofs.Usage as Usage
use Rattle.model.proofs.Range as Range
use Rattle.model.proofs.Depth as Depth

-- ---- the first reading of a line

module _ (text : Bytes) (t : Loaded) (loads : load text ≡ loaded t) (line : Bytes) where
  -- a line is no call exactly when no template fits it under any split into balanced pieces
  pub no_reading : chosen t.marks (templates t.macros) line ≡ none ↔ ((i : ℕ) (ps : Pieces) → ¬ Reads t.marks (templates t.macros) line i ps)
  no_reading = Loading.loaded_no_call text t loads line

  -- otherwise the chosen reading fits, and comes before every other fitting one
  pub chosen_is_first : (r : Reading) → chosen t.marks (templates t.macros) line ≡ some r → First t.marks (templates t.macros) line r.which r.pieces
  chosen_is_first = Loading.loaded_chosen text t loads line

  -- and the first reading is the chosen one
  pub first_is_chosen : (i : ℕ) (ps : Pieces) → First t.marks (templates t.macros) line i ps
      → (r : Reading) × (chosen t.marks (templates t.macros) line ≡ some r) × (i ≡ r.which) × (ps ≡ r.pieces)
  first_is_chosen = Loading.loaded_first text t loads line

-- so fit's answer is the first reading, in 01's words
pub fit_is_first : (text : Bytes) (t : Loaded) → load text ≡ loaded t → (line : Bytes) (rows dead : ℕ) → 2048 ≤ rows → 51456 ≤ dead → length line ≤ 200
    → FitsFirst t line (fit_of_line rows dead text line)
fit_is_first = FirstReading.fit_first

-- and so is what the event of a pending line comes to, in a run or from any other state: passing through, or the call
pub offer_is_first : (text : Bytes) (t : Loaded) → load text ≡ loaded t → (room : Rooms) (s : State) (l : Bytes) → s.pending ≡ some l → OffersFirst room t l (counted s) (event room t s)
offer_is_first = FirstReading.offered_first

-- ---- the places of a search

-- a row of dead places has a bit for each node at each position of a line
pub dead_row : 8 * dead_least ≡ nodes_most * (line_most + 1)
dead_row = refl

-- marks change nothing: a search that goes back to dead places, too, finds the same
pub marks_change_nothing : (m : Marks) (ts : List Bytes) (line : Bytes)
    → (fitting m ts line).found ≡ search m (child_in (beginnings m ts)) (holey_in (beginnings m ts)) (suc (together (beginnings m ts) + length line)) 0 line
marks_change_nothing = Places.found_unmarked

module _ (text : Bytes) (t : Loaded) (loads : load text ≡ loaded t) (line : Bytes) where
  -- where the search finds nothing, no reading is chosen
  pub search_no_call : (fitting t.marks (templates t.macros) line).found ≡ none → chosen t.marks (templates t.macros) line ≡ none
  search_no_call = Places.loaded_finds_none text t loads line

  -- where it finds something, that is the chosen reading
  pub search_is_chosen : (f : Found) → (fitting t.marks (templates t.macros) line).found ≡ some f → IsChosen t.marks (templates t.macros) line f
  search_is_chosen = Places.loaded_finds_chosen text t loads line

  -- no place is taken up twice
  pub each-place_once : Once (fitting t.marks (templates t.macros) line).taken
  each-place_once = Places.taken_once t.marks (templates t.macros) line

  -- so they are at most as many as the tree's nodes times (line length + 1)
  pub few_places : places_taken t.marks (templates t.macros) line ≤ nodes t.macros * suc (length line)
  few_places = Places.loaded_places text t loads line

  -- and the bytes that are read where the next atom is looked for are at most these times the line's length
  pub few_bytes : bytes_read t.marks (templates t.macros) line ≤ places_taken t.marks (templates t.macros) line * length line
  few_bytes = Places.few_read t.marks (templates t.macros) line

-- the bytes of one look, where b and then s are left of the line: the atom's where there is one
pub look-atom : (m : Marks) (s a rest : Bytes) → atom m s ≡ some (a, rest) → bytes_of_look m s ≡ length a
look-atom = Looks.look-atom

-- one at a right bracket
pub look_right : (m : Marks) (b : ℕ) (s : Bytes) → b ≡ m.right → bytes_of_look m (b ∷ s) ≡ 1
look_right = Looks.look_right

-- all that is left at a left bracket without a partner
pub look_open : (m : Marks) (b : ℕ) (s : Bytes) → b ≡ m.left → ¬ (b ≡ m.right) → atom m (b ∷ s) ≡ none → bytes_of_look m (b ∷ s) ≡ length (b ∷ s)
look_open m b s l r e = Looks.look_open m b s r e

-- and none at the line's end. There are no other looks: a byte that is no bracket is an atom
pub look-end : (m : Marks) → bytes_of_look m [] ≡ 0
look-end = Looks.look-end

-- ---- the children of a node

-- the order of keys is the order of children: a literal's key is its byte, after all bytes comes the end's key, and last the placeholder's
pub keys_in_order : (b : ℕ) → b < 256 → (element_of b ≡ lit b) × (b < end_key) × (element_of end_key ≡ stop) × (end_key < placeholder_key) × (element_of placeholder_key ≡ hole)
keys_in_order b u = (Children.byte-key b u, u, Children.end-key, omega arith, Children.hole_key)

-- and no two keys have one element
pub one_key : (a b : ℕ) → element_of a ≡ element_of b → a ≡ b
one_key = Children.one_key

-- ---- two fuels

-- more fuel changes nothing of a run that ended
pub more_fuel_same : (f g : ℕ) (room : Rooms) (x : Load) → f ≤ g → ¬ ((run f room x).number ≡ 20) → run g room x ≡ run f room x
more_fuel_same = Fuel.fuel_enough

-- and only adds to the outputs of a spent one
pub more_fuel_adds : (f g : ℕ) (room : Rooms) (x : Load) → f ≤ g → (run f room x).number ≡ 20 → Extends (run f room x).output (run g room x).output
more_fuel_adds = Fuel.fuel_spent

-- ---- runs and the expansion

module _ (f : ℕ) (room : Rooms) (t : Loaded) where
  -- where the expansion ends within as many events as the fuel, the run is the expansion
  pub run_ends : (n k : ℕ) (s : State) → n ≤ f → after n room t (running (initial t)) ≡ ended k s → run f room (loaded t) ≡ result_of t k s
  run_ends = Fuel.run_ended f room t

  -- where it doesn't, the run is spent, and stands just before the first event beyond the fuel
  pub run_spent : (s : State) → after f room t (running (initial t)) ≡ running s → run f room (loaded t) ≡ result_of t 20 s
  run_spent = Fuel.run_spent f room t

  -- so its number is other than 20 exactly when the expansion ends within as many events as the fuel
  pub exactly_ended : (¬ ((run f room (loaded t)).number ≡ 20)) ↔ EndsInFuel f room t
  exactly_ended = Events.exactly_ended f room t

  -- and 20 exactly when the expansion has an event beyond it
  pub exactly_spent : (run f room (loaded t)).number ≡ 20 ↔ GoesBeyond f room t
  exactly_spent = Events.exactly_spent f room t

  -- the events counted are at most the fuel
  pub events_counted : (run f room (loaded t)).events ≤ f
  events_counted = Fuel.run_events f room t

  -- a spent run has used all of its fuel
  pub spent_used : (run f room (loaded t)).number ≡ 20 → (run f room (loaded t)).events ≡ f
  spent_used = Fuel.spent_events f room t

-- ---- the usage report

module _ (f : ℕ) (room : Rooms) (t : Loaded) where
  -- it has the bytes of these rows
  pub report-bytes : (run f room (loaded t)).report ≡ report_bytes (rows_after f room t)
  report-bytes = Usage.report_is room t f

  -- each template has a row: its line number, and how many of the lines offered it was chosen for
  pub count_of : (i : ℕ) → i < length t.macros → get_or (rows_after f room t) i (0, 0) ≡ ((get_or t.macros i no_macro).line, lines_decided (is_chosen i) f room t)
  count_of = Usage.row_is room t f

  -- the row after them has 0, and how many no template was chosen for
  pub count-passed : get_or (rows_after f room t) (length t.macros) (0, 0) ≡ (0, lines_decided is_passed f room t)
  count-passed = Usage.last_row_is room t f

  -- there is no other row
  pub row_count : length (rows_after f room t) ≡ length t.macros + 1
  row_count = Usage.rows_are room t f

  -- the printed counts, the last line's included, add up to the lines offered among the events counted
  pub counts_add_up : total (rows_after f room t) ≡ lines_offered f room t
  counts_add_up = Usage.counts_add_up room t f

  -- which are the events of the result, one each
  pub events_are : (run f room (loaded t)).events ≡ events_of (λ _. 1) f room t (running (initial t))
  events_are = Usage.events_are room t f

  -- a report with more fuel has the same line numbers, and no count is smaller
  pub counts_grow : (g : ℕ) → f ≤ g → NoLess (rows_after f room t) (rows_after g room t)
  counts_grow g = Usage.counts_grow room t f g

-- ---- n events after the start

module _ (n : ℕ) (room : Rooms) (t : Loaded) (s : State) where
  -- a state before its next event has counted n events
  pub running_events : after n room t (running (initial t)) ≡ running s → s.events ≡ n
  running_events = Events.running_events n room t s

  -- an ended one at most n, and the expansion had ended as soon as it had counted them
  pub ended_events : (k : ℕ) → after n room t (running (initial t)) ≡ ended k s → (s.events ≤ n) × (after s.events room t (running (initial t)) ≡ ended k s)
  ended_events k = Events.ended_events n room t k s

  -- one event more is `event`, and what then comes without one
  pub next-event : after n room t (running (initial t)) ≡ running s → after (n + 1) room t (running (initial t)) ≡ after 0 room t (event room t s)
  next-event = Events.next-event n room t (running (initial t)) s

-- ---- the numbers of the table

-- every number that a public call answers is one of the table. The contracts of check and fit say that the answer is `check_text ..` and `fit_of_line ..`, and
-- run's that its number is that of `run_text ..`; so this holds of each answer
pub check-number : (rows : ℕ) (text : Bytes) → has (check_text rows text).number check_numbers ≡ true
check-number = NumberTable.check_numbered

pub fit_number : (rows dead : ℕ) (text line : Bytes) → has (fit_of_line rows dead text line).number fit_numbers ≡ true
fit_number = NumberTable.fit_numbered

pub run-number : (fuel rows dead : ℕ) (room : Rooms) (store report : ℕ) (text : Bytes) → has (run_text fuel rows dead room store report text).number run_numbers ≡ true
run-number = NumberTable.run_numbered

-- the table has no 10
pub ten_is_none : (has 10 check_numbers ≡ false) × (has 10 fit_numbers ≡ false) × (has 10 run_numbers ≡ false)
ten_is_none = NumberTable.ten_is_none

-- that of a run of a text that loads is 0 or one of 11 to 21
pub begun-number : (fuel : ℕ) (room : Rooms) (t : Loaded) → has (run fuel room (loaded t)).number begun_numbers ≡ true
begun-number = NumberTable.begun_numbered

-- ---- a text that loads

module _ (text : Bytes) (t : Loaded) (loads : load text ≡ loaded t) where
  -- its marks and templates keep 01's rules and limits
  pub legal_parts : Lawful t.marks × Legal t.marks t.macros
  legal_parts = Loading.load_legal text t loads

  -- it has at most 1,024 code lines
  pub few_codes : code_lines t.macros ≤ 1024
  few_codes = Loading.load_codes text t loads

  -- its bodies are well nested, and their code lines have at most 200 bytes
  pub nested_bodies : BodiesOk t.marks t.macros
  nested_bodies = Nesting.load-nested text t loads

  -- its macros stand at their line numbers, and the input follows the section's last line
  pub parts_placed : MacrosAt t.marks (lines text) t.macros × At (lines text) t.last t.input
  parts_placed = Input.load_at text t loads

  -- no report of its runs is longer than its room has to be
  pub report_short : (f : ℕ) (room : Rooms) → f ≤ fuel_most → length (run f room (loaded t)).report ≤ report_least
  report_short = Usage.report_short text t loads

  -- ---- the states of its runs

  module _ (n : ℕ) (room : Rooms) (s : State) where
    -- a state before an event keeps the sizes that the code's arrays have
    pub running_small : after n room t (running (initial t)) ≡ running s → Small room s × PendingSmall s.pending × LoopsFew s.frames
    running_small = Sizes.running_small text t loads n room s

    -- and so does the last one
    pub ended_small : (k : ℕ) → after n room t (running (initial t)) ≡ ended k s → Small room s × LoopsFew s.frames
    ended_small k = Sizes.ended_small text t loads n room k s

    -- the input left is the lines after the last one read
    pub input_left : after n room t (running (initial t)) ≡ running s → At (lines text) s.line s.input
    input_left = Input.running_at text t loads n room s

  -- ---- what is demanded of its runs

  -- every line offered is passed through exactly when no template reads it, and otherwise calls the first reading
  pub offers_in_run : (fuel : ℕ) (room : Rooms) → OffersInRun fuel room t
  offers_in_run = Demands.run_offers text t loads

  -- an answer that is the expansion stopped at the fuel has all that 01 demands
  pub run_follows : (fuel : ℕ) (output second store report : Bytes) {r : Ran} {output' second' store' report' : Bytes}
      → Runs (run fuel (rooms (length output) (length second)) (loaded t)) output second store report r output' second' store' report'
      → fuel ≤ fuel_most → FollowsExpansion t fuel output second store report r output' second' store' report'
  run_follows = Demands.follows-expansion text t loads

-- ---- code lines

-- a conversion's digit names it, and no other byte does
pub names-conversion : (b : ℕ) (c : Conversion) → conversion_of b ≡ some c ↔ b ≡ 48 + digit_of c
names-conversion = Conversions.names_exactly

-- the digits 0, 3 and 4 name the channels of F1 and F2, and no other digit does
pub names_no_channel : (x : ℕ) (s : Bytes) → channel_of (x ∷ s) ≡ none ↔ OtherDigit x
names_no_channel = Channels.channel_refused

-- where one follows, F1 and F2 at their line's start are malformed
pub other_digits : (m : Marks) (x : ℕ) (s : Bytes) → OtherDigit x → (effect m (m.escape ∷ 70 ∷ 49 ∷ x ∷ s) ≡ Malformed) × (effect m (m.escape ∷ 70 ∷ 50 ∷ x ∷ s) ≡ Malformed)
other_digits m x s h = (Channels.one_malformed m x s h, Channels.two_malformed m x s h)

-- ---- function 2

module _ (m : Marks) (room : Rooms) (ch : Channel) (name : Bytes) (ls : List Bytes) (s : State) (some-name : ¬ (length name ≡ 0)) (idle : s.pending ≡ none)
    (n : NoneBegins m name ls) (h : Takes m room ch ls s.shared.output) where
  -- the lines ls, none of which begins with parameter 1, are copied, each content with a byte 10 after it, up to the input's end
  pub copies_all : s.input ≡ ls → copy_input m room ch name s ≡ running (moved_further s (length ls) [] (received ch (contents m ls) s.shared.output))
  copies_all = Copies.copies_all m room ch name ls s some-name idle n h

  module _ (l : Bytes) (left : List Bytes) (e : s.input ≡ ls ++ l ∷ left) where
    -- or up to one that does, which is read and dropped, whatever its length
    pub copies_until : begins name (up_to m.source l) ≡ true → copy_input m room ch name s ≡ running (moved_further s (suc (length ls)) left (received ch (contents m ls) s.shared.output))
    copies_until = Copies.copies_until m room ch name ls s some-name idle n h l left e

    -- one that does not ends the run with 11 where it is too long
    pub copy-long : begins name (up_to m.source l) ≡ false → is_too_long ch (up_to m.source l) ≡ true
        → copy_input m room ch name s ≡ ended 11 (moved_further s (suc (length ls)) left (received ch (contents m ls) s.shared.output))
    copy-long = Copies.copy-long m room ch name ls s some-name idle n h l left e

    -- and else with 13 where there is no room for all of it: nothing of it is written, and what was copied stays
    pub copy_full : begins name (up_to m.source l) ≡ false → is_too_long ch (up_to m.source l) ≡ false → LacksRoom room ch (up_to m.source l) (received ch (contents m ls) s.shared.output)
        → copy_input m room ch name s ≡ ended 13 (moved_further s (suc (length ls)) left (received ch (contents m ls) s.shared.output))
    copy_full = Copies.copy_full m room ch name ls s some-name idle n h l left e

-- with an empty parameter 1 no line is read
pub copies-nothing : (m : Marks) (room : Rooms) (ch : Channel) (s : State) → copy_input m room ch [] s ≡ running s
copies-nothing = Copies.copies-nothing

-- ---- characters

-- the encoding of a code point decodes to it, whatever follows
pub encoding_decodes : (v : ℕ) (s : Bytes) → Point v → character (encode v ++ s) ≡ some (record { code = v; bytes = encode v; rest = s })
encoding_decodes = Utf8.encoded_character

-- whatever decodes is such an encoding, at the front of the bytes
pub decoded_is_encoding : (s : Bytes) (c : Character) → character s ≡ some c → Leads s c
decoded_is_encoding = Utf8.decoded_is

-- a text's code points are those of which it is the row of encodings
pub text-points : (s : Bytes) (vs : List ℕ) → points s ≡ some vs ↔ (Points vs × (s ≡ encode_all vs))
text-points s vs = (Utf8.points_encoded s vs, λ h. Utf8.points_of s vs h.0 h.1)

module _ (m : Marks) (f : Frame) (d : ℕ) (l : Bytes) (w : Shared) where
  -- ed5 counts the characters of parameter d
  pub length_counts : (vs : List ℕ) → Points vs → param f d ≡ encode_all vs → add_converted m f d Length l w ≡ add l (decimal (length vs)) w
  length_counts = Characters.length_counts m f d l w

  -- and gives 21 where one of them is malformed
  pub length_malformed : MalformedText (param f d) → add_converted m f d Length l w ≡ failed 21 w
  length_malformed = Characters.length_malformed m f d l w

  -- ed8 gives the code point of exactly one character
  pub point_of_one : (v : ℕ) → Point v → param f d ≡ encode v → add_converted m f d CodePoint l w ≡ add l (decimal v) w
  point_of_one = Characters.point_of_one m f d l w

  -- 16 where there are none or several
  pub point_of_others : (vs : List ℕ) → Points vs → param f d ≡ encode_all vs → ¬ (length vs ≡ 1) → add_converted m f d CodePoint l w ≡ failed 16 w
  point_of_others = Characters.point_of_others m f d l w

  -- and 21 where one is malformed, however many there are
  pub point_malformed : MalformedText (param f d) → add_converted m f d CodePoint l w ≡ failed 21 w
  point_malformed = Characters.point_malformed m f d l w

-- a pass without a list takes the character at the front, whatever follows
pub pass_takes : (m : Marks) (v : ℕ) (s : Bytes) → Point v → pass_of m [] (encode v ++ s) ≡ some (record { piece = encode v; delimiter = []; rest = s })
pass_takes = Characters.pass_takes

-- and gives 21 where that is malformed
pub pass_malformed : (m : Marks) (d x : ℕ) (s old : Bytes) (after : List Bytes) (ls : List Loop) (f : Frame) (w : Shared) → MalformedFront (x ∷ s)
    → take_pass d (pass_of m [] (x ∷ s)) [] old after ls f w ≡ halts 21 w
pass_malformed = Characters.pass_malformed

-- ---- values

-- values have 64 bits, one of them for the sign
pub largest-bits : largest + 1 ≡ 2 ^ 63
largest-bits = Range.largest-bits

-- the value of an expression fits
pub value_fits : (m : Marks) (st : Store) (s : Bytes) (v : ℤ) → value_of m st s ≡ some v → FitsWidth v
value_fits = Range.value_fits

-- an operand or a step is kept exactly if it fits
pub checked_kept : (v : ℤ) → checked v ≡ some v ↔ FitsWidth v
checked_kept = Range.checked_kept

-- and is none, which gives 15, exactly otherwise
pub checked-none : (v : ℤ) → checked v ≡ none ↔ (¬ FitsWidth v)
checked-none = Range.checked-none

-- a stored number may have as many digits as the largest value
pub largest_digits : length (decimal largest) ≡ digits_most
largest_digits = Range.largest_digits

-- a skip in the input beyond its last line drops the lines that are left, however large it is
pub skip_beyond : (m : Marks) (n : ℕ) (w : Shared) (s : State) → length s.input ≤ n → skip_in m n [] w s ≡ skip_in m (length s.input) [] w s
skip_beyond = Input.skip_beyond

-- ---- bounds inside the definitions

-- any number that is large enough bounds the depth of an expression
pub any_depth : (m : Marks) (st : Store) (s : Bytes) (n : ℕ) → 3 * length s + 3 ≤ n → whole (expression n m st s) ≡ value_of m st s
any_depth = Depth.value_enough

-- the depth of a search
pub any_fuel : (m : Marks) (ts : List Bytes) (line : Bytes) (n : ℕ) → together (beginnings m ts) + length line < n
    → try_place m (child_in (beginnings m ts)) (holey_in (beginnings m ts)) n 0 0 line [] ≡ fitting m ts line
any_fuel = SearchFuel.fuel_enough

-- and the length of a pass's piece
pub any_length : (m : Marks) (ds s : Bytes) (d : ℕ) → piece_of (length s + 1 + d) m ds s ≡ piece_of (length s + 1) m ds s
any_length = Depth.piece_enough
