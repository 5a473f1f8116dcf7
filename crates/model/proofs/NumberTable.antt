-- Every number that a public call answers is one of document 01's table: cause by cause through loading and through the machine.
-- The theorems, at the end: ten_is_none, check_numbered, fit_numbered, begun_numbered, run_numbered.
use mathlib.Core.Path.{◌≡◌, refl, subst}
use mathlib.Core.Bool.{Bool, true, false, not, ◌&&◌, ◌||◌}
use mathlib.Core.Option.{Option, none, some}
use mathlib.Core.List.{List, [], ◌∷◌, ◌++◌}
use Prim.Native.Nat.{ℕ, zero, suc, ◌+◌, min}
use lib.Dec.{eqb, leb, ltb}
use lib.ListN.{length, drop}
use lib.IntN.{ℤ, pos, negsuc}
use Rattle.model.specs.declared.Marks.{Marks}
use Rattle.model.specs.declared.Channel.{Channel}
use Rattle.model.specs.declared.Channel.TheVariants.{First}
use Rattle.model.specs.declared.Checked.{Checked}
use Rattle.model.specs.declared.Fitted.{Fitted}
use Rattle.model.specs.declared.Comparison.{Comparison}
use Rattle.model.specs.declared.Conversion.{Conversion}
use Rattle.model.specs.declared.Conversion.TheVariants.{Itself, StoredText, Symbol, LatestDelimiter, ExpressionValue, Length, CodePoint}
use Rattle.model.specs.Text.{Bytes, has, starts_with, up_to, lines, marks_of}
use Rattle.model.specs.Reading.{Reading, chosen}
use Rattle.model.specs.Code.{Code, Part, Ending, byte, serial, convert, offer, assign, iterate, stop, write, layout, copy, save, skip, skip_text, skip_value, repeat, again, leave, malformed}
use Rattle.model.specs.Store.{put, within, decimal}
use Rattle.model.specs.Load.{templates, Progress, Seen, fault, more, section_ends, lowest, template_fault, unless, template_line, code_line, after_line, line_seen}
use Rattle.model.specs.Load.{Loaded, Load, refused, loaded, lowest_at, load_on, load_from, none_read, load_lines, load}
use Rattle.model.specs.Machine.{Rooms, Loop, by_pieces, by_count, Frame, Shared, Step, continues, offers, skips, leaves, copies, halts, decided}
use Rattle.model.specs.Machine.{Building, built, failed, add, add_symbol, add_value, add_length, add_code_point, add_converted, add_part, build}
use Rattle.model.specs.Machine.{Piece, take_pass, next_pass, end_pass, start_repeat, wrote, goes_written, write_to, write_layout, save_text, skip_by, skip_if, skip_compared, finish, finish_built, carry_out}
use Rattle.model.specs.Machine.{State, Next, running, ended, Passed, landed, beyond, bad_landing, pass_over, skip_from, skip_in, call, passed, pass_through, copy_input, offered_as, offered, stepped, unfinished}
use Rattle.model.specs.Machine.{measured, read_input, ready_in, ready_for, ready, begin_at, begin_line, counted, event_for, event, follow, after, initial, Result, result_of, outcome, run}
use Rattle.model.specs.Places.{places_taken, bytes_read}
use Rattle.model.specs.Results.{short_row, short_dead, checked_as, check_text, without_pieces, fitted_as, fitted_in, fit_of_line, illegal, run_text}
use Rattle.model.specs.NumberTable.{load_numbers, end_numbers, begun_numbers, check_numbers, fit_numbers, run_numbers}
use Rattle.model.proofs.Choices.{false-not-true, both}
use Rattle.model.proofs.Copying.{input_copied}
use Rattle.model.proofs.Text.{has_more}

-- ---- lists of numbers

-- a number among some is among these with others behind
has_left : (k : ℕ) (ns ms : List ℕ) → has k ns ≡ true → has k (ns ++ ms) ≡ true
unfolding has
has_left k [] ms e = false-not-true e
has_left k (x ∷ ns) ms e = by (eqb x k) e (λ d. has_left k ns ms d)
  where
    by : (b : Bool) → ◌≡◌ {A = Bool} (elim b [ true ↦ true | false ↦ has k ns ]) true → (has k ns ≡ true → has k (ns ++ ms) ≡ true)
        → ◌≡◌ {A = Bool} (elim b [ true ↦ true | false ↦ has k (ns ++ ms) ]) true
    by true e ih = refl
    by false e ih = ih e

-- and with others in front
has_right : (k : ℕ) (ns ms : List ℕ) → has k ms ≡ true → has k (ns ++ ms) ≡ true
has_right k [] ms e = e
has_right k (x ∷ ns) ms e = has_more k x (ns ++ ms) (has_right k ns ms e)

-- ---- loading

-- a fault's number is one of loading's, on the last line and before it
abbrev FaultNumbered : ℕ → Type 0
FaultNumbered k = (ls : List Bytes) → has (lowest_at ls k) load_numbers ≡ true

-- for a number that is one of them, as is the lesser of it and 8
fault_numbered : (k : ℕ) → has k load_numbers ≡ true → has (min k 8) load_numbers ≡ true → FaultNumbered k
unfolding lowest_at
fault_numbered k e f [] = f
fault_numbered k e f (l ∷ ls) = e

-- each of these causes has such a number
abbrev CausesNumbered : List (Bool × ℕ) → Type 0
CausesNumbered [] = Unit {0}
CausesNumbered (c ∷ cs) = FaultNumbered c.1 × CausesNumbered cs

-- a line's fault has
abbrev SeenNumbered : Seen → Type 0
SeenNumbered (fault k) = FaultNumbered k
SeenNumbered (more r) = Unit {0}
SeenNumbered section_ends = Unit {0}

-- so has the first cause that holds
lowest_numbered : (cs : List (Bool × ℕ)) (r : Progress) → CausesNumbered cs → SeenNumbered (unless (lowest cs) r)
unfolding lowest unless
lowest_numbered [] r h = tt
lowest_numbered (c ∷ cs) r h = both (λ o. SeenNumbered (unless o r)) c.0 _ _ h.0 (lowest_numbered cs r h.1)

-- any line: 4 to 7, and 9
line_seen_numbered : (m : Marks) (r : Progress) (n : ℕ) (l : Bytes) (ls : List Bytes) → SeenNumbered (line_seen m r n l ls)
unfolding line_seen template_line template_fault code_line after_line has
line_seen_numbered m r n l ls =
    both SeenNumbered r.in_body _ _
    (both SeenNumbered (starts_with m.code l) _ _
    (both SeenNumbered (eqb r.opened 0 && not r.due) _ _ (both SeenNumbered (starts_with m.code (drop 1 l)) _ _ tt tt) (fault_numbered _ refl refl))
    (lowest_numbered _ _ (fault_numbered _ refl refl, (fault_numbered _ refl refl, (fault_numbered _ refl refl, tt)))))
    (lowest_numbered _ _ (fault_numbered _ refl refl, (fault_numbered _ refl refl, (fault_numbered _ refl refl, (fault_numbered _ refl refl, tt)))))

-- a refusal has one of loading's numbers
abbrev LoadNumbered : Load → Type 0
LoadNumbered (refused k n) = has k load_numbers ≡ true
LoadNumbered (loaded t) = Unit {0}

-- all lines: 8 besides
load_from_numbered : (m : Marks) (ls : List Bytes) (r : Progress) (n : ℕ) → LoadNumbered (load_from m r n ls)
unfolding load_from load_on has
load_from_numbered m [] r n = refl
load_from_numbered m (l ∷ ls) r n = by (line_seen m r (n + 1) l ls) (line_seen_numbered m r (n + 1) l ls) (λ r'. load_from_numbered m ls r' (n + 1))
  where
    by : (s : Seen) → SeenNumbered s → ((r' : Progress) → LoadNumbered (load_from m r' (n + 1) ls))
        → LoadNumbered (load_on m r.macros (n + 1) ls (λ r'. load_from m r' (n + 1) ls) s)
    by (fault k) e ih = e ls
    by (more r') e ih = ih r'
    by section_ends e ih = tt

-- every text: 2 and 3 besides
load_numbered : (text : Bytes) → LoadNumbered (load text)
unfolding load load_lines has
load_numbered text = both LoadNumbered (ltb 65536 (length text) || has 0 text) _ _ refl (through_lines (lines text))
  where
    by_marks : (o : Option Marks) (ls : List Bytes) → LoadNumbered (elim o [ none ↦ refused 3 1 | some m ↦ load_from m none_read 1 ls ])
    by_marks none ls = refl
    by_marks (some m) ls = load_from_numbered m ls none_read 1

    through_lines : (ls : List Bytes) → LoadNumbered (load_lines ls)
    through_lines [] = refl
    through_lines (f ∷ ls) = by_marks (marks_of f) ls

-- ---- building a line

-- a failure's number is one that ends an expansion
abbrev BuildingNumbered : Building → Type 0
BuildingNumbered (built l w) = Unit {0}
BuildingNumbered (failed k w) = has k end_numbers ≡ true

-- bytes added: 12
add_numbered : (l s : Bytes) (w : Shared) → BuildingNumbered (add l s w)
unfolding add has
add_numbered l s w = both BuildingNumbered (leb (length l + length s) 200) _ _ tt refl

-- ed2: 19
add_symbol_numbered : (l name : Bytes) (o : Option Bytes) (w : Shared) → BuildingNumbered (add_symbol l name o w)
unfolding add_symbol has
add_symbol_numbered l name (some s) w = add_numbered l s w
add_symbol_numbered l name none w = both BuildingNumbered (within (put name (decimal (suc w.symbols)) w.store)) _ _ (add_numbered l _ _) refl

-- ed4: 15
add_value_numbered : (m : Marks) (l : Bytes) (o : Option ℤ) (w : Shared) → BuildingNumbered (add_value m l o w)
unfolding add_value has
add_value_numbered m l none w = refl
add_value_numbered m l (some v) w = add_numbered l _ w

-- ed5: 21
add_length_numbered : (l : Bytes) (o : Option (List ℕ)) (w : Shared) → BuildingNumbered (add_length l o w)
unfolding add_length has
add_length_numbered l none w = refl
add_length_numbered l (some vs) w = add_numbered l _ w

-- ed8: 21 and 16
add_code_point_numbered : (l : Bytes) (o : Option (List ℕ)) (w : Shared) → BuildingNumbered (add_code_point l o w)
unfolding add_code_point has
add_code_point_numbered l none w = refl
add_code_point_numbered l (some []) w = refl
add_code_point_numbered l (some (v ∷ [])) w = add_numbered l _ w
add_code_point_numbered l (some (v ∷ u ∷ vs)) w = refl

-- any conversion of a parameter
add_converted_numbered : (m : Marks) (f : Frame) (d : ℕ) (c : Conversion) (l : Bytes) (w : Shared) → BuildingNumbered (add_converted m f d c l w)
unfolding add_converted
add_converted_numbered m f d Itself l w = add_numbered l _ w
add_converted_numbered m f d StoredText l w = add_numbered l _ w
add_converted_numbered m f d Symbol l w = add_symbol_numbered l _ _ w
add_converted_numbered m f d LatestDelimiter l w = add_numbered l _ w
add_converted_numbered m f d ExpressionValue l w = add_value_numbered m l _ w
add_converted_numbered m f d Length l w = add_length_numbered l _ w
add_converted_numbered m f d CodePoint l w = add_code_point_numbered l _ w

-- any part of a code line
add_part_numbered : (m : Marks) (f : Frame) (p : Part) (l : Bytes) (w : Shared) → BuildingNumbered (add_part m f p l w)
unfolding add_part
add_part_numbered m f (byte b) l w = add_numbered l _ w
add_part_numbered m f (serial k) l w = add_numbered l _ w
add_part_numbered m f (convert d c) l w = add_converted_numbered m f d c l w

-- all parts
build_numbered : (m : Marks) (f : Frame) (ps : List Part) (l : Bytes) (w : Shared) → BuildingNumbered (build m f ps l w)
unfolding build
build_numbered m f [] l w = tt
build_numbered m f (p ∷ ps) l w = then (add_part m f p l w) (add_part_numbered m f p l w) (λ k v. build_numbered m f ps k v)
  where
    then : (b : Building) → BuildingNumbered b → ((k : Bytes) (v : Shared) → BuildingNumbered (build m f ps k v))
        → BuildingNumbered (elim b [ built k v ↦ build m f ps k v | failed n v ↦ failed n v ])
    then (built k v) e ih = ih k v
    then (failed n v) e ih = e

-- ---- carrying out a code line

-- the number of an end
abbrev StepNumbered : Step → Type 0
StepNumbered (continues f w) = Unit {0}
StepNumbered (offers l f w) = Unit {0}
StepNumbered (skips n f w) = Unit {0}
StepNumbered (leaves w) = Unit {0}
StepNumbered (copies room ch f w) = Unit {0}
StepNumbered (halts k w) = has k end_numbers ≡ true

-- a pass: 21 without a list, 17 with one
take_pass_numbered : (d : ℕ) (p : Option Piece) (ds old : Bytes) (after : List Bytes) (ls : List Loop) (f : Frame) (w : Shared) → StepNumbered (take_pass d p ds old after ls f w)
unfolding take_pass has
take_pass_numbered d none [] old after ls f w = refl
take_pass_numbered d none (x ∷ ds) old after ls f w = refl
take_pass_numbered d (some p) ds old after ls f w = tt

-- the next pass
next_pass_numbered : (m : Marks) (d : ℕ) (rest ds old : Bytes) (after : List Bytes) (ls : List Loop) (f : Frame) (w : Shared) → StepNumbered (next_pass m d rest ds old after ls f w)
unfolding next_pass
next_pass_numbered m d [] ds old after ls f w = tt
next_pass_numbered m d (x ∷ rest) ds old after ls f w = take_pass_numbered d _ ds old after ls f w

-- eF8
end_pass_numbered : (m : Marks) (ls : List Loop) (f : Frame) (w : Shared) → StepNumbered (end_pass m ls f w)
unfolding end_pass
end_pass_numbered m [] f w = tt
end_pass_numbered m (by_count zero after ∷ ls) f w = tt
end_pass_numbered m (by_count (suc n) after ∷ ls) f w = tt
end_pass_numbered m (by_pieces d rest ds old after ∷ ls) f w = next_pass_numbered m d rest ds old after ls f w

-- eF7: 15
start_repeat_numbered : (m : Marks) (v : Option ℤ) (f : Frame) (w : Shared) → StepNumbered (start_repeat m v f w)
unfolding start_repeat has
start_repeat_numbered m none f w = refl
start_repeat_numbered m (some (pos zero)) f w = tt
start_repeat_numbered m (some (pos (suc n))) f w = tt
start_repeat_numbered m (some (negsuc n)) f w = tt

-- a line written to a channel: 13
write_to_numbered : (room : Rooms) (ch : Channel) (l : Bytes) (f : Frame) (w : Shared) → StepNumbered (write_to room ch l f w)
unfolding write_to goes_written has
write_to_numbered room ch l f w = by (wrote room ch l w)
  where
    by : (o : Option Shared) → StepNumbered (goes_written f w o)
    by none = refl
    by (some v) = tt

-- a layout written
write_layout_numbered : (room : Rooms) (m : Marks) (ch : Channel) (cs : List Bytes) (f : Frame) (w : Shared) → StepNumbered (write_layout room m ch cs f w)
unfolding write_layout
write_layout_numbered room m ch [] f w = tt
write_layout_numbered room m ch (c ∷ cs) f w = write_to_numbered room ch _ _ w

-- a text stored: 19
save_text_numbered : (name text : Bytes) (f : Frame) (w : Shared) → StepNumbered (save_text name text f w)
unfolding save_text has
save_text_numbered name text f w = both StepNumbered (within (put name text w.store)) _ _ tt refl

-- a skip: 15 and 18
skip_by_numbered : (v : Option ℤ) (f : Frame) (w : Shared) → StepNumbered (skip_by v f w)
unfolding skip_by has
skip_by_numbered none f w = refl
skip_by_numbered (some (pos n)) f w = tt
skip_by_numbered (some (negsuc n)) f w = refl

-- a skip on a condition
skip_if_numbered : (m : Marks) (b : Bool) (f : Frame) (w : Shared) → StepNumbered (skip_if m b f w)
unfolding skip_if
skip_if_numbered m b f w = both StepNumbered b _ _ (skip_by_numbered _ f w) tt

-- a skip on a comparison: 15
skip_compared_numbered : (m : Marks) (o : Comparison) (a b : Option ℤ) (f : Frame) (w : Shared) → StepNumbered (skip_compared m o a b f w)
unfolding skip_compared has
skip_compared_numbered m o none b f w = refl
skip_compared_numbered m o (some a) none f w = refl
skip_compared_numbered m o (some a) (some b) f w = skip_if_numbered m _ f w

-- what is done at a code line's end; F0 gives 0
finish_numbered : (room : Rooms) (m : Marks) (k : Ending) (l : Bytes) (f : Frame) (w : Shared) → StepNumbered (finish room m k l f w)
unfolding finish has
finish_numbered room m offer l f w = tt
finish_numbered room m (assign d) l f w = tt
finish_numbered room m (iterate d ds) l f w = take_pass_numbered d _ ds _ _ _ f w
finish_numbered room m stop l f w = refl
finish_numbered room m (write ch) l f w = write_to_numbered room ch l f w
finish_numbered room m (layout ch) l f w = write_layout_numbered room m ch _ f w
finish_numbered room m (copy ch) l f w = tt
finish_numbered room m save l f w = save_text_numbered _ _ f w
finish_numbered room m skip l f w = skip_by_numbered _ f w
finish_numbered room m (skip_text b) l f w = skip_if_numbered m _ f w
finish_numbered room m (skip_value o) l f w = skip_compared_numbered m o _ _ f w
finish_numbered room m repeat l f w = start_repeat_numbered m _ f w
finish_numbered room m again l f w = end_pass_numbered m _ f w
finish_numbered room m leave l f w = tt
finish_numbered room m malformed l f w = tt

-- a whole code line
carry_out_numbered : (room : Rooms) (m : Marks) (c : Code) (f : Frame) (w : Shared) → StepNumbered (carry_out room m c f w)
unfolding carry_out finish_built
carry_out_numbered room m c f w = then (build m f c.parts [] w) (build_numbered m f c.parts [] w)
  where
    then : (b : Building) → BuildingNumbered b → StepNumbered (finish_built room m c.ending f b)
    then (built l v) e = finish_numbered room m c.ending l f v
    then (failed n v) e = e

-- ---- the machine

-- the number of an end
abbrev NextNumbered : Next → Type 0
NextNumbered (running s) = Unit {0}
NextNumbered (ended k s) = has k end_numbers ≡ true

-- a skip through the open calls: 18
skip_in_numbered : (m : Marks) (n : ℕ) (fs : List Frame) (w : Shared) (s : State) → NextNumbered (skip_in m n fs w s)
unfolding skip_in skip_from has
skip_in_numbered m n [] w s = tt
skip_in_numbered m n (f ∷ fs) w s = by (pass_over m n 0 f.next) (λ k. skip_in_numbered m k fs w s)
  where
    by : (p : Passed) → ((k : ℕ) → NextNumbered (skip_in m k fs w s)) → NextNumbered (skip_from f fs w s (λ k. skip_in m k fs w s) p)
    by (landed cs) ih = tt
    by (beyond k) ih = ih k
    by bad_landing ih = refl

-- input lines copied: 11 and 13
copy_input_numbered : (m : Marks) (room : Rooms) (ch : Channel) (name : Bytes) (s : State) → NextNumbered (copy_input m room ch name s)
unfolding has
copy_input_numbered m room ch name s = input_copied m room ch (λ x. Unit {0}) NextNumbered (λ x h. tt) (λ x h. refl) (λ x h. refl) (λ l ls x e h. tt) (λ c x w e h. tt) name s tt

-- what a code line comes to
stepped_numbered : (m : Marks) (fs : List Frame) (p : Step) (s : State) → StepNumbered p → NextNumbered (stepped m fs p s)
unfolding stepped
stepped_numbered m fs (continues f w) s h = tt
stepped_numbered m fs (offers l f w) s h = tt
stepped_numbered m fs (skips n f w) s h = skip_in_numbered m n (f ∷ fs) w s
stepped_numbered m fs (leaves w) s h = tt
stepped_numbered m fs (copies room ch f w) s h = copy_input_numbered m room ch _ _
stepped_numbered m fs (halts k w) s h = h

-- a line offered: 13 and 14
offered_as_numbered : (room : Rooms) (t : Loaded) (l : Bytes) (s : State) (o : Option Reading) → NextNumbered (offered_as room t l s o)
unfolding offered_as decided pass_through passed call has
offered_as_numbered room t l s none = by (wrote room First l s.shared)
  where
    by : (o : Option Shared) → NextNumbered (passed (decided none s) o)
    by none = refl
    by (some v) = tt
offered_as_numbered room t l s (some r) = both NextNumbered (leb 12 (length s.frames)) _ _ refl tt

-- a code line begun
begin_at_numbered : (room : Rooms) (m : Marks) (f : Frame) (fs : List Frame) (s : State) (cs : List Bytes) → NextNumbered (begin_at room m f fs s cs)
unfolding begin_at
begin_at_numbered room m f fs s [] = tt
begin_at_numbered room m f fs s (c ∷ cs) = stepped_numbered m fs _ s (carry_out_numbered room m _ _ s.shared)

-- the innermost call's next code line
begin_line_numbered : (room : Rooms) (m : Marks) (fs : List Frame) (s : State) → NextNumbered (begin_line room m fs s)
unfolding begin_line
begin_line_numbered room m [] s = tt
begin_line_numbered room m (f ∷ fs) s = begin_at_numbered room m f fs s f.next

-- an event
event_numbered : (room : Rooms) (t : Loaded) (s : State) → NextNumbered (event room t s)
unfolding event event_for offered
event_numbered room t s = by s.pending
  where
    by : (p : Option Bytes) → NextNumbered (event_for room t s p)
    by (some l) = offered_as_numbered room t l (counted s) (chosen t.marks (templates t.macros) l)
    by none = begin_line_numbered room t.marks s.frames (counted s)

-- an input line measured: 11
measured_numbered : (s : State) (c : Bytes) (b : Bool) → NextNumbered (measured s c b)
unfolding measured has
measured_numbered s c true = tt
measured_numbered s c false = refl

-- what comes without an event; the input's end gives 0
ready_numbered : (m : Marks) (s : State) → NextNumbered (ready m s)
unfolding ready ready_for ready_in read_input has
ready_numbered m s = by_pending s.pending
  where
    by_input : (ls : List Bytes) → NextNumbered (read_input m ls s)
    by_input [] = refl
    by_input (l ∷ ls) = measured_numbered _ (up_to m.source l) (leb (length (up_to m.source l)) 200)

    by_frames : (fs : List Frame) → NextNumbered (ready_in m s fs)
    by_frames [] = by_input s.input
    by_frames (f ∷ fs) = tt

    by_pending : (p : Option Bytes) → NextNumbered (ready_for m s p)
    by_pending (some l) = tt
    by_pending none = by_frames (unfinished s.frames)

-- any number of events
after_numbered : (n : ℕ) (room : Rooms) (t : Loaded) (x : Next) → NextNumbered x → NextNumbered (after n room t x)
unfolding after follow
after_numbered zero room t (ended k s) h = h
after_numbered zero room t (running s) h = ready_numbered t.marks s
after_numbered (suc n) room t (ended k s) h = h
after_numbered (suc n) room t (running s) h = by (ready t.marks s) (ready_numbered t.marks s) (λ x. after_numbered n room t x)
  where
    by : (r : Next) → NextNumbered r → ((x : Next) → NextNumbered x → NextNumbered (after n room t x)) → NextNumbered (follow (λ s'. after n room t (event room t s')) r)
    by (ended k s') h ih = h
    by (running s') h ih = ih (event room t s') (event_numbered room t s')

-- ---- the theorems

-- 10 is no number of the table
pub ten_is_none : (has 10 check_numbers ≡ false) × (has 10 fit_numbers ≡ false) × (has 10 run_numbers ≡ false)
unfolding has
ten_is_none = (refl, refl, refl)

-- check: 0, 1, and what loading gives
pub check_numbered : (rows : ℕ) (text : Bytes) → has (check_text rows text).number check_numbers ≡ true
unfolding check_text checked_as has
check_numbered rows text = both (λ (c : Checked). has c.number check_numbers ≡ true) (short_row rows) _ _ refl (by (load text) (load_numbered text))
  where
    by : (x : Load) → LoadNumbered x → has (checked_as x).number check_numbers ≡ true
    by (refused k n) h = has_right k (0 ∷ 1 ∷ []) load_numbers h
    by (loaded t) h = refl

-- fit: 11 besides
pub fit_numbered : (rows dead : ℕ) (text line : Bytes) → has (fit_of_line rows dead text line).number fit_numbers ≡ true
unfolding fit_of_line fitted_in fitted_as without_pieces has
fit_numbered rows dead text line = both (λ (f : Fitted). has f.number fit_numbers ≡ true) (short_row rows || short_dead dead) _ _ refl (by (load text) (load_numbered text))
  where
    by_reading : (t : Loaded) (o : Option Reading) (k n : ℕ) → has (fitted_as t o k n).number fit_numbers ≡ true
    by_reading t none k n = refl
    by_reading t (some r) k n = refl

    by : (x : Load) → LoadNumbered x → has (fitted_in line x).number fit_numbers ≡ true
    by (refused k n) h = has_right k (11 ∷ 0 ∷ 1 ∷ []) load_numbers h
    by (loaded t) h =
        let ts = templates t.macros in
        both (λ (f : Fitted). has f.number fit_numbers ≡ true) (ltb 200 (length line)) _ _ refl (by_reading t (chosen t.marks ts line) (places_taken t.marks ts line) (bytes_read t.marks ts line))

-- no expansion ends with 20
pub ended_unspent : (n : ℕ) (room : Rooms) (t : Loaded) (k : ℕ) (s : State) → after n room t (running (initial t)) ≡ ended k s → ¬ (k ≡ 20)
unfolding has
ended_unspent n room t k s e d = false-not-true (subst (λ j. has j end_numbers ≡ true) d (subst NextNumbered e (after_numbered n room t (running (initial t)) tt)))

-- a run of a text that loads: 0, 11 to 19 and 21, or 20 where it is spent
pub begun_numbered : (fuel : ℕ) (room : Rooms) (t : Loaded) → has (run fuel room (loaded t)).number begun_numbers ≡ true
unfolding run outcome result_of has
begun_numbered fuel room t = by (after fuel room t (running (initial t))) (after_numbered fuel room t (running (initial t)) tt)
  where
    by : (x : Next) → NextNumbered x → has (outcome t x).number begun_numbers ≡ true
    by (running s) h = refl
    by (ended k s) h = has_more k 20 end_numbers h

-- any run
pub run_numbered : (fuel rows dead : ℕ) (room : Rooms) (store report : ℕ) (text : Bytes) → has (run_text fuel rows dead room store report text).number run_numbers ≡ true
unfolding run_text run has
run_numbered fuel rows dead room store report text = both (λ (x : Result). has x.number run_numbers ≡ true) (illegal fuel rows dead store report) _ _ refl (by (load text) (load_numbered text))
  where
    by : (x : Load) → LoadNumbered x → has (run fuel room x).number run_numbers ≡ true
    by (refused k n) h = has_more k 1 (load_numbers ++ begun_numbers) (has_left k load_numbers begun_numbers h)
    by (loaded t) h = has_right (run fuel room (loaded t)).number (1 ∷ load_numbers) begun_numbers (begun_numbered fuel room t)
