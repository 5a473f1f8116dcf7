-- Laws of fuel (document 01, demand 3): more fuel changes nothing of a run that ended, and only prolongs one that was spent.
-- The theorems: after-sum, ended_stays, spent_goes_on; of whole runs, at the end, fuel_enough, fuel_spent, run_events, spent_events.
use mathlib.Core.Path.{◌≡◌, refl, ap, sym, ◌∙◌, subst}
use mathlib.Core.Bool.{Bool, true, false}
use mathlib.Core.Option.{Option, none, some}
use mathlib.Core.List.{List, [], ◌∷◌, ◌++◌, append_assoc, append-nil}
use Prim.Native.Nat.{ℕ, zero, suc, ◌+◌, ◌-◌, ◌≤◌}
use native.Mathlib.Nat.{zero-add, suc-add, add-sub_of_le}
use native.Mathlib.Omega.{arith}
use lib.Dec.{leb}
use lib.ListN.{length}
use lib.IntN.{ℤ, pos, negsuc}
use Rattle.model.specs.declared.Marks.{Marks}
use Rattle.model.specs.declared.Channel.{Channel}
use Rattle.model.specs.declared.Channel.TheVariants.{Nowhere, First, Second}
use Rattle.model.specs.Text.{Grows, Bytes, up_to}
use Rattle.model.specs.Reading.{Reading, chosen}
use Rattle.model.specs.Code.{Code, Part, Ending, byte, serial, convert, offer, assign, iterate, stop, write, layout, copy, save, skip, skip_text, skip_value, repeat, again, leave, malformed}
use Rattle.model.specs.declared.Conversion.{Conversion}
use Rattle.model.specs.declared.Conversion.TheVariants.{Itself, StoredText, Symbol, LatestDelimiter, ExpressionValue, Length, CodePoint}
use Rattle.model.specs.declared.Comparison.{Comparison}
use Rattle.model.specs.Store.{put, within, decimal}
use Rattle.model.specs.Value.{written}
use Rattle.model.specs.Load.{templates, Macro, Loaded, Load, refused, loaded}
use Rattle.model.specs.Machine.{Rooms, Outputs, Extends, Loop, by_pieces, by_count, Frame, Shared, Step, continues, offers, skips, leaves, copies, halts, with_store, Building, built, failed, add, add_symbol, add_value, add_length, add_code_point, add_converted, add_part, build, Piece, take_pass, next_pass, end_pass, start_repeat, appended, with_first, with_second, wrote, goes_written, write_to, write_layout, save_text, skip_by, skip_if, skip_compared, finish, finish_built, carry_out, State, Next, running, ended, state_with, Passed, landed, beyond, bad_landing, pass_over, skip_in, call, passed, pass_through, past_line, copy_input, no_output, offered, stepped, unfinished, read_input, ready, begin_line, counted, event, after, initial, result_of, outcome, run, skip_from, offered_as, decided, begin_at, event_for, measured, ready_in, ready_for, closed, follow}
use Rattle.model.specs.Text.{Grows}
use Rattle.model.proofs.Choices.{both}
use Rattle.model.proofs.Copying.{input_copied}
use Rattle.model.proofs.NumberTable.{ended_unspent}

-- ---- tools

-- an output is a beginning of itself
pub grows_refl : (a : Bytes) → Grows a a
grows_refl a = ([], sym (append-nil a))

-- equal outputs are beginnings of each other
pub grows_eq : (a b : Bytes) → b ≡ a → Grows a b
grows_eq a b e = ([], e ∙ sym (append-nil a))

-- a beginning of a beginning is a beginning
pub grows_trans : (a b c : Bytes) → Grows a b → Grows b c → Grows a c
grows_trans a b c p q = (p.0 ++ q.0, q.1 ∙ (ap (λ (l : Bytes). l ++ q.0) p.1 ∙ append_assoc a p.0 q.0))

-- the same of both outputs
pub extends_refl : (a : Outputs) → Extends a a
extends_refl a = (grows_refl a.first, grows_refl a.second)

pub extends_eq : (a b : Outputs) → b ≡ a → Extends a b
extends_eq a b e = rw e (extends_refl a)

pub extends_trans : (a b c : Outputs) → Extends a b → Extends b c → Extends a c
extends_trans a b c p q = (grows_trans a.first b.first c.first p.0 q.0, grows_trans a.second b.second c.second p.1 q.1)

-- ---- building a line writes nothing

-- the outputs are o
abbrev pub Kept : Outputs → Building → Type 0
Kept o (built l v) = v.output ≡ o
Kept o (failed n v) = v.output ≡ o

-- adding bytes writes nothing
pub add_kept : (l s : Bytes) (w : Shared) → Kept w.output (add l s w)
unfolding add
add_kept l s w = both (Kept w.output) (leb (length l + length s) 200) _ _ refl refl

-- nor does ed2
pub add_symbol_kept : (l name : Bytes) (o : Option Bytes) (w : Shared) → Kept w.output (add_symbol l name o w)
unfolding add_symbol
add_symbol_kept l name (some s) w = add_kept l s w
add_symbol_kept l name none w = both (Kept w.output) (within (put name (decimal (suc w.symbols)) w.store)) _ _ (add_kept l _ _) refl

-- nor does ed4
pub add_value_kept : (m : Marks) (l : Bytes) (o : Option ℤ) (w : Shared) → Kept w.output (add_value m l o w)
unfolding add_value
add_value_kept m l none w = refl
add_value_kept m l (some v) w = add_kept l (written m v) w

-- nor does ed5
pub add_length_kept : (l : Bytes) (o : Option (List ℕ)) (w : Shared) → Kept w.output (add_length l o w)
unfolding add_length
add_length_kept l none w = refl
add_length_kept l (some vs) w = add_kept l _ w

-- nor does ed8
pub add_code_point_kept : (l : Bytes) (o : Option (List ℕ)) (w : Shared) → Kept w.output (add_code_point l o w)
unfolding add_code_point
add_code_point_kept l none w = refl
add_code_point_kept l (some []) w = refl
add_code_point_kept l (some (v ∷ [])) w = add_kept l _ w
add_code_point_kept l (some (v ∷ u ∷ vs)) w = refl

-- nor does any conversion of a parameter
pub add_converted_kept : (m : Marks) (f : Frame) (d : ℕ) (c : Conversion) (l : Bytes) (w : Shared) → Kept w.output (add_converted m f d c l w)
unfolding add_converted
add_converted_kept m f d Itself l w = add_kept l _ w
add_converted_kept m f d StoredText l w = add_kept l _ w
add_converted_kept m f d Symbol l w = add_symbol_kept l _ _ w
add_converted_kept m f d LatestDelimiter l w = add_kept l _ w
add_converted_kept m f d ExpressionValue l w = add_value_kept m l _ w
add_converted_kept m f d Length l w = add_length_kept l _ w
add_converted_kept m f d CodePoint l w = add_code_point_kept l _ w

-- nor does any part of a code line
pub add_part_kept : (m : Marks) (f : Frame) (p : Part) (l : Bytes) (w : Shared) → Kept w.output (add_part m f p l w)
unfolding add_part
add_part_kept m f (byte b) l w = add_kept l _ w
add_part_kept m f (serial k) l w = add_kept l _ w
add_part_kept m f (convert d c) l w = add_converted_kept m f d c l w

-- nor does building a line
pub build_kept : (m : Marks) (f : Frame) (ps : List Part) (l : Bytes) (w : Shared) → Kept w.output (build m f ps l w)
unfolding build
build_kept m f [] l w = refl
build_kept m f (p ∷ ps) l w = then (add_part m f p l w) (add_part_kept m f p l w) (λ k v. build_kept m f ps k v)
  where
    then : (b : Building) → Kept w.output b → ((k : Bytes) (v : Shared) → Kept v.output (build m f ps k v))
        → Kept w.output (elim b [ built k v ↦ build m f ps k v | failed n v ↦ failed n v ])
    then (built k v) e ih = rw (← e) (ih k v)
    then (failed n v) e ih = e

-- ---- carrying out a code line only adds to the outputs

-- the outputs begin with o
abbrev pub Adds : Outputs → Step → Type 0
Adds o (continues f v) = Extends o v.output
Adds o (offers l f v) = Extends o v.output
Adds o (skips n f v) = Extends o v.output
Adds o (leaves v) = Extends o v.output
Adds o (copies room ch f v) = Extends o v.output
Adds o (halts k v) = Extends o v.output

-- a pass
pub take_pass_adds : (d : ℕ) (p : Option Piece) (ds old : Bytes) (after : List Bytes) (ls : List Loop) (f : Frame) (w : Shared) → Adds w.output (take_pass d p ds old after ls f w)
unfolding take_pass
take_pass_adds d none ds old after ls f w = extends_refl _
take_pass_adds d (some p) ds old after ls f w = extends_refl _

-- the next pass
pub next_pass_adds : (m : Marks) (d : ℕ) (rest ds old : Bytes) (after : List Bytes) (ls : List Loop) (f : Frame) (w : Shared) → Adds w.output (next_pass m d rest ds old after ls f w)
unfolding next_pass
next_pass_adds m d [] ds old after ls f w = extends_refl _
next_pass_adds m d (x ∷ rest) ds old after ls f w = take_pass_adds d _ ds old after ls f w

-- eF8
pub end_pass_adds : (m : Marks) (ls : List Loop) (f : Frame) (w : Shared) → Adds w.output (end_pass m ls f w)
unfolding end_pass
end_pass_adds m [] f w = extends_refl _
end_pass_adds m (by_count zero after ∷ ls) f w = extends_refl _
end_pass_adds m (by_count (suc n) after ∷ ls) f w = extends_refl _
end_pass_adds m (by_pieces d rest ds old after ∷ ls) f w = next_pass_adds m d rest ds old after ls f w

-- eF7
pub start_repeat_adds : (m : Marks) (v : Option ℤ) (f : Frame) (w : Shared) → Adds w.output (start_repeat m v f w)
unfolding start_repeat
start_repeat_adds m none f w = extends_refl _
start_repeat_adds m (some (pos zero)) f w = extends_refl _
start_repeat_adds m (some (pos (suc n))) f w = extends_refl _
start_repeat_adds m (some (negsuc n)) f w = extends_refl _

-- a line written, or none
abbrev pub Wrote : Outputs → Option Shared → Type 0
Wrote o none = Unit {0}
Wrote o (some v) = Extends o v.output

-- on each channel
pub wrote_extends : (room : Rooms) (ch : Channel) (l : Bytes) (w : Shared) → Wrote w.output (wrote room ch l w)
unfolding wrote appended with_first with_second
wrote_extends room Nowhere l w = extends_refl _
wrote_extends room First l w =
    both (λ (o : Option Bytes). Wrote w.output (with_first w o)) (leb (length w.output.first + length l + 1) room.first) _ none ((l ++ (10 ∷ []), refl), grows_refl _) tt
wrote_extends room Second l w =
    both (λ (o : Option Bytes). Wrote w.output (with_second w o)) (leb (length w.output.second + length l + 1) room.second) _ none (grows_refl _, (l ++ (10 ∷ []), refl)) tt

-- F1
pub write_to_adds : (room : Rooms) (ch : Channel) (l : Bytes) (f : Frame) (w : Shared) → Adds w.output (write_to room ch l f w)
unfolding write_to goes_written
write_to_adds room ch l f w = by (wrote room ch l w) (wrote_extends room ch l w)
  where
    by : (o : Option Shared) → Wrote w.output o → Adds w.output (goes_written f w o)
    by none h = extends_refl _
    by (some v) h = h

-- a layout written
pub write_layout_adds : (room : Rooms) (m : Marks) (ch : Channel) (cs : List Bytes) (f : Frame) (w : Shared) → Adds w.output (write_layout room m ch cs f w)
unfolding write_layout
write_layout_adds room m ch [] f w = extends_refl _
write_layout_adds room m ch (c ∷ cs) f w = write_to_adds room ch _ _ w

-- a text stored
pub save_text_adds : (name text : Bytes) (f : Frame) (w : Shared) → Adds w.output (save_text name text f w)
unfolding save_text with_store
save_text_adds name text f w = both (Adds w.output) (within (put name text w.store)) _ _ (extends_refl _) (extends_refl _)

-- a skip
pub skip_by_adds : (v : Option ℤ) (f : Frame) (w : Shared) → Adds w.output (skip_by v f w)
unfolding skip_by
skip_by_adds none f w = extends_refl _
skip_by_adds (some (pos n)) f w = extends_refl _
skip_by_adds (some (negsuc n)) f w = extends_refl _

-- a skip on a condition
pub skip_if_adds : (m : Marks) (b : Bool) (f : Frame) (w : Shared) → Adds w.output (skip_if m b f w)
unfolding skip_if
skip_if_adds m b f w = both (Adds w.output) b _ _ (skip_by_adds _ f w) (extends_refl _)

-- a skip on a comparison
pub skip_compared_adds : (m : Marks) (o : Comparison) (a b : Option ℤ) (f : Frame) (w : Shared) → Adds w.output (skip_compared m o a b f w)
unfolding skip_compared
skip_compared_adds m o none b f w = extends_refl _
skip_compared_adds m o (some a) none f w = extends_refl _
skip_compared_adds m o (some a) (some b) f w = skip_if_adds m _ f w

-- what is done at a code line's end
pub finish_adds : (room : Rooms) (m : Marks) (k : Ending) (l : Bytes) (f : Frame) (w : Shared) → Adds w.output (finish room m k l f w)
unfolding finish
finish_adds room m offer l f w = extends_refl _
finish_adds room m (assign d) l f w = extends_refl _
finish_adds room m (iterate d ds) l f w = take_pass_adds d _ ds _ _ _ f w
finish_adds room m stop l f w = extends_refl _
finish_adds room m (write ch) l f w = write_to_adds room ch l f w
finish_adds room m (layout ch) l f w = write_layout_adds room m ch _ f w
finish_adds room m (copy ch) l f w = extends_refl _
finish_adds room m save l f w = save_text_adds _ _ f w
finish_adds room m skip l f w = skip_by_adds _ f w
finish_adds room m (skip_text b) l f w = skip_if_adds m _ f w
finish_adds room m (skip_value o) l f w = skip_compared_adds m o _ _ f w
finish_adds room m repeat l f w = start_repeat_adds m _ f w
finish_adds room m again l f w = end_pass_adds m _ f w
finish_adds room m leave l f w = extends_refl _
finish_adds room m malformed l f w = extends_refl _

-- a whole code line
pub carry_out_adds : (room : Rooms) (m : Marks) (c : Code) (f : Frame) (w : Shared) → Adds w.output (carry_out room m c f w)
unfolding carry_out finish_built
carry_out_adds room m c f w = then (build m f c.parts [] w) (build_kept m f c.parts [] w)
  where
    then : (b : Building) → Kept w.output b → Adds w.output (finish_built room m c.ending f b)
    then (built l v) e = rw (← e) (finish_adds room m c.ending l f v)
    then (failed n v) e = extends_eq _ _ e

-- ---- an event and what comes without one: each output before is a beginning of that after, and this many events are counted by then

-- the outputs begin with o, and e events are counted
abbrev pub Later : Outputs → ℕ → Next → Type 0
Later o e (running s) = Extends o s.shared.output × (s.events ≡ e)
Later o e (ended k s) = Extends o s.shared.output × (s.events ≡ e)

-- a skip in one call
pub skip_from-later : (o : Outputs) (f : Frame) (fs : List Frame) (w : Shared) (s : State) (out : ℕ → Next) (p : Passed)
    → Extends o w.output → ((k : ℕ) → Later o s.events (out k)) → Later o s.events (skip_from f fs w s out p)
unfolding skip_from state_with
skip_from-later o f fs w s out (landed cs) g h = (g, refl)
skip_from-later o f fs w s out (beyond k) g h = h k
skip_from-later o f fs w s out bad_landing g h = (g, refl)

-- a skip through the open calls
pub skip_in-later : (m : Marks) (o : Outputs) (n : ℕ) (fs : List Frame) (w : Shared) (s : State) → Extends o w.output → Later o s.events (skip_in m n fs w s)
unfolding skip_in
skip_in-later m o n [] w s g = (g, refl)
skip_in-later m o n (f ∷ fs) w s g = skip_from-later o f fs w s (λ k. skip_in m k fs w s) (pass_over m n 0 f.next) g (λ k. skip_in-later m o k fs w s g)

-- input lines copied
pub copy_input-later : (m : Marks) (room : Rooms) (ch : Channel) (name : Bytes) (o : Outputs) (s : State) → Extends o s.shared.output → Later o s.events (copy_input m room ch name s)
unfolding past_line state_with
copy_input-later m room ch name o s g =
    input_copied m room ch (λ x. Extends o x.shared.output × (x.events ≡ s.events)) (Later o s.events) (λ x h. h) (λ x h. h) (λ x h. h) (λ l ls x e h. h)
    (λ c x w e h. (extends_trans o x.shared.output w.output h.0 (subst (Wrote x.shared.output) e (wrote_extends room ch c x.shared)), h.1)) name s (g, refl)

-- what a code line comes to
pub stepped-later : (m : Marks) (o : Outputs) (fs : List Frame) (p : Step) (s : State) → Adds o p → Later o s.events (stepped m fs p s)
unfolding stepped state_with
stepped-later m o fs (continues f w) s g = (g, refl)
stepped-later m o fs (offers l f w) s g = (g, refl)
stepped-later m o fs (skips n f w) s g = skip_in-later m o n (f ∷ fs) w s g
stepped-later m o fs (leaves w) s g = (g, refl)
stepped-later m o fs (copies room ch f w) s g = copy_input-later m room ch _ o (state_with s none (f ∷ fs) w) g
stepped-later m o fs (halts k w) s g = (g, refl)

-- a line without a reading
pub pass_through-later : (room : Rooms) (l : Bytes) (s : State) → Later s.shared.output s.events (pass_through room l s)
unfolding pass_through passed state_with
pass_through-later room l s = by (wrote room First l s.shared) (wrote_extends room First l s.shared)
  where
    by : (o : Option Shared) → Wrote s.shared.output o → Later s.shared.output s.events (passed s o)
    by none h = (extends_refl _, refl)
    by (some v) h = (h, refl)

-- a call
pub call-later : (x : Macro) (ps : List Bytes) (s : State) → Later s.shared.output s.events (call x ps s)
unfolding call
call-later x ps s = both (Later s.shared.output s.events) (leb 12 (length s.frames)) _ _ (extends_refl _, refl) (extends_refl _, refl)

-- a line offered, with its reading or none
pub offered_as-later : (room : Rooms) (t : Loaded) (l : Bytes) (s : State) (o : Option Reading) → Later s.shared.output s.events (offered_as room t l s o)
unfolding offered_as decided
offered_as-later room t l s none = pass_through-later room l (decided none s)
offered_as-later room t l s (some r) = call-later _ _ (decided (some r.which) s)

-- a code line begun
pub begin_at-later : (room : Rooms) (m : Marks) (f : Frame) (fs : List Frame) (s : State) (cs : List Bytes) → Later s.shared.output s.events (begin_at room m f fs s cs)
unfolding begin_at
begin_at-later room m f fs s [] = (extends_refl _, refl)
begin_at-later room m f fs s (c ∷ cs) = stepped-later m _ fs _ s (carry_out_adds room m _ _ s.shared)

-- the innermost call's next code line
pub begin_line-later : (room : Rooms) (m : Marks) (fs : List Frame) (s : State) → Later s.shared.output s.events (begin_line room m fs s)
unfolding begin_line
begin_line-later room m [] s = (extends_refl _, refl)
begin_line-later room m (f ∷ fs) s = begin_at-later room m f fs s f.next

-- an event, with a line pending or none
pub event_for-later : (room : Rooms) (t : Loaded) (s : State) (p : Option Bytes) → Later s.shared.output (suc s.events) (event_for room t s p)
unfolding event_for offered counted
event_for-later room t s (some l) = offered_as-later room t l (counted s) (chosen t.marks (templates t.macros) l)
event_for-later room t s none = begin_line-later room t.marks s.frames (counted s)

-- an event counts one
pub event-later : (room : Rooms) (t : Loaded) (s : State) → Later s.shared.output (suc s.events) (event room t s)
unfolding event
event-later room t s = event_for-later room t s s.pending

-- an input line measured
pub measured-later : (s : State) (c : Bytes) (b : Bool) → Later s.shared.output s.events (measured s c b)
unfolding measured
measured-later s c true = (extends_refl _, refl)
measured-later s c false = (extends_refl _, refl)

-- an input line read
pub read_input_later : (m : Marks) (ls : List Bytes) (s : State) → Later s.shared.output s.events (read_input m ls s)
unfolding read_input state_with
read_input_later m [] s = (extends_refl _, refl)
read_input_later m (l ∷ ls) s = measured-later _ (up_to m.source l) (leb (length (up_to m.source l)) 200)

-- with these calls open
pub ready_in-later : (m : Marks) (s : State) (fs : List Frame) → Later s.shared.output s.events (ready_in m s fs)
unfolding ready_in state_with
ready_in-later m s [] = read_input_later m s.input s
ready_in-later m s (f ∷ fs) = (extends_refl _, refl)

-- with a line pending or none
pub ready_for-later : (m : Marks) (s : State) (p : Option Bytes) → Later s.shared.output s.events (ready_for m s p)
unfolding ready_for
ready_for-later m s (some l) = (extends_refl _, refl)
ready_for-later m s none = ready_in-later m s (unfinished s.frames)

-- what comes without an event counts none
pub ready-later : (m : Marks) (s : State) → Later s.shared.output s.events (ready m s)
unfolding ready
ready-later m s = ready_for-later m s s.pending

-- ---- the machine n + j events later is the machine j events after n

-- a call with a code line left stays open
pub unfinished_here : (f : Frame) (fs : List Frame) (c : Bytes) (cs : List Bytes) → f.next ≡ c ∷ cs → unfinished (f ∷ fs) ≡ f ∷ fs
unfolding unfinished closed
unfinished_here f fs c cs e = ap (closed f fs (unfinished fs)) e

-- a call without one closes
pub unfinished_past : (f : Frame) (fs : List Frame) → f.next ≡ [] → unfinished (f ∷ fs) ≡ unfinished fs
unfolding unfinished closed
unfinished_past f fs e = ap (closed f fs (unfinished fs)) e

-- calls that are left open stay open
pub unfinished_again : (fs : List Frame) → unfinished (unfinished fs) ≡ unfinished fs
unfolding unfinished
unfinished_again [] = refl
unfinished_again (f ∷ fs) = then f.next refl (unfinished_again fs)
  where
    then : (c : List Bytes) → f.next ≡ c → unfinished (unfinished fs) ≡ unfinished fs → unfinished (unfinished (f ∷ fs)) ≡ unfinished (f ∷ fs)
    then [] e ih = ap unfinished (unfinished_past f fs e) ∙ (ih ∙ sym (unfinished_past f fs e))
    then (c ∷ cs) e ih = ap unfinished (unfinished_here f fs c cs e)

-- with a line pending, the machine is ready
pub ready_pending : (m : Marks) (s : State) (l : Bytes) → s.pending ≡ some l → ready m s ≡ running s
unfolding ready ready_for
ready_pending m s l e = ap (ready_for m s) e

-- with none pending, finished calls close first
pub ready-none : (m : Marks) (s : State) (u : List Frame) → s.pending ≡ none → unfinished s.frames ≡ u → ready m s ≡ ready_in m s u
unfolding ready ready_for
ready-none m s u e h = ap (ready_for m s) e ∙ ap (ready_in m s) h

-- what stands before its next event is left as it is
abbrev pub Settled : Marks → Next → Type 0
Settled m (running s) = ready m s ≡ running s
Settled m (ended k s) = Unit {0}

-- an input line that is read is ready to be offered
pub read_input_settled : (m : Marks) (ls : List Bytes) (s : State) → Settled m (read_input m ls s)
unfolding read_input measured
read_input_settled m [] s = tt
read_input_settled m (l ∷ ls) s = by (leb (length (up_to m.source l)) 200)
  where
    c : Bytes
    c = up_to m.source l

    s' : State
    s' = record { input = ls; line = suc s.line; pending = some c; frames = []; calls = s.calls; shared = s.shared; events = s.events; tally = s.tally }

    by : (b : Bool) → Settled m (measured s' c b)
    by true = ready_pending m s' c refl
    by false = tt

-- the machine that is ready stays so
pub ready_settled : (m : Marks) (s : State) → Settled m (ready m s)
unfolding state_with ready_in
ready_settled m s = by_pending s.pending refl
  where
    by_frames : (u : List Frame) → s.pending ≡ none → unfinished s.frames ≡ u → Settled m (ready m s)
    by_frames [] p e = rw (ready-none m s [] p e) (read_input_settled m s.input s)
    by_frames (f ∷ fs) p e = rw (ready-none m s (f ∷ fs) p e) (ready-none m (state_with s none (f ∷ fs) s.shared) (f ∷ fs) refl (rw e at (unfinished_again s.frames)))

    by_pending : (p : Option Bytes) → s.pending ≡ p → Settled m (ready m s)
    by_pending (some l) e = subst (Settled m) (sym (ready_pending m s l e)) (ready_pending m s l e)
    by_pending none e = by_frames (unfinished s.frames) e refl

-- an ended machine stays as it is
pub after_ended : (n : ℕ) (room : Rooms) (t : Loaded) (k : ℕ) (s : State) → after n room t (ended k s) ≡ ended k s
unfolding after follow
after_ended zero room t k s = refl
after_ended (suc n) room t k s = refl

-- `ready` may be done beforehand
pub after-ready : (n : ℕ) (room : Rooms) (t : Loaded) (s : State) → after n room t (ready t.marks s) ≡ after n room t (running s)
unfolding after follow
after-ready n room t s = by n (ready t.marks s) refl (ready_settled t.marks s)
  where
    by : (n : ℕ) (r : Next) → ready t.marks s ≡ r → Settled t.marks r → after n room t r ≡ after n room t (running s)
    by zero (running s') e h = h ∙ sym e
    by zero (ended k s') e h = sym e
    by (suc n) (running s') e h = rw (e, h, after)
    by (suc n) (ended k s') e h = rw (e, after)

-- the key law: n + j events later is j events after n events later
pub after-sum : (n j : ℕ) (room : Rooms) (t : Loaded) (x : Next) → after (n + j) room t x ≡ after j room t (after n room t x)
unfolding after follow
after-sum zero j room t (ended k s) = rw zero-add
after-sum zero j room t (running s) = rw zero-add (sym (after-ready j room t s))
after-sum (suc n) j room t (ended k s) = after_ended (suc n + j) room t k s ∙ sym (after_ended j room t k s)
after-sum (suc n) j room t (running s) = rw suc-add (by (ready t.marks s) (λ y. after-sum n j room t y))
  where
    by : (r : Next) → ((y : Next) → after (n + j) room t y ≡ after j room t (after n room t y))
        → follow (λ s'. after (n + j) room t (event room t s')) r ≡ after j room t (follow (λ s'. after n room t (event room t s')) r)
    by (ended k s') ih = sym (after_ended j room t k s')
    by (running s') ih = ih (event room t s')

-- 1. what has ended stays as it is
pub ended_stays : (n j : ℕ) (room : Rooms) (t : Loaded) (x : Next) (k : ℕ) (s : State) → after n room t x ≡ ended k s → after (n + j) room t x ≡ ended k s
ended_stays n j room t x k s e = rw (after-sum, e) (after_ended j room t k s)

-- ---- 2 and 3. outputs only grow; events are counted

-- n events later: the outputs begin with o; a machine that goes on has counted n, an ended one at most n
abbrev pub Since : Outputs → ℕ → ℕ → Next → Type 0
Since o e n (running s) = Extends o s.shared.output × (s.events ≡ e + n)
Since o e n (ended k s) = Extends o s.shared.output × (s.events ≤ e + n)

-- n events later, by what is reached
pub after_since : (n : ℕ) (room : Rooms) (t : Loaded) (s : State) → Since s.shared.output s.events n (after n room t (running s))
unfolding after follow
after_since zero room t s = by (ready t.marks s) (ready-later t.marks s)
  where
    by : (r : Next) → Later s.shared.output s.events r → Since s.shared.output s.events 0 r
    by (running s') h = (h.0, omega arith)
    by (ended k s') h = (h.0, omega arith)
after_since (suc n) room t s = by (ready t.marks s) (ready-later t.marks s) (λ s'. after_since n room t s')
  where
    by_event : (s' : State) (r : Next) → Extends s.shared.output s'.shared.output → s'.events ≡ s.events → Later s'.shared.output (suc s'.events) r
        → ((s'' : State) → Since s''.shared.output s''.events n (after n room t (running s'')))
        → Since s.shared.output s.events (suc n) (after n room t r)
    by_event s' (ended k s'') g e h ih = rw (after_ended n room t k s'') (extends_trans s.shared.output s'.shared.output s''.shared.output g h.0, omega arith)
    by_event s' (running s'') g e h ih = widen (after n room t (running s'')) (ih s'')
      where
        g' : Extends s.shared.output s''.shared.output
        g' = extends_trans s.shared.output s'.shared.output s''.shared.output g h.0

        widen : (r : Next) → Since s''.shared.output s''.events n r → Since s.shared.output s.events (suc n) r
        widen (running x) k = (extends_trans s.shared.output s''.shared.output x.shared.output g' k.0, omega arith)
        widen (ended j x) k = (extends_trans s.shared.output s''.shared.output x.shared.output g' k.0, omega arith)

    by : (r : Next) → Later s.shared.output s.events r → ((s'' : State) → Since s''.shared.output s''.events n (after n room t (running s'')))
        → Since s.shared.output s.events (suc n) (follow (λ s'. after n room t (event room t s')) r)
    by (ended k s') h ih = (h.0, omega arith)
    by (running s') h ih = by_event s' (event room t s') h.0 h.1 (event-later room t s') ih

-- what was spent is gone on with: later outputs begin with it
pub spent_goes_on : (n j : ℕ) (room : Rooms) (t : Loaded) (x : Next) (s : State) → after n room t x ≡ running s → Since s.shared.output s.events j (after (n + j) room t x)
spent_goes_on n j room t x s e = rw (after-sum, e) (after_since j room t s)

-- ---- 4. whole runs

-- the run with more fuel, where that with less has come to r
pub more_fuel : (f g : ℕ) (room : Rooms) (t : Loaded) (x : Next) → f ≤ g → after g room t x ≡ after (g - f) room t (after f room t x)
more_fuel f g room t x h = ap (λ (n : ℕ). after n room t x) (sym (add-sub_of_le h)) ∙ after-sum f (g - f) room t x

-- a run that isn't spent is the same with more fuel
pub fuel_enough : (f g : ℕ) (room : Rooms) (x : Load) → f ≤ g → ¬ ((run f room x).number ≡ 20) → run g room x ≡ run f room x
unfolding run outcome result_of
fuel_enough f g room (refused k n) h e = refl
fuel_enough f g room (loaded t) h e = ap (outcome t) (more_fuel f g room t (running (initial t)) h) ∙ by (after f room t (running (initial t))) e
  where
    by : (r : Next) → ¬ ((outcome t r).number ≡ 20) → outcome t (after (g - f) room t r) ≡ outcome t r
    by (running s) e = absurd (e refl)
    by (ended k s) e = ap (outcome t) (after_ended (g - f) room t k s)

-- the outputs of a spent run begin those with more fuel
pub fuel_spent : (f g : ℕ) (room : Rooms) (x : Load) → f ≤ g → (run f room x).number ≡ 20 → Extends (run f room x).output (run g room x).output
unfolding run outcome result_of
fuel_spent f g room (refused k n) h e = extends_refl _
fuel_spent f g room (loaded t) h e = rw (more_fuel f g room t (running (initial t)) h) (by (after f room t (running (initial t))))
  where
    grown : (o : Outputs) (n : ℕ) (e : ℕ) (r : Next) → Since o e n r → Extends o (outcome t r).output
    grown o n e (running s) h = h.0
    grown o n e (ended k s) h = h.0

    by : (r : Next) → Extends (outcome t r).output (outcome t (after (g - f) room t r)).output
    by (running s) = grown s.shared.output (g - f) s.events (after (g - f) room t (running s)) (after_since (g - f) room t s)
    by (ended k s) = rw (after_ended (g - f) room t k s) (extends_refl s.shared.output)

-- a run counts no more events than its fuel
pub run_events : (f : ℕ) (room : Rooms) (t : Loaded) → (run f room (loaded t)).events ≤ f
unfolding run initial outcome result_of
run_events f room t = by (after f room t (running (initial t))) (after_since f room t (initial t))
  where
    by : (r : Next) → Since no_output 0 f r → (outcome t r).events ≤ f
    by (running s) h = omega arith
    by (ended k s) h = omega arith

-- a spent run counts as many events as it had fuel
pub spent_events : (f : ℕ) (room : Rooms) (t : Loaded) → (run f room (loaded t)).number ≡ 20 → (run f room (loaded t)).events ≡ f
unfolding run initial outcome result_of
spent_events f room t = by (after f room t (running (initial t))) refl (after_since f room t (initial t))
  where
    by : (r : Next) → after f room t (running (initial t)) ≡ r → Since no_output 0 f r → (outcome t r).number ≡ 20 → (outcome t r).events ≡ f
    by (running s) d h e = omega arith
    by (ended k s) d h e = absurd (ended_unspent f room t k s d e)

-- a run is the expansion where that ends within the fuel
pub run_ended : (f : ℕ) (room : Rooms) (t : Loaded) (n k : ℕ) (s : State) → n ≤ f → after n room t (running (initial t)) ≡ ended k s → run f room (loaded t) ≡ result_of t k s
unfolding run outcome
run_ended f room t n k s h e =
    let p : n + (f - n) ≡ f = omega arith in
    ap (outcome t) (ap (λ (j : ℕ). after j room t (running (initial t))) (sym p) ∙ ended_stays n (f - n) room t (running (initial t)) k s e)

-- and is spent where it doesn't
pub run_spent : (f : ℕ) (room : Rooms) (t : Loaded) (s : State) → after f room t (running (initial t)) ≡ running s → run f room (loaded t) ≡ result_of t 20 s
unfolding run outcome
run_spent f room t s e = ap (outcome t) e
