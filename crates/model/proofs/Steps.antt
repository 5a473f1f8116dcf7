-- The machine's equations, one for each kind of state: what a proof of the program goes by.
-- The theorems: offer_spent, offer_step, code_spent, code_step, input_done, input_line, input_long, close_step.
use mathlib.Core.Path.{◌≡◌, refl, ap, sym, ◌∙◌}
use mathlib.Core.Bool.{Bool, true, false}
use mathlib.Core.Option.{none, some}
use mathlib.Core.List.{List, [], ◌∷◌}
use Prim.Native.Nat.{ℕ, zero, suc}
use lib.Dec.{leb}
use lib.ListN.{length}
use Rattle.model.specs.declared.Marks.{Marks}
use Rattle.model.specs.Text.{Bytes, up_to}
use Rattle.model.specs.Code.{parse}
use Rattle.model.specs.Load.{Loaded}
use Rattle.model.specs.Machine.{Rooms, Frame, resume_at, carry_out, State, Next, running, ended, state_with, offered, stepped, unfinished, read_input, ready, begin_line, counted, event, after, follow, event_for, ready_in, begin_at, measured}
use Rattle.model.proofs.Fuel.{ready_pending, ready-none, unfinished_here, unfinished_past, after-ready, after_ended}

-- the state with these open calls and no line to be offered
abbrev pub with_frames : State → List Frame → State
with_frames s fs = state_with s none fs s.shared

-- a state with its own calls is itself
pub same_state : (s : State) (fs : List Frame) → s.pending ≡ none → s.frames ≡ fs → with_frames s fs ≡ s
unfolding state_with
same_state s fs p e = λ i. record { input = s.input; line = s.line; pending = sym p i; frames = sym e i; calls = s.calls; shared = s.shared; events = s.events; tally = s.tally }

-- ---- a line is to be offered

-- the event is that line's offer
pub event_pending : (room : Rooms) (t : Loaded) (s : State) (l : Bytes) → s.pending ≡ some l → event room t s ≡ offered room t l (counted s)
unfolding event event_for
event_pending room t s l e = ap (event_for room t s) e

-- with no fuel left, the line stays to be offered
pub offer_spent : (room : Rooms) (t : Loaded) (s : State) (l : Bytes) → s.pending ≡ some l → after zero room t (running s) ≡ running s
unfolding after follow
offer_spent room t s l e = ready_pending t.marks s l e

-- one event, where the machine stands before one
pub after-event : (n : ℕ) (room : Rooms) (t : Loaded) (s : State) → ready t.marks s ≡ running s → after (suc n) room t (running s) ≡ after n room t (event room t s)
unfolding after follow
after-event n room t s e = ap (follow (λ s'. after n room t (event room t s'))) e

-- the line is offered
pub offer_step : (n : ℕ) (room : Rooms) (t : Loaded) (s : State) (l : Bytes) → s.pending ≡ some l → after (suc n) room t (running s) ≡ after n room t (offered room t l (counted s))
offer_step n room t s l e = after-event n room t s (ready_pending t.marks s l e) ∙ ap (λ (x : Next). after n room t x) (event_pending room t s l e)

-- ---- the innermost call has a code line

-- the machine is ready to begin it
pub ready-code : (m : Marks) (s : State) (f : Frame) (fs : List Frame) (c : Bytes) (cs : List Bytes)
    → s.pending ≡ none → s.frames ≡ f ∷ fs → f.next ≡ c ∷ cs → ready m s ≡ running s
unfolding ready_in
ready-code m s f fs c cs p e h =
    ready-none m s (f ∷ fs) p (ap unfinished e ∙ unfinished_here f fs c cs h) ∙ ap running (same_state s (f ∷ fs) p e)

-- with no fuel left, it isn't begun
pub code_spent : (room : Rooms) (t : Loaded) (s : State) (f : Frame) (fs : List Frame) (c : Bytes) (cs : List Bytes)
    → s.pending ≡ none → s.frames ≡ f ∷ fs → f.next ≡ c ∷ cs → after zero room t (running s) ≡ running s
unfolding after follow
code_spent room t s f fs c cs p e h = ready-code t.marks s f fs c cs p e h

-- the event is that code line, carried out
pub event-code : (room : Rooms) (t : Loaded) (s : State) (f : Frame) (fs : List Frame) (c : Bytes) (cs : List Bytes)
    → s.pending ≡ none → s.frames ≡ f ∷ fs → f.next ≡ c ∷ cs
    → event room t s ≡ stepped t.marks fs (carry_out room t.marks (parse t.marks true c) (resume_at f f.loops cs) s.shared) (counted s)
unfolding event event_for begin_line begin_at counted
event-code room t s f fs c cs p e h =
    ap (event_for room t s) p ∙ (ap (λ (g : List Frame). begin_line room t.marks g (counted s)) e ∙ ap (begin_at room t.marks f fs (counted s)) h)

-- the code line is begun and carried out
pub code_step : (n : ℕ) (room : Rooms) (t : Loaded) (s : State) (f : Frame) (fs : List Frame) (c : Bytes) (cs : List Bytes)
    → s.pending ≡ none → s.frames ≡ f ∷ fs → f.next ≡ c ∷ cs
    → after (suc n) room t (running s) ≡ after n room t (stepped t.marks fs (carry_out room t.marks (parse t.marks true c) (resume_at f f.loops cs) s.shared) (counted s))
code_step n room t s f fs c cs p e h =
    after-event n room t s (ready-code t.marks s f fs c cs p e h) ∙ ap (λ (x : Next). after n room t x) (event-code room t s f fs c cs p e h)

-- ---- no call is open

-- the machine reads the next input line
pub ready_input : (m : Marks) (s : State) → s.pending ≡ none → s.frames ≡ [] → ready m s ≡ read_input m s.input s
unfolding unfinished ready_in
ready_input m s p e = ready-none m s [] p (ap unfinished e)

-- the machine goes on as after reading
pub input_step : (n : ℕ) (room : Rooms) (t : Loaded) (s : State) → s.pending ≡ none → s.frames ≡ [] → after n room t (running s) ≡ after n room t (read_input t.marks s.input s)
input_step n room t s p e = sym (after-ready n room t s) ∙ ap (λ (x : Next). after n room t x) (ready_input t.marks s p e)

-- with no line left, the expansion ends with 0
pub input_done : (n : ℕ) (room : Rooms) (t : Loaded) (s : State) → s.pending ≡ none → s.frames ≡ [] → s.input ≡ [] → after n room t (running s) ≡ ended 0 (with_frames s [])
unfolding read_input
input_done n room t s p e h = input_step n room t s p e ∙ (ap (λ (ls : List Bytes). after n room t (read_input t.marks ls s)) h ∙ after_ended n room t 0 (with_frames s []))

-- the state after a line is read and measured
unfoldable pub reading : Marks → Bytes → List Bytes → State → State
reading m l ls s = record { input = ls; line = suc s.line; pending = some (up_to m.source l); frames = []; calls = s.calls; shared = s.shared; events = s.events; tally = s.tally }

-- a line of at most 200 bytes is to be offered
pub input_line : (n : ℕ) (room : Rooms) (t : Loaded) (s : State) (l : Bytes) (ls : List Bytes) → s.pending ≡ none → s.frames ≡ [] → s.input ≡ l ∷ ls
    → leb (length (up_to t.marks.source l)) 200 ≡ true → after n room t (running s) ≡ after n room t (running (reading t.marks l ls s))
unfolding read_input reading measured
input_line n room t s l ls p e h b =
    input_step n room t s p e
    ∙ (ap (λ (k : List Bytes). after n room t (read_input t.marks k s)) h
    ∙ ap (λ (c : Bool). after n room t (measured (reading t.marks l ls s) (up_to t.marks.source l) c)) b)

-- a longer line ends the expansion with 11
pub input_long : (n : ℕ) (room : Rooms) (t : Loaded) (s : State) (l : Bytes) (ls : List Bytes) → s.pending ≡ none → s.frames ≡ [] → s.input ≡ l ∷ ls
    → leb (length (up_to t.marks.source l)) 200 ≡ false → after n room t (running s) ≡ ended 11 (reading t.marks l ls s)
unfolding read_input reading measured
input_long n room t s l ls p e h b =
    input_step n room t s p e
    ∙ (ap (λ (k : List Bytes). after n room t (read_input t.marks k s)) h
    ∙ (ap (λ (c : Bool). after n room t (measured (reading t.marks l ls s) (up_to t.marks.source l) c)) b
    ∙ after_ended n room t 11 _))

-- ---- a finished call closes, without an event

-- the machine with the call closed is made ready in the same way
pub close_ready : (m : Marks) (s : State) (f : Frame) (fs : List Frame) → s.pending ≡ none → s.frames ≡ f ∷ fs → f.next ≡ [] → ready m s ≡ ready m (with_frames s fs)
unfolding state_with read_input ready_in
close_ready m s f fs p e h = ready-none m s (unfinished fs) p (ap unfinished e ∙ unfinished_past f fs h) ∙ (by (unfinished fs) ∙ sym (ready-none m (with_frames s fs) (unfinished fs) refl refl))
  where
    reads : (k : List Bytes) → read_input m k s ≡ read_input m k (with_frames s fs)
    reads [] = refl
    reads (l ∷ ls) = refl

    by : (u : List Frame) → ready_in m s u ≡ ready_in m (with_frames s fs) u
    by [] = reads s.input
    by (g ∷ gs) = refl

-- the machine with the call closed goes the same way, whatever the input
pub close_step : (n : ℕ) (room : Rooms) (t : Loaded) (s : State) (f : Frame) (fs : List Frame)
    → s.pending ≡ none → s.frames ≡ f ∷ fs → f.next ≡ [] → after n room t (running s) ≡ after n room t (running (with_frames s fs))
close_step n room t s f fs p e h =
    sym (after-ready n room t s) ∙ (ap (λ (x : Next). after n room t x) (close_ready t.marks s f fs p e h) ∙ after-ready n room t (with_frames s fs))
