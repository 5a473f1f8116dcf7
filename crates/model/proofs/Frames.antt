-- An open call of a text that loads: its code lines are well nested among its open iterations, at every event of a run.
-- The theorems, at the end: run-nested, run-nested_here.
use mathlib.Core.Path.{◌≡◌, refl, subst}
use mathlib.Core.Bool.{Bool, true, false}
use mathlib.Core.Option.{Option, none, some}
use mathlib.Core.List.{List, [], ◌∷◌}
use Prim.Native.Nat.{ℕ, zero, suc, ◌≤◌}
use native.Mathlib.Nat.{zero-add}
use lib.Dec.{leb}
use lib.ListN.{length, get_or}
use lib.IntN.{ℤ, pos, negsuc}
use Rattle.model.specs.declared.Marks.{Marks}
use Rattle.model.specs.declared.Channel.{Channel}
use Rattle.model.specs.declared.Channel.TheVariants.{First}
use Rattle.model.specs.Text.{Bytes, up_to}
use Rattle.model.specs.Reading.{Reading, chosen}
use Rattle.model.specs.Code.{Ending, parse, offer, assign, iterate, stop, write, layout, copy, save, skip, skip_text, skip_value, repeat, again, leave, malformed, effect_of, effect}
use Rattle.model.specs.declared.Effect.TheVariants.{Closes, Owns}
use Rattle.model.specs.declared.Comparison.{Comparison}
use Rattle.model.specs.Store.{put, within}
use Rattle.model.specs.Load.{templates, Loaded, loaded, load}
use Rattle.model.specs.Machine.{Rooms, Loop, by_pieces, by_count, Frame, Shared, Step, continues, offers, skips, leaves, halts, param, with_param, resume_at, Building, built, failed, build, Piece, take_pass, next_pass, end_pass, past_loop, start_repeat, write_to, write_layout, save_text, skip_by, skip_if, skip_compared, finish, finish_built, carry_out, State, Next, running, ended, state_with, Passed, landed, beyond, bad_landing, pass_over, skip_in, call, pass_through, offered, stepped, unfinished, read_input, ready, begin_line, counted, event, after, initial, skip_from, offered_as, decided, begin_at, event_for, measured, ready_in, ready_for, closed, follow, copies, wrote, goes_written, passed, past_line, copy_input}
use Rattle.model.specs.Sizes.{well_nested, BodiesOk, after_of, LoopsOk, Nested, FramesOk}
use Rattle.model.proofs.Choices.{both}
use Rattle.model.proofs.Copying.{input_copied}
use Rattle.model.proofs.Nesting.{nested_few, Passing, passing, Lands, pass_over-nested, past_loop-nested, all_at, load-nested}

-- at most four iterations are open
pub nested-loops : (m : Marks) (f : Frame) → Nested m f → length f.loops ≤ 4
nested-loops m f h = nested_few m (length f.loops) f.next h.lines

-- ---- carrying out a code line

-- the call that a code line leaves is well nested
abbrev pub StepOk : Marks → Step → Type 0
StepOk m (continues f w) = Nested m f
StepOk m (offers l f w) = Nested m f
StepOk m (skips n f w) = Nested m f
StepOk m (leaves w) = Unit {0}
StepOk m (copies room ch f w) = Nested m f
StepOk m (halts k w) = Unit {0}

module _ (m : Marks) where
  -- a pass begins after the opening line
  pub take_pass-nested : (d : ℕ) (p : Option Piece) (ds old : Bytes) (after : List Bytes) (ls : List Loop) (f : Frame) (w : Shared)
      → well_nested m (suc (length ls)) after ≡ true → LoopsOk m ls → StepOk m (take_pass d p ds old after ls f w)
  unfolding take_pass after_of
  take_pass-nested d none ds old after ls f w h k = tt
  take_pass-nested d (some p) ds old after ls f w h k = record { lines = h; around = (h, k) }

  -- the next pass, or the iteration's end
  pub next_pass-nested : (d : ℕ) (rest ds old : Bytes) (after : List Bytes) (ls : List Loop) (f : Frame) (w : Shared)
      → well_nested m (suc (length ls)) after ≡ true → LoopsOk m ls → well_nested m (length ls) f.next ≡ true → StepOk m (next_pass m d rest ds old after ls f w)
  unfolding next_pass resume_at with_param
  next_pass-nested d [] ds old after ls f w h k e = record { lines = e; around = k }
  next_pass-nested d (x ∷ rest) ds old after ls f w h k e = take_pass-nested d _ ds old after ls f w h k

  -- eF8
  pub end_pass-nested : (ls : List Loop) (f : Frame) (w : Shared) → LoopsOk m ls → Passing m (length ls) Closes f.next → StepOk m (end_pass m ls f w)
  unfolding end_pass resume_at after_of
  end_pass-nested [] f w h e = absurd e
  end_pass-nested (by_count zero after ∷ ls) f w h e = record { lines = e; around = h.1 }
  end_pass-nested (by_count (suc n) after ∷ ls) f w h e = record { lines = h.0; around = h }
  end_pass-nested (by_pieces d rest ds old after ∷ ls) f w h e = next_pass-nested d rest ds old after ls f w h.0 h.1 e

  -- past the matching eF8, one fewer is open
  pub past_nested : (n : ℕ) (cs : List Bytes) → well_nested m (suc n) cs ≡ true → well_nested m n (past_loop m 0 cs) ≡ true
  past_nested n cs e = past_loop-nested m 0 n cs (rw zero-add e)

  -- eF7
  pub start_repeat-nested : (v : Option ℤ) (f : Frame) (w : Shared) → LoopsOk m f.loops → well_nested m (suc (length f.loops)) f.next ≡ true → StepOk m (start_repeat m v f w)
  unfolding start_repeat resume_at after_of
  start_repeat-nested none f w h e = tt
  start_repeat-nested (some (pos zero)) f w h e = record { lines = past_nested _ _ e; around = h }
  start_repeat-nested (some (pos (suc n))) f w h e = record { lines = e; around = (e, h) }
  start_repeat-nested (some (negsuc n)) f w h e = record { lines = past_nested _ _ e; around = h }

  -- writing changes no call
  pub write_to-nested : (room : Rooms) (ch : Channel) (l : Bytes) (f : Frame) (w : Shared) → Nested m f → StepOk m (write_to room ch l f w)
  unfolding write_to goes_written
  write_to-nested room ch l f w h = by (wrote room ch l w)
    where
      by : (o : Option Shared) → StepOk m (goes_written f w o)
      by none = tt
      by (some v) = h

  -- a layout is passed with its owner
  pub write_layout-nested : (room : Rooms) (ch : Channel) (cs : List Bytes) (f : Frame) (w : Shared) → LoopsOk m f.loops → Passing m (length f.loops) Owns cs → StepOk m (write_layout room m ch cs f w)
  unfolding write_layout resume_at
  write_layout-nested room ch [] f w h e = absurd e
  write_layout-nested room ch (c ∷ cs) f w h e = write_to-nested room ch _ _ w (record { lines = e; around = h })

  -- a skip changes no call yet
  pub skip_by-nested : (v : Option ℤ) (f : Frame) (w : Shared) → Nested m f → StepOk m (skip_by v f w)
  unfolding skip_by
  skip_by-nested none f w h = tt
  skip_by-nested (some (pos n)) f w h = h
  skip_by-nested (some (negsuc n)) f w h = tt

  -- nor does one on a condition
  pub skip_if-nested : (b : Bool) (f : Frame) (w : Shared) → Nested m f → StepOk m (skip_if m b f w)
  unfolding skip_if
  skip_if-nested b f w h = both (StepOk m) b _ _ (skip_by-nested _ f w h) h

  -- nor one on a comparison
  pub skip_compared-nested : (o : Comparison) (a b : Option ℤ) (f : Frame) (w : Shared) → Nested m f → StepOk m (skip_compared m o a b f w)
  unfolding skip_compared
  skip_compared-nested o none b f w h = tt
  skip_compared-nested o (some a) none f w h = tt
  skip_compared-nested o (some a) (some b) f w h = skip_if-nested _ f w h

  -- what is done at a code line's end
  pub finish-nested : (room : Rooms) (k : Ending) (l : Bytes) (f : Frame) (w : Shared)
      → LoopsOk m f.loops → Passing m (length f.loops) (effect_of k) f.next → StepOk m (finish room m k l f w)
  unfolding finish effect_of with_param save_text
  finish-nested room offer l f w h e = record { lines = e; around = h }
  finish-nested room (assign d) l f w h e = record { lines = e; around = h }
  finish-nested room (iterate d ds) l f w h e = take_pass-nested d _ ds _ _ _ f w e h
  finish-nested room stop l f w h e = tt
  finish-nested room (write ch) l f w h e = write_to-nested room ch l f w (record { lines = e; around = h })
  finish-nested room (layout ch) l f w h e = write_layout-nested room ch f.next f w h e
  finish-nested room (copy ch) l f w h e = record { lines = e; around = h }
  finish-nested room save l f w h e = both (StepOk m) (within (put (param f 1) (param f 2) w.store)) _ _ (record { lines = e; around = h }) tt
  finish-nested room skip l f w h e = skip_by-nested _ f w (record { lines = e; around = h })
  finish-nested room (skip_text b) l f w h e = skip_if-nested _ f w (record { lines = e; around = h })
  finish-nested room (skip_value o) l f w h e = skip_compared-nested o _ _ f w (record { lines = e; around = h })
  finish-nested room repeat l f w h e = start_repeat-nested _ f w h e
  finish-nested room again l f w h e = end_pass-nested f.loops f w h e
  finish-nested room leave l f w h e = tt
  finish-nested room malformed l f w h e = absurd e

  -- a whole code line
  pub carry_out-nested : (room : Rooms) (c : Bytes) (cs : List Bytes) (f : Frame) (w : Shared)
      → LoopsOk m f.loops → well_nested m (length f.loops) (c ∷ cs) ≡ true → StepOk m (carry_out room m (parse m true c) (resume_at f f.loops cs) w)
  unfolding carry_out finish_built effect resume_at
  carry_out-nested room c cs f w h e = by (build m (resume_at f f.loops cs) (parse m true c).parts [] w)
    where
      by : (b : Building) → StepOk m (finish_built room m (parse m true c).ending (resume_at f f.loops cs) b)
      by (built l v) = finish-nested room (parse m true c).ending l (resume_at f f.loops cs) v h (passing m (length f.loops) c cs e)
      by (failed n v) = tt

-- ---- the machine

-- the same of a state
abbrev pub NextOk : Marks → Next → Type 0
NextOk m (running s) = FramesOk m s.frames
NextOk m (ended k s) = FramesOk m s.frames

module _ (m : Marks) where
  -- a skip in one call
  pub skip_from-nested : (f : Frame) (fs : List Frame) (w : Shared) (s : State) (out : ℕ → Next) (p : Passed)
      → FramesOk m (f ∷ fs) → Lands m (length f.loops) p → ((k : ℕ) → NextOk m (out k)) → NextOk m (skip_from f fs w s out p)
  unfolding skip_from state_with resume_at
  skip_from-nested f fs w s out (landed cs) h e ih = (record { lines = e; around = h.0.around }, h.1)
  skip_from-nested f fs w s out (beyond k) h e ih = ih k
  skip_from-nested f fs w s out bad_landing h e ih = h

  -- a skip through the open calls
  pub skip_in-nested : (n : ℕ) (fs : List Frame) (w : Shared) (s : State) → FramesOk m fs → NextOk m (skip_in m n fs w s)
  unfolding skip_in
  skip_in-nested n [] w s h = tt
  skip_in-nested n (f ∷ fs) w s h = skip_from-nested f fs w s (λ k. skip_in m k fs w s) (pass_over m n 0 f.next) h
      (pass_over-nested m n 0 (length f.loops) f.next (rw zero-add h.0.lines)) (λ k. skip_in-nested k fs w s h.1)

  -- input lines copied
  pub copy_input-nested : (room : Rooms) (ch : Channel) (name : Bytes) (s : State) → FramesOk m s.frames → NextOk m (copy_input m room ch name s)
  unfolding past_line state_with
  copy_input-nested room ch name s h =
      input_copied m room ch (λ x. FramesOk m x.frames) (NextOk m) (λ x k. k) (λ x k. k) (λ x k. k) (λ l ls x e k. k) (λ c x w e k. k) name s h

  -- what a code line comes to
  pub stepped-nested : (fs : List Frame) (p : Step) (s : State) → StepOk m p → FramesOk m fs → NextOk m (stepped m fs p s)
  unfolding stepped state_with
  stepped-nested fs (continues f w) s h k = (h, k)
  stepped-nested fs (offers l f w) s h k = (h, k)
  stepped-nested fs (skips n f w) s h k = skip_in-nested n (f ∷ fs) w s (h, k)
  stepped-nested fs (leaves w) s h k = k
  stepped-nested fs (copies room ch f w) s h k = copy_input-nested room ch _ (state_with s none (f ∷ fs) w) (h, k)
  stepped-nested fs (halts j w) s h k = k

  -- a code line begun
  pub begin_at-nested : (room : Rooms) (f : Frame) (fs : List Frame) (s : State) (cs : List Bytes) → f.next ≡ cs → FramesOk m (f ∷ fs) → FramesOk m s.frames → NextOk m (begin_at room m f fs s cs)
  unfolding begin_at
  begin_at-nested room f fs s [] e h k = k
  begin_at-nested room f fs s (c ∷ cs) e h k = stepped-nested fs _ s (carry_out-nested m room c cs f s.shared h.0.around (rw e at h.0.lines)) h.1

  -- the innermost call's next code line
  pub begin_line-nested : (room : Rooms) (fs : List Frame) (s : State) → FramesOk m fs → FramesOk m s.frames → NextOk m (begin_line room m fs s)
  unfolding begin_line
  begin_line-nested room [] s h k = k
  begin_line-nested room (f ∷ fs) s h k = begin_at-nested room f fs s f.next refl h k

  -- the innermost call closed or left open
  pub closed-nested : (f : Frame) (fs outer : List Frame) (cs : List Bytes) → FramesOk m (f ∷ fs) → FramesOk m outer → FramesOk m (closed f fs outer cs)
  unfolding closed
  closed-nested f fs outer [] h k = k
  closed-nested f fs outer (c ∷ cs) h k = h

  -- the calls left open
  pub unfinished-nested : (fs : List Frame) → FramesOk m fs → FramesOk m (unfinished fs)
  unfolding unfinished
  unfinished-nested [] h = tt
  unfinished-nested (f ∷ fs) h = closed-nested f fs (unfinished fs) f.next h (unfinished-nested fs h.1)

  -- with an input line read, no call is open
  pub read_input_nested : (ls : List Bytes) (s : State) → NextOk m (read_input m ls s)
  unfolding read_input state_with measured
  read_input_nested [] s = tt
  read_input_nested (l ∷ ls) s = by (leb (length (up_to m.source l)) 200)
    where
      s' : State
      s' = record { input = ls; line = suc s.line; pending = some (up_to m.source l); frames = []; calls = s.calls; shared = s.shared; events = s.events; tally = s.tally }

      by : (b : Bool) → NextOk m (measured s' (up_to m.source l) b)
      by true = tt
      by false = tt

  -- with these calls open
  pub ready_in-nested : (s : State) (fs : List Frame) → FramesOk m fs → NextOk m (ready_in m s fs)
  unfolding ready_in state_with
  ready_in-nested s [] h = read_input_nested s.input s
  ready_in-nested s (f ∷ fs) h = h

  -- with a line pending or none
  pub ready_for-nested : (s : State) (p : Option Bytes) → FramesOk m s.frames → NextOk m (ready_for m s p)
  unfolding ready_for
  ready_for-nested s (some l) h = h
  ready_for-nested s none h = ready_in-nested s (unfinished s.frames) (unfinished-nested s.frames h)

  -- what comes without an event
  pub ready-nested : (s : State) → FramesOk m s.frames → NextOk m (ready m s)
  unfolding ready
  ready-nested s h = ready_for-nested s s.pending h

module _ (room : Rooms) (t : Loaded) (g : BodiesOk t.marks t.macros) where
  -- a line offered: a new call has its macro's body
  pub offered_as-nested : (l : Bytes) (s : State) (o : Option Reading) → FramesOk t.marks s.frames → NextOk t.marks (offered_as room t l s o)
  unfolding offered_as decided pass_through passed call state_with
  offered_as-nested l s none h = by (wrote room First l s.shared)
    where
      by : (o : Option Shared) → NextOk t.marks (passed (decided none s) o)
      by none = h
      by (some v) = h
  offered_as-nested l s (some r) h = both (NextOk t.marks) (leb 12 (length s.frames)) _ _ h (record { lines = all_at t.marks t.macros _ g; around = tt }, h)

  -- an event, with a line pending or none
  pub event_for-nested : (s : State) (p : Option Bytes) → FramesOk t.marks s.frames → NextOk t.marks (event_for room t s p)
  unfolding event_for offered counted
  event_for-nested s (some l) h = offered_as-nested l (counted s) (chosen t.marks (templates t.macros) l) h
  event_for-nested s none h = begin_line-nested t.marks room s.frames (counted s) h h

  -- an event
  pub event-nested : (s : State) → FramesOk t.marks s.frames → NextOk t.marks (event room t s)
  unfolding event
  event-nested s h = event_for-nested s s.pending h

  -- any number of events
  pub after-nested : (n : ℕ) (x : Next) → NextOk t.marks x → NextOk t.marks (after n room t x)
  unfolding after follow
  after-nested zero (ended k s) h = h
  after-nested zero (running s) h = ready-nested t.marks s h
  after-nested (suc n) (ended k s) h = h
  after-nested (suc n) (running s) h = by (ready t.marks s) (ready-nested t.marks s h) (λ x. after-nested n x)
    where
      by : (r : Next) → NextOk t.marks r → ((x : Next) → NextOk t.marks x → NextOk t.marks (after n room t x))
          → NextOk t.marks (follow (λ s'. after n room t (event room t s')) r)
      by (ended k s') h ih = h
      by (running s') h ih = ih (event room t s') (event-nested s' h)

-- at every event of a run of a text that loads, every open call is well nested
pub run-nested : (text : Bytes) (t : Loaded) (n : ℕ) (room : Rooms) → load text ≡ loaded t → NextOk t.marks (after n room t (running (initial t)))
unfolding initial
run-nested text t n room e = after-nested room t (load-nested text t e) n (running (initial t)) tt

-- in every open call at most four iterations are open
pub frames_few : (m : Marks) (fs : List Frame) → FramesOk m fs → (i : ℕ) (f : Frame) → length f.loops ≤ 4 → length (get_or fs i f).loops ≤ 4
frames_few m [] h i f k = k
frames_few m (g ∷ gs) h zero f k = nested-loops m g h.0
frames_few m (g ∷ gs) h (suc i) f k = frames_few m gs h.1 i f k

-- the innermost call of a run, just before an event
pub run-nested_here : (text : Bytes) (t : Loaded) (n : ℕ) (room : Rooms) (s : State) (f : Frame) (fs : List Frame) → load text ≡ loaded t
    → after n room t (running (initial t)) ≡ running s → s.frames ≡ f ∷ fs → Nested t.marks f × (length f.loops ≤ 4)
run-nested_here text t n room s f fs e a h =
    let all : FramesOk t.marks s.frames = subst (NextOk t.marks) a (run-nested text t n room e) in
    let here : FramesOk t.marks (f ∷ fs) = subst (FramesOk t.marks) h all in
    (here.0, nested-loops t.marks f here.0)
