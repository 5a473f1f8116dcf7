-- The usage report: its counts add up to the lines offered among the events counted, with more fuel no count is smaller, each row says how often its
-- template was chosen, and the report has at most 2,048 bytes. The theorems: counts_add_up, counts_grow, report_is, events_are, row_is, last_row_is, rows_are, report_short.
use mathlib.Core.Path.{◌≡◌, refl, ap, sym, ◌∙◌}
use mathlib.Core.Bool.{Bool, true, false}
use mathlib.Core.Option.{Option, none, some}
use mathlib.Core.List.{List, [], ◌∷◌, ◌++◌}
use Prim.Native.Nat.{ℕ, zero, suc, ◌+◌, ◌-◌, ◌*◌, ◌≤◌, ◌<◌}
use native.Mathlib.Omega.{arith}
use borrow.Author.Tests.{eqb-true, eqb-false}
use lib.Dec.{eqb, leb}
use lib.ListN.{length, get_or, replicate, length-append, length-replicate, get_or-replicate, get_or-append}
use lib.Seq.{get_or-append_seam}
use Rattle.model.specs.declared.Marks.{Marks}
use Rattle.model.specs.declared.Channel.{Channel}
use Rattle.model.specs.declared.Channel.TheVariants.{First}
use Rattle.model.specs.Text.{Bytes, up_to}
use Rattle.model.specs.Reading.{Reading, chosen}
use Rattle.model.specs.Store.{decimal}
use Rattle.model.specs.Load.{begins, templates, Macro, no_macro, Loaded, loaded, load}
use Rattle.model.specs.Report.{Tally, no_lines, one_more_of, tallied, Row, use_rows, report_rows, row_bytes, rows_bytes, report_head, report_bytes, total, NoLess}
use Rattle.model.specs.Machine.{Frame, Rooms, Outputs, Shared, Step, continues, offers, skips, leaves, copies, halts, State, Next, running, ended, state_with, Passed, landed, beyond, bad_landing, pass_over, skip_from, skip_in, call, wrote, passed, pass_through, past_line, is_too_long, copy_lines, copy_input, decided, offered_as, offered, stepped, unfinished, measured, read_input, ready_in, ready_for, ready, begin_at, begin_line, counted, event_for, event, follow, after, initial, result_of, outcome, run}
use Rattle.model.specs.Usage.{offers_line, decides, is_chosen, is_passed, count_at, events_of, lines_offered, lines_decided, last_state, rows_after}
use Rattle.model.proofs.Choices.{both}
use Rattle.model.proofs.Chosen.{chosen-reads}
use Rattle.model.proofs.Fuel.{Later, ready-later, event-later, more_fuel}
use Rattle.model.proofs.Input.{macro_line}
use Rattle.model.proofs.Loading.{load_legal, templates-length}
use Rattle.model.proofs.Printed.{decimal_few}

-- ---- a measure of states along the events

module _ (room : Rooms) (t : Loaded) (f : Option Bytes → ℕ) (size : State → ℕ) (Ok : State → Type 0)
    (on_ready : (s : State) → Ok s → Ok (last_state (ready t.marks s)) × (size (last_state (ready t.marks s)) ≡ size s))
    (on_event : (s : State) → Ok s → Ok (last_state (event room t s)) × (size (last_state (event room t s)) ≡ size s + f s.pending)) where
  -- what each event adds comes together
  pub after_adds : (n : ℕ) (x : Next) → Ok (last_state x) → Ok (last_state (after n room t x)) × (size (last_state (after n room t x)) ≡ size (last_state x) + events_of f n room t x)
  unfolding after follow events_of count_at last_state
  after_adds zero (ended k s) h = (h, omega arith)
  after_adds zero (running s) h = let q = on_ready s h in (q.0, omega (arith, q.1))
  after_adds (suc n) (ended k s) h = (h, omega arith)
  after_adds (suc n) (running s) h = let q = on_ready s h in by (ready t.marks s) q.0 q.1 (λ x. after_adds n x)
    where
      by : (r : Next) → Ok (last_state r) → size (last_state r) ≡ size s
          → ((x : Next) → Ok (last_state x) → Ok (last_state (after n room t x)) × (size (last_state (after n room t x)) ≡ size (last_state x) + events_of f n room t x))
          → Ok (last_state (follow (λ s'. after n room t (event room t s')) r))
          × (size (last_state (follow (λ s'. after n room t (event room t s')) r)) ≡ size s + count_at (λ s'. f s'.pending + events_of f n room t (event room t s')) r)
      by (ended k s') h e ih = (h, omega arith)
      by (running s') h e ih = let q = on_event s' h in let i = ih (event room t s') q.0 in (i.0, omega (arith, q.1, i.1))

-- ---- what keeps the tally

abbrev Keeps : Tally → Next → Type 0
Keeps y (running s) = s.tally ≡ y
Keeps y (ended k s) = s.tally ≡ y

-- a skip in one call
skip_from_keeps : (f : Frame) (fs : List Frame) (w : Shared) (s : State) (out : ℕ → Next) (p : Passed) → ((k : ℕ) → Keeps s.tally (out k)) → Keeps s.tally (skip_from f fs w s out p)
unfolding skip_from state_with
skip_from_keeps f fs w s out (landed cs) ih = refl
skip_from_keeps f fs w s out (beyond k) ih = ih k
skip_from_keeps f fs w s out bad_landing ih = refl

-- a skip through the open calls
skip_in_keeps : (m : Marks) (n : ℕ) (fs : List Frame) (w : Shared) (s : State) → Keeps s.tally (skip_in m n fs w s)
unfolding skip_in
skip_in_keeps m n [] w s = refl
skip_in_keeps m n (f ∷ fs) w s = skip_from_keeps f fs w s (λ k. skip_in m k fs w s) (pass_over m n 0 f.next) (λ k. skip_in_keeps m k fs w s)

-- input lines copied
copy_lines_keeps : (m : Marks) (room : Rooms) (ch : Channel) (name : Bytes) (ls : List Bytes) (y : Tally) (s : State) → s.tally ≡ y → Keeps y (copy_lines m room ch name ls s)
unfolding copy_lines past_line state_with
copy_lines_keeps m room ch name [] y s e = e
copy_lines_keeps m room ch name (l ∷ ls) y s e =
    both (Keeps y) (begins name (up_to m.source l)) _ _ e (
    both (Keeps y) (is_too_long ch (up_to m.source l)) _ _ e
    (by (wrote room ch (up_to m.source l) s.shared) (λ x h. copy_lines_keeps m room ch name ls y x h)))
  where
    by : (v : Option Shared) → ((x : State) → x.tally ≡ y → Keeps y (copy_lines m room ch name ls x))
        → Keeps y (elim v as (λ _. Next) [ none ↦ ended 13 (past_line ls s) | some w ↦ copy_lines m room ch name ls (state_with (past_line ls s) none s.frames w) ])
    by none ih = e
    by (some w) ih = ih (state_with (past_line ls s) none s.frames w) e

-- F2
copy_input_keeps : (m : Marks) (room : Rooms) (ch : Channel) (name : Bytes) (s : State) → Keeps s.tally (copy_input m room ch name s)
unfolding copy_input
copy_input_keeps m room ch [] s = refl
copy_input_keeps m room ch (x ∷ name) s = copy_lines_keeps m room ch (x ∷ name) s.input s.tally s refl

-- what a code line comes to
stepped_keeps : (m : Marks) (fs : List Frame) (p : Step) (s : State) → Keeps s.tally (stepped m fs p s)
unfolding stepped state_with
stepped_keeps m fs (continues f w) s = refl
stepped_keeps m fs (offers l f w) s = refl
stepped_keeps m fs (skips n f w) s = skip_in_keeps m n (f ∷ fs) w s
stepped_keeps m fs (leaves w) s = refl
stepped_keeps m fs (copies room ch f w) s = copy_input_keeps m room ch _ (state_with s none (f ∷ fs) w)
stepped_keeps m fs (halts k w) s = refl

-- a code line begun
begin_at_keeps : (room : Rooms) (m : Marks) (f : Frame) (fs : List Frame) (s : State) (cs : List Bytes) → Keeps s.tally (begin_at room m f fs s cs)
unfolding begin_at
begin_at_keeps room m f fs s [] = refl
begin_at_keeps room m f fs s (c ∷ cs) = stepped_keeps m fs _ s

-- the innermost call's next code line
begin_line_keeps : (room : Rooms) (m : Marks) (fs : List Frame) (s : State) → Keeps s.tally (begin_line room m fs s)
unfolding begin_line
begin_line_keeps room m [] s = refl
begin_line_keeps room m (f ∷ fs) s = begin_at_keeps room m f fs s f.next

-- the place of the template that is chosen, or none
unfoldable pub place_of : Option Reading → Option ℕ
place_of none = none
place_of (some r) = some r.which

-- an offered line is counted, whatever follows
offered_as_keeps : (room : Rooms) (t : Loaded) (l : Bytes) (s : State) (o : Option Reading) → Keeps (tallied (place_of o) s.tally) (offered_as room t l s o)
unfolding place_of offered_as decided pass_through passed call state_with
offered_as_keeps room t l s none = by (wrote room First l s.shared)
  where
    by : (v : Option Shared) → Keeps (tallied none s.tally) (passed (decided none s) v)
    by none = refl
    by (some w) = refl
offered_as_keeps room t l s (some r) = both (Keeps (tallied (some r.which) s.tally)) (leb 12 (length s.frames)) _ _ refl refl

-- an input line read
read_input_keeps : (m : Marks) (ls : List Bytes) (s : State) → Keeps s.tally (read_input m ls s)
unfolding read_input state_with measured
read_input_keeps m [] s = refl
read_input_keeps m (l ∷ ls) s = by (leb (length (up_to m.source l)) 200)
  where
    by : (b : Bool) → Keeps s.tally (measured (record { input = ls; line = suc s.line; pending = some (up_to m.source l); frames = []; calls = s.calls; shared = s.shared; events = s.events; tally = s.tally }) (up_to m.source l) b)
    by true = refl
    by false = refl

-- with these calls open
ready_in_keeps : (m : Marks) (s : State) (fs : List Frame) → Keeps s.tally (ready_in m s fs)
unfolding ready_in state_with
ready_in_keeps m s [] = read_input_keeps m s.input s
ready_in_keeps m s (f ∷ fs) = refl

-- with a line pending or none
ready_for_keeps : (m : Marks) (s : State) (p : Option Bytes) → Keeps s.tally (ready_for m s p)
unfolding ready_for
ready_for_keeps m s (some l) = refl
ready_for_keeps m s none = ready_in_keeps m s (unfinished s.frames)

-- the tally of what is reached
kept : (y : Tally) (x : Next) → Keeps y x → (last_state x).tally ≡ y
unfolding last_state
kept y (running s) h = h
kept y (ended k s) h = h

-- what comes without an event keeps the tally
ready_tally : (m : Marks) (s : State) → (last_state (ready m s)).tally ≡ s.tally
unfolding ready
ready_tally m s = kept s.tally (ready_for m s s.pending) (ready_for_keeps m s s.pending)

-- an event adds the line that it offers
unfoldable tally_for : Loaded → Option Bytes → Tally → Tally
tally_for t none y = y
tally_for t (some l) y = tallied (place_of (chosen t.marks (templates t.macros) l)) y

-- as an equation of the tallies
event_tally : (room : Rooms) (t : Loaded) (s : State) → (last_state (event room t s)).tally ≡ tally_for t s.pending s.tally
unfolding event event_for offered counted tally_for
event_tally room t s = by s.pending
  where
    by : (p : Option Bytes) → (last_state (event_for room t s p)).tally ≡ tally_for t p s.tally
    by none = kept s.tally (begin_line room t.marks s.frames (counted s)) (begin_line_keeps room t.marks s.frames (counted s))
    by (some l) = kept _ (offered room t l (counted s)) (offered_as_keeps room t l (counted s) (chosen t.marks (templates t.macros) l))

-- ---- one more line in the rows

-- as many counts
pub more-length : (i : ℕ) (ns : List ℕ) → length (one_more_of i ns) ≡ length ns
unfolding one_more_of
more-length i [] = refl
more-length zero (n ∷ ns) = refl
more-length (suc i) (n ∷ ns) = ap suc (more-length i ns)

-- one more in all
more-total : (ms : List Macro) (i : ℕ) (ns : List ℕ) → i < length ms → i < length ns → total (use_rows ms (one_more_of i ns)) ≡ suc (total (use_rows ms ns))
unfolding one_more_of use_rows total
more-total [] i ns h k = absurd (omega arith)
more-total (x ∷ ms) i [] h k = absurd (omega arith)
more-total (x ∷ ms) zero (n ∷ ns) h k = omega arith
more-total (x ∷ ms) (suc i) (n ∷ ns) h k = omega (arith, more-total ms i ns (omega arith) (omega arith))

-- a row more
total_last : (rs : List Row) (k n : ℕ) → total (rs ++ ((k, n) ∷ [])) ≡ total rs + n
unfolding total
total_last [] k n = omega arith
total_last (r ∷ rs) k n = omega (arith, total_last rs k n)

-- no count is smaller than itself
no_less-refl : (rs : List Row) → NoLess rs rs
no_less-refl [] = tt
no_less-refl (r ∷ rs) = (refl, omega arith, no_less-refl rs)

-- nor than one that is no larger
no_less_trans : (qs rs ss : List Row) → NoLess qs rs → NoLess rs ss → NoLess qs ss
no_less_trans [] [] ss h k = k
no_less_trans [] (r ∷ rs) ss h k = absurd h
no_less_trans (q ∷ qs) [] ss h k = absurd h
no_less_trans (q ∷ qs) (r ∷ rs) [] h k = absurd k
no_less_trans (q ∷ qs) (r ∷ rs) (s ∷ ss) h k = (h.0 ∙ k.0, omega arith, no_less_trans qs rs ss h.2 k.2)

-- a row more
no_less_last : (qs rs : List Row) (k m n : ℕ) → NoLess qs rs → m ≤ n → NoLess (qs ++ ((k, m) ∷ [])) (rs ++ ((k, n) ∷ []))
no_less_last [] [] k m n h e = (refl, e, tt)
no_less_last [] (r ∷ rs) k m n h e = absurd h
no_less_last (q ∷ qs) [] k m n h e = absurd h
no_less_last (q ∷ qs) (r ∷ rs) k m n h e = (h.0, h.1, no_less_last qs rs k m n h.2 e)

-- one more is no less
more_no_less : (ms : List Macro) (i : ℕ) (ns : List ℕ) → NoLess (use_rows ms ns) (use_rows ms (one_more_of i ns))
unfolding one_more_of use_rows
more_no_less [] i ns = tt
more_no_less (x ∷ ms) i [] = (refl, omega arith, no_less-refl (use_rows ms []))
more_no_less (x ∷ ms) zero (n ∷ ns) = (refl, omega arith, no_less-refl (use_rows ms ns))
more_no_less (x ∷ ms) (suc i) (n ∷ ns) = (refl, omega arith, more_no_less ms i ns)

-- nor is the tally of one more line
tallied_no_less : (ms : List Macro) (o : Option ℕ) (y : Tally) → NoLess (report_rows ms y) (report_rows ms (tallied o y))
unfolding report_rows tallied
tallied_no_less ms none y = no_less_last (use_rows ms y.uses) (use_rows ms y.uses) 0 y.passed (suc y.passed) (no_less-refl (use_rows ms y.uses)) (omega arith)
tallied_no_less ms (some i) y = no_less_last (use_rows ms y.uses) (use_rows ms (one_more_of i y.uses)) 0 y.passed y.passed (more_no_less ms i y.uses) (omega arith)

-- ---- along a run

module _ (room : Rooms) (t : Loaded) where
  -- each template has its count
  unfoldable Counts : State → Type 0
  Counts s = length s.tally.uses ≡ length t.macros

  -- all counts together
  unfoldable sum : State → ℕ
  sum s = total (report_rows t.macros s.tally)

  -- one more line offered is one more in the rows
  tallied-sum : (l : Bytes) (o : Option Reading) (y : Tally) → chosen t.marks (templates t.macros) l ≡ o → length y.uses ≡ length t.macros
      → (length (tallied (place_of o) y).uses ≡ length t.macros) × (total (report_rows t.macros (tallied (place_of o) y)) ≡ total (report_rows t.macros y) + 1)
  unfolding place_of tallied report_rows
  tallied-sum l none y e h = (h, simp total_last (omega arith))
  tallied-sum l (some r) y e h =
      let q = (chosen-reads t.marks (templates t.macros) l r e).place in
      let k : r.which < length t.macros = omega (arith, q, templates-length t.macros) in
      (more-length r.which y.uses ∙ h, simp total_last (omega (arith, more-total t.macros r.which y.uses k (omega arith))))

  -- what comes without an event leaves the counts
  ready_counts : (s : State) → Counts s → Counts (last_state (ready t.marks s)) × (sum (last_state (ready t.marks s)) ≡ sum s)
  unfolding Counts sum
  ready_counts s h = rw (ready_tally t.marks s) (h, refl)

  -- an event adds the line that it offers
  event_counts : (s : State) → Counts s → Counts (last_state (event room t s)) × (sum (last_state (event room t s)) ≡ sum s + offers_line s.pending)
  unfolding Counts sum tally_for offers_line
  event_counts s h = rw (event_tally room t s) (by s.pending)
    where
      by : (p : Option Bytes) → (length (tally_for t p s.tally).uses ≡ length t.macros) × (total (report_rows t.macros (tally_for t p s.tally)) ≡ total (report_rows t.macros s.tally) + offers_line p)
      by none = (h, omega arith)
      by (some l) = tallied-sum l (chosen t.marks (templates t.macros) l) s.tally refl h

  -- the counts of the first state
  first_counts : Counts (initial t) × (sum (initial t) ≡ 0)
  unfolding Counts sum initial no_lines report_rows use_rows total
  first_counts = (length-replicate (length t.macros) 0, simp total_last (omega (arith, zeros t.macros)))
    where
      zeros : (ms : List Macro) → total (use_rows ms (replicate (length ms) 0)) ≡ 0
      zeros [] = refl
      zeros (x ∷ ms) = omega (arith, zeros ms)

  -- the report_rows counts add up to the lines offered
  pub counts_add_up : (f : ℕ) → total (rows_after f room t) ≡ lines_offered f room t
  unfolding rows_after lines_offered Counts sum last_state initial
  counts_add_up f =
      let q = first_counts in
      let k = after_adds room t offers_line sum Counts ready_counts event_counts f (running (initial t)) q.0 in
      omega (arith, q.1, k.1)

  -- the rows of a state
  abbrev rows_of : Tally → List Row
  rows_of y = report_rows t.macros y

  -- an event leaves no count smaller
  event_no_less : (s : State) → NoLess (rows_of s.tally) (rows_of (last_state (event room t s)).tally)
  unfolding tally_for
  event_no_less s = rw (event_tally room t s) (by s.pending)
    where
      by : (p : Option Bytes) → NoLess (rows_of s.tally) (rows_of (tally_for t p s.tally))
      by none = no_less-refl (rows_of s.tally)
      by (some l) = tallied_no_less t.macros (place_of (chosen t.marks (templates t.macros) l)) s.tally

  -- nor do any number of events
  pub after_no_less : (n : ℕ) (x : Next) → NoLess (report_rows t.macros (last_state x).tally) (report_rows t.macros (last_state (after n room t x)).tally)
  unfolding after follow last_state
  after_no_less zero (ended k s) = no_less-refl (rows_of s.tally)
  after_no_less zero (running s) = rw (ready_tally t.marks s) (no_less-refl (rows_of s.tally))
  after_no_less (suc n) (ended k s) = no_less-refl (rows_of s.tally)
  after_no_less (suc n) (running s) = by (ready t.marks s) (ready_tally t.marks s) (λ x. after_no_less n x)
    where
      by : (r : Next) → (last_state r).tally ≡ s.tally → ((x : Next) → NoLess (rows_of (last_state x).tally) (rows_of (last_state (after n room t x)).tally))
          → NoLess (rows_of s.tally) (rows_of (last_state (follow (λ s'. after n room t (event room t s')) r)).tally)
      by (ended k s') e ih = rw e (no_less-refl (rows_of s.tally))
      by (running s') e ih = rw (← e) (no_less_trans (rows_of s'.tally) (rows_of (last_state (event room t s')).tally) (rows_of (last_state (after n room t (event room t s'))).tally) (event_no_less s') (ih (event room t s')))

  -- with more fuel each count only grows
  pub counts_grow : (f g : ℕ) → f ≤ g → NoLess (rows_after f room t) (rows_after g room t)
  unfolding rows_after
  counts_grow f g h = rw (more_fuel f g room t (running (initial t)) h) (after_no_less (g - f) (after f room t (running (initial t))))

  -- the report is that of these rows
  pub report_is : (f : ℕ) → (run f room (loaded t)).report ≡ report_bytes (rows_after f room t)
  unfolding run rows_after outcome result_of last_state
  report_is f = by (after f room t (running (initial t)))
    where
      by : (x : Next) → (outcome t x).report ≡ report_bytes (report_rows t.macros (last_state x).tally)
      by (running s) = refl
      by (ended k s) = refl

  -- ---- the events counted

  -- the events of what is reached
  later_events : (o : Outputs) (e : ℕ) (x : Next) → Later o e x → (last_state x).events ≡ e
  unfolding last_state
  later_events o e (running s) h = h.1
  later_events o e (ended k s) h = h.1

  -- the run's events are these events, each counted once
  pub events_are : (f : ℕ) → (run f room (loaded t)).events ≡ events_of (λ _. 1) f room t (running (initial t))
  unfolding run outcome result_of initial last_state
  events_are f =
      let k = after_adds room t (λ _. 1) (λ s. s.events) (λ s. Unit {0})
      (λ s _. (tt, later_events _ _ (ready t.marks s) (ready-later t.marks s)))
      (λ s _. (tt, omega (arith, later_events _ _ (event room t s) (event-later room t s)))) f (running (initial t)) tt in
      by (after f room t (running (initial t))) ∙ omega (arith, k.1)
    where
      by : (x : Next) → (outcome t x).events ≡ (last_state x).events
      by (running s) = refl
      by (ended k s) = refl

  -- at most one for each event
  offers_few : (n : ℕ) (x : Next) → events_of offers_line n room t x ≤ n
  unfolding events_of count_at offers_line
  offers_few zero x = omega arith
  offers_few (suc n) (ended k s) = omega arith
  offers_few (suc n) (running s) = by (ready t.marks s) (λ x. offers_few n x)
    where
      one : (p : Option Bytes) → offers_line p ≤ 1
      one none = omega arith
      one (some l) = omega arith

      by : (r : Next) → ((x : Next) → events_of offers_line n room t x ≤ n) → count_at (λ s'. offers_line s'.pending + events_of offers_line n room t (event room t s')) r ≤ suc n
      by (ended k s') ih = omega arith
      by (running s') ih = omega (arith, one s'.pending, ih (event room t s'))

-- ---- each count

-- the count that has one more
pub more_same : (i : ℕ) (ns : List ℕ) → i < length ns → get_or (one_more_of i ns) i 0 ≡ get_or ns i 0 + 1
unfolding one_more_of
more_same i [] h = absurd (omega arith)
more_same zero (n ∷ ns) h = omega arith
more_same (suc i) (n ∷ ns) h = more_same i ns (omega arith)

-- and the others
pub more_other : (j i : ℕ) (ns : List ℕ) → ¬ (j ≡ i) → get_or (one_more_of j ns) i 0 ≡ get_or ns i 0
unfolding one_more_of
more_other j i [] h = refl
more_other zero zero (n ∷ ns) h = absurd (h refl)
more_other zero (suc i) (n ∷ ns) h = refl
more_other (suc j) zero (n ∷ ns) h = refl
more_other (suc j) (suc i) (n ∷ ns) h = more_other j i ns (λ e. h (ap suc e))

-- a row for each template
rows_length : (ms : List Macro) (ns : List ℕ) → length (use_rows ms ns) ≡ length ms
unfolding use_rows
rows_length [] ns = refl
rows_length (x ∷ ms) [] = ap suc (rows_length ms [])
rows_length (x ∷ ms) (n ∷ ns) = ap suc (rows_length ms ns)

-- the i-th of them
rows_at : (ms : List Macro) (ns : List ℕ) (i : ℕ) → i < length ms → length ns ≡ length ms → get_or (use_rows ms ns) i (0, 0) ≡ ((get_or ms i no_macro).line, get_or ns i 0)
unfolding use_rows
rows_at [] ns i h e = absurd (omega arith)
rows_at (x ∷ ms) [] i h e = absurd (omega arith)
rows_at (x ∷ ms) (n ∷ ns) zero h e = refl
rows_at (x ∷ ms) (n ∷ ns) (suc i) h e = rows_at ms ns i (omega arith) (omega arith)

-- one more line in the i-th count, where the i-th template is chosen
tallied_use : (i : ℕ) (y : Tally) (o : Option Reading) → i < length y.uses → get_or (tallied (place_of o) y).uses i 0 ≡ get_or y.uses i 0 + is_chosen i o
unfolding place_of tallied is_chosen
tallied_use i y none h = omega arith
tallied_use i y (some r) h = by (eqb r.which i) refl
  where
    by : (b : Bool) → eqb r.which i ≡ b → get_or (one_more_of r.which y.uses) i 0 ≡ get_or y.uses i 0 + elim b as (λ _. ℕ) [ true ↦ 1 | false ↦ 0 ]
    by true e = rw (eqb-true r.which i e) (more_same i y.uses h)
    by false e = more_other r.which i y.uses (eqb-false r.which i e) ∙ omega arith

-- one more line in the last count, where none is chosen
tallied-passed : (y : Tally) (o : Option Reading) → (tallied (place_of o) y).passed ≡ y.passed + is_passed o
unfolding place_of tallied is_passed
tallied-passed y none = omega arith
tallied-passed y (some r) = omega arith

module _ (room : Rooms) (t : Loaded) where
  -- the rows of a count, for every measure of the tally that goes by what is decided
  decided_adds : (g : Option Reading → ℕ) (size : Tally → ℕ) → ((y : Tally) (o : Option Reading) → length y.uses ≡ length t.macros → size (tallied (place_of o) y) ≡ size y + g o)
      → size (no_lines t.macros) ≡ 0 → (f : ℕ)
      → (length (last_state (after f room t (running (initial t)))).tally.uses ≡ length t.macros) × (size (last_state (after f room t (running (initial t)))).tally ≡ lines_decided g f room t)
  unfolding lines_decided Counts initial last_state tally_for decides
  decided_adds g size h z f =
      let k = after_adds room t (decides t g) (λ s. size s.tally) (Counts room t) on_ready on_event f (running (initial t)) (first_counts room t).0 in
      (k.0, omega (arith, k.1))
    where
      on_ready : (s : State) → Counts room t s → Counts room t (last_state (ready t.marks s)) × (size (last_state (ready t.marks s)).tally ≡ size s.tally)
      on_ready s c = ((ready_counts room t s c).0, ap size (ready_tally t.marks s))

      one : (s : State) (p : Option Bytes) → length s.tally.uses ≡ length t.macros → size (tally_for t p s.tally) ≡ size s.tally + decides t g p
      one s none c = omega arith
      one s (some l) c = h s.tally (chosen t.marks (templates t.macros) l) c

      on_event : (s : State) → Counts room t s → Counts room t (last_state (event room t s)) × (size (last_state (event room t s)).tally ≡ size s.tally + decides t g s.pending)
      on_event s c = ((event_counts room t s c).0, ap size (event_tally room t s) ∙ one s s.pending c)

  -- the i-th row has the i-th template's line and the lines that it was chosen for
  pub row_is : (f i : ℕ) → i < length t.macros → get_or (rows_after f room t) i (0, 0) ≡ ((get_or t.macros i no_macro).line, lines_decided (is_chosen i) f room t)
  unfolding rows_after report_rows no_lines
  row_is f i h =
      let y : Tally = (last_state (after f room t (running (initial t)))).tally in
      let k = decided_adds (is_chosen i) (λ z. get_or z.uses i 0) (λ z o c. tallied_use i z o (omega arith)) (get_or-replicate {A = ℕ} (length t.macros) i 0 0 h) f in
      let l : i < length (use_rows t.macros y.uses) = omega (arith, rows_length t.macros y.uses) in
      get_or-append (use_rows t.macros y.uses) ((0, y.passed) ∷ []) (0, 0) i l
      ∙ (rows_at t.macros y.uses i h k.0 ∙ ap (λ (n : ℕ). ((get_or t.macros i no_macro).line, n)) k.1)

  -- the last row has the lines passed through
  pub last_row_is : (f : ℕ) → get_or (rows_after f room t) (length t.macros) (0, 0) ≡ (0, lines_decided is_passed f room t)
  unfolding rows_after report_rows no_lines
  last_row_is f =
      let y : Tally = (last_state (after f room t (running (initial t)))).tally in
      let k = decided_adds is_passed (λ z. z.passed) (λ z o _. tallied-passed z o) refl f in
      ap (λ (n : ℕ). get_or (use_rows t.macros y.uses ++ ((0, y.passed) ∷ [])) n (0, 0)) (sym (rows_length t.macros y.uses))
      ∙ (get_or-append_seam (use_rows t.macros y.uses) (0, y.passed) [] (0, 0) ∙ ap (λ (n : ℕ). (0, n)) k.1)

  -- there are no others
  pub rows_are : (f : ℕ) → length (rows_after f room t) ≡ length t.macros + 1
  unfolding rows_after report_rows
  rows_are f = simp (length-append, rows_length)

-- ---- how long a report is

-- a row of a text's line number and of a count of events
abbrev Short : List Row → Type 0
Short [] = Unit {0}
Short (r ∷ rs) = (r.0 ≤ 65536) × (r.1 ≤ 1000000) × Short rs

-- each row has at most 14 bytes
short_bytes : (rs : List Row) → Short rs → length (rows_bytes rs) ≤ 14 * length rs
unfolding rows_bytes row_bytes
short_bytes [] h = omega arith
short_bytes (r ∷ rs) h =
    let a : length (decimal r.0) ≤ 5 = decimal_few 4 r.0 (omega arith) in
    let b : length (decimal r.1) ≤ 7 = decimal_few 6 r.1 (omega arith) in
    simp length-append (omega (arith, short_bytes rs h.2))

-- each count is at most all together
rows_short : (ms : List Macro) (ns : List ℕ) → ((i : ℕ) → (get_or ms i no_macro).line ≤ 65536) → total (use_rows ms ns) ≤ 1000000 → Short (use_rows ms ns)
unfolding use_rows total
rows_short [] ns h k = tt
rows_short (x ∷ ms) [] h k = (h 0, omega arith, rows_short ms [] (λ i. h (suc i)) (omega arith))
rows_short (x ∷ ms) (c ∷ ns) h k = (h 0, omega arith, rows_short ms ns (λ i. h (suc i)) (omega arith))

-- a row more
short_last : (rs : List Row) (n : ℕ) → Short rs → n ≤ 1000000 → Short (rs ++ ((0, n) ∷ []))
short_last [] n h k = (omega arith, k, tt)
short_last (r ∷ rs) n h k = (h.0, h.1, short_last rs n h.2 k)

-- a report of at most 128 templates
few_bytes : (ms : List Macro) (y : Tally) → ((i : ℕ) → (get_or ms i no_macro).line ≤ 65536) → length ms ≤ 128 → total (report_rows ms y) ≤ 1000000 → length (report_bytes (report_rows ms y)) ≤ 2048
unfolding report_bytes report_head report_rows
few_bytes ms y h l k =
    let e = total_last (use_rows ms y.uses) 0 y.passed in
    let q = short_bytes (report_rows ms y) (short_last (use_rows ms y.uses) y.passed (rows_short ms y.uses h (omega arith)) (omega arith)) in
    let j : length (report_rows ms y) ≡ length ms + 1 = simp (length-append, rows_length) in
    omega arith

-- a report has at most 2,048 bytes
pub report_short : (text : Bytes) (t : Loaded) → load text ≡ loaded t → (f : ℕ) (room : Rooms) → f ≤ 1000000 → length (run f room (loaded t)).report ≤ 2048
unfolding rows_after lines_offered
report_short text t e f room h =
    rw (report_is room t f) (few_bytes t.macros _ (macro_line text t e) (load_legal text t e).1.few
    (omega (arith, counts_add_up room t f, offers_few room t f (running (initial t)))))
