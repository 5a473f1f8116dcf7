-- Where a run stands in its text: the input left is the text's lines after the last one read, and a macro's template and body are
-- the text's lines at its number and after it.
-- The theorems, at the end: load_at, run_at, skip_beyond, text_short, line_number, macro_line.
use mathlib.Core.Path.{◌≡◌, refl, ap, sym, ◌∙◌, subst}
use mathlib.Core.Bool.{Bool, true, false, not, ◌&&◌, ◌||◌}
use mathlib.Core.Option.{Option, none, some}
use mathlib.Core.List.{List, [], ◌∷◌, ◌++◌}
use Prim.Native.Nat.{ℕ, zero, suc, ◌+◌, ◌-◌, ◌≤◌, ◌<◌, min}
use native.Mathlib.Omega.{arith}
use borrow.Author.Tests.{ltb-false}
use lib.Dec.{eqb, leb, ltb}
use lib.ListN.{length, get_or, drop, drop_of_length-le, length-drop}
use lib.Seq.{drop-length, drop-drop}
use Rattle.model.specs.declared.Marks.{Marks}
use Rattle.model.specs.declared.Channel.{Channel}
use Rattle.model.specs.declared.Channel.TheVariants.{First}
use Rattle.model.specs.Text.{Bytes, has, starts_with, up_to, onto_first, lines, marks_of}
use Rattle.model.specs.Reading.{Reading, chosen}
use Rattle.model.specs.Load.{templates, Macro, no_macro, body_of, Progress, Seen, fault, more, section_ends, template_fault, unless, template_line, code_line, after_line, line_seen, Loaded, Load, refused, loaded, load_on, load_from, none_read, load_lines, load}
use Rattle.model.specs.Machine.{Rooms, Frame, Shared, Step, continues, offers, skips, leaves, halts, State, Next, running, ended, state_with, Passed, landed, beyond, bad_landing, pass_over, skip_from, skip_in, call, pass_through, offered_as, decided, offered, stepped, unfinished, measured, read_input, ready_in, ready_for, ready, begin_at, begin_line, counted, event_for, event, follow, after, initial, copies, wrote, passed, past_line, copy_input}
use Rattle.model.specs.Legal.{At, MacroAt, MacrosAt}
use Rattle.model.proofs.Chosen.{Order, lower, level, upper, order}
use Rattle.model.proofs.Choices.{both, split, or_false}
use Rattle.model.proofs.Copying.{input_copied}

-- ---- the statements

-- a load: its macros, and the input after the section's last line
abbrev pub LoadAt : List Bytes → Load → Type 0
LoadAt all (refused k n) = Unit {0}
LoadAt all (loaded t) = MacrosAt t.marks all t.macros × At all t.last t.input

-- a state: the input left
abbrev pub NextAt : List Bytes → Next → Type 0
NextAt all (running s) = At all s.line s.input
NextAt all (ended k s) = At all s.line s.input

-- ---- lists

-- the next line, and those after it
drop-next : (all : List Bytes) (i : ℕ) (l : Bytes) (ls : List Bytes) → l ∷ ls ≡ drop i all → (i < length all) × (l ≡ get_or all i []) × (ls ≡ drop (suc i) all)
drop-next [] zero l ls e = let z : ◌≡◌ {A = ℕ} 0 1 = cc in absurd (omega arith)
drop-next [] (suc i) l ls e = let z : ◌≡◌ {A = ℕ} 0 1 = cc in absurd (omega arith)
drop-next (x ∷ all) zero l ls e = (omega arith, cc, cc)
drop-next (x ∷ all) (suc i) l ls e = let h = drop-next all i l ls e in (omega (arith, h.0), h.1, h.2)

-- one more line is read
at_next : (all : List Bytes) (i : ℕ) (l : Bytes) (ls : List Bytes) → At all i (l ∷ ls) → At all (suc i) ls
at_next all i l ls h = let k = drop-next all i l ls h.left in record { read = k.0; left = k.2 }

-- n lines are dropped, or all that are left
at_drop : (all : List Bytes) (i n : ℕ) (ls : List Bytes) → At all i ls → At all (i + min n (length ls)) (drop n ls)
at_drop all i n ls h =
    let e : length ls ≡ length all - i = ap length h.left ∙ length-drop i all in
    record { read = omega (arith, h.read, e); left = by (order n (length ls)) e }
  where
    ended_there : length ls ≤ n → length ls ≡ length all - i → drop n ls ≡ drop (i + min n (length ls)) all
    ended_there k e =
        let q : length all ≤ i + min n (length ls) = omega (arith, h.read) in
        drop_of_length-le ls k ∙ sym (drop_of_length-le all q)

    by : Order n (length ls) → length ls ≡ length all - i → drop n ls ≡ drop (i + min n (length ls)) all
    by (lower k) e =
        let z : min n (length ls) ≡ n = omega arith in
        ap (drop n) h.left ∙ (drop-drop n i all ∙ ap (λ (x : ℕ). drop (i + x) all) (sym z))
    by (level k) e = ended_there (omega arith) e
    by (upper k) e = ended_there (omega arith) e

-- a text has no more lines than bytes
lines_few : (s : Bytes) → length (lines s) ≤ length s
unfolding lines onto_first
lines_few [] = omega arith
lines_few (b ∷ s) = both (λ (l : List Bytes). length l ≤ suc (length s)) (eqb b 10) ([] ∷ lines s) (onto_first b (lines s)) (omega (arith, lines_few s)) (onto (lines s) (lines_few s))
  where
    onto : (ls : List Bytes) → length ls ≤ length s → length (onto_first b ls) ≤ suc (length s)
    onto [] h = omega arith
    onto (l ∷ ls) h = omega arith

-- ---- loading

-- one more macro
macros_snoc : (m : Marks) (all : List Bytes) (ms : List Macro) (x : Macro) → MacrosAt m all ms → MacroAt m all x → MacrosAt m all (ms ++ (x ∷ []))
macros_snoc m all [] x h k = (k, tt)
macros_snoc m all (y ∷ ms) x h k = (h.0, macros_snoc m all ms x h.1 k)

-- what a line leaves
abbrev SeenAt : Marks → List Bytes → Seen → Type 0
SeenAt m all (fault k) = Unit {0}
SeenAt m all (more r) = MacrosAt m all r.macros
SeenAt m all section_ends = Unit {0}

-- without a fault, what is read is kept
unless_at : (m : Marks) (all : List Bytes) (o : Option ℕ) (r : Progress) → MacrosAt m all r.macros → SeenAt m all (unless o r)
unfolding unless
unless_at m all (some k) r h = tt
unless_at m all none r h = h

-- any line
line_seen_at : (m : Marks) (all : List Bytes) (r : Progress) (n : ℕ) (l : Bytes) (ls : List Bytes) → At all n (l ∷ ls) → MacrosAt m all r.macros → SeenAt m all (line_seen m r (n + 1) l ls)
unfolding line_seen after_line code_line template_line
line_seen_at m all r n l ls h k =
    both (SeenAt m all) r.in_body _ _
    (both (SeenAt m all) (starts_with m.code l) _ _
    (both (SeenAt m all) (eqb r.opened 0 && not r.due) _ _ (both (SeenAt m all) (starts_with m.code (drop 1 l)) _ _ tt k) tt)
    (unless_at m all _ _ k))
    (unless_at m all (template_fault m r.macros (up_to m.source l)) _ (macros_snoc m all r.macros _ k at_line))
  where
    x : Macro
    x = record { line = n + 1; template = up_to m.source l; body = body_of m ls }

    at_line : MacroAt m all x
    at_line =
        let q = drop-next all n l ls h.left in
        let z : n + 1 ≡ suc n = omega arith in
        let y : n + 1 - 1 ≡ n = omega arith in
        record {
          first = omega arith;
          last = omega (arith, q.0);
          template = ap (up_to m.source) (q.1 ∙ ap (λ (i : ℕ). get_or all i []) (sym y));
          body = ap (body_of m) (q.2 ∙ ap (λ (i : ℕ). drop i all) (sym z));
        }

-- all lines
load_from_at : (m : Marks) (all ls : List Bytes) (r : Progress) (n : ℕ) → At all n ls → MacrosAt m all r.macros → LoadAt all (load_from m r n ls)
unfolding load_from load_on
load_from_at m all [] r n h k = tt
load_from_at m all (l ∷ ls) r n h k =
    let z : suc n ≡ n + 1 = omega arith in
    let g : At all (n + 1) ls = subst (λ (i : ℕ). At all i ls) z (at_next all n l ls h) in
    by (line_seen m r (n + 1) l ls) (line_seen_at m all r n l ls h k) g (λ r' j. load_from_at m all ls r' (n + 1) g j)
  where
    by : (s : Seen) → SeenAt m all s → At all (n + 1) ls → ((r' : Progress) → MacrosAt m all r'.macros → LoadAt all (load_from m r' (n + 1) ls))
        → LoadAt all (load_on m r.macros (n + 1) ls (λ r'. load_from m r' (n + 1) ls) s)
    by (fault j) e g ih = tt
    by (more r') e g ih = ih r' e
    by section_ends e g ih = (k, g)

-- every load
load_all_at : (text : Bytes) → LoadAt (lines text) (load text)
unfolding load load_lines none_read
load_all_at text = both (LoadAt (lines text)) (ltb 65536 (length text) || has 0 text) _ _ tt (through_lines (lines text))
  where
    by_marks : (o : Option Marks) (f : Bytes) (ls : List Bytes) → LoadAt (f ∷ ls) (elim o [ none ↦ refused 3 1 | some m ↦ load_from m none_read 1 ls ])
    by_marks none f ls = tt
    by_marks (some m) f ls = load_from_at m (f ∷ ls) ls none_read 1 (record { read = omega arith; left = refl }) tt

    through_lines : (ls : List Bytes) → LoadAt ls (load_lines ls)
    through_lines [] = tt
    through_lines (f ∷ ls) = by_marks (marks_of f) f ls

-- ---- the machine

module _ (all : List Bytes) where
  -- a skip in one call
  skip_from_at : (f : Frame) (fs : List Frame) (w : Shared) (s : State) (out : ℕ → Next) (p : Passed) → At all s.line s.input → ((k : ℕ) → NextAt all (out k)) → NextAt all (skip_from f fs w s out p)
  unfolding skip_from state_with
  skip_from_at f fs w s out (landed cs) h ih = h
  skip_from_at f fs w s out (beyond k) h ih = ih k
  skip_from_at f fs w s out bad_landing h ih = h

  -- a skip through the open calls, at last in the input
  skip_in_at : (m : Marks) (n : ℕ) (fs : List Frame) (w : Shared) (s : State) → At all s.line s.input → NextAt all (skip_in m n fs w s)
  unfolding skip_in
  skip_in_at m n [] w s h = at_drop all s.line n s.input h
  skip_in_at m n (f ∷ fs) w s h = skip_from_at f fs w s (λ k. skip_in m k fs w s) (pass_over m n 0 f.next) h (λ k. skip_in_at m k fs w s h)

  -- input lines copied
  copy_input_at : (m : Marks) (room : Rooms) (ch : Channel) (name : Bytes) (s : State) → At all s.line s.input → NextAt all (copy_input m room ch name s)
  unfolding past_line state_with
  copy_input_at m room ch name s h =
      input_copied m room ch (λ x. At all x.line x.input) (NextAt all) (λ x k. k) (λ x k. k) (λ x k. k)
      (λ l ls x e k. at_next all x.line l ls (subst (At all x.line) e k)) (λ c x w e k. k) name s h

  -- what a code line comes to
  stepped_at : (m : Marks) (fs : List Frame) (p : Step) (s : State) → At all s.line s.input → NextAt all (stepped m fs p s)
  unfolding stepped state_with
  stepped_at m fs (continues f w) s h = h
  stepped_at m fs (offers l f w) s h = h
  stepped_at m fs (skips n f w) s h = skip_in_at m n (f ∷ fs) w s h
  stepped_at m fs (leaves w) s h = h
  stepped_at m fs (copies room ch f w) s h = copy_input_at m room ch _ (state_with s none (f ∷ fs) w) h
  stepped_at m fs (halts k w) s h = h

  -- a line offered, with its reading or none
  offered_as_at : (room : Rooms) (t : Loaded) (l : Bytes) (s : State) (o : Option Reading) → At all s.line s.input → NextAt all (offered_as room t l s o)
  unfolding offered_as decided pass_through passed call state_with
  offered_as_at room t l s none h = by (wrote room First l s.shared)
    where
      by : (o : Option Shared) → NextAt all (passed (decided none s) o)
      by none = h
      by (some v) = h
  offered_as_at room t l s (some r) h = both (NextAt all) (leb 12 (length s.frames)) _ _ h h

  -- a code line begun
  begin_at_at : (room : Rooms) (m : Marks) (f : Frame) (fs : List Frame) (s : State) (cs : List Bytes) → At all s.line s.input → NextAt all (begin_at room m f fs s cs)
  unfolding begin_at
  begin_at_at room m f fs s [] h = h
  begin_at_at room m f fs s (c ∷ cs) h = stepped_at m fs _ s h

  -- the innermost call's next code line
  begin_line_at : (room : Rooms) (m : Marks) (fs : List Frame) (s : State) → At all s.line s.input → NextAt all (begin_line room m fs s)
  unfolding begin_line
  begin_line_at room m [] s h = h
  begin_line_at room m (f ∷ fs) s h = begin_at_at room m f fs s f.next h

  -- an event, with a line pending or none
  event_for_at : (room : Rooms) (t : Loaded) (s : State) (p : Option Bytes) → At all s.line s.input → NextAt all (event_for room t s p)
  unfolding event_for offered counted
  event_for_at room t s (some l) h = offered_as_at room t l (counted s) (chosen t.marks (templates t.macros) l) h
  event_for_at room t s none h = begin_line_at room t.marks s.frames (counted s) h

  -- an event
  event_at : (room : Rooms) (t : Loaded) (s : State) → At all s.line s.input → NextAt all (event room t s)
  unfolding event
  event_at room t s h = event_for_at room t s s.pending h

  -- an input line measured
  measured_at : (s : State) (c : Bytes) (b : Bool) → At all s.line s.input → NextAt all (measured s c b)
  unfolding measured
  measured_at s c true h = h
  measured_at s c false h = h

  -- an input line read
  read_input_at : (m : Marks) (ls : List Bytes) (s : State) → s.input ≡ ls → At all s.line s.input → NextAt all (read_input m ls s)
  unfolding read_input state_with
  read_input_at m [] s e h = h
  read_input_at m (l ∷ ls) s e h = measured_at _ (up_to m.source l) (leb (length (up_to m.source l)) 200) (at_next all s.line l ls (subst (At all s.line) e h))

  -- with these calls open
  ready_in_at : (m : Marks) (s : State) (fs : List Frame) → At all s.line s.input → NextAt all (ready_in m s fs)
  unfolding ready_in state_with
  ready_in_at m s [] h = read_input_at m s.input s refl h
  ready_in_at m s (f ∷ fs) h = h

  -- with a line pending or none
  ready_for_at : (m : Marks) (s : State) (p : Option Bytes) → At all s.line s.input → NextAt all (ready_for m s p)
  unfolding ready_for
  ready_for_at m s (some l) h = h
  ready_for_at m s none h = ready_in_at m s (unfinished s.frames) h

  -- what comes without an event
  ready_at : (m : Marks) (s : State) → At all s.line s.input → NextAt all (ready m s)
  unfolding ready
  ready_at m s h = ready_for_at m s s.pending h

  -- any number of events
  pub after_at : (n : ℕ) (room : Rooms) (t : Loaded) (x : Next) → NextAt all x → NextAt all (after n room t x)
  unfolding after follow
  after_at zero room t (ended k s) h = h
  after_at zero room t (running s) h = ready_at t.marks s h
  after_at (suc n) room t (ended k s) h = h
  after_at (suc n) room t (running s) h = by (ready t.marks s) (ready_at t.marks s h) (λ x. after_at n room t x)
    where
      by : (r : Next) → NextAt all r → ((x : Next) → NextAt all x → NextAt all (after n room t x)) → NextAt all (follow (λ s'. after n room t (event room t s')) r)
      by (ended k s') h ih = h
      by (running s') h ih = ih (event room t s') (event_at room t s' h)

-- ---- the theorems

-- a loaded text's macros and input stand where their line numbers say
pub load_at : (text : Bytes) (t : Loaded) → load text ≡ loaded t → MacrosAt t.marks (lines text) t.macros × At (lines text) t.last t.input
load_at text t e = subst (LoadAt (lines text)) e (load_all_at text)

-- at every event of a run, and at its end, the input left is the lines after the last one read
pub run_at : (text : Bytes) (t : Loaded) (n : ℕ) (room : Rooms) → load text ≡ loaded t → NextAt (lines text) (after n room t (running (initial t)))
unfolding initial
run_at text t n room e = after_at (lines text) n room t (running (initial t)) (load_at text t e).1

-- just before an event
pub running_at : (text : Bytes) (t : Loaded) → load text ≡ loaded t → (n : ℕ) (room : Rooms) (s : State)
    → after n room t (running (initial t)) ≡ running s → At (lines text) s.line s.input
running_at text t e n room s h = subst (NextAt (lines text)) h (run_at text t n room e)

-- a skip in the input beyond its last line is one of as many lines as are left
pub skip_beyond : (m : Marks) (n : ℕ) (w : Shared) (s : State) → length s.input ≤ n → skip_in m n [] w s ≡ skip_in m (length s.input) [] w s
unfolding skip_in
skip_beyond m n w s h =
    let k : ℕ = length s.input in
    let e : min n k ≡ min k k = omega arith in
    let d : drop n s.input ≡ drop k s.input = drop_of_length-le s.input h ∙ sym (drop-length s.input) in
    λ i. running (record { input = d i; line = s.line + e i; pending = none; frames = []; calls = s.calls; shared = w; events = s.events; tally = s.tally })

-- a text that loads has at most 65,536 bytes
pub text_short : (text : Bytes) (t : Loaded) → load text ≡ loaded t → length text ≤ 65536
unfolding load
text_short text t e = subst Short e (split Short (ltb 65536 (length text) || has 0 text) _ _ (λ f. tt) (λ f. any (load_lines (lines text)) (or_false (ltb 65536 (length text)) (has 0 text) f).0))
  where
    Short : Load → Type 0
    Short (refused k n) = Unit {0}
    Short (loaded u) = length text ≤ 65536

    any : (x : Load) → ltb 65536 (length text) ≡ false → Short x
    any (refused k n) f = tt
    any (loaded u) f = ltb-false 65536 (length text) f

-- so no line number is above 65,536
pub line_number : (text : Bytes) (t : Loaded) → load text ≡ loaded t → (i : ℕ) (ls : List Bytes) → At (lines text) i ls → i ≤ 65536
line_number text t e i ls h = omega (arith, text_short text t e, lines_few text, h.read)

-- the line of each macro is one of the text's
line_within : (m : Marks) (all : List Bytes) (ms : List Macro) (i : ℕ) → MacrosAt m all ms → (get_or ms i no_macro).line ≤ length all
unfolding no_macro
line_within m all [] i h = omega arith
line_within m all (x ∷ ms) zero h = h.0.last
line_within m all (x ∷ ms) (suc i) h = line_within m all ms i h.1

pub macro_line : (text : Bytes) (t : Loaded) → load text ≡ loaded t → (i : ℕ) → (get_or t.macros i no_macro).line ≤ 65536
macro_line text t e i =
    let k = (get_or t.macros i no_macro).line in
    line_number text t e k (drop k (lines text)) (record { read = line_within t.marks (lines text) t.macros i (load_at text t e).0; left = refl })
