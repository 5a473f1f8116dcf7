-- What answers come to in the expansion, from the states that the code stands for.
use mathlib.Core.Path.{◌≡◌, refl, sym, ap, ◌∙◌}
use mathlib.Core.Bool.{true, false}
use mathlib.Core.Option.{none, some}
use Rattle.std.specs.Prelude.{Ok, Err}
use Rattle.faults.specs.declared.RunFault.{RunFault}
use Rattle.faults.specs.Numbers.{run_number}
use mathlib.Core.List.{List, [], ◌∷◌}
use Prim.Native.Nat.{ℕ, ◌+◌, min}
use native.Mathlib.Omega.{arith}
use lib.ListN.{length, drop}
use Rattle.model.specs.declared.Marks.{Marks}
use Rattle.model.specs.Text.{Bytes, lines}
use Rattle.model.specs.Load.{Loaded}
use Rattle.model.specs.Report.{Tally}
use Rattle.model.specs.Machine as Machine
use Rattle.model.specs.Machine.{Frame, Shared, Step, continues, offers, skips, leaves, copies, halts, resume_at, Next, running, ended, state_with, Passed, landed, beyond, bad_landing, pass_over, skip_from, skip_in, stepped, outcome, Outputs, Rooms}
use Rattle.model.specs.Sizes.{Nested, FramesOk}
use Rattle.model.proofs.Fuel.{after_ended}
use Rattle.model.proofs.Frames.{NextOk, skip_in-nested}
use Rattle.model.proofs.Choices.{false-not-true}
use Rattle.state.specs.declared.State.{State}
use Rattle.state.specs.State.{shared_of, state_of}
use Rattle.call.specs.declared.Call.{Call}
use Rattle.call.specs.Call.{frame_of}
use Rattle.answer.specs.declared.Turn.TheVariants.{Continues, Offers, Back, Ends}
use Rattle.answer.specs.Answers.{Answer, is_left, is_offer, is_end, lines_back, settle, next_of, comes_to, result_after}

-- ---- a state counts by its input, line, calls and events where a line is carried out

module _ (m : Marks) where
  pub skip-same : (n : ℕ) (fs gs : List Frame) (w v : Shared) (s : Machine.State) → skip_in m n fs w s ≡ skip_in m n fs w (state_with s none gs v)
  unfolding skip_in skip_from state_with
  skip-same n [] gs w v s = refl
  skip-same n (f ∷ fs) gs w v s = by (pass_over m n 0 f.next) (λ k. skip-same k fs gs w v s)
    where
      by : (p : Passed) → ((k : ℕ) → skip_in m k fs w s ≡ skip_in m k fs w (state_with s none gs v))
          → skip_from f fs w s (λ k. skip_in m k fs w s) p ≡ skip_from f fs w (state_with s none gs v) (λ k. skip_in m k fs w (state_with s none gs v)) p
      by (landed cs) ih = refl
      by (beyond k) ih = ih k
      by bad_landing ih = refl

  stepped_same : (fs gs : List Frame) (p : Step) (v : Shared) (s : Machine.State) → stepped m fs p s ≡ stepped m fs p (state_with s none gs v)
  unfolding stepped state_with
  stepped_same fs gs (continues f w) v s = refl
  stepped_same fs gs (offers l f w) v s = refl
  stepped_same fs gs (skips n f w) v s = skip-same n (f ∷ fs) gs w v s
  stepped_same fs gs (leaves w) v s = refl
  stepped_same fs gs (copies room ch f w) v s = refl
  stepped_same fs gs (halts k w) v s = refl

  module _ (text : Bytes) (s s' : State) (at : s'.at ≡ s.at) (line : s'.line ≡ s.line) (calls : s'.calls ≡ s.calls) (events : s'.events ≡ s.events) where
    -- what a code line comes to, seen from the state after it
    pub stepped_at : (fs gs : List Frame) (y : Tally) (p : Step) (o o' : Outputs) → stepped m fs p (state_of text none gs y s o) ≡ stepped m fs p (state_of text none fs y s' o')
    unfolding state_with
    stepped_at fs gs y p o o' =
        stepped_same fs fs p (shared_of s' o') (state_of text none gs y s o)
        ∙ (λ i. stepped m fs p (record { input = lines (drop (sym at i) text); line = sym line i; pending = none; frames = fs; calls = sym calls i; shared = shared_of s' o'; events = sym events i; tally = y }))

  -- nothing is skipped
  pub skip-none : (text : Bytes) (fs : List Frame) (y : Tally) (s : State) (o : Outputs) → settle (skip_in m 0 fs (shared_of s o) (state_of text none fs y s o)) ≡ running (state_of text none fs y s o)
  unfolding settle skip_in skip_from pass_over state_with resume_at
  skip-none text [] y s o =
      let z : s.line + min 0 (length (lines (drop s.at text))) ≡ s.line = omega arith in
      ap (λ (n : ℕ). running (record { input = lines (drop s.at text); line = n; pending = none; frames = []; calls = s.calls; shared = shared_of s o; events = s.events; tally = y })) z
  skip-none text (f ∷ fs) y s o = refl

-- ---- runs that have ended

-- the run ends with a fault's number
pub breaks_with : (fuel : ℕ) (room : Rooms) (t : Loaded) (text : Bytes) (k : RunFault) (fs : List Frame) (y : Tally) (s : State) (o : Outputs)
    → comes_to fuel room t (ended (run_number k) (state_of text none fs y s o)) ≡ result_after t y (Err k) s o
unfolding outcome Machine.result_of
breaks_with fuel room t text k fs y s o = ap (outcome t) (after_ended fuel room t (run_number k) (state_of text none fs y s o))

-- or as it should
pub ends_well : (fuel : ℕ) (room : Rooms) (t : Loaded) (text : Bytes) (fs : List Frame) (y : Tally) (s : State) (o : Outputs)
    → comes_to fuel room t (ended 0 (state_of text none fs y s o)) ≡ result_after t y (Ok Ends) s o
unfolding outcome Machine.result_of
ends_well fuel room t text fs y s o = ap (outcome t) (after_ended fuel room t 0 (state_of text none fs y s o))

-- what is settled comes to the same
pub settle-same : (fuel : ℕ) (room : Rooms) (t : Loaded) (x : Next) → comes_to fuel room t x ≡ comes_to fuel room t (settle x)
unfolding settle outcome Machine.result_of state_with
settle-same fuel room t (running s) = refl
settle-same fuel room t (ended k s) = ap (outcome t) (after_ended fuel room t k s) ∙ sym (ap (outcome t) (after_ended fuel room t k (state_with s none [] s.shared)))

pub settle-nested : (m : Marks) (x : Next) → NextOk m x → NextOk m (settle x)
unfolding settle state_with
settle-nested m (running s) h = h
settle-nested m (ended k s) h = tt

-- ---- an answer by its turn

module _ (m : Marks) (text : Bytes) (r : Answer) (fs : List Frame) (y : Tally) (c : Call) (s : State) (line : Bytes) (o : Outputs) where
  -- what another answer comes to
  abbrev with_answer : Answer → Next
  with_answer z = next_of m text fs y z c s line o

  -- the call goes on, with nothing offered
  pub next_on : is_left r ≡ false → is_offer r ≡ false → next_of m text fs y r c s line o ≡ running (state_of text none (frame_of m text c ∷ fs) y s o)
  unfolding next_of
  next_on = by r
    where
      by : (z : Answer) → is_left z ≡ false → is_offer z ≡ false → with_answer z ≡ running (state_of text none (frame_of m text c ∷ fs) y s o)
      by (Ok Continues) e f = refl
      by (Ok Offers) e f = false-not-true (sym f)
      by (Ok (Back n)) e f = false-not-true (sym e)
      by (Ok Ends) e f = false-not-true (sym e)
      by (Err k) e f = false-not-true (sym e)

  -- its line is offered
  pub next_offers : is_offer r ≡ true → next_of m text fs y r c s line o ≡ running (state_of text (some line) (frame_of m text c ∷ fs) y s o)
  unfolding next_of
  next_offers = by r
    where
      by : (z : Answer) → is_offer z ≡ true → with_answer z ≡ running (state_of text (some line) (frame_of m text c ∷ fs) y s o)
      by (Ok Continues) e = false-not-true e
      by (Ok Offers) e = refl
      by (Ok (Back n)) e = false-not-true e
      by (Ok Ends) e = false-not-true e
      by (Err k) e = false-not-true e

  -- so many lines are skipped among the callers
  pub next_back : is_left r ≡ true → is_end r ≡ false → next_of m text fs y r c s line o ≡ settle (skip_in m (lines_back r) fs (shared_of s o) (state_of text none fs y s o))
  unfolding next_of
  next_back = by r
    where
      by : (z : Answer) → is_left z ≡ true → is_end z ≡ false → with_answer z ≡ settle (skip_in m (lines_back z) fs (shared_of s o) (state_of text none fs y s o))
      by (Ok Continues) e f = false-not-true e
      by (Ok Offers) e f = false-not-true e
      by (Ok (Back n)) e f = refl
      by (Ok Ends) e f = false-not-true (sym f)
      by (Err k) e f = false-not-true (sym f)

  -- the run ends
  pub next_ends : is_end r ≡ true → (fuel : ℕ) (room : Rooms) (t : Loaded) → comes_to fuel room t (next_of m text fs y r c s line o) ≡ result_after t y r s o
  unfolding next_of
  next_ends e fuel room t = by r e
    where
      by : (z : Answer) → is_end z ≡ true → comes_to fuel room t (with_answer z) ≡ result_after t y z s o
      by (Ok Continues) e = false-not-true e
      by (Ok Offers) e = false-not-true e
      by (Ok (Back n)) e = false-not-true e
      by (Ok Ends) e = ends_well fuel room t text [] y s o
      by (Err k) e = breaks_with fuel room t text k [] y s o

  -- where the call is left, it and the built line don't matter
  pub left_same : is_left r ≡ true → (c' : Call) (line' : Bytes) → next_of m text fs y r c s line o ≡ next_of m text fs y r c' s line' o
  unfolding next_of
  left_same e c' line' = by r e
    where
      by : (z : Answer) → is_left z ≡ true → with_answer z ≡ next_of m text fs y z c' s line' o
      by (Ok Continues) e = false-not-true e
      by (Ok Offers) e = false-not-true e
      by (Ok (Back n)) e = refl
      by (Ok Ends) e = refl
      by (Err k) e = refl

  -- where no line is offered, the built line doesn't matter
  pub unoffered_same : is_offer r ≡ false → (line' : Bytes) → next_of m text fs y r c s line o ≡ next_of m text fs y r c s line' o
  unfolding next_of
  unoffered_same e line' = by r e
    where
      by : (z : Answer) → is_offer z ≡ false → with_answer z ≡ next_of m text fs y z c s line' o
      by (Ok Continues) e = refl
      by (Ok Offers) e = false-not-true (sym e)
      by (Ok (Back n)) e = refl
      by (Ok Ends) e = refl
      by (Err k) e = refl

  -- where the call is left, its callers stay well nested
  pub left_nested : is_left r ≡ true → FramesOk m fs → NextOk m (next_of m text fs y r c s line o)
  unfolding next_of
  left_nested e h = by r e
    where
      by : (z : Answer) → is_left z ≡ true → NextOk m (with_answer z)
      by (Ok Continues) e = false-not-true e
      by (Ok Offers) e = false-not-true e
      by (Ok (Back n)) e = settle-nested m _ (skip_in-nested m n fs (shared_of s o) (state_of text none fs y s o) h)
      by (Ok Ends) e = tt
      by (Err k) e = tt

  -- a call that goes on, at once or after an offer, is well nested
  pub next-nested : NextOk m (next_of m text fs y r c s line o) → is_left r ≡ false → Nested m (frame_of m text c)
  unfolding next_of
  next-nested = by r
    where
      by : (z : Answer) → NextOk m (with_answer z) → is_left z ≡ false → Nested m (frame_of m text c)
      by (Ok Continues) h e = h.0
      by (Ok Offers) h e = h.0
      by (Ok (Back n)) h e = false-not-true (sym e)
      by (Ok Ends) h e = false-not-true (sym e)
      by (Err k) h e = false-not-true (sym e)

-- a call that offers a line is not left
pub offer_open : (z : Answer) → is_offer z ≡ true → is_left z ≡ false
offer_open (Ok Continues) e = refl
offer_open (Ok Offers) e = refl
offer_open (Ok (Back n)) e = false-not-true e
offer_open (Ok Ends) e = false-not-true e
offer_open (Err k) e = false-not-true e
