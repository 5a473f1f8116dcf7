-- The cycle's part of the proof that speaks of no code: each way through offer, advance and body, and the invariant of the body's loop.
use mathlib.Core.Path.{◌≡◌, refl, sym, ap, ◌∙◌, subst}
use mathlib.Core.Bool.{true, false}
use mathlib.Core.Option.{none, some}
use mathlib.Core.List.{List, [], ◌∷◌}
use Prim.Native.Nat.{ℕ, suc, ◌+◌, ◌-◌, ◌≤◌, ◌<◌}
use native.Mathlib.Numerals.{add-one}
use native.Mathlib.Omega.{arith}
use native.Mathlib.Nat.{pos_of_ne-zero}
use borrow.Author.Tests.{le-leb, lt-leb, eqb-true, eqb-false}
use lib.Dec.{eqb}
use lib.ListN.{length, get_or}
use Rattle.std.specs.Prelude.{Bool, Option, Some, None, Result, Ok, Err}
use Rattle.faults.specs.declared.RunFault.{RunFault}
use Rattle.faults.specs.declared.RunFault.TheVariants.{NoFuel, DeepCall}
use Rattle.model.specs.declared.Marks.{Marks}
use Rattle.model.specs.Text.{Bytes}
use Rattle.model.specs.Load.{templates, Loaded, no_macro}
use Rattle.model.specs.Report.{Tally, no_lines}
use Rattle.model.specs.Machine.{Rooms, Outputs, outputs, Frame, running, pass_through}
use Rattle.model.proofs.Frames.{NextOk}
use Rattle.state.specs.declared.State.{State}
use Rattle.state.specs.State.{state_of, Sound, counted_event, with_call}
use Rattle.call.specs.declared.Call.{Call}
use Rattle.call.specs.Call.{frame_of, Placed}
use Rattle.fit.specs.declared.Choice.{Choice}
use Rattle.fit.specs.declared.Reading.{Reading}
use Rattle.fit.specs.Chosen.{Chooses}
use Rattle.answer.specs.declared.Turn.{Turn}
use Rattle.answer.specs.declared.Turn.TheVariants.{Continues, Offers, Back, Ends}
use Rattle.answer.specs.Answers.{Answer, is_left, is_offer, next_of, rooms_of, comes_to, result_after}
use Rattle.answer.specs.Kept.{Follows, Begun, Open}
use Rattle.answer.proofs.Following.{extends_none, follows_itself, follows_trans, rooms_kept}
use Rattle.answer.proofs.Expansion.{breaks_with, settle-same, next_on, next_offers, next-nested, left_same, left_nested, unoffered_same, offer_open}
use Rattle.write.specs.Output.{PassesThrough, done_with}
use Rattle.write.proofs.Lines.{wrote_back, wrote_follows, wrote_left, wrote_fuel}
use Rattle.carry.specs.Carries.{Steps}
use Rattle.landing.specs.Landing.{LandsTurn}
use Rattle.landing.proofs.Leaves.{turns_fault}
use Rattle.usage.specs.Counts.{Counts}
use Rattle.usage.proofs.Counts.{counts_less}
use Rattle.matching.specs.Book.{Basis, Book, Prepared, tally_in}
use Rattle.matching.specs.Matches.{opened, CountsDecided, Decides, Opened}
use Rattle.matching.proofs.Matching.{found_none, found_call, reading_calls}
use Rattle.matching.proofs.Counting.{decided_counts, passed_tally, chosen_tally}
use Rattle.cycle_laws.specs.Meets.{Meets, Advances}
use Rattle.cycle_laws.proofs.Events.{event_with, offer_spent, no_call, too_deep, enters}

-- ---- what a function goes by, of which it was lent parts

module _ {v w : Basis} (e : v ≡ w) where
  pub chosen_by : {line : Bytes} {c : Choice} → Chooses v.marks v.nodes v.count line c → Chooses w.marks w.nodes w.count line c
  chosen_by {line} {c} = subst (λ (u : Basis). Chooses u.marks u.nodes u.count line c) e

  pub opened_by : {line : Bytes} {x : Reading} {number : ℕ} {c : Call} → Opened v.bodies line x number c → Opened w.bodies line x number c
  opened_by {line} {x} {number} {c} = subst (λ (u : Basis). Opened u.bodies line x number c) e

  pub steps_by : {c : Call} {s : State} {o : Outputs} {b : Bytes} {q : Answer} {s₁ : State} {c₁ : Call} {o₁ : Outputs}
      → Steps v.marks v.text c s o b q s₁ c₁ o₁ → Steps w.marks w.text c s o b q s₁ c₁ o₁
  steps_by {c} {s} {o} {b} {q} {s₁} {c₁} {o₁} = subst (λ (u : Basis). Steps u.marks u.text c s o b q s₁ c₁ o₁) e

  pub lands_by : {c : Call} {r a : Answer} {c₂ : Call} → LandsTurn v.marks v.text c r a c₂ → LandsTurn w.marks w.text c r a c₂
  lands_by {c} {r} {a} {c₂} = subst (λ (u : Basis). LandsTurn u.marks u.text c r a c₂) e

-- ---- the states that follow one another

-- an event is counted, and perhaps a call with it
event_follows : {text : Bytes} {s : State} {o : Outputs} (n : ℕ) → n ≤ s.calls + 1 → Sound text s o → 0 < s.fuel → Follows text s o (event_with n s) o
event_follows n few h k = record {
  sound = record { within = h.within; lines = h.lines; written = h.written; second = h.second; symbols = h.symbols; calls = omega (arith, h.calls); total = omega (arith, h.total) };
  from = omega arith;
  fuel = omega arith;
  extends = record { first = extends_none h.written; second = extends_none h.second };
}

-- ---- offering a line

-- what is known where the line opens a call of its reading x, with the state s'; o is the first output before it, and o₁ after it
pub record EntersCall (q : Choice) (depth : ℕ) (s : State) (o : Bytes) (x : Reading) (s' : State) (o₁ : Bytes) : Type 0 where
  pub some_fuel : 0 < s.fuel
  pub found : q.reading ≡ Some x
  pub shallow : ¬ (depth ≡ 12)
  pub counted : s' ≡ counted_event s
  pub kept : o₁ ≡ o

-- no fuel is left
offer_stops : {w : Basis} {l : Bytes} {depth : ℕ} {s : State} {o : Outputs} {cs : List ℕ}
    → Sound w.text s o → Counts cs s.fuel → s.fuel ≡ 0 → Meets w (some l) [] depth s o cs (Err NoFuel) s o cs
unfolding next_of
offer_stops {w} {l} {depth} {s} {o} {cs} sound kept spent = record {
  follows = follows_itself sound;
  counted = kept;
  left = refl;
  same = λ t b fs k _ _. offer_spent (rooms_of o) w.marks w.text t (tally_in t cs) s o spent l fs ∙ sym (breaks_with s.fuel (rooms_of o) t w.text NoFuel [] (tally_in t cs) s o);
}

module _ {w : Basis} {line : Bytes} {depth : ℕ} {s : State} {o : Outputs} {cs cs₁ : List ℕ} {q : Choice}
    (sound : Sound w.text s o) (kept : Counts cs s.fuel) (g : Chooses w.marks w.nodes w.count line q) (z : CountsDecided q.reading s.fuel cs cs₁) where
  module _ (some_fuel : 0 < s.fuel) where
    -- the line has no reading
    offer_writes : {r : Result Unit RunFault} {s' : State} {o' : Bytes} → q.reading ≡ None → PassesThrough line (counted_event s) o.first r s' o'
        → Meets w (some line) [] depth s o cs (done_with r) s' (outputs o' o.second) cs₁
    offer_writes {r} e p =
        let v = p.writes o.second sound.second in
        let c = event_follows s.calls (omega arith) sound some_fuel in
        record {
          follows = follows_trans c (wrote_follows v c.sound);
          counted = rw (wrote_fuel v) (decided_counts z some_fuel kept);
          left = wrote_left r;
          same = λ t b fs i call built. no_call (rooms_of o) w.marks w.text t (tally_in t cs) s o b.marks some_fuel line fs (found_none g e _ b.fits)
              ∙ ap (λ (y : Tally). comes_to (s.fuel - 1) (rooms_of o) t (pass_through (rooms_of o) line (state_of w.text none fs y (counted_event s) o))) (sym (passed_tally z some_fuel b kept e))
              ∙ settle-same (s.fuel - 1) (rooms_of o) t _
              ∙ (λ j. comes_to (sym (wrote_fuel v) j) (rooms_of o) t (wrote_back v w.marks w.text fs (tally_in t cs₁) call built j));
        }

    -- it opens a thirteenth call
    offer_deep : {x : Reading} → q.reading ≡ Some x → depth ≡ 12 → Meets w (some line) [] depth s o cs (Err DeepCall) (counted_event s) o cs₁
    unfolding next_of
    offer_deep e deep = record {
      follows = event_follows s.calls (omega arith) sound some_fuel;
      counted = decided_counts z some_fuel kept;
      left = refl;
      same = λ t b fs i _ _.
          let c = found_call g e (templates t.macros) b.fits in
          too_deep (rooms_of o) w.marks w.text t (tally_in t cs) s o b.marks some_fuel line fs c.reading c.is (le-leb 12 (length fs) (omega arith))
          ∙ ap (λ (y : Tally). result_after t y (Err DeepCall) (counted_event s) o) (sym (chosen_tally z some_fuel b e c c.reading c.is))
          ∙ sym (breaks_with (s.fuel - 1) (rooms_of o) t w.text DeepCall [] (tally_in t cs₁) (counted_event s) o);
    }

  module _ {r : Result Unit RunFault} {s' : State} {o₁ : Bytes} (d : Decides q.reading line depth s o.first r s' o₁) where
    left_as : {k : RunFault} {u : State} → s' ≡ u → o₁ ≡ o.first → Meets w (some line) [] depth s o cs (Err k) u o cs₁ → Meets w (some line) [] depth s o cs (Err k) s' (outputs o₁ o.second) cs₁
    left_as e f h = rw (e, f) h

    -- a fault ends the run
    pub offer_fails : {k : RunFault} {a : Answer} → r ≡ Err k → a ≡ Err k → Meets w (some line) [] depth s o cs a s' (outputs o₁ o.second) cs₁
    offer_fails {k} {a} e ea = subst (λ (x : Answer). Meets w (some line) [] depth s o cs x s' (outputs o₁ o.second) cs₁) (sym ea) (by (eqb s.fuel 0) refl q.reading refl (eqb depth 12) refl)
      where
        fault_as : {x : RunFault} → r ≡ Err x → Meets w (some line) [] depth s o cs (Err x) s' (outputs o₁ o.second) cs₁ → Meets w (some line) [] depth s o cs (Err k) s' (outputs o₁ o.second) cs₁
        fault_as {x} f h =
            let y : x ≡ k = (let p = f in cc) in
            subst (λ (u : RunFault). Meets w (some line) [] depth s o cs (Err u) s' (outputs o₁ o.second) cs₁) y h

        uncounted : s.fuel ≡ 0 → Meets w (some line) [] depth s o cs (Err NoFuel) s o cs₁
        uncounted f = rw (z.spent f) (offer_stops sound kept f)

        by : (spent : Bool) → eqb s.fuel 0 ≡ spent → (found : Option Reading) → q.reading ≡ found → (deep : Bool) → eqb depth 12 ≡ deep → Meets w (some line) [] depth s o cs (Err k) s' (outputs o₁ o.second) cs₁
        by true f b _ _ _ =
            let v = d.spent (eqb-true _ _ f) in
            fault_as v.0 (left_as v.1 v.2 (uncounted (eqb-true _ _ f)))
        by false f None b _ _ =
            let l = pos_of_ne-zero (eqb-false _ _ f) in
            subst (λ (u : Result Unit RunFault). Meets w (some line) [] depth s o cs (done_with u) s' (outputs o₁ o.second) cs₁) e (offer_writes l b (d.writes l b))
        by false f (Some x) b true c =
            let l = pos_of_ne-zero (eqb-false _ _ f) in
            let v = d.deep l x b (eqb-true _ _ c) in
            fault_as v.0 (left_as v.1 v.2 (offer_deep l b (eqb-true _ _ c)))
        by false f (Some x) b false c = absurd (let p = (d.opens (pos_of_ne-zero (eqb-false _ _ f)) x b (eqb-false _ _ c)).0 in cc)

    -- the line has no reading, and is written
    pub offer_passes : {u : Unit} → r ≡ Ok u → q.reading ≡ None → Meets w (some line) [] depth s o cs (Ok (Back 0)) s' (outputs o₁ o.second) cs₁
    offer_passes e b = by (eqb s.fuel 0) refl
      where
        by : (spent : Bool) → eqb s.fuel 0 ≡ spent → Meets w (some line) [] depth s o cs (Ok (Back 0)) s' (outputs o₁ o.second) cs₁
        by true f = absurd (let p = (d.spent (eqb-true _ _ f)).0 in cc)
        by false f =
            let l = pos_of_ne-zero (eqb-false _ _ f) in
            subst (λ (x : Result Unit RunFault). Meets w (some line) [] depth s o cs (done_with x) s' (outputs o₁ o.second) cs₁) e (offer_writes l b (d.writes l b))

-- ---- opening a call

-- a call is opened: there is fuel, a reading, and room for the call
pub offer_opens : (q : Choice) {line : Bytes} {depth : ℕ} {s : State} {o : Bytes} {r : Result Unit RunFault} {s' : State} {o₁ : Bytes} {x : Reading} {u : Unit}
    → Decides q.reading line depth s o r s' o₁ → r ≡ Ok u → q.reading ≡ Some x → EntersCall q depth s o x s' o₁
offer_opens q {line} {depth} {s} {o} {r} {s'} {o₁} {x} {u} d e b = by (eqb s.fuel 0) refl (eqb depth 12) refl
  where
    by : (spent : Bool) → eqb s.fuel 0 ≡ spent → (deep : Bool) → eqb depth 12 ≡ deep → EntersCall q depth s o x s' o₁
    by true f _ _ = absurd (let p = (d.spent (eqb-true _ _ f)).0 in cc)
    by false f true c = absurd (let p = (d.deep (pos_of_ne-zero (eqb-false _ _ f)) x b (eqb-true _ _ c)).0 in cc)
    by false f false c =
        let k = pos_of_ne-zero (eqb-false _ _ f) in
        let v = d.opens k x b (eqb-false _ _ c) in
        record { some_fuel = k; found = b; shallow = eqb-false _ _ c; counted = v.1; kept = v.2 }

module _ {text : Bytes} {depth : ℕ} {s : State} {o : Outputs} {q : Choice} {x : Reading} {v : State} {o₁ : Bytes} (sound : Sound text s o) (k : EntersCall q depth s o.first x v o₁) where
  entered : Follows text s o (with_call (counted_event s)) o
  entered = event_follows (s.calls + 1) (omega arith) sound k.some_fuel

  module _ {u : State} (eu : u ≡ with_call v) where
    called : u ≡ with_call (counted_event s)
    called = eu ∙ ap with_call k.counted

    pub called_sound : Sound text u (outputs o₁ o.second)
    called_sound = rw (called, k.kept) entered.sound

    pub called_less : u.fuel < s.fuel
    called_less = omega (arith, k.some_fuel, ap (λ (y : State). y.fuel) called)

    -- with the line counted
    pub called_counts : {cs cs₁ : List ℕ} → Counts cs s.fuel → CountsDecided q.reading s.fuel cs cs₁ → Counts cs₁ u.fuel
    called_counts kept z = rw called (decided_counts z k.some_fuel kept)

module _ {w : Basis} {depth : ℕ} {s : State} {o : Outputs} {q : Choice} {x : Reading} {v : State} {o₁ : Bytes} {u : State} {line : Bytes} {c : Call}
    (sound : Sound w.text s o) (k : EntersCall q depth s o.first x v o₁) (eu : u ≡ with_call v) (g : Chooses w.marks w.nodes w.count line q) (h : Opened w.bodies line x u.calls c) where
  -- the call that is opened
  pub called_begun : Prepared w → Begun w.marks w.text c
  called_begun p =
      let r = reading_calls g k.found h p.table p.book in
      record { number = omega (arith, r.same, k.some_fuel, ap (λ (y : State). y.calls) (called sound k eu), sound.calls, sound.total); next = r.within; nested = r.nested }

  pub called_open : Prepared w → Open w.marks w.text c
  called_open p =
      let b = called_begun p in
      record { placed = h.opens.placed w.text (omega (arith, b.number, h.opens.same.0)) (omega (arith, b.next, h.opens.same.1)); nested = b.nested }

  -- what comes of it
  pub offer_enters : {cs cs₁ : List ℕ} {r : Answer} {s' : State} {o' : Outputs} {cs' : List ℕ} → depth ≤ 12 → CountsDecided q.reading s.fuel cs cs₁
      → Meets w none (frame_of w.marks w.text c ∷ []) depth u (outputs o₁ o.second) cs₁ r s' o' cs'
      → Meets w (some line) [] depth s o cs r s' o' cs'
  offer_enters {cs} {cs₁} {r} {s'} {o'} {cs'} few d p =
      let x : Meets w none (frame_of w.marks w.text c ∷ []) depth (with_call (counted_event s)) o cs₁ r s' o' cs' = rw ((called sound k eu), k.kept) at p in
      record {
        follows = follows_trans (entered sound k) x.follows;
        counted = x.counted;
        left = x.left;
        same = λ t b fs i call built.
            let v = found_call g k.found (templates t.macros) b.fits in
            let z = reading_calls g k.found h t b in
            enters (rooms_of o) w.marks w.text t (tally_in t cs) s o b.marks k.some_fuel line fs z.reading z.is (lt-leb 12 (length fs) (omega (arith, few, k.shallow, i)))
            ∙ ap (λ (y : Tally). comes_to (s.fuel - 1) (rooms_of o) t (running (state_of w.text none (opened (s.calls + 1) (get_or t.macros z.reading.which no_macro) z.reading.pieces ∷ fs) y (with_call (counted_event s)) o)))
            (sym (chosen_tally d k.some_fuel b k.found v z.reading z.is))
            ∙ ap (λ (f : Frame). comes_to (s.fuel - 1) (rooms_of o) t (running (state_of w.text none (f ∷ fs) (tally_in t cs₁) (with_call (counted_event s)) o)))
            (ap (λ (j : ℕ). opened j (get_or t.macros z.reading.which no_macro) z.reading.pieces) (sym (ap (λ (y : State). y.calls) (called sound k eu))) ∙ sym z.frame)
            ∙ x.same t b fs i call built;
      }

-- ---- a code line

-- a turn that is no offer
pub turns_else : (z : Turn) → ¬ (z ≡ Offers) → is_offer (Ok z) ≡ false
turns_else Continues h = refl
turns_else Offers h = absurd (h refl)
turns_else (Back n) h = refl
turns_else Ends h = refl

module _ {m : Marks} {text : Bytes} {c : Call} {s : State} {o : Outputs} {b : Bytes} {q : Answer} {s₁ : State} {c₁ : Call} {o₁ : Outputs} (steps : Steps m text c s o b q s₁ c₁ o₁)
    (e : is_offer q ≡ true) where
  -- it offers a line, and goes on behind it
  offer_stays : Open m text c₁
  offer_stays = steps.stays (offer_open q e)

  pub offer_less : s₁.fuel < s.fuel
  offer_less = steps.less (offer_open q e)

module _ {w : Basis} {c : Call} {s : State} {o : Outputs} {b : Bytes} {q : Answer} {s₁ : State} {c₁ : Call} {o₁ : Outputs} (steps : Steps w.marks w.text c s o b q s₁ c₁ o₁) where
  -- it offers nothing
  pub advance_takes : {depth : ℕ} {cs : List ℕ} {a : Answer} → Counts cs s.fuel → is_offer q ≡ false → a ≡ q
      → Advances w c depth s o cs a s₁ c₁ o₁ cs
  advance_takes {depth} {cs} kept e ea = subst (λ (x : Answer). Advances w c depth s o cs x s₁ c₁ o₁ cs) (sym ea) record {
    follows = steps.follows;
    counted = counts_less kept steps.follows.fuel;
    settled = e;
    less = steps.less;
    stays = steps.stays;
    same = λ t k fs n line. steps.same t k.marks fs (tally_in t cs) ∙ ap (comes_to s₁.fuel (rooms_of o) t) (unoffered_same w.marks w.text q fs (tally_in t cs) c₁ s₁ b o₁ e line);
  }

  module _ {depth : ℕ} {l : Bytes} {cs : List ℕ} {r : Answer} {s₂ : State} {o₂ : Outputs} {cs₂ : List ℕ} (e : is_offer q ≡ true) (el : l ≡ b)
      (p : Meets w (some l) [] (depth + 1) s₁ o₁ cs r s₂ o₂ cs₂) where
    -- the line that it builds is offered, and what comes of it lands in the call: what LandsTurn says, but for what stays of the call
    pub advance_lands : {a : Answer} {c₂ : Call} → (is_left r ≡ true → is_offer a ≡ false) → (Placed w.text c₁ → Placed w.text c₂)
        → (is_left r ≡ true → (fs : List Frame) (y : Tally) (line : Bytes) (t : State) (u : Outputs)
        → next_of w.marks w.text (frame_of w.marks w.text c₁ ∷ fs) y r c₁ t line u ≡ next_of w.marks w.text fs y a c₂ t line u)
        → Advances w c depth s o cs a s₂ c₂ o₂ cs₂
    advance_lands {a} {c₂} settled placed_then lands =
        let placed = placed_then (offer_stays steps e).placed in
        let same : (fs : List Frame) (y : Tally) (line : Bytes) → next_of w.marks w.text (frame_of w.marks w.text c₁ ∷ fs) y r c₁ s₂ line o₂ ≡ next_of w.marks w.text fs y a c₂ s₂ line o₂ =
        λ fs y line. lands p.left fs y line s₂ o₂ in
        let f = frame_of w.marks w.text c₁ in
        let y = no_lines [] in
        let ok : NextOk w.marks (next_of w.marks w.text [] y a c₂ s₂ [] o₂) =
        subst (NextOk w.marks) (same [] y []) (left_nested w.marks w.text r (f ∷ []) y c₁ s₂ [] o₂ p.left ((offer_stays steps e).nested, tt)) in
        record {
          counted = p.counted;
          follows = follows_trans steps.follows p.follows;
          settled = settled p.left;
          less = λ _. omega (arith, p.follows.fuel, offer_less steps e);
          stays = λ g. record { placed = placed; nested = next-nested w.marks w.text a [] y c₂ s₂ [] o₂ ok g };
          same = λ t b' fs i line. steps.same t b'.marks fs (tally_in t cs)
              ∙ ap (comes_to s₁.fuel (rooms_of o) t) (next_offers w.marks w.text q fs (tally_in t cs) c₁ s₁ b o₁ e)
              ∙ ap (λ (x : Bytes). comes_to s₁.fuel (rooms_of o) t (running (state_of w.text (some x) (f ∷ fs) (tally_in t cs) s₁ o₁))) (sym el)
              ∙ subst (λ (room : Rooms). comes_to s₁.fuel room t (running (state_of w.text (some l) (f ∷ fs) (tally_in t cs) s₁ o₁))
              ≡ comes_to s₂.fuel room t (next_of w.marks w.text (f ∷ fs) (tally_in t cs₂) r c₁ s₂ line o₂))
              (rooms_kept steps.follows.extends) (p.same t b' (f ∷ fs) (ap suc i ∙ sym (add-one depth)) c₁ line)
              ∙ ap (comes_to s₂.fuel (rooms_of o) t) (same fs (tally_in t cs₂) line);
        }

    -- a fault ends the run
    pub advance_fails : {k : RunFault} {a : Answer} → r ≡ Err k → a ≡ Err k → Advances w c depth s o cs a s₂ c₁ o₂ cs₂
    advance_fails er ea = let k = turns_fault er ea in advance_lands k.settled k.placed k.same

-- ---- a body

-- what the expansion comes to from the call f₀ on, it comes to from the call c on
pub record Running (w : Basis) (depth : ℕ) (f₀ : Frame) (s₀ : State) (o₀ : Outputs) (cs₀ : List ℕ)
    (c : Call) (s : State) (o : Outputs) (cs : List ℕ) : Type 0 where
  pub follows : Follows w.text s₀ o₀ s o
  pub counted : Counts cs s.fuel
  pub is_open : Open w.marks w.text c
  pub same : (t : Loaded) → Book w t → (fs : List Frame) → length fs ≡ depth
      → comes_to s₀.fuel (rooms_of o₀) t (running (state_of w.text none (f₀ ∷ fs) (tally_in t cs₀) s₀ o₀))
      ≡ comes_to s.fuel (rooms_of o₀) t (running (state_of w.text none (frame_of w.marks w.text c ∷ fs) (tally_in t cs) s o))

module _ {w : Basis} {depth : ℕ} {f₀ : Frame} {s₀ : State} {o₀ : Outputs} {cs₀ : List ℕ} {c : Call} {s : State} {o : Outputs} {cs : List ℕ}
    (i : Running w depth f₀ s₀ o₀ cs₀ c s o cs) where
  module _ {a : Answer} {s' : State} {c' : Call} {o' : Outputs} {cs' : List ℕ} (h : Advances w c depth s o cs a s' c' o' cs') where
    advanced_same : (t : Loaded) → Book w t → (fs : List Frame) → length fs ≡ depth → (line : Bytes)
        → comes_to s₀.fuel (rooms_of o₀) t (running (state_of w.text none (f₀ ∷ fs) (tally_in t cs₀) s₀ o₀)) ≡ comes_to s'.fuel (rooms_of o₀) t (next_of w.marks w.text fs (tally_in t cs') a c' s' line o')
    advanced_same t b fs n line = i.same t b fs n
        ∙ subst (λ (room : Rooms). comes_to s.fuel room t (running (state_of w.text none (frame_of w.marks w.text c ∷ fs) (tally_in t cs) s o)) ≡ comes_to s'.fuel room t (next_of w.marks w.text fs (tally_in t cs') a c' s' line o'))
        (rooms_kept i.follows.extends) (h.same t b fs n line)

    -- the call is left, or the run has ended
    pub body_left : {r : Answer} → is_left a ≡ true → r ≡ a → Meets w none (f₀ ∷ []) depth s₀ o₀ cs₀ r s' o' cs'
    body_left e er = subst (λ (x : Answer). Meets w none (f₀ ∷ []) depth s₀ o₀ cs₀ x s' o' cs') (sym er) record {
      follows = follows_trans i.follows h.follows;
      counted = h.counted;
      left = e;
      same = λ t b fs n call line. advanced_same t b fs n line ∙ ap (comes_to s'.fuel (rooms_of o₀) t) (left_same w.marks w.text a fs (tally_in t cs') c' s' line o' e call line);
    }

    -- the call goes on
    pub running_on : is_left a ≡ false → Running w depth f₀ s₀ o₀ cs₀ c' s' o' cs'
    running_on e = record {
      follows = follows_trans i.follows h.follows;
      counted = h.counted;
      is_open = h.stays e;
      same = λ t b fs n. advanced_same t b fs n [] ∙ ap (comes_to s'.fuel (rooms_of o₀) t) (next_on w.marks w.text a fs (tally_in t cs') c' s' [] o' e h.settled);
    }
