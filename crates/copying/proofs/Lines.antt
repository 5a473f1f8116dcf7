-- Input lines copied one after the other, up to the one that stops it.
use mathlib.Core.Path.{◌≡◌, refl, sym, ap, subst, ◌∙◌}
use mathlib.Core.Bool.{Bool, true, false}
use mathlib.Core.Option as Math
use mathlib.Core.Option.{none, some}
use Rattle.std.specs.Prelude.{Result, Ok, Err}
use Rattle.faults.specs.declared.RunFault.{RunFault}
use Rattle.faults.specs.Numbers.{run_number}
use mathlib.Core.List.{List, [], ◌∷◌}
use Prim.Native.Nat.{ℕ, ◌+◌, ◌≤◌}
use native.Mathlib.Omega.{arith}
use lib.Dec.{eqb}
use Rattle.std.specs.Cmp.Lexicographic.{pointwise}
use lib.ListN.{length, take, drop, drop_of_length-le}
use native.Mathlib.Numerals.{add-one}
use Rattle.model.specs.declared.Marks.{Marks}
use Rattle.model.specs.declared.Channel.{Channel}
use Rattle.model.specs.Text.{Bytes, part, lines}
use Rattle.model.specs.Load.{begins}
use Rattle.model.specs.Report.{Tally}
use Rattle.model.specs.Machine as Machine
use Rattle.model.specs.Machine.{Rooms, Outputs, Frame, Shared, Next, running, ended, state_with, stepped, param, wrote, past_line, is_too_long, copy_lines, copy_input}
use Rattle.model.proofs.Choices.{when_true, when_false}
use Rattle.model.proofs.Copies.{copies-named, copies-nothing}
use Rattle.scan.specs.Lines.{ContentAt}
use Rattle.state.specs.declared.State.{State}
use Rattle.state.specs.State.{shared_of, state_of, Sound, with_written, with_input}
use Rattle.call.specs.declared.Call.{Call}
use Rattle.call.specs.Call.{frame_of, Placed}
use Rattle.call.specs.Params.{Reads}
use Rattle.answer.specs.Answers.{settle, next_of, rooms_of}
use Rattle.answer.specs.Kept.{Stays, ExtendsBoth}
use Rattle.answer.proofs.Following.{both_none, both_more, rooms_kept, stays_same}
use Rattle.write.specs.Output.{has_room_on, Writes}
use Rattle.copying.specs.Copies.{CopiesContent, CopiesLines, CopiesInput}
use Rattle.copying.proofs.Measured.{begins_front}

-- ---- how far the state has moved

-- st follows s: input lines are read and copied, and nothing else changes
pub record Moved (text : Bytes) (s : State) (o : Outputs) (st : State) (o₁ : Outputs) : Type 0 where
  pub is : st ≡ with_input (with_written s st.written st.second) st.at st.line
  pub from : s.at ≤ st.at
  pub within : st.at ≤ length text
  pub lines : st.line + length text ≤ 1000000 + st.at
  pub extends : ExtendsBoth o s o₁ st

module _ {text : Bytes} {s : State} {o : Outputs} {st : State} {o₁ : Outputs} (v : Moved text s o st o₁) where
  moved_sound : Sound text s o → Sound text st o₁
  moved_sound h = subst (λ (x : State). Sound text x o₁) (sym v.is) (record {
    within = v.within;
    lines = v.lines;
    written = omega (arith, v.extends.first.long, v.extends.first.fits);
    second = omega (arith, v.extends.second.long, v.extends.second.fits);
    symbols = h.symbols;
    calls = h.calls;
    total = h.total;
  })

  moved_stays : Stays s st
  moved_stays = subst (λ (x : State). Stays s x) (sym v.is) (record { from = v.from; calls = refl; events = refl; fuel = refl })

  -- a line more is read
  moved_read : {mark end next : ℕ} → ContentAt text mark st.at end next → Moved text s o (with_input st next (st.line + 1)) o₁
  moved_read {next = next} g =
      let ahead = g.ahead in
      let from = v.from in
      let lines = v.lines in
      record {
        is = ap (λ (x : State). with_input x next (st.line + 1)) v.is;
        from = omega arith;
        within = g.within;
        lines = omega arith;
        extends = record { first = v.extends.first; second = v.extends.second };
      }

  -- a line more is written
  moved_written : {t : State} {n k : ℕ} {o₂ : Outputs} → t ≡ with_written st n k → ExtendsBoth o₁ st o₂ t → Moved text s o t o₂
  moved_written {n = n} {k} {o₂} e x = subst (λ (y : State). Moved text s o y o₂) (sym e) (record {
    is = ap (λ (y : State). with_written y n k) v.is;
    from = v.from;
    within = v.within;
    lines = v.lines;
    extends = both_more v.extends (subst (λ (y : State). ExtendsBoth o₁ st o₂ y) e x);
  })

-- ---- line by line

-- lines are copied up to st: what is left comes to the same
pub record Copied (m : Marks) (text : Bytes) (ch : Channel) (name : Bytes) (s : State) (o : Outputs) (st : State) (o₁ : Outputs) : Type 0 where
  pub same : (frames : List Frame) (y : Tally) → copy_lines m (rooms_of o) ch name (lines (drop s.at text)) (state_of text none frames y s o) ≡ copy_lines m (rooms_of o) ch name (lines (drop st.at text)) (state_of text none frames y st o₁)
  pub moved : Moved text s o st o₁

module _ {m : Marks} {text : Bytes} {ch : Channel} {name : Bytes} {s : State} {o : Outputs} {t : State} {o₂ : Outputs} (v : Moved text s o t o₂) where
  -- the copy is over and the call goes on
  copy_over : ((frames : List Frame) (y : Tally) → copy_lines m (rooms_of o) ch name (lines (drop s.at text)) (state_of text none frames y s o) ≡ running (state_of text none frames y t o₂)) → CopiesLines m text ch name s o (Ok tt) t o₂
  unfolding settle next_of
  copy_over f = record { same = λ fs y c b. ap settle (f (frame_of m text c ∷ fs) y); sound = moved_sound v; stays = moved_stays v; extends = v.extends }

  -- or the run ends
  copy_fails : {k : RunFault} → ((frames : List Frame) (y : Tally) → copy_lines m (rooms_of o) ch name (lines (drop s.at text)) (state_of text none frames y s o) ≡ ended (run_number k) (state_of text none frames y t o₂))
      → CopiesLines m text ch name s o (Err k) t o₂
  unfolding settle next_of state_with
  copy_fails f = record { same = λ fs y c b. ap settle (f (frame_of m text c ∷ fs) y); sound = moved_sound v; stays = moved_stays v; extends = v.extends }

module _ {m : Marks} {text : Bytes} {ch : Channel} {name : Bytes} {s : State} {o : Outputs} {st : State} {o₁ : Outputs} (v : Copied m text ch name s o st o₁) where
  -- the input ends
  pub copied_all : length text ≤ st.at → CopiesLines m text ch name s o (Ok tt) st o₁
  unfolding copy_lines lines
  copied_all h = copy_over v.moved (λ frames y. v.same frames y ∙ ap (λ (x : Bytes). copy_lines m (rooms_of o) ch name (lines x) (state_of text none frames y st o₁)) (drop_of_length-le text h))

  module _ {end next : ℕ} {b : Bool} {t : State} (g : ContentAt text m.source st.at end next) (n : b ≡ pointwise eqb name (take (length name) (part text st.at end))) (et : t ≡ with_input st next (st.line + 1)) where
    abbrev content : Bytes
    content = part text st.at end

    -- the state with the line read
    abbrev read : State
    read = with_input st next (st.line + 1)

    begun : b ≡ begins name content
    begun = n ∙ begins_front name content

    past_is : (frames : List Frame) (y : Tally) → past_line (lines (drop next text)) (state_of text none frames y st o₁) ≡ state_of text none frames y read o₁
    unfolding past_line
    past_is frames y = ap (λ (k : ℕ). record { input = lines (drop next text); line = k; pending = none; frames = frames; calls = st.calls; shared = shared_of st o₁; events = st.events; tally = y }) (sym (add-one st.line))

    -- what is done with the next line: by what writing it comes to, by its length, and by its content
    abbrev by_writing : List Frame → Tally → Math.Option Shared → Next
    by_writing frames y w = elim w as (λ _. Next) [
      | none ↦ ended 13 (past_line (lines (drop next text)) (state_of text none frames y st o₁))
      | some w ↦ copy_lines m (rooms_of o) ch name (lines (drop next text)) (state_with (past_line (lines (drop next text)) (state_of text none frames y st o₁)) none frames w)
    ]

    abbrev by_length : List Frame → Tally → Bytes → Next
    by_length frames y l = elim (is_too_long ch l) as (λ _. Next) [
      | true ↦ ended 11 (past_line (lines (drop next text)) (state_of text none frames y st o₁))
      | false ↦ by_writing frames y (wrote (rooms_of o) ch l (shared_of st o₁))
    ]

    abbrev next_line : List Frame → Tally → Bytes → Next
    next_line frames y l = elim (begins name l) as (λ _. Next) [
      | true ↦ running (past_line (lines (drop next text)) (state_of text none frames y st o₁))
      | false ↦ by_length frames y l
    ]

    next_is : (frames : List Frame) (y : Tally) → copy_lines m (rooms_of o) ch name (lines (drop s.at text)) (state_of text none frames y s o) ≡ next_line frames y content
    unfolding copy_lines
    next_is frames y =
        v.same frames y
        ∙ ap (λ (ls : List Bytes). copy_lines m (rooms_of o) ch name ls (state_of text none frames y st o₁)) g.is
        ∙ ap (next_line frames y) (sym g.content)

    -- it begins with the name
    pub copied_stops : b ≡ true → CopiesLines m text ch name s o (Ok tt) t o₁
    copied_stops e = subst (λ (z : State). CopiesLines m text ch name s o (Ok tt) z o₁) (sym et)
        (copy_over (moved_read v.moved g) (λ frames y. next_is frames y ∙ when_true _ _ (sym begun ∙ e) ∙ ap (λ (x : Machine.State). running x) (past_is frames y)))

    module _ {r : Result Unit RunFault} {s₂ : State} {o₂ : Outputs} (e : b ≡ false) (y : CopiesContent ch content t o₁ r s₂ o₂) where
      -- the state before is that of the line read
      at_read : CopiesContent ch content read o₁ r s₂ o₂
      at_read = subst (λ (z : State). CopiesContent ch content z o₁ r s₂ o₂) et y

      moved_on : Moved text s o read o₁
      moved_on = moved_read v.moved g

      not-begun : (frames : List Frame) (y : Tally) → copy_lines m (rooms_of o) ch name (lines (drop s.at text)) (state_of text none frames y s o) ≡ by_length frames y content
      not-begun frames y = next_is frames y ∙ when_false _ _ (sym begun ∙ e)

      writes_as : {w : Math.Option Shared} → wrote (rooms_of o₁) ch content (shared_of read o₁) ≡ w → wrote (rooms_of o) ch content (shared_of st o₁) ≡ w
      writes_as f = ap (λ (k : Rooms). wrote k ch content (shared_of st o₁)) (sym (rooms_kept v.moved.extends)) ∙ f

      -- it is too long, or there is no room: the run ends
      pub copied_ends : {fault : RunFault} {x : Result Unit RunFault} → r ≡ Err fault → x ≡ Err fault → CopiesLines m text ch name s o x s₂ o₂
      copied_ends {fault} left ends = subst (λ (z : Result Unit RunFault). CopiesLines m text ch name s o z s₂ o₂) (sym ends) (by (is_too_long ch content) refl)
        where
          failed : {k : RunFault} → r ≡ Err k → s₂ ≡ read → o₂ ≡ o₁ → ((frames : List Frame) (y : Tally) → copy_lines m (rooms_of o) ch name (lines (drop s.at text)) (state_of text none frames y s o) ≡ ended (run_number k) (state_of text none frames y read o₁))
              → CopiesLines m text ch name s o (Err fault) s₂ o₂
          failed {k} a b c f =
              let z : k ≡ fault = cc in
              subst (λ (z : State). CopiesLines m text ch name s o (Err fault) z o₂) (sym b)
              (subst (λ (z : Outputs). CopiesLines m text ch name s o (Err fault) read z) (sym c) (subst (λ (z : RunFault). CopiesLines m text ch name s o (Err z) read o₁) z (copy_fails moved_on f)))

          by_room : (k : Bool) → has_room_on ch content read o₁ ≡ k → is_too_long ch content ≡ false → Writes ch content read o₁ r s₂ o₂ → CopiesLines m text ch name s o (Err fault) s₂ o₂
          by_room true k q w = absurd (let z = (w.fits k).0 in cc)
          by_room false k q w =
              let z = w.full k in
              failed z.0 z.1 z.2 (λ frames y. not-begun frames y ∙ when_false _ _ q ∙ ap (by_writing frames y) (writes_as z.3) ∙ ap (λ (z : Machine.State). ended 13 z) (past_is frames y))

          by : (q : Bool) → is_too_long ch content ≡ q → CopiesLines m text ch name s o (Err fault) s₂ o₂
          by true q =
              let z = at_read.long q in
              failed z.0 z.1 z.2 (λ frames y. not-begun frames y ∙ when_true _ _ q ∙ ap (λ (z : Machine.State). ended 11 z) (past_is frames y))
          by false q = by_room (has_room_on ch content read o₁) refl q (at_read.writes q)

      -- it is copied
      pub copied_more : {u : Unit} → r ≡ Ok u → Copied m text ch name s o s₂ o₂
      unfolding state_with
      copied_more on = by (is_too_long ch content) refl
        where
          by_room : (k : Bool) → has_room_on ch content read o₁ ≡ k → is_too_long ch content ≡ false → Writes ch content read o₁ r s₂ o₂ → Copied m text ch name s o s₂ o₂
          by_room true k q w =
              let is : s₂ ≡ with_written read s₂.written s₂.second = (w.fits k).1 in
              record {
                same = λ frames y.
                    not-begun frames y ∙ when_false _ _ q ∙ ap (by_writing frames y) (writes_as (w.fits k).2)
                    ∙ ap (λ (z : Machine.State). copy_lines m (rooms_of o) ch name (lines (drop next text)) (state_with z none frames (shared_of s₂ o₂))) (past_is frames y)
                    ∙ (λ i. copy_lines m (rooms_of o) ch name (lines (drop (sym is i).at text))
                    (record { input = lines (drop (sym is i).at text); line = (sym is i).line; pending = none; frames = frames; calls = (sym is i).calls; shared = shared_of s₂ o₂; events = (sym is i).events; tally = y }));
                moved = moved_written moved_on is w.extends;
              }
          by_room false k q w = absurd (let z = (w.full k).0 in cc)

          by : (q : Bool) → is_too_long ch content ≡ q → Copied m text ch name s o s₂ o₂
          by true q = absurd (let z = (at_read.long q).0 in cc)
          by false q = by_room (has_room_on ch content read o₁) refl q (at_read.writes q)

-- ---- F2

-- with an empty name the call goes on
unnamed : (m : Marks) (room : Rooms) (ch : Channel) (name : Bytes) (x : Machine.State) → length name ≡ 0 → copy_input m room ch name x ≡ running x
unnamed m room ch [] x h = copies-nothing m room ch x
unnamed m room ch (y ∷ name) x h = absurd (omega (arith, h))

module _ {m : Marks} {text : Bytes} {ch : Channel} {c : Call} {s : State} {o : Outputs} {name : Bytes} (q : Placed text c) (l : Reads c 1 name) where
  -- with an empty parameter no line is read
  pub copies_none : length name ≡ 0 → CopiesInput m text ch c s o (Ok tt) s o
  unfolding stepped state_with settle next_of
  copies_none z = record {
    comes = λ b h. record {
      same = λ fs y. ap settle (unnamed m (rooms_of o) ch (param (frame_of m text c) 1) (state_of text none (frame_of m text c ∷ fs) y s o) (ap (λ (x : Bytes). length x) (l.is m text) ∙ z));
      sound = h;
      placed = q;
      stays = stays_same s;
      extends = both_none h;
    };
  }

  pub copies_input : {r : Result Unit RunFault} {s' : State} {o' : Outputs} → ¬ (length name ≡ 0) → CopiesLines m text ch name s o r s' o' → CopiesInput m text ch c s o r s' o'
  unfolding stepped state_with
  copies_input {r} {s'} {o'} z v = record {
    comes = λ b h. record {
      same = λ fs y. ap settle (copies-named m (rooms_of o) ch (param (frame_of m text c) 1) (state_of text none (frame_of m text c ∷ fs) y s o) (λ e. z (sym (ap (λ (x : Bytes). length x) (l.is m text)) ∙ e))
          ∙ ap (λ (x : Bytes). copy_lines m (rooms_of o) ch x (lines (drop s.at text)) (state_of text none (frame_of m text c ∷ fs) y s o)) (l.is m text)) ∙ v.same fs y c b;
      sound = v.sound h;
      placed = q;
      stays = v.stays;
      extends = v.extends;
    };
  }
