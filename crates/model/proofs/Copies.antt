-- Function 2 copies the contents up to the line that begins with the name, or all that are left. The theorems: copies_until, copies_all, copy-long, copy_full, copies-nothing.
use mathlib.Core.Path.{◌≡◌, refl, sym, ap, ◌∙◌}
use mathlib.Core.Bool.{true, false}
use mathlib.Core.Option.{Option, none, some}
use mathlib.Core.List.{List, [], ◌∷◌, ◌++◌, append_assoc, append-nil}
use Prim.Native.Nat.{suc, ◌+◌, ◌≤◌}
use native.Mathlib.Omega.{arith}
use borrow.Author.Tests.{le-leb, lt-leb, le-ltb}
use lib.ListN.{length, length-append}
use Rattle.model.specs.declared.Marks.{Marks}
use Rattle.model.specs.declared.Channel.{Channel}
use Rattle.model.specs.declared.Channel.TheVariants.{Nowhere, First, Second}
use Rattle.model.specs.Text.{Bytes, up_to}
use Rattle.model.specs.Load.{begins}
use Rattle.model.specs.Machine.{Rooms, Outputs, outputs, Shared, State, Next, running, ended, state_with, appended, with_first, with_second, wrote, past_line, is_too_long, copy_lines, copy_input}
use Rattle.model.specs.Copies.{contents, NoneBegins, Takes, LacksRoom, received, moved_further}
use Rattle.model.proofs.Choices.{when_true, when_false}

-- what calls share, with other outputs
abbrev sharing : Shared → Outputs → Shared
sharing w o = record { symbols = w.symbols; store = w.store; output = o }

-- a line that fits is written
first_wrote : (room : Rooms) (l : Bytes) (w : Shared) → length w.output.first + length l + 1 ≤ room.first → wrote room First l w ≡ some (sharing w (received First (l ++ (10 ∷ [])) w.output))
unfolding wrote appended with_first
first_wrote room l w h = ap (with_first w) (when_true _ _ (le-leb (length w.output.first + length l + 1) room.first h))

second_wrote : (room : Rooms) (l : Bytes) (w : Shared) → length w.output.second + length l + 1 ≤ room.second → wrote room Second l w ≡ some (sharing w (received Second (l ++ (10 ∷ [])) w.output))
unfolding wrote appended with_second
second_wrote room l w h = ap (with_second w) (when_true _ _ (le-leb (length w.output.second + length l + 1) room.second h))

-- lines on a channel, one after the other
received_more : (ch : Channel) (s t : Bytes) (o : Outputs) → received ch t (received ch s o) ≡ received ch (s ++ t) o
received_more Nowhere s t o = refl
received_more First s t o = ap (λ (x : Bytes). outputs x o.second) (append_assoc o.first s t)
received_more Second s t o = ap (λ (x : Bytes). outputs o.first x) (append_assoc o.second s t)

received_none : (ch : Channel) (o : Outputs) → received ch [] o ≡ o
received_none Nowhere o = refl
received_none First o = ap (λ (x : Bytes). outputs x o.second) (append-nil o.first)
received_none Second o = ap (λ (x : Bytes). outputs o.first x) (append-nil o.second)

module _ (m : Marks) (room : Rooms) where
  -- a channel that takes these lines writes the first of them, and takes the others then
  takes_first : (ch : Channel) (l : Bytes) (ls : List Bytes) (w : Shared) → Takes m room ch (l ∷ ls) w.output
      → (is_too_long ch (up_to m.source l) ≡ false)
      × (wrote room ch (up_to m.source l) w ≡ some (sharing w (received ch (up_to m.source l ++ (10 ∷ [])) w.output)))
      × Takes m room ch ls (received ch (up_to m.source l ++ (10 ∷ [])) w.output)
  unfolding is_too_long wrote
  takes_first Nowhere l ls w h = (refl, refl, tt)
  takes_first First l ls w h =
      let c : Bytes = up_to m.source l in
      let a = length-append (c ++ (10 ∷ [])) (contents m ls) in
      let b = length-append c (10 ∷ []) in
      let d = length-append w.output.first (c ++ (10 ∷ [])) in
      (le-ltb 200 (length c) h.0.0, first_wrote room c w (omega (arith, h.1)), (h.0.1, omega (arith, h.1)))
  takes_first Second l ls w h =
      let c : Bytes = up_to m.source l in
      let a = length-append (c ++ (10 ∷ [])) (contents m ls) in
      let b = length-append c (10 ∷ []) in
      let d = length-append w.output.second (c ++ (10 ∷ [])) in
      (le-ltb 200 (length c) h.0.0, second_wrote room c w (omega (arith, h.1)), (h.0.1, omega (arith, h.1)))

  -- where there is no room nothing is written
  lacks : (ch : Channel) (l : Bytes) (w : Shared) → LacksRoom room ch l w.output → wrote room ch l w ≡ none
  unfolding wrote appended with_first with_second
  lacks Nowhere l w h = absurd h
  lacks First l w h = ap (with_first w) (when_false _ _ (lt-leb (length w.output.first + length l + 1) room.first h))
  lacks Second l w h = ap (with_second w) (when_false _ _ (lt-leb (length w.output.second + length l + 1) room.second h))

  module _ (ch : Channel) (name : Bytes) where
    -- what is done with a line whose content does not begin with the name, by what writing it comes to
    abbrev by_writing : List Bytes → State → Option Shared → Next
    by_writing ls s w = elim w as (λ _. Next) [ none ↦ ended 13 (past_line ls s) | some v ↦ copy_lines m room ch name ls (state_with (past_line ls s) none s.frames v) ]

    -- the lines before those left are copied, one by one
    through : (ls left : List Bytes) (s : State) → s.input ≡ ls ++ left → s.pending ≡ none → NoneBegins m name ls → Takes m room ch ls s.shared.output
        → copy_lines m room ch name (ls ++ left) s ≡ copy_lines m room ch name left (moved_further s (length ls) left (received ch (contents m ls) s.shared.output))
    unfolding copy_lines past_line state_with
    through [] left s e p n h =
        let z : s.line ≡ s.line + 0 = omega arith in
        λ i. copy_lines m room ch name left (record {
          input = e i;
          line = z i;
          pending = p i;
          frames = s.frames;
          calls = s.calls;
          shared = sharing s.shared (sym (received_none ch s.shared.output) i);
          events = s.events;
          tally = s.tally;
        })
    through (l ∷ ls) left s e p n h =
        let c : Bytes = up_to m.source l in
        let t = takes_first ch l ls s.shared h in
        let o : Outputs = received ch (c ++ (10 ∷ [])) s.shared.output in
        let z : suc s.line + length ls ≡ s.line + suc (length ls) = omega arith in
        when_false _ _ n.0
        ∙ when_false _ _ t.0
        ∙ ap (by_writing (ls ++ left) s) t.1
        ∙ through ls left (state_with (past_line (ls ++ left) s) none s.frames (sharing s.shared o)) refl refl n.1 t.2
        ∙ (λ i. copy_lines m room ch name left (record {
          input = left;
          line = z i;
          pending = none;
          frames = s.frames;
          calls = s.calls;
          shared = sharing s.shared (received_more ch (c ++ (10 ∷ [])) (contents m ls) s.shared.output i);
          events = s.events;
          tally = s.tally;
        }))

    -- a name that is not empty is looked for
    pub copies-named : (s : State) → ¬ (length name ≡ 0) → copy_input m room ch name s ≡ copy_lines m room ch name s.input s
    unfolding copy_input
    copies-named s = by name
      where
        by : (x : Bytes) → ¬ (length x ≡ 0) → copy_input m room ch x s ≡ copy_lines m room ch x s.input s
        by [] f = absurd (f refl)
        by (b ∷ x) f = refl

    module _ (ls : List Bytes) (s : State) (some-name : ¬ (length name ≡ 0)) (idle : s.pending ≡ none) (n : NoneBegins m name ls) (h : Takes m room ch ls s.shared.output) where
      -- the outputs once these lines are copied
      abbrev copied : Outputs
      copied = received ch (contents m ls) s.shared.output

      begun : (left : List Bytes) → s.input ≡ ls ++ left → copy_input m room ch name s ≡ copy_lines m room ch name left (moved_further s (length ls) left copied)
      begun left e = copies-named s some-name ∙ ap (λ (x : List Bytes). copy_lines m room ch name x s) e ∙ through ls left s e idle n h

      -- the input's end ends it
      pub copies_all : s.input ≡ ls → copy_input m room ch name s ≡ running (moved_further s (length ls) [] copied)
      unfolding copy_lines
      copies_all e = begun [] (e ∙ sym (append-nil ls))

      module _ (l : Bytes) (left : List Bytes) (e : s.input ≡ ls ++ l ∷ left) where
        -- one line more is read
        past : past_line left (moved_further s (length ls) (l ∷ left) copied) ≡ moved_further s (suc (length ls)) left copied
        unfolding past_line
        past =
            let z : suc (s.line + length ls) ≡ s.line + suc (length ls) = omega arith in
            λ i. record { input = left; line = z i; pending = none; frames = s.frames; calls = s.calls; shared = sharing s.shared copied; events = s.events; tally = s.tally }

        -- the line that begins with the name is read and dropped, whatever its length
        pub copies_until : begins name (up_to m.source l) ≡ true → copy_input m room ch name s ≡ running (moved_further s (suc (length ls)) left copied)
        unfolding copy_lines
        copies_until b = begun (l ∷ left) e ∙ when_true _ _ b ∙ ap (λ (x : State). running x) past

        module _ (b : begins name (up_to m.source l) ≡ false) where
          -- a content that is too long ends the run with 11
          pub copy-long : is_too_long ch (up_to m.source l) ≡ true → copy_input m room ch name s ≡ ended 11 (moved_further s (suc (length ls)) left copied)
          unfolding copy_lines
          copy-long t = begun (l ∷ left) e ∙ when_false _ _ b ∙ when_true _ _ t ∙ ap (λ (x : State). ended 11 x) past

          -- else one without room ends it with 13, and nothing of it is written
          pub copy_full : is_too_long ch (up_to m.source l) ≡ false → LacksRoom room ch (up_to m.source l) copied → copy_input m room ch name s ≡ ended 13 (moved_further s (suc (length ls)) left copied)
          unfolding copy_lines
          copy_full t f =
              begun (l ∷ left) e ∙ when_false _ _ b ∙ when_false _ _ t
              ∙ ap (by_writing left (moved_further s (length ls) (l ∷ left) copied)) (lacks ch (up_to m.source l) (sharing s.shared copied) f) ∙ ap (λ (x : State). ended 13 x) past

  -- with an empty name no line is read
  pub copies-nothing : (ch : Channel) (s : State) → copy_input m room ch [] s ≡ running s
  unfolding copy_input
  copies-nothing ch s = refl
