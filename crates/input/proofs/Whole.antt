-- The part of the whole run's proof that speaks of no code: the invariant of the loop over the input, and each way through it.
use mathlib.Core.Path.{◌≡◌, refl, sym, ap, ◌∙◌, subst}
use mathlib.Core.Bool.{true, false}
use mathlib.Core.Option.{none, some}
use Rattle.std.specs.Prelude.{Ok, Err}
use Rattle.faults.specs.declared.RunFault.TheVariants.{LongInput}
use mathlib.Core.List.{List, []}
use Prim.Native.Nat.{ℕ, ◌+◌, ◌≤◌, ◌<◌}
use native.Mathlib.Omega.{arith}
use borrow.Author.Tests.{le-leb, lt-leb}
use lib.ListN.{length, drop_of_length-le}
use Rattle.model.specs.Text.{Bytes, part, lines}
use Rattle.model.specs.Load.{Loaded}
use Rattle.model.specs.Machine.{Rooms, Outputs, running, skip_in}
use Rattle.scan.specs.Lines.{line_at, ContentAt}
use Rattle.model.proofs.Choices.{false-not-true}
use Rattle.state.specs.declared.State.{State}
use Rattle.state.specs.State.{shared_of, state_of, Sound, with_input}
use Rattle.call.specs.declared.Call.{Call}
use Rattle.answer.specs.declared.Turn.{Turn}
use Rattle.answer.specs.declared.Turn.TheVariants.{Continues, Offers, Back, Ends}
use Rattle.answer.specs.Answers.{Answer, is_left, is_end, lines_back, settle, next_of, rooms_of, comes_to}
use Rattle.answer.specs.Kept.{ExtendsBoth}
use Rattle.answer.proofs.Following.{extends_more, rooms_kept}
use Rattle.answer.proofs.Expansion.{next_back, next_ends}
use Rattle.usage.specs.Counts.{Counts}
use Rattle.matching.specs.Book.{Basis, Book, tally_in}
use Rattle.cycle_laws.specs.Meets.{Meets}
use Rattle.input.specs.Expands.{DropsLines, Expands}
use Rattle.input.proofs.Reading.{input_over, input_read, input_long}

-- a call, where none matters
no_call : Call
no_call = record { number = 0; next = 0; params = []; iterations = []; depth = 0 }

-- a line that is done with leaves a call, and ends the run or skips lines
pub ends_else : (z : Turn) → is_left (Ok z) ≡ true → ((n : ℕ) → ¬ (z ≡ Back n)) → is_end (Ok z) ≡ true
ends_else Continues e h = false-not-true e
ends_else Offers e h = false-not-true e
ends_else (Back n) e h = absurd (h n refl)
ends_else Ends e h = refl

-- what the expansion comes to from s₀ on, it comes to from s on
pub record Expanding (w : Basis) (s₀ : State) (o₀ : Outputs) (cs₀ : List ℕ)
    (s : State) (o : Outputs) (cs : List ℕ) : Type 0 where
  pub sound : Sound w.text s o
  pub counted : Counts cs s.fuel
  pub extends : ExtendsBoth o₀ s₀ o s
  pub same : (t : Loaded) → Book w t
      → comes_to s₀.fuel (rooms_of o₀) t (running (state_of w.text none [] (tally_in t cs₀) s₀ o₀)) ≡ comes_to s.fuel (rooms_of o₀) t (running (state_of w.text none [] (tally_in t cs) s o))

-- the state with lines read, each with a byte at least, is sound
moved_sound : {text : Bytes} {s : State} {at line : ℕ} {o : Outputs} → Sound text s o → at ≤ length text → line + s.at ≤ s.line + at → Sound text (with_input s at line) o
moved_sound h k few = record {
  within = k;
  lines = omega (arith, h.lines);
  written = h.written;
  second = h.second;
  symbols = h.symbols;
  calls = h.calls;
  total = h.total;
}

-- and with one
pub read_sound : {text : Bytes} {s x : State} {mark end next : ℕ} {o : Outputs} → Sound text s o → ContentAt text mark s.at end next → x ≡ with_input s next (s.line + 1) → Sound text x o
read_sound h c e = rw e (moved_sound h c.within (omega (arith, c.ahead)))

-- v is what the lent parts are, which is w
module _ {v w : Basis} {s₀ : State} {o₀ : Outputs} {cs₀ : List ℕ} {s : State} {o : Outputs} {cs : List ℕ}
    (e : v ≡ w) (i : Expanding w s₀ o₀ cs₀ s o cs) where
  -- no input is left
  pub expands_over : length v.text ≤ s.at → Expands w s₀ o₀ cs₀ (Ok Ends) s o cs
  unfolding lines
  expands_over h = record {
    sound = i.sound;
    counted = i.counted;
    extends = i.extends;
    same = λ t b. i.same t b ∙ input_over (rooms_of o₀) w.marks w.text t (tally_in t cs) s o (ap lines (drop_of_length-le w.text (omega (arith, h, ap (λ (u : Basis). length u.text) e))));
  }

  module _ {end next : ℕ} {x : State} (read : ContentAt v.text v.marks.source s.at end next) (ex : x ≡ with_input s next (s.line + 1)) where
    content : ContentAt w.text w.marks.source s.at end next
    content = subst (λ (u : Basis). ContentAt u.text u.marks.source s.at end next) e read

    -- the line's content has over 200 bytes
    pub expands_long : 200 < length (part v.text s.at end) → Expands w s₀ o₀ cs₀ (Err LongInput) x o cs
    expands_long h = subst (λ (y : State). Expands w s₀ o₀ cs₀ (Err LongInput) y o cs) (sym ex) record {
      sound = read_sound i.sound content refl;
      counted = i.counted;
      extends = record { first = i.extends.first; second = i.extends.second };
      same = λ t b. i.same t b
          ∙ input_long (rooms_of o₀) w.marks w.text t (tally_in t cs) s o b.marks (line_at w.text s.at) (part w.text s.at end) next content.is content.content
          (lt-leb (length (part w.text s.at end)) 200 (subst (λ (u : Basis). 200 < length (part u.text s.at end)) e h));
    }

    module _ {r : Answer} {s' : State} {o' : Outputs} {cs' : List ℕ} (fits : length (part v.text s.at end) ≤ 200) (h : Meets w (some (part v.text s.at end)) [] 0 x o cs r s' o' cs') where
      short : length (part w.text s.at end) ≤ 200
      short = subst (λ (u : Basis). length (part u.text s.at end) ≤ 200) e fits

      k : Meets w (some (part w.text s.at end)) [] 0 (with_input s next (s.line + 1)) o cs r s' o' cs'
      k = subst (λ (y : State). Meets w (some (part w.text s.at end)) [] 0 y o cs r s' o' cs') ex (subst (λ (u : Basis). Meets w (some (part u.text s.at end)) [] 0 x o cs r s' o' cs') e h)

      line_same : (t : Loaded) → Book w t
          → comes_to s₀.fuel (rooms_of o₀) t (running (state_of w.text none [] (tally_in t cs₀) s₀ o₀)) ≡ comes_to s'.fuel (rooms_of o₀) t (next_of w.marks w.text [] (tally_in t cs') r no_call s' [] o')
      line_same t b = i.same t b
          ∙ input_read (rooms_of o₀) w.marks w.text t (tally_in t cs) s o b.marks (line_at w.text s.at) (part w.text s.at end) next content.is content.content (le-leb (length (part w.text s.at end)) 200 short)
          ∙ subst (λ (room : Rooms). comes_to s.fuel room t (running (state_of w.text (some (part w.text s.at end)) [] (tally_in t cs) (with_input s next (s.line + 1)) o))
          ≡ comes_to s'.fuel room t (next_of w.marks w.text [] (tally_in t cs') r no_call s' [] o'))
          (rooms_kept i.extends) (k.same t b [] refl no_call [])

      -- what is written since s₀
      written_on : (at line : ℕ) → ExtendsBoth o₀ s₀ o' (with_input s' at line)
      written_on at line = record { first = extends_more i.extends.first k.follows.extends.first; second = extends_more i.extends.second k.follows.extends.second }

      -- the run has ended with this line
      pub expands_ended : {a : Answer} → is_end r ≡ true → a ≡ r → Expands w s₀ o₀ cs₀ a s' o' cs'
      expands_ended end ea = subst (λ (y : Answer). Expands w s₀ o₀ cs₀ y s' o' cs') (sym ea) record {
        sound = k.follows.sound;
        counted = k.counted;
        extends = written_on s'.at s'.line;
        same = λ t b. line_same t b ∙ next_ends w.marks w.text r [] (tally_in t cs') no_call s' [] o' end s'.fuel (rooms_of o₀) t;
      }

      module _ {n : ℕ} {z : State} (er : r ≡ Ok (Back n)) (d : DropsLines v.text n s' z) where
        drops : DropsLines w.text (lines_back r) s' z
        drops = subst (λ (x : Answer). DropsLines w.text (lines_back x) s' z) (sym er) (subst (λ (u : Basis). DropsLines u.text n s' z) e d)

        -- the run goes on in the input
        pub expanding_on : Expanding w s₀ o₀ cs₀ z o' cs'
        unfolding settle skip_in
        expanding_on =
            let on : is_end r ≡ false = ap (λ (x : Answer). is_end x) er in
            let u = with_input s' z.at z.line in
            subst (λ (y : State). Expanding w s₀ o₀ cs₀ y o' cs') (sym drops.is) record {
              sound = moved_sound k.follows.sound drops.within drops.few;
              counted = k.counted;
              extends = written_on z.at z.line;
              same = λ t b. line_same t b ∙ ap (comes_to s'.fuel (rooms_of o₀) t) (next_back w.marks w.text r [] (tally_in t cs') no_call s' [] o' k.left on)
                  ∙ (λ j. comes_to u.fuel (rooms_of o₀) t (running (record {
                    input = sym drops.input j;
                    line = sym drops.line j;
                    pending = none;
                    frames = [];
                    calls = u.calls;
                    shared = shared_of u o';
                    events = u.events;
                    tally = tally_in t cs';
                  })));
            }
