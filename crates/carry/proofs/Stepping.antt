-- Each way through step: the call is left, the run ends, or a code line is carried out.
use mathlib.Core.Path.{◌≡◌, refl, sym, ap, ◌∙◌, subst}
use mathlib.Core.Bool.{true}
use mathlib.Core.Option.{none}
use mathlib.Core.List.{[], ◌∷◌}
use Prim.Native.Nat.{ℕ, suc, ◌-◌, ◌≤◌, ◌<◌}
use native.Mathlib.Omega.{arith}
use lib.ListN.{length}
use Rattle.model.specs.declared.Marks.{Marks}
use Rattle.model.specs.declared.Effect.{Effect}
use Rattle.model.specs.declared.Effect.TheVariants.{Opens}
use Rattle.model.specs.Text.{Bytes, part}
use Rattle.model.specs.Code.{parse, effect}
use Rattle.model.specs.Load.{body_at}
use Rattle.model.specs.Report.{Tally, no_lines}
use Rattle.model.specs.Machine.{Frame, Step, Next, resume_at, carry_out, Outputs}
use Rattle.model.proofs.Nesting.{Passing, passing, nested_few}
use Rattle.model.proofs.Frames.{NextOk, carry_out-nested, stepped-nested}
use Rattle.model.proofs.Choices.{false-not-true}
use Rattle.std.specs.Prelude.{Option, Some, None, Ok, Err}
use Rattle.faults.specs.declared.RunFault.TheVariants.{NoFuel}
use Rattle.scan.specs.declared.Line.{Line}
use Rattle.scan.specs.Lines.{CodeAt}
use Rattle.scan.proofs.Places.{code_line, code_over}
use Rattle.state.specs.declared.State.{State}
use Rattle.state.specs.State.{shared_of, state_of, counted_event, Sound}
use Rattle.call.specs.declared.Text.{Text}
use Rattle.call.specs.declared.Call.{Call}
use Rattle.call.specs.Call.{text_of, frame_of}
use Rattle.call.specs.Params.{Moves}
use Rattle.call.proofs.Loops.{frame_depth}
use Rattle.answer.specs.declared.Turn.TheVariants.{Back}
use Rattle.answer.specs.Answers.{Answer, next_of, comes_to, rooms_of}
use Rattle.answer.specs.Kept.{Open, Comes}
use Rattle.answer.proofs.Following.{follows_itself}
use Rattle.answer.proofs.Coming.{comes_as}
use Rattle.answer.proofs.Expansion.{stepped_at, skip-none, breaks_with, settle-same, settle-nested, next-nested}
use Rattle.carry.specs.Carries.{Steps}
use Rattle.carry.proofs.Carrying.{built-short, Carries}
use Rattle.carry.proofs.Events.{closes, code_spent, begins}

-- an event is counted
pub counted_sound : {text : Bytes} {s x : State} {o : Outputs} → Sound text s o → 0 < s.fuel → x ≡ counted_event s → Sound text x o
counted_sound {text} {o = o} h k e =
    subst (λ (y : State). Sound text y o) (sym e)
    (record { within = h.within; lines = h.lines; written = h.written; second = h.second; symbols = h.symbols; calls = omega (arith, h.calls); total = omega (arith, h.total) })

-- a call that moves has as many iterations open
moved_depth : {c : Call} {next : ℕ} {r : Call} → Moves c next r → r.depth ≡ c.depth
unfolding resume_at
moved_depth {c} {next} {r} g =
    let m : Marks = record { source = 0; placeholder = 0; code = 0; escape = 0; blank = 0; left = 0; plus = 0; minus = 0; times = 0; divide = 0; right = 0 } in
    sym (frame_depth m [] r) ∙ ap (λ (f : Frame). length f.loops) (g.frame m []) ∙ frame_depth m [] c

module _ {m : Marks} {text : Bytes} {c : Call} {x : Option Line} (is_open : Open m text c) (code : CodeAt m text c.next x) where
  -- no fifth iteration is opened
  pub few_open : {line : Line} {c₁ : Call} → x ≡ Some line → Moves c line.next c₁ → effect m (part text c.next line.end) ≡ Opens → c₁.depth < 4
  few_open {line} there moves e =
      let n = length (frame_of m text c).loops in
      let p : Passing m n (effect m (part text c.next line.end)) (body_at m text line.next) = passing m n _ _ (rw (code_line code there).is at is_open.nested.lines) in
      let f : suc n ≤ 4 = nested_few m (suc n) (body_at m text line.next) (subst (λ (k : Effect). Passing m n k (body_at m text line.next)) e p) in
      omega (arith, frame_depth m text c, moved_depth moves)

  module _ {s : State} {o : Outputs} (sound : Sound text s o) (b : Text) {r : Answer} where
    -- no code line is left
    pub steps_back : x ≡ None → r ≡ Ok (Back 0) → Steps m text c s o (text_of b) r s c o
    unfolding next_of
    steps_back e er = subst (λ (x : Answer). Steps m text c s o (text_of b) x s c o) (sym er) record {
      follows = follows_itself sound;
      less = λ f. false-not-true (sym f);
      stays = λ f. false-not-true (sym f);
      short = built-short b;
      same = λ t marks fs y. closes text y s o (rooms_of o) t (frame_of m text c) fs (code_over code e)
          ∙ ap (comes_to s.fuel (rooms_of o) t) (sym (skip-none m text fs y s o));
    }

    -- no fuel is left
    pub steps_spent : {line : Line} → x ≡ Some line → s.fuel ≡ 0 → r ≡ Err NoFuel → Steps m text c s o (text_of b) r s c o
    unfolding next_of
    steps_spent {line} e spent er = subst (λ (x : Answer). Steps m text c s o (text_of b) x s c o) (sym er) record {
      follows = follows_itself sound;
      less = λ f. false-not-true (sym f);
      stays = λ f. false-not-true (sym f);
      short = built-short b;
      same = λ t marks fs y. code_spent text y s o (rooms_of o) t (frame_of m text c) fs (part text c.next line.end) (body_at m text line.next) (code_line code e).is spent
          ∙ sym (breaks_with s.fuel (rooms_of o) t text NoFuel [] y s o);
    }

  module _ (s : State) (b : Text) {line : Line} {c₁ : Call} {x' : State} {o : Outputs} {r : Answer} {s' : State} {c' : Call} {o' : Outputs} (there : x ≡ Some line) (some_fuel : 0 < s.fuel) (moves : Moves c line.next c₁)
      (ex : x' ≡ counted_event s) (carries : Carries m text (part text c.next line.end) c₁ x' o (text_of b) r s' c' o') where
    abbrev f : Frame
    f = frame_of m text c

    abbrev content : Bytes
    content = part text c.next line.end

    -- the step of the code line
    abbrev p : Step
    p = carry_out (rooms_of o) m (parse m true content) (resume_at f f.loops (body_at m text line.next)) (shared_of s o)

    came : Comes m text p (counted_event s) o (text_of b) r s' c' o'
    came = comes_as
        (ap (λ (g : Frame). carry_out (rooms_of o) m (parse m true content) g (shared_of s o)) (sym (moves.frame m text)))
        (subst (λ (y : State). Carries m text content c₁ y o (text_of b) r s' c' o') ex carries).comes

    next_ok : (y : Tally) → NextOk m (next_of m text [] y r c' s' (text_of b) o')
    next_ok y =
        subst (NextOk m) (came.same [] y)
        (settle-nested m _ (stepped-nested m [] p (state_of text none [] y (counted_event s) o')
        (carry_out-nested m (rooms_of o) content (body_at m text line.next) f (shared_of s o) is_open.nested.around (rw (code_line code there).is at is_open.nested.lines)) tt))

    -- the code line is carried out
    pub steps_on : Steps m text c s o (text_of b) r s' c' o'
    steps_on =
        let stays = came.stays in
        record {
          follows = record { sound = came.sound; from = stays.from; fuel = omega (arith, stays.fuel); extends = record { first = came.extends.first; second = came.extends.second } };
          less = λ _. omega (arith, stays.fuel);
          stays = λ e. record { placed = came.placed; nested = next-nested m text r [] (no_lines []) c' s' (text_of b) o' (next_ok (no_lines [])) e };
          short = built-short b;
          same = λ t marks fs y.
              begins text y s o (rooms_of o) t f fs content (body_at m text line.next) (code_line code there).is m marks some_fuel
              ∙ ap (λ (z : Next). comes_to (s.fuel - 1) (rooms_of o) t z)
              (stepped_at m text (counted_event s) (counted_event s) refl refl refl refl fs (f ∷ fs) y p o o')
              ∙ settle-same (s.fuel - 1) (rooms_of o) t _
              ∙ (λ i. comes_to (sym stays.fuel i) (rooms_of o) t (came.same fs y i));
        }
