-- Each way to end a code line, as finish_code takes it.
use mathlib.Core.Path.{◌≡◌, refl, sym, ap, ◌∙◌, subst}
use mathlib.Core.Bool.{Bool}
use Prim.Native.Nat.{ℕ, ◌+◌, ◌≤◌, ◌<◌}
use native.Mathlib.Omega.{arith}
use Rattle.std.specs.Prelude.{Result, Ok, Err}
use Rattle.faults.specs.declared.RunFault.{RunFault}
use Rattle.model.specs.declared.Marks.{Marks}
use Rattle.model.specs.declared.Channel.{Channel}
use Rattle.model.specs.declared.Comparison.{Comparison}
use Rattle.model.specs.Text.{Bytes, part, same}
use Rattle.model.specs.Code as Code
use Rattle.model.specs.Code.{effect_of}
use Rattle.model.proofs.Text.{part_most, part-drop}
use Rattle.model.specs.Value.{value_of}
use Rattle.model.specs.Machine.{Frame, Step, param, continues, offers, leaves, state_with, finish, stepped, skip_by, skip_if, skip_compared, wanted, write_layout, start_repeat, Outputs}
use Rattle.code.specs.declared.Ending.{Ending}
use Rattle.code.specs.declared.Ending.TheVariants.{Offer, Assign, Iterate, Stop, Write, Layout, Copy, Save, Skip, SkipText, SkipValue, Repeat, Again, Leave, Malformed}
use Rattle.code.specs.Tokens.{Parameter}
use Rattle.state.specs.declared.State.{State}
use Rattle.state.specs.State.{shared_of, Sound}
use Rattle.call.specs.declared.Call.{Call}
use Rattle.call.specs.Call.{frame_of, Placed}
use Rattle.call.specs.Params.{Sets}
use Rattle.iterate.specs.Iterate.{pass_step, StartsPass, EndsPass}
use Rattle.answer.specs.declared.Turn.TheVariants.{Continues, Offers, Back, Ends}
use Rattle.answer.specs.Answers.{Answer, goes_on, settle, next_of, rooms_of}
use Rattle.answer.specs.Kept.{Comes}
use Rattle.answer.proofs.Following.{both_none, stays_same}
use Rattle.answer.proofs.Coming.{comes_as, came_on, came_end, came_fault}
use Rattle.answer.proofs.Expansion.{skip-none}
use Rattle.write.specs.Output.{Writes}
use Rattle.write.proofs.Lines.{wrote_on}
use Rattle.finish.specs.Leaves.{Saves}
use Rattle.copying.specs.Copies.{CopiesInput}
use Rattle.carry.specs.Carries.{ReadyToFinish, Finishes}

-- ---- what the leaves ask

module _ {code : Bytes} {c : Call} {k : Ending} {line : Bytes} (y : ReadyToFinish code c k line) where
  at_ending : {j : Ending} → k ≡ j → ReadyToFinish code c j line
  at_ending e = subst (λ (j : Ending). ReadyToFinish code c j line) e y

  pub iterate_parameter : {d p : ℕ} → k ≡ Iterate d p → Parameter d
  iterate_parameter e = (at_ending e).ranged.0

  pub iterate_depth : {d p : ℕ} → k ≡ Iterate d p → c.depth < 4
  unfolding effect_of
  iterate_depth e = (at_ending e).depth refl

  pub repeat_depth : k ≡ Repeat → c.depth < 4
  unfolding effect_of
  repeat_depth e = (at_ending e).depth refl

-- its delimiters start within the code line
pub iterate_within : (text : Bytes) (a b : ℕ) {c : Call} {k : Ending} {line : Bytes} {d p : ℕ} → ReadyToFinish (part text a b) c k line → k ≡ Iterate d p → a ≤ b → a + p ≤ b
iterate_within text a b y e h = omega (arith, (at_ending y e).ranged.1, part_most text a b)

-- ---- what they come to

-- what is done, and then the call goes on; or a fault ends the run
module _ {d : Result Unit RunFault} {r : Answer} where
  pub went_on : {u : Unit} → d ≡ Ok u → r ≡ Ok Continues → r ≡ goes_on d
  went_on e f = f ∙ ap goes_on (sym e)

  pub broke_off : {fault : RunFault} → d ≡ Err fault → r ≡ Err fault → r ≡ goes_on d
  broke_off e f = f ∙ ap goes_on (sym e)

done_as : {x r : Answer} {m : Marks} {text : Bytes} {p : Step} {s : State} {o : Outputs} {b : Bytes} {s' : State} {c' : Call} {o' : Outputs} → r ≡ x → Comes m text p s o b x s' c' o'
    → Comes m text p s o b r s' c' o'
done_as {m = m} {text} {p} {s} {o} {b} {s'} {c'} {o'} z f = subst (λ (y : Answer). Comes m text p s o b y s' c' o') (sym z) f

-- a pass: its call goes on, or a fault ends the run
pass_comes : (d : Result Unit RunFault) {m : Marks} {text : Bytes} {c : Call} {s : State} {o : Outputs} {b : Bytes} {t : Step} → Sound text s o → Placed text c
    → t ≡ pass_step m text d c (shared_of s o) → Comes m text t s o b (goes_on d) s c o
unfolding pass_step
pass_comes (Ok u) h q e = came_on h q refl e
pass_comes (Err fault) h q e = came_fault h q refl e

module _ {m : Marks} {text code : Bytes} {c : Call} {k : Ending} {line : Bytes} {s : State} {o : Outputs} {r : Answer} (h : Sound text s o) (q : Placed text c) where
  ends_as : {j : Ending} {s' : State} {c' : Call} {o' : Outputs} → k ≡ j → Finishes m text code c j line s o r s' c' o' → Finishes m text code c k line s o r s' c' o'
  ends_as {s' = s'} {c'} {o'} e f = subst (λ (j : Ending). Finishes m text code c j line s o r s' c' o') (sym e) f

  pub ends_offer : k ≡ Offer → r ≡ Ok Offers → Finishes m text code c k line s o r s c o
  unfolding finish settle next_of stepped state_with
  ends_offer e f = ends_as e (record {
    comes = subst (λ (x : Answer). Comes m text (offers line (frame_of m text c) (shared_of s o)) s o line x s c o) (sym f)
        (record { same = λ fs _. refl; sound = h; placed = q; stays = stays_same s; extends = both_none h });
  })

  pub ends_assign : {d : ℕ} {c' : Call} → k ≡ Assign d → Sets c d line c' → r ≡ Ok Continues → Finishes m text code c k line s o r s c' o
  unfolding finish
  ends_assign e g f = ends_as e (record { comes = came_on h (g.placed text q) f (ap (λ (x : Frame). continues x (shared_of s o)) (sym (g.frame m text))) })

  pub ends_stop : k ≡ Stop → r ≡ Ok Ends → Finishes m text code c k line s o r s c o
  unfolding finish
  ends_stop e f = ends_as e (record { comes = came_end h q f refl })

  pub ends_leave : k ≡ Leave → r ≡ Ok (Back 0) → Finishes m text code c k line s o r s c o
  unfolding finish settle next_of stepped state_with
  ends_leave e f = ends_as e (record {
    comes = subst (λ (x : Answer). Comes m text (leaves (shared_of s o)) s o line x s c o) (sym f)
        (record { same = λ fs y. sym (skip-none m text fs y s o); sound = h; placed = q; stays = stays_same s; extends = both_none h });
  })

  pub ends_malformed : k ≡ Malformed → r ≡ Ok Continues → Finishes m text code c k line s o r s c o
  unfolding finish
  ends_malformed e f = ends_as e (record { comes = came_on h q f refl })

  -- a skip, a layout and an iteration, by what each comes to
  module _ {c' : Call} where
    pub ends_skip : k ≡ Skip → Comes m text (skip_by (value_of m s.store (param (frame_of m text c) 1)) (frame_of m text c) (shared_of s o)) s o line r s c' o
        → Finishes m text code c k line s o r s c' o
    unfolding finish
    ends_skip e f = ends_as e (record { comes = f })

    pub ends_text : {w : Bool} → k ≡ SkipText w
        → Comes m text (skip_if m (wanted w (same (param (frame_of m text c) 1) (param (frame_of m text c) 2))) (frame_of m text c) (shared_of s o)) s o line r s c' o
        → Finishes m text code c k line s o r s c' o
    unfolding finish
    ends_text e f = ends_as e (record { comes = f })

    pub ends_value : {j : Comparison} → k ≡ SkipValue j
        → Comes m text (skip_compared m j (value_of m s.store (param (frame_of m text c) 1)) (value_of m s.store (param (frame_of m text c) 2)) (frame_of m text c) (shared_of s o)) s o line r s c' o
        → Finishes m text code c k line s o r s c' o
    unfolding finish
    ends_value e f = ends_as e (record { comes = f })

    pub ends_layout : {ch : Channel} {x : Answer} {s' : State} {o' : Outputs} → k ≡ Layout ch
        → Comes m text (write_layout (rooms_of o) m ch (frame_of m text c).next (frame_of m text c) (shared_of s o)) s o line x s' c' o' → r ≡ x → Finishes m text code c k line s o r s' c' o'
    unfolding finish
    ends_layout e f z = ends_as e (record { comes = done_as z f })

    pub ends_repeat : {x : Answer} → k ≡ Repeat → Comes m text (start_repeat m (value_of m s.store line) (frame_of m text c) (shared_of s o)) s o line x s c' o → r ≡ x
        → Finishes m text code c k line s o r s c' o
    unfolding finish
    ends_repeat e f z = ends_as e (record { comes = done_as z f })

  -- those after which the call goes on
  module _ {d : Result Unit RunFault} where
    pub ends_again : {c' : Call} → k ≡ Again → EndsPass m text c d c' → r ≡ goes_on d → Finishes m text code c k line s o r s c' o
    unfolding finish
    ends_again e f z = ends_as e (record { comes = done_as z (pass_comes d h f.placed (f.step (shared_of s o))) })

    pub ends_write : {ch : Channel} {s' : State} {o' : Outputs} → k ≡ Write ch → Writes ch line s o d s' o' → r ≡ goes_on d → Finishes m text code c k line s o r s' c o'
    unfolding finish
    ends_write e f z = ends_as e (record { comes = done_as z (wrote_on h q f) })

    pub ends_copy : {ch : Channel} {s' : State} {o' : Outputs} → k ≡ Copy ch → CopiesInput m text ch c s o d s' o' → r ≡ goes_on d → Finishes m text code c k line s o r s' c o'
    unfolding finish
    ends_copy e f z = ends_as e (record { comes = done_as z (f.comes line h) })

    pub ends_save : {s' : State} → k ≡ Save → Saves c s d s' → r ≡ goes_on d → Finishes m text code c k line s o r s' c o
    unfolding finish
    ends_save e f z = ends_as e (record { comes = done_as z (f.comes m text o line q h) })

pub ends_iterate : (a b : ℕ) {m : Marks} {text : Bytes} {c : Call} {k : Ending} {line : Bytes} {s : State} {o : Outputs} {r : Answer} → Sound text s o → Placed text c
    → {i p : ℕ} {d : Result Unit RunFault} {c' : Call} → k ≡ Iterate i p → StartsPass m text c i line (a + p) b d c' → r ≡ goes_on d
    → Finishes m text (part text a b) c k line s o r s c' o
unfolding finish
ends_iterate a b {m} {text} {c} {line = line} {s} {o} h q {i} {p} {d} e f z = ends_as h q e (record {
  comes = comes_as (ap (λ (x : Bytes). finish (rooms_of o) m (Code.iterate i x) line (frame_of m text c) (shared_of s o)) (part-drop text a b p))
      (done_as z (pass_comes d h f.placed (f.step (shared_of s o))));
})
