-- What a step of a code line comes to, as an answer.
use mathlib.Core.Path.{◌≡◌, refl, sym, ap, subst, ◌∙◌}
use Rattle.std.specs.Prelude.{Ok, Err}
use Rattle.faults.specs.declared.RunFault.{RunFault}
use Rattle.faults.specs.Numbers.{run_number}
use mathlib.Core.Option.{none}
use Rattle.model.specs.declared.Marks.{Marks}
use Rattle.model.specs.Text.{Bytes}
use Rattle.model.specs.Machine.{Step, continues, halts, state_with, stepped, Outputs}
use Rattle.state.specs.declared.State.{State}
use Rattle.state.specs.State.{shared_of, state_of, Sound}
use Rattle.call.specs.declared.Call.{Call}
use Rattle.call.specs.Call.{frame_of, Placed}
use Rattle.answer.specs.declared.Turn.TheVariants.{Continues, Ends}
use Rattle.answer.specs.Answers.{Answer, settle, next_of}
use Rattle.answer.specs.Kept.{Comes}
use Rattle.answer.proofs.Following.{both_none, stays_same}

-- ---- a step

-- the same of an equal step
pub comes_as : {m : Marks} {text : Bytes} {p p' : Step} {s : State} {o : Outputs} {b : Bytes} {r : Answer} {s' : State} {c' : Call} {o' : Outputs} → p' ≡ p → Comes m text p s o b r s' c' o'
    → Comes m text p' s o b r s' c' o'
comes_as {m} {text} {s = s} {o' = o'} e h = record {
  same = λ fs y. ap (λ (q : Step). settle (stepped m fs q (state_of text none fs y s o'))) e ∙ h.same fs y;
  sound = h.sound;
  placed = h.placed;
  stays = h.stays;
  extends = h.extends;
}

module _ {m : Marks} {text : Bytes} {c : Call} {s : State} {o : Outputs} {b : Bytes} {p : Step} {r : Answer} (h : Sound text s o) (q : Placed text c) where
  -- the call goes on, in the state as it is
  pub came_on : r ≡ Ok Continues → p ≡ continues (frame_of m text c) (shared_of s o) → Comes m text p s o b r s c o
  unfolding settle next_of stepped state_with
  came_on e f = subst (λ (x : Answer). Comes m text p s o b x s c o) (sym e) (comes_as f (record {
    same = λ fs y. refl;
    sound = h;
    placed = q;
    stays = stays_same s;
    extends = both_none h;
  }))

  -- the run ends as it should
  pub came_end : r ≡ Ok Ends → p ≡ halts 0 (shared_of s o) → Comes m text p s o b r s c o
  unfolding settle next_of stepped state_with
  came_end e f = subst (λ (x : Answer). Comes m text p s o b x s c o) (sym e) (comes_as f (record {
    same = λ fs y. refl;
    sound = h;
    placed = q;
    stays = stays_same s;
    extends = both_none h;
  }))

  -- a fault ends it
  pub came_fault : {k : RunFault} → r ≡ Err k → p ≡ halts (run_number k) (shared_of s o) → Comes m text p s o b r s c o
  unfolding settle next_of stepped state_with
  came_fault e f = subst (λ (x : Answer). Comes m text p s o b x s c o) (sym e) (comes_as f (record {
    same = λ fs y. refl;
    sound = h;
    placed = q;
    stays = stays_same s;
    extends = both_none h;
  }))
