-- A line is built, then its code line's end is done.
use mathlib.Core.Bool.{true}
use mathlib.Core.Path.{◌≡◌, ap, subst, ◌∙◌}
use Prim.Native.Nat.{ℕ, min, ◌≤◌, ◌<◌}
use native.Mathlib.Omega.{arith}
use lib.ListN.{length}
use Rattle.std.proofs.lemmas.List.{length-take}
use Rattle.std.specs.Prelude.{Result, Ok, Err, IsErrAnd}
use Rattle.faults.specs.declared.RunFault.{RunFault}
use Rattle.model.specs.declared.Marks.{Marks}
use Rattle.model.specs.declared.Effect.TheVariants.{Opens}
use Rattle.model.specs.Text.{Bytes}
use Rattle.model.specs.Code.{parse, effect}
use Rattle.model.specs.Machine.{Step, carry_out, Outputs}
use Rattle.code.specs.declared.Ending.{Ending}
use Rattle.state.specs.declared.State.{State}
use Rattle.state.specs.State.{shared_of, Sound}
use Rattle.call.specs.declared.Text.{Text}
use Rattle.call.specs.declared.Call.{Call}
use Rattle.call.specs.Call.{text_of, frame_of, Placed}
use Rattle.convert.specs.Added.{Keeps}
use Rattle.build.specs.Built.{Builds}
use Rattle.build.proofs.Callers.{builds_sound, builds_finish, built_ranged, built-effect, builds_halts}
use Rattle.answer.specs.Answers.{Answer, settle, rooms_of}
use Rattle.answer.specs.Kept.{Extends, Comes}
use Rattle.answer.proofs.Coming.{comes_as, came_fault}
use Rattle.answer.proofs.Expansion.{stepped_at}
use Rattle.carry.specs.Carries.{ReadyToFinish, Finishes}

-- no text has more than 200 bytes
pub built-short : (x : Text) → length (text_of x) ≤ 200
built-short x = omega (arith, length-take (min x.len 200) x.bytes)

-- r is what a code line comes to in the call c, with the line that it builds; s', c' and o' are the state, the call and the outputs then
pub record Carries (m : Marks) (text code : Bytes) (c : Call) (s : State) (o : Outputs) (line : Bytes) (r : Answer) (s' : State) (c' : Call) (o' : Outputs) : Type 0 where
  pub comes : Comes m text (carry_out (rooms_of o) m (parse m true code) (frame_of m text c) (shared_of s o)) s o line r s' c' o'

-- what comes of the state after building comes of the state before it
comes_from : {m : Marks} {text : Bytes} {p : Step} {s t : State} {o : Outputs} {line : Bytes} {r : Answer} {s' : State} {c' : Call} {o' : Outputs} → Keeps s t → Comes m text p t o line r s' c' o'
    → Comes m text p s o line r s' c' o'
comes_from {m} {text} {p} {s} {t} {o} {s' = s'} {o' = o'} k h = record {
  same = λ fs y. ap settle (stepped_at m text s t k.at k.line k.calls k.events fs fs y p o' o') ∙ h.same fs y;
  sound = h.sound;
  placed = h.placed;
  stays = record {
    from = omega (arith, h.stays.from, k.at);
    calls = h.stays.calls ∙ k.calls;
    events = h.stays.events ∙ k.events;
    fuel = h.stays.fuel ∙ k.fuel;
  };
  extends = record {
    first = subst (λ (n : ℕ). Extends o.first n o'.first s'.written) k.written h.extends.first;
    second = subst (λ (n : ℕ). Extends o.second n o'.second s'.second) k.second h.extends.second;
  };
}

module _ {m : Marks} {code : Bytes} {c : Call} {s : State} {line : Text} {x : Result Ending RunFault} {t : State} (g : Builds m code c s line x t) where
  module _ {k : Ending} (e : x ≡ Ok k) {l : Bytes} (n : l ≡ text_of line) where
    -- what the code line's end asks
    pub ready : (effect m code ≡ Opens → c.depth < 4) → ReadyToFinish code c k l
    ready d = record {
      ranged = built_ranged g e;
      depth = λ f. d (built-effect g e ∙ f);
      short = omega (arith, built-short line, ap (λ (y : Bytes). length y) n);
    }

    pub carries_finish : {text : Bytes} {o : Outputs} {r : Answer} {s' : State} {c' : Call} {o' : Outputs} → Finishes m text code c k l t o r s' c' o' → Carries m text code c s o (text_of line) r s' c' o'
    carries_finish {text} {o} {r} {s'} {c'} {o'} f = record {
      comes = comes_from g.keeps (comes_as (builds_finish g e text (rooms_of o) o) (subst (λ (y : Bytes). Finishes m text code c k y t o r s' c' o') n f).comes);
    }

  -- a fault met while building ends the run
  pub carries_halt : {f : RunFault} {text : Bytes} {o : Outputs} {r : Answer} → x ≡ Err f → Sound text s o → Placed text c → IsErrAnd r (λ y. y ≡ f) → Carries m text code c s o (text_of line) r t c o
  carries_halt {r = Ok y} z h q e = absurd e
  carries_halt {text = text} {o} {r = Err y} z h q e = record { comes = comes_from g.keeps (came_fault (builds_sound g h) q (ap Err e) (builds_halts g z text (rooms_of o) o)) }
