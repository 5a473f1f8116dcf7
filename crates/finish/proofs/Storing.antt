-- F3: a text is stored.
use mathlib.Core.Path.{◌≡◌, refl, sym, ap, ap₂, subst, ◌∙◌}
use native.Mathlib.Omega.{arith}
use lib.ListN.{length}
use mathlib.Core.Bool.{Bool, true, false}
use Rattle.std.specs.Prelude.{Ok, Err, Result, IsErrAnd}
use Rattle.faults.specs.declared.RunFault.{RunFault}
use Rattle.faults.specs.declared.RunFault.TheVariants.{FullStore}
use Rattle.model.specs.declared.Marks.{Marks}
use Rattle.model.specs.Text.{Bytes}
use Rattle.model.specs.Store.{Store, put, within, memory_fault}
use Rattle.model.specs.Machine.{continues, param, with_store, save_text, stepped, state_with}
use Rattle.model.proofs.Choices.{when_true, when_false}
use Rattle.model.proofs.Sizes.{put_grows}
use Rattle.store.specs.declared.Full.{Full}
use Rattle.store.specs.Names.{PutsText, put_fault}
use Rattle.state.specs.declared.State.{State}
use Rattle.state.specs.State.{shared_of}
use Rattle.call.specs.declared.Call.{Call}
use Rattle.call.specs.Call.{frame_of}
use Rattle.call.specs.Params.{Reads}
use Rattle.answer.specs.Answers.{goes_on, settle, next_of}
use Rattle.answer.proofs.Following.{extends_none}
use Rattle.answer.proofs.Coming.{comes_as, came_fault}
use Rattle.finish.specs.Leaves.{Saves}

-- whether there was room
room_for : (q : Bool) → memory_fault q ≡ 0 → q ≡ true
room_for true h = refl
room_for false h = absurd (omega arith)

-- the parameters by their texts
renamed : {c : Call} {a b : Bytes} (es : Store) → Reads c 1 a → Reads c 2 b → (m : Marks) (text : Bytes) → put (param (frame_of m text c) 1) (param (frame_of m text c) 2) es ≡ put a b es
renamed es l k m text = ap₂ (λ (n t : Bytes). put n t es) (l.is m text) (k.is m text)

module _ {c : Call} {s : State} {a b : Bytes} {es : Store} {x : Result Unit Full} (l : Reads c 1 a) (k : Reads c 2 b) (p : PutsText s.store a b x es) where
  pub saves : x ≡ Ok tt → Saves c s (Ok tt) (record s { store = es })
  unfolding save_text with_store param settle next_of stepped state_with
  saves e = record {
    comes = λ m text o line q h.
        let room = ap within (renamed s.store l k m text) ∙ room_for _ (sym p.number ∙ ap put_fault e) in
        let stored = renamed s.store l k m text ∙ sym (p.done e) in
        let n = ap (λ (es : Store). length es) (p.done e) in
        let u = put_grows a b s.store in
        let d = h.symbols in
        comes_as (when_true _ _ room ∙ ap (λ (es : Store). continues (frame_of m text c) (with_store (shared_of s o) es)) stored) (record {
          same = λ fs y. refl;
          sound = record { within = h.within; lines = h.lines; written = h.written; second = h.second; symbols = omega arith; calls = h.calls; total = h.total };
          placed = q;
          stays = record { from = omega arith; calls = refl; events = refl; fuel = refl };
          extends = record { first = extends_none h.written; second = extends_none h.second };
        });
  }

  pub saves_full : {f : Full} {r : Result Unit RunFault} → x ≡ Err f → IsErrAnd r (λ e. e ≡ FullStore) → Saves c s r (record s { store = es })
  unfolding save_text param
  saves_full {r = Ok u} e z = absurd z
  saves_full {r = Err y} e z =
      subst (λ (es : Store). Saves c s (Err y) (record s { store = es })) (sym (p.full _ e).0)
      (record {
        comes = λ m text o line q h. came_fault h q (ap (λ (f : RunFault). goes_on (Err f)) z) (when_false _ _ (ap within (renamed s.store l k m text) ∙ (p.full _ e).1));
      })
