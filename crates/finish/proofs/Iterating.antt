-- F7: a count of passes.
use mathlib.Core.Path.{◌≡◌, refl, ap, ◌∙◌, subst}
use Prim.Native.Nat.{ℕ}
use native.Mathlib.Omega.{arith}
use lib.IntN.{ℤ}
use mir.Val.{to_z, of_z}
use Rattle.std.specs.Prelude.{Result, Ok, Err, Some, None, IsErrAnd, ok_or}
use Rattle.std.proofs.Math.Option as Math
use Rattle.faults.specs.declared.RunFault.{RunFault}
use Rattle.faults.specs.declared.RunFault.TheVariants.{NoValue}
use Rattle.model.specs.declared.Marks.{Marks}
use Rattle.model.specs.Text.{Bytes}
use Rattle.model.specs.Machine.{start_repeat}
use Rattle.state.specs.declared.State.{State}
use Rattle.state.specs.State.{shared_of}
use Rattle.call.specs.declared.Call.{Call}
use Rattle.call.specs.Call.{frame_of}
use Rattle.number.specs.Number.{width, Valued, number_of, InRange}
use Rattle.number.proofs.Signed.{told_in}
use Rattle.value.specs.Reads.{Values}
use Rattle.iterate.specs.Iterate.{StartsRepeat}
use Rattle.answer.proofs.Coming.{came_on, came_fault}
use Rattle.answer.specs.Answers.{goes_on}
use Rattle.finish.specs.Leaves.{Repeats}

-- the value of an answer, or the fault in its place
valued_none : {v : Valued} {q : Result ℤ RunFault} {e : RunFault} → q ≡ ok_or v NoValue → q ≡ Err e → (v ≡ None) × (e ≡ NoValue)
valued_none {v = Some z} p f = let k : ◌≡◌ {A = ℕ} 0 1 = cc in absurd (omega arith)
valued_none {v = None} p f = (refl, cc)

valued_some : {v : Valued} {q : Result ℤ RunFault} {z : ℤ} → q ≡ ok_or v NoValue → q ≡ Ok z → v ≡ Some z
valued_some {v = Some z} p f = cc
valued_some {v = None} p f = let k : ◌≡◌ {A = ℕ} 0 1 = cc in absurd (omega arith)

module _ {m : Marks} {text : Bytes} {c : Call} {line : Bytes} {s : State} {v : Valued} (a : Values m s.store line v) {q : Result ℤ RunFault} (i : q ≡ ok_or v NoValue) where
  pub repeats_fault : {e : RunFault} {r : Result Unit RunFault} → q ≡ Err e → IsErrAnd r (λ f. f ≡ e) → Repeats m text c line s r c
  unfolding start_repeat
  repeats_fault {r = Ok u} f g = absurd g
  repeats_fault {r = Err e} f g =
      let k = valued_none i f in
      record {
        params = refl;
        kept = refl;
        comes = λ o b p h. came_fault h p (ap (λ (e : RunFault). goes_on (Err e)) (g ∙ k.1))
            (ap (λ (x : Math.Option ℤ). start_repeat m x (frame_of m text c) (shared_of s o)) (a.is ∙ ap number_of k.0));
      }

  -- a signed number is read back from its bits
  pub repeats : {z : ℤ} {c' : Call} → q ≡ Ok z → StartsRepeat m text c (to_z width (of_z width z)) c' → Repeats m text c line s (Ok tt) c'
  repeats {z} {c'} f g =
      let k = valued_some i f in
      let h : StartsRepeat m text c z c' = subst (λ (z : ℤ). StartsRepeat m text c z c') (told_in z (subst InRange k a.fits)) g in
      record {
        params = h.params;
        kept = tt;
        comes = λ o b p e. came_on e (h.placed p) refl
            (ap (λ (x : Math.Option ℤ). start_repeat m x (frame_of m text c) (shared_of s o)) (a.is ∙ ap number_of k) ∙ h.step (shared_of s o));
      }
