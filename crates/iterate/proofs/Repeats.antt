-- Counted iterations: a signed number as a number of passes, and how they begin.
use mathlib.Core.Path.{◌≡◌, refl, sym, ap, ◌∙◌}
use mathlib.Core.Option.{some}
use mathlib.Core.List.{List}
use Prim.Native.Nat.{ℕ, zero, suc, ◌-◌, ◌≤◌, ◌<◌}
use native.Mathlib.Omega.{arith}
use lib.IntN.{ℤ, pos, negsuc, nat_abs}
use lib.Signed.{mag}
use mir.Val.{SFits}
use Rattle.std.specs.Prelude.{Result, Ok, Err}
use Rattle.std.specs.Result.{OkIff, result_unwrap_or}
use Rattle.std.specs.Int.{FitsUnsignedBits}
use Rattle.model.specs.declared.Marks.{Marks}
use Rattle.model.specs.Text.{Bytes}
use Rattle.model.specs.Machine.{Frame, Shared, continues, resume_at, start_repeat}
use Rattle.number.specs.Number.{width, end}
use Rattle.number.proofs.Signed.{read_back, told}
use Rattle.body.specs.Steps.{Leaves}
use Rattle.call.specs.declared.Kind.TheVariants as Kinds
use Rattle.call.specs.declared.Call.{Call}
use Rattle.call.specs.Call.{frame_of, Placed}
use Rattle.call.specs.Params.{Moves, Enters}
use Rattle.iterate.specs.Iterate.{pass_count, CountsPasses, StartsRepeat}

-- ---- count_passes

unwrapped : {E : Type 0} (v : ℤ) (r : Result ℕ E) → mag v < end → OkIff r (FitsUnsignedBits 64 v) (nat_abs v) → result_unwrap_or r 0 ≡ pass_count v
unfolding pass_count
unwrapped (pos n) (Ok x) h o = o.1
unwrapped (pos n) (Err e) h o = absurd (o (omega arith))
unwrapped (negsuc n) (Ok x) h o = absurd o.0
unwrapped (negsuc n) (Err e) h o = refl

pub counts : {E : Type 0} {v : ℤ} (r : Result ℕ E) {n : ℕ} → SFits width v → OkIff r (FitsUnsignedBits 64 (read_back v)) (nat_abs (read_back v)) → n ≡ result_unwrap_or r 0
    → CountsPasses v n
counts {v = v} r f o e = record { is = e ∙ unwrapped v r f.sfits (rw (told f) at o) }

-- ---- start_repeat

repeat_none : (m : Marks) (v : ℤ) (f : Frame) (w : Shared) → pass_count v ≡ 0 → start_repeat m (some v) f w ≡ start_repeat m (some (pos 0)) f w
unfolding pass_count start_repeat
repeat_none m (pos zero) f w e = refl
repeat_none m (pos (suc n)) f w e = absurd (omega arith)
repeat_none m (negsuc n) f w e = refl

repeat_some : (m : Marks) (v : ℤ) (f : Frame) (w : Shared) (n : ℕ) → pass_count v ≡ suc n → start_repeat m (some v) f w ≡ start_repeat m (some (pos (suc n))) f w
unfolding pass_count
repeat_some m (pos k) f w n e = ap (λ (j : ℕ). start_repeat m (some (pos j)) f w) e
repeat_some m (negsuc k) f w n e = absurd (omega arith)

-- an eF7 of value v in the call c, which becomes r: what StartsRepeat says, but for the parameters
pub record Begins (m : Marks) (text : Bytes) (c : Call) (v : ℤ) (r : Call) : Type 0 where
  pub step : (w : Shared) → start_repeat m (some v) (frame_of m text c) w ≡ continues (frame_of m text r) w
  pub placed : Placed text c → Placed text r

-- the value is handed to count_passes by its bits
module _ {m : Marks} {text : Bytes} {c : Call} {v : ℤ} {n : ℕ} (f : SFits width v) (k : CountsPasses (read_back v) n) where
  pub repeat_skips : {to : ℕ} {r : Call} → ¬ (1 ≤ n) → Leaves m text c.next to → Moves c to r → StartsRepeat m text c v r
  unfolding start_repeat
  repeat_skips {to} e o q = record {
    step = λ w.
        let g : Frame = frame_of m text c in
        repeat_none m v g w (ap pass_count (sym (told f)) ∙ sym k.is ∙ omega arith)
        ∙ ap (λ (f : Frame). continues f w) (sym (q.frame m text ∙ ap (λ (cs : List Bytes). resume_at g g.loops cs) (sym o.is)));
    placed = λ p. q.placed text p o.within;
    params = ap (λ (c : Call). c.params) q.is;
  }

  pub repeat_begins : {left : ℕ} {r : Call} → (1 ≤ n) × (left ≡ n - 1) → Enters c (Kinds.Count left) r → Begins m text c v r
  unfolding start_repeat
  repeat_begins {left} e q = record {
    step = λ w.
        let a = e.0 in
        let b = e.1 in
        repeat_some m v (frame_of m text c) w left (ap pass_count (sym (told f)) ∙ sym k.is ∙ omega arith) ∙ ap (λ (f : Frame). continues f w) (sym (q.frame m text));
    placed = λ p. q.placed text p tt;
  }

  -- and the parameters stay
  pub repeat_starts : {left : ℕ} {r : Call} → (1 ≤ n) × (left ≡ n - 1) → Enters c (Kinds.Count left) r → r.params ≡ c.params → StartsRepeat m text c v r
  repeat_starts e q params = let h = repeat_begins e q in record { step = h.step; placed = h.placed; params = params }
