-- F4 to F6: code lines are skipped.
use mathlib.Core.Path.{◌≡◌, refl, sym, ap, ap₂, subst, ◌∙◌}
use mathlib.Core.Bool.{Bool, true, false, beq}
use mathlib.Core.Option as Math
use mathlib.Core.Option.{none, some}
use Prim.Native.Nat.{ℕ}
use native.Mathlib.Omega.{arith}
use lib.IntN.{ℤ, pos, negsuc, nat_abs}
use mir.Val.{SFits}
use Rattle.model.specs.declared.Marks.{Marks}
use Rattle.model.specs.declared.Comparison.{Comparison}
use Rattle.model.specs.Text.{Bytes}
use Rattle.model.specs.Store.{Store}
use Rattle.model.specs.Value.{value_of}
use Rattle.model.specs.Machine.{skips, stepped, param, skip_by, compares, skip_if, skip_compared, wanted, Outputs}
use Rattle.model.proofs.Choices.{when_true, when_false}
use Rattle.state.specs.declared.State.{State}
use Rattle.state.specs.State.{shared_of, Sound}
use Rattle.call.specs.declared.Call.{Call}
use Rattle.call.specs.Call.{frame_of, Placed}
use Rattle.number.specs.Number.{width}
use Rattle.number.proofs.Signed.{read_back, told, told_in}
use Rattle.std.specs.Prelude.{Result, Ok, Err}
use Rattle.std.specs.Result.{OkIff}
use Rattle.std.specs.Int.{FitsUnsignedBits}
use Rattle.faults.specs.declared.RunFault.{RunFault}
use Rattle.faults.specs.declared.RunFault.TheVariants.{BadSkip, NoValue}
use Rattle.answer.specs.declared.Turn.TheVariants.{Continues}
use Rattle.answer.specs.Answers.{Answer}
use Rattle.answer.specs.Kept.{Comes}
use Rattle.answer.proofs.Following.{both_none, stays_same, only_itself}
use Rattle.answer.proofs.Coming.{comes_as, came_on, came_fault}
use Rattle.landing.specs.Landing.{LandsSkip}
use Rattle.skip.specs.Skips.{SkipsLines, HasValue, ParamValue, Agrees, SkipsBy, SkipsIf, SkipsText, SkipsValue}

-- ---- the value of a parameter

module _ {m : Marks} {c : Call} {d : ℕ} {es : Store} {r : Result ℤ RunFault} (p : ParamValue m c d es r) where
  has_value : {z : ℤ} → r ≡ Ok z → (text : Bytes) → value_of m es (param (frame_of m text c) d) ≡ some z
  has_value e = (subst (HasValue m c d es) e p.is).1

  -- it is read back from its bits
  told_value : {z : ℤ} → r ≡ Ok z → read_back z ≡ z
  told_value {z} e = told_in z (subst (HasValue m c d es) e p.is).0

  no_value : {e : RunFault} → r ≡ Err e → (e ≡ NoValue) × ((text : Bytes) → value_of m es (param (frame_of m text c) d) ≡ none)
  no_value e = subst (HasValue m c d es) e p.is

-- ---- a skip by a value

-- a skip that is landed is what its step comes to
lands_come : {m : Marks} {text : Bytes} {c : Call} {n : ℕ} {s : State} {o : Outputs} {b : Bytes} {r : Answer} {c' : Call} → Sound text s o → Placed text c → LandsSkip m text c n r c'
    → Comes m text (skips n (frame_of m text c) (shared_of s o)) s o b r s c' o
unfolding stepped
lands_come {s = s} {o} {b} h q l = record {
  same = λ fs y. l.same fs y b s o;
  sound = h;
  placed = l.placed q;
  stays = stays_same s;
  extends = both_none h;
}

-- the value is handed to the conversion by its bits
module _ {m : Marks} {text : Bytes} {c : Call} {v : ℤ} {r : Answer} {E : Type 0} (x : Result ℕ E) (f : SFits width v) (k : OkIff x (FitsUnsignedBits 64 (read_back v)) (nat_abs (read_back v))) where
  pub skips_negative : {e : E} → x ≡ Err e → r ≡ Err BadSkip → SkipsLines m text c v r c
  unfolding skip_by
  skips_negative {e} z g = by v f (subst (λ (y : Result ℕ E). OkIff y (FitsUnsignedBits 64 v) (nat_abs v)) z (rw (told f) at k))
    where
      by : (v : ℤ) → SFits width v → ¬ FitsUnsignedBits 64 v → SkipsLines m text c v r c
      by (pos n) f h = absurd (h (omega (arith, f.sfits)))
      by (negsuc n) f h = record { moves = only_itself; comes = λ s o b q i. came_fault i q g refl }

  pub skips-lines : {n : ℕ} {c' : Call} → x ≡ Ok n → LandsSkip m text c n r c' → SkipsLines m text c v r c'
  unfolding skip_by
  skips-lines {n} {c'} z l = by v (subst (λ (y : Result ℕ E). OkIff y (FitsUnsignedBits 64 v) (nat_abs v)) z (rw (told f) at k))
    where
      by : (v : ℤ) → FitsUnsignedBits 64 v × (n ≡ nat_abs v) → SkipsLines m text c v r c'
      by (pos i) h = record { moves = l.moves; comes = λ s o b q g. lands_come g q (subst (λ (j : ℕ). LandsSkip m text c j r c') h.1 l) }
      by (negsuc i) h = absurd (h.0)

module _ {m : Marks} {text : Bytes} {c : Call} {d : ℕ} {s : State} {v : Result ℤ RunFault} {r : Answer} where
  pub skips_by : {z : ℤ} {c' : Call} → ParamValue m c d s.store v → v ≡ Ok z → SkipsLines m text c (read_back z) r c' → SkipsBy m text c d s r c'
  skips_by p e f = record {
    moves = f.moves;
    comes = λ o b q h. comes_as (ap (λ (i : Math.Option ℤ). skip_by i (frame_of m text c) (shared_of s o)) (has_value p e text ∙ ap some (sym (told_value p e)))) (f.comes s o b q h);
  }

  pub skips_fault : {e : RunFault} → ParamValue m c d s.store v → v ≡ Err e → r ≡ Err e → SkipsBy m text c d s r c
  unfolding skip_by
  skips_fault p e g =
      let z = no_value p e in
      record { moves = only_itself; comes = λ o b q h. came_fault h q (g ∙ ap Err z.0) (ap (λ (i : Math.Option ℤ). skip_by i (frame_of m text c) (shared_of s o)) (z.1 text)) }

-- ---- where a test holds

module _ {m : Marks} {text : Bytes} {b : Bool} {c : Call} {s : State} {r : Answer} where
  pub skips_where : {c' : Call} → b ≡ true → SkipsBy m text c 3 s r c' → SkipsIf m text b c s r c'
  unfolding skip_if
  skips_where e f = record { moves = f.moves; comes = λ o line q h. comes_as (when_true _ _ e) (f.comes o line q h) }

  pub skips_nowhere : b ≡ false → r ≡ Ok Continues → SkipsIf m text b c s r c
  unfolding skip_if
  skips_nowhere e g = record { moves = only_itself; comes = λ o line q h. came_on h q g (when_false _ _ e) }

-- ---- texts

wanted-is : (b q : Bool) → beq q b ≡ wanted b q
unfolding wanted
wanted-is true true = refl
wanted-is true false = refl
wanted-is false true = refl
wanted-is false false = refl

pub skips_text : {m : Marks} {text : Bytes} {b q : Bool} {c : Call} {s : State} {r : Answer} {c' : Call} → Agrees c q → SkipsIf m text (beq q b) c s r c' → SkipsText m text b c s r c'
skips_text {m} {text} {b} {q} {c} {s} e g = record {
  moves = g.moves;
  comes = λ o line p h. comes_as (ap (λ (i : Bool). skip_if m i (frame_of m text c) (shared_of s o)) (sym (wanted-is b q ∙ ap (wanted b) (e.is m text)))) (g.comes o line p h);
}

-- ---- values

-- by what the two values are
compared : (m : Marks) (text : Bytes) (k : Comparison) (c : Call) (s : State) (o : Outputs) {i j : Math.Option ℤ} → value_of m s.store (param (frame_of m text c) 1) ≡ i
    → value_of m s.store (param (frame_of m text c) 2) ≡ j
    → skip_compared m k (value_of m s.store (param (frame_of m text c) 1)) (value_of m s.store (param (frame_of m text c) 2)) (frame_of m text c) (shared_of s o)
    ≡ skip_compared m k i j (frame_of m text c) (shared_of s o)
compared m text k c s o e f = ap₂ (λ (i j : Math.Option ℤ). skip_compared m k i j (frame_of m text c) (shared_of s o)) e f

module _ {m : Marks} {text : Bytes} {k : Comparison} {c : Call} {s : State} {v : Result ℤ RunFault} (p : ParamValue m c 1 s.store v) where
  pub no_first : {e : RunFault} {r : Answer} → v ≡ Err e → r ≡ Err e → SkipsValue m text k c s r c
  unfolding skip_compared
  no_first e g =
      let z = no_value p e in
      record { moves = only_itself; comes = λ o line q h. came_fault h q (g ∙ ap Err z.0) (compared m text k c s o (z.1 text) refl) }

  module _ {a : ℤ} (f : v ≡ Ok a) {u : Result ℤ RunFault} (n : ParamValue m c 2 s.store u) where
    pub no_second : {e : RunFault} {r : Answer} → u ≡ Err e → r ≡ Err e → SkipsValue m text k c s r c
    unfolding skip_compared
    no_second e g =
        let z = no_value n e in
        record { moves = only_itself; comes = λ o line q h. came_fault h q (g ∙ ap Err z.0) (compared m text k c s o (has_value p f text) (z.1 text)) }

    pub skips_value : {b : ℤ} {t : Bool} {r : Answer} {c' : Call} → u ≡ Ok b → t ≡ compares k (read_back a) (read_back b) → SkipsIf m text t c s r c' → SkipsValue m text k c s r c'
    unfolding skip_compared
    skips_value e i g = record {
      moves = g.moves;
      comes = λ o line q h. comes_as
          (compared m text k c s o (has_value p f text) (has_value n e text) ∙ ap (λ (x : Bool). skip_if m x (frame_of m text c) (shared_of s o)) (ap₂ (compares k) (sym (told_value p f)) (sym (told_value n e)) ∙ sym i))
          (g.comes o line q h);
    }
