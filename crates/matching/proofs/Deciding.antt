-- How an offered line is decided that would open a call too many. The proof of decide is found without it.
use mathlib.Core.Path.{◌≡◌, refl, sym, ◌∙◌}
use Prim.Native.Nat.{ℕ}
use Rattle.std.specs.Prelude.{Option, Some, None, Result, Err}
use Rattle.model.specs.Text.{Bytes}
use Rattle.faults.specs.declared.RunFault.{RunFault}
use Rattle.faults.specs.declared.RunFault.TheVariants.{DeepCall}
use Rattle.fit.specs.declared.Reading.{Reading}
use Rattle.state.specs.declared.State.{State}
use Rattle.state.specs.State.{counted_event}
use Rattle.matching.specs.Matches.{Decides}

module _ {c : Option Reading} {line : Bytes} {depth : ℕ} {s : State} {o : Bytes} {r : Result Unit RunFault} where
  module _ {t : State} (some_fuel : ¬ (s.fuel ≡ 0)) (et : t ≡ counted_event s) where
    -- a call more is one too many
    pub decides_deep : {x : Reading} → c ≡ Some x → depth ≡ 12 → r ≡ Err DeepCall → Decides c line depth s o r t o
    decides_deep {x} f d h = record {
      spent = λ e. absurd (some_fuel e);
      writes = λ _ g. let z : None ≡ Some x = sym g ∙ f in cc;
      deep = λ _ _ _ _. (h, et, refl);
      opens = λ _ _ _ g. absurd (g d);
    }
