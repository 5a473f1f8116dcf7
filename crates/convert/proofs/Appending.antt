-- The text that a part adds to a line.
use mathlib.Core.Path.{◌≡◌, sym, ap, subst}
use mathlib.Core.List.{[], ◌∷◌}
use Prim.Native.Nat.{ℕ}
use Rattle.std.specs.Prelude.{Option, Some, None, Result}
use Rattle.faults.specs.declared.RunFault.{RunFault}
use Rattle.model.specs.Text.{Bytes}
use Rattle.pass.specs.Pass.{delimiter_bytes}
use Rattle.call.specs.declared.Text.{Text}
use Rattle.call.specs.Line.{Appends}

-- one text for another
module _ {x y : Text} {a : Result Unit RunFault} where
  pub appends_as : {s t : Bytes} → s ≡ t → Appends x s a y → Appends x t a y
  appends_as e p = subst (λ (s : Bytes). Appends x s a y) e p

  pub appends_delimiter : {o : Option ℕ} {b : ℕ} → o ≡ Some b → Appends x (b ∷ []) a y → Appends x (delimiter_bytes o) a y
  unfolding delimiter_bytes
  appends_delimiter e p = appends_as (sym (ap delimiter_bytes e)) p

  -- no delimiter adds nothing
  pub appends_none : {o : Option ℕ} → o ≡ None → Appends x [] a y → Appends x (delimiter_bytes o) a y
  unfolding delimiter_bytes
  appends_none e p = appends_as (sym (ap delimiter_bytes e)) p
