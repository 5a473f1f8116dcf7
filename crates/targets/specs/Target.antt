-- Which argument names a file that is to be written.
use Rattle.std.specs.Prelude.{ℕ, Option, None, Some}
use Rattle.targets.specs.declared.Target.{Target}

-- that argument, where there is one
abbrev pub named_by : {F : Type 0} → Option (Target F) → Option ℕ
named_by None = None
named_by (Some t) = Some t.name
