-- has_byte is std's test of each byte.
-- The check does not find this goal alone, nor with the law named at the function.
use Rattle.scan.proofs.Lines.{any_has}
use Rattle.scan.proofs.has_byte.Goals as goal
use mathlib.Core.Path.{◌∙◌}

pub returns : goal.returns
returns c = record { is = c.contains.ensures.value ∙ any_has c.args.b c.args.s.now }
