-- read_effect: what the line's ending does.
-- The check does not find this goal alone, nor with the law named at the function.
use Rattle.code.proofs.Lines.{effect_as}
use Rattle.code.proofs.read_effect.Goals as goal

pub returns : goal.returns
returns c = search effect_as
