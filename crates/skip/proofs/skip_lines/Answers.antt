-- skip_lines skips as many lines as the value says, unless it is negative.
-- The check finds none of these goals alone, nor with the laws named at the function.
use Rattle.skip.proofs.Skipping.{skips_negative, skips-lines}
use mathlib.Core.Path.{refl}
use Rattle.skip.proofs.skip_lines.Goals as goal

pub returns-in_default : goal.returns-in_default
returns-in_default c = skips_negative _ c.ranges.v c.try_from.ensures c.in_default.is refl

pub returns : goal.returns
returns c = skips-lines _ c.ranges.v c.try_from.ensures c.in-Ok.is c.land_skip.ensures
