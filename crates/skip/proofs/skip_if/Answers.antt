-- skip_if skips where the test holds, or goes on.
-- The check finds neither goal alone, nor with the laws named at the function.
use mathlib.Core.Path.{refl}
use Rattle.skip.proofs.Skipping.{skips_where, skips_nowhere}
use Rattle.skip.proofs.skip_if.Goals as goal

pub returns-then-holds : goal.returns-then-holds
returns-then-holds c = skips_where c.if-holds.true c.skip_by.ensures

pub returns-else-holds : goal.returns-else-holds
returns-else-holds c = skips_nowhere c.if-holds.false refl
