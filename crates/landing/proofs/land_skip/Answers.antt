-- land_skip goes on where the skip lands, or ends the run where it ends inside an iteration.
-- The check finds neither goal alone, nor with the laws named at the function.
use mathlib.Core.Path.{ap, ◌∙◌}
use borrow.Author.Rules.{rules}
use Rattle.std.specs.Prelude.{Ok}
use Rattle.landing.proofs.Leaves.{lands_on, lands_badly}
use Rattle.landing.proofs.land_skip.Goals as goal

pub returns-in-Landed : goal.returns-in-Landed
returns-in-Landed c = lands_on c.pass_over.ensures (c.in_ok-next.was ∙ ap Ok c.in-Landed.is) c.move_to.ensures

pub returns-in_err-next : goal.returns-in_err-next
returns-in_err-next c = lands_badly c.pass_over.ensures c.in_err-next.was (search rules)
