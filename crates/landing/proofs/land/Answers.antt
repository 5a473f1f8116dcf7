-- land skips the lines that are left; any other turn and a fault stay as they are.
-- The check finds none of these goals alone, nor with the laws named at the function.
use mathlib.Core.Path.{ap, ◌∙◌}
use borrow.Author.Rules.{rules}
use Rattle.std.specs.Prelude.{Ok}
use Rattle.landing.proofs.Leaves.{turns_fault, turns_back, turns_else}
use Rattle.landing.proofs.land.Goals as goal

pub returns-in_err-turn : goal.returns-in_err-turn
returns-in_err-turn c = turns_fault c.in_err-turn.was (search rules)

pub returns-in-Back : goal.returns-in-Back
returns-in-Back c = turns_back (c.in_ok-turn.was ∙ ap Ok c.in-Back.is) c.land_skip.ensures

pub returns-in-Continues : goal.returns-in-Continues
returns-in-Continues c = turns_else c.in_ok-turn.was c.in-Continues.is
