-- step_over: a code line passed over, by its effect.
-- The check finds none of these goals alone, nor with the laws named at the function.
use Rattle.body.proofs.Laws.{step_stays, step_opens, step_closes, step_shuts, step_owns}
use Rattle.body.proofs.step_over.Goals as goal

pub returns-in-None : goal.returns-in-None
returns-in-None c = search (step_shuts, c.in-None.ensures)

pub returns-in-Malformed : goal.returns-in-Malformed
returns-in-Malformed c = search step_stays

pub returns-in-Opens : goal.returns-in-Opens
returns-in-Opens c = search step_opens

pub returns-in-Some-checked_sub : goal.returns-in-Some-checked_sub
returns-in-Some-checked_sub c = search (step_closes, c.in-Some-checked_sub.ensures)

pub returns-in-Owns : goal.returns-in-Owns
returns-in-Owns c = search step_owns
