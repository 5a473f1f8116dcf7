-- run lends its own rows, which are long enough for what document 01 demands.
-- The check does not find this goal alone.
use Rattle.with_row.proofs.run.Goals as goal

pub returns-clause-follows_expansion : goal.returns-clause-follows_expansion
returns-clause-follows_expansion c = λ t loads legal. (c.run.ensures.holds_tree t loads legal).1
