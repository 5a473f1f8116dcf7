-- save ends the run with 19 where the store is full.
-- The check does not find this goal alone, nor with the law named at the function.
use Rattle.finish.proofs.Storing.{saves_full}
use Rattle.finish.proofs.save.Goals as goal

pub returns-in_err-put : goal.returns-in_err-put
returns-in_err-put c = saves_full c.param.ensures c.param-2.ensures c.put.ensures c.in_err-put.was c.from_residual.ensures.1
