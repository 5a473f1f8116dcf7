-- repeat begins as many passes as the value says, or ends the run with 15.
-- The check finds none of these goals alone, nor with the laws named at the function.
use Rattle.finish.proofs.Iterating.{repeats, repeats_fault}
use Rattle.finish.proofs.repeat.Goals as goal

pub returns-in_err-v : goal.returns-in_err-v
returns-in_err-v c = repeats_fault c.value.ensures c.ok_or.ensures.value c.in_err-v.was c.from_residual.ensures.1

pub returns : goal.returns
returns c = repeats c.value.ensures c.ok_or.ensures.value c.in_ok-v.was c.start_repeat.ensures
