-- add_value: the value that is read is the one that is written.
-- The check finds none of these goals alone, nor with the laws named at the function.
use Rattle.convert.proofs.Adding.{value-fault, value_number}
use Rattle.convert.proofs.add_value.Goals as goal

pub returns-in_err-v : goal.returns-in_err-v
returns-in_err-v c = value-fault c.value.ensures c.ok_or.ensures.value c.in_err-v.was c.from_residual.ensures.1

pub returns : goal.returns
returns c = value_number c.value.ensures c.ok_or.ensures.value c.in_ok-v.was c.add_signed.ensures
