-- skip_by skips by the parameter's value, or ends the run with 15 where it has none.
-- The check finds neither goal alone, nor with the laws named at the function.
use borrow.Author.Rules.{rules}
use Rattle.skip.proofs.Skipping.{skips_by, skips_fault}
use Rattle.skip.proofs.skip_by.Goals as goal

pub returns-in_err-v : goal.returns-in_err-v
returns-in_err-v c = skips_fault c.param_value.ensures c.in_err-v.was (search rules)

pub returns : goal.returns
returns c = skips_by c.param_value.ensures c.in_ok-v.was c.skip_lines.ensures
