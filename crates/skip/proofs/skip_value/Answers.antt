-- skip_value values both parameters, then compares.
-- The check finds none of these goals alone, nor with the laws named at the function.
use borrow.Author.Rules.{rules}
use Rattle.skip.proofs.Skipping.{no_first, no_second, skips_value}
use Rattle.skip.proofs.skip_value.Goals as goal

pub returns-in_err-a : goal.returns-in_err-a
returns-in_err-a c = no_first c.param_value.ensures c.in_err-a.was (search rules)

pub returns-in_err-b : goal.returns-in_err-b
returns-in_err-b c = no_second c.param_value.ensures c.in_ok-a.was c.param_value-2.ensures c.in_err-b.was (search rules)

pub returns : goal.returns
returns c = skips_value c.param_value.ensures c.in_ok-a.was c.param_value-2.ensures c.in_ok-b.was c.compare.ensures c.skip_if.ensures
