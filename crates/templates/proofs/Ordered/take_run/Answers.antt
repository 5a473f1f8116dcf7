-- take_run: the run goes on where the next template has its key.
-- The check does not find this goal alone, nor with the law named at the function.
use borrow.Author.Rules.{rules}
use Rattle.templates.proofs.Runs.{run_goes_on}
use Rattle.templates.proofs.Ordered.take_run.Goals as goal

pub loop-end-preserved : goal.loop-end-preserved
loop-end-preserved c = search (run_goes_on c.loop-end.invariant, rules)
