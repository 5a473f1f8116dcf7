-- pass_over: an iteration that is not open at the line skipped from ends before the last line.
-- The check does not find this goal alone, nor with the law named at the function.
use Rattle.body.proofs.Laws.{shut}
use Rattle.body.proofs.pass_over.Goals as goal

pub returns-in-Ended-2-2 : goal.returns-in-Ended-2-2
returns-in-Ended-2-2 c = search shut
