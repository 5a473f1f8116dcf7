-- check_in answers 0 and the last line of a text that is loaded.
-- The check does not find this goal alone, nor with the law named at the function.
use Rattle.stage2.proofs.Results.{checked_loaded}
use Rattle.stage2.proofs.check_in.Goals as goal

pub returns-in-Ok : goal.returns-in-Ok
returns-in-Ok c = checked_loaded c.load.ensures c.in-Ok.is
