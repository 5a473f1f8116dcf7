-- read_ending: the rest of the line ends as the whole does.
-- The check does not find this goal alone, nor with the law named at the function.
use Rattle.code.proofs.Lines.{ahead_more}
use Rattle.code.proofs.read_ending.Goals as goal

pub loop-k-preserved : goal.loop-k-preserved
loop-k-preserved c = search ahead_more
