-- add_pair adds one number after the other.
-- The check does not find this goal alone, nor with the law named at the function.
use Rattle.rendering.proofs.Prints.{prints_more}
use Rattle.printed.proofs.add_pair.Goals as goal

pub returns : goal.returns
returns c = search prints_more
