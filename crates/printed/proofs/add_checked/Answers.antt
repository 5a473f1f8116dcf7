-- add_checked adds the two parts of the row: the name, and the counts with the byte 10.
-- The check finds none of these goals alone, nor with the laws named at the function.
use Rattle.printed.proofs.Adding.{check_name, check-prints}
use Rattle.printed.proofs.add_checked.Goals as goal

pub add_bytes-number-requires : goal.add_bytes-number-requires
add_bytes-number-requires c = search check_name

pub returns : goal.returns
returns c = search check-prints
