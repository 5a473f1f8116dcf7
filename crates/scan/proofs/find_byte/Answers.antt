-- find_byte finds the first b from `from` on, or the end: at one that is found.
-- The check does not find this goal alone, nor with the law named at the function.
use Rattle.scan.proofs.Places.{found_there}
use Rattle.scan.proofs.find_byte.Goals as goal

pub returns-then-s-i : goal.returns-then-s-i
returns-then-s-i c = search found_there
