-- take_atoms takes atom after atom: at the line's end what is taken is all of it.
-- With the law named at the function the search finds it, but not with half its limits.
use borrow.Author.Rules.{rules}
use Rattle.pass.proofs.Pieces.{taking_ends}
use Rattle.pass.proofs.take_atoms.Goals as goal

pub returns : goal.returns
returns c = search (taking_ends, rules)
