-- take_pass takes a piece of the rest, or finds nothing to take.
-- The check finds none of these goals alone, nor with the laws named at the function.
use borrow.Author.Rules.{rules}
use Rattle.iterate.proofs.Passes.{pass_fails, pass_goes_on}
use Rattle.iterate.proofs.take_pass.Goals as goal

pub returns-in_err-taken : goal.returns-in_err-taken
returns-in_err-taken c = pass_fails c.requires c.as_bytes-line.ensures c.take_piece.ensures c.in_err-taken.was (search rules)

pub returns : goal.returns
returns c = pass_goes_on c.requires c.as_bytes-line.ensures c.take_piece.ensures c.in_ok-taken.was c.set_piece.ensures.text c.set_piece.ensures.delimiter
