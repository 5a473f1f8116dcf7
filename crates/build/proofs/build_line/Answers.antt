-- build_line: what is left of the code line comes to the same as the whole, up to its end or the first fault.
-- The check finds none of these goals alone, nor with the laws named at the function.
use borrow.Author.Rules.{rules}
use Rattle.build.proofs.Lines.{partly_ends, partly_more, partly_fails}
use Rattle.build.proofs.build_line.Goals as goal

pub returns-in-Ends : goal.returns-in-Ends
returns-in-Ends c = search (partly_ends, rules)

pub returns-in_err-add_part-in-Has : goal.returns-in_err-add_part-in-Has
returns-in_err-add_part-in-Has c =
    partly_fails c.loop-ending.invariant c.read_token.ensures c.in-Has.is c.add_part.ensures c.in_err-add_part-in-Has.was c.from_residual.ensures.1

pub loop-ending-preserved : goal.loop-ending-preserved
loop-ending-preserved c = partly_more c.loop-ending.invariant c.read_token.ensures c.in-Has.is c.add_part.ensures c.in_ok-add_part-in-Has.was
