-- start_pass makes the first pass, and puts the iteration behind those that are open.
-- The check finds none of these goals alone, nor with the laws named at the function.
use borrow.Author.Rules.{rules}
use Rattle.iterate.proofs.Passes.{start_fails, starts}
use Rattle.iterate.proofs.start_pass.Goals as goal

pub returns-in_err-take_pass : goal.returns-in_err-take_pass
returns-in_err-take_pass c = start_fails c.requires.placed c.new.ensures c.take_pass.ensures c.in_err-take_pass.was (search rules)

pub returns : goal.returns
returns c = starts c.requires.placed c.new.ensures c.take_pass.ensures c.in_ok-take_pass.was c.enter.ensures.enters
