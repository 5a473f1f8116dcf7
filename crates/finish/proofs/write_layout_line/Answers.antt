-- write_layout_line goes on where there is no layout, and behind one that is written; where there is no room for it the call stays.
-- The check finds none of these goals alone, nor with the laws named at the function.
use borrow.Author.Rules.{rules}
use Rattle.finish.proofs.Lines.{no_layout, layout_written, layout_fails}
use Rattle.finish.proofs.write_layout_line.Goals as goal

pub returns-in_default : goal.returns-in_default
returns-in_default c = no_layout c.requires.placed c.read_code.ensures c.in_default.is

pub returns-in_err-write : goal.returns-in_err-write
returns-in_err-write c = layout_fails c.requires.placed c.read_code.ensures c.in-Some.is c.write.ensures c.in_err-write.was (search rules)

pub returns : goal.returns
returns c = layout_written c.requires.placed c.read_code.ensures c.in-Some.is c.write.ensures c.in_ok-write.was c.move_to.ensures
