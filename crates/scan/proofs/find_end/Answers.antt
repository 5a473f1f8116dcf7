-- find_end finds where a content ends: the loop has passed no mark and no byte 10.
-- The check finds none of these goals alone, nor with the laws named at the function.
use borrow.Author.Rules.{rules}
use Rattle.scan.proofs.Places.{scanning_goes_on, end_mark, end_line, end_text}
use Rattle.scan.proofs.find_end.Goals as goal

pub returns-then-b-mark : goal.returns-then-b-mark
returns-then-b-mark c = search (end_mark, rules)

pub returns-then-b-eq10 : goal.returns-then-b-eq10
returns-then-b-eq10 c = search (end_line, rules)

pub loop-i-preserved : goal.loop-i-preserved
loop-i-preserved c = search (scanning_goes_on, rules)

pub returns : goal.returns
returns c = search (end_text, rules)
