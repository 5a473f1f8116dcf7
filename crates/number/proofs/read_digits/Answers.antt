-- read_digits reads the run of digits.
-- The check finds none of these goals alone, nor with the laws named at the function.
use borrow.Author.Rules.{rules}
use Rattle.number.proofs.Digits.{reading_more, reading_other, reading_ended}
use Rattle.number.proofs.read_digits.Goals as goal

pub returns-then-not-is_digit : goal.returns-then-not-is_digit
returns-then-not-is_digit c = search (reading_other, rules)

pub loop-i-preserved : goal.loop-i-preserved
loop-i-preserved c = search (reading_more, rules)

pub returns : goal.returns
returns c = search (reading_ended, rules)
