-- add_converted: what the expansion adds for a parameter itself, a stored text and the value of an expression.
-- The check finds none of these goals alone, nor with the laws named at the function.
use Rattle.convert.proofs.Converting.{converts_itself, converts_stored, converts_value}
use Rattle.convert.proofs.add_converted.Goals as goal

pub returns-in-Itself : goal.returns-in-Itself
returns-in-Itself c = search converts_itself

pub returns-in-StoredText : goal.returns-in-StoredText
returns-in-StoredText c = search converts_stored

pub returns-in-ExpressionValue : goal.returns-in-ExpressionValue
returns-in-ExpressionValue c = search converts_value
