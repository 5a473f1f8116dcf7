-- read_escaped: the form that an escape begins.
-- The check finds none of these goals alone, nor with the laws named at the function.
use borrow.Author.Rules.{rules}
use Rattle.code.proofs.Lines.{token_first, token_later, token_form}
use Rattle.code.proofs.read_escaped.Goals as goal

pub returns-in-70 : goal.returns-in-70
returns-in-70 c = search (token_first, c.read_first_function.ensures, rules)

pub returns-in-70-2 : goal.returns-in-70-2
returns-in-70-2 c = search (token_later, c.read_later_function.ensures, rules)

pub returns-in-len3-up : goal.returns-in-len3-up
returns-in-len3-up c = search (token_form, c.read_form.ensures, rules)
