-- value gives what valueOf does: the bound of valueOf is large enough.
-- With the law named at the function the search finds it, but not with half its limits.
use borrow.Author.Rules.{rules}
use Rattle.value.proofs.Levels.{value_read}
use Rattle.value.proofs.value.Goals as goal

pub returns : goal.returns
returns c = value_read c.expression.ensures c.in_ok-v.was c.is_empty.ensures (search rules) c.then_some.ensures
