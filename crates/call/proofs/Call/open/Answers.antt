-- open makes each piece a parameter. The loop keeps `Opening`: the first i parameters are their pieces, and none has a delimiter.
-- The check finds none of these goals alone, nor with the laws named at the function.
use borrow.Author.Rules.{rules}
use Rattle.call.proofs.Opening.{opening_none, opening-more, opens}
use Rattle.call.proofs.Call.open.Goals as goal

pub loop-i-init : goal.loop-i-init
loop-i-init c = opening_none

pub loop-i-preserved : goal.loop-i-preserved
loop-i-preserved c = search (opening-more, rules)

pub returns : goal.returns
returns c = search (opens, rules)
