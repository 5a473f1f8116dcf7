-- open makes each piece a parameter. The loop keeps `Opening`: the first i parameters are their pieces, and none has a delimiter.
use Rattle.call.proofs.Opening.{Opening}
use Rattle.call.proofs.Call.open.Given as goal

abbrev pub invariant-loop-i : goal.invariant-loop-i
invariant-loop-i l = Opening l.line l.starts l.lens l.i l.param-items
