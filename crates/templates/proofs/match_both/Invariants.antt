-- match_both answers how many elements two templates have in common. The loop's invariant: their first x elements are the same.
use Rattle.templates.proofs.Matching.{Matching}
use Rattle.templates.proofs.match_both.Given as goal

abbrev pub invariant-loop-x : goal.invariant-loop-x
invariant-loop-x l = Matching l.s l.t l.x
