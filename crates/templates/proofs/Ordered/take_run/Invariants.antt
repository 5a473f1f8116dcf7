-- take_run answers a run of the order. The loop's invariant: the places before `end` have the key, and `template` is the first of their templates
-- in the text.
use Rattle.templates.specs.Listed.{templates_of, order_of}
use Rattle.templates.proofs.Runs.{Running}
use Rattle.templates.proofs.Ordered.take_run.Given as goal

abbrev pub invariant-loop-end : goal.invariant-loop-end
invariant-loop-end l = Running l.self.mark (templates_of l.self) (order_of l.self) l.from l.to l.d l.key l.end l.template
