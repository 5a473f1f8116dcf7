-- find_place halves the places where the template can go until one is left. The loop's invariant: the template goes to a place from low up to
-- high, and has `below` in common with the template before low and `above` with that at high. The measure: the places between.
use Prim.Native.Nat.{◌-◌}
use Rattle.templates.specs.Listed.{templates_of, order_of}
use Rattle.templates.proofs.Finding.{Seeking}
use Rattle.templates.proofs.Ordered.find_place.Given as goal

abbrev pub invariant-loop-low : goal.invariant-loop-low
invariant-loop-low l = Seeking l.self.mark (templates_of l.self) (order_of l.self) l.template l.self.table.now.count l.low l.high l.below l.above

abbrev pub decreases-loop-low : goal.decreases-loop-low
decreases-loop-low l = l.high - l.low
