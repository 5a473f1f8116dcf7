-- find_place halves the places where the template can go until one is left: the template at the middle place is the same, or it goes before
-- that one, or behind it.
-- The check finds none of these goals alone, nor with the laws named at the function.
use borrow.Author.Rules.{rules}
use native.Mathlib.Omega.{arith}
use Rattle.templates.proofs.Finding.{seek_same, seek_low, seek_high, sought}
use Rattle.templates.proofs.Ordered.find_place.Goals as goal

pub returns-then-template-both : goal.returns-then-template-both
returns-then-template-both c = search (seek_same c.args.self.now.in_order.1 c.loop-low.invariant, rules)

pub loop-low-preserved-then-stands_before : goal.loop-low-preserved-then-stands_before
loop-low-preserved-then-stands_before c = search (seek_low c.args.self.now.in_order.1 c.loop-low.invariant, rules)

pub loop-low-preserved : goal.loop-low-preserved
loop-low-preserved c = search (seek_high c.args.self.now.in_order.1 c.loop-low.invariant, rules)

pub returns : goal.returns
returns c = sought c.args.self.now.in_order.1 c.loop-low.invariant (search rules) _ (omega (arith, c.max.ensures))
