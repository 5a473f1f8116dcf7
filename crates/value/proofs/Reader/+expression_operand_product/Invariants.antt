-- The cycle of calls {expression, operand, product}. A call's measure is three for each byte that is left, and 3 more for an
-- expression, 2 for a product, 1 for an operand: an operand's expression starts a byte further on, behind its bracket.
-- Both loops keep what `levels` says of a turn: whatever comes of the turn with the value so far comes of the whole. Their
-- measure is how many bytes are left.
use Rattle.std.proofs.Common.{◌+◌, ◌*◌, length}
use Rattle.value.specs.Turns.{turn_of}
use Rattle.value.proofs.Levels as levels
use Rattle.value.proofs.Reader.+expression_operand_product.Given as goal

abbrev pub decreases-expression : goal.decreases-expression
decreases-expression l = 3 * length l.rest.now + 3

abbrev pub decreases-operand : goal.decreases-operand
decreases-operand l = 3 * length l.rest.now + 1

abbrev pub decreases-product : goal.decreases-product
decreases-product l = 3 * length l.rest.now + 2

abbrev pub invariant-expression-loop-turn : goal.invariant-expression-loop-turn
invariant-expression-loop-turn l = levels.Summing l.self.m l.self.store.now l.fn.rest l.sum (turn_of l.turn)

abbrev pub decreases-expression-loop-turn : goal.decreases-expression-loop-turn
decreases-expression-loop-turn l = length (levels.left_of l.sum.rest.now (turn_of l.turn))

abbrev pub invariant-product-loop-turn : goal.invariant-product-loop-turn
invariant-product-loop-turn l = levels.Multiplying l.self.m l.self.store.now l.fn.rest l.factors (turn_of l.turn)

abbrev pub decreases-product-loop-turn : goal.decreases-product-loop-turn
decreases-product-loop-turn l = length (levels.left_of l.factors.rest.now (turn_of l.turn))
