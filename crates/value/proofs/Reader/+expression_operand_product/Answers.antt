-- The answers of the cycle {expression, operand, product}, by the laws of levels and of operands.
-- The check finds none of these goals alone, nor with the laws named at the functions.
use borrow.Author.Rules.{rules}
use Rattle.std.proofs.Common.{refl, ap}
use Rattle.value.specs.Turns.{turn_of}
use Rattle.value.proofs.Operands as operands
use Rattle.value.proofs.Levels as levels
use Rattle.value.proofs.Reader.+expression_operand_product.Goals as goal

pub expression-loop-turn-init : goal.expression-loop-turn-init
expression-loop-turn-init t c = levels.begins _ _ _ refl refl c.start-turn.ensures

pub expression-returns : goal.expression-returns
expression-returns t c = levels.reading_done c.loop-turn.invariant (ap turn_of c.in_default.is)

pub expression-returns-in_err-v : goal.expression-returns-in_err-v
expression-returns-in_err-v t c = rw c.from_residual.ensures (levels.reading_fails c.loop-turn.invariant (ap turn_of c.in-Some.is) c.product.ensures c.in_err-v.was)

pub expression-returns-in_err-value : goal.expression-returns-in_err-value
expression-returns-in_err-value t c =
    rw c.from_residual-in_err-value.ensures
    (levels.reading_faults c.loop-turn.invariant (ap turn_of c.in-Some.is) c.product.ensures c.in_ok-v.was c.apply.ensures (search rules) c.in_err-value.was)

pub expression-loop-turn-smaller : goal.expression-loop-turn-smaller
expression-loop-turn-smaller t c =
    levels.smaller (levels.expression_level _ _) c.loop-turn.sum (ap turn_of c.in-Some.is) c.product.ensures c.in_ok-v.was c.next-turn.ensures

pub expression-loop-turn-preserved : goal.expression-loop-turn-preserved
expression-loop-turn-preserved t c =
    levels.reading_on c.loop-turn.invariant (ap turn_of c.in-Some.is) c.product.ensures c.in_ok-v.was c.apply.ensures (search rules) c.in_ok-value.was (search rules) c.next-turn.ensures

pub product-loop-turn-init : goal.product-loop-turn-init
product-loop-turn-init t c = levels.begins_product _ _ _ refl refl

pub product-returns : goal.product-returns
product-returns t c = levels.reading_done c.loop-turn.invariant (ap turn_of c.in_default.is)

pub product-returns-in_err-v : goal.product-returns-in_err-v
product-returns-in_err-v t c = rw c.from_residual.ensures (levels.reading_fails c.loop-turn.invariant (ap turn_of c.in-Some.is) c.operand.ensures c.in_err-v.was)

pub product-returns-in_err-value : goal.product-returns-in_err-value
product-returns-in_err-value t c =
    rw c.from_residual-in_err-value.ensures
    (levels.reading_faults c.loop-turn.invariant (ap turn_of c.in-Some.is) c.operand.ensures c.in_ok-v.was c.apply.ensures (search rules) c.in_err-value.was)

pub product-loop-turn-smaller : goal.product-loop-turn-smaller
product-loop-turn-smaller t c =
    levels.smaller (levels.product_level _ _) c.loop-turn.factors (ap turn_of c.in-Some.is) c.operand.ensures c.in_ok-v.was c.next-turn.ensures

pub product-loop-turn-preserved : goal.product-loop-turn-preserved
product-loop-turn-preserved t c =
    levels.reading_on c.loop-turn.invariant (ap turn_of c.in-Some.is) c.operand.ensures c.in_ok-v.was c.apply.ensures (search rules) c.in_ok-value.was (search rules) c.next-turn.ensures

pub operand-returns-in-empty : goal.operand-returns-in-empty
operand-returns-in-empty t c = operands.nothing _ _ _ c.in-empty.len_below

pub operand-returns-in-len1-up : goal.operand-returns-in-len1-up
operand-returns-in-len1-up t c = operands.digits_read _ _ _ c.in-len1-up.len_at_least c.is_digit.ensures c.if-is_digit.true c.read_numeral.ensures

pub operand-returns-in_err-expression-in-len1-up-2 : goal.operand-returns-in_err-expression-in-len1-up-2
operand-returns-in_err-expression-in-len1-up-2 t c =
    rw c.from_residual.ensures
    (operands.unread _ _ _ c.in-len1-up.len_at_least c.is_digit.ensures c.if-is_digit.false c.if-b-self.true
    c.expression.ensures c.in_err-expression-in-len1-up-2.was)

pub operand-returns-in_ok-expression-in-len1-up-2 : goal.operand-returns-in_ok-expression-in-len1-up-2
operand-returns-in_ok-expression-in-len1-up-2 t c =
    operands.bracketed _ _ _ c.in-len1-up.len_at_least c.is_digit.ensures c.if-is_digit.false c.if-b-self.true
    c.expression.ensures c.in_ok-expression-in-len1-up-2.was c.close.ensures

pub operand-returns-in-len1-up-3 : goal.operand-returns-in-len1-up-3
operand-returns-in-len1-up-3 t c =
    operands.marked _ _ _ c.in-len1-up.len_at_least c.is_digit.ensures c.if-is_digit.false c.if-b-self.false c.is_mark.ensures c.if-is_mark.true

pub operand-returns-in_default : goal.operand-returns-in_default
operand-returns-in_default t c =
    operands.named _ _ _ c.in-len1-up.len_at_least c.is_digit.ensures c.if-is_digit.false c.if-b-self.false c.is_mark.ensures c.if-is_mark.false c.read_name.ensures
