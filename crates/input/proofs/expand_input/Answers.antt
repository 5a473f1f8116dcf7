-- Each way through a line of the input, by its law: its content is too long, the run ends with it, or the run goes on behind it.
-- The check finds none of these goals alone, nor with the laws named at the function.
use borrow.Author.Rules.{rules}
use Rattle.std.proofs.Common.{refl}
use Rattle.input.proofs.Whole.{expands_over, expands_long, expands_ended, ends_else, expanding_on}
use Rattle.input.proofs.expand_input.Goals as goal

pub returns-then-content-gt-LINE_MOST : goal.returns-then-content-gt-LINE_MOST
returns-then-content-gt-LINE_MOST c = search (expands_long, rules)

pub returns-in_err-turn : goal.returns-in_err-turn
returns-in_err-turn c =
    expands_ended c.script.view_is c.loop-s.invariant c.read_input-line.ensures c.set_input.ensures c.if-content-gt-LINE_MOST.false c.in_err-turn.ensures refl (search rules)

pub returns-in_default : goal.returns-in_default
returns-in_default c =
    let h = c.in_ok-turn.ensures in
    expands_ended c.script.view_is c.loop-s.invariant c.read_input-line.ensures c.set_input.ensures c.if-content-gt-LINE_MOST.false h (ends_else _ h.left c.in_default.not-Back) refl

pub loop-s-preserved : goal.loop-s-preserved
loop-s-preserved c =
    expanding_on c.script.view_is c.loop-s.invariant c.read_input-line.ensures c.set_input.ensures c.if-content-gt-LINE_MOST.false c.offer.ensures (search rules) c.drop_lines.ensures

pub returns : goal.returns
returns c = search (expands_over, rules)
