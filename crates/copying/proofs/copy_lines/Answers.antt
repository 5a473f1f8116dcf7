-- copy_lines copies line by line: each goal names what the steps before it ensure.
-- The check finds none of these goals alone, nor with the laws named at the function.
use borrow.Author.Rules.{rules}
use Rattle.copying.proofs.Lines.{copied_stops, copied_ends, copied_more, copied_all}
use Rattle.copying.proofs.copy_lines.Goals as goal

pub returns-then-starts_with : goal.returns-then-starts_with
returns-then-starts_with c = copied_stops c.loop-s.invariant c.read_input-line.ensures c.starts_with.ensures.value c.set_input.ensures c.if-starts_with.true

pub returns-in_err-copy_content : goal.returns-in_err-copy_content
returns-in_err-copy_content c = copied_ends c.loop-s.invariant c.read_input-line.ensures c.starts_with.ensures.value c.set_input.ensures c.if-starts_with.false c.copy_content.ensures c.in_err-copy_content.was (search rules)

pub loop-s-preserved : goal.loop-s-preserved
loop-s-preserved c = copied_more c.loop-s.invariant c.read_input-line.ensures c.starts_with.ensures.value c.set_input.ensures c.if-starts_with.false c.copy_content.ensures c.in_ok-copy_content.was

pub returns : goal.returns
returns c = copied_all c.loop-s.invariant c.loop-s-test.false
