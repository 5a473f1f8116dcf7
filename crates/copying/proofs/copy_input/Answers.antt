-- copy_input looks for parameter 1, where it is not empty.
-- The check finds none of these goals alone, nor with the laws named at the function.
use mathlib.Core.Path.{sym, ◌∙◌}
use borrow.Author.Rules.{rules}
use borrow.Author.Tests.{eqb-false}
use lib.ListN.{length}
use Rattle.copying.proofs.Lines.{copies_none, copies_input}
use Rattle.copying.proofs.copy_input.Goals as goal

pub returns-then-is_empty : goal.returns-then-is_empty
returns-then-is_empty c =
    let q = c.requires.0 in
    search (copies_none, rules)

pub returns : goal.returns
returns c =
    let some = eqb-false (length c.param-name.result.now) 0 (sym c.is_empty.ensures ∙ c.if-is_empty.false) in
    copies_input c.requires.0 c.param-name.ensures some c.copy_lines.ensures
