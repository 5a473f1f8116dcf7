-- end_pass goes on with the innermost iteration, or ends it.
-- The check finds none of these goals alone, nor with the laws named at the function.
use mathlib.Core.Path.{ap, ◌∙◌}
use borrow.Author.Rules.{rules}
use Rattle.std.specs.Prelude.{Ok}
use Rattle.iterate.proofs.Passes.{ends_outside, pass_failed, another_pass, no_pass_more}
use Rattle.iterate.proofs.end_pass.Goals as goal

pub returns-in_default : goal.returns-in_default
returns-in_default c = ends_outside c.requires c.in_default.ensures

pub returns-in_err-after : goal.returns-in_err-after
returns-in_err-after c = pass_failed c.requires c.in-Some.ensures (search rules) c.pass_again.ensures c.in_err-after.was (search rules)

pub returns-in-Some-2 : goal.returns-in-Some-2
returns-in-Some-2 c = another_pass c.requires c.in-Some.ensures (search rules) c.pass_again.ensures (c.in_ok-after.was ∙ ap Ok c.in-Some-2.is)

pub returns-in-None : goal.returns-in-None
returns-in-None c = no_pass_more c.requires c.in-Some.ensures (search rules) c.pass_again.ensures (c.in_ok-after.was ∙ ap Ok c.in-None.is)
