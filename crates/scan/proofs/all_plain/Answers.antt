-- all_plain is the test `all_plain`: each byte is plain.
-- The check does not find this goal alone, nor with the law named at the function.
use mathlib.Core.Path.{◌∙◌}
use borrow.Author.Rules.{rules}
use borrow.Author.Tests.{tests}
use Rattle.std.proofs.lemmas.Iterator.{YieldsList-from_slice}
use Rattle.std.proofs.lemmas.Iterator.Search.{all_from_yields_List}
use Rattle.model.specs.Text.{plain}
use Rattle.scan.proofs.FlagLine.{plain_all}
use Rattle.scan.proofs.all_plain.Goals as goal

pub returns : goal.returns
returns c = record { is = all_from_yields_List plain _ _ c.all.result c.all.ensures.ran (YieldsList-from_slice _ c.iter.ensures.rest) (λ x b q k. search (rules, tests)) ∙ plain_all _ }
