-- run_length looks for the first other byte.
-- The check does not find this goal alone, nor with the law named at the function.
use Rattle.std.proofs.Common.{◌≡◌, ◌==◌, not, ap, ◌∙◌, rules, tests, length}
use Rattle.std.specs.Prelude.{position}
use Rattle.std.specs.Option.{unwrap_or}
use Rattle.std.proofs.lemmas.Iterator.{YieldsList-from_slice}
use Rattle.std.proofs.lemmas.Iterator.Search.{position_from_yields_List}
use Rattle.write.proofs.Fields.{run-found}
use Rattle.write.proofs.layout.run_length.Goals as goal

pub returns : goal.returns
returns c =
    let b = c.args.b in
    let s = c.args.text.now in
    let found : c.position.result ≡ position (λ x. not (x == b)) s =
    position_from_yields_List (λ x. not (x == b)) _ _ c.position.result c.position.ensures.ran (YieldsList-from_slice _ c.iter.ensures.rest) (λ x q f k. search (rules, tests)) in
    c.unwrap_or.ensures ∙ ap (λ r. unwrap_or r (length s)) found ∙ run-found b s
