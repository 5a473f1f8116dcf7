-- read_name reads the name as an operand.
-- The check finds none of these goals alone, nor with the laws named at the function.
use Rattle.std.proofs.Common.{◌≡◌, ap, ◌∙◌, rules, tests, length}
use Rattle.std.specs.Prelude.{position}
use Rattle.std.specs.Option.{unwrap_or}
use Rattle.std.proofs.lemmas.Iterator.{YieldsList-from_slice}
use Rattle.std.proofs.lemmas.Iterator.Search.{position_from_yields_List}
use Rattle.model.specs.Value.{is_mark}
use Rattle.value.specs.Reads.{read_of}
use Rattle.value.proofs.Names.{name_found, no_name, name_read}
use Rattle.value.proofs.Reader.read_name.Goals as goal

pub returns-in_err-value : goal.returns-in_err-value
returns-in_err-value c =
    let m = c.args.self.now.m in
    let s = c.args.rest.now in
    let found : c.position-end.result ≡ position (is_mark m) s =
    position_from_yields_List (is_mark m) _ _ c.position-end.result c.position-end.ensures.ran (YieldsList-from_slice _ c.iter.ensures.rest) (λ x q f k. search (rules, tests)) in
    let end = c.unwrap_or.ensures ∙ ap (λ r. unwrap_or r (length s)) found ∙ name_found m s in
    ap read_of c.from_residual.ensures ∙ no_name m _ s end c.split_at.ensures.front c.split_at.ensures.back (rw c.in_err-value.was at c.find_value.ensures)

pub returns : goal.returns
returns c =
    let m = c.args.self.now.m in
    let s = c.args.rest.now in
    let found : c.position-end.result ≡ position (is_mark m) s =
    position_from_yields_List (is_mark m) _ _ c.position-end.result c.position-end.ensures.ran (YieldsList-from_slice _ c.iter.ensures.rest) (λ x q f k. search (rules, tests)) in
    let end = c.unwrap_or.ensures ∙ ap (λ r. unwrap_or r (length s)) found ∙ name_found m s in
    name_read m _ s end c.split_at.ensures.front c.split_at.ensures.back (rw c.in_ok-value.was at c.find_value.ensures)
