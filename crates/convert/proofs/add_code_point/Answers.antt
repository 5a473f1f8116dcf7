-- add_code_point: only a parameter of one character has a code point.
-- The check finds none of these goals alone, nor with the laws named at the function.
use Rattle.convert.proofs.Adding.{point_malformed, point_others, point_none, point_added}
use Rattle.convert.proofs.add_code_point.Goals as goal

pub returns-in_err-characters : goal.returns-in_err-characters
returns-in_err-characters c = point_malformed c.count_characters.ensures c.in_err-characters.was c.from_residual.ensures.1

pub returns-in-1-Some : goal.returns-in-1-Some
returns-in-1-Some c = point_added c.count_characters.ensures c.in_ok-characters.was c.in-1-Some.is-0 c.in-1-Some.is-1 c.add_number.ensures

pub returns-in_default : goal.returns-in_default
returns-in_default c = point_none c.count_characters.ensures c.in_ok-characters.was c.in_default.is-1

pub returns-in_default-2 : goal.returns-in_default-2
returns-in_default-2 c = point_others c.count_characters.ensures c.in_ok-characters.was c.in_default.is-0.1
