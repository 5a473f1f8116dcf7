-- add_length: a text with a malformed character has no length.
-- The check does not find this goal alone, nor with the law named at the function.
use Rattle.convert.proofs.Adding.{length_malformed}
use Rattle.convert.proofs.add_length.Goals as goal

pub returns-in_err-counted : goal.returns-in_err-counted
returns-in_err-counted c = length_malformed c.count_characters.ensures c.in_err-counted.was c.from_residual.ensures.1
