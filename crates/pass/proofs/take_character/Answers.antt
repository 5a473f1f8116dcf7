-- take_character: where the character is malformed, nothing is taken.
-- The check does not find this goal alone, nor with the law named at the function.
use Rattle.pass.proofs.Pieces.{takes_malformed}
use Rattle.pass.proofs.take_character.Goals as goal

pub returns-in_err-found : goal.returns-in_err-found
returns-in_err-found c = takes_malformed c.read_character.ensures c.in_err-found.was c.from_residual.ensures.1
