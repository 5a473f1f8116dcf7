-- count_characters: where a character is malformed, so is the text.
-- The check does not find this goal alone, nor with the law named at the function.
use Rattle.character.proofs.Counting.{counting_fails}
use Rattle.character.proofs.count_characters.Goals as goal

pub returns-in_err-found : goal.returns-in_err-found
returns-in_err-found c = counting_fails c.loop-found.invariant c.read_character.ensures c.in_err-found.was c.from_residual.ensures.0
