-- take_piece: with no list one character is taken.
-- The check does not find this goal alone, nor with the law named at the function.
use Rattle.pass.proofs.Pieces.{takes_character}
use Rattle.pass.proofs.take_piece.Goals as goal

pub returns-then-is_empty : goal.returns-then-is_empty
returns-then-is_empty c = takes_character c.is_empty.ensures c.if-is_empty.true c.take_character.ensures
