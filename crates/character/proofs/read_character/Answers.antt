-- read_character: what decode reads there, or that it is malformed.
-- The check finds none of these goals alone, nor with the laws named at the function.
use native.Mathlib.Omega.{arith}
use Rattle.character.proofs.Decoding.{reads_one, reads_malformed}
use Rattle.character.proofs.read_character.Goals as goal

pub returns-in_err-decode : goal.returns-in_err-decode
returns-in_err-decode c = reads_malformed (omega arith) c.decode.ensures c.in_err-decode.was c.from_residual.ensures.0

pub returns : goal.returns
returns c = reads_one (omega arith) c.decode.ensures c.in_ok-decode.was
