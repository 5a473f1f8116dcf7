-- read_number reads the run of digits, and its amount decides the value.
-- The check does not find this goal alone, nor with the law named at the function.
use Rattle.number.proofs.Digits.{numeral_read}
use Rattle.number.proofs.read_number.Goals as goal

pub returns : goal.returns
returns c = numeral_read c.read_digits-run.ensures _ c.try_from.ensures c.ok.ensures.value
