-- are_legal is the test `legal_marks`, mark 5 being the byte `0`.
-- The check does not find this goal alone, nor with the law named at the function.
use Rattle.scan.proofs.FlagLine.{legal_by}
use Rattle.scan.proofs.are_legal.Goals as goal

pub returns : goal.returns
returns c = search legal_by
