-- write_marked copies src and writes the mark after it.
-- The check does not find this goal alone, nor with the law named at the function.
use Rattle.store.proofs.Writing.{marks}
use Rattle.store.proofs.write_marked.Goals as goal

pub returns : goal.returns
returns c = search marks
