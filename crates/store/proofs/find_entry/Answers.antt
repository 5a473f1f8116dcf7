-- find_entry: an entry with another name is passed.
-- The check does not find this goal alone, nor with the law named at the function.
use Rattle.store.proofs.Seeking.{seek_on}
use Rattle.store.proofs.find_entry.Goals as goal

pub loop-entry-preserved : goal.loop-entry-preserved
loop-entry-preserved c = (c.in-Some.ensures.goes.keeps, tt, seek_on c.loop-entry.invariant.2 c.in-Some.ensures.steps c.same_bytes.ensures c.if-same_bytes.false)
