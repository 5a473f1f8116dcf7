-- put keeps the index that fits the bytes, and zeroes behind the entries.
-- The check does not find this goal alone, nor with the laws named at the function.
use Rattle.store.proofs.Callers.{put_kept, put_clean}
use Rattle.store.proofs.names.Store.put.Goals as goal

pub invariant_of-self-2 : goal.invariant_of-self-2
invariant_of-self-2 c = (put_kept c.put.ensures.puts c.in_ok-self-inside.was, put_clean c.put.ensures.clean c.in_ok-self-inside.was c.self.invariant.1)
