-- listing writes the names, the byte 10 and the texts.
-- The check does not find this goal alone, nor with the law named at the function.
use Rattle.store.proofs.Listed.{listed}
use Rattle.store.proofs.listing.Goals as goal

pub returns : goal.returns
returns c = search listed
