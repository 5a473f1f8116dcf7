-- set_dead adds the bit.
-- The check does not find this goal alone, nor with the law named at the function.
use Rattle.places.proofs.Bits.{bit_added}
use Rattle.places.proofs.set_dead.Goals as goal

pub returns : goal.returns
returns c = bit_added c.args.row.now c.args.x c.requires
