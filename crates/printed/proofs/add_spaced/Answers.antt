-- add_spaced adds a blank, then the number.
-- The check finds none of these goals alone, nor with the laws named at the function.
use Rattle.printed.proofs.Adding.{blank_room, spaced_prints}
use Rattle.printed.proofs.add_spaced.Goals as goal

pub add_bytes-digits-requires : goal.add_bytes-digits-requires
add_bytes-digits-requires c = search blank_room

pub returns : goal.returns
returns c = search spaced_prints
