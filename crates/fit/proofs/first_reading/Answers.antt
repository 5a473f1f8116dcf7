-- first_reading answers the chosen reading and the numbers of places and bytes: the law of the search, at the root, with no place dead.
-- The check finds none of these goals alone, nor with the laws named at the function.
use Rattle.std.proofs.Common.{arith}
use Rattle.fit.proofs.Taken.{none_dead}
use Rattle.fit.proofs.Choose.{searched_by-brackets, no_call, is_call}
use Rattle.fit.proofs.first_reading.Goals as goal

pub returns-in_default : goal.returns-in_default
returns-in_default c =
    no_call (searched_by-brackets c.args.m c.search.ensures) c.requires (none_dead c.requires c.clear.ensures) c.requires.short c.in_default.is
    c.choose.ensures (omega (arith, c.choose.type_inv)) (omega (arith, c.choose.type_inv))

pub returns : goal.returns
returns c =
    is_call (searched_by-brackets c.args.m c.search.ensures) c.requires (none_dead c.requires c.clear.ensures) c.requires.short c.in-Some.is
    c.from.ensures c.read_pieces-reading.ensures (omega (arith, c.read_pieces-reading.type_inv)) c.choose-2.ensures (omega (arith, c.choose-2.type_inv)) (omega (arith, c.choose-2.type_inv))
