-- fit answers 1 for a short row of nodes or of dead places, else the first reading, which keeps document 01's rule.
-- The check finds none of these goals alone, nor with the laws named at the function.
use Rattle.stage2.proofs.Results.{fit_short, fit_legal, no_rule, first_rule}
use Rattle.stage2.proofs.fit.Goals as goal

pub returns-then-lack_room : goal.returns-then-lack_room
returns-then-lack_room c =
    let is = fit_short _ _ _ _ c.lack_room.ensures c.if-lack_room.true c.no_pieces.ensures in
    record { value = is; holds_tree = no_rule _ _ is c.lack_room.ensures c.if-lack_room.true }

pub returns-in-Ok : goal.returns-in-Ok
returns-in-Ok c =
    let is = fit_legal _ _ _ _ c.lack_room.ensures c.if-lack_room.false c.fit_prepared.ensures in
    record { value = is; holds_tree = first_rule _ _ is (rw c.in-Ok.is at c.prepare.ensures) }
