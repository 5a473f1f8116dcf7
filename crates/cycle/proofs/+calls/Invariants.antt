-- Offering a line, running a body and carrying out its code lines call each other under fuel: the measure is twice the fuel, and one more for a body.
-- The body's loop keeps `Running`: what the expansion comes to from the call on, it comes to from the next code line on. Its measure is the fuel.
use Rattle.std.proofs.Common.{◌+◌, ◌*◌}
use Rattle.model.specs.Machine.{outputs}
use Rattle.call.specs.Call.{frame_of}
use Rattle.cycle_laws.proofs.Ways.{Running}
use Rattle.cycle.proofs.+calls.Given as goal

abbrev pub decreases-offer : goal.decreases-offer
decreases-offer l = 2 * l.s.now.fuel

abbrev pub decreases-body : goal.decreases-body
decreases-body l = 2 * l.s.now.fuel + 1

abbrev pub decreases-advance : goal.decreases-advance
decreases-advance l = 2 * l.s.now.fuel

abbrev pub invariant-body-loop-call : goal.invariant-body-loop-call
invariant-body-loop-call l =
    Running l.script l.depth (frame_of l.script.marks l.script.text l.initial.call) l.initial.s (outputs l.initial.output l.initial.second) l.initial.counts
    l.call l.s (outputs l.output l.second) l.counts

abbrev pub decreases-body-loop-call : goal.decreases-body-loop-call
decreases-body-loop-call l = l.s.fuel
