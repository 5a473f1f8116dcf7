-- start_repeat skips past an iteration that makes no pass, or begins one.
-- The check finds neither goal alone, nor with the laws named at the function.
use Rattle.iterate.proofs.Repeats.{repeat_skips, repeat_starts}
use Rattle.iterate.proofs.start_repeat.Goals as goal

pub returns-in-None : goal.returns-in-None
returns-in-None c = repeat_skips c.ranges.v c.count_passes.ensures c.in-None.ensures c.past_loop.ensures c.move_to.ensures

pub returns-in-Some : goal.returns-in-Some
returns-in-Some c = repeat_starts c.ranges.v c.count_passes.ensures c.in-Some.ensures c.enter.ensures.enters c.enter.ensures.params
