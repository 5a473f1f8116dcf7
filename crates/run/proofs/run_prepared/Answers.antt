-- run_prepared answers a refusal, or runs with nothing stored.
-- The check finds none of these goals alone, nor with the laws named at the function.
use Rattle.run.proofs.Running.{refused_runs, ready}
use Rattle.run.proofs.run_prepared.Goals as goal

pub run_loaded-requires : goal.run_loaded-requires
run_loaded-requires c =
    let is = c.in-Ok.is in
    (ready (rw is at c.requires.0), c.requires.1, c.requires.2, c.requires.3, c.requires.4)

pub returns-in-Err : goal.returns-in-Err
returns-in-Err c = refused_runs _ _ _ c.requires.0 c.in-Err.is c.into.ensures c.refuse.ensures
