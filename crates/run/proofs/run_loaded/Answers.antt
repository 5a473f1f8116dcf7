-- run_loaded expands the input of a loaded text, prints how often each template was chosen, and lists what is stored.
-- The check finds none of these goals alone, nor with the laws named at the function.
use Rattle.std.proofs.Common.{length-take, arith}
use Rattle.run.proofs.Running.{starts_sound, starts_counted, loaded_runs}
use Rattle.run.proofs.run_loaded.Goals as goal

pub expand_input-ended-requires : goal.expand_input-ended-requires
expand_input-ended-requires c =
    let ready = c.requires.0 in
    let begins = c.start-s.ensures in
    let few = c.requires.1 in
    (starts_sound ready begins few, c.requires.3, starts_counted ready begins few)

pub returns : goal.returns
returns c = loaded_runs c.requires.0 c.start-s.ensures c.expand_input-ended.ensures (omega (arith, length-take c.args.t.now.table.count c.args.t.now.table.entries)) c.print_report-reported.ensures c.end.ensures
