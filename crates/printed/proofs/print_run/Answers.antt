-- print_run adds the row that ends a run behind its output.
-- The check does not find this goal alone, nor with the laws named at the function.
use Rattle.printed.proofs.Rows.{run_prints, run_writes, run_reports}
use Rattle.printed.proofs.print_run.Goals as goal

pub returns : goal.returns
returns c = record { prints = search run_prints; prints_2 = search run_writes; prints_3 = search run_reports }
