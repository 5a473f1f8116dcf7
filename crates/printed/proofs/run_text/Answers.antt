-- run_text runs in the first 65,536 bytes of out, in all of second, and in the report's room.
-- The check does not find this goal alone, nor with the law named at the function.
use Rattle.std.proofs.Common.{ℕ}
use Rattle.std.proofs.lemmas.List.{length-replicate}
use Rattle.printed.proofs.Rows.{run_leaves}
use Rattle.printed.proofs.run_text.Goals as goal

pub returns : goal.returns
returns c =
    run_leaves c.args.text.now c.args.out.now c.args.second.now c.run.ensures.runs c.requires.0 (length-replicate {A = ℕ} 8704 0) c.requires.1 c.run.auto.output c.run.auto.second c.run.auto.report
