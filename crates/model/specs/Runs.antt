-- What a run answers, and what it leaves in the outputs, the store and the report.
use Rattle.std.specs.Prelude.{◌≡◌, ◌++◌, ◌≤◌, length, drop}
use Rattle.model.specs.declared.Ran.{Ran}
use Rattle.model.specs.Text.{Bytes}
use Rattle.model.specs.Machine.{Result}
use Rattle.model.specs.Results.{ran_as}

-- the answer r is that of x, with every byte of both outputs, the store and the report: those of x come first, and the others are unchanged
pub record Runs (x : Result) (output second store report : Bytes) (r : Ran) (output' second' store' report' : Bytes) : Type 0 where
  pub is : r ≡ ran_as x
  pub writes : output' ≡ x.output.first ++ drop (length x.output.first) output
  pub writes_second : second' ≡ x.output.second ++ drop (length x.output.second) second
  pub lists : store' ≡ x.store ++ drop (length x.store) store
  pub reports : report' ≡ x.report ++ drop (length x.report) report
  pub written : r.output ≤ length output'
  pub written_second : r.second ≤ length second'
  pub listed : r.store ≤ length store'
  pub reported : r.report ≤ length report'
