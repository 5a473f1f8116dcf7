-- take_files adds a row a turn. Invariant: the rows of i - 1 files are there.
use Rattle.std.proofs.Common.{◌-◌, ◌≤◌}
use Rattle.check_text.specs.Files.{HasFiles}
use Rattle.check_text.proofs.take_files.Given as goal

abbrev pub invariant-loop-i : goal.invariant-loop-i
invariant-loop-i g l = record { there : HasFiles (l.i - 1) l.rows l.at; last : l.i - 1 ≤ l.n - 1 }
