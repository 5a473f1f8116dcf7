-- read_marks gives the marks of a flag line where they are legal.
-- The check does not find this goal alone, nor with the law named at the function.
use borrow.Author.Rules.{rules}
use Rattle.scan.proofs.FlagLine.{marks_tested}
use Rattle.scan.proofs.read_marks.Goals as goal

pub returns : goal.returns
returns c = search (marks_tested, rules)
