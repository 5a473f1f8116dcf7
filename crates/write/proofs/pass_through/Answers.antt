-- pass_through ends the run where there is no room.
-- The check does not find this goal alone, nor with the law named at the function.
use borrow.Author.Rules.{rules}
use Rattle.write.proofs.Lines.{passes_none}
use Rattle.write.proofs.pass_through.Goals as goal

pub returns-in_err-s : goal.returns-in_err-s
returns-in_err-s c = passes_none c.requires c.put.ensures c.in_err-s.was (search rules)
