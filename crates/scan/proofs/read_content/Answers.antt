-- read_content finds the end of the content, and the next line past the rest of its line.
-- The check does not find this goal alone, nor with the law named at the function.
use borrow.Author.Rules.{rules}
use Rattle.scan.proofs.Places.{content_read}
use Rattle.scan.proofs.read_content.Goals as goal

pub returns : goal.returns
returns c = search (content_read, rules)
