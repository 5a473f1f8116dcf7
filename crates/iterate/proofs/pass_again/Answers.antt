-- pass_again counts a pass down, takes the next piece, or gives the parameter its old value.
-- The check finds none of these goals alone, nor with the laws named at the function.
use borrow.Author.Rules.{rules}
use Rattle.iterate.proofs.Passes.{count_ends, count_goes_on, pieces_fail, pieces_go_on, pieces_end}
use Rattle.iterate.proofs.pass_again.Goals.{in-Count, in-Pieces+in_ok-take_pass-in-Pieces}
use Rattle.iterate.proofs.pass_again.Goals as goal

pub returns-in-Count-eq0 : goal.returns-in-Count-eq0
returns-in-Count-eq0 c = count_ends c.requires c.in-Count-eq0.is c.in-Count-eq0.field-0-test

pub returns-in_err-take_pass-in-Pieces : goal.returns-in_err-take_pass-in-Pieces
returns-in_err-take_pass-in-Pieces c = pieces_fail c.requires c.in-Pieces.is c.as_bytes.ensures c.if-pieces-as_bytes.true c.take_pass.ensures c.in_err-take_pass-in-Pieces.was (search rules)

pub returns-in-Pieces-2 : goal.returns-in-Pieces-2
returns-in-Pieces-2 c = pieces_end c.requires c.in-Pieces.is c.as_bytes.ensures c.if-pieces-as_bytes.false (search rules) c.set.ensures.text c.set.ensures.delimiter

pub returns : goal.returns
returns c =
    elim c.match-iteration.branch [
      | in-Count w ↦ rw (w.iteration-is, w.params-is) (count_goes_on c.requires w.in-Count.is w.in-Count.left-test.1)
      | in-Pieces+in_ok-take_pass-in-Pieces w ↦ rw (w.iteration-is, w.params-is) (pieces_go_on c.requires w.in-Pieces.is w.as_bytes.ensures w.if-pieces-as_bytes.true w.take_pass.ensures w.in_ok-take_pass-in-Pieces.was)
    ]
