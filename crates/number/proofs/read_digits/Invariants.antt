-- read_digits reads the run of digits. The invariant: the digits from here on give what all of them give.
use lib.ListN.{drop}
use Rattle.number.specs.Run.{DigitsRead}
use Rattle.number.proofs.read_digits.Given as goal

abbrev pub invariant-loop-i : goal.invariant-loop-i
invariant-loop-i l = DigitsRead l.s l.amount (drop l.i l.s)
