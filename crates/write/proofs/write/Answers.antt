-- write counts what is put to the channel's output, or ends the run where there is no room.
-- The check finds none of these goals alone, nor with the laws named at the function.
use borrow.Author.Rules.{rules}
use Rattle.write.proofs.Lines.{writes_first, writes_second, no_room_first, no_room_second}
use Rattle.write.proofs.write.Goals as goal

pub returns-in_err-s-in-First : goal.returns-in_err-s-in-First
returns-in_err-s-in-First g c = no_room_first c.requires.0 c.requires.1 c.in-First.is c.put.ensures c.in_err-s-in-First.was (search rules)

pub returns-in_err-s-in-Second : goal.returns-in_err-s-in-Second
returns-in_err-s-in-Second g c = no_room_second c.requires.0 c.requires.1 c.in-Second.is c.put-in-Second.ensures c.in_err-s-in-Second.was (search rules)

pub returns-in_ok-s-in-First : goal.returns-in_ok-s-in-First
returns-in_ok-s-in-First g c = writes_first c.requires.0 c.requires.1 c.in-First.is c.put.ensures c.in_ok-s-in-First.was

pub returns-in_ok-s-in-Second : goal.returns-in_ok-s-in-Second
returns-in_ok-s-in-Second g c = writes_second c.requires.0 c.requires.1 c.in-Second.is c.put-in-Second.ensures c.in_ok-s-in-Second.was
