-- A call's measure is three times the sum of the node's height and the bytes left, with two more for search itself and one more for take_up.
use Rattle.std.proofs.Common.{◌+◌, ◌-◌, ◌*◌, length}
use Rattle.nodes.specs.Rows.{height}
use Rattle.fit.proofs.+search.Given as goal

abbrev pub decreases-search : goal.decreases-search
decreases-search l = 3 * (height l.task.now.nodes.now l.node + (length l.task.now.line.now - l.at)) + 2

abbrev pub decreases-take_up : goal.decreases-take_up
decreases-take_up l = 3 * (height l.task.now.nodes.now l.node + (length l.task.now.line.now - l.at)) + 1

abbrev pub decreases-search_byte : goal.decreases-search_byte
decreases-search_byte l = 3 * (height l.task.now.nodes.now l.node + (length l.task.now.line.now - l.at))

abbrev pub decreases-search_piece : goal.decreases-search_piece
decreases-search_piece l = 3 * (height l.task.now.nodes.now l.node + (length l.task.now.line.now - l.at))

abbrev pub decreases-search_atom : goal.decreases-search_atom
decreases-search_atom l = 3 * (height l.task.now.nodes.now l.node + (length l.task.now.line.now - l.at))
