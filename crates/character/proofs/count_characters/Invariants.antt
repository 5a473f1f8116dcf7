-- count_characters counts character after character. The loop keeps `Counting`: the characters up to `at` are counted, and those from there on
-- give the rest. The measure is the length of the text less `at`.
use Prim.Native.Nat.{◌-◌}
use lib.ListN.{length}
use Rattle.character.proofs.Counting.{Counting}
use Rattle.character.proofs.count_characters.Given as goal

abbrev pub invariant-loop-found : goal.invariant-loop-found
invariant-loop-found l = Counting l.s l.at l.count l.code

abbrev pub decreases-loop-found : goal.decreases-loop-found
decreases-loop-found l = length l.s - l.at
