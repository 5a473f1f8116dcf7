-- add_pieces adds a piece a turn: each has room, and the nine make the whole.
-- The check finds none of these goals alone, nor with the laws named at the function.
use mathlib.Core.Logic.{inl, inr, ⊎_elim}
use Rattle.printed.proofs.Rows.{piece_room, piecing_all}
use Rattle.printed.proofs.add_pieces.Goals as goal

pub add_pair-w-requires : goal.add_pair-w-requires
add_pair-w-requires c = let h = c.in-Some.ensures.steps in piece_room c.loop-start.invariant h.0 h.1 c.requires

pub returns : goal.returns
returns c = piecing_all c.loop-start.invariant (⊎_elim (λ a. inl a.1.0) (λ a. inr a.1.0) c.in-None.ensures.steps)
