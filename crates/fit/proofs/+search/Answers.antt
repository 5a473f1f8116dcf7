-- The search takes up what the definition takes up, each step its own.
-- The check finds none of these goals alone, nor with the laws named at the functions.
use Rattle.std.proofs.Common.{refl, arith}
use Rattle.fit.proofs.Steps.{asks_children, asks_byte, asks_piece, byte_less, piece_less, below-nine, child_known}
use Rattle.fit.proofs.+search.Goals as goal

pub search_byte-child-requires : goal.search_byte-child-requires
search_byte-child-requires t c = asks_children c.requires

pub search_byte-search-requires : goal.search_byte-search-requires
search_byte-search-requires t c =
    let child = child_known c.child.ensures c.in_ok-next.was in
    let less = byte_less c.requires child c.element_at.ensures c.if-at-task.false in
    (omega (arith, less, c.decreases), asks_byte c.requires child c.if-at-task.false)

pub search_piece-placeholder_child-requires : goal.search_piece-placeholder_child-requires
search_piece-placeholder_child-requires t c = asks_children c.requires

pub search_piece-search-requires : goal.search_piece-search-requires
search_piece-search-requires t c =
    let child = child_known c.placeholder_child.ensures c.in_ok-next.was in
    let less = piece_less c.requires child refl in
    (omega (arith, less, c.decreases), asks_piece c.requires child)

pub search_piece-store_piece-requires : goal.search_piece-store_piece-requires
search_piece-store_piece-requires t c = omega (arith, c.from.ensures, below-nine c.requires (child_known c.placeholder_child.ensures c.in_ok-next.was) refl)
