-- add_fitted adds the four parts of the row: the number, the line, the pieces, and the counts with the byte 10.
-- The check finds none of these goals alone, nor with the laws named at the function.
use Rattle.printed.proofs.Adding.{fit_number, fit_pieces, fit_last, fit-prints}
use Rattle.printed.proofs.add_fitted.Goals as goal

pub add_decimal-line-requires : goal.add_decimal-line-requires
add_decimal-line-requires c = search fit_number

pub add_pieces-counts-requires : goal.add_pieces-counts-requires
add_pieces-counts-requires c = search fit_pieces

pub add_counts-requires : goal.add_counts-requires
add_counts-requires c = search fit_last

pub returns : goal.returns
returns c = search fit-prints
