-- add_row adds the four parts of the row: the line's number, the comma, the count, and the byte 10.
-- The check finds none of these goals alone, nor with the laws named at the function.
use Rattle.usage.proofs.Report.{row_line, row_prints}
use Rattle.usage.proofs.add_row.Goals as goal

pub add_decimal-comma-requires : goal.add_decimal-comma-requires
add_decimal-comma-requires c = search row_line

pub returns : goal.returns
returns c = search row_prints
