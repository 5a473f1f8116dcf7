-- print_check adds the row of what checking the text answers, for which there is room.
-- The check does not find this goal alone, nor with the law named at the function.
use Rattle.printed.proofs.Rows.{check_room}
use Rattle.printed.proofs.print_check.Goals as goal

pub add_checked-requires : goal.add_checked-requires
add_checked-requires c = search check_room
