-- add_macro stores the macro that a line begins and puts it in order.
-- The check does not find this goal alone, nor with the law named at the function.
use mathlib.Core.Path.{refl}
use Rattle.load.proofs.Macros.{macro_more}
use Rattle.load.proofs.Loader.add_macro.Goals as goal

pub returns : goal.returns
returns c =
    let (sound, outside) = c.requires.table_sound in
    macro_more sound outside c.requires.line_in c.find_byte-stop.ensures refl c.weigh_template.ensures c.in_ok-found.was _ _ c.insert.ensures
