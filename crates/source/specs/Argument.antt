-- What an argument says.
use Rattle.std.specs.Prelude.{[], ◌∷◌, if◌then◌else◌}
use Rattle.model.specs.Text.{Bytes, same, starts_with}
use Rattle.source.specs.declared.Argument.{Argument}
use Rattle.source.specs.declared.Argument.TheVariants.{Help, Second, Report, Unknown, Name}

-- "--help", "-4", "--report", another option or a name
abbrev pub argument_of : Bytes → Argument
argument_of a =
    if same a (45 ∷ 45 ∷ 104 ∷ 101 ∷ 108 ∷ 112 ∷ []) then Help
    else (if same a (45 ∷ 52 ∷ []) then Second
    else (if same a (45 ∷ 45 ∷ 114 ∷ 101 ∷ 112 ∷ 111 ∷ 114 ∷ 116 ∷ []) then Report
    else (if starts_with 45 a then Unknown else Name)))
