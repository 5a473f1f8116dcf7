-- The answer of fit for a choice among the templates.
use Rattle.std.specs.Prelude.{Option, Some, None, ℕ, []}
use Rattle.model.specs.declared.Fitted.{Fitted}
use Rattle.model.specs.Results.{nine}
use Rattle.fit.specs.declared.Reading.{Reading}
use Rattle.macros.specs.declared.Table.{Table}
use Rattle.macros.specs.Table.{line_in}

-- a call or none, found with so many places and bytes; the table has each template's line
abbrev pub answer_of : Table → Option Reading → ℕ → ℕ → Fitted
answer_of t None places bytes = record { number = 0; line = 0; start = nine []; length = nine []; places = places; bytes = bytes }
answer_of t (Some r) places bytes = record { number = 0; line = line_in t r.template; start = r.starts; length = r.lens; places = places; bytes = bytes }
