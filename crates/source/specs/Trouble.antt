-- What keeps a program from its work.
use Rattle.std.specs.Prelude.{ℕ, Option, Some, None}
use Rattle.source.specs.declared.Trouble.{Trouble}
use Rattle.source.specs.declared.Trouble.TheVariants.{UnreadInput, UnreadFile}

-- the file that an argument names is not read, or standard input
abbrev pub unread_of : Option ℕ → Trouble
unread_of None = UnreadInput
unread_of (Some i) = UnreadFile i
