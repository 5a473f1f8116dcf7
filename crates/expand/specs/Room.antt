-- The room for channel 4.
use Rattle.std.specs.Prelude.{ℕ, Option, None, Some}

-- all that a text may write, where a file is open for it, else none
abbrev pub room_for : {F : Type 0} → Option F → ℕ
room_for None = 0
room_for (Some f) = 65536
