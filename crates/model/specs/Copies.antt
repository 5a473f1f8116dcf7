-- What function 2 does, in the words of document 02, ticket 4: these are the statements; module Copying of the proofs shows them of the definition.
use Rattle.std.specs.Prelude.{◌≡◌, false, List, [], ◌∷◌, ◌++◌, ℕ, ◌+◌, ◌≤◌, ◌<◌, length}
use Rattle.std.proofs.Math.Option.{none}
use Rattle.model.specs.Limits.{line_most}
use Rattle.model.specs.declared.Marks.{Marks}
use Rattle.model.specs.declared.Channel.{Channel}
use Rattle.model.specs.declared.Channel.TheVariants.{Nowhere, First, Second}
use Rattle.model.specs.Text.{Bytes, up_to}
use Rattle.model.specs.Load.{begins}
use Rattle.model.specs.Machine.{Rooms, Outputs, outputs, State}

-- the contents of input lines, each with a byte 10 after it
abbrev pub contents : Marks → List Bytes → Bytes
contents m [] = []
contents m (l ∷ ls) = (up_to m.source l ++ (10 ∷ [])) ++ contents m ls

-- no content begins with the name
abbrev pub NoneBegins : Marks → Bytes → List Bytes → Type 0
NoneBegins m name [] = Unit {0}
NoneBegins m name (l ∷ ls) = (begins name (up_to m.source l) ≡ false) × NoneBegins m name ls

-- each content has at most 200 bytes
abbrev pub EachShort : Marks → List Bytes → Type 0
EachShort m [] = Unit {0}
EachShort m (l ∷ ls) = (length (up_to m.source l) ≤ line_most) × EachShort m ls

-- a channel takes these lines: those that are dropped always, and else each must be short enough, and all must fit the room
abbrev pub Takes : Marks → Rooms → Channel → List Bytes → Outputs → Type 0
Takes m room Nowhere ls o = Unit {0}
Takes m room First ls o = EachShort m ls × (length o.first + length (contents m ls) ≤ room.first)
Takes m room Second ls o = EachShort m ls × (length o.second + length (contents m ls) ≤ room.second)

-- a channel lacks room for a line and its byte 10
abbrev pub LacksRoom : Rooms → Channel → Bytes → Outputs → Type 0
LacksRoom room Nowhere l o = ⊥
LacksRoom room First l o = room.first < length o.first + length l + 1
LacksRoom room Second l o = room.second < length o.second + length l + 1

-- the outputs with bytes more on a channel
abbrev pub received : Channel → Bytes → Outputs → Outputs
received Nowhere s o = o
received First s o = outputs (o.first ++ s) o.second
received Second s o = outputs o.first (o.second ++ s)

-- the state with n input lines more read, these left, and these outputs; nothing else moves, and no event is counted
abbrev pub moved_further : State → ℕ → List Bytes → Outputs → State
moved_further s n left o = record {
  input = left;
  line = s.line + n;
  pending = none;
  frames = s.frames;
  calls = s.calls;
  shared = record { symbols = s.shared.symbols; store = s.shared.store; output = o };
  events = s.events;
  tally = s.tally;
}
