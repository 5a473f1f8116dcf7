-- Bytes that come at the end of what is written, and lines of them.
use Rattle.std.specs.Prelude.{◌≡◌, Bool, true, false, [], ◌∷◌, ◌++◌, ℕ, ◌+◌, ◌≤◌, ◌<◌, leb, length, take, Result, Ok, Err}
use Rattle.std.proofs.Math.Option.{none, some}
use Rattle.faults.specs.declared.RunFault.{RunFault}
use Rattle.faults.specs.declared.RunFault.TheVariants.{NoRoom}
use Rattle.buffer.specs.Written.{Written}
use Rattle.model.specs.declared.Channel.{Channel}
use Rattle.model.specs.declared.Channel.TheVariants.{Nowhere, First, Second}
use Rattle.model.specs.Text.{Bytes}
use Rattle.model.specs.Machine.{Outputs, outputs, wrote}
use Rattle.state.specs.declared.State.{State}
use Rattle.state.specs.State.{with_written, shared_of}
use Rattle.answer.specs.declared.Turn.TheVariants.{Back}
use Rattle.answer.specs.Answers.{Answer, rooms_of}
use Rattle.answer.specs.Kept.{ExtendsBoth}

-- ---- one output

-- there is room after the first w bytes of o for the line l and a byte 10
abbrev pub has_room : Bytes → ℕ → Bytes → Bool
has_room l w o = leb (length (take w o) + length l + 1) (length o)

-- the line l and a byte 10 come to the front of what is left of an output, o, and are r bytes; or there is no room for them, and nothing changes
pub record Puts (l o : Bytes) (r : Result ℕ RunFault) (o' : Bytes) : Type 0 where
  pub fits : length l < length o → (r ≡ Ok (length l + 1)) × Written o (l ++ (10 ∷ [])) (length l + 1) o'
  pub full : length o ≤ length l → (r ≡ Err NoRoom) × (o' ≡ o)

-- ---- both

-- a channel has room for the line l and a byte 10
abbrev pub has_room_on : Channel → Bytes → State → Outputs → Bool
has_room_on Nowhere l s o = true
has_room_on First l s o = has_room l s.written o.first
has_room_on Second l s o = has_room l s.second o.second

-- the line l and a byte 10 are written to a channel, as the expansion writes them, and the state becomes s'; or there is no room for them, nothing
-- changes and the run ends with 13
pub record Writes (ch : Channel) (l : Bytes) (s : State) (o : Outputs) (r : Result Unit RunFault) (s' : State) (o' : Outputs) : Type 0 where
  pub fits : has_room_on ch l s o ≡ true → (r ≡ Ok tt) × (s' ≡ with_written s s'.written s'.second) × (wrote (rooms_of o) ch l (shared_of s o) ≡ some (shared_of s' o'))
  pub full : has_room_on ch l s o ≡ false → (r ≡ Err NoRoom) × (s' ≡ s) × (o' ≡ o) × (wrote (rooms_of o) ch l (shared_of s o) ≡ none)
  pub extends : ExtendsBoth o s o' s'

-- a line is written to the first output, whatever the second is
pub record PassesThrough (line : Bytes) (s : State) (o : Bytes) (r : Result Unit RunFault) (s' : State) (o' : Bytes) : Type 0 where
  pub writes : (second : Bytes) → s.second ≤ length second → Writes First line s (outputs o second) r s' (outputs o' second)

-- the line that was offered is done with, or a fault ends the run
abbrev pub done_with : Result Unit RunFault → Answer
done_with (Ok u) = Ok (Back 0)
done_with (Err fault) = Err fault
