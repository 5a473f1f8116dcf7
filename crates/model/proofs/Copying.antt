-- What holds of every state while input lines are copied: shown once, for any property of states that reading a line and writing one keep.
use mathlib.Core.Path.{◌≡◌, refl}
use mathlib.Core.Option.{Option, none, some}
use mathlib.Core.List.{List, [], ◌∷◌}
use Rattle.model.specs.declared.Marks.{Marks}
use Rattle.model.specs.declared.Channel.{Channel}
use Rattle.model.specs.Text.{Bytes, up_to}
use Rattle.model.specs.Load.{begins}
use Rattle.model.specs.Machine.{Rooms, Shared, State, Next, running, ended, state_with, wrote, past_line, is_too_long, copy_lines, copy_input}
use Rattle.model.proofs.Choices.{both}

-- P is kept while lines are copied, and gives Q of what the copy comes to: the call goes on, or the run ends with 11 or 13
module _ (m : Marks) (room : Rooms) (ch : Channel) (P : State → Type 0) (Q : Next → Type 0)
    (goes : (s : State) → P s → Q (running s)) (long : (s : State) → P s → Q (ended 11 s)) (full : (s : State) → P s → Q (ended 13 s))
    (reads : (l : Bytes) (ls : List Bytes) (s : State) → s.input ≡ l ∷ ls → P s → P (past_line ls s))
    (writes : (c : Bytes) (s : State) (w : Shared) → wrote room ch c s.shared ≡ some w → P s → P (state_with s none s.frames w)) where
  lines_copied : (name : Bytes) (ls : List Bytes) (s : State) → s.input ≡ ls → P s → Q (copy_lines m room ch name ls s)
  unfolding copy_lines past_line state_with
  lines_copied name [] s e h = goes s h
  lines_copied name (l ∷ ls) s e h =
      both Q (begins name (up_to m.source l)) _ _ (goes _ next) (
      both Q (is_too_long ch (up_to m.source l)) _ _ (long _ next)
      (by (wrote room ch (up_to m.source l) s.shared) refl (λ x k p. lines_copied name ls x k p)))
    where
      next : P (past_line ls s)
      next = reads l ls s e h

      by : (v : Option Shared) → wrote room ch (up_to m.source l) s.shared ≡ v → ((x : State) → x.input ≡ ls → P x → Q (copy_lines m room ch name ls x))
          → Q (elim v as (λ _. Next) [ none ↦ ended 13 (past_line ls s) | some w ↦ copy_lines m room ch name ls (state_with (past_line ls s) none s.frames w) ])
      by none k ih = full _ next
      by (some w) k ih = ih (state_with (past_line ls s) none s.frames w) refl (writes (up_to m.source l) (past_line ls s) w k next)

  pub input_copied : (name : Bytes) (s : State) → P s → Q (copy_input m room ch name s)
  unfolding copy_input
  input_copied [] s h = goes s h
  input_copied (x ∷ name) s h = lines_copied (x ∷ name) s.input s refl h
