-- What callers take from the contract of `build_line`.
use mathlib.Core.Path.{◌≡◌, ap, subst, ◌∙◌}
use mathlib.Core.Bool.{true}
use native.Mathlib.Omega.{arith}
use Rattle.std.specs.Prelude.{Result, Ok, Err, IfOk}
use Rattle.faults.specs.declared.RunFault.{RunFault}
use Rattle.faults.specs.Numbers.{run_number}
use Rattle.model.specs.declared.Marks.{Marks}
use Rattle.model.specs.Text.{Bytes}
use Rattle.model.specs.Code.{parse, effect, effect_of}
use Rattle.model.specs.Machine.{halts, finish, carry_out, Outputs, Rooms}
use Rattle.state.specs.declared.State.{State}
use Rattle.state.specs.State.{shared_of, Sound}
use Rattle.code.specs.declared.Ending.{Ending}
use Rattle.code.specs.Tokens.{ending_of, Ranged}
use Rattle.call.specs.declared.Text.{Text}
use Rattle.call.specs.declared.Call.{Call}
use Rattle.call.specs.Call.{text_of, frame_of}
use Rattle.build.specs.Built.{built_step, Builds}

module _ {m : Marks} {code : Bytes} {c : Call} {s : State} {line : Text} {r : Result Ending RunFault} {s' : State} (b : Builds m code c s line r s') where
  pub builds_sound : {text : Bytes} {o : Outputs} → Sound text s o → Sound text s' o
  builds_sound h =
      let k = b.keeps in
      record {
        within = omega (arith, h.within, k.at);
        lines = omega (arith, h.lines, k.line, k.at);
        written = omega (arith, h.written, k.written);
        second = omega (arith, h.second, k.second);
        symbols = k.symbols;
        calls = omega (arith, h.calls, k.calls, k.events);
        total = omega (arith, h.total, k.events, k.fuel);
      }

  -- a line is built: the ending is done with it
  module _ {k : Ending} (e : r ≡ Ok k) where
    pub builds_finish : (text : Bytes) (room : Rooms) (o : Outputs) → carry_out room m (parse m true code) (frame_of m text c) (shared_of s o)
        ≡ finish room m (ending_of code k) (text_of line) (frame_of m text c) (shared_of s' o)
    unfolding built_step
    builds_finish text room o = b.same text room o ∙ ap (λ (x : Result Ending RunFault). built_step room m code (frame_of m text c) line x s' o) e

    pub built_ranged : Ranged code k
    built_ranged = subst (λ (x : Result Ending RunFault). IfOk x (λ z. Ranged code z)) e b.ranged

    pub built-effect : effect m code ≡ effect_of (ending_of code k)
    built-effect = subst (λ (x : Result Ending RunFault). IfOk x (λ z. effect m code ≡ effect_of (ending_of code z))) e b.effect

  -- a fault ends the run
  pub builds_halts : {f : RunFault} → r ≡ Err f → (text : Bytes) (room : Rooms) (o : Outputs)
      → carry_out room m (parse m true code) (frame_of m text c) (shared_of s o) ≡ halts (run_number f) (shared_of s' o)
  unfolding built_step
  builds_halts e text room o = b.same text room o ∙ ap (λ (x : Result Ending RunFault). built_step room m code (frame_of m text c) line x s' o) e
