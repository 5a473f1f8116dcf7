-- One part of a code line, added to the line.
use mathlib.Core.Path.{◌≡◌, refl, sym, subst}
use mathlib.Core.List.{[], ◌∷◌}
use Prim.Native.Nat.{ℕ, ◌+◌, ◌*◌, ◌≤◌}
use lib.ListN.{length}
use Rattle.model.specs.declared.Marks.{Marks}
use Rattle.model.specs.declared.Conversion.{Conversion}
use Rattle.model.specs.Text.{Bytes}
use Rattle.model.specs.Store.{decimal}
use Rattle.model.specs.Machine.{add_part}
use Rattle.state.specs.declared.State.{State}
use Rattle.code.specs.declared.Part.{Part}
use Rattle.code.specs.declared.Part.TheVariants.{Byte, Serial, Convert}
use Rattle.std.specs.Prelude.{Option, Result}
use Rattle.faults.specs.declared.RunFault.{RunFault}
use Rattle.call.specs.declared.Text.{Text}
use Rattle.call.specs.declared.Call.{Call}
use Rattle.call.specs.Call.{frame_of}
use Rattle.call.specs.Line.{Appends}
use Rattle.call.specs.Params.{Reads, Delimiter}
use Rattle.convert.specs.Converted.{Converts}
use Rattle.convert.proofs.Adding.{adds_appended}
use Rattle.build.specs.Built.{AddsPart}

module _ {m : Marks} {c : Call} {p : Part} {x : Text} {s : State} {r : Result Unit RunFault} {y : Text} {s' : State} where
  part_as : {q : Part} → p ≡ q → AddsPart m c q x s r y s' → AddsPart m c p x s r y s'
  part_as e a = subst (λ (q : Part). AddsPart m c q x s r y s') (sym e) a

  pub part_convert : {d : ℕ} {v : Conversion} {t : Bytes} {b : Option ℕ} → p ≡ Convert d v → Reads c d t → Delimiter c d b → Converts m v t b x s r y s' → AddsPart m c p x s r y s'
  unfolding add_part
  part_convert {d} e l b a = part_as e (record { adds = λ text. a.adds (frame_of m text c) d (l.is m text) (b.is m text) })

module _ {m : Marks} {c : Call} {p : Part} {x : Text} {s : State} {r : Result Unit RunFault} {y : Text} (h : s.symbols ≤ length s.store) where
  pub part_byte : {b : ℕ} → p ≡ Byte b → Appends x (b ∷ []) r y → AddsPart m c p x s r y s
  unfolding add_part
  part_byte e a = part_as e (record { adds = λ text. adds_appended h (λ o. refl) a })

  pub part_serial : {i : ℕ} → p ≡ Serial i → Appends x (decimal (c.number * 10 + i)) r y → AddsPart m c p x s r y s
  unfolding add_part
  part_serial e a = part_as e (record { adds = λ text. adds_appended h (λ o. refl) a })
