-- Signed numbers of the width of a value. `mag z` bounds z on both sides at once: z fits w bits where `mag z` is below half of 2 ^ w.
--     width_holds, told     the width is the range, and what is read back from the bits of a number in range is that number
--     checked_in, checked_out     the range, as the one test of `checked`
use mathlib.Core.Path.{◌≡◌, refl, sym, ap, ◌∙◌}
use mathlib.Core.Option.{Option, none, some}
use Prim.Native.Nat.{◌+◌, ◌^◌, ◌≤◌, ◌<◌}
use native.Mathlib.Omega.{arith}
use lib.IntN.{ℤ, pos, negsuc}
use lib.Signed.{mag}
use mir.Val.{SFits, hbits, to_z, of_z}
use mir.Facts.{to_z-of_z}
use Rattle.model.specs.Limits.{largest}
use Rattle.model.specs.Value.{value_fault, FitsWidth, checked}
use Rattle.model.proofs.Range.{checked_kept, checked-none}
use Rattle.number.specs.Number.{width, end, number_of, valued_fault, InRange, Gives, Valued}
use Rattle.std.specs.Prelude.{Some, None}

-- the width holds the values from -(largest + 1) to largest, and no other
pub width_holds : 2 ^ hbits width ≡ largest + 1
width_holds = refl

-- what is read back from a number's bits
abbrev pub read_back : ℤ → ℤ
read_back z = to_z width (of_z width z)

pub told : {z : ℤ} → SFits width z → read_back z ≡ z
told f = to_z-of_z f

pub told_in : (z : ℤ) → mag z < end → read_back z ≡ z
told_in z h = told (record { sfits = h })

pub same_bits : {a b : ℤ} → SFits width a → SFits width b → of_z width a ≡ of_z width b → a ≡ b
same_bits f g e = sym (told f) ∙ ap (to_z width) e ∙ told g

-- ---- the range
inside : (z : ℤ) → mag z < end → FitsWidth z
inside (pos n) h = omega arith
inside (negsuc n) h = omega arith

outside : (z : ℤ) → end ≤ mag z → ¬ FitsWidth z
outside (pos n) h f = omega arith
outside (negsuc n) h f = omega arith

pub checked_in : (z : ℤ) → mag z < end → checked z ≡ some z
checked_in z h = (checked_kept z).1 (inside z h)

pub checked_out : (z : ℤ) → end ≤ mag z → checked z ≡ none
checked_out z h = (checked-none z).1 (outside z h)

-- an answer's number is that of its value
pub valued-fault : (r : Valued) → valued_fault r ≡ value_fault (number_of r)
valued-fault (Some z) = refl
valued-fault None = refl

pub gives_value : {r : Valued} {o : Option ℤ} → number_of r ≡ o → InRange r → Gives r o
gives_value {r} e f = record { is = e; number = valued-fault r ∙ ap value_fault e; fits = f }
