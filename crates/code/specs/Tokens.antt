-- A token of a code line, as the model's values: a place of the line stands for what follows it.
use Rattle.std.specs.Prelude.{◌≡◌, Bool, true, false, ℕ, ◌≤◌, ◌<◌, length, drop, Option, Some, None, IfSome}
use Rattle.std.proofs.Math.Option as Math
use Rattle.model.specs.Text.{Bytes}
use Rattle.model.specs.Code as Code
use Rattle.model.specs.declared.Marks.{Marks}
use Rattle.model.specs.declared.Effect.{Effect}
use Rattle.code.specs.declared.Part.{Part}
use Rattle.code.specs.declared.Part.TheVariants.{Byte, Serial, Convert}
use Rattle.code.specs.declared.Ending.{Ending}
use Rattle.code.specs.declared.Ending.TheVariants.{Offer, Assign, Iterate, Stop, Write, Layout, Copy, Save, Skip, SkipText, SkipValue, Repeat, Again, Leave, Malformed}
use Rattle.code.specs.declared.Token.{Token}
use Rattle.code.specs.declared.Token.TheVariants.{Ends, Has}

-- an ending of a code line
abbrev pub ending_of : Bytes → Ending → Code.Ending
ending_of line Offer = Code.offer
ending_of line (Assign d) = Code.assign d
ending_of line (Iterate d at) = Code.iterate d (drop at line)
ending_of line Stop = Code.stop
ending_of line (Write ch) = Code.write ch
ending_of line (Layout ch) = Code.layout ch
ending_of line (Copy ch) = Code.copy ch
ending_of line Save = Code.save
ending_of line Skip = Code.skip
ending_of line (SkipText b) = Code.skip_text b
ending_of line (SkipValue o) = Code.skip_value o
ending_of line Repeat = Code.repeat
ending_of line Again = Code.again
ending_of line Leave = Code.leave
ending_of line Malformed = Code.malformed

abbrev pub part_of : Part → Code.Part
part_of (Byte b) = Code.byte b
part_of (Serial k) = Code.serial k
part_of (Convert d c) = Code.convert d c

-- what is found, as the model has it
abbrev pub found : {A : Type 0} → Option A → Math.Option A
found (Some x) = Math.some x
found None = Math.none

-- the ending that is made of what is read; where nothing is, the line is malformed
abbrev pub said : {A : Type 0} → (A → Code.Ending) → Option A → Code.Ending
said f (Some x) = f x
said f None = Code.malformed

-- what stands after an escape
abbrev pub form_of : Bytes → Option Token → Code.Form
form_of line (Some (Ends k)) = Code.ends (ending_of line k)
form_of line (Some (Has p e)) = Code.part (part_of p)
form_of line None = Code.ends Code.malformed

-- a token and what the rest of the line says
abbrev pub token_code : Marks → Bytes → Token → Code.Code
token_code m line (Ends k) = Code.only (ending_of line k)
token_code m line (Has p e) = Code.onto (part_of p) (Code.parse m false (drop e line))

-- the number of a parameter
pub record Parameter (d : ℕ) : Type 0 where
  pub least : 1 ≤ d
  pub most : d ≤ 9

-- an ending of the line has its numbers in range
abbrev pub Ranged : Bytes → Ending → Type 0
Ranged line Offer = Unit {0}
Ranged line (Assign d) = Parameter d
Ranged line (Iterate d p) = Parameter d × (p ≤ length line)
Ranged line Stop = Unit {0}
Ranged line (Write ch) = Unit {0}
Ranged line (Layout ch) = Unit {0}
Ranged line (Copy ch) = Unit {0}
Ranged line Save = Unit {0}
Ranged line Skip = Unit {0}
Ranged line (SkipText b) = Unit {0}
Ranged line (SkipValue o) = Unit {0}
Ranged line Repeat = Unit {0}
Ranged line Again = Unit {0}
Ranged line Leave = Unit {0}
Ranged line Malformed = Unit {0}

abbrev pub RangedPart : Part → Type 0
RangedPart (Byte b) = Unit {0}
RangedPart (Serial k) = k ≤ 9
RangedPart (Convert d c) = Parameter d

-- a form's rest starts at `at`
abbrev pub RangedForm : Bytes → ℕ → Option Token → Type 0
RangedForm line at (Some (Ends k)) = Ranged line k
RangedForm line at (Some (Has p e)) = RangedPart p × (e ≡ at)
RangedForm line at None = Unit {0}

-- a token that starts at `at` ends after it
abbrev pub RangedToken : Bytes → ℕ → Token → Type 0
RangedToken line at (Ends k) = Ranged line k
RangedToken line at (Has p e) = RangedPart p × ((at < e) × (e ≤ length line))

-- r is the ending that the form f is
pub record Says (line : Bytes) (f : Code.Form) (r : Option Ending) : Type 0 where
  pub is : f ≡ Code.ends (said (ending_of line) r)
  pub ranged : IfSome r (λ k. Ranged line k)

-- r is the form f, whose rest starts at `at`
pub record Forms (line : Bytes) (at : ℕ) (f : Code.Form) (r : Option Token) : Type 0 where
  pub is : f ≡ form_of line r
  pub ranged : RangedForm line at r

-- r is what a code line says first from `at` on; `first`: it is the line's start
pub record ReadsToken (m : Marks) (line : Bytes) (at : ℕ) (first : Bool) (r : Token) : Type 0 where
  pub is : Code.parse m first (drop at line) ≡ token_code m line r
  pub ranged : RangedToken line at r

-- r is how a code line ends
pub record ReadsEnding (m : Marks) (line : Bytes) (r : Ending) : Type 0 where
  pub is : (Code.parse m true line).ending ≡ ending_of line r
  pub ranged : Ranged line r

-- r is what a code line does to the iterations around the lines after it
pub record Affects (m : Marks) (line : Bytes) (r : Effect) : Type 0 where
  pub is : r ≡ Code.effect m line
