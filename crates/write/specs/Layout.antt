-- A layout's text: fields for parameters, and bytes that are copied.
use Rattle.std.specs.Prelude.{◌≡◌, Bool, true, false, ◌&&◌, [], ◌++◌, ℕ, ◌-◌, ◌≤◌, ◌<◌, leb, length, get_or, drop, not, ◌==◌, Option, Some, None}
use Rattle.std.specs.List.{position_or_len}
use Rattle.model.specs.declared.Marks.{Marks}
use Rattle.model.specs.Text.{Bytes}
use Rattle.model.specs.Machine.{field, fields}
use Rattle.buffer.specs.Written.{Written}
use Rattle.call.specs.declared.Call.{Call}
use Rattle.call.specs.Call.{texts_of, frame_of}

-- whether a byte names a parameter
abbrev pub is_field : ℕ → Bool
is_field b = leb 49 b && leb b 57

-- the parameter that the byte b names, if it names one
pub record NamesField (b : ℕ) (r : Option ℕ) : Type 0 where
  pub small : b < 256
  pub none : r ≡ None → is_field b ≡ false
  pub names : (d : ℕ) → r ≡ Some d → (is_field b ≡ true) × (d ≡ b - 48)

-- parameter d of a call
abbrev pub param_of : Call → ℕ → Bytes
param_of c d = get_or (texts_of c.params) (d - 1) []

-- what a layout is written as
abbrev pub layout_of : Marks → Bytes → Call → Bytes
layout_of m s c = fields m (frame_of m [] c) 256 0 s

-- how many bytes b a layout begins with
abbrev pub run_length : ℕ → Bytes → ℕ
run_length b s = position_or_len (λ x. not (x == b)) s

-- a field o becomes parameter d, cut or filled
pub record FillsField (blank : ℕ) (c : Call) (d : ℕ) (o o' : Bytes) : Type 0 where
  pub is : o' ≡ field blank (length o) (param_of c d)

-- the field or byte that the layout s begins with, with the parameters of c, comes to the front of o, which becomes o'; it has r bytes
pub record PutsPart (m : Marks) (s : Bytes) (c : Call) (o : Bytes) (r : ℕ) (o' : Bytes) : Type 0 where
  pub bytes : Bytes
  pub is : layout_of m s c ≡ bytes ++ layout_of m (drop r s) c
  pub written : Written o bytes r o'
  pub from : 0 < r
  pub upto : r ≤ length s
