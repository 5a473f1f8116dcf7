-- What the conversions of a parameter add.
use Rattle.std.specs.Prelude.{◌≡◌, [], ℕ, ◌-◌, ◌≤◌, length, get_or, Option, Result}
use Rattle.std.proofs.Math.Option.{none}
use Rattle.faults.specs.declared.RunFault.{RunFault}
use Rattle.model.specs.Limits.{names_most}
use Rattle.model.specs.declared.Marks.{Marks}
use Rattle.model.specs.declared.Conversion.{Conversion}
use Rattle.model.specs.Text.{Bytes}
use Rattle.model.specs.Utf8.{points}
use Rattle.model.specs.Store.{Store, find}
use Rattle.model.specs.Value.{value_of}
use Rattle.model.specs.Machine.{Frame, param, or_nothing, add_symbol, add_value, add_length, add_code_point, add_converted}
use Rattle.pass.specs.Pass.{delimiter_bytes}
use Rattle.state.specs.declared.State.{State}
use Rattle.call.specs.declared.Text.{Text}
use Rattle.call.specs.Call.{text_of}
use Rattle.convert.specs.declared.Word.{Word}
use Rattle.convert.specs.declared.Word.TheVariants.{Itself, Stored}
use Rattle.convert.specs.Added.{Adds, Lengthens}

-- the name is not stored, and the names are never too many to be counted
pub record Missing (es : Store) (name : Bytes) : Type 0 where
  pub is : find name es ≡ none
  pub few : length es ≤ names_most

-- the text that a word brings in, where the parameter is t
abbrev pub word_of : Word → (t : Bytes) → Store → Bytes
word_of Itself t es = t
word_of Stored t es = or_nothing (find t es)

-- In what follows x is the line that is built and s the state before the step, y and s' are those after it, and r is the answer.

-- ed2 of a parameter with this name
pub record AddsSymbol (name : Bytes) (x : Text) (s : State) (r : Result Unit RunFault) (y : Text) (s' : State) : Type 0 where
  pub adds : Adds (λ w. add_symbol (text_of x) name (find name w.store) w) s r y s'

-- ed4 of a parameter with this text, with the names es
pub record AddsValue (m : Marks) (text : Bytes) (es : Store) (x : Text) (r : Result Unit RunFault) (y : Text) : Type 0 where
  pub adds : Lengthens (λ w. add_value m (text_of x) (value_of m es text) w) r y

-- ed5
pub record AddsLength (text : Bytes) (x : Text) (r : Result Unit RunFault) (y : Text) : Type 0 where
  pub adds : Lengthens (λ w. add_length (text_of x) (points text) w) r y

-- ed8
pub record AddsCodePoint (text : Bytes) (x : Text) (r : Result Unit RunFault) (y : Text) : Type 0 where
  pub adds : Lengthens (λ w. add_code_point (text_of x) (points text) w) r y

-- the conversion c of a parameter with this text and latest delimiter, in whatever call
pub record Converts (m : Marks) (c : Conversion) (text : Bytes) (delimiter : Option ℕ) (x : Text) (s : State) (r : Result Unit RunFault) (y : Text) (s' : State) : Type 0 where
  pub adds : (f : Frame) (d : ℕ) → param f d ≡ text → get_or f.delimiters (d - 1) [] ≡ delimiter_bytes delimiter
      → Adds (λ w. add_converted m f d c (text_of x) w) s r y s'
