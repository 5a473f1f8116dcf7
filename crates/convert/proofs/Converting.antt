-- Each conversion of a parameter is what the expansion adds.
use mathlib.Core.Path.{◌≡◌, sym, ap, ◌∙◌, subst}
use mathlib.Core.List.{[]}
use Prim.Native.Nat.{ℕ, ◌-◌, ◌≤◌}
use lib.ListN.{length, get_or}
use Rattle.std.specs.Prelude.{Option, Result}
use Rattle.faults.specs.declared.RunFault.{RunFault}
use Rattle.model.specs.declared.Marks.{Marks}
use Rattle.model.specs.declared.Conversion.{Conversion}
use Rattle.model.specs.declared.Conversion.TheVariants.{Itself, StoredText, Symbol, LatestDelimiter, ExpressionValue, Length, CodePoint}
use Rattle.model.specs.Text.{Bytes}
use Rattle.model.specs.Utf8.{points}
use Rattle.model.specs.Store.{find}
use Rattle.model.specs.Value.{value_of}
use Rattle.model.specs.Machine.{Frame, Shared, Building, param, or_nothing, add, add_symbol, add_value, add_length, add_code_point, add_converted, Outputs}
use Rattle.pass.specs.Pass.{delimiter_bytes}
use Rattle.state.specs.declared.State.{State}
use Rattle.state.specs.State.{shared_of}
use Rattle.call.specs.declared.Text.{Text}
use Rattle.call.specs.Call.{text_of}
use Rattle.call.specs.Line.{Appends}
use Rattle.convert.specs.Added.{Adds}
use Rattle.convert.specs.Converted.{AddsSymbol, AddsValue, AddsLength, AddsCodePoint, Converts}
use Rattle.convert.proofs.Adding.{adds_appended, adds_made}

-- one step of the expansion for another
pub adds_as : {step other : Shared → Building} {s s' : State} {y : Text} {r : Result Unit RunFault} → ((o : Outputs) → other (shared_of s o) ≡ step (shared_of s o))
    → Adds step s r y s' → Adds other s r y s'
adds_as e a = record { is = λ o. e o ∙ a.is o; keeps = a.keeps }

module _ {m : Marks} {c : Conversion} {t : Bytes} {e : Option ℕ} {x y : Text} {s : State} {r : Result Unit RunFault} where
  -- it is enough to say what the expansion adds for the case at hand
  converts_case : {v : Conversion} {s' : State} → c ≡ v
      → ((f : Frame) (d : ℕ) → param f d ≡ t → get_or f.delimiters (d - 1) [] ≡ delimiter_bytes e → Adds (λ w. add_converted m f d v (text_of x) w) s r y s')
      → Converts m c t e x s r y s'
  converts_case {s' = s'} q a = subst (λ (v : Conversion). Converts m v t e x s r y s') (sym q) (record { adds = a })

  -- a text that is appended as it stands
  module _ (h : s.symbols ≤ length s.store) where
    pub converts_itself : c ≡ Itself → Appends x t r y → Converts m c t e x s r y s
    unfolding add_converted
    converts_itself q p = converts_case q (λ f d u v. adds_appended h (λ o. ap (λ (b : Bytes). add (text_of x) b (shared_of s o)) u) p)

    pub converts_stored : c ≡ StoredText → Appends x (or_nothing (find t s.store)) r y → Converts m c t e x s r y s
    unfolding add_converted
    converts_stored q p =
        converts_case q (λ f d u v. adds_appended h (λ o. ap (λ (b : Bytes). add (text_of x) (or_nothing (find b s.store)) (shared_of s o)) u) p)

    pub converts_delimiter : c ≡ LatestDelimiter → Appends x (delimiter_bytes e) r y → Converts m c t e x s r y s
    unfolding add_converted
    converts_delimiter q p = converts_case q (λ f d u v. adds_appended h (λ o. ap (λ (b : Bytes). add (text_of x) b (shared_of s o)) v) p)

    -- a conversion that stores nothing, with a step of its own
    pub converts_value : c ≡ ExpressionValue → AddsValue m t s.store x r y → Converts m c t e x s r y s
    unfolding add_converted
    converts_value q p = converts_case q (λ f d u v. adds_made h (λ o. ap (λ (b : Bytes). add_value m (text_of x) (value_of m s.store b) (shared_of s o)) u) p.adds)

    pub converts_length : c ≡ Length → AddsLength t x r y → Converts m c t e x s r y s
    unfolding add_converted
    converts_length q p = converts_case q (λ f d u v. adds_made h (λ o. ap (λ (b : Bytes). add_length (text_of x) (points b) (shared_of s o)) u) p.adds)

    pub converts_point : c ≡ CodePoint → AddsCodePoint t x r y → Converts m c t e x s r y s
    unfolding add_converted
    converts_point q p = converts_case q (λ f d u v. adds_made h (λ o. ap (λ (b : Bytes). add_code_point (text_of x) (points b) (shared_of s o)) u) p.adds)

  -- a conversion with a step of its own
  pub converts_symbol : {s' : State} → c ≡ Symbol → AddsSymbol t x s r y s' → Converts m c t e x s r y s'
  unfolding add_converted
  converts_symbol q a = converts_case q (λ f d u v. adds_as (λ o. ap (λ (b : Bytes). add_symbol (text_of x) b (find b s.store) (shared_of s o)) u) a.adds)

-- what the goals of add_converted go by
pub ruleset converting = (converts_symbol, converts_delimiter, converts_length, converts_point)
