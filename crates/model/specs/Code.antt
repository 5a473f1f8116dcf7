-- What a code line says (document 01, "A call's code").
use Rattle.std.specs.Prelude.{◌≡◌, Bool, true, false, not, ◌||◌, List, [], ◌∷◌, ℕ, ◌+◌, ◌-◌, eqb}
use Rattle.std.proofs.Math.Option.{Option, none, some}
use Rattle.model.specs.declared.Marks.{Marks}
use Rattle.model.specs.declared.Channel.{Channel}
use Rattle.model.specs.declared.Channel.TheVariants.{Nowhere, First, Second}
use Rattle.model.specs.declared.Effect.{Effect}
use Rattle.model.specs.declared.Effect.TheVariants.{Malformed, Plain, Opens, Closes, Owns}
use Rattle.model.specs.declared.Comparison.{Comparison}
use Rattle.model.specs.declared.Comparison.TheVariants.{Equal, Unequal, Less, Greater}
use Rattle.model.specs.declared.Conversion.{Conversion}
use Rattle.model.specs.declared.Conversion.TheVariants.{Itself, StoredText, Symbol, LatestDelimiter, ExpressionValue, Length, CodePoint}
use Rattle.model.specs.Text.{is_digit}

-- ---- conversions and their digits

-- document 01's digit for each conversion
unfoldable pub digit_of : Conversion → ℕ
digit_of Itself = 0
digit_of StoredText = 1
digit_of Symbol = 2
digit_of LatestDelimiter = 3
digit_of ExpressionValue = 4
digit_of Length = 5
digit_of CodePoint = 8

-- every conversion
unfoldable pub conversions : List Conversion
conversions = Itself ∷ StoredText ∷ Symbol ∷ LatestDelimiter ∷ ExpressionValue ∷ Length ∷ CodePoint ∷ []

-- the first of these conversions whose digit is the byte b
unfoldable pub first_named : ℕ → List Conversion → Option Conversion
first_named b [] = none
first_named b (c ∷ cs) = elim (eqb b (48 + digit_of c)) [ true ↦ some c | false ↦ first_named b cs ]

-- the conversion that the byte b names; none for 6, 7 and 9, and for what is no digit
unfoldable pub conversion_of : ℕ → Option Conversion
conversion_of b = first_named b conversions

-- ---- what a code line consists of

-- what puts bytes into the built line: a byte, e0k, or a conversion of a parameter
pub data Part : Type 0 where
  byte : ℕ → Part
  serial : ℕ → Part
  convert : ℕ → Conversion → Part

-- what is done at the end of a code line
pub data Ending : Type 0 where
  offer : Ending
  assign : ℕ → Ending
  iterate : ℕ → List ℕ → Ending
  stop : Ending
  write : Channel → Ending
  layout : Channel → Ending
  copy : Channel → Ending
  save : Ending
  skip : Ending
  skip_text : Bool → Ending
  skip_value : Comparison → Ending
  repeat : Ending
  again : Ending
  leave : Ending
  malformed : Ending

pub record Code : Type 0 where
  pub parts : List Part
  pub ending : Ending

-- what stands after an escape
pub data Form : Type 0 where
  ends : Ending → Form
  part : Part → Form

unfoldable pub onto : Part → Code → Code
onto p c = record { parts = p ∷ c.parts; ending = c.ending }

unfoldable pub only : Ending → Code
only k = record { parts = []; ending = k }

-- ---- channels and their digits

-- the channel of F1 and F2: 3 if 3 or no digit follows, 0 if 0, 4 if 4; none where another digit does
unfoldable pub channel_of : List ℕ → Option Channel
channel_of [] = some First
channel_of (x ∷ s) =
    elim (eqb x 48) [
      | true ↦ some Nowhere
      | false ↦
          elim (eqb x 52) [
            | true ↦ some Second
            | false ↦
                elim (eqb x 51 || not (is_digit x)) [ true ↦ some First | false ↦ none ]
          ]
    ]

-- a digit that names no channel
abbrev pub OtherDigit : ℕ → Type 0
OtherDigit x = (is_digit x ≡ true) × ¬ (x ≡ 48) × ¬ (x ≡ 51) × ¬ (x ≡ 52)

-- F1: at the line's start it owns a layout
unfoldable pub writing : Bool → Option Channel → Ending
writing first none = malformed
writing true (some ch) = layout ch
writing false (some ch) = write ch

-- F2
unfoldable pub copying : Option Channel → Ending
copying none = malformed
copying (some ch) = copy ch

-- ---- functions

unfoldable pub text_test : List ℕ → Ending
text_test [] = malformed
text_test (x ∷ s) =
    elim (eqb x 48) [
      | true ↦ skip_text true
      | false ↦
          elim (eqb x 49) [ true ↦ skip_text false | false ↦ malformed ]
    ]

unfoldable pub value_test : Marks → List ℕ → Ending
value_test m [] = malformed
value_test m (x ∷ s) =
    elim (eqb x 48) [
      | true ↦ skip_value Equal
      | false ↦
          elim (eqb x 49) [
            | true ↦ skip_value Unequal
            | false ↦
                elim (eqb x m.minus) [
                  | true ↦ skip_value Less
                  | false ↦
                      elim (eqb x m.plus) [ true ↦ skip_value Greater | false ↦ malformed ]
                ]
          ]
    ]

-- the functions that must begin their line
unfoldable pub line_function : Marks → ℕ → List ℕ → Ending
line_function m b s =
    elim (eqb b 48) [
      | true ↦ stop
      | false ↦
          elim (eqb b 50) [
            | true ↦ copying (channel_of s)
            | false ↦
                elim (eqb b 51) [
                  | true ↦ save
                  | false ↦
                      elim (eqb b 52) [
                        | true ↦ skip
                        | false ↦
                            elim (eqb b 53) [
                              | true ↦ text_test s
                              | false ↦
                                  elim (eqb b 54) [
                                    | true ↦ value_test m s
                                    | false ↦
                                        elim (eqb b 56) [
                                          | true ↦ again
                                          | false ↦
                                              elim (eqb b 57) [ true ↦ leave | false ↦ malformed ]
                                        ]
                                  ]
                            ]
                      ]
                ]
          ]
    ]

unfoldable pub function : Marks → Bool → ℕ → List ℕ → Form
function m first b s =
    elim (eqb b 49) [
      | true ↦ ends (writing first (channel_of s))
      | false ↦
          elim (eqb b 55) [
            | true ↦ ends repeat
            | false ↦
                elim first [ true ↦ ends (line_function m b s) | false ↦ ends malformed ]
          ]
    ]

-- a conversion of parameter d, where one is named
unfoldable pub converting : ℕ → Option Conversion → Form
converting d none = ends malformed
converting d (some c) = part (convert d c)

-- ed and the byte b; 6 and 7 end the code of their line
unfoldable pub conversion : ℕ → ℕ → List ℕ → Form
conversion d b s =
    elim (eqb b 54) [
      | true ↦ ends (assign d)
      | false ↦
          elim (eqb b 55) [ true ↦ ends (iterate d s) | false ↦ converting d (conversion_of b) ]
    ]

-- the two bytes after an escape, and what follows them
unfoldable pub form : Marks → Bool → ℕ → ℕ → List ℕ → Form
form m first a b s =
    elim (eqb a 70) [
      | true ↦ function m first b s
      | false ↦
          elim (eqb a 48) [
            | true ↦ elim (is_digit b) [ true ↦ part (serial (b - 48)) | false ↦ ends malformed ]
            | false ↦
                elim (is_digit a) [ true ↦ conversion (a - 48) b s | false ↦ ends malformed ]
          ]
    ]

-- a code line's content, read from left to right. `first`: it is the line's start
unfoldable pub parse : Marks → Bool → List ℕ → Code
parse m first [] = only offer
parse m first (x ∷ []) = elim (eqb x m.escape) [ true ↦ only malformed | false ↦ onto (byte x) (only offer) ]
parse m first (x ∷ a ∷ []) = elim (eqb x m.escape) [ true ↦ only malformed | false ↦ onto (byte x) (parse m false (a ∷ [])) ]
parse m first (x ∷ a ∷ b ∷ s) =
    elim (eqb x m.escape) [
      | true ↦ elim (form m first a b s) [ ends k ↦ only k | part p ↦ onto p (parse m false s) ]
      | false ↦ onto (byte x) (parse m false (a ∷ b ∷ s))
    ]

unfoldable pub effect_of : Ending → Effect
effect_of offer = Plain
effect_of (assign d) = Plain
effect_of (iterate d s) = Opens
effect_of stop = Plain
effect_of (write ch) = Plain
effect_of (layout ch) = Owns
effect_of (copy ch) = Plain
effect_of save = Plain
effect_of skip = Plain
effect_of (skip_text b) = Plain
effect_of (skip_value o) = Plain
effect_of repeat = Opens
effect_of again = Closes
effect_of leave = Plain
effect_of malformed = Malformed

unfoldable pub effect : Marks → List ℕ → Effect
effect m c = effect_of (parse m true c).ending
