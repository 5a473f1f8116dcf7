-- The characters of a text, counted.
use Rattle.std.specs.Prelude.{◌≡◌, List, [], ◌∷◌, ℕ, ◌+◌, ◌≤◌, length, Result, Ok, Err, IfOk, Option, Some, None, IfSome}
use Rattle.std.proofs.Math.Option as Math
use Rattle.std.proofs.Math.Option.{none, some}
use Rattle.model.specs.Text.{Bytes}
use Rattle.model.specs.Utf8.{points, points_fault}
use Rattle.character.specs.declared.Counted.{Counted}
use Rattle.character.specs.declared.Malformed.{Malformed}

-- the last code point, or v where there is none
unfoldable pub last_of : Option ℕ → List ℕ → Option ℕ
last_of v [] = v
last_of v (u ∷ us) = last_of (Some u) us

-- the answer for a text's code points, where n characters were counted before them and v is the last one's code point
unfoldable pub counted_from : ℕ → Option ℕ → Math.Option (List ℕ) → Result Counted Malformed
counted_from n v none = Err (record {})
counted_from n v (some us) = Ok (record { count = n + length us; code = last_of v us })

-- document 01's number for an answer: 21 where a character is malformed
abbrev pub counted_fault : Result Counted Malformed → ℕ
counted_fault (Ok r) = 0
counted_fault (Err e) = points_fault none

-- r counts the characters of s
pub record CountsCharacters (s : Bytes) (r : Result Counted Malformed) : Type 0 where
  pub is : r ≡ counted_from 0 None (points s)
  pub number : counted_fault r ≡ points_fault (points s)
  pub few : IfOk r (λ c. c.count ≤ length s)
  pub small : IfOk r (λ c. IfSome c.code (λ u. u ≤ 1114111))
