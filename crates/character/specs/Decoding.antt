-- The character at a place, as the code answers it.
use Rattle.std.specs.Prelude.{◌≡◌, ℕ, ◌+◌, ◌≤◌, ◌<◌, [], ◌∷◌, length, drop, Option, Some, None, Result, Ok, Err}
use Rattle.std.proofs.Math.Option as Math
use Rattle.std.proofs.Math.Option.{none, some}
use Rattle.model.specs.Text.{Bytes}
use Rattle.model.specs.Utf8 as Utf8
use Rattle.model.specs.Utf8.{character_fault, character}
use Rattle.character.specs.declared.Character.{Character}
use Rattle.character.specs.declared.Malformed.{Malformed}

-- a character, or malformed bytes
abbrev pub Read : Type 0
Read = Result Character Malformed

-- what stands at a place: a character, nothing, or malformed bytes
abbrev pub Found : Type 0
Found = Result (Option Character) Malformed

-- the answer for a character that is to be read
abbrev pub read_of : Math.Option Utf8.Character → Read
read_of none = Err (record {})
read_of (some c) = Ok (record { code = c.code; len = length c.bytes })

-- the answer where something is
abbrev pub found_of : Read → Found
found_of (Ok c) = Ok (Some c)
found_of (Err e) = Err e

-- the answer at the front of a text
unfoldable pub decoded : Bytes → Found
decoded [] = Ok None
decoded (a ∷ s) = found_of (read_of (character (a ∷ s)))

-- document 01's number for an answer: 21 for malformed bytes
abbrev pub decoded_fault : Found → ℕ
decoded_fault (Ok o) = 0
decoded_fault (Err e) = character_fault none

-- a character from `at` on has one to four bytes, all in s, and its code point is at most 10FFFF
abbrev pub InBounds : Bytes → ℕ → Found → Type 0
InBounds s at (Ok (Some c)) = (c.code ≤ 1114111) × ((1 ≤ c.len) × ((c.len ≤ 4) × (at + c.len ≤ length s)))
InBounds s at (Ok None) = length s ≤ at
InBounds s at (Err e) = at < length s

-- r is what stands at place `at` of s
pub record ReadsCharacter (s : Bytes) (at : ℕ) (r : Found) : Type 0 where
  pub is : r ≡ decoded (drop at s)
  pub number : at < length s → decoded_fault r ≡ character_fault (character (drop at s))
  pub bounds : InBounds s at r
