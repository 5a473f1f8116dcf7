-- Characters of UTF-8 (RFC 3629; document 02, ticket 1): the character at the front of bytes, the code points of a text, and the encoding of a code point.
use Rattle.std.specs.Prelude.{◌≡◌, ◌⊎◌, Bool, true, false, ◌&&◌, List, [], ◌∷◌, ◌++◌, ℕ, zero, suc, ◌+◌, ◌-◌, ◌*◌, ◌/◌, ◌%◌, ◌≤◌, ◌<◌, eqb, leb, length}
use Rattle.std.proofs.Math.Option.{Option, none, some}
use Rattle.model.specs.Text.{Bytes}

-- ---- reading (RFC 3629, section 4)

-- a character: its code point, its bytes, and what follows them
pub record Character : Type 0 where
  pub code : ℕ
  pub bytes : Bytes
  pub rest : Bytes

-- document 01's number for the character that is to be read: 21 where it is malformed
abbrev pub character_fault : Option Character → ℕ
character_fault none = 21
character_fault (some c) = 0

-- UTF8-tail: 80 to BF
unfoldable pub is_tail : ℕ → Bool
is_tail b = leb 128 b && leb b 191

-- the byte b after a first byte a of three or four: A0 to BF after E0 and 90 to BF after F0, so that no form is overlong; 80 to 9F after ED, so that
-- there is no surrogate; 80 to 8F after F4, so that nothing is above 10FFFF; else UTF8-tail
unfoldable pub is_second : ℕ → ℕ → Bool
is_second a b =
    elim (eqb a 224) [
      | true ↦ leb 160 b && leb b 191
      | false ↦ elim (eqb a 237) [
        | true ↦ leb 128 b && leb b 159
        | false ↦ elim (eqb a 240) [
          | true ↦ leb 144 b && leb b 191
          | false ↦ elim (eqb a 244) [ true ↦ leb 128 b && leb b 143 | false ↦ is_tail b ]
        ]
      ]
    ]

-- UTF8-2, UTF8-3 and UTF8-4, from what follows their first byte a
unfoldable pub of_two : ℕ → Bytes → Option Character
of_two a [] = none
of_two a (b ∷ s) = elim (is_tail b) [ true ↦ some (record { code = (a - 192) * 64 + (b - 128); bytes = a ∷ b ∷ []; rest = s }) | false ↦ none ]

unfoldable pub of_three : ℕ → Bytes → Option Character
of_three a [] = none
of_three a (b ∷ []) = none
of_three a (b ∷ c ∷ s) =
    elim (is_second a b && is_tail c) [
      | true ↦ some (record { code = (a - 224) * 4096 + (b - 128) * 64 + (c - 128); bytes = a ∷ b ∷ c ∷ []; rest = s })
      | false ↦ none
    ]

unfoldable pub of_four : ℕ → Bytes → Option Character
of_four a [] = none
of_four a (b ∷ []) = none
of_four a (b ∷ c ∷ []) = none
of_four a (b ∷ c ∷ d ∷ s) =
    elim (is_second a b && (is_tail c && is_tail d)) [
      | true ↦ some (record { code = (a - 240) * 262144 + (b - 128) * 4096 + (c - 128) * 64 + (d - 128); bytes = a ∷ b ∷ c ∷ d ∷ []; rest = s })
      | false ↦ none
    ]

-- the character at the front; none where it is malformed, and where nothing is left
unfoldable pub character : Bytes → Option Character
character [] = none
character (a ∷ s) =
    elim (leb a 127) [
      | true ↦ some (record { code = a; bytes = a ∷ []; rest = s })
      | false ↦ elim (leb 194 a && leb a 223) [
        | true ↦ of_two a s
        | false ↦ elim (leb 224 a && leb a 239) [
          | true ↦ of_three a s
          | false ↦ elim (leb 240 a && leb a 244) [ true ↦ of_four a s | false ↦ none ]
        ]
      ]
    ]

-- a code point in front of the others
unfoldable pub onto_points : ℕ → Option (List ℕ) → Option (List ℕ)
onto_points v none = none
onto_points v (some vs) = some (v ∷ vs)

-- the code points of what follows the next k bytes; these belong to a character that is already read
unfoldable pub points_from : ℕ → Bytes → Option (List ℕ)
points_from k [] = some []
points_from (suc k) (x ∷ s) = points_from k s
points_from zero (x ∷ s) = elim (character (x ∷ s)) [ none ↦ none | some c ↦ onto_points c.code (points_from (length c.bytes - 1) s) ]

-- the code points of a text's characters, or none where one of them is malformed
unfoldable pub points : Bytes → Option (List ℕ)
points s = points_from 0 s

-- document 01's number for the characters of a text: 21 where one is malformed
abbrev pub points_fault : Option (List ℕ) → ℕ
points_fault none = character_fault none
points_fault (some vs) = 0

-- ---- encoding (RFC 3629, section 3)

-- a code point: 0 to 10FFFF without the surrogates D800 to DFFF
pub record Point (v : ℕ) : Type 0 where
  pub small : v ≤ 1114111
  pub no_surrogate : (v < 55296) ⊎ (57343 < v)

-- the bytes of a code point, by its size
unfoldable pub encode : ℕ → Bytes
encode v =
    elim (leb v 127) [
      | true ↦ v ∷ []
      | false ↦ elim (leb v 2047) [
        | true ↦ (192 + v / 64) ∷ (128 + v % 64) ∷ []
        | false ↦ elim (leb v 65535) [
          | true ↦ (224 + v / 4096) ∷ (128 + v / 64 % 64) ∷ (128 + v % 64) ∷ []
          | false ↦ (240 + v / 262144) ∷ (128 + v / 4096 % 64) ∷ (128 + v / 64 % 64) ∷ (128 + v % 64) ∷ []
        ]
      ]
    ]

-- the bytes of several, one after another
unfoldable pub encode_all : List ℕ → Bytes
encode_all [] = []
encode_all (v ∷ vs) = encode v ++ encode_all vs

-- all of them are code points
abbrev pub Points : List ℕ → Type 0
Points [] = Unit {0}
Points (v ∷ vs) = Point v × Points vs

-- c stands at the front of s, and is the encoding of its code point
pub record Leads (s : Bytes) (c : Character) : Type 0 where
  pub point : Point c.code
  pub encoded : c.bytes ≡ encode c.code
  pub joined : s ≡ c.bytes ++ c.rest
  pub some_bytes : 0 < length c.bytes

-- s is no row of encodings: malformed by the RFC
abbrev pub MalformedText : Bytes → Type 0
MalformedText s = (vs : List ℕ) → Points vs → ¬ (s ≡ encode_all vs)

-- no encoding stands at the front of s
abbrev pub MalformedFront : Bytes → Type 0
MalformedFront s = (v : ℕ) (rest : Bytes) → Point v → ¬ (s ≡ encode v ++ rest)
