-- What is done with characters, in the words of RFC 3629: the length and the code point of a parameter, and a pass without a list.
-- The theorems: length_counts, length_malformed, point_of_one, point_of_others, point_malformed, pass_takes, pass_malformed.
use mathlib.Core.Path.{◌≡◌, refl, ap, sym, ◌∙◌}
use mathlib.Core.Option.{Option, none, some}
use mathlib.Core.List.{List, [], ◌∷◌, ◌++◌, append-nil}
use Prim.Native.Nat.{ℕ}
use native.Mathlib.Omega.{arith}
use lib.ListN.{length}
use Rattle.model.specs.declared.Marks.{Marks}
use Rattle.model.specs.declared.Conversion.TheVariants.{Length, CodePoint}
use Rattle.model.specs.Text.{Bytes}
use Rattle.model.specs.Utf8.{Character, character, points, Point, encode, encode_all, Points, MalformedText, MalformedFront}
use Rattle.model.specs.Store.{decimal}
use Rattle.model.specs.Machine.{Loop, Frame, Shared, halts, param, failed, add, add_length, add_code_point, add_converted, one_pass, pass_of, take_pass}
use Rattle.model.proofs.Utf8.{decoded_is, encoded_character, encoded_points, points_encoded}

-- ---- malformed bytes decode to nothing

-- a text that is no row of encodings
text_malformed : (s : Bytes) → MalformedText s → points s ≡ none
text_malformed s h = by (points s) refl
  where
    by : (o : Option (List ℕ)) → points s ≡ o → points s ≡ none
    by none e = e
    by (some vs) e = let p = points_encoded s vs e in absurd (h vs p.0 p.1)

-- bytes with no encoding at the front
front_malformed : (s : Bytes) → MalformedFront s → character s ≡ none
front_malformed s h = by (character s) refl
  where
    by : (o : Option Character) → character s ≡ o → character s ≡ none
    by none e = e
    by (some c) e = let p = decoded_is s c e in absurd (h c.code c.rest p.point (p.joined ∙ ap (λ (b : Bytes). b ++ c.rest) p.encoded))

-- ---- conversions 5 and 8 of parameter d

module _ (m : Marks) (f : Frame) (d : ℕ) (l : Bytes) (w : Shared) where
  -- ed5 counts characters
  pub length_counts : (vs : List ℕ) → Points vs → param f d ≡ encode_all vs → add_converted m f d Length l w ≡ add l (decimal (length vs)) w
  unfolding add_converted add_length
  length_counts vs h e = ap (λ (o : Option (List ℕ)). add_length l o w) (ap points e ∙ encoded_points vs h)

  -- and gives 21 where one is malformed, wherever it stands
  pub length_malformed : MalformedText (param f d) → add_converted m f d Length l w ≡ failed 21 w
  unfolding add_converted add_length
  length_malformed h = ap (λ (o : Option (List ℕ)). add_length l o w) (text_malformed (param f d) h)

  -- ed8 gives the code point of exactly one character
  pub point_of_one : (v : ℕ) → Point v → param f d ≡ encode v → add_converted m f d CodePoint l w ≡ add l (decimal v) w
  unfolding add_converted add_code_point encode_all
  point_of_one v h e = ap (λ (o : Option (List ℕ)). add_code_point l o w) (ap points (e ∙ sym (append-nil (encode v))) ∙ encoded_points (v ∷ []) (h, tt))

  -- 16 of none and of several
  pub point_of_others : (vs : List ℕ) → Points vs → param f d ≡ encode_all vs → ¬ (length vs ≡ 1) → add_converted m f d CodePoint l w ≡ failed 16 w
  unfolding add_converted add_code_point
  point_of_others vs h e n = ap (λ (o : Option (List ℕ)). add_code_point l o w) (ap points e ∙ encoded_points vs h) ∙ by vs n
    where
      by : (us : List ℕ) → ¬ (length us ≡ 1) → add_code_point l (some us) w ≡ failed 16 w
      by [] n = refl
      by (v ∷ []) n = absurd (n refl)
      by (v ∷ u ∷ us) n = refl

  -- and 21 where one is malformed, however many there are
  pub point_malformed : MalformedText (param f d) → add_converted m f d CodePoint l w ≡ failed 21 w
  unfolding add_converted add_code_point
  point_malformed h = ap (λ (o : Option (List ℕ)). add_code_point l o w) (text_malformed (param f d) h)

-- ---- a pass without a list

-- takes the character that is read
pass_read : (m : Marks) (s : Bytes) (c : Character) → character s ≡ some c → pass_of m [] s ≡ one_pass (some c)
unfolding pass_of character
pass_read m [] c e = let z : ◌≡◌ {A = ℕ} 0 1 = cc in absurd (omega arith)
pass_read m (x ∷ s) c e = ap one_pass e

-- so it takes the encoding at the front, whatever follows
pub pass_takes : (m : Marks) (v : ℕ) (s : Bytes) → Point v → pass_of m [] (encode v ++ s) ≡ some (record { piece = encode v; delimiter = []; rest = s })
unfolding one_pass
pass_takes m v s h = pass_read m (encode v ++ s) _ (encoded_character v s h)

-- and gives 21 where that is malformed; what follows it is not looked at
pub pass_malformed : (m : Marks) (d x : ℕ) (s old : Bytes) (after : List Bytes) (ls : List Loop) (f : Frame) (w : Shared) → MalformedFront (x ∷ s)
    → take_pass d (pass_of m [] (x ∷ s)) [] old after ls f w ≡ halts 21 w
unfolding pass_of one_pass take_pass
pass_malformed m d x s old after ls f w h = ap (λ (o : Option Character). take_pass d (one_pass o) [] old after ls f w) (front_malformed (x ∷ s) h)
