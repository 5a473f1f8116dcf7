-- The character at a place, by its first byte and its form.
use mathlib.Core.Path.{◌≡◌, refl, ap, ap₂, sym, ◌∙◌, subst}
use mathlib.Core.Bool.{Bool, true, ◌&&◌}
use mathlib.Core.Option.{Option, none, some}
use mathlib.Core.List.{[], ◌∷◌}
use Prim.Native.Nat.{ℕ, suc, ◌+◌, ◌-◌, ◌≤◌, ◌<◌}
use native.Mathlib.Numerals.{add-one}
use native.Mathlib.Omega.{arith}
use borrow.Author.Tests.{le-leb}
use lib.Dec.{eqb, leb}
use lib.ListN.{length, get_or, take, drop, drop_of_length-le, length-drop, length-append}
use lib.Seq.{drop-cons, drop-drop, take_at, take-length, drop_at}
use Rattle.std.specs.Prelude.{Ok, Err, Some, None, IsErr}
use Rattle.model.specs.Text.{Bytes, part}
use Rattle.model.specs.Utf8 as Utf8
use Rattle.model.specs.Utf8.{is_tail, is_second, character, character_fault, encode}
use Rattle.model.proofs.Choices.{false-not-true, both}
use Rattle.model.proofs.Utf8.{between, decoded_is}
use Rattle.character.specs.declared.Character.{Character}
use Rattle.character.specs.declared.Malformed.{Malformed}
use Rattle.character.specs.Decoding.{Read, Found, read_of, found_of, decoded, decoded_fault, InBounds, ReadsCharacter}

-- ---- the tests

-- one after the first of three or four is such a byte
pub second_tail : (a b : ℕ) → is_second a b ≡ true → is_tail b ≡ true
unfolding is_second is_tail
second_tail a b =
    both P (eqb a 224) _ _ (narrower 160 191 (omega arith) (omega arith))
    (both P (eqb a 237) _ _ (narrower 128 159 (omega arith) (omega arith))
    (both P (eqb a 240) _ _ (narrower 144 191 (omega arith) (omega arith)) (both P (eqb a 244) _ _ (narrower 128 143 (omega arith) (omega arith)) (λ e. e))))
  where
    P : Bool → Type 0
    P q = q ≡ true → (leb 128 b && leb b 191) ≡ true

    narrower : (l h : ℕ) → 128 ≤ l → h ≤ 191 → P (leb l b && leb b h)
    narrower l h x y e = let k = between l h b e in rw (le-leb 128 b (omega (arith, k.0)), le-leb b 191 (omega (arith, k.1)))

-- ---- the bounds

-- an encoding has at most four bytes
encode_most : (v : ℕ) → length (encode v) ≤ 4
unfolding encode
encode_most v = both P (leb v 127) _ _ (omega arith) (both P (leb v 2047) _ _ (omega arith) (both P (leb v 65535) _ _ (omega arith) (omega arith)))
  where
    P : Bytes → Type 0
    P b = length b ≤ 4

-- the answer at a place, with its number and its bounds
module _ (s : Bytes) (at : ℕ) where
  reads_there : (t : Bytes) → drop at s ≡ t → ReadsCharacter s at (decoded t)
  unfolding decoded
  reads_there [] e = let l = length-drop at s in let k = ap length e in record { is = ap decoded (sym e); number = λ h. absurd (omega arith); bounds = omega arith }
  reads_there (x ∷ t) e = by (character (x ∷ t)) refl
    where
      long : length s - at ≡ suc (length t)
      long = sym (length-drop at s) ∙ ap length e

      by : (o : Option Utf8.Character) → character (x ∷ t) ≡ o → ReadsCharacter s at (found_of (read_of o))
      by none p =
          record { is = sym (ap decoded e ∙ ap (λ (q : Option Utf8.Character). found_of (read_of q)) p); number = λ _. sym (ap character_fault (ap character e ∙ p)); bounds = let k = long in omega arith }
      by (some c) p =
          let h = decoded_is (x ∷ t) c p in
          let k = long in
          let j = ap length h.joined ∙ length-append c.bytes c.rest in
          record {
            is = sym (ap decoded e ∙ ap (λ (q : Option Utf8.Character). found_of (read_of q)) p);
            number = λ _. sym (ap character_fault (ap character e ∙ p));
            bounds = (h.point.small, (h.some_bytes, (rw h.encoded (encode_most c.code), omega arith)));
          }

module _ {s : Bytes} {at : ℕ} where
  reads : {r : Found} → r ≡ decoded (drop at s) → ReadsCharacter s at r
  reads e = subst (ReadsCharacter s at) (sym e) (reads_there s at (drop at s) refl)

  -- nothing is left
  pub reads_nothing : length s ≤ at → ReadsCharacter s at (Ok None)
  unfolding decoded
  reads_nothing h = reads (sym (ap decoded (drop_of_length-le s {i = at} h)))

  -- what begins with the byte there
  module _ {d : Read} (h : at < length s) (e : d ≡ read_of (character (get_or s at 0 ∷ take (length s - (at + 1)) (drop (at + 1) s)))) where
    reads_decoded : ReadsCharacter s at (found_of d)
    unfolding decoded
    reads_decoded =
        let n : length s - (at + 1) ≡ length (drop (at + 1) s) = sym (length-drop (at + 1) s) in
        let t : take (length s - (at + 1)) (drop (at + 1) s) ≡ drop (suc at) s = ap (λ (i : ℕ). take i (drop (at + 1) s)) n ∙ take-length (drop (at + 1) s) ∙ rw add-one refl in
        reads (ap found_of (e ∙ ap (λ (l : Bytes). read_of (character (get_or s at 0 ∷ l))) t) ∙ sym (ap decoded (drop-cons s at 0 h)))

    pub reads_one : {c : Character} → d ≡ Ok c → ReadsCharacter s at (Ok (Some c))
    reads_one f = subst (λ (x : Read). ReadsCharacter s at (found_of x)) f reads_decoded

    pub reads_malformed : {z : Malformed} {r : Found} → d ≡ Err z → IsErr r → ReadsCharacter s at r
    reads_malformed {r = Ok o} f g = false-not-true g
    reads_malformed {r = Err z} f g = subst (λ (x : Read). ReadsCharacter s at (found_of x)) f reads_decoded

-- ---- what a caller learns, by the case

-- the definition's character, from the answer's numbers
found : (t : Bytes) (c : Character) → Ok (Some c) ≡ decoded t → character t ≡ some (record { code = c.code; bytes = take c.len t; rest = drop c.len t })
unfolding decoded
found [] c e = let z : ◌≡◌ {A = ℕ} 0 1 = cc in absurd (omega arith)
found (x ∷ t) r e = by (character (x ∷ t)) refl e
  where
    by : (o : Option Utf8.Character) → character (x ∷ t) ≡ o → Ok (Some r) ≡ found_of (read_of o) → o ≡ some (record { code = r.code; bytes = take r.len (x ∷ t); rest = drop r.len (x ∷ t) })
    by none p q = let z : ◌≡◌ {A = ℕ} 0 1 = cc in absurd (omega arith)
    by (some c) p q =
        let h = decoded_is (x ∷ t) c p in
        let same : r ≡ record { code = c.code; len = length c.bytes } = cc in
        let n : length c.bytes ≡ r.len = sym (ap (λ (y : Character). y.len) same) in
        let v : c.code ≡ r.code = sym (ap (λ (y : Character). y.code) same) in
        let front : c.bytes ≡ take r.len (x ∷ t) = sym (ap (take r.len) h.joined ∙ take_at c.bytes c.rest r.len n) in
        let back : c.rest ≡ drop r.len (x ∷ t) = sym (ap (drop r.len) h.joined ∙ drop_at c.bytes c.rest r.len n) in
        λ i. some (record { code = v i; bytes = front i; rest = back i })

-- only where there is no character the number is that of none
lost : (o : Option Utf8.Character) → character_fault none ≡ character_fault o → o ≡ none
lost none e = refl
lost (some c) e = absurd (omega arith)

module _ {s : Bytes} {at : ℕ} {r : Found} (k : ReadsCharacter s at r) where
  module _ {c : Character} (e : r ≡ Ok (Some c)) where
    -- it is in bounds
    pub one_bounds : (c.code ≤ 1114111) × ((1 ≤ c.len) × ((c.len ≤ 4) × (at + c.len ≤ length s)))
    one_bounds = subst (InBounds s at) e k.bounds

    -- it is the definition's character
    pub one_is : character (drop at s) ≡ some (record { code = c.code; bytes = part s at (at + c.len); rest = drop (at + c.len) s })
    one_is =
        let n : at + c.len - at ≡ c.len = omega arith in
        found (drop at s) c (sym e ∙ k.is)
        ∙ ap₂ (λ (a b : Bytes). some (record { code = c.code; bytes = a; rest = b })) (ap (λ (i : ℕ). take i (drop at s)) (sym n)) (drop-drop c.len at s)

  module _ {z : Malformed} (e : r ≡ Err z) where
    -- malformed bytes lie in the text
    pub malformed_bounds : at < length s
    malformed_bounds = subst (InBounds s at) e k.bounds

    -- and the definition has no character there
    pub malformed_is : character (drop at s) ≡ none
    malformed_is = lost (character (drop at s)) (sym (ap decoded_fault e) ∙ k.number malformed_bounds)

  -- nothing is left at the end alone
  pub nothing_bounds : r ≡ Ok None → length s ≤ at
  nothing_bounds e = subst (InBounds s at) e k.bounds
