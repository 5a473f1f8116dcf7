-- Decoding and encoding of UTF-8 undo each other (RFC 3629): of one character, and of a text.
-- The theorems: character_is, decoded_is, encoded_character, encoded_points, points_encoded, points_of, points_few.
use mathlib.Core.Path.{◌≡◌, refl, ap, sym, ◌∙◌, subst}
use mathlib.Core.Logic.{inl, inr}
use mathlib.Core.Bool.{Bool, true, false, ◌&&◌}
use mathlib.Core.Option.{Option, none, some}
use mathlib.Core.List.{List, [], ◌∷◌, ◌++◌}
use Prim.Native.Nat.{ℕ, suc, ◌+◌, ◌-◌, ◌*◌, ◌/◌, ◌%◌, ◌≤◌, ◌<◌}
use native.Mathlib.Omega.{arith}
use borrow.Author.Tests.{leb-true, leb-false, eqb-true, eqb-false, le-leb, lt-leb}
use lib.Dec.{eqb, leb}
use lib.ListN.{length, length-append}
use Rattle.model.specs.Text.{Bytes}
use Rattle.model.specs.Utf8.{Character, is_tail, is_second, of_two, of_three, of_four, character, onto_points, points_from, points, Point, encode, encode_all, Points, Leads}
use Rattle.model.proofs.Choices.{both, split, and_left, and_right, and_both}

-- ---- a code point's encoding, by its size

-- one byte
encode_one : (v : ℕ) → v ≤ 127 → encode v ≡ v ∷ []
unfolding encode
encode_one v h = rw (le-leb v 127 h, encode) refl

-- two bytes
encode_two : (v : ℕ) → 127 < v → v ≤ 2047 → encode v ≡ (192 + v / 64) ∷ (128 + v % 64) ∷ []
unfolding encode
encode_two v l h = rw (lt-leb v 127 l, le-leb v 2047 h, encode) refl

-- three bytes
encode-three : (v : ℕ) → 2047 < v → v ≤ 65535 → encode v ≡ (224 + v / 4096) ∷ (128 + v / 64 % 64) ∷ (128 + v % 64) ∷ []
unfolding encode
encode-three v l h = rw (lt-leb v 127 (omega arith), lt-leb v 2047 l, le-leb v 65535 h, encode) refl

-- four bytes
encode_four : (v : ℕ) → 65535 < v → encode v ≡ (240 + v / 262144) ∷ (128 + v / 4096 % 64) ∷ (128 + v / 64 % 64) ∷ (128 + v % 64) ∷ []
unfolding encode
encode_four v l = rw (lt-leb v 127 (omega arith), lt-leb v 2047 (omega arith), lt-leb v 65535 l, encode) refl

-- ---- the tests of later bytes

-- a byte that is tested at both ends
pub between : (l h b : ℕ) → (leb l b && leb b h) ≡ true → (l ≤ b) × (b ≤ h)
between l h b e = (leb-true l b (and_left _ _ e), leb-true b h (and_right (leb l b) (leb b h) e))

-- a later byte is 80 to BF
pub tail_is : (b : ℕ) → is_tail b ≡ true → (128 ≤ b) × (b ≤ 191)
unfolding is_tail
tail_is b e = between 128 191 b e

-- 80 to BF is a later byte
is-tail : (b : ℕ) → 128 ≤ b → b ≤ 191 → is_tail b ≡ true
unfolding is_tail
is-tail b l h = and_both (leb 128 b) (leb b 191) (le-leb 128 b l) (le-leb b 191 h)

-- after E0, so that no form is overlong
after_e0 : (b : ℕ) → is_second 224 b ≡ true → (160 ≤ b) × (b ≤ 191)
unfolding is_second
after_e0 b e = let q = between _ _ b e in (omega (arith, q.0), omega (arith, q.1))

-- after ED, so that there is no surrogate
after_ed : (b : ℕ) → is_second 237 b ≡ true → (128 ≤ b) × (b ≤ 159)
unfolding is_second
after_ed b e = let q = between _ _ b e in (omega (arith, q.0), omega (arith, q.1))

-- after F0, so that no form is overlong
after_f0 : (b : ℕ) → is_second 240 b ≡ true → (144 ≤ b) × (b ≤ 191)
unfolding is_second
after_f0 b e = let q = between _ _ b e in (omega (arith, q.0), omega (arith, q.1))

-- after F4, so that nothing is above 10FFFF
after_f4 : (b : ℕ) → is_second 244 b ≡ true → (128 ≤ b) × (b ≤ 143)
unfolding is_second
after_f4 b e = let q = between _ _ b e in (omega (arith, q.0), omega (arith, q.1))

-- what holds of a second byte b after a
record SecondIs (a b : ℕ) : Type 0 where
  low : 128 ≤ b
  high : b ≤ 191
  e0 : a ≡ 224 → 160 ≤ b
  ed : a ≡ 237 → b ≤ 159
  f0 : a ≡ 240 → 144 ≤ b
  f4 : a ≡ 244 → b ≤ 143

-- the test says that it is one
second_is : (a b : ℕ) → is_second a b ≡ true → SecondIs a b
unfolding is_second
second_is a b =
    split P (eqb a 224) (is_second 224 b) _ (λ p e. let q = after_e0 b e in let z = eqb-true a 224 p in record { low = omega (arith, q.0); high = q.1; e0 = λ _. q.0; ed = omega arith; f0 = omega arith; f4 = omega arith }) (λ p.
    split P (eqb a 237) (is_second 237 b) _ (λ r e. let q = after_ed b e in let z = eqb-true a 237 r in record { low = q.0; high = omega (arith, q.1); e0 = omega arith; ed = λ _. q.1; f0 = omega arith; f4 = omega arith }) (λ r.
    split P (eqb a 240) (is_second 240 b) _ (λ t e. let q = after_f0 b e in let z = eqb-true a 240 t in record { low = omega (arith, q.0); high = q.1; e0 = omega arith; ed = omega arith; f0 = λ _. q.0; f4 = omega arith }) (λ t.
    split P (eqb a 244) (is_second 244 b) _ (λ u e. let q = after_f4 b e in let z = eqb-true a 244 u in record { low = q.0; high = omega (arith, q.1); e0 = omega arith; ed = omega arith; f0 = omega arith; f4 = λ _. q.1 }) (λ u e.
    let q = tail_is b e in
    record { low = q.0; high = q.1; e0 = λ z. absurd (eqb-false a 224 p z); ed = λ z. absurd (eqb-false a 237 r z); f0 = λ z. absurd (eqb-false a 240 t z); f4 = λ z. absurd (eqb-false a 244 u z) }))))
  where
    P : Bool → Type 0
    P x = x ≡ true → SecondIs a b

-- and one passes the test
is-second : (a b : ℕ) → SecondIs a b → is_second a b ≡ true
unfolding is_second
is-second a b h = split P (eqb a 224) _ _ (λ p. and_both _ _ (le-leb 160 b (h.e0 (eqb-true a 224 p))) (le-leb b 191 h.high))
    (λ p. split P (eqb a 237) _ _ (λ r. and_both _ _ (le-leb 128 b h.low) (le-leb b 159 (h.ed (eqb-true a 237 r))))
    (λ r. split P (eqb a 240) _ _ (λ t. and_both _ _ (le-leb 144 b (h.f0 (eqb-true a 240 t))) (le-leb b 191 h.high))
    (λ t. split P (eqb a 244) _ _ (λ u. and_both _ _ (le-leb 128 b h.low) (le-leb b 143 (h.f4 (eqb-true a 244 u))))
    (λ u. is-tail b h.low h.high))))
  where
    P : Bool → Type 0
    P x = x ≡ true

-- ---- whatever decodes is an encoding

-- what is read from the front of s, if anything is
abbrev pub CharacterIs : Bytes → Option Character → Type 0
CharacterIs s none = Unit {0}
CharacterIs s (some c) = Leads s c

-- a character of two bytes
two_is : (a : ℕ) (s : Bytes) → 194 ≤ a → a ≤ 223 → CharacterIs (a ∷ s) (of_two a s)
unfolding of_two
two_is a [] l h = tt
two_is a (b ∷ s) l h = split (CharacterIs (a ∷ b ∷ s)) (is_tail b) _ none (λ e. made (tail_is b e)) (λ e. tt)
  where
    v : ℕ
    v = (a - 192) * 64 + (b - 128)

    made : (128 ≤ b) × (b ≤ 191) → Leads (a ∷ b ∷ s) (record { code = v; bytes = a ∷ b ∷ []; rest = s })
    made t =
        let p : a ≡ 192 + v / 64 = omega arith in
        let q : b ≡ 128 + v % 64 = omega arith in
        record {
          point = record { small = omega arith; no_surrogate = inl (omega arith) };
          encoded = ap (λ (x : ℕ). x ∷ b ∷ []) p ∙ (ap (λ (y : ℕ). (192 + v / 64) ∷ y ∷ []) q ∙ sym (encode_two v (omega arith) (omega arith)));
          joined = refl;
          some_bytes = omega arith;
        }

-- a character of three bytes: above the overlong ones, and no surrogate
three_is : (a : ℕ) (s : Bytes) → 224 ≤ a → a ≤ 239 → CharacterIs (a ∷ s) (of_three a s)
unfolding of_three
three_is a [] l h = tt
three_is a (b ∷ []) l h = tt
three_is a (b ∷ c ∷ s) l h = split (CharacterIs (a ∷ b ∷ c ∷ s)) (is_second a b && is_tail c) _ none (λ e. made (second_is a b (and_left _ _ e)) (tail_is c (and_right (is_second a b) _ e))) (λ e. tt)
  where
    v : ℕ
    v = (a - 224) * 4096 + (b - 128) * 64 + (c - 128)

    least : SecondIs a b → (x : Bool) → eqb a 224 ≡ x → 2048 ≤ v
    least g true e = let z = eqb-true a 224 e in let k = g.e0 z in omega arith
    least g false e = let z = eqb-false a 224 e in omega arith

    point : SecondIs a b → (128 ≤ c) × (c ≤ 191) → (x : Bool) → eqb a 237 ≡ x → (y : Bool) → leb a 236 ≡ y → Point v
    point g t true e y f = let z = eqb-true a 237 e in let k = g.ed z in record { small = omega (arith, g.high); no_surrogate = inl (omega arith) }
    point g t false e true f = let z = leb-true a 236 f in record { small = omega (arith, g.high); no_surrogate = inl (omega (arith, g.high)) }
    point g t false e false f = let z = eqb-false a 237 e in let y = leb-false a 236 f in record { small = omega (arith, g.high); no_surrogate = inr (omega arith) }

    made : SecondIs a b → (128 ≤ c) × (c ≤ 191) → Leads (a ∷ b ∷ c ∷ s) (record { code = v; bytes = a ∷ b ∷ c ∷ []; rest = s })
    made g t =
        let k : 2048 ≤ v = least g (eqb a 224) refl in
        let p : a ≡ 224 + v / 4096 = omega (arith, g.low, g.high) in
        let q : b ≡ 128 + v / 64 % 64 = omega (arith, g.low, g.high) in
        let r : c ≡ 128 + v % 64 = omega arith in
        record {
          point = point g t (eqb a 237) refl (leb a 236) refl;
          encoded = ap (λ (x : ℕ). x ∷ b ∷ c ∷ []) p ∙ (ap (λ (y : ℕ). (224 + v / 4096) ∷ y ∷ c ∷ []) q ∙ (ap (λ (z : ℕ). (224 + v / 4096) ∷ (128 + v / 64 % 64) ∷ z ∷ []) r ∙ sym (encode-three v k (omega (arith, g.high)))));
          joined = refl;
          some_bytes = omega arith;
        }

-- a character of four bytes: above the overlong ones, and at most 10FFFF
four_is : (a : ℕ) (s : Bytes) → 240 ≤ a → a ≤ 244 → CharacterIs (a ∷ s) (of_four a s)
unfolding of_four
four_is a [] l h = tt
four_is a (b ∷ []) l h = tt
four_is a (b ∷ c ∷ []) l h = tt
four_is a (b ∷ c ∷ d ∷ s) l h =
    split (CharacterIs (a ∷ b ∷ c ∷ d ∷ s)) (is_second a b && (is_tail c && is_tail d)) _ none
    (λ e. let k = and_right (is_second a b) (is_tail c && is_tail d) e in made (second_is a b (and_left _ _ e)) (tail_is c (and_left _ _ k)) (tail_is d (and_right (is_tail c) _ k))) (λ e. tt)
  where
    v : ℕ
    v = (a - 240) * 262144 + (b - 128) * 4096 + (c - 128) * 64 + (d - 128)

    least : SecondIs a b → (x : Bool) → eqb a 240 ≡ x → 65536 ≤ v
    least g true e = let z = eqb-true a 240 e in let k = g.f0 z in omega arith
    least g false e = let z = eqb-false a 240 e in omega arith

    most : SecondIs a b → (128 ≤ c) × (c ≤ 191) → (128 ≤ d) × (d ≤ 191) → (x : Bool) → eqb a 244 ≡ x → v ≤ 1114111
    most g t u true e = let z = eqb-true a 244 e in let k = g.f4 z in omega arith
    most g t u false e = let z = eqb-false a 244 e in omega (arith, g.high)

    made : SecondIs a b → (128 ≤ c) × (c ≤ 191) → (128 ≤ d) × (d ≤ 191) → Leads (a ∷ b ∷ c ∷ d ∷ s) (record { code = v; bytes = a ∷ b ∷ c ∷ d ∷ []; rest = s })
    made g t u =
        let k : 65536 ≤ v = least g (eqb a 240) refl in
        let p : a ≡ 240 + v / 262144 = omega (arith, g.low, g.high) in
        let q : b ≡ 128 + v / 4096 % 64 = omega (arith, g.low, g.high) in
        let r : c ≡ 128 + v / 64 % 64 = omega (arith, g.low, g.high) in
        let o : d ≡ 128 + v % 64 = omega arith in
        record {
          point = record { small = most g t u (eqb a 244) refl; no_surrogate = inr (omega arith) };
          encoded = ap (λ (x : ℕ). x ∷ b ∷ c ∷ d ∷ []) p ∙ (ap (λ (y : ℕ). (240 + v / 262144) ∷ y ∷ c ∷ d ∷ []) q
              ∙ (ap (λ (z : ℕ). (240 + v / 262144) ∷ (128 + v / 4096 % 64) ∷ z ∷ d ∷ []) r ∙ (ap (λ (z : ℕ). (240 + v / 262144) ∷ (128 + v / 4096 % 64) ∷ (128 + v / 64 % 64) ∷ z ∷ []) o ∙ sym (encode_four v k))));
          joined = refl;
          some_bytes = omega arith;
        }

-- the character at the front is the encoding of its code point
pub character_is : (s : Bytes) → CharacterIs s (character s)
unfolding character
character_is [] = tt
character_is (a ∷ s) =
    split (CharacterIs (a ∷ s)) (leb a 127) _ _ (λ e. let h = leb-true a 127 e in record { point = record { small = omega arith; no_surrogate = inl (omega arith) }; encoded = sym (encode_one a h); joined = refl; some_bytes = omega arith }) (λ _.
    split (CharacterIs (a ∷ s)) (leb 194 a && leb a 223) _ _ (λ e. let h = between 194 223 a e in two_is a s h.0 h.1) (λ _.
    split (CharacterIs (a ∷ s)) (leb 224 a && leb a 239) _ _ (λ e. let h = between 224 239 a e in three_is a s h.0 h.1) (λ _.
    split (CharacterIs (a ∷ s)) (leb 240 a && leb a 244) _ none (λ e. let h = between 240 244 a e in four_is a s h.0 h.1) (λ _. tt))))

-- a decoded character is one
pub decoded_is : (s : Bytes) (c : Character) → character s ≡ some c → Leads s c
decoded_is s c e = subst (CharacterIs s) e (character_is s)

-- ---- every encoding decodes

-- a first byte C2 to DF
character_two : (a : ℕ) (s : Bytes) → 194 ≤ a → a ≤ 223 → character (a ∷ s) ≡ of_two a s
unfolding character
character_two a s l h = rw (lt-leb a 127 (omega arith), le-leb 194 a l, le-leb a 223 h, character) refl

-- a first byte E0 to EF
character-three : (a : ℕ) (s : Bytes) → 224 ≤ a → a ≤ 239 → character (a ∷ s) ≡ of_three a s
unfolding character
character-three a s l h = rw (lt-leb a 127 (omega arith), le-leb 194 a (omega arith), lt-leb a 223 (omega arith), le-leb 224 a l, le-leb a 239 h, character) refl

-- a first byte F0 to F4
character_four : (a : ℕ) (s : Bytes) → 240 ≤ a → a ≤ 244 → character (a ∷ s) ≡ of_four a s
unfolding character
character_four a s l h = rw (lt-leb a 127 (omega arith), le-leb 194 a (omega arith), lt-leb a 223 (omega arith), le-leb 224 a (omega arith), lt-leb a 239 (omega arith), le-leb 240 a l, le-leb a 244 h, character) refl

-- the encoding in two bytes
two_decodes : (v : ℕ) (s : Bytes) → 127 < v → v ≤ 2047
    → character ((192 + v / 64) ∷ (128 + v % 64) ∷ s) ≡ some (record { code = v; bytes = (192 + v / 64) ∷ (128 + v % 64) ∷ []; rest = s })
unfolding of_two
two_decodes v s l h = character_two a (b ∷ s) (omega arith) (omega arith) ∙ rw (is-tail b (omega arith) (omega arith), of_two) (ap made (omega arith))
  where
    a : ℕ
    a = 192 + v / 64

    b : ℕ
    b = 128 + v % 64

    made : ℕ → Option Character
    made n = some (record { code = n; bytes = a ∷ b ∷ []; rest = s })

-- the encoding in three bytes
three_decodes : (v : ℕ) (s : Bytes) → 2047 < v → v ≤ 65535 → Point v
    → character ((224 + v / 4096) ∷ (128 + v / 64 % 64) ∷ (128 + v % 64) ∷ s)
    ≡ some (record { code = v; bytes = (224 + v / 4096) ∷ (128 + v / 64 % 64) ∷ (128 + v % 64) ∷ []; rest = s })
unfolding of_three
three_decodes v s l h k =
    character-three a (b ∷ c ∷ s) (omega arith) (omega arith) ∙ rw (is-second a b (second k), is-tail c (omega arith) (omega arith), of_three) (ap made (omega arith))
  where
    a : ℕ
    a = 224 + v / 4096

    b : ℕ
    b = 128 + v / 64 % 64

    c : ℕ
    c = 128 + v % 64

    made : ℕ → Option Character
    made n = some (record { code = n; bytes = a ∷ b ∷ c ∷ []; rest = s })

    second : Point v → SecondIs a b
    second p =
        elim p.no_surrogate as (λ _. SecondIs a b) [
          | inl x ↦ record { low = omega arith; high = omega arith; e0 = omega arith; ed = omega arith; f0 = omega arith; f4 = omega arith }
          | inr x ↦ record { low = omega arith; high = omega arith; e0 = omega arith; ed = omega arith; f0 = omega arith; f4 = omega arith }
        ]

-- the encoding in four bytes
four_decodes : (v : ℕ) (s : Bytes) → 65535 < v → v ≤ 1114111
    → character ((240 + v / 262144) ∷ (128 + v / 4096 % 64) ∷ (128 + v / 64 % 64) ∷ (128 + v % 64) ∷ s)
    ≡ some (record { code = v; bytes = (240 + v / 262144) ∷ (128 + v / 4096 % 64) ∷ (128 + v / 64 % 64) ∷ (128 + v % 64) ∷ []; rest = s })
unfolding of_four
four_decodes v s l h =
    character_four a (b ∷ c ∷ d ∷ s) (omega arith) (omega arith)
    ∙ rw (is-second a b second, is-tail c (omega arith) (omega arith), is-tail d (omega arith) (omega arith), of_four) (ap made value)
  where
    a : ℕ
    a = 240 + v / 262144

    b : ℕ
    b = 128 + v / 4096 % 64

    c : ℕ
    c = 128 + v / 64 % 64

    d : ℕ
    d = 128 + v % 64

    made : ℕ → Option Character
    made n = some (record { code = n; bytes = a ∷ b ∷ c ∷ d ∷ []; rest = s })

    value : (a - 240) * 262144 + (b - 128) * 4096 + (c - 128) * 64 + (d - 128) ≡ v
    value =
        let x : v / 4096 ≡ v / 64 / 64 = omega arith in
        let y : v / 262144 ≡ v / 4096 / 64 = omega arith in
        omega arith

    second : SecondIs a b
    second = record { low = omega arith; high = omega arith; e0 = omega arith; ed = omega arith; f0 = omega arith; f4 = omega arith }

-- the encoding of a code point decodes to it, whatever follows
pub encoded_character : (v : ℕ) (s : Bytes) → Point v → character (encode v ++ s) ≡ some (record { code = v; bytes = encode v; rest = s })
unfolding character
encoded_character v s h = by (leb v 127) refl (leb v 2047) refl (leb v 65535) refl
  where
    Good : Bytes → Type 0
    Good b = character (b ++ s) ≡ some (record { code = v; bytes = b; rest = s })

    by : (x : Bool) → leb v 127 ≡ x → (y : Bool) → leb v 2047 ≡ y → (z : Bool) → leb v 65535 ≡ z → Good (encode v)
    by true p y q z r = rw (encode_one v (leb-true v 127 p), p, character) refl
    by false p true q z r = rw (encode_two v (leb-false v 127 p) (leb-true v 2047 q)) (two_decodes v s (leb-false v 127 p) (leb-true v 2047 q))
    by false p false q true r = rw (encode-three v (leb-false v 2047 q) (leb-true v 65535 r)) (three_decodes v s (leb-false v 2047 q) (leb-true v 65535 r) h)
    by false p false q false r = rw (encode_four v (leb-false v 65535 r)) (four_decodes v s (leb-false v 65535 r) h.small)

-- ---- whole texts

-- the bytes of a character are passed
skip-bytes : (bs s : Bytes) → points_from (length bs) (bs ++ s) ≡ points_from 0 s
unfolding points_from
skip-bytes [] s = refl
skip-bytes (b ∷ bs) s = skip-bytes bs s

-- the code points of a text that begins with a character: its own, then those of the rest
pub points-onto : (s : Bytes) (c : Character) → character s ≡ some c → points s ≡ onto_points c.code (points c.rest)
unfolding points points_from character
points-onto [] c e = let z : ◌≡◌ {A = ℕ} 0 1 = cc in absurd (omega arith)
points-onto (x ∷ s) c e = let h = decoded_is (x ∷ s) c e in rw (e, points_from) (ap (onto_points c.code) (by c.bytes h.joined h.some_bytes))
  where
    by : (bs : Bytes) → x ∷ s ≡ bs ++ c.rest → 0 < length bs → points_from (length bs - 1) s ≡ points_from 0 c.rest
    by [] j k = absurd (omega arith)
    by (b ∷ bs) j k =
        let t : s ≡ bs ++ c.rest = cc in
        let n : suc (length bs) - 1 ≡ length bs = omega arith in
        rw (n, t) (skip-bytes bs c.rest)

-- the encodings of code points, one after another, decode to them
pub encoded_points : (vs : List ℕ) → Points vs → points (encode_all vs) ≡ some vs
unfolding encode_all points points_from onto_points
encoded_points [] h = refl
encoded_points (v ∷ vs) h =
    points-onto (encode v ++ encode_all vs) _ (encoded_character v (encode_all vs) h.0) ∙ ap (onto_points v) (encoded_points vs h.1)

-- a malformed character makes its text malformed
pub points_none : (x : ℕ) (s : Bytes) → character (x ∷ s) ≡ none → points (x ∷ s) ≡ none
unfolding points points_from
points_none x s e = rw (e, points_from) refl

-- a character more is never none
onto_empty : (u : ℕ) (o : Option (List ℕ)) → onto_points u o ≡ some [] → ⊥
unfolding onto_points
onto_empty u none e = let z : ◌≡◌ {A = ℕ} 0 1 = cc in omega arith
onto_empty u (some us) e = let z : ◌≡◌ {A = ℕ} 0 1 = cc in omega arith

-- a character more is the first
onto-more : (u v : ℕ) (o : Option (List ℕ)) (vs : List ℕ) → onto_points u o ≡ some (v ∷ vs) → (u ≡ v) × (o ≡ some vs)
unfolding onto_points
onto-more u v none vs e = let z : ◌≡◌ {A = ℕ} 0 1 = cc in absurd (omega arith)
onto-more u v (some us) vs e = (cc, let q : us ≡ vs = cc in ap some q)

-- whatever decodes is such a row of encodings
pub points_encoded : (s : Bytes) (vs : List ℕ) → points s ≡ some vs → Points vs × (s ≡ encode_all vs)
unfolding encode_all points points_from
points_encoded [] [] e = (tt, refl)
points_encoded [] (v ∷ vs) e = let z : ◌≡◌ {A = ℕ} 0 1 = cc in absurd (omega arith)
points_encoded (x ∷ s) [] e = by (character (x ∷ s)) refl (character_is (x ∷ s))
  where
    by : (o : Option Character) → character (x ∷ s) ≡ o → CharacterIs (x ∷ s) o → Points [] × (x ∷ s ≡ encode_all [])
    by none p h = let q = points_none x s p in let z : ◌≡◌ {A = ℕ} 0 1 = cc in absurd (omega arith)
    by (some c) p h = absurd (onto_empty c.code (points c.rest) (sym (points-onto (x ∷ s) c p) ∙ e))
points_encoded (x ∷ s) (v ∷ vs) e = by (character (x ∷ s)) refl (character_is (x ∷ s)) (λ r. points_encoded r vs)
  where
    by : (o : Option Character) → character (x ∷ s) ≡ o → CharacterIs (x ∷ s) o → ((r : Bytes) → points r ≡ some vs → Points vs × (r ≡ encode_all vs))
        → Points (v ∷ vs) × (x ∷ s ≡ encode_all (v ∷ vs))
    by none p h ih = let q = points_none x s p in let z : ◌≡◌ {A = ℕ} 0 1 = cc in absurd (omega arith)
    by (some c) p h ih =
        let q = onto-more c.code v (points c.rest) vs (sym (points-onto (x ∷ s) c p) ∙ e) in
        let r = ih c.rest q.1 in
        ((subst Point q.0 h.point, r.0), h.joined ∙ (ap (λ (b : Bytes). b ++ c.rest) (h.encoded ∙ ap encode q.0) ∙ ap (λ (t : Bytes). encode v ++ t) r.1))

-- as an equation of the text
pub points_of : (s : Bytes) (vs : List ℕ) → Points vs → s ≡ encode_all vs → points s ≡ some vs
points_of s vs h e = ap points e ∙ encoded_points vs h

-- ---- sizes

-- an encoding has at least a byte
encode-some : (v : ℕ) → 0 < length (encode v)
unfolding encode
encode-some v = both P (leb v 127) _ _ (omega arith) (both P (leb v 2047) _ _ (omega arith) (both P (leb v 65535) _ _ (omega arith) (omega arith)))
  where
    P : Bytes → Type 0
    P b = 0 < length b

-- so a text has no more characters than bytes
pub points_few : (s : Bytes) (vs : List ℕ) → points s ≡ some vs → length vs ≤ length s
unfolding encode_all
points_few s vs e = rw (points_encoded s vs e).1 (few vs)
  where
    few : (us : List ℕ) → length us ≤ length (encode_all us)
    few [] = omega arith
    few (u ∷ us) = simp length-append (omega (arith, encode-some u, few us))
