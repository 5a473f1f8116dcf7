-- The characters of a text, counted one by one.
use mathlib.Core.Path.{◌≡◌, refl, ap, sym, ◌∙◌}
use mathlib.Core.Option as Math
use mathlib.Core.Option.{none, some}
use mathlib.Core.List.{List, [], ◌∷◌}
use Prim.Native.Nat.{ℕ, suc, ◌+◌, ◌≤◌}
use native.Mathlib.Omega.{arith}
use lib.ListN.{length, get_or, drop, drop_of_length-le}
use lib.Seq.{drop-cons}
use Rattle.std.specs.Prelude.{Result, Ok, Err, Option, Some, None, IsErr, IfOk, IfSome}
use Rattle.model.specs.Text.{Bytes}
use Rattle.model.specs.Utf8.{character, onto_points, points_from, points, points_fault}
use Rattle.model.proofs.Choices.{false-not-true}
use Rattle.model.proofs.Utf8.{points-onto, points_none}
use Rattle.character.specs.declared.Character.{Character}
use Rattle.character.specs.declared.Counted.{Counted}
use Rattle.character.specs.declared.Malformed.{Malformed}
use Rattle.character.specs.Decoding.{Found, ReadsCharacter}
use Rattle.character.specs.Counting.{last_of, counted_from, counted_fault, CountsCharacters}
use Rattle.character.proofs.Decoding.{one_bounds, one_is, malformed_bounds, malformed_is, nothing_bounds}

-- ---- the answer

-- a character is counted
counted-onto : (n : ℕ) (v : Option ℕ) (u : ℕ) (o : Math.Option (List ℕ)) → counted_from n v (onto_points u o) ≡ counted_from (n + 1) (Some u) o
unfolding counted_from onto_points last_of
counted-onto n v u none = refl
counted-onto n v u (some us) =
    let z : n + suc (length us) ≡ n + 1 + length us = omega arith in
    ap (λ (i : ℕ). Ok (record { count = i; code = last_of (Some u) us })) z

-- nothing is left
counted_all : (n : ℕ) (v : Option ℕ) → counted_from n v (some []) ≡ Ok (record { count = n; code = v })
unfolding counted_from last_of
counted_all n v = let z : n + 0 ≡ n = omega arith in ap (λ (i : ℕ). Ok (record { count = i; code = v })) z

-- an answer has its number
counts : {s : Bytes} {r : Result Counted Malformed} → r ≡ counted_from 0 None (points s) → IfOk r (λ c. c.count ≤ length s) → IfOk r (λ c. IfSome c.code (λ u. u ≤ 1114111)) → CountsCharacters s r
unfolding counted_from
counts {s} {r} e f g = record { is = e; number = ap counted_fault e ∙ by (points s); few = f; small = g }
  where
    by : (o : Math.Option (List ℕ)) → counted_fault (counted_from 0 None o) ≡ points_fault o
    by none = refl
    by (some us) = refl

-- ---- count_characters

-- the loop's place: n characters end at place `at`, v is the last one's code point, and the rest gives the rest of the answer
pub record Counting (s : Bytes) (at n : ℕ) (v : Option ℕ) : Type 0 where
  pub few : n ≤ at
  pub high : at ≤ length s
  pub small : IfSome v (λ u. u ≤ 1114111)
  pub is : counted_from 0 None (points s) ≡ counted_from n v (points (drop at s))

module _ {s : Bytes} {at n : ℕ} {v : Option ℕ} {r : Found} (c : Counting s at n v) (k : ReadsCharacter s at r) where
  -- past a character
  pub counting_goes_on : {d : Character} → r ≡ Ok (Some d) → Counting s (at + d.len) (n + 1) (Some d.code)
  counting_goes_on {d} e =
      let b = one_bounds k e in
      let f = c.few in
      record {
        few = omega (arith, b.1.0);
        high = b.1.1.1;
        small = b.0;
        is = c.is ∙ ap (counted_from n v) (points-onto (drop at s) _ (one_is k e)) ∙ counted-onto n v d.code (points (drop (at + d.len) s));
      }

  -- malformed bytes are the answer
  pub counting_fails : {z : Malformed} {q : Result Counted Malformed} → r ≡ Err z → IsErr q → CountsCharacters s q
  unfolding counted_from
  counting_fails {q = Ok d} e g = false-not-true g
  counting_fails {q = Err y} e g =
      let h : drop at s ≡ get_or s at 0 ∷ drop (suc at) s = drop-cons s at 0 (malformed_bounds k e) in
      let l : points (drop at s) ≡ none = ap points h ∙ points_none (get_or s at 0) (drop (suc at) s) (ap character (sym h) ∙ malformed_is k e) in
      counts (sym (c.is ∙ ap (counted_from n v) l)) tt tt

  -- at the end it is what was counted
  pub counting_ends : r ≡ Ok None → CountsCharacters s (Ok (record { count = n; code = v }))
  unfolding points points_from
  counting_ends e =
      let h = nothing_bounds k e in
      let z : points (drop at s) ≡ some [] = ap points (drop_of_length-le s {i = at} h) in
      let a = c.few in
      let b = c.high in
      counts (sym (c.is ∙ ap (counted_from n v) z ∙ counted_all n v)) (omega arith) c.small

-- ---- what a caller learns

-- the code points of a text whose characters are counted
pub record CodesOf (s : Bytes) (r : Counted) : Type 0 where
  pub codes : List ℕ
  pub are : points s ≡ some codes
  pub count : r.count ≡ length codes
  pub last : r.code ≡ last_of None codes

module _ {s : Bytes} {r : Result Counted Malformed} (k : CountsCharacters s r) where
  -- one is malformed
  pub counted_none : {z : Malformed} → r ≡ Err z → points s ≡ none
  unfolding counted_from
  counted_none {z} e = by (points s) (sym e ∙ k.is)
    where
      by : (o : Math.Option (List ℕ)) → Err z ≡ counted_from 0 None o → o ≡ none
      by none e = refl
      by (some us) e = let z : ◌≡◌ {A = ℕ} 0 1 = cc in absurd (omega arith)

  -- none is
  pub counted-some : {c : Counted} → r ≡ Ok c → CodesOf s c
  unfolding counted_from
  counted-some {c} e = by (points s) refl (sym e ∙ k.is)
    where
      by : (o : Math.Option (List ℕ)) → points s ≡ o → Ok c ≡ counted_from 0 None o → CodesOf s c
      by none p q = let z : ◌≡◌ {A = ℕ} 0 1 = cc in absurd (omega arith)
      by (some us) p q =
          let same : c ≡ record { count = 0 + length us; code = last_of None us } = cc in
          record { codes = us; are = p; count = ap (λ (x : Counted). x.count) same ∙ omega arith; last = ap (λ (x : Counted). x.code) same }

  -- no code point is there only where no character is
  pub counted-zero : {c : Counted} → r ≡ Ok c → c.code ≡ None → c.count ≡ 0
  unfolding last_of
  counted-zero {c} e f = let d = counted-some e in d.count ∙ by d.codes (sym f ∙ d.last)
    where
      other : (u : ℕ) (us : List ℕ) → None ≡ last_of (Some u) us → ⊥
      other u [] q = cc
      other u (w ∷ us) q = other w us q

      by : (us : List ℕ) → None ≡ last_of None us → length us ≡ 0
      by [] q = refl
      by (u ∷ us) q = absurd (other u us q)

  -- exactly one
  pub counted-one : {c : Counted} {u : ℕ} → r ≡ Ok c → c.count ≡ 1 → c.code ≡ Some u → points s ≡ some (u ∷ [])
  unfolding last_of
  counted-one {c} {u = v} e f g = let d = counted-some e in d.are ∙ ap some (by d.codes (sym d.count ∙ f) (sym g ∙ d.last))
    where
      by : (us : List ℕ) → length us ≡ 1 → Some v ≡ last_of None us → us ≡ v ∷ []
      by [] m q = absurd (omega arith)
      by (u ∷ []) m q = cc
      by (u ∷ v ∷ us) m q = absurd (omega arith)
