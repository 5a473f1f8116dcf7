-- Runs of digits, read with a cap.
use mathlib.Core.Path.{◌≡◌, refl, sym, ap, ◌∙◌}
use mathlib.Core.Bool.{Bool, true, false, ◌&&◌}
use mathlib.Core.List.{List, [], ◌∷◌}
use Prim.Native.Nat.{ℕ, zero, suc, ◌+◌, ◌*◌, ◌-◌, ◌≤◌, ◌<◌}
use native.Mathlib.Numerals.{add-one}
use native.Mathlib.Omega.{arith}
use borrow.Author.Tests.{leb-true, leb-false, le-leb, eq-eqb, ne_eqb}
use lib.Dec.{leb, eqb}
use lib.IntN.{ℤ, pos, neg_ℤ, ◌-ℤ◌}
use lib.ListN.{length, get_or, take, drop, length-drop, drop_of_length-le}
use lib.Seq.{drop-cons, take-length}
use lib.Signed.{mag}
use Rattle.model.specs.Limits.{digits_most}
use Rattle.model.specs.Text.{is_digit}
use Rattle.model.specs.declared.Marks.{Marks}
use Rattle.model.specs.Value.{number, only_digits, is_stored_number, stored_number, checked}
use Rattle.model.proofs.Choices.{and_left, and_right, false-not-true}
use Rattle.number.specs.Number.{width, end, Gives, Valued}
use Rattle.number.specs.Run.{DigitRun, DigitsRead, Numerals, saturated}
use Rattle.number.specs.declared.Run.{Run}
use Rattle.std.specs.Result.{result_ok}
use Rattle.std.specs.Bool.{then_some}
use Rattle.number.proofs.Steps.{gives_amount, gives_minus}
use mir.Val.{SFits}
use mathlib.Core.Option.{Option, none}
use Rattle.std.specs.Prelude.{Option as Answered, Some, None, SomeIff, Result, OkIff}
use Rattle.number.proofs.Signed.{checked_out, gives_value}

pub digit_bounds : {b : ℕ} → is_digit b ≡ true → (48 ≤ b) × (b ≤ 57)
unfolding is_digit
digit_bounds {b} e = (leb-true 48 b (and_left (leb 48 b) (leb b 57) e), leb-true b 57 (and_right (leb 48 b) (leb b 57) e))

number-digit : (n x : ℕ) (s : List ℕ) → is_digit x ≡ true → number n (x ∷ s) ≡ number (n * 10 + (x - 48)) s
unfolding number
number-digit n x s e = rw (e, number)

number_other : (n x : ℕ) (s : List ℕ) → is_digit x ≡ false → number n (x ∷ s) ≡ (n, x ∷ s)
unfolding number
number_other n x s e = rw (e, number)

number-none : (n : ℕ) → number n [] ≡ (n, [])
unfolding number
number-none n = refl

-- what follows the digits does not depend on the amount before them
rest-same : (a b : ℕ) (l : List ℕ) → (number a l).1 ≡ (number b l).1
rest-same a b [] = rw (number-none a, number-none b)
rest-same a b (x ∷ l) = go (is_digit x) refl (rest-same (a * 10 + (x - 48)) (b * 10 + (x - 48)) l)
  where
    go : (t : Bool) → is_digit x ≡ t → (number (a * 10 + (x - 48)) l).1 ≡ (number (b * 10 + (x - 48)) l).1 → (number a (x ∷ l)).1 ≡ (number b (x ∷ l)).1
    go true e ih = rw (number-digit a x l e, number-digit b x l e) ih
    go false e ih = rw (number_other a x l e, number_other b x l e)

-- the cap may be taken before or after
cap_early : (a : ℕ) (l : List ℕ) → saturated (number (saturated a) l).0 ≡ saturated (number a l).0
cap_early a [] = rw (number-none (saturated a), number-none a) (omega arith)
cap_early a (x ∷ l) = go (is_digit x) refl (λ n. cap_early n l)
  where
    inner : saturated (saturated a * 10 + (x - 48)) ≡ saturated (a * 10 + (x - 48))
    inner = omega arith

    go : (t : Bool) → is_digit x ≡ t → ((n : ℕ) → saturated (number (saturated n) l).0 ≡ saturated (number n l).0) → saturated (number (saturated a) (x ∷ l)).0 ≡ saturated (number a (x ∷ l)).0
    go true e ih =
        rw (number-digit (saturated a) x l e, number-digit a x l e)
        (sym (ih (saturated a * 10 + (x - 48))) ∙ ap (λ n. saturated (number n l).0) inner ∙ ih (a * 10 + (x - 48)))
    go false e ih = rw (number_other (saturated a) x l e, number_other a x l e) (omega arith)

-- what a pattern calls the first byte and those after it
rest_is : (l : List ℕ) → take (length l - 1) (drop 1 l) ≡ drop 1 l
rest_is l = rw (← length-drop 1 l) (take-length (drop 1 l))

-- ---- the loop that reads digits

module _ {s : List ℕ} {amount : ℕ} (i : ℕ) (r : DigitsRead s amount (drop i s)) where
  stops : number amount (drop i s) ≡ (amount, drop i s) → {run : Run} → run.amount ≡ amount → run.rest.now ≡ drop i s → DigitRun s run
  stops e p q =
      let a = rw e at r.amounts in
      let b = rw e at r.rest in
      let small : saturated amount ≡ amount = omega (arith, r.small) in
      record { amount = p ∙ sym small ∙ a; rest = sym b ∙ sym q }

  pub reading_ended : length s ≤ i → {run : Run} → run.amount ≡ amount → run.rest.now ≡ [] → DigitRun s run
  reading_ended h p q = stops (rw (drop_of_length-le s h) (number-none amount)) p (q ∙ sym (drop_of_length-le s h))

  module _ (inside : i < length s) {d : Bool} (tested : d ≡ is_digit (get_or s i 0)) where
    pub reading_other : d ≡ false → {run : Run} → run.amount ≡ amount → run.rest.now ≡ take (length s - i) (drop i s) → DigitRun s run
    reading_other e p q = stops (rw (drop-cons s i 0 inside) (number_other amount _ _ (sym tested ∙ e))) p (q ∙ rw (← length-drop i s) (take-length (drop i s)))

    pub reading_more : {a : ℕ} → d ≡ true → a ≡ saturated (amount * 10 + (get_or s i 0 - 48)) → DigitsRead s a (drop (i + 1) s)
    reading_more e w =
        let next = amount * 10 + (get_or s i 0 - 48) in
        let step : number amount (drop i s) ≡ number next (drop (suc i) s) = rw (drop-cons s i 0 inside) (number-digit amount _ _ (sym tested ∙ e)) in
        rw (w, add-one i) (record {
          amounts = cap_early next (drop (suc i) s) ∙ ap (λ p. saturated p.0) (sym step) ∙ r.amounts;
          rest = rest-same _ _ (drop (suc i) s) ∙ ap (λ p. p.1) (sym step) ∙ r.rest;
          small = omega arith;
        })

-- ---- a value from a run

-- above the cap an amount is no value, and neither is it below 0
far-minus : (n : ℕ) → end < n → end ≤ mag (neg_ℤ (pos n))
far-minus zero h = absurd (omega arith)
far-minus (suc n) h = omega arith

-- the cap changes no value
capped : (f : ℕ → ℤ) → ((n : ℕ) → end < n → end ≤ mag (f n)) → (n : ℕ) → checked (f (saturated n)) ≡ checked (f n)
capped f far n = go (leb n end) refl
  where
    go : (t : Bool) → leb n end ≡ t → checked (f (saturated n)) ≡ checked (f n)
    go true e = let small : saturated n ≡ n = omega (arith, leb-true n end e) in ap (λ k. checked (f k)) small
    go false e =
        let h = leb-false n end e in
        checked_out _ (far (saturated n) (omega arith)) ∙ sym (checked_out _ (far n h))

pub saturated_plain : (n : ℕ) → checked (pos (saturated n)) ≡ checked (pos n)
saturated_plain = capped (λ n. pos n) (λ n h. omega arith)

pub saturated_minus : (n : ℕ) → checked (neg_ℤ (pos (saturated n))) ≡ checked (neg_ℤ (pos n))
saturated_minus = capped (λ n. neg_ℤ (pos n)) far-minus

-- all bytes are digits where none is left after the digits
all_digits : (a : ℕ) (l : List ℕ) → only_digits l ≡ eqb (length (number a l).1) 0
unfolding only_digits
all_digits a [] = rw (number-none a)
all_digits a (x ∷ l) = go (is_digit x) refl (all_digits (a * 10 + (x - 48)) l)
  where
    go : (t : Bool) → is_digit x ≡ t → only_digits l ≡ eqb (length (number (a * 10 + (x - 48)) l).1) 0 → is_digit x && only_digits l ≡ eqb (length (number a (x ∷ l)).1) 0
    go true e ih = rw (number-digit a x l e, e) ih
    go false e ih = rw (number_other a x l e, e) (sym (ne_eqb (suc (length l)) 0 (λ p. omega arith)))

-- ---- a number at the front of a text

module _ {s : List ℕ} {run : Run} (d : DigitRun s run) {E : Type 0} (t : Result ℤ E) (h : OkIff t (SFits width (pos run.amount)) (pos run.amount)) {o : Valued} (made : o ≡ result_ok t) where
  value_is : Gives o (checked (pos (number 0 s).0))
  value_is = rw (made) (rw (d.amount, saturated_plain (number 0 s).0) at (gives_amount {E = E} run.amount t h))

  pub numeral_read : Numerals s (record { value = o; rest = run.rest })
  numeral_read = record { gives = value_is; rest = d.rest }

-- ---- the amount of a stored text

pub no_amount : (s : List ℕ) → (1 ≤ length s → length s ≤ digits_most → ⊥) → is_stored_number s ≡ true → ⊥
unfolding is_stored_number
no_amount s h e =
    let a = and_left (leb 1 (length s)) (leb (length s) digits_most && only_digits s) e in
    let b = and_right (leb 1 (length s)) (leb (length s) digits_most && only_digits s) e in
    h (leb-true 1 (length s) a) (leb-true (length s) digits_most (and_left (leb (length s) digits_most) (only_digits s) b))

module _ {s : List ℕ} {run : Run} (d : DigitRun s run) (some : 1 ≤ length s) (few : length s ≤ digits_most) where
  amount_is : is_stored_number s ≡ eqb (length run.rest.now) 0
  unfolding is_stored_number
  amount_is = rw (all_digits 0 s, d.rest, le-leb (length s) digits_most few, le-leb 1 (length s) some) refl

  pub amount_read : {q : Bool} → q ≡ eqb (length run.rest.now) 0 → {r : Answered ℕ} → r ≡ then_some q run.amount → SomeIff r (is_stored_number s ≡ true) (saturated (number 0 s).0)
  amount_read {q} e w = rw (w, amount_is, ← e) (go q)
    where
      go : (q : Bool) → SomeIff (then_some q run.amount) (q ≡ true) (saturated (number 0 s).0)
      go true = (refl, d.amount)
      go false = λ e. false-not-true e

-- ---- a stored text

-- r is the amount of s, if that is one
abbrev Amount : List ℕ → Answered ℕ → Type 0
Amount s r = SomeIff r (is_stored_number s ≡ true) (saturated (number 0 s).0)

-- a value that is there where the text may be stored
abbrev where_stored : Bool → Option ℤ → Option ℤ
where_stored t o = elim t [ true ↦ o | false ↦ none ]

module _ (s : List ℕ) {o : Option ℤ} (x : Option ℤ) (is : o ≡ where_stored (is_stored_number s) x) where
  not_stored : Amount s None → Gives None o
  not_stored h = gives_value (sym (is ∙ go (is_stored_number s) h)) tt
    where
      go : (t : Bool) → (t ≡ true → ⊥) → where_stored t x ≡ none
      go true n = absurd (n refl)
      go false n = refl

  stored_is : is_stored_number s ≡ true → o ≡ x
  stored_is e = is ∙ ap (λ t. where_stored t x) e

module _ (m : Marks) where
  pub stored_none : (s : List ℕ) → length s < 1 → Gives None (stored_number m s)
  unfolding stored_number
  stored_none [] h = gives_value refl tt
  stored_none (x ∷ s) h = absurd (omega arith)

  by_minus : (s : List ℕ) → 1 ≤ length s → get_or s 0 0 ≡ m.minus → stored_number m s ≡ where_stored (is_stored_number (drop 1 s)) (checked (neg_ℤ (pos (number 0 (drop 1 s)).0)))
  unfolding stored_number
  by_minus [] h e = absurd (omega arith)
  by_minus (x ∷ s) h e = rw (eq-eqb x m.minus e, stored_number)

  by-plain : (s : List ℕ) → 1 ≤ length s → (get_or s 0 0 ≡ m.minus → ⊥) → stored_number m s ≡ where_stored (is_stored_number s) (checked (pos (number 0 s).0))
  unfolding stored_number
  by-plain [] h n = absurd (omega arith)
  by-plain (x ∷ s) h n = rw (ne_eqb x m.minus n, stored_number)

  module _ (s : List ℕ) (some : 1 ≤ length s) (e : get_or s 0 0 ≡ m.minus) where
    pub minus-none : Amount (take (length s - 1) (drop 1 s)) None → Gives None (stored_number m s)
    minus-none h = not_stored (drop 1 s) _ (by_minus s some e) (rw (rest_is s) at h)

    pub minus_stored : {a : ℕ} → Amount (take (length s - 1) (drop 1 s)) (Some a) → {r : Valued} → SomeIff r (SFits width (pos 0 -ℤ pos a)) (pos 0 -ℤ pos a) → Gives r (stored_number m s)
    minus_stored {a} h {r} g =
        let k = rw (rest_is s) at h in
        rw (stored_is (drop 1 s) _ (by_minus s some e) k.0) (rw (k.1, saturated_minus (number 0 (drop 1 s)).0) at (gives_minus a r g))

  module _ (s : List ℕ) (some : 1 ≤ length s) (plain : get_or s 0 0 ≡ m.minus → ⊥) where
    pub plain-none : Amount s None → Gives None (stored_number m s)
    plain-none h = not_stored s _ (by-plain s some plain) h

    pub plain_stored : {a : ℕ} → Amount s (Some a) → {E : Type 0} (t : Result ℤ E) → OkIff t (SFits width (pos a)) (pos a) → {r : Valued} → r ≡ result_ok t → Gives r (stored_number m s)
    plain_stored {a} h {E} t g w = rw (w, stored_is s _ (by-plain s some plain) h.0) (rw (h.1, saturated_plain (number 0 s).0) at (gives_amount {E = E} a t g))

-- what the goals of read_stored go by
pub ruleset storing = (stored_none, minus-none, minus_stored, plain-none, plain_stored)
