-- The digits of a number are those that `{}` writes.
use mathlib.Core.Path.{◌≡◌, sym, ap, ◌∙◌}
use mathlib.Core.List.{List, [], ◌∷◌, ◌++◌}
use Prim.Native.Nat.{ℕ, ◌+◌, ◌/◌, ◌%◌, ◌^◌, ◌≤◌, ◌<◌}
use native.Mathlib.Omega.{arith}
use native.Mathlib.Nat.{sub-zero}
use borrow.Author.Tests.{lt-ltb, le-ltb}
use lib.ListN.{length, take}
use Rattle.std.specs.Fmt.{decimal as shown}
use Rattle.std.proofs.lemmas.Fmt.{AppendsLastDigit, decimal_from_appends, length-decimal-le}
use Rattle.model.specs.Store.{digits_of, decimal}
use Rattle.model.proofs.Choices.{when_true, when_false}
use Rattle.buffer.specs.Pasted.{Pasted}
use Rattle.buffer.specs.Decimal.{Decimal}
use Rattle.buffer.proofs.Pasted.{front_pasted}

appends : AppendsLastDigit digits_of
unfolding digits_of
appends = record {
  one = λ k n h. when_true ((48 + n) ∷ []) (digits_of k (n / 10) ++ ((48 + n % 10) ∷ [])) (lt-ltb n 10 h);
  more = λ k n h. when_false ((48 + n) ∷ []) (digits_of k (n / 10) ++ ((48 + n % 10) ∷ [])) (le-ltb n 10 h);
}

shown_long : (n : ℕ) → n < 2 ^ 64 → length (shown n) ≤ 20
shown_long n h = length-decimal-le 20 n (omega arith) (omega arith) h

pub decimal_is : (n : ℕ) → n < 2 ^ 64 → decimal n ≡ shown n
unfolding decimal
decimal_is n h = decimal_from_appends digits_of appends 20 n h (shown_long n h)

pub decimal_copied : {n : ℕ} {s o out : List ℕ} → s ≡ shown n → Pasted o 0 s (length s) out → n < 2 ^ 64 → 20 ≤ length o → Decimal n (length s) out
decimal_copied {n} {s} {o} {out} e p h l =
    let f : length s ≤ 20 = rw e (shown_long n h) in
    record { is = ap (λ (i : ℕ). take i out) (sub-zero (length s)) ∙ front_pasted p (omega arith) ∙ e ∙ sym (decimal_is n h); few = f }
