-- What the functions of loading say of lines: their bytes, what a body leaves open, and a section of which no line is read.
use mathlib.Core.Path.{◌≡◌, refl, ap, sym, ◌∙◌}
use mathlib.Core.Bool.{Bool, true, false, not, ◌&&◌}
use mathlib.Core.List.{[], ◌∷◌}
use Prim.Native.Nat.{ℕ, ◌+◌}
use native.Mathlib.Omega.{arith}
use borrow.Author.Tests.{ne_eqb}
use lib.Dec.{eqb}
use lib.ListN.{length, take}
use lib.Pointwise.{pointwise}
use Rattle.model.specs.Text.{Bytes, part, starts_with, up_to, lines}
use Rattle.model.proofs.Choices.{false-not-true}
use Rattle.model.proofs.Text.{part_length, part-whole, part_front}
use Rattle.scan.specs.Lines.{FindsByte, LineAt}
use Rattle.scan.proofs.Lines.{lines_none}
use Rattle.scan.proofs.Places.{starts-with}
use Rattle.macros.specs.declared.Table.{Table}
use Rattle.macros.specs.Table.{EntriesInside}
use Rattle.templates.specs.Order.{InOrder}
use Rattle.load.specs.declared.Next.{Next}
use Rattle.load.specs.declared.Next.TheVariants.{Template, Code, Layout}
use Rattle.load.specs.Lines.{in_body, opened, due, LineIn}

-- a text of no byte has no line
pub lines_empty : (text : Bytes) → length text ≡ 0 → lines text ≡ []
lines_empty text z = lines_none text 0 (omega arith)

-- the line that is read
pub line_in : {text : Bytes} {at end next : ℕ} {bytes : Bytes} → LineAt text at end next → bytes ≡ part text at end → LineIn text at bytes next
line_in {text} {at} {end} {next} {bytes} h e =
    let n : at + length bytes ≡ end = omega (arith, ap length e, part_length text at end (omega (arith, h.high, h.within)), h.low) in
    record { high = omega (arith, n, h.high); within = h.within; is = rw n e }

-- its content: what precedes the first of a byte
pub content_is : {s : Bytes} {b stop : ℕ} → FindsByte s 0 (length s) b stop → take stop s ≡ up_to b s
content_is {s} {b} {stop} h = sym (part_front s stop) ∙ h.is ∙ ap (up_to b) (part-whole s)

-- std's test for one byte in front, as starts_with has it
pub begins_as : (b : ℕ) (s : Bytes) → pointwise eqb (b ∷ []) (take 1 s) ≡ starts_with b s
begins_as = starts-with

-- std's test for one byte in front, as strip_prefix has it
pub stripped : (b : ℕ) (s : Bytes) → pointwise eqb (take 1 s) (b ∷ []) ≡ starts_with b s
unfolding starts_with
stripped b [] = refl
stripped b (x ∷ s) = by (eqb x b)
  where
    by : (c : Bool) → (c && true) ≡ c
    by true = refl
    by false = refl

-- in a body, and with an iteration open or a layout due
pub unclear : (next : Next) → in_body next ≡ true → (next ≡ Code 0 → ⊥) → (eqb (opened next) 0 && not (due next)) ≡ false
unclear Template e f = absurd (false-not-true e)
unclear (Code n) e f = rw (ne_eqb n 0 (λ z. f (ap Code z)))
unclear (Layout n) e f = by (eqb n 0)
  where
    by : (b : Bool) → (b && false) ≡ false
    by true = refl
    by false = refl

-- no macro is read
pub none_inside : (text : Bytes) (t : Table) → EntriesInside text t 0
none_inside text t = record {
  entries = record { few = omega arith; inside = λ k u. absurd (omega arith) };
  short = λ k u. absurd (omega arith);
  body = λ k u. absurd (omega arith);
}

-- no templates are in any order
pub none_in_order : {p : ℕ} {order : ℕ → ℕ} → InOrder p [] order
none_in_order = record { within = λ i u. absurd (omega arith); every = λ k u. absurd (omega arith); ascending = λ i j u v. absurd (omega arith) }
