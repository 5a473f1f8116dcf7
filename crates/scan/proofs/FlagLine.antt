-- Why the flag line's tests answer as they do: a loop over the marks, and the tests together.
use mathlib.Core.Path.{◌≡◌, refl, ap, sym, subst, ◌∙◌}
use mathlib.Core.Bool.{Bool, true, false, not, ◌&&◌}
use mathlib.Core.Option as Math
use mathlib.Core.List.{[], ◌∷◌}
use Prim.Native.Nat.{◌-◌, ◌≤◌, ◌<◌}
use native.Mathlib.Omega.{arith}
use borrow.Author.Tests.{le-leb, lt-leb, ne_eqb}
use lib.Dec.{eqb}
use lib.ListN.{length, get_or, drop, take}
use lib.Seq.{drop-cons}
use Rattle.model.specs.declared.Marks.{Marks}
use Rattle.model.specs.Text.{Bytes, has, plain, all_plain, distinct, apart, legal_marks, others, legal_flags, marks_fault, marks_of}
use Rattle.model.specs.Legal.{operators}
use Rattle.std.specs.Bool.{then_some}
use Rattle.std.specs.List.{list_all}
use Rattle.std.proofs.lemmas.List.{take_rest}
use Rattle.std.specs.Prelude.{Option, None, Some}
use Rattle.scan.specs.Lines.{Has, AllPlain, AllDiffer, LegalMarks, flags_of, flags_fault, MarksAt}

-- ---- a test of each byte

pub plain_all : (s : Bytes) → list_all plain s ≡ all_plain s
unfolding all_plain
plain_all [] = refl
plain_all (x ∷ s) = ap (λ (b : Bool). plain x && b) (plain_all s)

-- ---- a test of each byte and those after it

-- what follows the first byte
abbrev pub after : Bytes → Bytes
after s = take (length s - 1) (drop 1 s)

differ_first : (s : Bytes) → 1 ≤ length s → distinct s ≡ (not (has (get_or s 0 0) (after s)) && distinct (after s))
unfolding distinct
differ_first s h = ap distinct (drop-cons s 0 0 (omega arith)) ∙ ap (λ (l : Bytes). not (has (get_or s 0 0) l) && distinct l) (sym (take_rest s 1))

-- the bytes of s before the rest are new to those after them
pub record Differing (s rest : Bytes) : Type 0 where
  pub is : distinct rest ≡ distinct s

differ_by : {s rest : Bytes} (r : Bool) → Differing s rest → 1 ≤ length rest → Has (after rest) (get_or rest 0 0) r → distinct s ≡ (not r && distinct (after rest))
differ_by {s} {rest} r d h g = sym d.is ∙ differ_first rest h ∙ ap (λ (b : Bool). not b && distinct (after rest)) (sym g.is)

pub differ_on : {s rest : Bytes} {r : Bool} → Differing s rest → 1 ≤ length rest → Has (after rest) (get_or rest 0 0) r → r ≡ false → Differing s (after rest)
differ_on {s} {rest} {r} d h g f = record { is = sym (differ_by r d h g ∙ ap (λ (b : Bool). not b && distinct (after rest)) f) }

pub differ_fails : {s rest : Bytes} {r : Bool} → Differing s rest → 1 ≤ length rest → Has (after rest) (get_or rest 0 0) r → r ≡ true → AllDiffer s false
differ_fails {s} {rest} {r} d h g f = record { is = sym (differ_by r d h g ∙ ap (λ (b : Bool). not b && distinct (after rest)) f) }

pub differ_all : {s rest : Bytes} → Differing s rest → length rest < 1 → AllDiffer s true
unfolding distinct
differ_all {s} {rest} d h = record { is = by rest h ∙ d.is }
  where
    by : (l : Bytes) → length l < 1 → true ≡ distinct l
    by [] h = refl
    by (x ∷ l) h = absurd (omega arith)

-- ---- the flag line

-- the marks of a line
abbrev pub marks_in : Bytes → Marks
marks_in s = record {
  source = get_or s 0 0;
  placeholder = get_or s 1 0;
  code = get_or s 2 0;
  escape = get_or s 3 0;
  blank = get_or s 5 0;
  left = get_or s 6 0;
  plus = get_or s 7 0;
  minus = get_or s 8 0;
  times = get_or s 9 0;
  divide = get_or s 10 0;
  right = get_or s 11 0;
}

pub legal_by : {m : Marks} {p q r : Bool} → AllPlain (m.source ∷ m.placeholder ∷ m.code ∷ m.escape ∷ operators m) p
    → AllDiffer (m.source ∷ m.placeholder ∷ operators m) q → AllDiffer (m.code ∷ m.escape ∷ operators m) r
    → LegalMarks m (p && (q && (r && (not (eqb m.source m.escape) && not (eqb m.placeholder m.code)))))
unfolding legal_marks apart
legal_by p q r = record { is = rw (p.is, q.is, r.is) }

-- an answer's number is that of its marks
flags-fault : (r : Option Marks) → flags_fault r ≡ marks_fault (flags_of r)
flags-fault (Some m) = refl
flags-fault None = refl

-- the answer for what legal_flags says of the line
answer : (s : Bytes) (b : Bool) → legal_flags s ≡ b → MarksAt s (then_some b (marks_in s))
unfolding marks_of
answer s b e = record { is = by b e; number = flags-fault (then_some b (marks_in s)) ∙ ap marks_fault (by b e) }
  where
    by : (b : Bool) → legal_flags s ≡ b → flags_of (then_some b (marks_in s)) ≡ marks_of s
    by true e = rw (e, marks_of) refl
    by false e = rw (e, marks_of) refl

pub fault_short : {s : Bytes} → length s < 12 → MarksAt s None
unfolding legal_flags
fault_short {s} k = answer s false (rw (lt-leb 12 (length s) k))

pub fault_fifth : {s : Bytes} → 12 ≤ length s → ¬ (get_or s 4 0 ≡ 48) → MarksAt s None
unfolding legal_flags legal_marks
fault_fifth {s} k f = answer s false (rw (le-leb 12 (length s) k, ne_eqb (get_or s 4 0) 48 f))

-- a line of 12 bytes or more with the byte `0` in its place is legal as its marks are
legal_as : (s : Bytes) (r : Bool) → 12 ≤ length s → get_or s 4 0 ≡ 48 → LegalMarks (marks_in s) r → legal_flags s ≡ r
unfolding legal_flags others
legal_as s r k e h = rw (le-leb 12 (length s) k, e) (sym h.is)

pub marks_tested : {s : Bytes} {b : Bool} {r : Option Marks} → 12 ≤ length s → get_or s 4 0 ≡ 48 → LegalMarks (marks_in s) b
    → r ≡ then_some b (marks_in s) → MarksAt s r
marks_tested {s} {b} k e h q = subst (λ (x : Option Marks). MarksAt s x) (sym q) (answer s b (legal_as s b k e h))

-- ---- for callers of read_marks

pub marks_legal : {s : Bytes} {r : Option Marks} {m : Marks} → MarksAt s r → r ≡ Some m → marks_of s ≡ Math.some m
marks_legal h e = sym h.is ∙ ap flags_of e
