-- What is read: values with what is left after them, and each kind of operand.
use mathlib.Core.Path.{◌≡◌, refl, sym, ap, ◌∙◌}
use mathlib.Core.Bool.{Bool, true, false}
use mathlib.Core.Option.{Option, none, some}
use mathlib.Core.List.{List, [], ◌∷◌}
use Prim.Native.Nat.{ℕ, zero, suc, ◌+◌, ◌-◌, ◌*◌, ◌≤◌, ◌<◌}
use native.Mathlib.Omega.{arith}
use borrow.Author.Tests.{eq-eqb, ne_eqb}
use lib.Dec.{eqb}
use lib.IntN.{ℤ, pos}
use lib.ListN.{length, get_or, drop, length-drop}
use Rattle.model.specs.declared.Marks.{Marks}
use Rattle.model.specs.Text.{is_digit}
use Rattle.model.specs.Store.{Store, find}
use Rattle.model.specs.Value.{Read, read_fault, and_then, giving, checked, number, is_mark, name_of, of_stored, closing, expression, operand}
use Rattle.model.proofs.Depth.{number_leaves}
use Rattle.std.specs.Prelude.{Some, None}
use Rattle.number.specs.Number.{Gives}
use Rattle.number.specs.Run.{Numerals}
use Rattle.number.specs.declared.Numeral.{Numeral}
use Rattle.value.specs.declared.Parsed.{Parsed}
use Rattle.value.specs.Reads.{Parsing, numeral_at, read_of, parsed_fault, LeavesBelow, ReadsAbove, name_at}
use Rattle.value.proofs.Firsts.{behind, behind_is}
use Rattle.value.proofs.Names.{name_past}

-- ---- answers

-- an answer's number is that of what it reads
pub parsed-fault : (r : Parsing) → parsed_fault r ≡ read_fault (read_of r)
parsed-fault (Some p) = refl
parsed-fault None = refl

pub reads_above : {μ n : ℕ} (r : Parsing) {f : ℕ → Read} → ((k : ℕ) → μ < k → read_of r ≡ f k) → LeavesBelow n r → ReadsAbove μ n r f
reads_above r e g = record { is = e; number = λ k h. parsed-fault r ∙ ap read_fault (e k h); leaves = g }

-- what is read at a bound above μ, from what is read one bound further
pub from_suc : (F : ℕ → Read) (r : Read) (μ : ℕ) → ((n : ℕ) → μ ≤ n → r ≡ F (suc n)) → (n : ℕ) → μ < n → r ≡ F n
from_suc F r μ h zero l = absurd (omega arith)
from_suc F r μ h (suc n) l = h n (omega arith)

-- how many bytes are left
abbrev left_in : Read → ℕ
left_in none = 0
left_in (some r) = length r.1

leaves : {n : ℕ} (r : Parsing) (x : Read) → read_of r ≡ x → left_in x < n → LeavesBelow n r
leaves (Some p) x e h = omega (arith, ap left_in e, h)
leaves None x e h = tt

left-giving : (o : Option ℤ) (t : List ℕ) → left_in (giving o t) ≤ length t
unfolding giving
left-giving none t = omega arith
left-giving (some v) t = omega arith

left-closing : (m : Marks) (v : ℤ) (l : List ℕ) → left_in (closing m v l) ≤ length l
unfolding closing
left-closing m v [] = omega arith
left-closing m v (x ∷ l) = go (eqb x m.right)
  where
    go : (t : Bool) → left_in (elim t [ true ↦ some (v, l) | false ↦ none ]) ≤ suc (length l)
    go true = omega arith
    go false = omega arith

-- ---- digits

given_kept : {o : Option ℤ} {z : ℤ} {t u : List ℕ} → Gives (Some z) o → u ≡ t → ◌≡◌ {A = Read} (some (z, t)) (giving o u)
unfolding giving
given_kept g q = rw (q, ← g.is)

given-none : {o : Option ℤ} (u : List ℕ) → Gives None o → ◌≡◌ {A = Read} none (giving o u)
unfolding giving
given-none u g = rw (← g.is)

module _ {s : List ℕ} {n : Numeral} (u : Numerals s n) where
  pub numeral_read : {z : ℤ} → n.value ≡ Some z → read_of (Some (record { value = z; rest = n.rest })) ≡ numeral_at s
  numeral_read q = given_kept (rw q at u.gives) u.rest

  pub numeral_fails : n.value ≡ None → read_of None ≡ numeral_at s
  numeral_fails q = given-none (number 0 s).1 (rw q at u.gives)

number-past : (l : List ℕ) → 1 ≤ length l → is_digit (get_or l 0 0) ≡ true → length (number 0 l).1 < length l
unfolding number
number-past [] h e = absurd (omega arith)
number-past (x ∷ l) h e =
    let first : number 0 (x ∷ l) ≡ number (0 * 10 + (x - 48)) l = rw (e, number) in
    let k : length (number 0 (x ∷ l)).1 ≡ length (number (0 * 10 + (x - 48)) l).1 = ap (λ p. length p.1) first in
    omega (arith, k, number_leaves (0 * 10 + (x - 48)) l)

-- ---- an operand, by its first byte

abbrev chosen : Bool → Read → Read → Read
chosen t a b = elim t [ true ↦ a | false ↦ b ]

module _ (m : Marks) (st : Store) where
  abbrev in_brackets : ℕ → List ℕ → Read
  in_brackets n l = and_then (expression n m st (drop 1 l)) (λ v r. closing m v r)

  abbrev named_at : List ℕ → Read
  named_at l = chosen (is_mark m (get_or l 0 0)) none (name_at m st l)

  abbrev other_at : ℕ → List ℕ → Read
  other_at n l = chosen (eqb (get_or l 0 0) m.left) (in_brackets n l) (named_at l)

  by_first : (n : ℕ) (l : List ℕ) → 1 ≤ length l → operand (suc n) m st l ≡ chosen (is_digit (get_or l 0 0)) (numeral_at l) (other_at n l)
  unfolding operand
  by_first n [] h = absurd (omega arith)
  by_first n (x ∷ l) h = refl

  by_none : (n : ℕ) (l : List ℕ) → length l < 1 → operand (suc n) m st l ≡ none
  unfolding operand
  by_none n [] h = refl
  by_none n (x ∷ l) h = absurd (omega arith)

  module _ (l : List ℕ) where
    -- r is the operand that l begins with
    abbrev pub Operand : Parsing → Type 0
    Operand r = ReadsAbove (3 * length l + 1) (length l) r (λ n. operand n m st l)

    from_tests : (r : Parsing) (x : Read) → read_of r ≡ x → ((n : ℕ) → 3 * length l + 1 ≤ n → operand (suc n) m st l ≡ x) → LeavesBelow (length l) r → Operand r
    from_tests r x e s g = reads_above r (from_suc (λ n. operand n m st l) (read_of r) (3 * length l + 1) (λ n h. e ∙ sym (s n h))) g

    pub nothing : length l < 1 → Operand None
    nothing h = from_tests None none refl (λ n k. by_none n l h) tt

    module _ (some_left : 1 ≤ length l) where
      pub digits_read : {d : Bool} → d ≡ is_digit (get_or l 0 0) → d ≡ true → {r : Parsing} → read_of r ≡ numeral_at l → Operand r
      digits_read i e {r} x =
          from_tests r (numeral_at l) x
          (λ n k. by_first n l some_left ∙ ap (λ (t : Bool). chosen t (numeral_at l) (other_at n l)) (sym i ∙ e))
          (leaves r (numeral_at l) x (omega (arith, left-giving (checked (pos (number 0 l).0)) (number 0 l).1, number-past l some_left (sym i ∙ e))))

      module _ {d : Bool} (i : d ≡ is_digit (get_or l 0 0)) (e : d ≡ false) where
        by_other : (n : ℕ) → operand (suc n) m st l ≡ other_at n l
        by_other n = by_first n l some_left ∙ ap (λ (t : Bool). chosen t (numeral_at l) (other_at n l)) (sym i ∙ e)

        module _ (q : get_or l 0 0 ≡ m.left) where
          by_bracket : (n : ℕ) → operand (suc n) m st l ≡ in_brackets n l
          by_bracket n = by_other n ∙ ap (λ (t : Bool). chosen t (in_brackets n l) (named_at l)) (eq-eqb (get_or l 0 0) m.left q)

          module _ {r : Parsing} (c : ReadsAbove (3 * length (behind l) + 3) (length (behind l) + 1) r (λ n. expression n m st (behind l))) where
            inside : (n : ℕ) → 3 * length l + 1 ≤ n → in_brackets n l ≡ and_then (read_of r) (λ v t. closing m v t)
            inside n h =
                let b = rw (behind_is l) at c.is in
                ap (λ (x : Read). and_then x (λ v t. closing m v t)) (sym (b n (omega (arith, length-drop 1 l))))

            pub unread : r ≡ None → Operand None
            unfolding and_then
            unread w = from_tests None none refl (λ n h. by_bracket n ∙ inside n h ∙ ap (λ (x : Parsing). and_then (read_of x) (λ v t. closing m v t)) w) tt

            pub bracketed : {p : Parsed} → r ≡ Some p → {r' : Parsing} → read_of r' ≡ closing m p.value p.rest.now → Operand r'
            unfolding and_then
            bracketed {p} w {r'} u =
                let near : length p.rest.now < length (behind l) + 1 = rw w at c.leaves in
                from_tests r' (closing m p.value p.rest.now) u
                (λ n h. by_bracket n ∙ inside n h ∙ ap (λ (x : Parsing). and_then (read_of x) (λ v t. closing m v t)) w)
                (leaves r' (closing m p.value p.rest.now) u (omega (arith, left-closing m p.value p.rest.now, near, ap (λ (t : List ℕ). length t) (behind_is l), length-drop 1 l)))

        module _ (q : get_or l 0 0 ≡ m.left → ⊥) {k : Bool} (j : k ≡ is_mark m (get_or l 0 0)) where
          by_name : (n : ℕ) → operand (suc n) m st l ≡ named_at l
          by_name n = by_other n ∙ ap (λ (t : Bool). chosen t (in_brackets n l) (named_at l)) (ne_eqb (get_or l 0 0) m.left q)

          pub marked : k ≡ true → Operand None
          marked w = from_tests None none refl (λ n h. by_name n ∙ ap (λ (t : Bool). chosen t none (name_at m st l)) (sym j ∙ w)) tt

          pub named : k ≡ false → {r : Parsing} → read_of r ≡ name_at m st l → Operand r
          named w {r} x =
              from_tests r (name_at m st l) x
              (λ n h. by_name n ∙ ap (λ (t : Bool). chosen t none (name_at m st l)) (sym j ∙ w))
              (leaves r (name_at m st l) x (omega (arith, left-giving (of_stored m (find (name_of m l).0 st)) (name_of m l).1, name_past m l some_left (sym j ∙ w))))
