-- The tests of the first byte of what is left. A pattern calls the bytes after it a part of what is left.
use mathlib.Core.Path.{◌≡◌, refl}
use mathlib.Core.Bool.{true, false, cond}
use mathlib.Core.List.{List, [], ◌∷◌}
use mathlib.Core.Option.{none, some}
use Prim.Native.Nat.{ℕ, ◌-◌, ◌≤◌, ◌<◌}
use native.Mathlib.Omega.{arith}
use borrow.Author.Tests.{eq-eqb, ne_eqb}
use lib.Dec.{eqb}
use lib.IntN.{ℤ}
use lib.ListN.{length, get_or, take, drop, length-drop}
use lib.Seq.{take-length}
use lib.Signed.{mag}
use Rattle.model.specs.declared.Marks.{Marks}
use Rattle.model.specs.Value.{Read, closing}
use Rattle.std.specs.Prelude.{Some, None}
use Rattle.number.specs.Number.{end}
use Rattle.number.specs.declared.Step.{Step}
use Rattle.number.specs.declared.Step.TheVariants.{First, Negated}
use Rattle.number.proofs.Signed.{read_back, told_in}
use Rattle.value.specs.Turns.{NextTurn, start_of, next_of}

-- the bytes after the first
abbrev pub behind : List ℕ → List ℕ
behind l = take (length l - 1) (drop 1 l)

pub behind_is : (l : List ℕ) → behind l ≡ drop 1 l
behind_is l = rw (← length-drop 1 l) (take-length (drop 1 l))

-- ---- how an expression begins

module _ (m : Marks) where
  by_start : (l : List ℕ) → 1 ≤ length l
      → start_of m l ≡ cond (eqb (get_or l 0 0) m.right) None (cond (eqb (get_or l 0 0) m.minus) (Some (Negated, drop 1 l)) (cond (eqb (get_or l 0 0) m.plus) (Some (First, drop 1 l)) (Some (First, l))))
  unfolding start_of
  by_start [] h = absurd (omega arith)
  by_start (x ∷ l) h = refl

  module _ (l : List ℕ) where
    pub starts-empty : length l < 1 → ◌≡◌ {A = NextTurn} None (start_of m l)
    unfolding start_of
    starts-empty h = go l h
      where
        go : (k : List ℕ) → length k < 1 → ◌≡◌ {A = NextTurn} None (start_of m k)
        go [] h = refl
        go (x ∷ k) h = absurd (omega arith)

    module _ (h : 1 ≤ length l) where
      pub starts_right : get_or l 0 0 ≡ m.right → ◌≡◌ {A = NextTurn} None (start_of m l)
      starts_right e = rw (by_start l h, eq-eqb (get_or l 0 0) m.right e)

      module _ (a : get_or l 0 0 ≡ m.right → ⊥) where
        pub starts_minus : get_or l 0 0 ≡ m.minus → ◌≡◌ {A = NextTurn} (Some (Negated, behind l)) (start_of m l)
        starts_minus e = rw (by_start l h, behind_is l, ne_eqb (get_or l 0 0) m.right a, eq-eqb (get_or l 0 0) m.minus e)

        module _ (b : get_or l 0 0 ≡ m.minus → ⊥) where
          pub starts_plus : get_or l 0 0 ≡ m.plus → ◌≡◌ {A = NextTurn} (Some (First, behind l)) (start_of m l)
          starts_plus e = rw (by_start l h, behind_is l, ne_eqb (get_or l 0 0) m.right a, ne_eqb (get_or l 0 0) m.minus b, eq-eqb (get_or l 0 0) m.plus e)

          pub starts_plain : (get_or l 0 0 ≡ m.plus → ⊥) → ◌≡◌ {A = NextTurn} (Some (First, l)) (start_of m l)
          starts_plain c = rw (by_start l h, ne_eqb (get_or l 0 0) m.right a, ne_eqb (get_or l 0 0) m.minus b, ne_eqb (get_or l 0 0) m.plus c)

-- ---- how a sum or a product goes on

module _ (b : ℕ) (k : Step) (b' : ℕ) (k' : Step) where
  by_next : (l : List ℕ) → 1 ≤ length l → next_of l b k b' k' ≡ cond (eqb (get_or l 0 0) b) (Some (k, drop 1 l)) (cond (eqb (get_or l 0 0) b') (Some (k', drop 1 l)) None)
  unfolding next_of
  by_next [] h = absurd (omega arith)
  by_next (x ∷ l) h = refl

  module _ (l : List ℕ) where
    pub nexts-empty : length l < 1 → ◌≡◌ {A = NextTurn} None (next_of l b k b' k')
    unfolding next_of
    nexts-empty h = go l h
      where
        go : (t : List ℕ) → length t < 1 → ◌≡◌ {A = NextTurn} None (next_of t b k b' k')
        go [] h = refl
        go (x ∷ t) h = absurd (omega arith)

    module _ (h : 1 ≤ length l) where
      pub nexts_first : get_or l 0 0 ≡ b → ◌≡◌ {A = NextTurn} (Some (k, behind l)) (next_of l b k b' k')
      nexts_first e = rw (by_next l h, behind_is l, eq-eqb (get_or l 0 0) b e)

      pub nexts_second : (get_or l 0 0 ≡ b → ⊥) → get_or l 0 0 ≡ b' → ◌≡◌ {A = NextTurn} (Some (k', behind l)) (next_of l b k b' k')
      nexts_second n e = rw (by_next l h, behind_is l, ne_eqb (get_or l 0 0) b n, eq-eqb (get_or l 0 0) b' e)

      pub nexts-none : (get_or l 0 0 ≡ b → ⊥) → (get_or l 0 0 ≡ b' → ⊥) → ◌≡◌ {A = NextTurn} None (next_of l b k b' k')
      nexts-none n n' = rw (by_next l h, ne_eqb (get_or l 0 0) b n, ne_eqb (get_or l 0 0) b' n')

-- ---- the right bracket

module _ (m : Marks) (v : ℤ) where
  by_close : (l : List ℕ) → 1 ≤ length l → closing m v l ≡ elim (eqb (get_or l 0 0) m.right) [ true ↦ some (v, drop 1 l) | false ↦ none ]
  unfolding closing
  by_close [] h = absurd (omega arith)
  by_close (x ∷ l) h = refl

  module _ (l : List ℕ) where
    pub closes-empty : length l < 1 → ◌≡◌ {A = Read} none (closing m v l)
    unfolding closing
    closes-empty h = go l h
      where
        go : (t : List ℕ) → length t < 1 → ◌≡◌ {A = Read} none (closing m v t)
        go [] h = refl
        go (x ∷ t) h = absurd (omega arith)

    module _ (h : 1 ≤ length l) where
      pub closes : get_or l 0 0 ≡ m.right → mag v < end → ◌≡◌ {A = Read} (some (read_back v, behind l)) (closing m v l)
      closes e f = rw (told_in v f, by_close l h, behind_is l, eq-eqb (get_or l 0 0) m.right e)

      pub closes-none : (get_or l 0 0 ≡ m.right → ⊥) → ◌≡◌ {A = Read} none (closing m v l)
      closes-none n = rw (by_close l h, ne_eqb (get_or l 0 0) m.right n)

-- what the goals of start, of next and of close go by
pub ruleset starting = (starts-empty, starts_right, starts_minus, starts_plus, starts_plain)

pub ruleset nexting = (nexts-empty, nexts_first, nexts_second, nexts-none)

pub ruleset closing_by = (closes-empty, closes, closes-none)
