-- `chosen` of module Reading takes the first reading of module Fitting, and none exactly where the line has no reading.
-- The theorems: balanced_sound, balanced_complete; fits_listed, listed_fits; rank-before; at the end no_call, chosen_first, first_chosen.
use mathlib.Core.Path.{◌≡◌, refl, ap, ap₂, sym, ◌∙◌, subst}
use mathlib.Core.Bool.{Bool, true, false}
use mathlib.Core.Logic.{◌↔◌, ◌⊎◌, inl, inr, ⊎_elim}
use mathlib.Core.Option.{Option, none, some}
use mathlib.Core.List.{List, [], ◌∷◌, ◌++◌, map, append_assoc, append-nil}
use Prim.Native.Nat.{ℕ, zero, suc, ◌+◌, ◌-◌, ◌≤◌, ◌<◌}
use native.Mathlib.Nat.{zero-add}
use native.Mathlib.Omega.{arith}
use lib.Dec.{eqb, eqb-suc-zero}
use lib.ListN.{length, get_or}
use borrow.Author.Tests.{eqb-true, eqb-false, lt-ltb, le-ltb, eq-eqb, ne_eqb}
use Rattle.model.specs.declared.Marks.{Marks}
use Rattle.model.specs.Reading.{balanced_from, balanced, cuts, Pieces, with_piece, with_literal, readings, rank, less, Reading, as_readings, all_readings, least_of, least, chosen}
use Rattle.model.specs.Fitting.{Balanced, empty, byte-then, group_then, Fits, end, literal, placeholder, Before, end_first, literal_first, shorter, after_literal, after_piece, Reads, Distinct, First}
use Rattle.model.proofs.Choices.{false-not-true}

-- ---- tools

-- a test of two numbers, with what its answer says
pub data Tested (a b : ℕ) : Bool → Type 0 where
  alike : a ≡ b → Tested a b true
  apart : ¬ (a ≡ b) → Tested a b false

-- each test comes with what it says
pub tested : (a b : ℕ) → Tested a b (eqb a b)
tested a b = go (eqb a b) refl
  where
    go : (t : Bool) → eqb a b ≡ t → Tested a b t
    go true e = alike (eqb-true a b e)
    go false e = apart (eqb-false a b e)

-- x is an element of the list
abbrev pub In {ℓ} : {A : Type ℓ} → A → List A → Type ℓ
In {A} x [] = mathlib.Core.Logic.Lift ⊥
In x (y ∷ ys) = (x ≡ y) ⊎ In x ys

-- ---- the test `balanced` is Balanced

-- d balanced rows, each with the right bracket that ends it, and one more balanced row
data Rows (m : Marks) : ℕ → List ℕ → Type 0 where
  last : (p : List ℕ) → Balanced m p → Rows m zero p
  more : (d : ℕ) (p s : List ℕ) → Balanced m p → Rows m d s → Rows m (suc d) (p ++ m.right ∷ s)

module _ (m : Marks) where
  -- a byte that is no bracket may stand in front
  rows_byte : (d b : ℕ) (s : List ℕ) → ¬ (b ≡ m.left) → ¬ (b ≡ m.right) → Rows m d s → Rows m d (b ∷ s)
  rows_byte d b s l r (last _ h) = last (b ∷ s) (byte-then b s l r h)
  rows_byte d b s l r (more e p u h k) = more e (b ∷ p) u (byte-then b p l r h) k

  -- a left bracket in front joins the first two rows into one
  rows_left : (d : ℕ) (s : List ℕ) → Rows m (suc d) s → Rows m d (m.left ∷ s)
  rows_left d s (more _ p u h (last _ k)) = last (m.left ∷ p ++ m.right ∷ u) (group_then p u h k)
  rows_left d s (more _ p u h (more e q v k r)) =
      rw (← append_assoc p (m.right ∷ q) (m.right ∷ v)) (more e (m.left ∷ p ++ m.right ∷ q) v (group_then p q h k) r)

  -- what passes the test with d brackets open is d rows that each end in a right bracket, and one more
  from_sound : (s : List ℕ) (d : ℕ) → balanced_from m d s ≡ true → Rows m d s
  unfolding balanced_from
  from_sound [] d e = rw (eqb-true d 0 e) (last [] empty)
  from_sound (x ∷ s) d e = by (eqb x m.left) (eqb x m.right) (tested x m.left) (tested x m.right) d (λ k h. from_sound s k h) e
    where
      by : (l r : Bool) → Tested x m.left l → Tested x m.right r → (d : ℕ) → ((k : ℕ) → balanced_from m k s ≡ true → Rows m k s)
          → ◌≡◌ {A = Bool} (elim l [
            | true ↦ balanced_from m (suc d) s
            | false ↦ elim r [ true ↦ elim (eqb d 0) [ true ↦ false | false ↦ balanced_from m (d - 1) s ] | false ↦ balanced_from m d s ]
          ]) true → Rows m d (x ∷ s)
      by true r (alike a) t d ih h = rw a (rows_left d s (ih (suc d) h))
      by false true (apart a) (alike b) zero ih h = false-not-true h
      by false true (apart a) (alike b) (suc d) ih h =
          let z : suc d - 1 ≡ d = omega arith in
          rw b (more d [] s empty (ih d (rw (eqb-suc-zero d, z) at h)))
      by false false (apart a) (apart b) d ih h = rows_byte d x s a b (ih d h)

  -- a byte that is no bracket leaves the count as it is
  from_byte : (b d : ℕ) (s : List ℕ) → ¬ (b ≡ m.left) → ¬ (b ≡ m.right) → balanced_from m d (b ∷ s) ≡ balanced_from m d s
  unfolding balanced_from
  from_byte b d s l r = rw (ne_eqb b m.left l, ne_eqb b m.right r, balanced_from) refl

  -- a left bracket opens one more
  from_left : (d : ℕ) (s : List ℕ) → balanced_from m d (m.left ∷ s) ≡ balanced_from m (suc d) s
  unfolding balanced_from
  from_left d s = rw (eq-eqb m.left m.left refl, balanced_from) refl

  -- a right bracket closes one
  from_right : (d : ℕ) (s : List ℕ) → ¬ (m.left ≡ m.right) → balanced_from m (suc d) (m.right ∷ s) ≡ balanced_from m d s
  unfolding balanced_from
  from_right d s n =
      let z : suc d - 1 ≡ d = omega arith in
      rw (ne_eqb m.right m.left (λ e. n (sym e)), eq-eqb m.right m.right refl, eqb-suc-zero d, z, balanced_from) refl

  -- a balanced row leaves the count of open brackets as it was
  from_through : (p : List ℕ) → ¬ (m.left ≡ m.right) → Balanced m p → (d : ℕ) (u : List ℕ) → balanced_from m d (p ++ u) ≡ balanced_from m d u
  from_through p n empty d u = refl
  from_through p n (byte-then b q l r h) d u = from_byte b d (q ++ u) l r ∙ from_through q n h d u
  from_through p n (group_then q r h k) d u =
      from_left d ((q ++ m.right ∷ r) ++ u) ∙ (ap (balanced_from m (suc d)) (append_assoc q (m.right ∷ r) u)
      ∙ (from_through q n h (suc d) (m.right ∷ r ++ u) ∙ (from_right d (r ++ u) n ∙ from_through r n k d u)))

  -- what passes the test is balanced
  pub balanced_sound : (s : List ℕ) → balanced m s ≡ true → Balanced m s
  unfolding balanced
  balanced_sound s e = by s (from_sound s 0 e)
    where
      by : (s : List ℕ) → Rows m 0 s → Balanced m s
      by s (last _ h) = h

  -- what is balanced passes the test, where the brackets differ
  pub balanced_complete : (s : List ℕ) → ¬ (m.left ≡ m.right) → Balanced m s → balanced m s ≡ true
  unfolding balanced balanced_from
  balanced_complete s n h = ap (balanced_from m 0) (sym (append-nil s)) ∙ from_through s n h 0 []

-- ---- `readings` lists the fitting pieces

-- an element of the first list is one of both joined
in_left {ℓ} : {A : Type ℓ} (x : A) (s t : List A) → In x s → In x (s ++ t)
in_left x [] t h = absurd h.lower
in_left x (y ∷ s) t (inl e) = inl e
in_left x (y ∷ s) t (inr h) = inr (in_left x s t h)

-- an element of the second list is one of both joined
in_right {ℓ} : {A : Type ℓ} (x : A) (s t : List A) → In x t → In x (s ++ t)
in_right x [] t h = h
in_right x (y ∷ s) t h = inr (in_right x s t h)

-- an element of two lists joined is one of the first or of the second
in-append {ℓ} : {A : Type ℓ} (x : A) (s t : List A) → In x (s ++ t) → In x s ⊎ In x t
in-append x [] t h = inr h
in-append x (y ∷ s) t (inl e) = inl (inl e)
in-append x (y ∷ s) t (inr h) = ⊎_elim (λ k. inl (inr k)) (λ k. inr k) (in-append x s t h)

-- a listed reading of the rest, with the piece in front
in_map : (p : List ℕ) (qs : Pieces) (l : List Pieces) → In qs l → In (p ∷ qs) (map (λ ps. p ∷ ps) l)
in_map p qs (x ∷ l) (inl e) = inl (ap (λ (r : Pieces). p ∷ r) e)
in_map p qs (x ∷ l) (inr h) = inr (in_map p qs l h)
in_map p qs [] h = absurd h.lower

-- with the piece in front, a listed reading of the rest
map_in : (p : List ℕ) (ps : Pieces) (l : List Pieces) → In ps (map (λ qs. p ∷ qs) l) → (qs : Pieces) × (ps ≡ p ∷ qs) × In qs l
map_in p ps [] h = absurd h.lower
map_in p ps (x ∷ l) (inl e) = (x, e, inl refl)
map_in p ps (x ∷ l) (inr h) = let r = map_in p ps l h in (r.0, r.1, inr r.2)

-- a beginning and the rest
abbrev Cut : Type 0
Cut = List ℕ × List ℕ

-- every way to cut a line is listed
cut_in : (q p s : List ℕ) → In (q ++ p, s) (cuts q (p ++ s))
unfolding cuts
cut_in q [] [] = inl (rw append-nil)
cut_in q [] (x ∷ s) = inl (rw append-nil)
cut_in q (x ∷ p) s = inr (subst (λ (l : List ℕ). In (l, s) (cuts (q ++ (x ∷ [])) (p ++ s))) (append_assoc q (x ∷ []) p) (cut_in (q ++ (x ∷ [])) p s))

-- what is listed is a way to cut the line
cut_out : (c : Cut) (q s : List ℕ) → In c (cuts q s) → (p : List ℕ) × (c.0 ≡ q ++ p) × (s ≡ p ++ c.1)
unfolding cuts
cut_out c q [] (inl e) = ([], rw append-nil (ap (λ (x : Cut). x.0) e), sym (ap (λ (x : Cut). x.1) e))
cut_out c q [] (inr h) = absurd h.lower
cut_out c q (x ∷ s) (inl e) = ([], rw append-nil (ap (λ (x : Cut). x.0) e), sym (ap (λ (x : Cut). x.1) e))
cut_out c q (x ∷ s) (inr h) =
    let r = cut_out c (q ++ (x ∷ [])) s h in
    (x ∷ r.0, r.1 ∙ append_assoc q (x ∷ []) r.0, ap (λ (l : List ℕ). x ∷ l) r.2)

module _ (m : Marks) (go : List ℕ → List Pieces) where
  -- a balanced beginning and a reading of the rest are listed
  with_in : (cs : List Cut) (p s : List ℕ) (qs : Pieces) → In (p, s) cs → balanced m p ≡ true → In qs (go s) → In (p ∷ qs) (with_piece m cs go)
  unfolding with_piece
  with_in [] p s qs h e k = absurd h.lower
  with_in (c ∷ cs) p s qs (inl i) e k =
      let f : balanced m c.0 ≡ true = ap (λ (x : Cut). balanced m x.0) (sym i) ∙ e in
      rw (f, with_piece) (in_left (p ∷ qs) (map (λ ps. c.0 ∷ ps) (go c.1)) (with_piece m cs go)
      (subst (λ (x : Cut). In (p ∷ qs) (map (λ ps. x.0 ∷ ps) (go x.1))) i (in_map p qs (go s) k)))
  with_in (c ∷ cs) p s qs (inr h) e k = by (balanced m c.0) (with_in cs p s qs h e k)
    where
      by : (b : Bool) → In (p ∷ qs) (with_piece m cs go)
          → In (p ∷ qs) (elim b [ true ↦ map (λ ps. c.0 ∷ ps) (go c.1) ++ with_piece m cs go | false ↦ with_piece m cs go ])
      by true h = in_right (p ∷ qs) (map (λ ps. c.0 ∷ ps) (go c.1)) (with_piece m cs go) h
      by false h = h

  -- what is listed is a balanced beginning and a reading of the rest
  with_out : (cs : List Cut) (ps : Pieces) → In ps (with_piece m cs go) → (c : Cut) × (qs : Pieces) × In c cs × (balanced m c.0 ≡ true) × (ps ≡ c.0 ∷ qs) × In qs (go c.1)
  unfolding with_piece
  with_out [] ps h = absurd h.lower
  with_out (c ∷ cs) ps h = by (balanced m c.0) refl (with_out cs ps) h
    where
      Out : List Cut → Type 0
      Out cs = (c : Cut) × (qs : Pieces) × In c cs × (balanced m c.0 ≡ true) × (ps ≡ c.0 ∷ qs) × In qs (go c.1)

      next : Out cs → Out (c ∷ cs)
      next o = (o.0, o.1, inr o.2, o.3, o.4, o.5)

      by : (b : Bool) → balanced m c.0 ≡ b → (In ps (with_piece m cs go) → Out cs)
          → In ps (elim b [ true ↦ map (λ ps. c.0 ∷ ps) (go c.1) ++ with_piece m cs go | false ↦ with_piece m cs go ]) → Out (c ∷ cs)
      by true e ih h = ⊎_elim
          (λ k. let r = map_in c.0 ps (go c.1) k in (c, r.0, inl refl, e, r.1, r.2))
          (λ k. next (ih k))
          (in-append ps (map (λ ps. c.0 ∷ ps) (go c.1)) (with_piece m cs go) h)
      by false e ih h = next (ih h)

module _ (m : Marks) where
  -- at a placeholder, every cut is tried
  readings_hole : (b : ℕ) (t s : List ℕ) → b ≡ m.placeholder → readings m (b ∷ t) s ≡ with_piece m (cuts [] s) (λ rest. readings m t rest)
  unfolding readings cuts
  readings_hole b t [] e = rw (eq-eqb b m.placeholder e, readings) refl
  readings_hole b t (x ∷ s) e = rw (eq-eqb b m.placeholder e, readings) refl

  -- at a literal, the line must go on with it
  readings_literal : (b : ℕ) (t s : List ℕ) → ¬ (b ≡ m.placeholder) → readings m (b ∷ t) s ≡ with_literal b s (λ rest. readings m t rest)
  unfolding readings with_literal
  readings_literal b t [] e = rw (ne_eqb b m.placeholder e, readings) refl
  readings_literal b t (x ∷ s) e = rw (ne_eqb b m.placeholder e, readings) refl

  -- what fits is listed
  pub fits_listed : (t : List ℕ) (ps : Pieces) (s : List ℕ) → ¬ (m.left ≡ m.right) → Fits m t ps s → In ps (readings m t s)
  unfolding readings with_literal
  fits_listed t ps s n end = inl refl
  fits_listed t ps s n (literal b u qs r e h) = rw (readings_literal b u (b ∷ r) e, eq-eqb b b refl, with_literal) (fits_listed u ps r n h)
  fits_listed t ps s n (placeholder b u p qs r e h k) =
      rw (readings_hole b u (p ++ r) e) (with_in m (λ rest. readings m u rest) (cuts [] (p ++ r)) p r qs (cut_in [] p r) (balanced_complete m p n h) (fits_listed u qs r n k))

  -- a balanced beginning and what fits the rest fit the line
  piece_fits : (b : ℕ) (t s p r q : List ℕ) (ps qs : Pieces) → b ≡ m.placeholder → ps ≡ p ∷ qs → p ≡ q → s ≡ q ++ r → Balanced m p → Fits m t qs r → Fits m (b ∷ t) ps s
  piece_fits b t s p r q ps qs e f g h k l = rw (f, h, ← g) (placeholder b t p qs r e k l)

  -- what is listed fits
  pub listed_fits : (t : List ℕ) (ps : Pieces) (s : List ℕ) → In ps (readings m t s) → Fits m t ps s
  unfolding readings with_literal
  listed_fits [] ps [] (inl e) = rw e end
  listed_fits [] ps [] (inr h) = absurd h.lower
  listed_fits [] ps (x ∷ s) h = absurd h.lower
  listed_fits (b ∷ t) ps s h = by (eqb b m.placeholder) (tested b m.placeholder) (λ qs r k. listed_fits t qs r k)
    where
      at_literal : (s : List ℕ) → ¬ (b ≡ m.placeholder) → ((qs : Pieces) (r : List ℕ) → In qs (readings m t r) → Fits m t qs r) → In ps (with_literal b s (λ rest. readings m t rest)) → Fits m (b ∷ t) ps s
      at_literal [] e ih k = absurd k.lower
      at_literal (x ∷ r) e ih k = at (eqb x b) (tested x b) k
        where
          at : (c : Bool) → Tested x b c → In ps (elim c [ true ↦ readings m t r | false ↦ [] ]) → Fits m (b ∷ t) ps (x ∷ r)
          at true (alike a) k = rw a (literal b t ps r e (ih ps r k))
          at false (apart a) k = absurd k.lower

      by : (c : Bool) → Tested b m.placeholder c → ((qs : Pieces) (r : List ℕ) → In qs (readings m t r) → Fits m t qs r) → Fits m (b ∷ t) ps s
      by true (alike e) ih =
          let o = with_out m (λ rest. readings m t rest) (cuts [] s) ps (rw (readings_hole b t s e) at h) in
          let c = cut_out o.0 [] s o.2 in
          piece_fits b t s o.0.0 o.0.1 c.0 ps o.1 e o.4 c.1 c.2 (balanced_sound m o.0.0 o.3) (ih o.1 o.0.1 o.5)
      by false (apart e) ih = at_literal s e ih (rw (readings_literal b t s e) at h)

-- ---- the order of ranks, on readings of one line, is Before

-- a lower number ranks below
less_here : (x y : ℕ) (s t : List ℕ) → x < y → less (x ∷ s) (y ∷ t) ≡ true
unfolding less
less_here x y s t h =
    let n : ¬ (x ≡ y) = omega arith in
    rw (ne_eqb x y n, less) (lt-ltb x y h)

-- no rank is below itself
less-same : (s : List ℕ) → less s s ≡ false
unfolding less
less-same [] = refl
less-same (x ∷ s) = rw (eq-eqb x x refl, less) (less-same s)

-- equal numbers leave it to the rest
less-later : (x : ℕ) (s t : List ℕ) → less (x ∷ s) (x ∷ t) ≡ less s t
unfolding less
less-later x s t = rw (eq-eqb x x refl, less) refl

-- a higher number never ranks below
less_never : (x y : ℕ) (s t : List ℕ) → y < x → less (x ∷ s) (y ∷ t) ≡ false
unfolding less
less_never x y s t h =
    let n : ¬ (x ≡ y) = omega arith in
    let l : y ≤ x = omega arith in
    rw (ne_eqb x y n, less) (le-ltb x y l)

module _ (m : Marks) where
  -- the rank at a placeholder is one more than the piece's length
  rank_hole : (b : ℕ) (t p : List ℕ) (ps : Pieces) → b ≡ m.placeholder → rank m (b ∷ t) (p ∷ ps) ≡ suc (length p) ∷ rank m t ps
  unfolding rank
  rank_hole b t p ps e = rw (eq-eqb b m.placeholder e, rank) refl

  -- the rank at a literal is 0
  rank_literal : (b : ℕ) (t : List ℕ) (ps : Pieces) → ¬ (b ≡ m.placeholder) → rank m (b ∷ t) ps ≡ 0 ∷ rank m t ps
  unfolding rank
  rank_literal b t [] e = refl
  rank_literal b t (p ∷ ps) e = rw (ne_eqb b m.placeholder e, rank) refl

  -- what comes before has the lower rank
  pub before-rank : (t : List ℕ) (ps : Pieces) (u : List ℕ) (qs : Pieces) → Before m t ps u qs → less (rank m t ps) (rank m u qs) ≡ true
  unfolding rank
  before-rank t ps u qs (end_first c v q _ rs e) = rw (rank_hole c v q rs e) (less_here 0 (suc (length q)) [] (rank m v rs) (omega arith))
  before-rank t ps u qs (literal_first b c s v q _ rs n e) = rw (rank_literal b s ps n, rank_hole c v q rs e) (less_here 0 (suc (length q)) (rank m s ps) (rank m v rs) (omega arith))
  before-rank t ps u qs (shorter b c s v p q ls rs d e h) = rw (rank_hole b s p ls d, rank_hole c v q rs e) (less_here (suc (length p)) (suc (length q)) (rank m s ls) (rank m v rs) (omega arith))
  before-rank t ps u qs (after_literal b s v _ _ n h) = rw (rank_literal b s ps n, rank_literal b v qs n) (less-later 0 (rank m s ps) (rank m v qs) ∙ before-rank s ps v qs h)
  before-rank t ps u qs (after_piece b s v p ls rs e h) = rw (rank_hole b s p ls e, rank_hole b v p rs e) (less-later (suc (length p)) (rank m s ls) (rank m v rs) ∙ before-rank s ls v rs h)

-- lists that begin the same line with the same length are equal, and so are the rests
append_same : (p q s t : List ℕ) → length p ≡ length q → p ++ s ≡ q ++ t → (p ≡ q) × (s ≡ t)
append_same [] [] s t l e = (refl, e)
append_same [] (y ∷ q) s t l e = absurd (omega arith)
append_same (x ∷ p) [] s t l e = absurd (omega arith)
append_same (x ∷ p) (y ∷ q) s t l e =
    let a : x ≡ y = cc in
    let b : p ++ s ≡ q ++ t = cc in
    let r = append_same p q s t (omega arith) b in
    (ap₂ ◌∷◌ a r.0, r.1)

-- two readings of one line: the same, or one comes before the other
pub data Compared (m : Marks) (t : List ℕ) (ps : Pieces) (u : List ℕ) (qs : Pieces) : Type 0 where
  same : t ≡ u → ps ≡ qs → Compared m t ps u qs
  first : Before m t ps u qs → Compared m t ps u qs
  second : Before m u qs t ps → Compared m t ps u qs

-- two numbers, one below the other or equal
pub data Order (a b : ℕ) : Type 0 where
  lower : a < b → Order a b
  level : a ≡ b → Order a b
  upper : b < a → Order a b

-- any two numbers stand in one of three orders
pub order : (a b : ℕ) → Order a b
order zero zero = level refl
order zero (suc b) = lower (omega arith)
order (suc a) zero = upper (omega arith)
order (suc a) (suc b) = elim (order a b) [ lower h ↦ lower (omega arith) | level h ↦ level (omega arith) | upper h ↦ upper (omega arith) ]

module _ (m : Marks) where
  -- the same literal in front changes nothing
  on_literal : (b : ℕ) (t u : List ℕ) (ps qs : Pieces) → ¬ (b ≡ m.placeholder) → Compared m t ps u qs → Compared m (b ∷ t) ps (b ∷ u) qs
  on_literal b t u ps qs n (same e f) = same (ap (λ (l : List ℕ). b ∷ l) e) f
  on_literal b t u ps qs n (first h) = first (after_literal b t u ps qs n h)
  on_literal b t u ps qs n (second h) = second (after_literal b u t qs ps n h)

  -- the same piece in front changes nothing
  on_piece : (b : ℕ) (t u p : List ℕ) (ps qs : Pieces) → b ≡ m.placeholder → Compared m t ps u qs → Compared m (b ∷ t) (p ∷ ps) (b ∷ u) (p ∷ qs)
  on_piece b t u p ps qs n (same e f) = same (ap (λ (l : List ℕ). b ∷ l) e) (ap (λ (l : Pieces). p ∷ l) f)
  on_piece b t u p ps qs n (first h) = first (after_piece b t u p ps qs n h)
  on_piece b t u p ps qs n (second h) = second (after_piece b u t p qs ps n h)

  -- two readings of one line are the same, or one comes before the other
  pub compare : (t : List ℕ) (ps : Pieces) (s u : List ℕ) (qs : Pieces) (r : List ℕ) → Fits m t ps s → Fits m u qs r → s ≡ r → Compared m t ps u qs
  compare t ps s u qs r end end e = same refl refl
  compare t ps s u qs r end (literal c v _ k n g) e = let z : ◌≡◌ {A = ℕ} 0 1 = cc in absurd (omega arith)
  compare t ps s u qs r end (placeholder c v q rs k d b g) e = first (end_first c v q [] rs d)
  compare t ps s u qs r (literal c v _ k n g) end e = let z : ◌≡◌ {A = ℕ} 0 1 = cc in absurd (omega arith)
  compare t ps s u qs r (literal c v _ k n g) (literal c' v' _ k' n' g') e =
      let a : c' ≡ c = cc in
      let b : k ≡ k' = cc in
      rw a (on_literal c v v' ps qs n (compare v ps k v' qs k' g g' b))
  compare t ps s u qs r (literal c v _ k n g) (placeholder c' v' q rs k' d b g') e = first (literal_first c c' v v' q ps rs n d)
  compare t ps s u qs r (placeholder c v q rs k d b g) end e = second (end_first c v q [] rs d)
  compare t ps s u qs r (placeholder c v q rs k d b g) (literal c' v' _ k' n g') e = second (literal_first c' c v' v q qs rs n d)
  compare t ps s u qs r (placeholder c v p ls k d b g) (placeholder c' v' q rs k' d' b' g') e =
      by (order (length p) (length q)) (λ f. compare v ls k v' rs k' g g' f)
    where
      by : Order (length p) (length q) → (k ≡ k' → Compared m v ls v' rs) → Compared m (c ∷ v) (p ∷ ls) (c' ∷ v') (q ∷ rs)
      by (lower h) ih = first (shorter c c' v v' p q ls rs d d' h)
      by (upper h) ih = second (shorter c' c v' v q p rs ls d' d h)
      by (level h) ih =
          let a = append_same p q k k' h e in
          rw (d, d', a.0) (on_piece m.placeholder v v' q ls rs refl (ih a.1))

-- ---- `least` takes a reading of least rank

-- with x before y at the head, or equal heads and the same of the rests
ahead : (x y : ℕ) (s t : List ℕ) → less (y ∷ t) (x ∷ s) ≡ false → (x < y) ⊎ ((x ≡ y) × (less t s ≡ false))
ahead x y s t e = by (order x y)
  where
    by : Order x y → (x < y) ⊎ ((x ≡ y) × (less t s ≡ false))
    by (lower h) = inl h
    by (level h) = inr (h, sym (less-later x t s) ∙ (rw (← h) at e))
    by (upper h) = false-not-true (sym e ∙ less_here y x t s h)

-- not later than: it goes on from one to the next
less_chain : (a b c : List ℕ) → less b a ≡ false → less c b ≡ false → less c a ≡ false
unfolding less
less_chain [] b [] h k = refl
less_chain [] b (z ∷ u) h k = refl
less_chain (x ∷ s) [] c h k = false-not-true (sym h)
less_chain (x ∷ s) (y ∷ t) [] h k = false-not-true (sym k)
less_chain (x ∷ s) (y ∷ t) (z ∷ u) h k = by (ahead x y s t h) (ahead y z t u k) (λ f g. less_chain s t u f g)
  where
    by : (x < y) ⊎ ((x ≡ y) × (less t s ≡ false)) → (y < z) ⊎ ((y ≡ z) × (less u t ≡ false)) → (less t s ≡ false → less u t ≡ false → less u s ≡ false) → less (z ∷ u) (x ∷ s) ≡ false
    by (inl p) (inl q) ih = less_never z x u s (omega arith)
    by (inl p) (inr q) ih = less_never z x u s (omega (arith, q.0))
    by (inr p) (inl q) ih = less_never z x u s (omega (arith, p.0))
    by (inr p) (inr q) ih = rw (p.0, q.0) (less-later z u s ∙ ih p.1 q.1)

-- of two ranks at most one is below the other
less_once : (a b : List ℕ) → less a b ≡ true → less b a ≡ false
unfolding less
less_once [] [] e = false-not-true e
less_once [] (y ∷ t) e = refl
less_once (x ∷ s) [] e = false-not-true e
less_once (x ∷ s) (y ∷ t) e = by (order x y) (λ h. less_once s t h)
  where
    by : Order x y → (less s t ≡ true → less t s ≡ false) → less (y ∷ t) (x ∷ s) ≡ false
    by (lower h) ih = less_never y x t s h
    by (level h) ih = rw h (less-later y t s ∙ ih (sym (less-later y s t) ∙ (rw h at e)))
    by (upper h) ih = false-not-true (sym (less_never x y s t h) ∙ e)

-- of two readings of one line, the one with the lower rank is the one that comes before
pub rank-before : (m : Marks) (t : List ℕ) (ps : Pieces) (u : List ℕ) (qs : Pieces) (s : List ℕ) → Fits m t ps s → Fits m u qs s
    → less (rank m t ps) (rank m u qs) ≡ true ↔ Before m t ps u qs
rank-before m t ps u qs s h k = (λ e. by e (compare m t ps s u qs s h k refl), before-rank m t ps u qs)
  where
    by : less (rank m t ps) (rank m u qs) ≡ true → Compared m t ps u qs → Before m t ps u qs
    by e (same a b) = false-not-true (sym (less-same (rank m u qs)) ∙ (ap₂ (λ x y. less (rank m x y) (rank m u qs)) (sym a) (sym b) ∙ e))
    by e (first b) = b
    by e (second b) = false-not-true (sym (less_once (rank m u qs) (rank m t ps) (before-rank m u qs t ps b)) ∙ e)

-- the least is one of the readings
least_of_in : (r : Reading) (xs : List Reading) → In (least_of r xs) (r ∷ xs)
unfolding least_of
least_of_in r [] = inl refl
least_of_in r (x ∷ xs) = by (less x.order r.order) (least_of_in x xs) (least_of_in r xs)
  where
    by : (b : Bool) → In (least_of x xs) (x ∷ xs) → In (least_of r xs) (r ∷ xs) → In (elim b as (λ c. Reading) [ true ↦ least_of x xs | false ↦ least_of r xs ]) (r ∷ x ∷ xs)
    by true h k = inr h
    by false (h) (inl e) = inl e
    by false (h) (inr k) = inr (inr k)

-- the first reading doesn't rank below the least
least_of_first : (r : Reading) (xs : List Reading) → less r.order (least_of r xs).order ≡ false
unfolding least_of
least_of_first r [] = less-same r.order
least_of_first r (x ∷ xs) = by (less x.order r.order) refl (least_of_first x xs) (least_of_first r xs)
  where
    by : (b : Bool) → less x.order r.order ≡ b → less x.order (least_of x xs).order ≡ false → less r.order (least_of r xs).order ≡ false
        → less r.order (elim b as (λ c. Reading) [ true ↦ least_of x xs | false ↦ least_of r xs ]).order ≡ false
    by true e h k = less_chain (least_of x xs).order x.order r.order h (less_once x.order r.order e)
    by false e h k = k

-- no other reading ranks below the least
least_of-rest : (r : Reading) (xs : List Reading) (y : Reading) → In y xs → less y.order (least_of r xs).order ≡ false
unfolding least_of
least_of-rest r [] y h = absurd h.lower
least_of-rest r (x ∷ xs) y h = by (less x.order r.order) refl h (λ s k. least_of-rest s xs y k)
  where
    by : (b : Bool) → less x.order r.order ≡ b → In y (x ∷ xs) → ((s : Reading) → In y xs → less y.order (least_of s xs).order ≡ false)
        → less y.order (elim b as (λ c. Reading) [ true ↦ least_of x xs | false ↦ least_of r xs ]).order ≡ false
    by true e (inl i) ih = rw i (least_of_first x xs)
    by false e (inl i) ih = rw i (less_chain (least_of r xs).order r.order x.order (least_of_first r xs) e)
    by true e (inr k) ih = ih x k
    by false e (inr k) ih = ih r k

-- `least` is one of the readings, and none ranks below it
least_is : (l : List Reading) (r : Reading) → least l ≡ some r → In r l × ((y : Reading) → In y l → less y.order r.order ≡ false)
unfolding least
least_is [] r e = let z : ◌≡◌ {A = ℕ} 0 1 = cc in absurd (omega arith)
least_is (x ∷ xs) r e =
    let i : least_of x xs ≡ r = cc in
    subst (λ (s : Reading). In s (x ∷ xs) × ((y : Reading) → In y (x ∷ xs) → less y.order s.order ≡ false)) i
    (least_of_in x xs, λ y h. ⊎_elim (λ k. rw k (least_of_first x xs)) (λ k. least_of-rest x xs y k) h)

-- where there is no least, there is no reading
least-none : (l : List Reading) (r : Reading) → least l ≡ none → In r l → ⊥
unfolding least
least-none [] r e h = h.lower
least-none (x ∷ l) r e h = let z : ◌≡◌ {A = ℕ} 0 1 = cc in omega arith

-- where there is no reading, there is no least
no_least : (l : List Reading) → ((r : Reading) → In r l → ⊥) → least l ≡ none
unfolding least
no_least [] f = refl
no_least (x ∷ l) f = absurd (f x (inl refl))

-- ---- all readings of a line

module _ (m : Marks) (line : List ℕ) where
  -- a listed reading of one template has that template's place and rank
  as_out : (i : ℕ) (t : List ℕ) (l : List Pieces) (r : Reading) → In r (as_readings m i t l) → (r.which ≡ i) × (r.order ≡ rank m t r.pieces) × In r.pieces l
  unfolding as_readings
  as_out i t [] r h = absurd h.lower
  as_out i t (ps ∷ l) r (inl e) = (ap (λ (x : Reading). x.which) e, ap (λ (x : Reading). x.order) e ∙ ap (λ (x : Reading). rank m t x.pieces) (sym e), inl (ap (λ (x : Reading). x.pieces) e))
  as_out i t (ps ∷ l) r (inr h) = let o = as_out i t l r h in (o.0, o.1, inr o.2)

  -- a template's pieces make a listed reading
  as_in : (i : ℕ) (t : List ℕ) (l : List Pieces) (ps : Pieces) → In ps l → In (record { which = i; pieces = ps; order = rank m t ps }) (as_readings m i t l)
  unfolding as_readings
  as_in i t [] ps h = absurd h.lower
  as_in i t (qs ∷ l) ps (inl e) = inl (rw e)
  as_in i t (qs ∷ l) ps (inr h) = inr (as_in i t l ps h)

  -- a listed reading is one by some template
  Listed : ℕ → List (List ℕ) → Reading → Type 0
  Listed i ts r = (k : ℕ) × (k < length ts) × (r.which ≡ i + k) × (r.order ≡ rank m (get_or ts k []) r.pieces) × In r.pieces (readings m (get_or ts k []) line)

  -- every listed reading is one by some template
  all_out : (i : ℕ) (ts : List (List ℕ)) (r : Reading) → In r (all_readings m i ts line) → Listed i ts r
  unfolding all_readings Listed
  all_out i [] r h = absurd h.lower
  all_out i (t ∷ ts) r h = ⊎_elim
      (λ k. let o = as_out i t (readings m t line) r k in (0, omega arith, omega (arith, o.0), o.1, o.2))
      (λ k. let o = all_out (suc i) ts r k in (suc o.0, omega (arith, o.1), omega (arith, o.2), o.3, o.4))
      (in-append r (as_readings m i t (readings m t line)) (all_readings m (suc i) ts line) h)

  -- every template's pieces make a listed reading
  all_in : (i : ℕ) (ts : List (List ℕ)) (k : ℕ) (ps : Pieces) → k < length ts → In ps (readings m (get_or ts k []) line)
      → In (record { which = i + k; pieces = ps; order = rank m (get_or ts k []) ps }) (all_readings m i ts line)
  unfolding all_readings
  all_in i [] k ps h g = absurd (omega arith)
  all_in i (t ∷ ts) zero ps h g =
      let z : i + 0 ≡ i = omega arith in
      rw z (in_left _ (as_readings m i t (readings m t line)) (all_readings m (suc i) ts line) (as_in i t (readings m t line) ps g))
  all_in i (t ∷ ts) (suc k) ps h g =
      let z : suc i + k ≡ i + suc k = omega arith in
      in_right _ (as_readings m i t (readings m t line)) (all_readings m (suc i) ts line) (rw z at (all_in (suc i) ts k ps (omega arith) g))

-- ---- the theorems

module _ (m : Marks) (ts : List (List ℕ)) (line : List ℕ) where
  -- a listed reading reads the line, and has its rank
  listed_reads : (r : Reading) → In r (all_readings m 0 ts line) → Reads m ts line r.which r.pieces × (r.order ≡ rank m (get_or ts r.which []) r.pieces)
  unfolding Listed
  listed_reads r h =
      let o = all_out m line 0 ts r h in
      let z : r.which ≡ o.0 = omega (arith, o.2) in
      rw z (record { place = o.1; fits = listed_fits m (get_or ts o.0 []) r.pieces line o.4 }, o.3)

  -- the chosen reading is one
  pub chosen-reads : (r : Reading) → chosen m ts line ≡ some r → Reads m ts line r.which r.pieces
  unfolding chosen
  chosen-reads r e = (listed_reads r (least_is (all_readings m 0 ts line) r e).0).0

module _ (m : Marks) (apart-brackets : ¬ (m.left ≡ m.right)) (ts : List (List ℕ)) (line : List ℕ) where
  -- what reads the line is listed
  reads_listed : (i : ℕ) (ps : Pieces) → Reads m ts line i ps → In (record { which = i; pieces = ps; order = rank m (get_or ts i []) ps }) (all_readings m 0 ts line)
  reads_listed i ps h = rw zero-add at (all_in m line 0 ts i ps h.place (fits_listed m (get_or ts i []) ps line apart-brackets h.fits))

  -- where nothing reads the line, nothing is chosen
  reads_none : ((i : ℕ) (ps : Pieces) → ¬ Reads m ts line i ps) → chosen m ts line ≡ none
  unfolding chosen
  reads_none n = no_least (all_readings m 0 ts line) (λ r h. n r.which r.pieces (listed_reads m ts line r h).0)

  -- where nothing is chosen, nothing reads the line
  none_reads : chosen m ts line ≡ none → (i : ℕ) (ps : Pieces) → ¬ Reads m ts line i ps
  unfolding chosen
  none_reads e i ps h = least-none (all_readings m 0 ts line) _ e (reads_listed i ps h)

  -- no reading is chosen exactly where the line has none: then it is no call
  pub no_call : chosen m ts line ≡ none ↔ ((i : ℕ) (ps : Pieces) → ¬ Reads m ts line i ps)
  no_call = (none_reads, reads_none)

  -- no reading ranks below the chosen one
  chosen-least : (r : Reading) → chosen m ts line ≡ some r → (j : ℕ) (qs : Pieces) → Reads m ts line j qs
      → Reads m ts line r.which r.pieces × (less (rank m (get_or ts j []) qs) (rank m (get_or ts r.which []) r.pieces) ≡ false)
  unfolding chosen
  chosen-least r e j qs h =
      let l = least_is (all_readings m 0 ts line) r e in
      let q = listed_reads m ts line r l.0 in
      (q.0, ap (less (rank m (get_or ts j []) qs)) (sym q.1) ∙ l.1 _ (reads_listed j qs h))

  -- the chosen reading is the first
  pub chosen_first : Distinct ts → (r : Reading) → chosen m ts line ≡ some r → First m ts line r.which r.pieces
  chosen_first d r e = record { reads = chosen-reads m ts line r e; before = λ j qs h. by j qs h (chosen-least r e j qs h) }
    where
      by : (j : ℕ) (qs : Pieces) → Reads m ts line j qs
          → Reads m ts line r.which r.pieces × (less (rank m (get_or ts j []) qs) (rank m (get_or ts r.which []) r.pieces) ≡ false)
          → ((r.which ≡ j) × (r.pieces ≡ qs)) ⊎ Before m (get_or ts r.which []) r.pieces (get_or ts j []) qs
      by j qs h (g, k) = at (compare m _ _ line _ _ line g.fits h.fits refl)
        where
          at : Compared m (get_or ts r.which []) r.pieces (get_or ts j []) qs → ((r.which ≡ j) × (r.pieces ≡ qs)) ⊎ Before m (get_or ts r.which []) r.pieces (get_or ts j []) qs
          at (same t p) = inl (d r.which j g.place h.place t, p)
          at (first b) = inr b
          at (second b) = false-not-true (sym k ∙ before-rank m _ _ _ _ b)

  -- a first reading is the chosen one
  pub first_chosen : (i : ℕ) (ps : Pieces) → First m ts line i ps → (r : Reading) × (chosen m ts line ≡ some r) × (i ≡ r.which) × (ps ≡ r.pieces)
  first_chosen i ps h = by (chosen m ts line) refl
    where
      by : (o : Option Reading) → chosen m ts line ≡ o → (r : Reading) × (chosen m ts line ≡ some r) × (i ≡ r.which) × (ps ≡ r.pieces)
      by none e = absurd (none_reads e i ps h.reads)
      by (some r) e =
          let l = chosen-least r e i ps h.reads in
          ⊎_elim (λ s. (r, e, s.0, s.1)) (λ b. false-not-true (sym l.1 ∙ before-rank m _ _ _ _ b)) (h.before r.which r.pieces l.0)
