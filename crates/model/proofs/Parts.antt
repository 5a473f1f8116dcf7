-- A reading as one list of parts, the form in which a search of the templates' tree makes it. The first reading in this form is
-- that of module Fitting, and so the chosen one.
-- The theorems, at the end: no_parts, parts_first, parts_chosen.
use mathlib.Core.Path.{◌≡◌, refl, ap, sym, ◌∙◌, subst}
use mathlib.Core.Bool.{Bool, true, false}
use mathlib.Core.Logic.{◌⊎◌, inl, inr, ⊎_elim}
use mathlib.Core.Option.{none, some}
use mathlib.Core.List.{List, [], ◌∷◌, ◌++◌}
use Prim.Native.Nat.{ℕ}
use native.Mathlib.Omega.{arith}
use borrow.Author.Tests.{eq-eqb, ne_eqb}
use lib.Dec.{eqb}
use lib.ListN.{get_or}
use Rattle.model.specs.declared.Marks.{Marks}
use Rattle.model.specs.Reading.{Pieces, Reading, chosen}
use Rattle.model.specs.Fitting.{Fits, end, literal, placeholder, Before, end_first, literal_first, shorter, after_literal, after_piece, Reads, Distinct, First}
use Rattle.model.specs.Parts.{Elem, lit, hole, stop, ReadingPart, byte, piece, elems, text, Good, elements, pieces, Earlier, end-piece, byte_piece, less_piece, later, PartsRead}
use Rattle.model.proofs.Chosen.{Tested, alike, apart, tested, no_call, first_chosen}

-- ---- the statements

-- ---- from parts to a template and its pieces

module _ (m : Marks) where
  -- at mark 2, a placeholder
  pub elems_hole : (b : ℕ) (t : List ℕ) → b ≡ m.placeholder → elems m (b ∷ t) ≡ hole ∷ elems m t
  unfolding elems
  elems_hole b t e = rw (eq-eqb b m.placeholder e, elems) refl

  -- at any other byte, a literal
  pub elems-lit : (b : ℕ) (t : List ℕ) → ¬ (b ≡ m.placeholder) → elems m (b ∷ t) ≡ lit b ∷ elems m t
  unfolding elems
  elems-lit b t e = rw (ne_eqb b m.placeholder e, elems) refl

  -- a template whose elements begin with its end is empty
  at-end : (es : List Elem) (t : List ℕ) → stop ∷ es ≡ elems m t → t ≡ []
  unfolding elems
  at-end es [] e = refl
  at-end es (c ∷ t) e = by (eqb c m.placeholder) (tested c m.placeholder)
    where
      by : (b : Bool) → Tested c m.placeholder b → c ∷ t ≡ []
      by true (alike a) = let q : stop ∷ es ≡ hole ∷ elems m t = e ∙ elems_hole c t a in cc
      by false (apart a) = let q : stop ∷ es ≡ lit c ∷ elems m t = e ∙ elems-lit c t a in cc

  -- a template whose elements begin with a literal begins with that byte
  at_lit : (b : ℕ) (es : List Elem) (t : List ℕ) → lit b ∷ es ≡ elems m t → (u : List ℕ) × (t ≡ b ∷ u) × (¬ (b ≡ m.placeholder)) × (es ≡ elems m u)
  unfolding elems
  at_lit b es [] e = let z : ◌≡◌ {A = ℕ} 0 1 = cc in absurd (omega arith)
  at_lit b es (c ∷ t) e = by (eqb c m.placeholder) (tested c m.placeholder)
    where
      by : (k : Bool) → Tested c m.placeholder k → (u : List ℕ) × (c ∷ t ≡ b ∷ u) × (¬ (b ≡ m.placeholder)) × (es ≡ elems m u)
      by true (alike a) =
          let q : lit b ∷ es ≡ hole ∷ elems m t = e ∙ elems_hole c t a in
          let z : ◌≡◌ {A = ℕ} 0 1 = cc in
          absurd (omega arith)
      by false (apart a) =
          let q : lit b ∷ es ≡ lit c ∷ elems m t = e ∙ elems-lit c t a in
          let z : c ≡ b = cc in
          (t, ap (λ (x : ℕ). x ∷ t) z, λ h. a (z ∙ h), cc)

  -- a template whose elements begin with a placeholder begins with mark 2
  at_hole : (es : List Elem) (t : List ℕ) → hole ∷ es ≡ elems m t → (u : List ℕ) × (t ≡ m.placeholder ∷ u) × (es ≡ elems m u)
  unfolding elems
  at_hole es [] e = let z : ◌≡◌ {A = ℕ} 0 1 = cc in absurd (omega arith)
  at_hole es (c ∷ t) e = by (eqb c m.placeholder) (tested c m.placeholder)
    where
      by : (k : Bool) → Tested c m.placeholder k → (u : List ℕ) × (c ∷ t ≡ m.placeholder ∷ u) × (es ≡ elems m u)
      by true (alike a) =
          let q : hole ∷ es ≡ hole ∷ elems m t = e ∙ elems_hole c t a in
          (t, ap (λ (x : ℕ). x ∷ t) a, cc)
      by false (apart a) =
          let q : hole ∷ es ≡ lit c ∷ elems m t = e ∙ elems-lit c t a in
          let z : ◌≡◌ {A = ℕ} 0 1 = cc in
          absurd (omega arith)

  -- good parts fit
  parts_fit : (r : List ReadingPart) (t : List ℕ) → elements r ≡ elems m t → Good m r → Fits m t (pieces r) (text r)
  parts_fit [] t e g = rw (at-end [] t e) end
  parts_fit (byte b ∷ r) t e g = let h = at_lit b (elements r) t e in rw h.1 (literal b h.0 (pieces r) (text r) h.2 (parts_fit r h.0 h.3 g))
  parts_fit (piece p ∷ r) t e g = let h = at_hole (elements r) t e in rw h.1 (placeholder m.placeholder h.0 p (pieces r) (text r) refl g.0 (parts_fit r h.0 h.2 g.1))

  -- what fits has its parts
  fit_parts : (t : List ℕ) (ps : Pieces) (s : List ℕ) → Fits m t ps s → (r : List ReadingPart) × (elements r ≡ elems m t) × (text r ≡ s) × Good m r × (pieces r ≡ ps)
  unfolding elems
  fit_parts t ps s end = ([], refl, refl, tt, refl)
  fit_parts t ps s (literal b u _ k n h) =
      let o = fit_parts u ps k h in
      (byte b ∷ o.0, ap (λ (l : List Elem). lit b ∷ l) o.1 ∙ sym (elems-lit b u n), ap (λ (l : List ℕ). b ∷ l) o.2, o.3, o.4)
  fit_parts t ps s (placeholder b u p qs k e g h) =
      let o = fit_parts u qs k h in
      (piece p ∷ o.0, ap (λ (l : List Elem). hole ∷ l) o.1 ∙ sym (elems_hole b u e), ap (λ (l : List ℕ). p ++ l) o.2, (g, o.3), ap (λ (l : Pieces). p ∷ l) o.4)

  -- what is earlier comes before
  earlier_before : (r o : List ReadingPart) → Earlier r o → (t u : List ℕ) → elements r ≡ elems m t → elements o ≡ elems m u → Before m t (pieces r) u (pieces o)
  earlier_before r o (end-piece p s) t u e f =
      let k = at_hole (elements s) u f in
      rw (at-end [] t e, k.1) (end_first m.placeholder k.0 p [] (pieces s) refl)
  earlier_before r o (byte_piece b p q s) t u e f =
      let h = at_lit b (elements q) t e in
      let k = at_hole (elements s) u f in
      rw (h.1, k.1) (literal_first b m.placeholder h.0 k.0 p (pieces q) (pieces s) h.2 refl)
  earlier_before r o (less_piece p q x y l) t u e f =
      let h = at_hole (elements x) t e in
      let k = at_hole (elements y) u f in
      rw (h.1, k.1) (shorter m.placeholder m.placeholder h.0 k.0 p q (pieces x) (pieces y) refl refl l)
  earlier_before r o (later (byte b) x y l) t u e f =
      let h = at_lit b (elements x) t e in
      let k = at_lit b (elements y) u f in
      rw (h.1, k.1) (after_literal b h.0 k.0 (pieces x) (pieces y) h.2 (earlier_before x y l h.0 k.0 h.3 k.3))
  earlier_before r o (later (piece p) x y l) t u e f =
      let h = at_hole (elements x) t e in
      let k = at_hole (elements y) u f in
      rw (h.1, k.1) (after_piece m.placeholder h.0 k.0 p (pieces x) (pieces y) refl (earlier_before x y l h.0 k.0 h.2 k.2))

  -- templates with the same elements are equal
  pub elems-same : (t u : List ℕ) → elems m t ≡ elems m u → t ≡ u
  unfolding elems
  elems-same [] u e = sym (at-end [] u e)
  elems-same (b ∷ t) u e = by (eqb b m.placeholder) (tested b m.placeholder) (λ v. elems-same t v)
    where
      by : (k : Bool) → Tested b m.placeholder k → ((v : List ℕ) → elems m t ≡ elems m v → t ≡ v) → b ∷ t ≡ u
      by true (alike a) ih =
          let h = at_hole (elems m t) u (sym (elems_hole b t a) ∙ e) in
          rw (a, h.1) (ap (λ (l : List ℕ). m.placeholder ∷ l) (ih h.0 h.2))
      by false (apart a) ih =
          let h = at_lit b (elems m t) u (sym (elems-lit b t a) ∙ e) in
          rw h.1 (ap (λ (l : List ℕ). b ∷ l) (ih h.0 h.3))

-- ---- the theorems

module _ (m : Marks) (apart-brackets : ¬ (m.left ≡ m.right)) (ts : List (List ℕ)) (line : List ℕ) where
  -- a reading has its parts
  reads_parts : (i : ℕ) (ps : Pieces) → Reads m ts line i ps → (r : List ReadingPart) × PartsRead m ts line i r × (pieces r ≡ ps)
  reads_parts i ps h =
      let o = fit_parts m (get_or ts i []) ps line h.fits in
      (o.0, record { place = h.place; template = o.1; joined = o.2; good = o.3 }, o.4)

  -- parts that read the line are a reading
  parts_reads : (i : ℕ) (r : List ReadingPart) → PartsRead m ts line i r → Reads m ts line i (pieces r)
  parts_reads i r h = record { place = h.place; fits = subst (Fits m (get_or ts i []) (pieces r)) h.joined (parts_fit m r (get_or ts i []) h.template h.good) }

  -- where no parts read the line, none is chosen
  pub no_parts : ((i : ℕ) (r : List ReadingPart) → ¬ PartsRead m ts line i r) → chosen m ts line ≡ none
  no_parts n = (no_call m apart-brackets ts line).1 (λ i ps h. let o = reads_parts i ps h in n i o.0 o.1)

  -- parts that read the line before all others are the first reading
  pub parts_first : Distinct ts → (i : ℕ) (r : List ReadingPart) → PartsRead m ts line i r
      → ((j : ℕ) (o : List ReadingPart) → PartsRead m ts line j o → (r ≡ o) ⊎ Earlier r o) → First m ts line i (pieces r)
  parts_first d i r h f = record { reads = parts_reads i r h; before = λ j qs k. by j qs k (reads_parts j qs k) }
    where
      by : (j : ℕ) (qs : Pieces) → Reads m ts line j qs → (o : List ReadingPart) × PartsRead m ts line j o × (pieces o ≡ qs)
          → ((i ≡ j) × (pieces r ≡ qs)) ⊎ Before m (get_or ts i []) (pieces r) (get_or ts j []) qs
      by j qs k (o, p, e) = ⊎_elim
          (λ q. inl (d i j h.place k.place (elems-same m (get_or ts i []) (get_or ts j []) (sym h.template ∙ (ap elements q ∙ p.template))), ap pieces q ∙ e))
          (λ q. inr (subst (Before m (get_or ts i []) (pieces r) (get_or ts j [])) e (earlier_before m r o q (get_or ts i []) (get_or ts j []) h.template p.template)))
          (f j o p)

  -- and so the chosen one
  pub parts_chosen : Distinct ts → (i : ℕ) (r : List ReadingPart) → PartsRead m ts line i r
      → ((j : ℕ) (o : List ReadingPart) → PartsRead m ts line j o → (r ≡ o) ⊎ Earlier r o)
      → (c : Reading) × (chosen m ts line ≡ some c) × (i ≡ c.which) × (pieces r ≡ c.pieces)
  parts_chosen d i r h f = first_chosen m apart-brackets ts line i (pieces r) (parts_first d i r h f)
