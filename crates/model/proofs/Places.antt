-- Fitting a line by the search of the templates' tree: it finds the chosen reading, takes up each place once, and so at most as many places as the
-- tree has nodes times (line length + 1), and reads at most as many bytes as these times the line's length. The laws: finds_none, finds_chosen,
-- taken_once, few_taken, few_read; for a text that loads, loaded_places.
use mathlib.Core.Path.{◌≡◌, refl, sym, ◌∙◌, ap, subst}
use mathlib.Core.Bool.{Bool, true, false}
use mathlib.Core.List.{List, [], ◌∷◌, ◌++◌, append_assoc, append-nil}
use mathlib.Core.Option.{none, some}
use Prim.Native.Nat.{ℕ, suc, ◌+◌, ◌*◌, ◌≤◌, ◌<◌}
use native.Mathlib.Omega.{arith}
use lib.Dec.{eqb}
use lib.ListN.{length, get_or}
use Rattle.model.specs.declared.Marks.{Marks}
use Rattle.model.specs.Text.{Bytes}
use Rattle.model.specs.Reading.{Reading, chosen}
use Rattle.model.specs.Load.{templates, nodes, Loaded, loaded, load}
use Rattle.model.specs.Fitting.{Distinct}
use Rattle.model.specs.Parts.{Elem, lit, hole, stop, ReadingPart, byte, piece, elems, text, elements, pieces, PartsRead}
use Rattle.model.specs.Places.{Found, is_in, same_elem, beginnings, beginning_at, child_in, ends_in_hole, holey_in, together, fitting, places_taken, bytes_read, Once}
use Rattle.model.proofs.Choices.{false-not-true}
use Rattle.model.proofs.Parts.{no_parts, parts_chosen}
use Rattle.model.proofs.Search.{search, walk, onward_inv, sound, found_first, found_none}
use Rattle.model.proofs.Unmarked.{unmarked}
use Rattle.model.proofs.Once.{Kids, Fair, fair, few_places}
use Rattle.model.proofs.Looks.{few_bytes}
use Rattle.model.proofs.Beginnings.{number-some, has_beginning, is_beginning, child_is, rank_in, rank_falls, ends_in}
use Rattle.model.proofs.NodeCount.{node_count}
use Rattle.model.proofs.Loading.{brackets, load_legal}

-- ---- what is found

-- what is found is the chosen reading: by the template that its parts spell, with their pieces
pub record IsChosen (m : Marks) (ts : List Bytes) (line : Bytes) (f : Found) : Type 0 where
  pub reading : Reading
  pub is : chosen m ts line ≡ some reading
  pub place : reading.which < length ts
  pub template : elems m (get_or ts reading.which []) ≡ elements f.parts
  pub pieces_are : pieces f.parts ≡ reading.pieces

-- a template's end is its last element
whole : (m : Marks) (t : Bytes) (r : List ReadingPart) (rest : List Elem) → elems m t ≡ elements r ++ rest → elems m t ≡ elements r
unfolding elems
whole m [] [] rest e = refl
whole m [] (byte b ∷ r) rest e = let z : ◌≡◌ {A = ℕ} 0 1 = cc in absurd (omega arith)
whole m [] (piece p ∷ r) rest e = let z : ◌≡◌ {A = ℕ} 0 1 = cc in absurd (omega arith)
whole m (c ∷ t) r rest e = by (eqb c m.placeholder) r (λ r w. whole m t r rest w) e
  where
    by : (b : Bool) (r : List ReadingPart) → ((r : List ReadingPart) → elems m t ≡ elements r ++ rest → elems m t ≡ elements r)
        → (elim b as (λ _. List Elem) [ true ↦ hole ∷ elems m t | false ↦ lit c ∷ elems m t ]) ≡ elements r ++ rest
        → (elim b as (λ _. List Elem) [ true ↦ hole ∷ elems m t | false ↦ lit c ∷ elems m t ]) ≡ elements r
    by true [] ih h = let z : ◌≡◌ {A = ℕ} 0 1 = cc in absurd (omega arith)
    by true (byte b ∷ r) ih h = let z : ◌≡◌ {A = ℕ} 0 1 = cc in absurd (omega arith)
    by true (piece p ∷ r) ih h = ap (λ (l : List Elem). hole ∷ l) (ih r (cc))
    by false [] ih h = let z : ◌≡◌ {A = ℕ} 0 1 = cc in absurd (omega arith)
    by false (byte b ∷ r) ih h =
        let w : lit c ≡ lit b = cc in
        let v : elems m t ≡ elements r ++ rest = cc in
        ap (λ (l : List Elem). lit c ∷ l) (ih r v) ∙ ap (λ (x : Elem). x ∷ elements r) w
    by false (piece p ∷ r) ih h = let z : ◌≡◌ {A = ℕ} 0 1 = cc in absurd (omega arith)

module _ (m : Marks) (ts : List Bytes) where
  -- the tree's nodes
  abbrev bs : List (List Elem)
  bs = beginnings m ts

  -- which children are placeholders
  at_lit : (i b c : ℕ) → child_in bs i (lit b) ≡ suc c → holey_in bs (suc c) ≡ false
  unfolding holey_in same_elem
  at_lit i b c w = ap ends_in_hole (child_is bs i (lit b) c w).1 ∙ ends_in (beginning_at bs i) (lit b)

  at_hole : (i c : ℕ) → child_in bs i hole ≡ suc c → holey_in bs (suc c) ≡ true
  unfolding holey_in same_elem
  at_hole i c w = ap ends_in_hole (child_is bs i hole c w).1 ∙ ends_in (beginning_at bs i) hole

  -- a template leads from its beginnings to its end
  step : (k : ℕ) → k < length ts → (e : Elem) (es : List Elem) (i : ℕ) → elems m (get_or ts k []) ≡ beginning_at bs i ++ e ∷ es → (c : ℕ) × (child_in bs i e ≡ suc c) × (elems m (get_or ts k []) ≡ beginning_at bs (suc c) ++ es)
  unfolding child_in
  step k l e es i w =
      let (c, x) = number-some 0 (beginning_at bs i ++ e ∷ []) bs (has_beginning m ts k (beginning_at bs i) e es l w) in
      (c, x, w ∙ sym (append_assoc (beginning_at bs i) (e ∷ []) es) ∙ ap (λ (p : List Elem). p ++ es) (sym (child_is bs i e c x).1))

  -- and so from any node but the root
  leads_from : (k : ℕ) → k < length ts → (es : List Elem) (i : ℕ) → elems m (get_or ts k []) ≡ beginning_at bs (suc i) ++ es → (j : ℕ) × (walk (child_in bs) (suc i) es ≡ suc j)
  leads_from k l [] i w = (i, refl)
  leads_from k l (e ∷ es) i w =
      let (c, x, y) = step k l e es (suc i) w in
      let (j, z) = leads_from k l es c y in
      (j, rw x z)

  -- and from the root
  leads : (k : ℕ) → k < length ts → (es : List Elem) → 0 < length es → elems m (get_or ts k []) ≡ es → (j : ℕ) × (walk (child_in bs) 0 es ≡ suc j)
  unfolding beginning_at
  leads k l [] z w = absurd (omega arith)
  leads k l (e ∷ es) z w =
      let (c, x, y) = step k l e es 0 w in
      let (j, v) = leads_from k l es c y in
      (j, rw x v)

  -- what leads to a node is its beginning
  led : (es : List Elem) (i j : ℕ) → walk (child_in bs) i es ≡ suc j → beginning_at bs (suc j) ≡ beginning_at bs i ++ es
  led [] i j w = ap (beginning_at bs) (sym w) ∙ sym (append-nil (beginning_at bs i))
  led (e ∷ es) i j w =
      let (c, x, y) = onward_inv (λ k. walk (child_in bs) k es) (child_in bs i e) j w in
      led es (suc c) j y ∙ ap (λ (p : List Elem). p ++ es) (child_is bs i e c x).1 ∙ append_assoc (beginning_at bs i) (e ∷ []) es

  -- and one of the tree's
  node_in : (es : List Elem) (i j : ℕ) → (i ≡ suc j → j < length bs) → walk (child_in bs) i es ≡ suc j → j < length bs
  node_in [] i j h w = h w
  node_in (e ∷ es) i j h w =
      let (c, x, y) = onward_inv (λ k. walk (child_in bs) k es) (child_in bs i e) j w in
      node_in es (suc c) j (λ q. omega (arith, q, (child_is bs i e c x).2)) y

  -- fuel that is enough
  abbrev fuel : Bytes → ℕ
  fuel line = suc (together bs + length line)

  -- the search without marks finds the same
  pub found_unmarked : (line : Bytes) → (fitting m ts line).found ≡ search m (child_in bs) (holey_in bs) (fuel line) 0 line
  unfolding fitting is_in
  found_unmarked line = unmarked m (child_in bs) (holey_in bs) (rank_in bs) (rank_falls bs) line (fuel line) (fuel line) 0 0 [] (omega arith) (omega arith) (λ i p e. false-not-true e)

  module _ (distinct : Distinct ts) (differ : ¬ (m.left ≡ m.right)) (line : Bytes) where
    -- a reading leads to a node
    reading_leads : (i : ℕ) (r : List ReadingPart) → PartsRead m ts line i r → (j : ℕ) × (walk (child_in bs) 0 (elements r) ≡ suc j)
    reading_leads i r h = leads i h.place (elements r) (some-elem r) (sym h.template)
      where
        some-elem : (r : List ReadingPart) → 0 < length (elements r)
        some-elem [] = omega arith
        some-elem (byte b ∷ r) = omega arith
        some-elem (piece p ∷ r) = omega arith

    -- where the search finds nothing, the line is no call
    pub finds_none : (fitting m ts line).found ≡ none → chosen m ts line ≡ none
    finds_none e = no_parts m differ ts line (λ i r h.
        let (j, w) = reading_leads i r h in
        found_none m differ (child_in bs) (holey_in bs) (rank_in bs) (rank_falls bs) at_hole (fuel line) 0 line (omega arith) (sym (found_unmarked line) ∙ e) r j h.joined h.good w)

    -- where it finds something, that is the chosen reading
    pub finds_chosen : (f : Found) → (fitting m ts line).found ≡ some f → IsChosen m ts line f
    unfolding beginning_at holey_in ends_in_hole
    finds_chosen f e =
        let g : search m (child_in bs) (holey_in bs) (fuel line) 0 line ≡ some f = sym (found_unmarked line) ∙ e in
        let (j, w, h, x) = sound m (child_in bs) (holey_in bs) at_lit (fuel line) 0 line f g in
        let z = h.only_hole refl in
        let y : text f.parts ≡ line = ap (λ (q : Bytes). q ++ text f.parts) (sym z) ∙ x in
        let b = led (elements f.parts) 0 j h.leads in
        let v = is_beginning m ts (elements f.parts) (record { place = j; there = node_in (elements f.parts) 0 j (λ q. absurd (omega (arith, q))) h.leads; is = b }) in
        let u = whole m (get_or ts v.which []) f.parts v.rest v.is in
        let read : PartsRead m ts line v.which f.parts = record { place = v.place; template = sym u; joined = y; good = h.good } in
        let (c, is, which, same-pieces) = parts_chosen m differ ts line distinct v.which f.parts read (λ i q k.
        let (l, a) = reading_leads i q k in
        found_first m differ (child_in bs) (holey_in bs) (rank_in bs) (rank_falls bs) at_hole (fuel line) 0 line f (omega arith) refl g q l k.joined k.good a) in
        record { reading = c; is = is; place = omega (arith, v.place, which); template = ap (λ (k : ℕ). elems m (get_or ts k [])) (sym which) ∙ u; pieces_are = same-pieces }

-- ---- the places taken up

-- a beginning is a whole template
ends_in_stop : List Elem → Bool
ends_in_stop [] = false
ends_in_stop (e ∷ []) = same_elem e stop
ends_in_stop (e ∷ x ∷ xs) = ends_in_stop (x ∷ xs)

-- that is told by its last element
ends-in-stop : (p : List Elem) (e : Elem) → ends_in_stop (p ++ e ∷ []) ≡ same_elem e stop
unfolding ends_in_stop
ends-in-stop [] e = refl
ends-in-stop (x ∷ []) e = refl
ends-in-stop (x ∷ y ∷ p) e = ends-in-stop (y ∷ p) e

module _ (m : Marks) (ts : List Bytes) (line : Bytes) where
  -- whether a template ends at a node
  ends : ℕ → Bool
  ends i = ends_in_stop (beginning_at (beginnings m ts) i)

  -- that is told by the element that leads there
  ends-at : (i : ℕ) (e : Elem) (c : ℕ) → child_in (beginnings m ts) i e ≡ suc c → ends (suc c) ≡ same_elem e stop
  unfolding ends
  ends-at i e c w = ap ends_in_stop (child_is (beginnings m ts) i e c w).1 ∙ ends-in-stop (beginning_at (beginnings m ts) i) e

  -- what the search asks of the tree
  kids : Kids (child_in (beginnings m ts)) (rank_in (beginnings m ts)) (suc (length (beginnings m ts))) ends
  unfolding same_elem
  kids = record {
    falls = rank_falls (beginnings m ts);
    inside = λ i e c w. omega (arith, (child_is (beginnings m ts) i e c w).2);
    at_stop = λ i c w. ends-at i stop c w;
    at_lit = λ i b c w. ends-at i (lit b) c w;
    at_hole = λ i c w. ends-at i hole c w;
  }

  -- a fitting takes up places of the tree and the line, each of them once
  fitting_fair : Fair m (child_in (beginnings m ts)) (holey_in (beginnings m ts)) (rank_in (beginnings m ts)) (suc (length (beginnings m ts))) ends kids line [] (fitting m ts line)
      (suc (rank_in (beginnings m ts) 0 + length line))
  unfolding fitting ends ends_in_stop beginning_at is_in
  fitting_fair =
      fair m (child_in (beginnings m ts)) (holey_in (beginnings m ts)) (rank_in (beginnings m ts)) (suc (length (beginnings m ts))) ends kids line
      (suc (together (beginnings m ts) + length line)) 0 0 [] (omega arith) (omega arith) refl (λ i p e. false-not-true e)

  -- each place is taken up once
  pub taken_once : Once (fitting m ts line).taken
  taken_once = fitting_fair.once

  -- so they are at most as many as nodes and positions
  pub few_taken : places_taken m ts line ≤ suc (length (beginnings m ts)) * suc (length line)
  unfolding places_taken
  few_taken =
      few_places m (child_in (beginnings m ts)) (holey_in (beginnings m ts)) (rank_in (beginnings m ts)) (suc (length (beginnings m ts))) ends kids line [] (fitting m ts line) _ fitting_fair

  -- and the bytes that are read at most as many as these times the line's length
  pub few_read : bytes_read m ts line ≤ places_taken m ts line * length line
  unfolding bytes_read places_taken fitting
  few_read = few_bytes m (child_in (beginnings m ts)) (holey_in (beginnings m ts)) (length line) (suc (together (beginnings m ts) + length line)) 0 0 line [] (omega arith)

-- ---- a text that loads

module _ (text : Bytes) (t : Loaded) (loads : load text ≡ loaded t) (line : Bytes) where
  -- where nothing is found, no reading is chosen
  pub loaded_finds_none : (fitting t.marks (templates t.macros) line).found ≡ none → chosen t.marks (templates t.macros) line ≡ none
  loaded_finds_none = let (m, l) = load_legal text t loads in finds_none t.marks (templates t.macros) l.different (brackets t.marks m) line

  -- what is found is the chosen reading
  pub loaded_finds_chosen : (f : Found) → (fitting t.marks (templates t.macros) line).found ≡ some f → IsChosen t.marks (templates t.macros) line f
  loaded_finds_chosen = let (m, l) = load_legal text t loads in finds_chosen t.marks (templates t.macros) l.different (brackets t.marks m) line

  -- the places are at most the tree's nodes times (line length + 1)
  pub loaded_places : places_taken t.marks (templates t.macros) line ≤ nodes t.macros * suc (length line)
  loaded_places =
      subst (λ (n : ℕ). places_taken t.marks (templates t.macros) line ≤ n * suc (length line)) (sym (node_count t.marks t.macros (load_legal text t loads).1.different))
      (few_taken t.marks (templates t.macros) line)
