-- The nodes of the templates' tree, as document 01 counts them, are the root and the templates' distinct beginnings. The laws: add-count (what
-- one template adds), from-count (what several add), and at the end node_count.
use mathlib.Core.Path.{◌≡◌, refl, sym, ◌∙◌, ap}
use mathlib.Core.Bool.{Bool, true, false}
use mathlib.Core.List.{List, [], ◌∷◌, ◌++◌, map, map-append, append_assoc, append-nil}
use mathlib.Core.Logic.{◌↔◌, ◌⊎◌, inl, inr, ⊎_elim}
use Prim.Native.Nat.{ℕ, zero, suc, ◌+◌, ◌<◌}
use native.Mathlib.Omega.{arith}
use lib.Dec.{eqb}
use lib.ListN.{length, get_or, length-append}
use borrow.Author.Tests.{eq-eqb, eqb-true}
use Rattle.model.specs.declared.Marks.{Marks}
use Rattle.model.specs.Text.{Bytes}
use Rattle.model.specs.Fitting.{Distinct}
use Rattle.model.specs.Load.{Macro, templates, begins, begun, fresh, nodes_from, nodes}
use Rattle.model.specs.Parts.{Elem, lit, hole, stop, elems}
use Rattle.model.specs.Places.{number_from, add_beginnings, beginnings_from, beginnings}
use Rattle.model.proofs.Beginnings.{Member, Beginning, Begun, with_new, number_hit, number-some, new_keeps, new_split, add_keeps, add-has, add-only}
use Rattle.model.proofs.Choices.{false-not-true, both, split}

-- ---- a beginning that is added, and its last element

-- one that is there adds nothing
old_length : (q : List Elem) (bs : List (List Elem)) → Member q bs → length (with_new q bs) ≡ length bs
old_length q bs h =
    let (r, e) = number-some 0 q bs h in
    split (λ l. length l ≡ length bs) (eqb (number_from 1 q bs) 0) _ _ (λ z. absurd (omega (arith, e, eqb-true (number_from 1 q bs) 0 z))) (λ z. refl)

-- one that isn't is one more
new_length : (q : List Elem) (bs : List (List Elem)) → ¬ Member q bs → length (with_new q bs) ≡ suc (length bs)
new_length q bs n = by (number_from 1 q bs) refl
  where
    by : (r : ℕ) → number_from 1 q bs ≡ r → length {A = List Elem} (elim (eqb r 0) [ true ↦ bs ++ q ∷ [] | false ↦ bs ]) ≡ suc (length bs)
    by zero e = omega (arith, length-append bs (q ∷ []))
    by (suc r) e = let (i, l, _, w) = number_hit 1 q bs r e in absurd (n (record { place = i; there = l; is = w }))

-- what isn't empty has a last element
pub last_of : (b : List Elem) → 0 < length b → (f : List Elem) × (e : Elem) × (b ≡ f ++ e ∷ [])
last_of [] l = absurd (omega arith)
last_of (x ∷ []) l = ([], x, refl)
last_of (x ∷ y ∷ b) l = let (f, e, w) = last_of (y ∷ b) (omega arith) in (x ∷ f, e, ap (λ (s : List Elem). x ∷ s) w)

-- ---- beginnings in bytes and in elements

-- the element of a byte
abbrev elem_of : Marks → ℕ → Elem
elem_of m b = elim (eqb b m.placeholder) [ true ↦ hole | false ↦ lit b ]

-- the byte of an element plus one, and 0 for a template's end
abbrev byte_of : Marks → Elem → ℕ
byte_of m (lit b) = suc b
byte_of m hole = suc m.placeholder
byte_of m stop = 0

-- no macro has the template t
abbrev NoneHas : List Macro → Bytes → Type 0
NoneHas ms t = (i : ℕ) → i < length (templates ms) → ¬ (get_or (templates ms) i [] ≡ t)

module _ (m : Marks) where
  -- bytes as elements, with no end
  abbrev front : Bytes → List Elem
  front p = map (elem_of m) p

  -- a byte's element tells the byte
  byte_back : (b : ℕ) → byte_of m (elem_of m b) ≡ suc b
  byte_back b = split (λ e. byte_of m e ≡ suc b) (eqb b m.placeholder) hole (lit b) (λ e. ap suc (sym (eqb-true b m.placeholder e))) (λ e. refl)

  -- bytes with one element are the same
  elem-same : (x y : ℕ) → elem_of m x ≡ elem_of m y → x ≡ y
  elem-same x y e = omega (arith, ap (byte_of m) e, byte_back x, byte_back y)

  -- a byte's element is no end
  elem_no_end : (b : ℕ) → ¬ (stop ≡ elem_of m b)
  elem_no_end b e = omega (arith, ap (byte_of m) e, byte_back b)

  -- a template's first element
  elems_first : (b : ℕ) (t : Bytes) → elems m (b ∷ t) ≡ elem_of m b ∷ elems m t
  unfolding elems
  elems_first b t = by (eqb b m.placeholder)
    where
      by : (k : Bool) → ◌≡◌ {A = List Elem} (elim k [ true ↦ hole ∷ elems m t | false ↦ lit b ∷ elems m t ]) (elim k as (λ _. Elem) [ true ↦ hole | false ↦ lit b ] ∷ elems m t)
      by true = refl
      by false = refl

  -- what begins a template's bytes begins its elements
  begins-elems : (p t : Bytes) → begins p t ≡ true → (rest : List Elem) × (elems m t ≡ front p ++ rest)
  unfolding begins
  begins-elems [] t e = (elems m t, refl)
  begins-elems (x ∷ p) [] e = false-not-true e
  begins-elems (x ∷ p) (y ∷ t) e = by (eqb x y) refl (begins-elems p t) e
    where
      by : (k : Bool) → eqb x y ≡ k → (begins p t ≡ true → (rest : List Elem) × (elems m t ≡ front p ++ rest)) → ◌≡◌ {A = Bool} (elim k [ true ↦ begins p t | false ↦ false ]) true
          → (rest : List Elem) × (elems m (y ∷ t) ≡ front (x ∷ p) ++ rest)
      by true q ih h = let (rest, w) = ih h in let z = eqb-true x y q in let f = elems_first y t in (rest, cc)
      by false q ih h = false-not-true h

  -- and the other way round
  elems-begins : (p t : Bytes) (rest : List Elem) → elems m t ≡ front p ++ rest → begins p t ≡ true
  unfolding begins elems
  elems-begins [] t rest w = refl
  elems-begins (x ∷ p) [] rest w = absurd (elem_no_end x (cc))
  elems-begins (x ∷ p) (y ∷ t) rest w =
      let f = elems_first y t in
      rw (eq-eqb x y (elem-same x y (cc)), begins) (elems-begins p t rest (cc))

  -- a template that ends where p does is p
  elems-end : (p t : Bytes) (rest : List Elem) → elems m t ≡ front p ++ stop ∷ rest → t ≡ p
  unfolding elems
  elems-end [] [] rest w = refl
  elems-end [] (y ∷ t) rest w =
      let f = elems_first y t in
      absurd (elem_no_end y (cc))
  elems-end (x ∷ p) [] rest w = absurd (elem_no_end x (cc))
  elems-end (x ∷ p) (y ∷ t) rest w =
      let f = elems_first y t in
      let a = elem-same y x (cc) in
      let b = elems-end p t rest (cc) in
      cc

  -- a beginning of some templates is one of more
  one_more : (t : Bytes) (ts : List Bytes) (b : List Elem) → Beginning m ts b → Beginning m (t ∷ ts) b
  one_more t ts b h = record { which = suc h.which; place = omega (arith, h.place); rest = h.rest; is = h.is; some-elem = h.some-elem }

  -- what begins a template in bytes is one of the templates' beginnings
  begun_beginning : (p : Bytes) (ms : List Macro) → 0 < length (front p) → begun p ms ≡ true → Beginning m (templates ms) (front p)
  unfolding begun templates
  begun_beginning p [] n e = false-not-true e
  begun_beginning p (x ∷ ms) n e = by (begins p x.template) (begins-elems p x.template) (begun_beginning p ms n) e
    where
      by : (k : Bool) → (k ≡ true → (rest : List Elem) × (elems m x.template ≡ front p ++ rest)) → (begun p ms ≡ true → Beginning m (templates ms) (front p))
          → ◌≡◌ {A = Bool} (elim k [ true ↦ true | false ↦ begun p ms ]) true → Beginning m (x.template ∷ templates ms) (front p)
      by true f ih h = let (rest, w) = f refl in record { which = 0; place = omega arith; rest = rest; is = w; some-elem = n }
      by false f ih h = one_more x.template (templates ms) (front p) (ih h)

  -- and the other way round
  beginning_begun : (p : Bytes) (ms : List Macro) → Beginning m (templates ms) (front p) → begun p ms ≡ true
  unfolding begun templates
  beginning_begun p ms h = at ms h.which h.place h.is
    where
      at : (ms : List Macro) (i : ℕ) → i < length (templates ms) → elems m (get_or (templates ms) i []) ≡ front p ++ h.rest → begun p ms ≡ true
      at [] i l w = absurd (omega arith)
      at (x ∷ ms) zero l w = rw (elems-begins p x.template h.rest w, begun) refl
      at (x ∷ ms) (suc i) l w = both (λ (b : Bool). b ≡ true) (begins p x.template) true (begun p ms) refl (at ms i (omega arith) w)

  -- ---- what one template adds

  -- of the beginnings longer than n, those of these templates stand in bs and no others
  Stand : List Macro → ℕ → List (List Elem) → Type 0
  Stand ms n bs = (b : List Elem) → n < length b → Member b bs ↔ Beginning m (templates ms) b

  -- a beginning that is added changes nothing for longer ones
  stand_longer : (ms : List Macro) (n : ℕ) (q : List Elem) (bs : List (List Elem)) → n < length q → Stand ms n bs → Stand ms (length q) (with_new q bs)
  unfolding Stand
  stand_longer ms n q bs k h b l =
      let u = h b (omega arith) in
      (λ z. ⊎_elim (λ w. absurd (omega (arith, ap length w))) u.0 (new_split b q bs z), λ z. new_keeps b q bs (u.1 z))

  -- the end of a template that no macro has is new
  end_new : (ms : List Macro) (p : Bytes) (bs : List (List Elem)) → NoneHas ms p → Stand ms (length (front p)) bs → ¬ Member (front p ++ stop ∷ []) bs
  unfolding Stand
  end_new ms p bs n h o =
      let u = (h (front p ++ stop ∷ []) (omega (arith, length-append (front p) (stop ∷ [])))).0 o in
      n u.which u.place (elems-end p (get_or (templates ms) u.which []) u.rest (u.is ∙ append_assoc (front p) (stop ∷ []) u.rest))

  -- a template that no earlier macro has adds its fresh beginnings
  add-count : (ms : List Macro) (t p : Bytes) (bs : List (List Elem)) → NoneHas ms (p ++ t) → Stand ms (length (front p)) bs
      → length (add_beginnings (front p) (elems m t) bs) ≡ length bs + fresh p t ms
  unfolding fresh add_beginnings elems Stand
  add-count ms [] p bs n h = omega (arith, new_length (front p ++ stop ∷ []) bs (end_new ms p bs (λ i l w. n i l (w ∙ sym (append-nil p))) h))
  add-count ms (x ∷ t) p bs n h =
      let r = p ++ x ∷ [] in
      let q = front r in
      let e : q ≡ front p ++ elem_of m x ∷ [] = map-append (elem_of m) p (x ∷ []) in
      let k : length (front p) < length q = omega (arith, ap length e, length-append (front p) (elem_of m x ∷ [])) in
      let ih = add-count ms t r (with_new q bs) (λ i l w. n i l (w ∙ append_assoc p (x ∷ []) t)) (stand_longer ms (length (front p)) q bs k h) in
      ap (λ (es : List Elem). length (add_beginnings (front p) es bs)) (elems_first x t)
      ∙ (ap (λ (f : List Elem). length (add_beginnings f (elems m t) (with_new f bs))) (sym e)
      ∙ (ih ∙ split (λ z. length (with_new q bs) + fresh r t ms ≡ length bs + z) (begun r ms) _ _
      (λ z. omega (arith, old_length q bs ((h q k).1 (begun_beginning r ms (omega arith) z))))
      (λ z. omega (arith, new_length q bs (λ o. false-not-true (sym z ∙ beginning_begun r ms ((h q k).0 o)))))))

  -- ---- what all templates add

  -- with a template's beginnings added, those of one more template stand there
  stand_more : (ms : List Macro) (x : Macro) (bs : List (List Elem)) → Stand ms 0 bs → Stand (x ∷ ms) 0 (add_beginnings [] (elems m x.template) bs)
  unfolding Stand templates Begun
  stand_more ms x bs h b l = (λ z. only (add-only [] (elems m x.template) bs b z), λ o. at o.which o.place o.rest o.is)
    where
      only : Begun (elems m x.template) b ⊎ Member b bs → Beginning m (x.template ∷ templates ms) b
      only (inl (es, w, k)) = record { which = 0; place = omega arith; rest = es; is = w; some-elem = k }
      only (inr o) = one_more x.template (templates ms) b ((h b l).0 o)

      at : (i : ℕ) → i < suc (length (templates ms)) → (rest : List Elem) → elems m (get_or (x.template ∷ templates ms) i []) ≡ b ++ rest → Member b (add_beginnings [] (elems m x.template) bs)
      at zero k rest w =
          let (f, e, z) = last_of b l in
          rw (w, z, append_assoc) (add-has [] f e rest bs)
      at (suc i) k rest w = add_keeps [] (elems m x.template) bs b ((h b l).1 (record { which = i; place = omega arith; rest = rest; is = w; some-elem = l }))

  -- distinct templates that no earlier macro has add the nodes that are counted for them
  from-count : (ms earlier : List Macro) (bs : List (List Elem)) → Distinct (templates ms) → ((j : ℕ) → j < length (templates ms) → NoneHas earlier (get_or (templates ms) j []))
      → Stand earlier 0 bs → length (beginnings_from m (templates ms) bs) ≡ length bs + nodes_from earlier ms
  unfolding templates beginnings_from nodes_from
  from-count [] earlier bs d n h = omega arith
  from-count (x ∷ ms) earlier bs d n h =
      let next = add_beginnings [] (elems m x.template) bs in
      let a : length next ≡ length bs + fresh [] x.template earlier = add-count earlier x.template [] bs (n 0 (omega arith)) h in
      let ih = from-count ms (x ∷ earlier) next (λ i j k l w. omega (arith, d (suc i) (suc j) (omega arith) (omega arith) w)) none (stand_more earlier x bs h) in
      omega arith
    where
      none : (j : ℕ) → j < length (templates ms) → NoneHas (x ∷ earlier) (get_or (templates ms) j [])
      none j l zero k w = omega (arith, d 0 (suc j) (omega arith) (omega arith) w)
      none j l (suc i) k w = n (suc j) (omega arith) i (omega arith) w

-- the tree's nodes are the root and the templates' distinct beginnings: 01's count is that of the list
pub node_count : (m : Marks) (ms : List Macro) → Distinct (templates ms) → nodes ms ≡ suc (length (beginnings m (templates ms)))
unfolding nodes beginnings templates Stand
node_count m ms d =
    omega (arith, from-count m ms [] [] d (λ j l i k. absurd (omega arith)) (λ b l. (λ z. absurd (omega (arith, z.there)), λ z. absurd (omega (arith, z.place)))))
