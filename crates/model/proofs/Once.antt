-- The search takes up each place once, so at most as many places as the tree has nodes times (line length + 1). The laws: number-apart, fair,
-- few_places.
use mathlib.Core.Path.{◌≡◌, refl, sym, ◌∙◌, ap, subst}
use mathlib.Core.Bool.{Bool, true, false, ◌&&◌}
use mathlib.Core.List.{List, [], ◌∷◌, ◌++◌, map}
use mathlib.Core.Logic.{◌⊎◌, inl, inr, ⊎_elim}
use mathlib.Core.Option.{Option, none, some}
use Prim.Native.Nat.{ℕ, zero, suc, ◌+◌, ◌*◌, ◌≤◌, ◌<◌}
use native.Mathlib.Omega.{arith}
use native.Mathlib.Nat.{mul-le-mul_right, suc-mul}
use lib.Dec.{eqb}
use lib.ListN.{length, drop, length-append, length-drop, length-map}
use lib.Seq.{drop-append_seam, drop-drop}
use borrow.Author.Tests.{eq-eqb}
use Rattle.model.specs.declared.Marks.{Marks}
use Rattle.model.specs.Text.{Bytes, has}
use Rattle.model.specs.Reading.{atom}
use Rattle.model.specs.Parts.{Elem, lit, hole, stop}
use Rattle.model.specs.Places.{Found, with_byte, piece_found, with_atom, Place, is_in, Tried, idle, within, or_try, take_up, after_look, bytes_of_look, try_child, try_end, try_past, try_atom, try_byte, try_piece, try_place, Once}
use Rattle.model.proofs.Chosen.{Tested, alike, apart, tested}
use Rattle.model.proofs.Choices.{false-not-true}
use Rattle.model.proofs.Atoms.{none-some, atom_sound}
use Rattle.model.proofs.Different.{Different, has_first_or, few_different}
use Rattle.model.proofs.Unmarked.{is_in_cons}

-- ---- the number of a place, for lines of fewer than w bytes

-- numbers of different places differ
pub number-apart : (w i p j q : ℕ) → p < w → q < w → i * w + p ≡ j * w + q → (i ≡ j) × (p ≡ q)
number-apart w i p j q lp lq e =
    let same : i ≡ j = by i j p q lp lq e (eqb i j) (tested i j) in
    (same, omega (arith, e, ap (λ (k : ℕ). k * w) same))
  where
    over : (i j p q : ℕ) → p < w → i * w + p ≡ j * w + q → ¬ (i < j)
    over i j p q lp e lt = omega (arith, mul-le-mul_right {m = suc i} {n = j} w lt, suc-mul i w, e, lp)

    by : (i j p q : ℕ) → p < w → q < w → i * w + p ≡ j * w + q → (t : Bool) → Tested i j t → i ≡ j
    by i j p q lp lq e true (alike a) = a
    by i j p q lp lq e false (apart a) = omega (arith, a, over i j p q lp e, over j i q p lq (sym e))

-- ---- places that are all different

-- a place among some is among these with one more in front
is_in_tail : (i p : ℕ) (x : Place) (xs : List Place) → is_in i p xs ≡ true → is_in i p (x ∷ xs) ≡ true
unfolding is_in
is_in_tail i p x xs e = by (eqb x.node i && eqb x.at p)
  where
    by : (t : Bool) → ◌≡◌ {A = Bool} (elim t [ true ↦ true | false ↦ is_in i p xs ]) true
    by true = refl
    by false = e

-- the first is among them
is_in-head : (x : Place) (xs : List Place) → is_in x.node x.at (x ∷ xs) ≡ true
unfolding is_in
is_in-head x xs = rw (eq-eqb x.node x.node refl, eq-eqb x.at x.at refl, is_in) refl

-- one of two rows of places has it
is_in_either : (i p : ℕ) (xs ys : List Place) → is_in i p (xs ++ ys) ≡ true → (is_in i p xs ≡ true) ⊎ (is_in i p ys ≡ true)
is_in_either i p [] ys e = inr e
is_in_either i p (x ∷ xs) ys e =
    ⊎_elim (λ (u, v). inl (subst (λ (i : ℕ). is_in i p (x ∷ xs) ≡ true) u (subst (λ (p : ℕ). is_in x.node p (x ∷ xs) ≡ true) v (is_in-head x xs))))
    (λ w. ⊎_elim (λ z. inl (is_in_tail i p x xs z)) (λ z. inr z) (is_in_either i p xs ys w))
    (is_in_cons i p x (xs ++ ys) e)

-- what cannot be true is false
refuted : (b : Bool) → (b ≡ true → false ≡ true) → b ≡ false
refuted true h = sym (h refl)
refuted false h = refl

-- two rows that share no place, each with its places once
once_both : (xs ys : List Place) → Once xs → Once ys → ((i p : ℕ) → is_in i p xs ≡ true → is_in i p ys ≡ false) → Once (xs ++ ys)
unfolding Once
once_both [] ys a b h = b
once_both (x ∷ xs) ys a b h = (
  refuted (is_in x.node x.at (xs ++ ys)) (λ e.
      ⊎_elim (λ z. sym a.0 ∙ z) (λ z. sym (h x.node x.at (is_in-head x xs)) ∙ z) (is_in_either x.node x.at xs ys e)),
  once_both xs ys a.1 b (λ i p e. h i p (is_in_tail i p x xs e)),
)

-- places of N nodes, at positions below w
module _ (w N : ℕ) where
  -- their numbers
  abbrev numbered : List Place → List ℕ
  numbered xs = map (λ x. x.node * w + x.at) xs

  -- all of these are such places
  Small : List Place → Type 0
  Small xs = (i p : ℕ) → is_in i p xs ≡ true → (i < N) × (p < w)

  -- so are all but the first
  small_tail : (x : Place) (xs : List Place) → Small (x ∷ xs) → Small xs
  unfolding Small
  small_tail x xs s i p e = s i p (is_in_tail i p x xs e)

  -- a number is that of one of the places
  of_place : (k : ℕ) (xs : List Place) → has k (numbered xs) ≡ true → (x : Place) × (is_in x.node x.at xs ≡ true) × (x.node * w + x.at ≡ k)
  unfolding has
  of_place k [] e = false-not-true e
  of_place k (x ∷ xs) e =
      ⊎_elim (λ z. (x, is_in-head x xs, z)) (λ z. let (y, u, v) = of_place k xs z in (y, is_in_tail y.node y.at x xs u, v)) (has_first_or k (x.node * w + x.at) (numbered xs) e)

  -- are all different
  numbers_differ : (xs : List Place) → Once xs → Small xs → Different (numbered xs)
  unfolding Once Different Small
  numbers_differ [] o s = tt
  numbers_differ (x ∷ xs) o s = (
    refuted (has (x.node * w + x.at) (numbered xs)) (λ e.
        let (y, u, v) = of_place (x.node * w + x.at) xs e in
        let (a, b) = number-apart w y.node y.at x.node x.at (s y.node y.at (is_in_tail y.node y.at x xs u)).1 (s x.node x.at (is_in-head x xs)).1 v in
        sym o.0 ∙ subst (λ (p : ℕ). is_in x.node p xs ≡ true) b (subst (λ (i : ℕ). is_in i y.at xs ≡ true) a u)),
    numbers_differ xs o.1 (small_tail x xs s),
  )

  -- so there are as many as nodes and positions at most
  once_few : (xs : List Place) → Once xs → Small xs → length xs ≤ N * w
  unfolding Small
  once_few xs o s =
      omega (
        arith,
        sym (length-map xs (λ x. x.node * w + x.at)),
        few_different (N * w) (numbered xs) (λ k e.
            let (y, u, v) = of_place k xs e in
            let (a, b) = s y.node y.at u in
            omega (arith, mul-le-mul_right {m = suc y.node} {n = N} w a, suc-mul y.node w, v, b)) (numbers_differ xs o s),
      )

-- ---- the search

-- the children of a tree: `rank` falls from a node to each of them, they are below N, and `ends` says which of them end a template
pub record Kids (kid : ℕ → Elem → ℕ) (rank : ℕ → ℕ) (N : ℕ) (ends : ℕ → Bool) : Type 0 where
  pub falls : (i : ℕ) (e : Elem) (c : ℕ) → kid i e ≡ suc c → rank (suc c) < rank i
  pub inside : (i : ℕ) (e : Elem) (c : ℕ) → kid i e ≡ suc c → suc c < N
  pub at_stop : (i c : ℕ) → kid i stop ≡ suc c → ends (suc c) ≡ true
  pub at_lit : (i b c : ℕ) → kid i (lit b) ≡ suc c → ends (suc c) ≡ false
  pub at_hole : (i c : ℕ) → kid i hole ≡ suc c → ends (suc c) ≡ false

module _ (m : Marks) (kid : ℕ → Elem → ℕ) (holey : ℕ → Bool) (rank : ℕ → ℕ) (N : ℕ) (ends : ℕ → Bool) (kids : Kids kid rank N ends) (line : Bytes) where
  -- what is left of template and line
  abbrev size : ℕ → ℕ → ℕ
  size i p = rank i + length (drop p line)

  -- no template ends at a marked place
  abbrev pub NoEnds : List Place → Type 0
  NoEnds ds = (i p : ℕ) → is_in i p ds ≡ true → ends i ≡ false

  -- of a search with the marks ds: its places are in the tree and the line, smaller than b, not marked before and taken up once; marks stay, and
  -- where nothing is found each place is marked
  pub record Fair (ds : List Place) (t : Tried) (b : ℕ) : Type 0 where
    pub there : (i p : ℕ) → is_in i p t.taken ≡ true → (i < N) × (p ≤ length line)
    pub below : (i p : ℕ) → is_in i p t.taken ≡ true → size i p < b
    pub fresh : (i p : ℕ) → is_in i p t.taken ≡ true → is_in i p ds ≡ false
    pub once : Once t.taken
    pub keeps : (i p : ℕ) → is_in i p ds ≡ true → is_in i p t.dead ≡ true
    pub marks : t.found ≡ none → (i p : ℕ) → is_in i p t.taken ≡ true → is_in i p t.dead ≡ true
    pub no_ends : NoEnds t.dead

  -- no place is taken up
  idle_fair : (ds : List Place) (b : ℕ) → NoEnds ds → Fair ds (idle ds) b
  unfolding is_in Once
  idle_fair ds b h = record {
    there = λ i p e. false-not-true e;
    below = λ i p e. false-not-true e;
    fresh = λ i p e. false-not-true e;
    once = tt;
    keeps = λ i p e. e;
    marks = λ z i p e. false-not-true e;
    no_ends = h;
  }

  -- if it leads nowhere, the next
  or_fair : (ds : List Place) (o : Option Found) (ns ts : List Place) (c : ℕ) (next : List Place → Tried) (b : ℕ)
      → Fair ds (record { found = o; dead = ns; taken = ts; bytes = c }) b → (NoEnds ns → Fair ns (next ns) b)
      → Fair ds (or_try (record { found = o; dead = ns; taken = ts; bytes = c }) next) b
  or_fair ds (some f) ns ts c next b h g = h
  or_fair ds none ns ts c next b h g =
      let us = (next ns).taken in
      let n = g h.no_ends in
      record {
        there = λ i p e. ⊎_elim (λ z. h.there i p z) (λ z. n.there i p z) (is_in_either i p ts us e);
        below = λ i p e. ⊎_elim (λ z. h.below i p z) (λ z. n.below i p z) (is_in_either i p ts us e);
        fresh = λ i p e. ⊎_elim (λ z. h.fresh i p z) (λ z. refuted (is_in i p ds) (λ y. sym (n.fresh i p z) ∙ h.keeps i p y)) (is_in_either i p ts us e);
        once = once_both ts us h.once n.once (λ i p e. refuted (is_in i p us) (λ y. sym (n.fresh i p y) ∙ h.marks refl i p e));
        keeps = λ i p e. n.keeps i p (h.keeps i p e);
        marks = λ z i p e. ⊎_elim (λ y. n.keeps i p (h.marks refl i p y)) (λ y. n.marks z i p y) (is_in_either i p ts us e);
        no_ends = n.no_ends;
      }

  -- a place among one more
  here_or : (P : ℕ → ℕ → Type 0) (j q : ℕ) (ts : List Place) → P j q → ((i p : ℕ) → is_in i p ts ≡ true → P i p) → (i p : ℕ) → is_in i p (record { node = j; at = q } ∷ ts) ≡ true → P i p
  here_or P j q ts x h i p e = ⊎_elim (λ z. subst (λ (i : ℕ). P i p) z.0 (subst (P j) z.1 x)) (λ z. h i p z) (is_in_cons i p (record { node = j; at = q }) ts e)

  -- the place is taken up
  take_fair : (j q : ℕ) (ds : List Place) (o : Option Found) (ns ts : List Place) (c : ℕ) → j < N → q ≤ length line → ends j ≡ false → is_in j q ds ≡ false
      → Fair ds (record { found = o; dead = ns; taken = ts; bytes = c }) (size j q)
      → Fair ds (take_up (record { node = j; at = q }) (record { found = o; dead = ns; taken = ts; bytes = c })) (suc (size j q))
  unfolding Once
  take_fair j q ds o ns ts c lj lq plain new h = record {
    there = here_or (λ i p. (i < N) × (p ≤ length line)) j q ts (lj, lq) h.there;
    below = here_or (λ i p. size i p < suc (size j q)) j q ts (omega arith) (λ i p e. omega (arith, h.below i p e));
    fresh = here_or (λ i p. is_in i p ds ≡ false) j q ts new h.fresh;
    once = (refuted (is_in j q ts) (λ e. absurd (omega (arith, h.below j q e))), h.once);
    keeps = keeps o h.keeps;
    marks = marks o h.marks;
    no_ends = no_ends o h.no_ends;
  }
    where
      x : Place
      x = record { node = j; at = q }

      keeps : (o : Option Found) → ((i p : ℕ) → is_in i p ds ≡ true → is_in i p ns ≡ true) → (i p : ℕ) → is_in i p ds ≡ true → is_in i p (elim o [ some f ↦ ns | none ↦ x ∷ ns ]) ≡ true
      keeps (some f) k i p e = k i p e
      keeps none k i p e = is_in_tail i p x ns (k i p e)

      marks : (o : Option Found) → (o ≡ none → (i p : ℕ) → is_in i p ts ≡ true → is_in i p ns ≡ true) → o ≡ none → (i p : ℕ) → is_in i p (x ∷ ts) ≡ true → is_in i p (elim o [ some f ↦ ns | none ↦ x ∷ ns ]) ≡ true
      marks (some f) k z = none-some (sym z)
      marks none k z = here_or (λ i p. is_in i p (x ∷ ns) ≡ true) j q ts (is_in-head x ns) (λ i p e. is_in_tail i p x ns (k z i p e))

      no_ends : (o : Option Found) → NoEnds ns → NoEnds (elim o [ some f ↦ ns | none ↦ x ∷ ns ])
      no_ends (some f) k = k
      no_ends none k = here_or (λ i p. ends i ≡ false) j q ns plain k

  -- a part in front of what is found
  within_fair : (ds : List Place) (t : Tried) (b : ℕ) (g : Option Found → Option Found) → ((o : Option Found) → g o ≡ none → o ≡ none) → Fair ds t b → Fair ds (within g t) b
  within_fair ds t b g z h = record { there = h.there; below = h.below; fresh = h.fresh; once = h.once; keeps = h.keeps; marks = λ e. h.marks (z t.found e); no_ends = h.no_ends }

  -- nothing is found behind a byte, a piece or an atom only where nothing is found below
  byte_none : (b : ℕ) (o : Option Found) → with_byte b o ≡ none → o ≡ none
  byte_none b none e = refl
  byte_none b (some f) e = none-some (sym e)

  piece_none : (o : Option Found) → piece_found o ≡ none → o ≡ none
  piece_none none e = refl
  piece_none (some f) e = none-some (sym e)

  atom-none : (a : Bytes) (o : Option Found) → with_atom a o ≡ none → o ≡ none
  atom-none a none e = refl
  atom-none a (some f) e = none-some (sym e)

  -- a look changes nothing
  look_fair : (ds : List Place) (t : Tried) (b c : ℕ) → Fair ds t b → Fair ds (after_look c t) b
  look_fair ds t b c h = record { there = h.there; below = h.below; fresh = h.fresh; once = h.once; keeps = h.keeps; marks = h.marks; no_ends = h.no_ends }

  -- a larger bound
  looser : (ds : List Place) (t : Tried) (a b : ℕ) → a ≤ b → Fair ds t a → Fair ds t b
  looser ds t a b l h = record { there = h.there; below = λ i p e. omega (arith, h.below i p e); fresh = h.fresh; once = h.once; keeps = h.keeps; marks = h.marks; no_ends = h.no_ends }

  -- with n left each search is fair
  FairAt : ℕ → Type 0
  FairAt n = (i p : ℕ) (ds : List Place) → i < N → p ≤ length line → ends i ≡ false → NoEnds ds → Fair ds (try_place m kid holey n i p (drop p line) ds) (suc (size i p))

  -- at a child
  child_fair : (n i : ℕ) (e : Elem) (j p q : ℕ) (ds : List Place) → FairAt n → kid i e ≡ j → ((c : ℕ) → kid i e ≡ suc c → ends (suc c) ≡ false)
      → length (drop q line) ≤ length (drop p line) → q ≤ length line → NoEnds ds → Fair ds (try_child (λ j. try_place m kid holey n j q (drop q line) ds) j ds) (size i p)
  unfolding FairAt
  child_fair n i e zero p q ds ih w a l lq h = idle_fair ds _ h
  child_fair n i e (suc c) p q ds ih w a l lq h = looser ds _ _ _ (omega (arith, kids.falls i e c w)) (ih (suc c) q ds (kids.inside i e c w) lq (a c w) h)

  -- at a template's end
  end_fair : (i j p : ℕ) (ds : List Place) → kid i stop ≡ j → p ≤ length line → NoEnds ds → Fair ds (try_end j p ds) (size i p)
  unfolding Once is_in
  end_fair i zero p ds w l h = idle_fair ds _ h
  end_fair i (suc j) p ds w l h = record {
    there = here_or (λ i p. (i < N) × (p ≤ length line)) (suc j) p [] (kids.inside i stop j w, l) (λ i p e. false-not-true e);
    below = here_or (λ k q. size k q < size i p) (suc j) p [] (omega (arith, kids.falls i stop j w)) (λ i p e. false-not-true e);
    fresh = here_or (λ i p. is_in i p ds ≡ false) (suc j) p [] (refuted (is_in (suc j) p ds) (λ e. sym (h (suc j) p e) ∙ kids.at_stop i j w)) (λ i p e. false-not-true e);
    once = (refl, tt);
    keeps = λ i p e. e;
    marks = λ e. none-some (sym e);
    no_ends = h;
  }

  -- the three steps
  byte_fair : (n i p : ℕ) (s : Bytes) (ds : List Place) → FairAt n → s ≡ drop p line → p ≤ length line → NoEnds ds → Fair ds (try_byte kid (try_place m kid holey n) i p s ds) (size i p)
  byte_fair n i p [] ds ih e l h = end_fair i (kid i stop) p ds refl l h
  byte_fair n i p (b ∷ s) ds ih e l h =
      let x : s ≡ drop (p + 1) line = ap (drop 1) e ∙ drop-drop 1 p line in
      let u : length (drop (p + 1) line) ≤ length (drop p line) = omega (arith, ap length x, ap length e) in
      rw x (within_fair ds _ _ (with_byte b) (byte_none b) (child_fair n i (lit b) (kid i (lit b)) p (p + 1) ds ih refl (kids.at_lit i b) u (omega (arith, ap length e, length-drop p line)) h))

  piece_fair : (n i p : ℕ) (ds : List Place) → FairAt n → p ≤ length line → NoEnds ds → Fair ds (try_piece kid (try_place m kid holey n) i p (drop p line) ds) (size i p)
  piece_fair n i p ds ih l h = within_fair ds _ _ piece_found piece_none (child_fair n i hole (kid i hole) p p ds ih refl (kids.at_hole i) (omega arith) l h)

  -- past an atom
  past_fair : (n i p : ℕ) (o : Option (Bytes × Bytes)) (ds : List Place) → FairAt n → atom m (drop p line) ≡ o → i < N → p ≤ length line → ends i ≡ false → NoEnds ds
      → Fair ds (try_past (try_place m kid holey n i) p o ds) (size i p)
  unfolding FairAt
  past_fair n i p none ds ih e li l a h = idle_fair ds _ h
  past_fair n i p (some (a, t)) ds ih e li l z h =
      let o = atom_sound m (drop p line) a t e in
      let j = o.joined in
      let x : t ≡ drop (p + length a) line = sym (drop-append_seam a t) ∙ ap (drop (length a)) (sym j) ∙ drop-drop (length a) p line in
      let u : length (drop (p + length a) line) < length (drop p line) = omega (arith, ap length j, length-append a t, ap length x, o.some_byte) in
      let v : p + length a ≤ length line = omega (arith, ap length j, length-append a t, length-drop p line, l) in
      rw x (within_fair ds _ _ (with_atom a) (atom-none a) (looser ds _ _ _ (omega (arith, u)) (ih i (p + length a) ds li v z h)))

  atom_fair : (n i p : ℕ) (b : Bool) (ds : List Place) → FairAt n → i < N → p ≤ length line → ends i ≡ false → NoEnds ds
      → Fair ds (try_atom m (try_place m kid holey n i) b p (drop p line) ds) (size i p)
  atom_fair n i p false ds ih li l z h = idle_fair ds _ h
  atom_fair n i p true ds ih li l z h = look_fair ds _ _ (bytes_of_look m (drop p line)) (past_fair n i p (atom m (drop p line)) ds ih refl li l z h)

  -- the steps from a place
  abbrev atom_try : ℕ → ℕ → ℕ → List Place → Tried
  atom_try n i p ds = try_atom m (try_place m kid holey n i) (holey i) p (drop p line) ds

  abbrev piece_try : ℕ → ℕ → ℕ → List Place → Tried
  piece_try n i p ds = try_piece kid (try_place m kid holey n) i p (drop p line) ds

  abbrev byte_try : ℕ → ℕ → ℕ → List Place → Tried
  byte_try n i p ds = try_byte kid (try_place m kid holey n) i p (drop p line) ds

  -- the second and the third
  second_fair : (n i p : ℕ) (ds : List Place) → FairAt n → i < N → p ≤ length line → ends i ≡ false → NoEnds ds → Fair ds (or_try (piece_try n i p ds) (atom_try n i p)) (size i p)
  second_fair n i p ds ih li l z h =
      let t = piece_try n i p ds in
      or_fair ds t.found t.dead t.taken t.bytes (atom_try n i p) _ (piece_fair n i p ds ih l h) (λ g. atom_fair n i p (holey i) t.dead ih li l z g)

  -- all three
  first_fair : (n i p : ℕ) (ds : List Place) → FairAt n → i < N → p ≤ length line → ends i ≡ false → NoEnds ds
      → Fair ds (or_try (byte_try n i p ds) (λ ds. or_try (piece_try n i p ds) (atom_try n i p))) (size i p)
  first_fair n i p ds ih li l z h =
      let t = byte_try n i p ds in
      or_fair ds t.found t.dead t.taken t.bytes (λ ds. or_try (piece_try n i p ds) (atom_try n i p)) _ (byte_fair n i p (drop p line) ds ih refl l h)
      (λ g. second_fair n i p t.dead ih li l z g)

  -- with any fuel
  fair_all : (n : ℕ) → FairAt n
  unfolding FairAt try_place
  fair_all zero i p ds li l z h = looser ds _ 0 _ (omega arith) (idle_fair ds 0 h)
  fair_all (suc n) i p ds li l z h = by (is_in i p ds) (fair_all n) refl
    where
      by : (t : Bool) → FairAt n → is_in i p ds ≡ t
          → Fair ds (elim t [
            | true ↦ idle ds
            | false ↦ take_up (record { node = i; at = p }) (or_try (byte_try n i p ds) (λ ds. or_try (piece_try n i p ds) (atom_try n i p)))
          ]) (suc (size i p))
      by true ih e = idle_fair ds _ h
      by false ih e =
          let t = or_try (byte_try n i p ds) (λ ds. or_try (piece_try n i p ds) (atom_try n i p)) in
          take_fair i p ds t.found t.dead t.taken t.bytes li l z e (first_fair n i p ds ih li l z h)

  -- a search is fair
  pub fair : (n i p : ℕ) (ds : List Place) → i < N → p ≤ length line → ends i ≡ false → NoEnds ds → Fair ds (try_place m kid holey n i p (drop p line) ds) (suc (size i p))
  unfolding FairAt
  fair n = fair_all n

  -- no template ends at a place that the first step marks, or the second
  pub byte_no_ends : (n i p : ℕ) (ds : List Place) → p ≤ length line → NoEnds ds → NoEnds (byte_try n i p ds).dead
  byte_no_ends n i p ds l h = (byte_fair n i p (drop p line) ds (fair_all n) refl l h).no_ends

  pub piece_no_ends : (n i p : ℕ) (ds : List Place) → p ≤ length line → NoEnds ds → NoEnds (piece_try n i p ds).dead
  piece_no_ends n i p ds l h = (piece_fair n i p ds (fair_all n) l h).no_ends

  -- the places that a search takes up are the tree's nodes times (line length + 1) at most
  pub few_places : (ds : List Place) (t : Tried) (b : ℕ) → Fair ds t b → length t.taken ≤ N * suc (length line)
  unfolding Small
  few_places ds t b h = once_few (suc (length line)) N t.taken h.once (λ i p e. let (x, y) = h.there i p e in (x, omega (arith, y)))
