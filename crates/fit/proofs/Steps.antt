-- The three steps of the code's search, over plain values: what each of them finds, and what the searches that follow it ask.
use Rattle.std.proofs.Common.{◌≡◌, ℕ, zero, suc, ◌+◌, ◌-◌, ◌*◌, ◌/◌, ◌^◌, ◌<◌, ◌≤◌, Bool, true, false, eqb, ◌⊎◌, List, [], ◌∷◌, ◌++◌, length, get_or, take, drop, sym, refl, ap, ◌∙◌, subst, ap₂, inl, inr, ⊎_elim, mul-le-mul_right, suc-mul, add-one, arith, length-append, length-drop, drop_of_length-le, length-take, drop-cons, eq-eqb, ne_eqb}
use Rattle.std.specs.Prelude.{Option as Answered, Some, None, is_some, IsSome, IsNone, IfSome}
use mathlib.Core.Option.{Option, none, some}
use Rattle.model.specs.Limits.{line_most, nodes_most}
use Rattle.model.specs.declared.Marks.{Marks}
use Rattle.model.specs.Text.{Bytes, part}
use Rattle.model.specs.Reading.{atom}
use Rattle.model.specs.Parts.{Elem, lit, hole, stop}
use Rattle.model.specs.Children.{placeholder_key, element_of}
use Rattle.model.specs.Places.{bytes_of_look, Found, with_byte, piece_found, with_atom, Place, is_in, Tried, idle, within, or_try, take_up, try_child, try_end, try_atom, try_byte, try_piece, try_place}
use Rattle.model.proofs.Choices.{false-not-true}
use Rattle.model.proofs.Atoms.{none-some}
use Rattle.model.proofs.Search.{rest_end, rest_byte, rest_piece}
use Rattle.atom.specs.declared.Scanned.{Scanned}
use Rattle.atom.specs.Atoms.{EndsAtom, AtomAt}
use Rattle.nodes.specs.declared.Node.{Node}
use Rattle.nodes.specs.Rows.{no_node, elem, kid, holey, height, holes, InRun, ChildFor}
use Rattle.nodes.specs.SideBySide.{SideBySide, Stands}
use Rattle.model.proofs.Children.{byte-key, end-key, hole_key}
use Rattle.nodes.proofs.Rows.{kid-within, kid-falls, kid-lit, holes-lit, holes_hole, front_node, front_long, front_run, front_child, child_after}
use Rattle.fit.specs.Outcome.{next_element, element_at, pieces_in, Counted, Counts, PassesAtom, EndsTemplate, with_piece_at, with_pieces, StoresPiece, starts_in, lens_in, Told, Says, HoldsDead}
use Rattle.fit.specs.declared.Notes.{Notes}
use Rattle.fit.specs.Outcome.{Lent, Outcomes, size_in, place_tried, byte_step, piece_step, atom_step, Asks, Comes, SearchedIn, ByteSearched, PieceSearched, AtomSearched}

-- ---- the element that leads on

-- a byte's, before the end
pub element_byte : (line : Bytes) (at r : ℕ) → at < length line → r ≡ get_or line at 0 → r < 256 → element_of r ≡ element_at line at
element_byte [] at r lt w u = absurd (omega arith)
element_byte (b ∷ line) zero r lt w u = byte-key r u ∙ ap lit w
element_byte (b ∷ line) (suc at) r lt w u = element_byte line at r (omega arith) w u

-- the template's end, there
pub element_end : (line : Bytes) (at : ℕ) → length line ≤ at → element_of 256 ≡ element_at line at
element_end line at le = end-key ∙ sym (ap next_element (drop_of_length-le line le))

-- ---- an answer or none

-- none is no answer
pub none_is : {T : Type 0} {r : Answered T} → r ≡ None → IsNone r
none_is q = ap is_some q

-- and an answer is one
pub some_is : {T : Type 0} {r : Answered T} {j : T} → r ≡ Some j → IsSome r
some_is q = ap is_some q

pub some_none : {r : Answered ℕ} → IsSome r → ¬ (r ≡ None)
some_none z q = false-not-true (sym (none_is q) ∙ z)

pub none_some : {r : Answered ℕ} {j : ℕ} → IsNone r → ¬ (r ≡ Some j)
none_some z q = false-not-true (sym z ∙ some_is q)

-- ---- what an answer says

-- with none, that nothing is found
pub told_none : (k at : ℕ) (x : Option Found) (r : Answered ℕ) (ns ns' : Notes) → Told k at x r ns ns' → IsNone r → x ≡ none
told_none k at none r ns ns' h e = refl
told_none k at (some f) r ns ns' h e = absurd (none_some e h.0)

-- with any other, what is found
pub told_some : (k at : ℕ) (x : Option Found) (r : Answered ℕ) (ns ns' : Notes) → Told k at x r ns ns' → IsSome r → (f : Found) × (x ≡ some f) × Told k at (some f) r ns ns'
told_some k at none r ns ns' h e = absurd (some_none e h.0)
told_some k at (some f) r ns ns' h e = (f, refl, h)

-- the same of notes with the same pieces before
pub told_stay : (k at : ℕ) (x : Option Found) (r : Answered ℕ) (ns ns1 ns2 : Notes) → pieces_in ns1 ≡ pieces_in ns → Told k at x r ns1 ns2 → Told k at x r ns ns2
told_stay k at none r ns ns1 ns2 q (z, h) = (z, h ∙ q)
told_stay k at (some f) r ns ns1 ns2 q (e, u, s) = (e, u, s ∙ ap (with_pieces k (starts_in (at + length f.rest) f.parts) (lens_in f.parts)) q)

-- so counts that come before change nothing
pub told_counted : {p b : ℕ} {ns ns1 : Notes} (k at : ℕ) (x : Option Found) (r : Answered ℕ) (ns2 : Notes) → Counts p b ns ns1 → Told k at x r ns1 ns2 → Told k at x r ns ns2
told_counted {ns = ns} {ns1 = ns1} k at x r ns2 q h = told_stay k at x r ns ns1 ns2 q.stay h

-- a byte in front leaves the answer and the notes as they are
told_byte : (k k' at b : ℕ) (x : Option Found) (r : Answered ℕ) (ns ns' : Notes) → k' ≡ k → ((f : Found) → x ≡ some f → f.rest ≡ []) → Told k' (at + 1) x r ns ns' → Told k at (with_byte b x) r ns ns'
unfolding starts_in
told_byte k k' at b none r ns ns' y z h = h
told_byte k k' at b (some f) r ns ns' y z (e, u, s) =
    let q : length f.rest ≡ 0 = ap length (z f refl) in
    let x : at + 1 + length f.rest ≡ at + 0 + 1 = omega (arith, q) in
    (e, u ∙ q, s ∙ ap₂ (λ (i j : ℕ). with_pieces i (starts_in j f.parts) (lens_in f.parts) (pieces_in ns)) y x)

-- where a piece starts, it is stored
told-piece : (k k' at : ℕ) (x : Option Found) (r : Answered ℕ) (ns ns1 ns2 : Notes) → k' ≡ k + 1 → IsSome r → StoresPiece k at ns1 ns2 → Told k' at x r ns ns1 → Told k at (piece_found x) r ns ns2
unfolding starts_in with_pieces
told-piece k k' at none r ns ns1 ns2 x z q h = absurd (some_none z h.0)
told-piece k k' at (some f) r ns ns1 ns2 x z q (e, u, s) =
    let y : at + 0 ≡ at = omega arith in (
      e,
      q.closed,
      rw y (q.stored ∙ ap₂ (λ (l : ℕ) (w : List ℕ). with_piece_at k at l w) u
          (s ∙ ap (λ (i : ℕ). with_pieces i (starts_in (at + length f.rest) f.parts) (lens_in f.parts) (pieces_in ns)) x)),
    )

-- where none is found, none is stored
told_no_piece : (k k' at : ℕ) (x : Option Found) (r : Answered ℕ) (ns ns1 : Notes) → IsNone r → Told k' at x r ns ns1 → Told k at (piece_found x) r ns ns1
told_no_piece k k' at none r ns ns1 z h = h
told_no_piece k k' at (some f) r ns ns1 z h = absurd (none_some z h.0)

-- an atom makes the open piece longer
told_atom : (k at e : ℕ) (a : Bytes) (x : Option Found) (r : Answered ℕ) (ns ns1 ns2 : Notes) → at + length a ≡ e → IsSome r → PassesAtom (e - at) ns1 ns2 → Told k e x r ns ns1 → Told k at (with_atom a x) r ns ns2
told_atom k at e a none r ns ns1 ns2 h z q t = absurd (some_none z t.0)
told_atom k at e a (some f) r ns ns1 ns2 h z q (n, u, s) =
    let y : e + length f.rest ≡ at + length (a ++ f.rest) = omega (arith, length-append a f.rest) in (
      n,
      omega (arith, q.longer, u, length-append a f.rest),
      q.counts.stay ∙ s ∙ ap (λ (x : ℕ). with_pieces k (starts_in x f.parts) (lens_in f.parts) (pieces_in ns)) y,
    )

-- where nothing is found past it, nothing is found
told_no_atom : (k at e : ℕ) (a : Bytes) (x : Option Found) (r : Answered ℕ) (ns ns1 : Notes) → IsNone r → Told k e x r ns ns1 → Told k at (with_atom a x) r ns ns1
told_no_atom k at e a none r ns ns1 z h = h
told_no_atom k at e a (some f) r ns ns1 z h = absurd (none_some z h.0)

-- a node that is not 0 is one more than some
pub suc_of : (c : ℕ) → ¬ (c ≡ 0) → (j : ℕ) × (c ≡ suc j)
suc_of zero h = absurd (h refl)
suc_of (suc j) h = (j, refl)

-- ---- what is found where no piece is open

-- what two ways find, one of them finds
try_inv : (a : Tried) (next : List Place → Tried) (f : Found) → (or_try a next).found ≡ some f → (a.found ≡ some f) ⊎ ((next a.dead).found ≡ some f)
try_inv a next f e = by a.found a.dead a.taken a.bytes e
  where
    by : (o : Option Found) (ns ts : List Place) (c : ℕ) → (or_try (record { found = o; dead = ns; taken = ts; bytes = c }) next).found ≡ some f → (o ≡ some f) ⊎ ((next ns).found ≡ some f)
    by none ns ts c h = inr h
    by (some g) ns ts c h = inl h

module _ (m : Marks) (kid : ℕ → Elem → ℕ) (holey : ℕ → Bool) where
  -- by the end or a byte none is found open
  byte_rest : (F : ℕ → ℕ → Bytes → List Place → Tried) (i p : ℕ) (s : Bytes) (ds : List Place) (f : Found) → (try_byte kid F i p s ds).found ≡ some f → f.rest ≡ []
  byte_rest F i p [] ds f e = at-end (kid i stop) e
    where
      at-end : (k : ℕ) → (try_end k p ds).found ≡ some f → f.rest ≡ []
      at-end zero e = none-some e
      at-end (suc j) e = rest_end (suc j) f e
  byte_rest F i p (b ∷ s) ds f e = rest_byte b (try_child (λ j. F j (p + 1) s ds) (kid i (lit b)) ds).found f e

  -- nor by an atom, at a node that is no placeholder's
  atom-rest : (F : ℕ → Bytes → List Place → Tried) (b : Bool) (p : ℕ) (s : Bytes) (ds : List Place) (f : Found) → b ≡ false → (try_atom m F b p s ds).found ≡ some f → f.rest ≡ []
  atom-rest F true p s ds f z e = false-not-true (sym z)
  atom-rest F false p s ds f z e = none-some e

  -- so at a node that is no placeholder's none is found open
  place_rest : (n i p : ℕ) (s : Bytes) (ds : List Place) (f : Found) → holey i ≡ false → (try_place m kid holey n i p s ds).found ≡ some f → f.rest ≡ []
  unfolding try_place
  place_rest zero i p s ds f z e = none-some e
  place_rest (suc n) i p s ds f z e = by (is_in i p ds) e
    where
      first : Tried
      first = try_byte kid (try_place m kid holey n) i p s ds

      second : List Place → Tried
      second ds = try_piece kid (try_place m kid holey n) i p s ds

      third : List Place → Tried
      third ds = try_atom m (try_place m kid holey n i) (holey i) p s ds

      by : (t : Bool) → (elim t as (λ _. Tried) [ true ↦ idle ds | false ↦ take_up (record { node = i; at = p }) (or_try first (λ ds. or_try (second ds) third)) ]).found ≡ some f → f.rest ≡ []
      by true h = none-some h
      by false h =
          ⊎_elim (λ w. byte_rest (try_place m kid holey n) i p s ds f w)
          (λ w. ⊎_elim (λ x. rest_piece (try_child (λ j. try_place m kid holey n j p s first.dead) (kid i hole) first.dead).found f x)
          (λ x. atom-rest (try_place m kid holey n i) (holey i) p s (second first.dead).dead f z x) (try_inv (second first.dead) third f w))
          (try_inv first (λ ds. or_try (second ds) third) f h)

-- ---- what the searches that follow ask

module _ {row : List Node} {made node : ℕ} (s : Stands row made) (lt : node < made) {e : ℕ} where
  -- no child in the row for an element is none of the tree's
  no_kid : ChildFor row node e None → (x : Elem) → element_of e ≡ x → kid (take made row) node x ≡ 0
  no_kid h x w = rw (← w) (sym (front_child s node lt e None h).is)

  module _ {c : ℕ} (h : ChildFor row node e (Some c)) where
    -- a child in the row is one of the tree's
    child_there : c < made
    child_there = omega (arith, (front_child s node lt e (Some c) h).within, front_long s)

    -- and not the root
    child_live : ¬ (c ≡ 0)
    child_live z = omega (arith, z, child_after s node lt c h.child)

    -- the child there for an element
    child_is : (x : Elem) → element_of e ≡ x → c ≡ kid (take made row) node x
    child_is x w = rw (← w) (front_child s node lt e (Some c) h).is

    -- and for a placeholder
    hole_is : e ≡ placeholder_key → c ≡ kid (take made row) node hole
    hole_is w = child_is hole (ap element_of w ∙ hole_key)

    -- it is less high
    child_lower : (x : Elem) → element_of e ≡ x → height row c < height row node
    child_lower x w =
        let (j, v) = suc_of c child_live in
        let l = kid-falls s.tree node x j (sym (child_is x w) ∙ v) in
        let y : height (take made row) (suc j) ≡ height row c = ap (height (take made row)) (sym v) ∙ ap (λ (n : Node). n.height) (front_node row made c child_there) in
        omega (arith, l, y, ap (λ (n : Node). n.height) (front_node row made node lt))

-- the child that is known
pub child_known : {row : List Node} {node e : ℕ} {o u : Answered ℕ} → ChildFor row node e o → o ≡ u → ChildFor row node e u
child_known {row} {node} {e} h q = subst (λ (o : Answered ℕ). ChildFor row node e o) q h

-- and the atom
pub atom_known : {m : Marks} {line : Bytes} {at : ℕ} {r : Scanned} {e : ℕ} → AtomAt m line at r → r.end ≡ Some e → EndsAtom m line at e
atom_known {m} {line} {at} h q = subst (λ (o : Answered ℕ). IfSome o (EndsAtom m line at)) q h.found

module _ {row : List Node} {dead line : Bytes} {node at : ℕ} (a : Asks row dead line node at) where
  -- the search can ask of another node and place, and with another row of dead places that is as long
  elsewhere : (dead1 : Bytes) (node' at' : ℕ) → length dead1 ≡ length dead → node' < a.made → at' ≤ length line → Asks row dead1 line node' at'
  elsewhere dead1 node' at' u th lo = record { made = a.made; stands = a.stands; there = th; low = lo; few = a.few; short = a.short; room = omega (arith, a.room, u) }

  -- and so are its children, in a run
  pub asks_children : InRun row node
  asks_children = front_run a.stands node a.there

  -- its place has a number
  pub asks_number : (node < nodes_most) × (length line ≤ line_most) × (at ≤ length line)
  asks_number = (omega (arith, a.there, a.few), a.short, a.low)

  -- and a bit
  pub asks_bit : {x : ℕ} → x ≡ node * (length line + 1) + at → x / 8 < length dead
  asks_bit {x} e =
      let u = mul-le-mul_right {m = suc node} {n = a.made} (suc (length line)) a.there in
      let w : node * (length line + 1) ≡ node * suc (length line) = ap (λ (n : ℕ). node * n) (omega arith) in
      omega (arith, u, suc-mul node (suc (length line)), w, e, a.low, a.room)

  -- the same can be asked after a step, which leaves a row that is as long
  pub asks_again : {dead1 : Bytes} → length dead1 ≡ length dead → Asks row dead1 line node at
  asks_again {dead1} u = elsewhere dead1 node at u a.there a.low

  module _ {e c : ℕ} (h : ChildFor row node e (Some c)) where
    -- the search can go on at the placeholder's child
    pub asks_piece : Asks row dead line c at
    asks_piece = elsewhere dead c at refl (child_there a.stands a.there h) a.low

    -- and at a byte's, past the byte
    pub asks_byte : ¬ (at ≡ length line) → Asks row dead line c (at + 1)
    asks_byte n = elsewhere dead c (at + 1) refl (child_there a.stands a.there h) (omega (arith, a.low, n))

    -- the child is less high, so the measure falls
    pub byte_less : element_of e ≡ element_at line at → ¬ (at ≡ length line) → 3 * (height row c + (length line - (at + 1))) + 2 < 3 * (height row node + (length line - at))
    byte_less w n = omega (arith, child_lower a.stands a.there h (element_at line at) w)

    pub piece_less : e ≡ placeholder_key → 3 * (height row c + (length line - at)) + 2 < 3 * (height row node + (length line - at))
    piece_less w = omega (arith, child_lower a.stands a.there h hole (ap element_of w ∙ hole_key))

    -- there is room for the piece of one more placeholder
    pub below-nine : e ≡ placeholder_key → holes row node < 9
    below-nine w =
        let (j, v) = suc_of c (child_live a.stands a.there h) in
        let tree = a.stands.tree in
        let q = sym (hole_is a.stands a.there h w) ∙ v in
        omega (arith, holes_hole tree node j q, (tree.says (suc j) (kid-within tree node hole j q)).nine, ap (λ (n : Node). n.holes) (front_node row a.made node a.there))

  module _ {m : Marks} {e : ℕ} (h : EndsAtom m line at e) where
    -- the search can go on past an atom
    pub asks_atom : Asks row dead line node e
    asks_atom = elsewhere dead node e refl a.there h.within

    -- less is left of the line, so the measure falls
    pub atom-less : 3 * (height row node + (length line - e)) + 2 < 3 * (height row node + (length line - at))
    atom-less = omega (arith, h.ahead, h.within)

    -- the piece stays within the line, so its length fits
    pub atom_fits : {r : Answered ℕ} {dead' : Bytes} {notes1 notes' : Notes} → SearchedIn m row line node e dead dead' notes1 notes' r → IsSome r → notes'.rest + (e - at) < 2 ^ 64
    atom_fits g f = omega (arith, (g.comes.each a.made a.stands a.there).short f, h.ahead, h.within, a.short)

-- ---- counts

-- nothing is counted
pub counted_none : (ns : Notes) → Counted 0 0 ns ns
counted_none ns = record { more_places = omega arith; more_bytes = omega arith }

-- first some are counted, and then more
pub counted-more : {p b q c : ℕ} (k n : ℕ) {ns ns1 ns2 : Notes} → k ≡ p + q → n ≡ b + c → Counted p b ns ns1 → Counted q c ns1 ns2 → Counted k n ns ns2
counted-more k n u v x y = record {
  more_places = omega (arith, u, x.more_places, y.more_places);
  more_bytes = omega (arith, v, x.more_bytes, y.more_bytes);
}

-- bytes are read before, and nothing is counted after
counted_between : {k p b : ℕ} {ns ns1 ns2 ns3 : Notes} → Counted 0 k ns ns1 → Counted p b ns1 ns2 → Counted 0 0 ns2 ns3 → Counted p (k + b) ns ns3
counted_between x y z = record {
  more_places = omega (arith, x.more_places, y.more_places, z.more_places);
  more_bytes = omega (arith, x.more_bytes, y.more_bytes, z.more_bytes);
}

-- ---- steps that take up nothing

-- a step that takes up no place and reads nothing leaves the rows as they are
pub idle_comes : {row : List Node} {line : Bytes} {node at : ℕ} {fuel : List Node → ℕ} {step : List Node → ℕ → List Place → Tried} {dead : Bytes} {notes : Notes} {r : Answered ℕ}
    → ((made : ℕ) → Stands row made → node < made → (n : ℕ) (ds : List Place) → HoldsDead (length (take made row)) (suc (length line)) dead ds → fuel (take made row) ≤ n → step (take made row) n ds ≡ idle ds)
    → r ≡ None → Comes row line node at fuel step (record { dead = dead; dead' = dead; notes = notes; notes' = notes }) r
idle_comes {notes = notes} h e = rw e record {
  each = λ made s lt. record {
    says = λ n l ds k. rw (h made s lt n ds k l) (record { told = (refl, refl); counted = counted_none notes }, k);
    short = λ f. false-not-true f;
    there = tt;
  };
}

-- no child has the byte, nor the end
no_child : (kid : ℕ → Elem → ℕ) (F : ℕ → ℕ → Bytes → List Place → Tried) (i p : ℕ) (s : Bytes) (ds : List Place) → kid i (next_element s) ≡ 0 → try_byte kid F i p s ds ≡ idle ds
no_child kid F i p [] ds z = ap (λ (c : ℕ). try_end c p ds) z
no_child kid F i p (b ∷ s) ds z = ap (λ (c : ℕ). within (with_byte b) (try_child (λ j. F j (p + 1) s ds) c ds)) z

module _ {m : Marks} {row : List Node} {line : Bytes} {node at e : ℕ} {dead : Bytes} {notes : Notes} (h : ChildFor row node e None) {r : Answered ℕ} where
  -- no child has the byte, nor the end
  pub byte_none : element_of e ≡ element_at line at → r ≡ None → ByteSearched m row line node at dead dead notes notes r
  byte_none w q = record {
    comes = idle_comes (λ made s lt n ds k l. no_child (kid (take made row)) (try_place m (kid (take made row)) (holey (take made row)) n) node at (drop at line) ds
        (no_kid s lt h (element_at line at) w)) q;
  }

  -- no child is a placeholder's
  pub piece_none : e ≡ placeholder_key → r ≡ None → PieceSearched m row line node at dead dead notes notes r
  piece_none w q = record {
    comes = idle_comes (λ made s lt n ds k l. ap (λ (i : ℕ). within piece_found (try_child (λ j. try_place m (kid (take made row)) (holey (take made row)) n j at (drop at line) ds) i ds))
        (no_kid s lt h hole (ap element_of w ∙ hole_key))) q;
  }

-- ---- steps that lead to a child

-- what is found at a child: c is the child for x, and r the answer from `next` on
child_said : (m : Marks) (rows : List Node) (line : Bytes) (node at next n : ℕ) (x : Elem) (c : ℕ) (l : Lent) (ds : List Place) (r : Answered ℕ) {marks : Marks} {templates : List Bytes} → SideBySide marks templates rows → c ≡ kid rows node x → ¬ (c ≡ 0) → at ≤ next
    → size_in rows line node at ≤ n → HoldsDead (length rows) (suc (length line)) l.dead ds → Outcomes rows line c next (suc (size_in rows line c next)) (λ n. place_tried m rows line c next n) l r
    → Says (holes rows c) next (try_child (λ j. try_place m (kid rows) (holey rows) n j next (drop next line) ds) (kid rows node x) ds) r l.notes l.notes'
    × HoldsDead (length rows) (suc (length line)) l.dead' (try_child (λ j. try_place m (kid rows) (holey rows) n j next (drop next line) ds) (kid rows node x) ds).dead
child_said m rows line node at next n x c l ds r tree w z le lt k h =
    let (j, v) = suc_of c z in
    let y : kid rows node x ≡ suc j = sym w ∙ v in
    let f = kid-falls tree node x j y in
    rw (y, ← v) (h.says n (omega (arith, f, ap (height rows) v)) ds k)

module _ (m : Marks) (rows : List Node) (line : Bytes) (node at c : ℕ) (r : Answered ℕ) {marks : Marks} {templates : List Bytes} (tree : SideBySide marks templates rows) (z : ¬ (c ≡ 0)) where
  -- the template ends here, at a place that is counted
  end_outcomes : (dead : Bytes) (notes notes1 : Notes) → length line ≤ at → c ≡ kid rows node (element_at line at) → c < length rows → EndsTemplate notes notes1 → r ≡ Some c
      → Outcomes rows line node at (size_in rows line node at) (λ n. byte_step m rows line node at n) (record { dead = dead; dead' = dead; notes = notes; notes' = notes1 }) r
  unfolding starts_in with_pieces
  end_outcomes dead notes notes1 le w lt q e =
      let (j, x) = suc_of c z in
      let d : drop at line ≡ [] = drop_of_length-le line le in
      let y : kid rows node stop ≡ suc j = ap (λ (s : Bytes). kid rows node (next_element s)) (sym d) ∙ sym w ∙ x in
      rw e record {
        says = λ n l ds k. rw (d, y) (record { told = (ap Some x, q.ended, q.counts.stay); counted = q.counts.counted }, k);
        short = λ _. omega (arith, q.ended);
        there = lt;
      }

  -- what is found at the byte's child is found here
  byte_outcomes : (l : Lent) → at < length line → c ≡ kid rows node (element_at line at) → Outcomes rows line c (at + 1) (suc (size_in rows line c (at + 1))) (λ n. place_tried m rows line c (at + 1) n) l r
      → Outcomes rows line node at (size_in rows line node at) (λ n. byte_step m rows line node at n) l r
  byte_outcomes l lt w h = record { says = says; short = λ f. omega (arith, h.short f); there = h.there }
    where
      b : ℕ
      b = get_or line at 0

      d : drop at line ≡ b ∷ drop (at + 1) line
      d = rw add-one (drop-cons line at 0 lt)

      is : c ≡ kid rows node (lit b)
      is = w ∙ ap (λ (s : Bytes). kid rows node (next_element s)) d

      says : (n : ℕ) → size_in rows line node at ≤ n → (ds : List Place) → HoldsDead (length rows) (suc (length line)) l.dead ds
          → Says (holes rows node) at (byte_step m rows line node at n ds) r l.notes l.notes' × HoldsDead (length rows) (suc (length line)) l.dead' (byte_step m rows line node at n ds).dead
      says n le ds k =
          let (j, v) = suc_of c z in
          let y : kid rows node (lit b) ≡ suc j = sym is ∙ v in
          let t : Tried = try_child (λ j. try_place m (kid rows) (holey rows) n j (at + 1) (drop (at + 1) line) ds) (kid rows node (lit b)) ds in
          let (s, g) = child_said m rows line node at (at + 1) n (lit b) c l ds r tree is z (omega arith) le k h in
          rw d (
            record {
              told = told_byte (holes rows node) (holes rows c) at b t.found r l.notes l.notes' (ap (holes rows) v ∙ holes-lit tree node b j y)
                  (λ f e. place_rest m (kid rows) (holey rows) n (suc j) (at + 1) (drop (at + 1) line) ds f (kid-lit rows node b j y)
                  (subst (λ (i : ℕ). (try_child (λ j. try_place m (kid rows) (holey rows) n j (at + 1) (drop (at + 1) line) ds) i ds).found ≡ some f) y e)) s.told;
              counted = s.counted;
            },
            g,
          )

  -- what is found at the placeholder's child is a piece, and what follows it
  module _ (dead dead1 : Bytes) (notes notes1 : Notes) (w : c ≡ kid rows node hole)
      (h : Outcomes rows line c at (suc (size_in rows line c at)) (λ n. place_tried m rows line c at n) (record { dead = dead; dead' = dead1; notes = notes; notes' = notes1 }) r) where
    -- what the search of the child says
    said_child : (n : ℕ) → size_in rows line node at ≤ n → (ds : List Place) → HoldsDead (length rows) (suc (length line)) dead ds
        → Says (holes rows c) at (try_child (λ j. try_place m (kid rows) (holey rows) n j at (drop at line) ds) (kid rows node hole) ds) r notes notes1
        × HoldsDead (length rows) (suc (length line)) dead1 (try_child (λ j. try_place m (kid rows) (holey rows) n j at (drop at line) ds) (kid rows node hole) ds).dead
    said_child n le ds k = child_said m rows line node at at n hole c (record { dead = dead; dead' = dead1; notes = notes; notes' = notes1 }) ds r tree w z (omega arith) le k h

    -- with the piece stored
    piece_outcomes : (notes2 : Notes) → IsSome r → StoresPiece (holes rows node) at notes1 notes2
        → Outcomes rows line node at (size_in rows line node at) (λ n. piece_step m rows line node at n) (record { dead = dead; dead' = dead1; notes = notes; notes' = notes2 }) r
    piece_outcomes notes2 f q = record {
      says = λ n le ds k.
          let (j, v) = suc_of c z in
          let t : Tried = try_child (λ j. try_place m (kid rows) (holey rows) n j at (drop at line) ds) (kid rows node hole) ds in
          let (s, g) = said_child n le ds k in (
            record {
              told = told-piece (holes rows node) (holes rows c) at t.found r notes notes1 notes2 (ap (holes rows) v ∙ holes_hole tree node j (sym w ∙ v)) f q s.told;
              counted = counted-more _ _ (omega arith) (omega arith) s.counted q.counted;
            },
            g,
          );
      short = λ _. omega (arith, q.closed);
      there = h.there;
    }

    -- nothing is found there, nor here
    no_piece_outcomes : r ≡ None → Outcomes rows line node at (size_in rows line node at) (λ n. piece_step m rows line node at n) (record { dead = dead; dead' = dead1; notes = notes; notes' = notes1 }) r
    no_piece_outcomes f = record {
      says = λ n le ds k.
          let t : Tried = try_child (λ j. try_place m (kid rows) (holey rows) n j at (drop at line) ds) (kid rows node hole) ds in
          let (s, g) = said_child n le ds k in
          (record { told = told_no_piece (holes rows node) (holes rows c) at t.found r notes notes1 (none_is f) s.told; counted = s.counted }, g);
      short = λ g. absurd (some_none g f);
      there = h.there;
    }

module _ {m : Marks} {row : List Node} {dead : Bytes} {notes : Notes} {line : Bytes} {node at : ℕ} (a : Asks row dead line node at) {e c : ℕ} (h : ChildFor row node e (Some c)) where
  -- the template ends here
  pub byte_end : {notes1 : Notes} → element_of e ≡ element_at line at → at ≡ length line → EndsTemplate notes notes1 → ByteSearched m row line node at dead dead notes notes1 (Some c)
  byte_end {notes1} w t k = record {
    comes = record {
      each = λ made s lt.
          end_outcomes m (take made row) line node at c (Some c) s.tree (child_live s lt h) dead notes notes1 (omega (arith, t)) (child_is s lt h (element_at line at) w)
          (omega (arith, child_there s lt h, front_long s)) k refl;
    };
  }

  -- what is found at the byte's child is found here
  pub byte_below : {dead' : Bytes} {notes' : Notes} {r : Answered ℕ} → element_of e ≡ element_at line at → ¬ (at ≡ length line) → SearchedIn m row line c (at + 1) dead dead' notes notes' r
      → ByteSearched m row line node at dead dead' notes notes' r
  byte_below {dead'} {notes'} {r} w t g = record {
    comes = record {
      each = λ made s lt.
          byte_outcomes m (take made row) line node at c r s.tree (child_live s lt h) (record { dead = dead; dead' = dead'; notes = notes; notes' = notes' }) (omega (arith, a.low, t))
          (child_is s lt h (element_at line at) w) (g.comes.each made s (child_there s lt h));
    };
  }

  module _ {dead1 : Bytes} {notes1 : Notes} {r : Answered ℕ} (w : e ≡ placeholder_key) (g : SearchedIn m row line c at dead dead1 notes notes1 r) where
    -- what is found at the placeholder's child is a piece, and what follows it
    pub piece_below : {notes2 : Notes} {j : ℕ} → r ≡ Some j → StoresPiece (holes row node) at notes1 notes2 → PieceSearched m row line node at dead dead1 notes notes2 (Some j)
    piece_below {notes2} f q = subst (λ (r : Answered ℕ). PieceSearched m row line node at dead dead1 notes notes2 r) f (record {
      comes = record {
        each = λ made s lt.
            let v : holes row node ≡ holes (take made row) node = ap (λ (n : Node). n.holes) (sym (front_node row made node lt)) in
            piece_outcomes m (take made row) line node at c r s.tree (child_live s lt h) dead dead1 notes notes1 (hole_is s lt h w) (g.comes.each made s (child_there s lt h)) notes2 (some_is f)
            (subst (λ (k : ℕ). StoresPiece k at notes1 notes2) v q);
      };
    })

    -- nothing is found there
    pub piece_nowhere : {u : Answered ℕ} → r ≡ None → u ≡ None → PieceSearched m row line node at dead dead1 notes notes1 u
    piece_nowhere f q = rw (q ∙ sym f) record {
      comes = record {
        each = λ made s lt.
            no_piece_outcomes m (take made row) line node at c r s.tree (child_live s lt h) dead dead1 notes notes1 (hole_is s lt h w) (g.comes.each made s (child_there s lt h)) f;
      };
    }

-- ---- the atom

-- whether the tree's node is a placeholder's
holey_is : (row : List Node) (node made : ℕ) → node < made → holey (take made row) node ≡ eqb (get_or row node no_node).element placeholder_key
holey_is row node made lt = ap (λ (n : Node). eqb n.element placeholder_key) (front_node row made node lt)

module _ (m : Marks) (rows : List Node) (line : Bytes) (node at : ℕ) (t : holey rows node ≡ true) (read : ℕ) (a : read ≡ bytes_of_look m (drop at line)) where
  -- there is no atom, and what the look reads is counted
  look_outcomes : (dead : Bytes) (notes notes1 : Notes) (u : Answered ℕ) → atom m (drop at line) ≡ none → Counts 0 read notes notes1 → u ≡ None
      → Outcomes rows line node at (size_in rows line node at) (λ n. atom_step m rows line node at n) (record { dead = dead; dead' = dead; notes = notes; notes' = notes1 }) u
  look_outcomes dead notes notes1 u z q e = rw e record {
    says = λ n l ds k. rw (t, z, ← a) (record { told = (refl, q.stay); counted = counted-more _ _ (omega arith) (omega arith) q.counted (counted_none notes1) }, k);
    short = λ f. false-not-true f;
    there = tt;
  }

  -- past the atom, which ends at e, the search comes to u
  module _ {e : ℕ} (z : EndsAtom m line at e) (dead dead' : Bytes) (notes notes1 notes2 : Notes) (u : Answered ℕ) (q : Counts 0 read notes notes1)
      (h : Outcomes rows line node e (suc (size_in rows line node e)) (λ n. place_tried m rows line node e n) (record { dead = dead; dead' = dead'; notes = notes1; notes' = notes2 }) u) where
    long : at + length (part line at e) ≡ e
    long = simp (length-take, length-drop) (omega (arith, z.ahead, z.within))

    -- with what is found there, and what is counted
    atom_says : (notes3 : Notes) → Counts 0 0 notes2 notes3
        → ((x : Option Found) → Told (holes rows node) e x u notes notes2 → Told (holes rows node) at (with_atom (part line at e) x) u notes notes3)
        → (n : ℕ) → size_in rows line node at ≤ n → (ds : List Place) → HoldsDead (length rows) (suc (length line)) dead ds
        → Says (holes rows node) at (atom_step m rows line node at n ds) u notes notes3
        × HoldsDead (length rows) (suc (length line)) dead' (atom_step m rows line node at n ds).dead
    atom_says notes3 v w n le ds k =
        let (s, g) = h.says n (omega (arith, z.ahead, z.within, le)) ds k in
        rw (t, ← a, z.is, long) (
          record {
            told = w (place_tried m rows line node e n ds).found (told_counted (holes rows node) e (place_tried m rows line node e n ds).found u notes2 q s.told);
            counted = counted_between q.counted s.counted v.counted;
          },
          g,
        )

    -- the atom makes the open piece longer
    atom_outcomes : (notes3 : Notes) → IsSome u → PassesAtom (e - at) notes2 notes3
        → Outcomes rows line node at (size_in rows line node at) (λ n. atom_step m rows line node at n) (record { dead = dead; dead' = dead'; notes = notes; notes' = notes3 }) u
    atom_outcomes notes3 f p = record {
      says = atom_says notes3 p.counts (λ x w. told_atom (holes rows node) at e (part line at e) x u notes notes2 notes3 long f p w);
      short = λ g. omega (arith, p.longer, h.short g, z.ahead, z.within);
      there = h.there;
    }

    -- or nothing is found
    no_atom_outcomes : u ≡ None → Outcomes rows line node at (size_in rows line node at) (λ n. atom_step m rows line node at n) (record { dead = dead; dead' = dead'; notes = notes; notes' = notes2 }) u
    no_atom_outcomes f = record {
      says = atom_says notes2 (record { counted = counted_none notes2; stay = refl }) (λ x w. told_no_atom (holes rows node) at e (part line at e) x u notes notes2 (none_is f) w);
      short = λ g. absurd (some_none g f);
      there = h.there;
    }

module _ {m : Marks} {row : List Node} {line : Bytes} {node at : ℕ} {dead : Bytes} {notes : Notes} where
  -- the node is no placeholder's
  pub atom-not : ¬ (elem row node ≡ placeholder_key) → AtomSearched m row line node at dead dead notes notes None
  atom-not f = record { comes = idle_comes (λ made s lt k ds h l. rw (holey_is row node made lt ∙ ne_eqb (elem row node) placeholder_key f) refl) refl }

  module _ {e : Scanned} {notes1 : Notes} (t : elem row node ≡ placeholder_key) (g : AtomAt m line at e) (k : Counts 0 e.read notes notes1) where
    -- there is no atom
    pub atom-none : {u : Answered ℕ} → e.end ≡ None → u ≡ None → AtomSearched m row line node at dead dead notes notes1 u
    atom-none {u} z q = record {
      comes = record { each = λ made s lt. look_outcomes m (take made row) line node at (holey_is row node made lt ∙ eq-eqb (elem row node) placeholder_key t) e.read g.read dead notes notes1 u (g.nowhere (none_is z)) k q };
    }

    module _ {past : ℕ} {u : Answered ℕ} {dead' : Bytes} {notes2 : Notes} (z : EndsAtom m line at past) (w : SearchedIn m row line node past dead dead' notes1 notes2 u) where
      -- the open piece has the atom
      pub atom-below : {notes3 : Notes} {j : ℕ} → u ≡ Some j → PassesAtom (past - at) notes2 notes3 → AtomSearched m row line node at dead dead' notes notes3 (Some j)
      atom-below {notes3} f q = subst (λ (u : Answered ℕ). AtomSearched m row line node at dead dead' notes notes3 u) f (record {
        comes = record {
          each = λ made s lt.
              atom_outcomes m (take made row) line node at (holey_is row node made lt ∙ eq-eqb (elem row node) placeholder_key t) e.read g.read z dead dead' notes notes1 notes2 u k (w.comes.each made s lt) notes3 (some_is f) q;
        };
      })

      -- nothing is found past the atom
      pub atom_nowhere : {v : Answered ℕ} → u ≡ None → v ≡ None → AtomSearched m row line node at dead dead' notes notes2 v
      atom_nowhere f q = rw (q ∙ sym f) record {
        comes = record {
          each = λ made s lt.
              no_atom_outcomes m (take made row) line node at (holey_is row node made lt ∙ eq-eqb (elem row node) placeholder_key t) e.read g.read z dead dead' notes notes1 notes2 u k (w.comes.each made s lt) f;
        };
      }

-- what the goals of search_byte go by
pub ruleset byte_steps = (child_known, byte_none, byte_end, byte_below)

-- what the goals of search_piece go by
pub ruleset piece_steps = (child_known, piece_none, piece_nowhere, piece_below)

-- what the goals of search_atom go by
pub ruleset atom_steps = (atom-not, atom-none, atom_known, atom-less, asks_atom, atom_nowhere, atom_fits, atom-below)
