-- The search without marks, and its law: what it finds is a reading, the first of all, and it finds something where there is one. Unmarked shows
-- that the search that marks dead places finds the same. The laws: onward_inv, rest_end, rest_byte, rest_piece, rest-none, sound, found_first, found_none.
use mathlib.Core.Path.{◌≡◌, refl, sym, ◌∙◌, ap, subst}
use mathlib.Core.Bool.{Bool, true, false}
use mathlib.Core.List.{List, [], ◌∷◌, ◌++◌, append_assoc}
use mathlib.Core.Logic.{◌⊎◌, inl, inr, ⊎_elim}
use mathlib.Core.Option.{Option, none, some}
use Prim.Native.Nat.{ℕ, zero, suc, ◌+◌, ◌<◌}
use native.Mathlib.Omega.{arith}
use lib.ListN.{length, length-append}
use Rattle.model.specs.declared.Marks.{Marks}
use Rattle.model.specs.Text.{Bytes}
use Rattle.model.specs.Reading.{atom}
use Rattle.model.specs.Fitting.{Balanced, empty}
use Rattle.model.specs.Parts.{Elem, lit, hole, stop, ReadingPart, byte, piece, text, Good, elements, Earlier, end-piece, byte_piece, less_piece, later}
use Rattle.model.specs.Places.{Found, end_at, with_byte, piece_found, with_atom}
use Rattle.model.proofs.Choices.{false-not-true}
use Rattle.model.proofs.Atoms.{none-some, Atom, atom_sound, Headed, atom_complete}

-- ---- the search

abbrev pub or_else : Option Found → Option Found → Option Found
or_else none y = y
or_else (some f) y = some f

-- at a child, where there is one: 0 is none
abbrev pub at_child : (ℕ → Option Found) → ℕ → Option Found
at_child f zero = none
at_child f (suc j) = f (suc j)

-- past an atom, where there is one
abbrev pub past_atom : (Bytes → Option Found) → Option (Bytes × Bytes) → Option Found
past_atom f none = none
past_atom f (some r) = with_atom r.0 (f r.1)

-- past the first atom of the line, if the node is a placeholder's
abbrev pub by_atom : Marks → (Bytes → Option Found) → Bool → Bytes → Option Found
by_atom m f true s = past_atom f (atom m s)
by_atom m f false s = none

-- the tree: `kid` gives the child of a node for an element, 0 where there is none
module _ (kid : ℕ → Elem → ℕ) where
  -- to the child for the next byte, or for the template's end
  abbrev pub by_byte : (ℕ → Bytes → Option Found) → ℕ → Bytes → Option Found
  by_byte f i [] = end_at (kid i stop)
  by_byte f i (b ∷ s) = with_byte b (at_child (λ j. f j s) (kid i (lit b)))

  -- to the placeholder's child
  abbrev pub by_piece : (ℕ → Bytes → Option Found) → ℕ → Bytes → Option Found
  by_piece f i s = piece_found (at_child (λ j. f j s) (kid i hole))

-- and `holey` says whether a node is a placeholder's. The first number is fuel
module _ (m : Marks) (kid : ℕ → Elem → ℕ) (holey : ℕ → Bool) where
  unfoldable pub search : ℕ → ℕ → Bytes → Option Found
  search zero i s = none
  search (suc n) i s =
      let third = by_atom m (search n i) (holey i) s in
      let second = or_else (by_piece kid (search n) i s) third in
      or_else (by_byte kid (search n) i s) second

-- ---- where elements lead

-- on from a child, where there is one: 0 is none
abbrev pub onward : (ℕ → ℕ) → ℕ → ℕ
onward f zero = zero
onward f (suc j) = f (suc j)

-- the node to which elements lead from the node i, 0 where there is none
abbrev pub walk : (ℕ → Elem → ℕ) → ℕ → List Elem → ℕ
walk kid i [] = i
walk kid i (e ∷ es) = onward (λ j. walk kid j es) (kid i e)

-- a walk goes on only from a child
pub onward_inv : (g : ℕ → ℕ) (k j : ℕ) → onward g k ≡ suc j → (m : ℕ) × (k ≡ suc m) × (g (suc m) ≡ suc j)
onward_inv g zero j e = absurd (omega arith)
onward_inv g (suc m) j e = (m, refl, e)

-- ---- what is found against a reading

-- f comes before the rest q and the parts r, or is them
abbrev Best : Found → Bytes → List ReadingPart → Type 0
Best f q r = (length f.rest < length q) ⊎ ((f.rest ≡ q) × ((f.parts ≡ r) ⊎ Earlier f.parts r))

-- what is found comes before them, or is them
abbrev Finds : Option Found → Bytes → List ReadingPart → Type 0
Finds o q r = (f : Found) × (o ≡ some f) × Best f q r

-- what the first way finds is found
or_left : (x y : Option Found) (q : Bytes) (r : List ReadingPart) → Finds x q r → Finds (or_else x y) q r
or_left x y q r h = (h.0, ap (λ (o : Option Found). or_else o y) h.1, h.2)

-- what the second finds is found, where what the first finds is better
or_right : (x y : Option Found) (q : Bytes) (r : List ReadingPart) → ((f : Found) → x ≡ some f → Best f q r) → Finds y q r → Finds (or_else x y) q r
or_right none y q r g h = h
or_right (some f) y q r g h = (f, refl, g f refl)

-- ---- what each way of the search makes of what it finds below

-- a literal byte, a piece and an atom more, in front of f
abbrev byte_then : ℕ → Found → Found
byte_then b f = record { rest = []; parts = byte b ∷ f.parts; node = f.node }

abbrev piece_then : Found → Found
piece_then f = record { rest = []; parts = piece f.rest ∷ f.parts; node = f.node }

abbrev atom_then : Bytes → Found → Found
atom_then a f = record { rest = a ++ f.rest; parts = f.parts; node = f.node }

-- what is found is found one way or the other
or_inv : (x y : Option Found) (f : Found) → or_else x y ≡ some f → (x ≡ some f) ⊎ (y ≡ some f)
or_inv none y f e = inr e
or_inv (some g) y f e = inl e

-- what is found at a child is found where there is one
child_inv : (g : ℕ → Option Found) (k : ℕ) (f : Found) → at_child g k ≡ some f → (c : ℕ) × (k ≡ suc c) × (g (suc c) ≡ some f)
child_inv g zero f e = none-some e
child_inv g (suc c) f e = (c, refl, e)

-- what stands behind a byte, a piece and an atom is found below
byte_inv : (b : ℕ) (o : Option Found) (f : Found) → with_byte b o ≡ some f → (g : Found) × (o ≡ some g) × (byte_then b g ≡ f)
byte_inv b none f e = none-some e
byte_inv b (some g) f e = (g, refl, cc)

piece_inv : (o : Option Found) (f : Found) → piece_found o ≡ some f → (g : Found) × (o ≡ some g) × (piece_then g ≡ f)
piece_inv none f e = none-some e
piece_inv (some g) f e = (g, refl, cc)

atom_inv : (a : Bytes) (o : Option Found) (f : Found) → with_atom a o ≡ some f → (g : Found) × (o ≡ some g) × (atom_then a g ≡ f)
atom_inv a none f e = none-some e
atom_inv a (some g) f e = (g, refl, cc)

-- f comes before any piece, and none is open: what a byte or the end leads to
Ahead : Found → Type 0
Ahead f = (f.rest ≡ []) × ((p : Bytes) (r : List ReadingPart) → Earlier f.parts (piece p ∷ r))

-- the end comes before any piece
ahead_end : (k : ℕ) (f : Found) → end_at k ≡ some f → Ahead f
unfolding Ahead
ahead_end zero f e = none-some e
ahead_end (suc j) f e =
    let g : Found = record { rest = []; parts = []; node = suc j } in
    let h : g ≡ f = cc in
    subst Ahead h (refl, end-piece)

-- so does a byte
ahead_byte : (b : ℕ) (o : Option Found) (f : Found) → with_byte b o ≡ some f → Ahead f
unfolding Ahead
ahead_byte b o f e =
    let (g, _, h) = byte_inv b o f e in
    subst Ahead h (refl, λ p r. byte_piece b p g.parts r)

-- none is open at an end or a byte
pub rest_end : (k : ℕ) (f : Found) → end_at k ≡ some f → f.rest ≡ []
unfolding Ahead
rest_end k f e = (ahead_end k f e).0

pub rest_byte : (b : ℕ) (o : Option Found) (f : Found) → with_byte b o ≡ some f → f.rest ≡ []
unfolding Ahead
rest_byte b o f e = (ahead_byte b o f e).0

-- nor where a piece starts
pub rest_piece : (o : Option Found) (f : Found) → piece_found o ≡ some f → f.rest ≡ []
rest_piece o f e =
    let (g, _, h) = piece_inv o f e in
    subst (λ (x : Found). x.rest ≡ []) h refl

-- the first way leads ahead of any piece
ahead : (kid : ℕ → Elem → ℕ) (F : ℕ → Bytes → Option Found) (i : ℕ) (s : Bytes) (f : Found) → by_byte kid F i s ≡ some f → Ahead f
ahead kid F i [] f e = ahead_end (kid i stop) f e
ahead kid F i (b ∷ s) f e = ahead_byte b (at_child (λ j. F j s) (kid i (lit b))) f e

-- ---- and what that is against a reading

-- the same part in front changes nothing
same_front : (x : ReadingPart) (a r : List ReadingPart) → (a ≡ r) ⊎ Earlier a r → (x ∷ a ≡ x ∷ r) ⊎ Earlier (x ∷ a) (x ∷ r)
same_front x a r (inl e) = inl (ap (λ (l : List ReadingPart). x ∷ l) e)
same_front x a r (inr h) = inr (later x a r h)

-- with a byte, a piece or an atom in front, it still comes before the reading with the same in front
lift_byte : (b : ℕ) (o : Option Found) (r : List ReadingPart) → Finds o [] r → Finds (with_byte b o) [] (byte b ∷ r)
lift_byte b o r (f, e, inl lt) = absurd (omega arith)
lift_byte b o r (f, e, inr h) = (byte_then b f, ap (with_byte b) e, inr (refl, same_front (byte b) f.parts r h.1))

lift_piece : (o : Option Found) (p : Bytes) (r : List ReadingPart) → Finds o p r → Finds (piece_found o) [] (piece p ∷ r)
lift_piece o p r (f, e, inl lt) = (piece_then f, ap piece_found e, inr (refl, inr (less_piece f.rest p f.parts r lt)))
lift_piece o p r (f, e, inr h) = (piece_then f, ap piece_found e, inr (refl, rw h.0 (same_front (piece p) f.parts r h.1)))

lift_atom : (a : Bytes) (o : Option Found) (q : Bytes) (r : List ReadingPart) → Finds o q r → Finds (with_atom a o) (a ++ q) r
lift_atom a o q r (f, e, inl lt) = (atom_then a f, ap (with_atom a) e, inl (omega (arith, length-append a f.rest, length-append a q)))
lift_atom a o q r (f, e, inr h) = (atom_then a f, ap (with_atom a) e, inr (ap (λ (l : Bytes). a ++ l) h.0, h.1))

-- what is found, where no piece is open, is the reading or comes before it
at_first : (f : Found) (r : List ReadingPart) → f.rest ≡ [] → Finds (some f) [] r → (f.parts ≡ r) ⊎ Earlier f.parts r
at_first f r z (g, e, inl lt) = absurd (omega arith)
at_first f r z (g, e, inr h) =
    let w : g ≡ f = cc in
    subst (λ (x : Found). (x.parts ≡ r) ⊎ Earlier x.parts r) w h.1

-- a balanced row with a byte starts with an atom
headed : (m : Marks) (b : ℕ) (q : Bytes) → (b ∷ q ≡ []) ⊎ Headed m (b ∷ q) → Headed m (b ∷ q)
headed m b q (inl e) = absurd (omega (arith, ap length e))
headed m b q (inr h) = h

-- at the node i: the rest q of the piece that is open there, and the parts r after it, read a template that ends at the node j
pub record ReadsFrom (m : Marks) (kid : ℕ → Elem → ℕ) (holey : ℕ → Bool) (i : ℕ) (q : Bytes) (r : List ReadingPart) (j : ℕ) : Type 0 where
  pub rest-balanced : Balanced m q
  pub only_hole : holey i ≡ false → q ≡ []
  pub good : Good m r
  pub leads : walk kid i (elements r) ≡ suc j

-- ---- the open piece

module _ (m : Marks) (kid : ℕ → Elem → ℕ) (holey : ℕ → Bool) where
  -- the search, with n left
  abbrev go : ℕ → ℕ → Bytes → Option Found
  go n = search m kid holey n

  -- only at a placeholder's node is a piece open
  no_atom : (F : Bytes → Option Found) (t : Bool) (s : Bytes) (f : Found) → t ≡ false → by_atom m F t s ≡ some f → f.rest ≡ []
  no_atom F true s f e h = false-not-true (sym e)
  no_atom F false s f e h = none-some h

  -- where no piece is open, none is found open
  pub rest-none : (n i : ℕ) (s : Bytes) (f : Found) → holey i ≡ false → search m kid holey n i s ≡ some f → f.rest ≡ []
  unfolding search Ahead
  rest-none zero i s f t e = none-some e
  rest-none (suc n) i s f t e =
      ⊎_elim (λ w. (ahead kid (go n) i s f w).0)
      (λ w. ⊎_elim (λ x. rest_piece (at_child (λ c. go n c s) (kid i hole)) f x) (λ x. no_atom (go n i) (holey i) s f t x) (or_inv (by_piece kid (go n) i s) _ f w))
      (or_inv (by_byte kid (go n) i s) _ f e)

-- ---- what is found is a reading

module _ (m : Marks) (kid : ℕ → Elem → ℕ) (holey : ℕ → Bool) (at_lit : (i b c : ℕ) → kid i (lit b) ≡ suc c → holey (suc c) ≡ false) where
  -- f is a reading of s from the node i on
  abbrev pub Is : ℕ → Bytes → Found → Type 0
  Is i s f = (j : ℕ) × (f.node ≡ suc j) × ReadsFrom m kid holey i f.rest f.parts j × (f.rest ++ text f.parts ≡ s)

  Sound : ℕ → Type 0
  Sound n = (i : ℕ) (s : Bytes) (f : Found) → search m kid holey n i s ≡ some f → Is i s f

  -- each way makes a reading of what is one below
  is-end : (i k : ℕ) (f : Found) → kid i stop ≡ k → end_at k ≡ some f → Is i [] f
  is-end i zero f e h = none-some h
  is-end i (suc c) f e h =
      let g : Found = record { rest = []; parts = []; node = suc c } in
      let w : g ≡ f = cc in
      subst (Is i []) w (c, refl, record { rest-balanced = empty; only_hole = λ _. refl; good = tt; leads = rw e refl }, refl)

  is_byte : (i b : ℕ) (s : Bytes) (c : ℕ) (g : Found) → kid i (lit b) ≡ suc c → Is (suc c) s g → Is i (b ∷ s) (byte_then b g)
  is_byte i b s c g e (j, w, h, x) =
      let z = h.only_hole (at_lit i b c e) in
      (j, w, record { rest-balanced = empty; only_hole = λ _. refl; good = h.good; leads = rw e h.leads }, ap (λ (l : Bytes). b ∷ l) (ap (λ (l : Bytes). l ++ text g.parts) (sym z) ∙ x))

  is_piece : (i : ℕ) (s : Bytes) (c : ℕ) (g : Found) → kid i hole ≡ suc c → Is (suc c) s g → Is i s (piece_then g)
  is_piece i s c g e (j, w, h, x) =
      (j, w, record { rest-balanced = empty; only_hole = λ _. refl; good = (h.rest-balanced, h.good); leads = rw e h.leads }, x)

  is-atom : (i : ℕ) (s a t : Bytes) (g : Found) → holey i ≡ true → Atom m s a t → Is i t g → Is i s (atom_then a g)
  is-atom i s a t g e h (j, w, k, x) = (
    j,
    w,
    record { rest-balanced = h.then_balanced g.rest k.rest-balanced; only_hole = λ z. false-not-true (sym z ∙ e); good = k.good; leads = k.leads },
    append_assoc a g.rest (text g.parts) ∙ ap (λ (l : Bytes). a ++ l) x ∙ sym h.joined,
  )

  -- each way finds readings, if the search below does
  sound_byte : (n i : ℕ) (s : Bytes) (f : Found) → Sound n → by_byte kid (search m kid holey n) i s ≡ some f → Is i s f
  unfolding Sound
  sound_byte n i [] f ih e = is-end i (kid i stop) f refl e
  sound_byte n i (b ∷ s) f ih e =
      let (g, h, w) = byte_inv b (at_child (λ c. search m kid holey n c s) (kid i (lit b))) f e in
      let (c, k, x) = child_inv (λ c. search m kid holey n c s) (kid i (lit b)) g h in
      subst (Is i (b ∷ s)) w (is_byte i b s c g k (ih (suc c) s g x))

  sound_piece : (n i : ℕ) (s : Bytes) (f : Found) → Sound n → by_piece kid (search m kid holey n) i s ≡ some f → Is i s f
  unfolding Sound
  sound_piece n i s f ih e =
      let (g, h, w) = piece_inv (at_child (λ c. search m kid holey n c s) (kid i hole)) f e in
      let (c, k, x) = child_inv (λ c. search m kid holey n c s) (kid i hole) g h in
      subst (Is i s) w (is_piece i s c g k (ih (suc c) s g x))

  sound_past : (n i : ℕ) (s : Bytes) (o : Option (Bytes × Bytes)) (f : Found) → Sound n → holey i ≡ true → atom m s ≡ o → past_atom (search m kid holey n i) o ≡ some f → Is i s f
  unfolding Sound
  sound_past n i s none f ih t p e = none-some e
  sound_past n i s (some (a, u)) f ih t p e =
      let (g, h, w) = atom_inv a (search m kid holey n i u) f e in
      subst (Is i s) w (is-atom i s a u g t (atom_sound m s a u p) (ih i u g h))

  sound_atom : (n i : ℕ) (s : Bytes) (f : Found) (t : Bool) → holey i ≡ t → Sound n → by_atom m (search m kid holey n i) t s ≡ some f → Is i s f
  sound_atom n i s f false t ih e = none-some e
  sound_atom n i s f true t ih e = sound_past n i s (atom m s) f ih t refl e

  -- the search finds readings, whatever the fuel
  sound_all : (n : ℕ) → Sound n
  unfolding Sound search
  sound_all zero i s f e = none-some e
  sound_all (suc n) i s f e =
      ⊎_elim (λ w. sound_byte n i s f (sound_all n) w)
      (λ w. ⊎_elim (λ x. sound_piece n i s f (sound_all n) x) (λ x. sound_atom n i s f (holey i) refl (sound_all n) x) (or_inv (by_piece kid (search m kid holey n) i s) _ f w))
      (or_inv (by_byte kid (search m kid holey n) i s) _ f e)

  pub sound : (n i : ℕ) (s : Bytes) (f : Found) → search m kid holey n i s ≡ some f → Is i s f
  unfolding Sound
  sound n = sound_all n

-- ---- where there is a reading, it or one before it is found

module _ (m : Marks) (differ : ¬ (m.left ≡ m.right)) (kid : ℕ → Elem → ℕ) (holey : ℕ → Bool) (rank : ℕ → ℕ)
    (falls : (i : ℕ) (e : Elem) (c : ℕ) → kid i e ≡ suc c → rank (suc c) < rank i)
    (at_hole : (i c : ℕ) → kid i hole ≡ suc c → holey (suc c) ≡ true) where
  Complete : ℕ → Type 0
  Complete n = (i : ℕ) (q : Bytes) (r : List ReadingPart) (j : ℕ) → rank i + length (q ++ text r) < n → ReadsFrom m kid holey i q r j → Finds (search m kid holey n i (q ++ text r)) q r

  -- by the end
  end_finds : (F : ℕ → Bytes → Option Found) (i j : ℕ) → ReadsFrom m kid holey i [] [] j → Finds (by_byte kid F i []) [] []
  end_finds F i j h =
      let (c, k, _) = onward_inv (λ c. c) (kid i stop) j h.leads in
      (record { rest = []; parts = []; node = suc c }, ap end_at k, inr (refl, inl refl))

  -- by a byte
  byte_finds : (n i b : ℕ) (r : List ReadingPart) (j : ℕ) → Complete n → rank i + suc (length (text r)) < suc n → ReadsFrom m kid holey i [] (byte b ∷ r) j
      → Finds (by_byte kid (search m kid holey n) i (b ∷ text r)) [] (byte b ∷ r)
  unfolding Complete
  byte_finds n i b r j ih lt h =
      let (c, k, w) = onward_inv (λ c. walk kid c (elements r)) (kid i (lit b)) j h.leads in
      let l = falls i (lit b) c k in
      rw k (lift_byte b (search m kid holey n (suc c) (text r)) r
      (ih (suc c) [] r j (omega arith) (record { rest-balanced = empty; only_hole = λ _. refl; good = h.good; leads = w })))

  -- by a placeholder
  piece_finds : (n i : ℕ) (p : Bytes) (r : List ReadingPart) (j : ℕ) → Complete n → rank i + length (p ++ text r) < suc n → ReadsFrom m kid holey i [] (piece p ∷ r) j
      → Finds (by_piece kid (search m kid holey n) i (p ++ text r)) [] (piece p ∷ r)
  unfolding Complete
  piece_finds n i p r j ih lt h =
      let (c, k, w) = onward_inv (λ c. walk kid c (elements r)) (kid i hole) j h.leads in
      let l = falls i hole c k in
      let t = at_hole i c k in
      rw k (lift_piece (search m kid holey n (suc c) (p ++ text r)) p r
      (ih (suc c) p r j (omega arith) (record { rest-balanced = h.good.0; only_hole = λ e. false-not-true (sym e ∙ t); good = h.good.1; leads = w })))

  -- by an atom more
  atom_finds : (n i : ℕ) (q : Bytes) (r : List ReadingPart) (j : ℕ) (t : Bool) → holey i ≡ t → Complete n → rank i + length (q ++ text r) < suc n → ReadsFrom m kid holey i q r j → Headed m q
      → Finds (by_atom m (search m kid holey n i) t (q ++ text r)) q r
  unfolding Complete
  atom_finds n i q r j false e ih lt h d =
      let z = h.only_hole e in
      absurd (omega (arith, d.some_byte, ap length d.joined, ap length z, length-append d.head d.tail))
  atom_finds n i q r j true e ih lt h d =
      let u = text r in
      let g = ih i d.tail r j (omega (arith, d.some_byte, ap length d.joined, length-append d.head d.tail, length-append q u, length-append d.tail u))
      (record { rest-balanced = d.balanced; only_hole = λ k. false-not-true (sym k ∙ e); good = h.good; leads = h.leads }) in
      let w = lift_atom d.head (search m kid holey n i (d.tail ++ u)) d.tail r g in
      rw (d.is-atom u) (subst (λ (l : Bytes). Finds (with_atom d.head (search m kid holey n i (d.tail ++ u))) l r) (sym d.joined) w)

  -- it finds something at or before each reading
  complete : (n : ℕ) → Complete n
  unfolding Complete search Ahead
  complete zero i q r j lt h = absurd (omega arith)
  complete (suc n) i [] [] j lt h = or_left (by_byte kid (search m kid holey n) i []) _ [] [] (end_finds (search m kid holey n) i j h)
  complete (suc n) i [] (byte b ∷ r) j lt h = or_left (by_byte kid (search m kid holey n) i (b ∷ text r)) _ [] (byte b ∷ r) (byte_finds n i b r j (complete n) lt h)
  complete (suc n) i [] (piece p ∷ r) j lt h =
      or_right (by_byte kid (search m kid holey n) i (p ++ text r)) _ [] (piece p ∷ r)
      (λ f e. let a = ahead kid (search m kid holey n) i (p ++ text r) f e in inr (a.0, inr (a.1 p r)))
      (or_left (by_piece kid (search m kid holey n) i (p ++ text r)) _ [] (piece p ∷ r) (piece_finds n i p r j (complete n) lt h))
  complete (suc n) i (b ∷ q) r j lt h =
      or_right (by_byte kid (search m kid holey n) i (b ∷ q ++ text r)) _ (b ∷ q) r
      (λ f e. let a = ahead kid (search m kid holey n) i (b ∷ q ++ text r) f e in inl (omega (arith, ap length a.0)))
      (or_right (by_piece kid (search m kid holey n) i (b ∷ q ++ text r)) _ (b ∷ q) r
      (λ f e. inl (omega (arith, ap length (rest_piece (at_child (λ c. search m kid holey n c (b ∷ q ++ text r)) (kid i hole)) f e))))
      (atom_finds n i (b ∷ q) r j (holey i) refl (complete n) lt h (headed m b q (atom_complete m differ (b ∷ q) h.rest-balanced))))

  -- parts that lead to a node are found, or some before them
  finds : (n i : ℕ) (s : Bytes) (r : List ReadingPart) (j : ℕ) → rank i + length s < n → text r ≡ s → Good m r → walk kid i (elements r) ≡ suc j → Finds (search m kid holey n i s) [] r
  unfolding Complete
  finds n i s r j lt e g w =
      subst (λ (l : Bytes). Finds (search m kid holey n i l) [] r) e
      (complete n i [] r j (omega (arith, ap length e)) (record { rest-balanced = empty; only_hole = λ _. refl; good = g; leads = w }))

  -- what is found, where no piece is open, is every such reading or comes before it
  pub found_first : (n i : ℕ) (s : Bytes) (f : Found) → rank i + length s < n → holey i ≡ false → search m kid holey n i s ≡ some f
      → (o : List ReadingPart) (j : ℕ) → text o ≡ s → Good m o → walk kid i (elements o) ≡ suc j → (f.parts ≡ o) ⊎ Earlier f.parts o
  found_first n i s f lt t e o j x g w =
      at_first f o (rest-none m kid holey n i s f t e) (subst (λ (y : Option Found). Finds y [] o) e (finds n i s o j lt x g w))

  -- where nothing is found there is none
  pub found_none : (n i : ℕ) (s : Bytes) → rank i + length s < n → search m kid holey n i s ≡ none
      → (o : List ReadingPart) (j : ℕ) → text o ≡ s → Good m o → ¬ (walk kid i (elements o) ≡ suc j)
  found_none n i s lt e o j x g w = none-some (sym e ∙ (finds n i s o j lt x g w).1)
