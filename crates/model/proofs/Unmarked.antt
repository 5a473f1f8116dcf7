-- Marks change nothing: the search that takes up no place twice finds what the search without marks finds.
-- The laws: is_in_cons, unmarked.
use mathlib.Core.Path.{◌≡◌, refl, sym, ◌∙◌, ap, subst}
use mathlib.Core.Bool.{Bool, true, false, ◌&&◌}
use mathlib.Core.List.{List, [], ◌∷◌}
use mathlib.Core.Logic.{◌⊎◌, inl, inr, ⊎_elim}
use mathlib.Core.Option.{Option, none, some}
use Prim.Native.Nat.{ℕ, zero, suc, ◌+◌, ◌≤◌, ◌<◌}
use native.Mathlib.Omega.{arith}
use lib.Dec.{eqb}
use lib.ListN.{length, drop, length-append}
use lib.Seq.{drop-append_seam, drop-drop}
use Rattle.model.specs.declared.Marks.{Marks}
use Rattle.model.specs.Text.{Bytes}
use Rattle.model.specs.Reading.{atom}
use Rattle.model.specs.Parts.{Elem, lit, hole, stop}
use Rattle.model.specs.Places.{Found, end_at, with_byte, piece_found, with_atom, Place, is_in, Tried, idle, within, or_try, take_up, after_look, bytes_of_look, try_child, try_end, try_past, try_atom, try_byte, try_piece, try_place}
use Rattle.model.proofs.Chosen.{Tested, alike, apart, tested}
use Rattle.model.proofs.Atoms.{atom_sound}
use Rattle.model.proofs.Search.{or_else, at_child, by_byte, by_piece, past_atom, by_atom, search}

-- ---- places

-- a place among one more
pub is_in_cons : (i p : ℕ) (x : Place) (xs : List Place) → is_in i p (x ∷ xs) ≡ true → ((x.node ≡ i) × (x.at ≡ p)) ⊎ (is_in i p xs ≡ true)
unfolding is_in
is_in_cons i p x xs e = by (eqb x.node i) (eqb x.at p) (tested x.node i) (tested x.at p) e
  where
    by : (a b : Bool) → Tested x.node i a → Tested x.at p b → ◌≡◌ {A = Bool} (elim (a && b) [ true ↦ true | false ↦ is_in i p xs ]) true → ((x.node ≡ i) × (x.at ≡ p)) ⊎ (is_in i p xs ≡ true)
    by true true (alike u) (alike v) h = inl (u, v)
    by true false (alike u) (apart v) h = inr h
    by false b (apart u) w h = inr h

module _ (m : Marks) (kid : ℕ → Elem → ℕ) (holey : ℕ → Bool) (rank : ℕ → ℕ) (falls : (i : ℕ) (e : Elem) (c : ℕ) → kid i e ≡ suc c → rank (suc c) < rank i) (line : Bytes) where
  -- the search without marks
  abbrev go : ℕ → ℕ → Bytes → Option Found
  go k = search m kid holey k

  -- a place leads nowhere
  abbrev pub Nowhere : ℕ → ℕ → Type 0
  Nowhere i p = (k : ℕ) → rank i + length (drop p line) < k → go k i (drop p line) ≡ none

  -- every marked place does
  abbrev pub Marked : List Place → Type 0
  Marked ds = (i p : ℕ) → is_in i p ds ≡ true → Nowhere i p

  -- a search with marks finds what f finds with any fuel from b on, and its marks are right
  record Agrees (t : Tried) (f : ℕ → Option Found) (b : ℕ) : Type 0 where
    same : (k : ℕ) → b ≤ k → t.found ≡ f k
    right : Marked t.dead

  -- no place is taken up
  idle_agrees : (ds : List Place) (f : ℕ → Option Found) (b : ℕ) → Marked ds → ((k : ℕ) → b ≤ k → f k ≡ none) → Agrees (idle ds) f b
  idle_agrees ds f b h z = record { same = λ k l. sym (z k l); right = h }

  -- if it leads nowhere, the next
  or_agrees : (o : Option Found) (ds ts : List Place) (c : ℕ) (next : List Place → Tried) (f g : ℕ → Option Found) (b : ℕ)
      → Agrees (record { found = o; dead = ds; taken = ts; bytes = c }) f b → ((ds : List Place) → Marked ds → Agrees (next ds) g b)
      → Agrees (or_try (record { found = o; dead = ds; taken = ts; bytes = c }) next) (λ k. or_else (f k) (g k)) b
  or_agrees none ds ts c next f g b h n =
      let w = n ds h.right in
      record { same = λ k l. w.same k l ∙ ap (λ (x : Option Found). or_else x (g k)) (h.same k l); right = w.right }
  or_agrees (some r) ds ts c next f g b h n = record { same = λ k l. ap (λ (x : Option Found). or_else x (g k)) (h.same k l); right = h.right }

  -- the place is taken up
  take_agrees : (i p : ℕ) (o : Option Found) (ds ts : List Place) (c : ℕ) (f : ℕ → Option Found)
      → ((k : ℕ) → go (suc k) i (drop p line) ≡ f k)
      → Agrees (record { found = o; dead = ds; taken = ts; bytes = c }) f (rank i + length (drop p line))
      → Agrees (take_up (record { node = i; at = p }) (record { found = o; dead = ds; taken = ts; bytes = c })) (λ k. go k i (drop p line)) (suc (rank i + length (drop p line)))
  take_agrees i p o ds ts c f u h = record { same = same; right = right o (λ k l. same k l) h.right }
    where
      same : (k : ℕ) → suc (rank i + length (drop p line)) ≤ k → o ≡ go k i (drop p line)
      same zero l = absurd (omega arith)
      same (suc k) l = h.same k (omega arith) ∙ sym (u k)

      right : (o : Option Found) → ((k : ℕ) → suc (rank i + length (drop p line)) ≤ k → o ≡ go k i (drop p line)) → Marked ds
          → Marked (elim o [ some f ↦ ds | none ↦ record { node = i; at = p } ∷ ds ])
      right (some r) s w = w
      right none s w = λ j q e.
          ⊎_elim (λ x. subst (λ (j : ℕ). Nowhere j q) x.0 (subst (Nowhere i) x.1 (λ k l. sym (s k (omega arith))))) (λ x. w j q x)
          (is_in_cons j q (record { node = i; at = p }) ds e)

  -- a part in front
  within_agrees : (t : Tried) (f : ℕ → Option Found) (b : ℕ) (g : Option Found → Option Found) → Agrees t f b → Agrees (within g t) (λ k. g (f k)) b
  within_agrees t f b g h = record { same = λ k l. ap g (h.same k l); right = h.right }

  -- a look changes nothing
  look_agrees : (t : Tried) (f : ℕ → Option Found) (b c : ℕ) → Agrees t f b → Agrees (after_look c t) f b
  look_agrees t f b c h = record { same = h.same; right = h.right }

  -- with n left the search agrees
  Same : ℕ → Type 0
  Same n = (i p : ℕ) (ds : List Place) → rank i + length (drop p line) < n → Marked ds
      → Agrees (try_place m kid holey n i p (drop p line) ds) (λ k. go k i (drop p line)) (suc (rank i + length (drop p line)))

  -- at a child
  child_agrees : (n i : ℕ) (e : Elem) (j p q : ℕ) (ds : List Place) → Same n → kid i e ≡ j → length (drop q line) ≤ length (drop p line) → rank i + length (drop p line) ≤ n → Marked ds
      → Agrees (try_child (λ j. try_place m kid holey n j q (drop q line) ds) j ds) (λ k. at_child (λ j. go k j (drop q line)) j) (rank i + length (drop p line))
  unfolding Same
  child_agrees n i e zero p q ds ih w l lt h = idle_agrees ds _ _ h (λ k z. refl)
  child_agrees n i e (suc c) p q ds ih w l lt h =
      let d = falls i e c w in
      let a = ih (suc c) q ds (omega arith) h in
      record { same = λ k z. a.same k (omega arith); right = a.right }

  -- at a template's end
  end_agrees : (j p : ℕ) (ds : List Place) (b : ℕ) → Marked ds → Agrees (try_end j p ds) (λ k. end_at j) b
  end_agrees zero p ds b h = idle_agrees ds _ b h (λ k z. refl)
  end_agrees (suc j) p ds b h = record { same = λ k z. refl; right = h }

  -- the three steps
  byte_agrees : (n i p : ℕ) (s : Bytes) (ds : List Place) → Same n → s ≡ drop p line → rank i + length (drop p line) ≤ n → Marked ds
      → Agrees (try_byte kid (try_place m kid holey n) i p s ds) (λ k. by_byte kid (go k) i s) (rank i + length (drop p line))
  byte_agrees n i p [] ds ih e lt h = end_agrees (kid i stop) p ds _ h
  byte_agrees n i p (b ∷ s) ds ih e lt h =
      let x : s ≡ drop (p + 1) line = ap (drop 1) e ∙ drop-drop 1 p line in
      let l : length (drop (p + 1) line) ≤ length (drop p line) = omega (arith, ap length x, ap length e) in
      let a = child_agrees n i (lit b) (kid i (lit b)) p (p + 1) ds ih refl l lt h in
      rw x (within_agrees _ _ _ (with_byte b) a)

  piece_agrees : (n i p : ℕ) (ds : List Place) → Same n → rank i + length (drop p line) ≤ n → Marked ds
      → Agrees (try_piece kid (try_place m kid holey n) i p (drop p line) ds) (λ k. by_piece kid (go k) i (drop p line)) (rank i + length (drop p line))
  piece_agrees n i p ds ih lt h = within_agrees _ _ _ piece_found (child_agrees n i hole (kid i hole) p p ds ih refl (omega arith) lt h)

  -- past an atom
  past_agrees : (n i p : ℕ) (o : Option (Bytes × Bytes)) (ds : List Place) → Same n → atom m (drop p line) ≡ o → rank i + length (drop p line) ≤ n → Marked ds
      → Agrees (try_past (try_place m kid holey n i) p o ds) (λ k. past_atom (go k i) o) (rank i + length (drop p line))
  unfolding Same
  past_agrees n i p none ds ih e lt h = idle_agrees ds _ _ h (λ k z. refl)
  past_agrees n i p (some (a, t)) ds ih e lt h =
      let o = atom_sound m (drop p line) a t e in
      let j = o.joined in
      let x : t ≡ drop (p + length a) line = sym (drop-append_seam a t) ∙ ap (drop (length a)) (sym j) ∙ drop-drop (length a) p line in
      let u : length (drop (p + length a) line) < length (drop p line) = omega (arith, ap length j, length-append a t, ap length x, o.some_byte) in
      let w = ih i (p + length a) ds (omega arith) h in
      rw x (within_agrees _ (λ k. go k i (drop (p + length a) line)) _ (with_atom a) (record { same = λ k z. w.same k (omega arith); right = w.right }))

  atom_agrees : (n i p : ℕ) (b : Bool) (ds : List Place) → Same n → rank i + length (drop p line) ≤ n → Marked ds
      → Agrees (try_atom m (try_place m kid holey n i) b p (drop p line) ds) (λ k. by_atom m (go k i) b (drop p line)) (rank i + length (drop p line))
  atom_agrees n i p false ds ih lt h = idle_agrees ds _ _ h (λ k z. refl)
  atom_agrees n i p true ds ih lt h = look_agrees _ _ _ (bytes_of_look m (drop p line)) (past_agrees n i p (atom m (drop p line)) ds ih refl lt h)

  -- with any fuel
  agrees : (n : ℕ) → Same n
  unfolding Same try_place search
  agrees zero i p ds lt h = absurd (omega arith)
  agrees (suc n) i p ds lt h = by (is_in i p ds) (agrees n) refl
    where
      by : (t : Bool) → Same n → is_in i p ds ≡ t
          → Agrees (elim t [
            | true ↦ idle ds
            | false ↦
                take_up (record { node = i; at = p })
                (or_try (try_byte kid (try_place m kid holey n) i p (drop p line) ds)
                (λ ds. or_try (try_piece kid (try_place m kid holey n) i p (drop p line) ds) (λ ds. try_atom m (try_place m kid holey n i) (holey i) p (drop p line) ds)))
          ]) (λ k. go k i (drop p line)) (suc (rank i + length (drop p line)))
      by true ih e = idle_agrees ds _ _ h (λ k l. h i p e k (omega arith))
      by false ih e =
          take_agrees i p _ _ _ _ _ (λ k. refl)
          (or_agrees _ _ _ _ _ _ _ _ (byte_agrees n i p (drop p line) ds ih refl (omega arith) h)
          (λ ds h. or_agrees _ _ _ _ _ _ _ _ (piece_agrees n i p ds ih (omega arith) h)
          (λ ds h. atom_agrees n i p (holey i) ds ih (omega arith) h)))

  -- with enough fuel, and with marks that are right, the search finds what the one without marks finds
  pub unmarked : (n k i p : ℕ) (ds : List Place) → rank i + length (drop p line) < n → rank i + length (drop p line) < k → Marked ds
      → (try_place m kid holey n i p (drop p line) ds).found ≡ go k i (drop p line)
  unfolding Same
  unmarked n k i p ds lt lk h = (agrees n i p ds lt h).same k (omega arith)
