-- Two trees with the same nodes under other numbers: the search finds and counts the same in both. The law: renumbered.
use mathlib.Core.Path.{◌≡◌, refl, ap, ap₂}
use mathlib.Core.Bool.{Bool, true, false, ◌&&◌}
use mathlib.Core.List.{List, [], ◌∷◌, ◌++◌}
use mathlib.Core.Option.{Option, none, some}
use Prim.Native.Nat.{ℕ, zero, suc, ◌+◌, ◌≤◌, ◌<◌}
use native.Mathlib.Omega.{arith}
use lib.Dec.{eqb}
use lib.ListN.{length, length-append}
use Rattle.model.specs.declared.Marks.{Marks}
use Rattle.model.specs.Text.{Bytes}
use Rattle.model.specs.Reading.{atom}
use Rattle.model.specs.Parts.{Elem, lit, hole, stop, ReadingPart}
use Rattle.model.specs.Places.{Found, with_byte, piece_found, with_atom, Place, is_in, Tried, idle, within, or_try, take_up, after_look, bytes_of_look, try_child, try_end, try_past, try_atom, try_byte, try_piece, try_place}
use Rattle.model.proofs.Atoms.{atom_sound}

-- what is found, but for the node
pub data Same : Option Found → Option Found → Type 0 where
  nothing : Same none none
  something : (q : Bytes) (r : List ReadingPart) (i j : ℕ) → Same (some (record { rest = q; parts = r; node = i })) (some (record { rest = q; parts = r; node = j }))

-- a child of the one tree and of the other, for the same element
pub data Both (R : ℕ → ℕ → Type 0) : ℕ → ℕ → Type 0 where
  neither : Both R zero zero
  both : (c d : ℕ) → R (suc c) (suc d) → Both R (suc c) (suc d)

module _ (R : ℕ → ℕ → Type 0) (one : (i i' j j' : ℕ) → R i i' → R j j' → eqb i j ≡ eqb i' j') where
  -- places of the one and of the other
  pub data Places : List Place → List Place → Type 0 where
    no_place : Places [] []
    place : (i j p : ℕ) (xs ys : List Place) → R i j → Places xs ys → Places (record { node = i; at = p } ∷ xs) (record { node = j; at = p } ∷ ys)

  -- there are as many of the one as of the other
  as_many : (xs ys : List Place) → Places xs ys → length xs ≡ length ys
  as_many xs ys no_place = refl
  as_many xs ys (place i j p us vs r h) = ap suc (as_many us vs h)

  -- in two rows, one after the other
  joined : (xs ys us vs : List Place) → Places xs ys → Places us vs → Places (xs ++ us) (ys ++ vs)
  joined xs ys us vs no_place h = h
  joined xs ys us vs (place i j p ws zs r g) h = place i j p (ws ++ us) (zs ++ vs) r (joined ws zs us vs g h)

  -- a place is marked in the one exactly if it is in the other
  marked_alike : (i j p : ℕ) (xs ys : List Place) → R i j → Places xs ys → is_in i p xs ≡ is_in j p ys
  unfolding is_in
  marked_alike i j p xs ys r no_place = refl
  marked_alike i j p xs ys r (place k l q us vs s h) =
      ap₂ (λ (a b : Bool). elim (a && eqb q p) [ true ↦ true | false ↦ b ]) (one k l i j s r) (marked_alike i j p us vs r h)

  -- two searches
  pub record Alike (t u : Tried) : Type 0 where
    pub found : Same t.found u.found
    pub dead : Places t.dead u.dead
    pub taken : Places t.taken u.taken
    pub bytes : t.bytes ≡ u.bytes

  -- no place is taken up
  idle_alike : (ms ns : List Place) → Places ms ns → Alike (idle ms) (idle ns)
  idle_alike ms ns h = record { found = nothing; dead = h; taken = no_place; bytes = refl }

  -- if it leads nowhere, the next
  or_alike : (o o' : Option Found) (ns ns' ts ts' : List Place) (c c' : ℕ) (next next' : List Place → Tried)
      → Same o o' → Places ns ns' → Places ts ts' → c ≡ c' → ((ms ms' : List Place) → Places ms ms' → Alike (next ms) (next' ms'))
      → Alike (or_try (record { found = o; dead = ns; taken = ts; bytes = c }) next) (or_try (record { found = o'; dead = ns'; taken = ts'; bytes = c' }) next')
  or_alike o o' ns ns' ts ts' c c' next next' nothing n t e h =
      let a = h ns ns' n in
      record { found = a.found; dead = a.dead; taken = joined ts ts' (next ns).taken (next' ns').taken t a.taken; bytes = ap₂ (λ (x y : ℕ). x + y) e a.bytes }
  or_alike o o' ns ns' ts ts' c c' next next' (something q r i j) n t e h = record { found = something q r i j; dead = n; taken = t; bytes = e }

  -- the place is taken up
  take_alike : (i j p : ℕ) (o o' : Option Found) (ns ns' ts ts' : List Place) (c c' : ℕ) → R i j → Same o o' → Places ns ns' → Places ts ts' → c ≡ c'
      → Alike (take_up (record { node = i; at = p }) (record { found = o; dead = ns; taken = ts; bytes = c }))
      (take_up (record { node = j; at = p }) (record { found = o'; dead = ns'; taken = ts'; bytes = c' }))
  take_alike i j p o o' ns ns' ts ts' c c' r nothing n t e = record { found = nothing; dead = place i j p ns ns' r n; taken = place i j p ts ts' r t; bytes = e }
  take_alike i j p o o' ns ns' ts ts' c c' r (something q a k l) n t e = record { found = something q a k l; dead = n; taken = place i j p ts ts' r t; bytes = e }

  -- the same part in front
  within_byte : (b : ℕ) (o o' : Option Found) → Same o o' → Same (with_byte b o) (with_byte b o')
  within_byte b o o' nothing = nothing
  within_byte b o o' (something q r i j) = something [] _ i j

  within_piece : (o o' : Option Found) → Same o o' → Same (piece_found o) (piece_found o')
  within_piece o o' nothing = nothing
  within_piece o o' (something q r i j) = something [] _ i j

  within-atom : (a : Bytes) (o o' : Option Found) → Same o o' → Same (with_atom a o) (with_atom a o')
  within-atom a o o' nothing = nothing
  within-atom a o o' (something q r i j) = something (a ++ q) r i j

  -- of two searches
  within_alike : (g : Option Found → Option Found) (t u : Tried) → ((o o' : Option Found) → Same o o' → Same (g o) (g o')) → Alike t u → Alike (within g t) (within g u)
  within_alike g t u f h = record { found = f t.found u.found h.found; dead = h.dead; taken = h.taken; bytes = h.bytes }

  -- after a look that reads as many bytes
  look_alike : (n : ℕ) (t u : Tried) → Alike t u → Alike (after_look n t) (after_look n u)
  look_alike n t u h = record { found = h.found; dead = h.dead; taken = h.taken; bytes = ap (λ (k : ℕ). n + k) h.bytes }

  module _ (m : Marks) (kid kid' : ℕ → Elem → ℕ) (holey holey' : ℕ → Bool) (rank rank' : ℕ → ℕ)
      (falls : (i : ℕ) (e : Elem) (c : ℕ) → kid i e ≡ suc c → rank (suc c) < rank i) (falls' : (i : ℕ) (e : Elem) (c : ℕ) → kid' i e ≡ suc c → rank' (suc c) < rank' i)
      (kids : (i j : ℕ) (e : Elem) → R i j → Both R (kid i e) (kid' j e)) (holes : (i j : ℕ) → R i j → holey i ≡ holey' j) where
    -- the search of the one tree, and of the other
    abbrev one_way : ℕ → ℕ → ℕ → Bytes → List Place → Tried
    one_way n = try_place m kid holey n

    abbrev other_way : ℕ → ℕ → ℕ → Bytes → List Place → Tried
    other_way n = try_place m kid' holey' n

    -- with n left the searches are alike
    AlikeAt : ℕ → Type 0
    AlikeAt n = (k i j p : ℕ) (s : Bytes) (ms ns : List Place) → R i j → Places ms ns → rank i + length s < n → rank' j + length s < k → Alike (one_way n i p s ms) (other_way k j p s ns)

    -- at a child
    child_alike : (n k i j x y p q : ℕ) (e : Elem) (s t : Bytes) (ms ns : List Place) → AlikeAt n → Both R x y → kid i e ≡ x → kid' j e ≡ y → Places ms ns → length t ≤ length s
        → rank i + length s ≤ n → rank' j + length s ≤ k → Alike (try_child (λ c. one_way n c q t ms) x ms) (try_child (λ c. other_way k c q t ns) y ns)
    unfolding AlikeAt
    child_alike n k i j x y p q e s t ms ns ih neither u v h l a b = idle_alike ms ns h
    child_alike n k i j x y p q e s t ms ns ih (both c d r) u v h l a b = ih k (suc c) (suc d) q t ms ns r h (omega (arith, falls i e c u)) (omega (arith, falls' j e d v))

    -- at a template's end
    end_alike : (x y p : ℕ) (ms ns : List Place) → Both R x y → Places ms ns → Alike (try_end x p ms) (try_end y p ns)
    end_alike x y p ms ns neither h = idle_alike ms ns h
    end_alike x y p ms ns (both c d r) h = record { found = something [] [] (suc c) (suc d); dead = h; taken = place (suc c) (suc d) p [] [] r no_place; bytes = refl }

    -- the three steps
    byte_alike : (n k i j p : ℕ) (s : Bytes) (ms ns : List Place) → AlikeAt n → R i j → Places ms ns → rank i + length s ≤ n → rank' j + length s ≤ k
        → Alike (try_byte kid (one_way n) i p s ms) (try_byte kid' (other_way k) j p s ns)
    byte_alike n k i j p [] ms ns ih r h a b = end_alike (kid i stop) (kid' j stop) p ms ns (kids i j stop r) h
    byte_alike n k i j p (x ∷ s) ms ns ih r h a b =
        within_alike (with_byte x) _ _ (within_byte x) (child_alike n k i j (kid i (lit x)) (kid' j (lit x)) p (p + 1) (lit x) (x ∷ s) s ms ns ih (kids i j (lit x) r) refl refl h (omega arith) a b)

    piece_alike : (n k i j p : ℕ) (s : Bytes) (ms ns : List Place) → AlikeAt n → R i j → Places ms ns → rank i + length s ≤ n → rank' j + length s ≤ k
        → Alike (try_piece kid (one_way n) i p s ms) (try_piece kid' (other_way k) j p s ns)
    piece_alike n k i j p s ms ns ih r h a b =
        within_alike piece_found _ _ within_piece (child_alike n k i j (kid i hole) (kid' j hole) p p hole s s ms ns ih (kids i j hole r) refl refl h (omega arith) a b)

    -- past an atom
    past_alike : (n k i j p : ℕ) (s : Bytes) (o : Option (Bytes × Bytes)) (ms ns : List Place) → AlikeAt n → atom m s ≡ o → R i j → Places ms ns → rank i + length s ≤ n → rank' j + length s ≤ k
        → Alike (try_past (one_way n i) p o ms) (try_past (other_way k j) p o ns)
    unfolding AlikeAt
    past_alike n k i j p s none ms ns ih e r h a b = idle_alike ms ns h
    past_alike n k i j p s (some (x, t)) ms ns ih e r h a b =
        let o = atom_sound m s x t e in
        let l : length t < length s = omega (arith, ap length o.joined, length-append x t, o.some_byte) in
        within_alike (with_atom x) _ _ (within-atom x) (ih k i j (p + length x) t ms ns r h (omega (arith, l)) (omega (arith, l)))

    atom_alike : (n k i j p : ℕ) (b b' : Bool) (s : Bytes) (ms ns : List Place) → AlikeAt n → b ≡ b' → R i j → Places ms ns → rank i + length s ≤ n → rank' j + length s ≤ k
        → Alike (try_atom m (one_way n i) b p s ms) (try_atom m (other_way k j) b' p s ns)
    atom_alike n k i j p true true s ms ns ih e r h a b = look_alike (bytes_of_look m s) _ _ (past_alike n k i j p s (atom m s) ms ns ih refl r h a b)
    atom_alike n k i j p false false s ms ns ih e r h a b = idle_alike ms ns h
    atom_alike n k i j p true false s ms ns ih e r h a b = let z : ◌≡◌ {A = ℕ} 0 1 = cc in absurd (omega arith)
    atom_alike n k i j p false true s ms ns ih e r h a b = let z : ◌≡◌ {A = ℕ} 0 1 = cc in absurd (omega arith)

    -- the second step and the third
    second_alike : (n k i j p : ℕ) (s : Bytes) (ms ns : List Place) → AlikeAt n → R i j → Places ms ns → rank i + length s ≤ n → rank' j + length s ≤ k
        → Alike (or_try (try_piece kid (one_way n) i p s ms) (λ ms. try_atom m (one_way n i) (holey i) p s ms)) (or_try (try_piece kid' (other_way k) j p s ns) (λ ms. try_atom m (other_way k j) (holey' j) p s ms))
    second_alike n k i j p s ms ns ih r h a b =
        let t = try_piece kid (one_way n) i p s ms in
        let u = try_piece kid' (other_way k) j p s ns in
        let w = piece_alike n k i j p s ms ns ih r h a b in
        or_alike t.found u.found t.dead u.dead t.taken u.taken t.bytes u.bytes (λ ms. try_atom m (one_way n i) (holey i) p s ms) (λ ms. try_atom m (other_way k j) (holey' j) p s ms)
        w.found w.dead w.taken w.bytes (λ xs ys z. atom_alike n k i j p (holey i) (holey' j) s xs ys ih (holes i j r) r z a b)

    -- with any fuel
    alike_all : (n : ℕ) → AlikeAt n
    unfolding AlikeAt try_place
    alike_all zero k i j p s ms ns r h a b = absurd (omega arith)
    alike_all (suc n) zero i j p s ms ns r h a b = absurd (omega arith)
    alike_all (suc n) (suc k) i j p s ms ns r h a b = by (is_in i p ms) (is_in j p ns) (marked_alike i j p ms ns r h) (alike_all n)
      where
        t : Tried
        t = try_byte kid (one_way n) i p s ms

        u : Tried
        u = try_byte kid' (other_way k) j p s ns

        next : List Place → Tried
        next ms = or_try (try_piece kid (one_way n) i p s ms) (λ ms. try_atom m (one_way n i) (holey i) p s ms)

        next' : List Place → Tried
        next' ms = or_try (try_piece kid' (other_way k) j p s ms) (λ ms. try_atom m (other_way k j) (holey' j) p s ms)

        steps : AlikeAt n → Alike (or_try t next) (or_try u next')
        steps ih =
            let w = byte_alike n k i j p s ms ns ih r h (omega arith) (omega arith) in
            or_alike t.found u.found t.dead u.dead t.taken u.taken t.bytes u.bytes next next' w.found w.dead w.taken w.bytes
            (λ xs ys z. second_alike n k i j p s xs ys ih r z (omega arith) (omega arith))

        by : (b b' : Bool) → b ≡ b' → AlikeAt n → Alike (elim b [ true ↦ idle ms | false ↦ take_up (record { node = i; at = p }) (or_try t next) ]) (elim b' [ true ↦ idle ns | false ↦ take_up (record { node = j; at = p }) (or_try u next') ])
        by true true e ih = idle_alike ms ns h
        by true false e ih = let z : ◌≡◌ {A = ℕ} 0 1 = cc in absurd (omega arith)
        by false true e ih = let z : ◌≡◌ {A = ℕ} 0 1 = cc in absurd (omega arith)
        by false false e ih =
            let w = steps ih in
            let x = or_try t next in
            let y = or_try u next' in
            take_alike i j p x.found y.found x.dead y.dead x.taken y.taken x.bytes y.bytes r w.found w.dead w.taken w.bytes

    -- as many places are taken up, as many bytes are read, and the same is found, but for the node
    pub renumbered : (n k i j : ℕ) (s : Bytes) → R i j → rank i + length s < n → rank' j + length s < k
        → (length (one_way n i 0 s []).taken ≡ length (other_way k j 0 s []).taken) × ((one_way n i 0 s []).bytes ≡ (other_way k j 0 s []).bytes)
        × Same (one_way n i 0 s []).found (other_way k j 0 s []).found
    unfolding AlikeAt
    renumbered n k i j s r a b =
        let w = alike_all n k i j 0 s [] [] r no_place a b in
        (as_many (one_way n i 0 s []).taken (other_way k j 0 s []).taken w.taken, w.bytes, w.found)
