-- The nine starts and lengths that a search stores are those of the reading's pieces.
-- The laws: starts_stored, lens_stored, lie_within, few_pieces, stand.
use Rattle.std.proofs.Common.{◌≡◌, ℕ, zero, suc, ◌+◌, ◌-◌, ◌<◌, ◌≤◌, Bool, true, false, eqb, List, [], ◌∷◌, ◌++◌, map, length, get_or, take, drop, set, replicate, sym, refl, ap, ◌∙◌, append_assoc, add-one, arith, length-append, length-set, get_or-set_other, get_or-set_same, drop-drop, drop-set-lt, eq-eqb, ne_eqb}
use lib.ListN.{length-replicate, replicate-append-replicate, get_or-append, length-map}
use lib.Seq.{set_at, take-set-le, take-set-lt, drop-set-add, take-append_seam, drop-append_seam}
use Rattle.model.specs.declared.Marks.{Marks}
use Rattle.model.specs.Text.{Bytes}
use Rattle.model.specs.Reading.{Pieces}
use Rattle.model.specs.Parts.{Elem, lit, hole, stop, ReadingPart, byte, piece, elems, text, elements, pieces}
use Rattle.model.specs.Results.{starts_of, nine}
use Rattle.model.proofs.Chosen.{Tested, alike, apart, tested}
use Rattle.model.proofs.Search.{walk, onward_inv}
use Rattle.nodes.specs.declared.Node.{Node}
use Rattle.nodes.specs.Rows.{kid, holes}
use Rattle.nodes.specs.SideBySide.{SideBySide}
use Rattle.nodes.proofs.Rows.{holes-lit, holes-stop, holes_hole}
use Rattle.nodes.proofs.Templates.{walk_there}
use Rattle.fit.specs.Outcome.{with_pieces, starts_in, lens_in}

-- ---- nine numbers

-- the numbers stored from place k of nine on, the first of them last
unfoldable pub stored : ℕ → List ℕ → List ℕ
stored k [] = replicate 9 0
stored k (v ∷ vs) = set (stored (k + 1) vs) k v

-- there are nine of them
length-stored : (k : ℕ) (vs : List ℕ) → length (stored k vs) ≡ 9
unfolding stored
length-stored k [] = refl
length-stored k (v ∷ vs) = length-set (stored (k + 1) vs) k v ∙ length-stored (k + 1) vs

-- n zeros
abbrev zeros : ℕ → List ℕ
zeros n = replicate n 0

-- numbers stored from place k on stand there, and there are zeros before and after them
stored_at : (vs : List ℕ) (k : ℕ) → k + length vs ≤ 9 → stored k vs ≡ zeros k ++ (vs ++ zeros (9 - (k + length vs)))
unfolding stored
stored_at [] k h =
    let z : k + (9 - (k + 0)) ≡ 9 = omega arith in
    sym (replicate-append-replicate k (9 - (k + 0)) 0 ∙ ap zeros z)
stored_at (v ∷ vs) k h =
    let z : 9 - (k + 1 + length vs) ≡ 9 - (k + suc (length vs)) = omega arith in
    let rest = vs ++ zeros (9 - (k + suc (length vs))) in
    let e : zeros (k + 1) ++ rest ≡ zeros k ++ 0 ∷ rest = ap (λ (l : List ℕ). l ++ rest) (sym (replicate-append-replicate k 1 0)) ∙ append_assoc (zeros k) (0 ∷ []) rest in
    ap (λ (l : List ℕ). set l k v) (stored_at vs (k + 1) (omega arith) ∙ ap (λ (n : ℕ). zeros (k + 1) ++ (vs ++ zeros n)) z ∙ e)
    ∙ set_at (zeros k) 0 rest v k (length-replicate k 0)

-- numbers stored from the first place on are followed by zeros
stored-nine : (vs : List ℕ) → length vs ≤ 9 → stored 0 vs ≡ nine vs
unfolding nine
stored-nine vs h =
    let z : 0 + length vs ≡ length vs = omega arith in
    stored_at vs 0 (omega arith) ∙ rw z refl

-- the numbers themselves
nine_at : (vs : List ℕ) (i : ℕ) → i < length vs → get_or (nine vs) i 0 ≡ get_or vs i 0
unfolding nine
nine_at vs i h = get_or-append vs (zeros (9 - length vs)) 0 i h

-- zeros and what is past them
pub zero_at : (n i : ℕ) → get_or (zeros n) i 0 ≡ 0
zero_at zero i = refl
zero_at (suc n) zero = refl
zero_at (suc n) (suc i) = zero_at n i

-- ---- in the lent bytes

-- the front nine hold the starts, if there are as many lengths
starts_stored : (ss ls : List ℕ) (k : ℕ) → length ss ≡ length ls → k + length ss ≤ 9 → take 9 (with_pieces k ss ls (zeros 18)) ≡ stored k ss
unfolding with_pieces stored
starts_stored [] ls k e h = refl
starts_stored (s ∷ ss) [] k e h = absurd (omega arith)
starts_stored (s ∷ ss) (l ∷ ls) k e h =
    let w = with_pieces (k + 1) ss ls (zeros 18) in
    take-set-le 9 (set w k s) (k + 9) l (omega arith) ∙ take-set-lt 9 w k s (omega arith) ∙ ap (λ (x : List ℕ). set x k s) (starts_stored ss ls (k + 1) (omega arith) (omega arith))

-- the others the lengths
lens_stored : (ss ls : List ℕ) (k : ℕ) → length ss ≡ length ls → k + length ss ≤ 9 → drop 9 (with_pieces k ss ls (zeros 18)) ≡ stored k ls
unfolding with_pieces stored
lens_stored [] [] k e h = refl
lens_stored [] (l ∷ ls) k e h = absurd (omega arith)
lens_stored (s ∷ ss) [] k e h = absurd (omega arith)
lens_stored (s ∷ ss) (l ∷ ls) k e h =
    let w = with_pieces (k + 1) ss ls (zeros 18) in
    let z : k + 9 ≡ 9 + k = omega arith in
    ap (λ (i : ℕ). drop 9 (set (set w k s) i l)) z ∙ drop-set-add 9 (set w k s) k l ∙ ap (λ (x : List ℕ). set x k l) (drop-set-lt 9 w k s (omega arith) ∙ lens_stored ss ls (k + 1) (omega arith) (omega arith))

-- ---- where pieces start and end

-- there is a start for each piece
length_starts : (r : List ReadingPart) (at : ℕ) → length (starts_in at r) ≡ length (pieces r)
unfolding starts_in
length_starts [] at = refl
length_starts (byte b ∷ r) at = length_starts r (at + 1)
length_starts (piece p ∷ r) at = ap suc (length_starts r (at + length p))

-- a piece ends where the reading ends, or before
lie_below : (r : List ReadingPart) (k at i : ℕ) → k + length (pieces r) ≤ 9 → get_or (stored k (starts_in at r)) i 0 + get_or (stored k (lens_in r)) i 0 ≤ at + length (text r)
unfolding stored starts_in
lie_below [] k at i h = omega (arith, zero_at 9 i)
lie_below (byte b ∷ r) k at i h = omega (arith, lie_below r k (at + 1) i h)
lie_below (piece p ∷ r) k at i h = by (eqb i k) (tested i k) (lie_below r (k + 1) (at + length p) i (omega arith))
  where
    ss : List ℕ
    ss = stored (k + 1) (starts_in (at + length p) r)

    ls : List ℕ
    ls = stored (k + 1) (lens_in r)

    by : (t : Bool) → Tested i k t → get_or ss i 0 + get_or ls i 0 ≤ at + length p + length (text r) → get_or (set ss k at) i 0 + get_or (set ls k (length p)) i 0 ≤ at + length (p ++ text r)
    by true (alike e) ih = rw e (omega (
      arith,
      get_or-set_same ss k at 0 (omega (arith, length-stored (k + 1) (starts_in (at + length p) r))),
      get_or-set_same ls k (length p) 0 (omega (arith, length-stored (k + 1) (lens_in r))),
      length-append p (text r),
    ))
    by false (apart e) ih = omega (arith, get_or-set_other ss k i at 0 e, get_or-set_other ls k i (length p) 0 e, length-append p (text r))

-- and so within the line, of which the rest q of an open piece and the reading are all
pub lie_within : (line q : Bytes) (r : List ReadingPart) (k : ℕ) (ps : List ℕ) → ps ≡ with_pieces k (starts_in (0 + length q) r) (lens_in r) (zeros 18) → k + length (pieces r) ≤ 9
    → q ++ text r ≡ line → (i : ℕ) → get_or (take 9 ps) i 0 + get_or (drop 9 ps) i 0 ≤ length line
lie_within line q r k ps e few x i =
    let n : length (starts_in (0 + length q) r) ≡ length (lens_in r) = length_starts r (0 + length q) ∙ sym (length-map (pieces r) (λ p. length p)) in
    let m : k + length (starts_in (0 + length q) r) ≤ 9 = omega (arith, few, length_starts r (0 + length q)) in
    rw (e, starts_stored (starts_in (0 + length q) r) (lens_in r) k n m, lens_stored (starts_in (0 + length q) r) (lens_in r) k n m)
    (omega (arith, lie_below r k (0 + length q) i few, ap length x, length-append q (text r)))

-- the pieces stand in the line at their starts, at their lengths
piece-at : (line : Bytes) (r : List ReadingPart) (at i : ℕ) → text r ≡ drop at line → i < length (pieces r)
    → get_or (pieces r) i [] ≡ take (get_or (lens_in r) i 0) (drop (get_or (starts_in at r) i 0) line)
unfolding starts_in
piece-at line [] at i e lt = absurd (omega arith)
piece-at line (byte b ∷ r) at i e lt = piece-at line r (at + 1) i (ap (drop 1) e ∙ drop-drop 1 at line) lt
piece-at line (piece p ∷ r) at zero e lt = rw (← e) (sym (take-append_seam p (text r)))
piece-at line (piece p ∷ r) at (suc i) e lt =
    piece-at line r (at + length p) i (sym (drop-append_seam p (text r)) ∙ ap (drop (length p)) e ∙ drop-drop (length p) at line) (omega arith)

module _ (m : Marks) where
  -- past a literal and past a placeholder
  past_lit : (at b : ℕ) (t : Bytes) (ps : Pieces) → ¬ (b ≡ m.placeholder) → starts_of m at (b ∷ t) ps ≡ starts_of m (at + 1) t ps
  unfolding starts_of
  past_lit at b t [] n = refl
  past_lit at b t (p ∷ ps) n = rw (ne_eqb b m.placeholder n, add-one, starts_of) refl

  past_hole : (at b : ℕ) (t p : Bytes) (ps : Pieces) → b ≡ m.placeholder → starts_of m at (b ∷ t) (p ∷ ps) ≡ at ∷ starts_of m (at + length p) t ps
  unfolding starts_of
  past_hole at b t p ps e = rw (eq-eqb b m.placeholder e, starts_of) refl

  -- the starts of the pieces of a template's reading
  starts-of : (r : List ReadingPart) (t : Bytes) (at : ℕ) → elements r ≡ elems m t → starts_in at r ≡ starts_of m at t (pieces r)
  unfolding starts_in starts_of elems
  starts-of [] t at e = refl
  starts-of (byte b ∷ r) [] at e = let z : ◌≡◌ {A = ℕ} 0 1 = cc in absurd (omega arith)
  starts-of (piece p ∷ r) [] at e = let z : ◌≡◌ {A = ℕ} 0 1 = cc in absurd (omega arith)
  starts-of (byte b ∷ r) (c ∷ t) at e = by (eqb c m.placeholder) (tested c m.placeholder) (starts-of r t (at + 1)) e
    where
      by : (k : Bool) → Tested c m.placeholder k → (elements r ≡ elems m t → starts_in (at + 1) r ≡ starts_of m (at + 1) t (pieces r))
          → lit b ∷ elements r ≡ (elim k as (λ k. List Elem) [ true ↦ hole ∷ elems m t | false ↦ lit c ∷ elems m t ]) → starts_in (at + 1) r ≡ starts_of m at (c ∷ t) (pieces r)
      by true (alike a) ih h = let z : ◌≡◌ {A = ℕ} 0 1 = cc in absurd (omega arith)
      by false (apart a) ih h = ih (cc) ∙ sym (past_lit at c t (pieces r) a)
  starts-of (piece p ∷ r) (c ∷ t) at e = by (eqb c m.placeholder) (tested c m.placeholder) (starts-of r t (at + length p)) e
    where
      by : (k : Bool) → Tested c m.placeholder k → (elements r ≡ elems m t → starts_in (at + length p) r ≡ starts_of m (at + length p) t (pieces r))
          → hole ∷ elements r ≡ (elim k as (λ k. List Elem) [ true ↦ hole ∷ elems m t | false ↦ lit c ∷ elems m t ]) → at ∷ starts_in (at + length p) r ≡ starts_of m at (c ∷ t) (p ∷ pieces r)
      by true (alike a) ih h = ap (λ (l : List ℕ). at ∷ l) (ih (cc)) ∙ sym (past_hole at c t p (pieces r) a)
      by false (apart a) ih h = let z : ◌≡◌ {A = ℕ} 0 1 = cc in absurd (omega arith)

-- ---- how many pieces

module _ {marks : Marks} {templates : List Bytes} {rows : List Node} (tree : SideBySide marks templates rows) where
  -- a node has as many placeholders as the reading that leads there has pieces
  holes-pieces : (r : List ReadingPart) (i j : ℕ) → walk (kid rows) i (elements r) ≡ suc j → holes rows (suc j) ≡ holes rows i + length (pieces r)
  holes-pieces [] i j w =
      let (c, x, y) = onward_inv (λ k. k) (kid rows i stop) j w in
      ap (holes rows) (sym y) ∙ holes-stop tree i c x ∙ omega arith
  holes-pieces (byte b ∷ r) i j w =
      let (c, x, y) = onward_inv (λ k. walk (kid rows) k (elements r)) (kid rows i (lit b)) j w in
      holes-pieces r (suc c) j y ∙ ap (λ (n : ℕ). n + length (pieces r)) (holes-lit tree i b c x)
  holes-pieces (piece p ∷ r) i j w =
      let (c, x, y) = onward_inv (λ k. walk (kid rows) k (elements r)) (kid rows i hole) j w in
      omega (arith, holes-pieces r (suc c) j y, holes_hole tree i c x)

  -- so there are nine at most
  pub few_pieces : (r : List ReadingPart) (i j : ℕ) → i < length rows → walk (kid rows) i (elements r) ≡ suc j → holes rows i + length (pieces r) ≤ 9
  few_pieces r i j lt w = omega (arith, holes-pieces r i j w, (tree.says (suc j) (walk_there tree (elements r) i j lt w)).nine)

-- ---- all of it

-- ss and ls are where the pieces ps of a reading by the template t start, and how long they are
abbrev pub Stand : Marks → Bytes → Bytes → List ℕ → List ℕ → Pieces → Type 0
Stand m t line ss ls ps = (ss ≡ nine (starts_of m 0 t ps)) × (ls ≡ nine (map (λ p. length p) ps)) × (length ps ≤ 9)
    × ((i : ℕ) → i < length ps → get_or ps i [] ≡ take (get_or ls i 0) (drop (get_or ss i 0) line))

-- the stored starts and lengths are those of the reading
pub stand : (m : Marks) (t line : Bytes) (r : List ReadingPart) (ps : List ℕ) → elements r ≡ elems m t → text r ≡ line → length (pieces r) ≤ 9
    → ps ≡ with_pieces 0 (starts_in 0 r) (lens_in r) (zeros 18) → Stand m t line (take 9 ps) (drop 9 ps) (pieces r)
stand m t line r ps e x few s =
    let n : length (starts_in 0 r) ≡ length (lens_in r) = length_starts r 0 ∙ sym (length-map (pieces r) (λ p. length p)) in
    let k : 0 + length (starts_in 0 r) ≤ 9 = omega (arith, few, length_starts r 0) in
    let a : take 9 ps ≡ nine (starts_in 0 r) = ap (take 9) s ∙ starts_stored (starts_in 0 r) (lens_in r) 0 n k ∙ stored-nine (starts_in 0 r) (omega (arith, length_starts r 0)) in
    let b : drop 9 ps ≡ nine (lens_in r) = ap (drop 9) s ∙ lens_stored (starts_in 0 r) (lens_in r) 0 n k ∙ stored-nine (lens_in r) (omega (arith, length-map (pieces r) (λ p. length p))) in (
      a ∙ ap nine (starts-of m r t 0 e),
      b,
      few,
      λ i lt. piece-at line r 0 i x lt ∙ rw (a, b, nine_at (starts_in 0 r) i (omega (arith, length_starts r 0)), nine_at (lens_in r) i (omega (arith, length-map (pieces r) (λ p. length p)))) refl,
    )
