-- The laws of depth_past, and of the loop of scan_atom; and that atoms go by the brackets alone.
use mathlib.Core.Path.{◌≡◌, refl, sym, ◌∙◌, ap}
use mathlib.Core.Bool.{Bool, true, false, ◌&&◌}
use mathlib.Core.List.{[], ◌∷◌, ◌++◌}
use mathlib.Core.Option.{Option, none, some}
use Prim.Native.Nat.{ℕ, zero, suc, ◌+◌, ◌-◌, ◌≤◌, ◌<◌}
use native.Mathlib.Numerals.{add-one}
use native.Mathlib.Omega.{arith}
use lib.Dec.{eqb}
use lib.ListN.{length, get_or, drop, drop_of_length-le, length-take, length-drop}
use lib.Seq.{drop-cons}
use borrow.Author.Tests.{eq-eqb, ne_eqb}
use Rattle.std.specs.Prelude.{Some, None}
use Rattle.std.proofs.lemmas.Option.{IfSome_then}
use Rattle.model.specs.declared.Marks.{Marks}
use Rattle.model.specs.Text.{Bytes, part}
use Rattle.model.specs.Reading.{group, atom}
use Rattle.model.specs.Places.{bytes_of_look}
use Rattle.model.proofs.Text.{part-more}
use Rattle.model.proofs.Chosen.{Tested, alike, apart, tested}
use Rattle.model.proofs.Atoms.{after, after-after, group_left, group_right, group_other, group_last, atom_right, atom_left, atom_other}
use Rattle.model.proofs.Looks.{look-end, look-atom, look_right, look_open}
use Rattle.atom.specs.declared.Scanned.{Scanned}
use Rattle.atom.specs.Atoms.{brackets, depth_past, AtomAt}

module _ (m : Marks) where
  -- ---- depth_past

  -- a left bracket opens one, a right one closes one, any other byte leaves the count
  pub past_left : (b d : ℕ) → b ≡ m.left → depth_past m b d ≡ d + 1
  unfolding depth_past
  past_left b d e = rw (eq-eqb b m.left e, add-one, depth_past) refl

  pub past_right : (b d : ℕ) → ¬ (b ≡ m.left) → b ≡ m.right → depth_past m b d ≡ d - 1
  unfolding depth_past
  past_right b d l e = rw (ne_eqb b m.left l, eq-eqb b m.right e, depth_past) refl

  pub past_other : (b d : ℕ) → ¬ (b ≡ m.left) → ¬ (b ≡ m.right) → depth_past m b d ≡ d
  unfolding depth_past
  past_other b d l r = rw (ne_eqb b m.left l, ne_eqb b m.right r, depth_past) refl

  -- ---- the loop of scan_atom

  -- what is found where d brackets are open and p was passed since the first of them
  abbrev closing : ℕ → Bytes → Bytes → Option (Bytes × Bytes)
  closing zero p s = some (p, s)
  closing (suc d) p s = after p (group m d s)

  -- one byte on
  closing-step : (d b : ℕ) (p s : Bytes) → ¬ (m.left ≡ m.right) → closing (suc d) p (b ∷ s) ≡ closing (depth_past m b (suc d)) (p ++ b ∷ []) s
  closing-step d b p s n = by (eqb b m.left) (eqb b m.right) (tested b m.left) (tested b m.right) d
    where
      by : (l r : Bool) → Tested b m.left l → Tested b m.right r → (d : ℕ) → closing (suc d) p (b ∷ s) ≡ closing (depth_past m b (suc d)) (p ++ b ∷ []) s
      by true r (alike l) t d =
          let z : depth_past m b (suc d) ≡ suc (suc d) = omega (arith, past_left b (suc d) l) in
          rw z (ap (after p) (group_left m d b s l (λ e. n (sym l ∙ e))) ∙ after-after p (b ∷ []) (group m (suc d) s))
      by false true (apart l) (alike r) zero =
          let z : depth_past m b 1 ≡ 0 = omega (arith, past_right b 1 l r) in
          rw z (ap (after p) (group_last m b s r))
      by false true (apart l) (alike r) (suc d) =
          let z : depth_past m b (suc (suc d)) ≡ suc d = omega (arith, past_right b (suc (suc d)) l r) in
          rw z (ap (after p) (group_right m d b s l r) ∙ after-after p (b ∷ []) (group m d s))
      by false false (apart l) (apart r) d =
          rw (past_other b (suc d) l r) (ap (after p) (group_other m d b s l r) ∙ after-after p (b ∷ []) (group m d s))

  -- a byte opens one bracket at most
  past_most : (b d : ℕ) → depth_past m b d ≤ d + 1
  past_most b d = by (eqb b m.left) (eqb b m.right) (tested b m.left) (tested b m.right)
    where
      by : (l r : Bool) → Tested b m.left l → Tested b m.right r → depth_past m b d ≤ d + 1
      by true r (alike l) t = omega (arith, past_left b d l)
      by false true (apart l) (alike r) = omega (arith, past_right b d l r)
      by false false (apart l) (apart r) = omega (arith, past_other b d l r)

  -- at the end of the line, none that is open closes
  open_end : (d : ℕ) (p : Bytes) → ¬ (d ≡ 0) → closing d p [] ≡ none
  unfolding group
  open_end zero p f = absurd (f refl)
  open_end (suc d) p f = refl

-- nothing is found
nothing : (m : Marks) (line : Bytes) (at n : ℕ) → atom m (drop at line) ≡ none → n ≡ bytes_of_look m (drop at line) → AtomAt m line at (record { end = None; read = n })
nothing m line at n e r = record { nowhere = λ _. e; found = tt; read = r }

-- an atom is found, and its bytes are read
something : (m : Marks) (line : Bytes) (at e n : ℕ) → at < e → e ≤ length line → n ≡ e - at → atom m (drop at line) ≡ some (part line at e, drop e line) → AtomAt m line at (record { end = Some e; read = n })
something m line at e n lt le r f = record {
  nowhere = λ z. cc;
  found = record { is = f; ahead = lt; within = le };
  read = r ∙ sym (look-atom m (drop at line) (part line at e) (drop e line) f ∙ simp (length-take, length-drop) (omega arith));
}

module _ (m : Marks) (line : Bytes) (at : ℕ) where
  -- the line from `at` on has its first byte
  first : at < length line → drop at line ≡ get_or line at 0 ∷ drop (at + 1) line
  first lt = rw add-one (drop-cons line at 0 lt)

  -- past the end of the line there is none
  pub none_past_end : length line ≤ at → AtomAt m line at (record { end = None; read = 0 })
  unfolding atom
  none_past_end le =
      let e : drop at line ≡ [] = drop_of_length-le line le in
      nothing m line at 0 (ap (atom m) e) (sym (ap (bytes_of_look m) e ∙ look-end m))

  -- nor at a right bracket, which is read
  pub none_at_right : at < length line → get_or line at 0 ≡ m.right → AtomAt m line at (record { end = None; read = 1 })
  none_at_right lt e =
      nothing m line at 1 (ap (atom m) (first lt) ∙ atom_right m (get_or line at 0) (drop (at + 1) line) e)
      (sym (ap (bytes_of_look m) (first lt) ∙ look_right m (get_or line at 0) (drop (at + 1) line) e))

  -- a byte that is no bracket
  pub one_byte : at < length line → ¬ (get_or line at 0 ≡ m.right) → ¬ (get_or line at 0 ≡ m.left) → AtomAt m line at (record { end = Some (at + 1); read = 1 })
  one_byte lt r l =
      let z : at + 1 - at ≡ 1 = omega arith in
      something m line at (at + 1) 1 (omega arith) (omega arith) (sym z)
      (rw (z, drop-cons line at 0 lt, add-one) (atom_other m (get_or line at 0) (drop (suc at) line) l r))

  -- the loop's place: d brackets are open at place i
  pub record Scan (i d : ℕ) : Type 0 where
    pub low : at < i
    pub high : i ≤ length line
    pub few : d ≤ i
    pub differ : ¬ (m.left ≡ m.right)
    pub starts : ¬ (get_or line at 0 ≡ m.right)
    pub same : atom m (drop at line) ≡ closing m d (part line at i) (drop i line)

  -- past the left bracket, one is open
  pub scan_start : at < length line → ¬ (get_or line at 0 ≡ m.right) → get_or line at 0 ≡ m.left → Scan (at + 1) 1
  scan_start lt r l =
      let z : at + 1 - at ≡ 1 = omega arith in
      record {
        low = omega arith;
        high = omega arith;
        few = omega arith;
        differ = λ e. r (l ∙ e);
        starts = r;
        same = rw (z, drop-cons line at 0 lt, add-one) (atom_left m (get_or line at 0) (drop (suc at) line) l r);
      }

  -- one byte on
  pub scan_step : (i d n : ℕ) → n ≡ depth_past m (get_or line i 0) d → i < length line → ¬ (d ≡ 0) → Scan i d → Scan (i + 1) n
  scan_step i zero n e lt f h = absurd (f refl)
  scan_step i (suc d) n e lt f h = record {
    low = omega arith;
    high = omega arith;
    few = rw e (omega (arith, past_most m (get_or line i 0) (suc d)));
    differ = h.differ;
    starts = h.starts;
    same = h.same ∙ ap (closing m (suc d) (part line at i)) (drop-cons line i 0 lt)
        ∙ closing-step m d (get_or line i 0) (part line at i) (drop (suc i) line) h.differ
        ∙ rw (e, part-more line at i (omega arith) lt, add-one) refl;
  }

  -- at the end of the line with a bracket open, there is no atom, and all that is left was read
  pub scan_end : (i d : ℕ) → length line ≤ i → 0 < d → Scan i d → AtomAt m line at (record { end = None; read = length line - at })
  scan_end i d e f h =
      let none-there = h.same ∙ ap (closing m d (part line at i)) (drop_of_length-le line {i = i} (omega arith)) ∙ open_end m d (part line at i) (λ z. omega (arith, z)) in
      nothing m line at (length line - at) none-there
      (sym (ap (bytes_of_look m) (first lt) ∙ look_open m (get_or line at 0) (drop (at + 1) line) h.starts (sym (ap (atom m) (first lt)) ∙ none-there)
      ∙ sym (ap length (first lt)) ∙ length-drop at line))
    where
      lt : at < length line
      lt = omega (arith, h.low, h.high)

  -- with none open, the atom ends
  pub scan_closed : (i d : ℕ) → d ≡ 0 → Scan i d → AtomAt m line at (record { end = Some i; read = i - at })
  scan_closed i d e h = something m line at i (i - at) h.low h.high refl (h.same ∙ ap (λ (k : ℕ). closing m k (part line at i) (drop i line)) e)

-- ---- the brackets alone

module _ (m : Marks) where
  group-brackets : (s : Bytes) (d : ℕ) → group (brackets m.left m.right) d s ≡ group m d s
  unfolding group
  group-brackets [] d = refl
  group-brackets (b ∷ s) d =
      let d' : ℕ = elim (eqb b m.left) as (λ b. ℕ) [ true ↦ suc d | false ↦ elim (eqb b m.right) as (λ b. ℕ) [ true ↦ d - 1 | false ↦ d ] ] in
      ap (λ (o : Option (Bytes × Bytes)). elim (eqb b m.right && eqb d 0) as (λ b. Option (Bytes × Bytes)) [ true ↦ some (b ∷ [], s) | false ↦ after (b ∷ []) o ]) (group-brackets s d')

  pub atom-brackets : (s : Bytes) → atom (brackets m.left m.right) s ≡ atom m s
  unfolding atom
  atom-brackets [] = refl
  atom-brackets (b ∷ s) =
      ap (λ (o : Option (Bytes × Bytes)). elim (eqb b m.right) as (λ b. Option (Bytes × Bytes)) [ true ↦ none | false ↦ elim (eqb b m.left) as (λ b. Option (Bytes × Bytes)) [ true ↦ after (b ∷ []) o | false ↦ some (b ∷ [], s) ] ])
      (group-brackets s 0)

  -- and so the bytes of a look
  pub look-brackets : (s : Bytes) → bytes_of_look (brackets m.left m.right) s ≡ bytes_of_look m s
  unfolding bytes_of_look
  look-brackets [] = refl
  look-brackets (b ∷ s) =
      ap (λ (o : Option (Bytes × Bytes)). elim o as (λ _. ℕ) [ some r ↦ length r.0 | none ↦ elim (eqb b m.right) as (λ _. ℕ) [ true ↦ 1 | false ↦ length (b ∷ s) ] ]) (atom-brackets (b ∷ s))

  -- what is found by them is found by the marks
  pub atom_by_brackets : {line : Bytes} {at : ℕ} {r : Scanned} → AtomAt (brackets m.left m.right) line at r → AtomAt m line at r
  atom_by_brackets {line} {at} {r} a = record {
    nowhere = λ z. sym (atom-brackets (drop at line)) ∙ a.nowhere z;
    found = IfSome_then r.end a.found (λ e f. record { is = sym (atom-brackets (drop at line)) ∙ f.is; ahead = f.ahead; within = f.within });
    read = a.read ∙ look-brackets (drop at line);
  }
