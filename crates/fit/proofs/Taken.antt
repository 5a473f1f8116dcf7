-- A place taken up by its three steps in turn, and the search of a place: dead places are passed over, and places that lead nowhere become dead.
use Rattle.std.proofs.Common.{◌≡◌, ℕ, zero, suc, ◌+◌, ◌*◌, ◌^◌, ◌<◌, ◌≤◌, Bool, true, false, ◌&&◌, eqb, List, [], ◌∷◌, length, take, drop, sym, refl, ap, subst, ◌∙◌, mul-le-mul_right, suc-mul, mul-le-mul, mul-le-mul_left, arith, length-append}
use Rattle.std.specs.Prelude.{Option as Answered, Some, None, IsSome, IsNone}
use mathlib.Core.Option.{Option, none, some}
use Rattle.model.specs.Limits.{line_most, nodes_most}
use Rattle.model.specs.declared.Marks.{Marks}
use Rattle.model.specs.Text.{Bytes}
use Rattle.model.specs.Parts.{Elem}
use Rattle.model.specs.Places.{Found, Place, is_in, Tried, idle, or_try, take_up, try_atom, try_byte, try_piece, try_place}
use Rattle.model.proofs.Chosen.{Tested, alike, apart, tested}
use Rattle.model.proofs.Once.{number-apart}
use Rattle.nodes.specs.declared.Node.{Node}
use Rattle.nodes.specs.Rows.{kid, holey, holes}
use Rattle.nodes.specs.SideBySide.{Stands}
use Rattle.nodes.proofs.Rows.{front_long, front_root}
use Rattle.places.specs.Bits.{bit, AddsBit, ClearsBits}
use Rattle.fit.specs.declared.Notes.{Notes}
use Rattle.fit.specs.Chosen.{Fits}
use Rattle.fit.specs.Outcome.{Counted, Counts, Told, Says, HoldsDead, Outcomes, size_in, place_tried, byte_step, piece_step, atom_step, later_step, all_steps}
use Rattle.fit.specs.Outcome.{Asks, SearchedIn, ByteSearched, PieceSearched, AtomSearched, TakenUp}
use Rattle.fit.proofs.Steps.{some_none, none_some, none_is, some_is, told_stay, told_counted, counted-more, idle_comes}

-- ---- one step after the other

-- the first step leads on
said_first : (k at c w : ℕ) (dead : Bytes) (ns ns' : Notes) (a : Tried) (next : List Place → Tried) (o : Answered ℕ) → IsSome o → Says k at a o ns ns' × HoldsDead c w dead a.dead
    → Says k at (or_try a next) o ns ns' × HoldsDead c w dead (or_try a next).dead
said_first k at c w dead ns ns' a next o z (s, h) = by a.found a.dead a.taken a.bytes s h
  where
    by : (f : Option Found) (ds ts : List Place) (b : ℕ) → Says k at (record { found = f; dead = ds; taken = ts; bytes = b }) o ns ns' → HoldsDead c w dead ds
        → Says k at (or_try (record { found = f; dead = ds; taken = ts; bytes = b }) next) o ns ns' × HoldsDead c w dead (or_try (record { found = f; dead = ds; taken = ts; bytes = b }) next).dead
    by none ds ts b s h = absurd (some_none z s.told.0)
    by (some f) ds ts b s h = (s, h)

-- it doesn't, and the next may
said_next : (k at c w : ℕ) (dead : Bytes) (ns ns1 ns2 : Notes) (a : Tried) (next : List Place → Tried) (o u : Answered ℕ) → IsNone o → Says k at a o ns ns1
    → Says k at (next a.dead) u ns1 ns2 × HoldsDead c w dead (next a.dead).dead
    → Says k at (or_try a next) u ns ns2 × HoldsDead c w dead (or_try a next).dead
said_next k at c w dead ns ns1 ns2 a next o u z s (t, h) = by a.found a.dead a.taken a.bytes s t h
  where
    by : (f : Option Found) (ds ts : List Place) (b : ℕ) → Says k at (record { found = f; dead = ds; taken = ts; bytes = b }) o ns ns1 → Says k at (next ds) u ns1 ns2 → HoldsDead c w dead (next ds).dead
        → Says k at (or_try (record { found = f; dead = ds; taken = ts; bytes = b }) next) u ns ns2 × HoldsDead c w dead (or_try (record { found = f; dead = ds; taken = ts; bytes = b }) next).dead
    by none ds ts b s t h = (
      record {
        told = told_stay k at (next ds).found u ns ns1 ns2 s.told.1 t.told;
        counted = counted-more _ _ (length-append ts (next ds).taken) refl s.counted t.counted;
      },
      h,
    )
    by (some f) ds ts b s t h = absurd (none_some z s.told.0)

module _ {m : Marks} {row : List Node} {dead dead1 : Bytes} {notes notes1 : Notes} {line : Bytes} {node at : ℕ} {b : Answered ℕ} (h : ByteSearched m row line node at dead dead1 notes notes1 b) where
  -- the byte leads on
  pub first_found : {j : ℕ} → b ≡ Some j → TakenUp m row line node at dead dead1 notes notes1 (Some j)
  first_found q = subst (λ (b : Answered ℕ). TakenUp m row line node at dead dead1 notes notes1 b) q (record {
    comes = record {
      each = λ made s lt.
          let x = h.comes.each made s lt in
          record {
            says = λ n l ds k.
                said_first (holes (take made row) node) at _ _ dead1 notes notes1 (byte_step m (take made row) line node at n ds) (later_step m (take made row) line node at n) b (some_is q) (x.says n l ds k);
            short = x.short;
            there = x.there;
          };
    };
  })

  module _ (z : b ≡ None) {dead2 : Bytes} {notes2 : Notes} {p : Answered ℕ} (i : PieceSearched m row line node at dead1 dead2 notes1 notes2 p) where
    -- it doesn't, and the placeholder does
    pub second_found : {j : ℕ} → p ≡ Some j → TakenUp m row line node at dead dead2 notes notes2 (Some j)
    second_found w = subst (λ (p : Answered ℕ). TakenUp m row line node at dead dead2 notes notes2 p) w (record {
      comes = record {
        each = λ made s lt.
            let x = h.comes.each made s lt in
            let y = i.comes.each made s lt in
            record {
              says = λ n l ds k.
                  let (u, v) = x.says n l ds k in
                  let first = byte_step m (take made row) line node at n ds in
                  said_next (holes (take made row) node) at _ _ dead2 notes notes1 notes2 first (later_step m (take made row) line node at n) b p (none_is z) u
                  (said_first (holes (take made row) node) at _ _ dead2 notes1 notes2 (piece_step m (take made row) line node at n first.dead) (atom_step m (take made row) line node at n) p (some_is w)
                  (y.says n l first.dead v));
              short = y.short;
              there = y.there;
            };
      };
    })

    -- neither does, and the atom may
    pub third_found : p ≡ None → {dead3 : Bytes} {notes3 : Notes} {o : Answered ℕ} → AtomSearched m row line node at dead2 dead3 notes2 notes3 o → TakenUp m row line node at dead dead3 notes notes3 o
    third_found w {dead3} {notes3} {o} j = record {
      comes = record {
        each = λ made s lt.
            let x = h.comes.each made s lt in
            let y = i.comes.each made s lt in
            let v = j.comes.each made s lt in
            record {
              says = λ n l ds k.
                  let first = byte_step m (take made row) line node at n ds in
                  let second = piece_step m (take made row) line node at n first.dead in
                  let (s1, k1) = x.says n l ds k in
                  let (s2, k2) = y.says n l first.dead k1 in
                  said_next (holes (take made row) node) at _ _ dead3 notes notes1 notes3 first (later_step m (take made row) line node at n) b o (none_is z) s1
                  (said_next (holes (take made row) node) at _ _ dead3 notes1 notes2 notes3 second (atom_step m (take made row) line node at n) p o (none_is w) s2 (v.says n l second.dead k2));
              short = v.short;
              there = v.there;
            };
      };
    }

-- ---- dead places in the row

-- the row with a place more
holds_more : (c w : ℕ) (dead dead' : Bytes) (ds : List Place) (node at x : ℕ) → at < w → x ≡ node * w + at → AddsBit dead dead' x → HoldsDead c w dead ds
    → HoldsDead c w dead' (record { node = node; at = at } ∷ ds)
unfolding is_in
holds_more c w dead dead' ds node at x la e k h i p li lp = by (eqb node i) (eqb at p) (tested node i) (tested at p)
  where
    old : ¬ ((node ≡ i) × (at ≡ p)) → bit dead' (i * w + p) ≡ is_in i p ds
    old n = k.other (i * w + p) (λ z. n (let (a, b) = number-apart w node at i p la lp (sym e ∙ sym z) in (a, b))) ∙ h i p li lp

    by : (a b : Bool) → Tested node i a → Tested at p b → bit dead' (i * w + p) ≡ (elim (a && b) [ true ↦ true | false ↦ is_in i p ds ])
    by true true (alike u) (alike v) = ap (bit dead') (sym (e ∙ ap (λ (j : ℕ). j * w + at) u ∙ ap (λ (q : ℕ). i * w + q) v)) ∙ k.here
    by true false (alike u) (apart v) = old (λ z. v z.1)
    by false b (apart u) w = old (λ z. u z.0)

-- ---- the search

-- an unmarked place is taken up
place_taken : (m : Marks) (kid : ℕ → Elem → ℕ) (holey : ℕ → Bool) (n i p : ℕ) (s : Bytes) (ds : List Place) → is_in i p ds ≡ false
    → try_place m kid holey (suc n) i p s ds ≡ take_up (record { node = i; at = p }) (or_try (try_byte kid (try_place m kid holey n) i p s ds)
    (λ ds. or_try (try_piece kid (try_place m kid holey n) i p s ds) (λ ds. try_atom m (try_place m kid holey n i) (holey i) p s ds)))
unfolding try_place
place_taken m kid holey n i p s ds e = rw (e, try_place) refl

-- a dead one isn't
place-passed : (m : Marks) (kid : ℕ → Elem → ℕ) (holey : ℕ → Bool) (n i p : ℕ) (s : Bytes) (ds : List Place) → is_in i p ds ≡ true → try_place m kid holey n i p s ds ≡ idle ds
unfolding try_place
place-passed m kid holey zero i p s ds e = refl
place-passed m kid holey (suc n) i p s ds e = rw (e, try_place) refl

-- the place and what its steps count
place-counted : {ns ns1 ns2 : Notes} {k at : ℕ} {t : Tried} {o : Answered ℕ} → Counts 1 0 ns ns1 → Says k at t o ns1 ns2 → Counted (suc (length t.taken)) t.bytes ns ns2
place-counted q s = counted-more _ _ (omega arith) (omega arith) q.counted s.counted

-- and what they find
place_told : {ns ns1 ns2 : Notes} {k at : ℕ} {t : Tried} {o : Answered ℕ} → Counts 1 0 ns ns1 → Says k at t o ns1 ns2 → Told k at t.found o ns ns2
place_told {ns2 = ns2} {k = k} {at = at} {t = t} {o = o} q s = told_counted k at t.found o ns2 q s.told

module _ (k at c w i p : ℕ) (ns ns1 ns2 : Notes) (t : Tried) (o : Answered ℕ) (q : Counts 1 0 ns ns1) where
  -- where the steps lead on, the place stays alive
  said_on : (dead : Bytes) → IsSome o → Says k at t o ns1 ns2 × HoldsDead c w dead t.dead
      → Says k at (take_up (record { node = i; at = p }) t) o ns ns2 × HoldsDead c w dead (take_up (record { node = i; at = p }) t).dead
  said_on dead z (s, h) = (record { told = place_told q s; counted = place-counted q s }, alive t.found s.told)
    where
      alive : (f : Option Found) → Told k at f o ns1 ns2 → HoldsDead c w dead (elim f as (λ _. List Place) [ some g ↦ t.dead | none ↦ record { node = i; at = p } ∷ t.dead ])
      alive none x = absurd (some_none z x.0)
      alive (some f) x = h

  -- where they lead nowhere, it is dead
  said_nowhere : (dead dead' : Bytes) (x : ℕ) → p < w → x ≡ i * w + p → AddsBit dead dead' x → IsNone o → Says k at t o ns1 ns2 × HoldsDead c w dead t.dead
      → Says k at (take_up (record { node = i; at = p }) t) o ns ns2 × HoldsDead c w dead' (take_up (record { node = i; at = p }) t).dead
  said_nowhere dead dead' x lp e b z (s, h) = (record { told = place_told q s; counted = place-counted q s }, gone t.found s.told)
    where
      gone : (f : Option Found) → Told k at f o ns1 ns2 → HoldsDead c w dead' (elim f as (λ _. List Place) [ some g ↦ t.dead | none ↦ record { node = i; at = p } ∷ t.dead ])
      gone none y = holds_more c w dead dead' t.dead i p x lp e b h
      gone (some f) y = absurd (none_some z y.0)

module _ {row : List Node} {dead line : Bytes} {node at : ℕ} (a : Asks row dead line node at) where
  -- the number of the place
  number_is : {x : ℕ} → x ≡ node * (length line + 1) + at → x ≡ node * suc (length line) + at
  number_is e = e ∙ ap (λ (w : ℕ). node * w + at) (omega arith)

  -- the position lies in the line, or at its end
  inside : at < suc (length line)
  inside = omega (arith, a.low)

  module _ {x : ℕ} {r : Bool} (e : x ≡ node * (length line + 1) + at) (f : r ≡ bit dead x) where
    -- the place's bit says whether it is dead
    bit_is : (made : ℕ) → Stands row made → node < made → (ds : List Place) → HoldsDead (length (take made row)) (suc (length line)) dead ds → is_in node at ds ≡ r
    bit_is made s lt ds h = sym (f ∙ ap (bit dead) (number_is e) ∙ h node at (omega (arith, lt, front_long s)) inside)

    -- a dead place isn't taken up
    pub was_dead : {m : Marks} {notes : Notes} → r ≡ true → SearchedIn m row line node at dead dead notes notes None
    was_dead {m} t = record {
      comes = idle_comes (λ made s lt n ds h l. place-passed m (kid (take made row)) (holey (take made row)) n node at (drop at line) ds (bit_is made s lt ds h ∙ t)) refl;
    }

    module _ (t : r ≡ false) {m : Marks} {dead1 : Bytes} {notes notes1 notes2 : Notes} {u : Answered ℕ} (q : Counts 1 0 notes notes1) (h : TakenUp m row line node at dead dead1 notes1 notes2 u) where
      -- a place whose steps come to u is taken up
      taken_up : {dead2 : Bytes}
          → ((made : ℕ) → Stands row made → node < made → (n : ℕ) (ds : List Place)
          → Says (holes (take made row) node) at (all_steps m (take made row) line node at n ds) u notes1 notes2
          × HoldsDead (length (take made row)) (suc (length line)) dead1 (all_steps m (take made row) line node at n ds).dead
          → Says (holes (take made row) node) at (take_up (record { node = node; at = at }) (all_steps m (take made row) line node at n ds)) u notes notes2
          × HoldsDead (length (take made row)) (suc (length line)) dead2 (take_up (record { node = node; at = at }) (all_steps m (take made row) line node at n ds)).dead)
          → SearchedIn m row line node at dead dead2 notes notes2 u
      taken_up {dead2} g = record { comes = record { each = λ made s lt. let x = h.comes.each made s lt in record { says = says made s lt x; short = x.short; there = x.there } } }
        where
          says : (made : ℕ) (s : Stands row made) (lt : node < made)
              → Outcomes (take made row) line node at (size_in (take made row) line node at) (λ n. all_steps m (take made row) line node at n)
              (record { dead = dead; dead' = dead1; notes = notes1; notes' = notes2 }) u
              → (n : ℕ) → suc (size_in (take made row) line node at) ≤ n → (ds : List Place) → HoldsDead (length (take made row)) (suc (length line)) dead ds
              → Says (holes (take made row) node) at (place_tried m (take made row) line node at n ds) u notes notes2
              × HoldsDead (length (take made row)) (suc (length line)) dead2 (place_tried m (take made row) line node at n ds).dead
          says made s lt x zero l ds k = absurd (omega arith)
          says made s lt x (suc n) l ds k =
              rw (place_taken m (kid (take made row)) (holey (take made row)) n node at (drop at line) ds (bit_is made s lt ds k ∙ t)) (g made s lt n ds (x.says n (omega arith) ds k))

      -- a place that leads on
      pub leads_on : IsSome u → SearchedIn m row line node at dead dead1 notes notes2 u
      leads_on z = taken_up (λ made s lt n ds k. said_on (holes (take made row) node) at _ _ node at notes notes1 notes2 (all_steps m (take made row) line node at n ds) u q dead1 z k)

      -- a place that leads nowhere
      pub leads_nowhere : {dead2 : Bytes} → IsNone u → AddsBit dead1 dead2 x → SearchedIn m row line node at dead dead2 notes notes2 u
      leads_nowhere {dead2} z b =
          taken_up (λ made s lt n ds k.
          said_nowhere (holes (take made row) node) at _ _ node at notes notes1 notes2 (all_steps m (take made row) line node at n ds) u q dead1 dead2 x inside (number_is e) b z k)

-- the number of a place fits, and so do all that are below it
pub number_fits : (node end at : ℕ) → node < nodes_most → end ≤ line_most → at ≤ end → node * (end + 1) + at < 2 ^ 64
number_fits node end at n e a = omega (arith, mul-le-mul_left {m = end + 1} {n = 201} node (omega arith))

pub product_fits : (node end at : ℕ) → node < nodes_most → end ≤ line_most → at ≤ end → node * (end + 1) < 2 ^ 64
product_fits node end at n e a = omega (arith, number_fits node end at n e a)

-- ---- the root

module _ {row : List Node} {count : ℕ} {dead line : Bytes} (f : Fits row count dead line) where
  -- the tree's places in the line have bits in the row
  places_there : count * (length line + 1) ≤ 411648
  places_there = let u = mul-le-mul {n₁ = count} {m₁ = length line + 1} {n₂ = 2048} {m₂ = 201} f.few (omega (arith, f.short)) in omega (arith, u)

  -- so that all of them can be cleared
  pub clear_fits : count * (length line + 1) ≤ 8 * length dead
  clear_fits = omega (arith, places_there, f.room)

  -- and counted
  pub places_fit : count * (length line + 1) < 2 ^ 64
  places_fit = omega (arith, places_there)

  module _ {dead1 : Bytes} (h : ClearsBits dead dead1 (count * (length line + 1))) where
    -- then none of them is dead
    pub none_dead : HoldsDead (length (take count row)) (suc (length line)) dead1 []
    unfolding is_in
    none_dead i p li lp =
        let lt : i < count = omega (arith, front_long f.stands) in
        let w : i * suc (length line) ≡ i * (length line + 1) = ap (λ (n : ℕ). i * n) (omega arith) in
        h.none (i * suc (length line) + p) (omega (arith, mul-le-mul_right {m = suc i} {n = count} (length line + 1) lt, suc-mul i (length line + 1), w, lp))

    -- and the search can start
    pub asks_root : length dead1 ≡ length dead → Asks row dead1 line 0 0
    asks_root l =
        let w : count * suc (length line) ≡ count * (length line + 1) = ap (λ (n : ℕ). count * n) (omega arith) in
        record { made = count; stands = f.stands; there = front_root f.stands; low = omega arith; few = f.few; short = f.short; room = omega (arith, clear_fits, l, w) }

-- what the goals of search go by
pub ruleset place_searched = (was_dead, leads_on, leads_nowhere)

-- what the goals of take_up go by
pub ruleset steps_taken = (first_found, second_found, third_found)
