-- Every state that the machine reaches is small: at most 12 open calls, each with nine parameters of at most 200 bytes and nine
-- delimiters of at most one; a pending line of at most 200 bytes; a store within its limits; outputs within their rooms.
-- The theorems, at the end: goes-small, ended_small.
use mathlib.Core.Path.{◌≡◌, refl, ap, subst}
use mathlib.Core.Bool.{Bool, true, false, ◌&&◌}
use mathlib.Core.Option.{Option, none, some}
use mathlib.Core.List.{List, [], ◌∷◌, ◌++◌}
use Prim.Native.Nat.{ℕ, zero, suc, ◌+◌, ◌-◌, ◌/◌, ◌≤◌, ◌<◌}
use native.Mathlib.Omega.{arith}
use borrow.Author.Tests.{leb-true, leb-false, eq-eqb, ne_eqb}
use lib.Dec.{eqb, leb, ltb}
use lib.ListN.{length, get_or, set, replicate, length-append, length-set, length-replicate}
use lib.IntN.{ℤ, pos, negsuc}
use Rattle.model.specs.declared.Marks.{Marks}
use Rattle.model.specs.declared.Channel.{Channel}
use Rattle.model.specs.declared.Channel.TheVariants.{Nowhere, First, Second}
use Rattle.model.specs.Text.{Bytes, has, up_to, same}
use Rattle.model.specs.Utf8.{Character, character}
use Rattle.model.specs.Reading.{group, atom, Reading, Pieces, chosen}
use Rattle.model.specs.Code.{Code, Part, Ending, byte, serial, convert, parse, offer, assign, iterate, stop, write, layout, copy, save, skip, skip_text, skip_value, repeat, again, leave, malformed}
use Rattle.model.specs.declared.Conversion.{Conversion}
use Rattle.model.specs.declared.Conversion.TheVariants.{Itself, StoredText, Symbol, LatestDelimiter, ExpressionValue, Length, CodePoint}
use Rattle.model.specs.declared.Comparison.{Comparison}
use Rattle.model.specs.Store.{Store, find, put, size, within, decimal, digits_of}
use Rattle.model.specs.Value.{written}
use Rattle.model.specs.Load.{templates, Macro, Loaded, loaded, load, count}
use Rattle.model.specs.Machine.{Rooms, Loop, by_pieces, by_count, Frame, Shared, Step, continues, offers, skips, leaves, halts, param, with_param, resume_at, with_store, Building, built, failed, add, add_symbol, add_value, add_length, add_code_point, add_converted, add_part, build, Piece, longer, piece_of, one_pass, pass_of, take_pass, next_pass, end_pass, start_repeat, write_to, write_layout, save_text, skip_by, skip_if, skip_compared, finish, finish_built, carry_out, State, Next, running, ended, state_with, Passed, landed, beyond, bad_landing, pass_over, skip_from, skip_in, padded, call, pass_through, offered_as, decided, offered, stepped, closed, unfinished, measured, read_input, ready_in, ready_for, ready, begin_at, begin_line, counted, event_for, event, follow, after, initial, copies, appended, with_first, with_second, wrote, goes_written, passed, past_line, copy_input, no_output}
use Rattle.model.specs.Fitting.{Fits, end, literal, placeholder}
use Rattle.model.specs.Sizes.{AllShort, FramesOk, LoopsSmall, FrameSmall, FramesSmall, EntriesShort, SharedSmall, PendingSmall, Small, LoopsFew}
use Rattle.model.proofs.Chosen.{chosen-reads}
use Rattle.model.proofs.Choices.{both, split, and_left, and_right}
use Rattle.model.proofs.Copying.{input_copied}
use Rattle.model.proofs.Utf8.{CharacterIs, character_is}
use Rattle.model.proofs.Frames.{NextOk, nested-loops, run-nested}
use Rattle.model.proofs.Loading.{load_legal}

-- ---- what small means

-- a state that goes on, or has ended
abbrev pub NextSmall : Rooms → Next → Type 0
NextSmall room (running s) = Small room s × PendingSmall s.pending
NextSmall room (ended k s) = Small room s

-- ---- lists of short texts

-- a short text put in a place
pub short_set : (n : ℕ) (ls : List Bytes) (i : ℕ) (v : Bytes) → AllShort n ls → length v ≤ n → AllShort n (set ls i v)
short_set n [] i v h k = tt
short_set n (l ∷ ls) zero v h k = (k, h.1)
short_set n (l ∷ ls) (suc i) v h k = (h.0, short_set n ls i v h.1 k)

-- the text at a place is short
pub short_at : (n : ℕ) (ls : List Bytes) (i : ℕ) → AllShort n ls → length (get_or ls i []) ≤ n
short_at n [] i h = omega arith
short_at n (l ∷ ls) zero h = h.0
short_at n (l ∷ ls) (suc i) h = short_at n ls i h.1

-- lists of short texts joined
pub short_append : (n : ℕ) (ls ks : List Bytes) → AllShort n ls → AllShort n ks → AllShort n (ls ++ ks)
short_append n [] ks h k = k
short_append n (l ∷ ls) ks h k = (h.0, short_append n ls ks h.1 k)

-- empty texts are short
pub short_empty : (n k : ℕ) → AllShort n (replicate k [])
short_empty n zero = tt
short_empty n (suc k) = (omega arith, short_empty n k)

-- ---- pieces of a line

-- a reading has a piece for each placeholder
pub fits_count : (m : Marks) (t : List ℕ) (ps : Pieces) (s : List ℕ) → Fits m t ps s → length ps ≡ count m.placeholder t
unfolding count
fits_count m t ps s end = refl
fits_count m t ps s (literal b u _ r e h) = rw (ne_eqb b m.placeholder e, count) (fits_count m u ps r h)
fits_count m t ps s (placeholder b u p qs r e k h) = rw (eq-eqb b m.placeholder e, count) (ap suc (fits_count m u qs r h))

-- a piece is no longer than the line
pub fits_short : (m : Marks) (n : ℕ) (t : List ℕ) (ps : Pieces) (s : List ℕ) → Fits m t ps s → length s ≤ n → AllShort n ps
fits_short m n t ps s end l = tt
fits_short m n t ps s (literal b u _ r e h) l = fits_short m n u ps r h (omega arith)
fits_short m n t ps s (placeholder b u p qs r e k h) l =
    let j : length p + length r ≤ n = simp length-append at l in
    (omega arith, fits_short m n u qs r h (omega arith))

-- the nine parameters of a call
pub padded-nine : (ps : List Bytes) → length ps ≤ 9 → length (padded ps) ≡ 9
unfolding padded
padded-nine ps h = simp (length-append, length-replicate) (omega arith)

-- the nine parameters are short
pub padded_short : (ps : List Bytes) → AllShort 200 ps → AllShort 200 (padded ps)
unfolding padded
padded_short ps h = short_append 200 ps (replicate (9 - length ps) []) h (short_empty 200 (9 - length ps))

-- ---- what a pass takes

-- a bracket's group and the rest are no longer than the line
abbrev pub GroupSmall : ℕ → Option (Bytes × Bytes) → Type 0
GroupSmall n none = Unit {0}
GroupSmall n (some g) = length g.0 + length g.1 ≤ n

-- a piece and the rest are no longer than the line, and the delimiter is at most one byte
abbrev pub PieceSmall : ℕ → Option Piece → Type 0
PieceSmall n none = Unit {0}
PieceSmall n (some p) = (length p.piece + length p.rest ≤ n) × (length p.delimiter ≤ 1)

-- the group up to the partner
pub group-small : (m : Marks) (s : Bytes) (d : ℕ) → GroupSmall (length s) (group m d s)
unfolding group
group-small m [] d = tt
group-small m (x ∷ s) d =
    let d' : ℕ = elim (eqb x m.left) as (λ b. ℕ) [ true ↦ suc d | false ↦ elim (eqb x m.right) as (λ b. ℕ) [ true ↦ d - 1 | false ↦ d ] ] in
    both (GroupSmall (suc (length s))) (eqb x m.right && eqb d 0) _ _ (omega arith) (by (group m d' s) (group-small m s d'))
  where
    by : (o : Option (Bytes × Bytes)) → GroupSmall (length s) o → GroupSmall (suc (length s)) (elim o as (λ r. Option (Bytes × Bytes)) [ none ↦ none | some r ↦ some (x ∷ r.0, r.1) ])
    by none h = tt
    by (some g) h = omega arith

-- a piece with an atom in front
pub longer-small : (a : Bytes) (n k : ℕ) (o : Option Piece) → PieceSmall n o → length a + n ≤ k → PieceSmall k (longer a o)
unfolding longer
longer-small a n k none h e = tt
longer-small a n k (some p) h e = (simp length-append (omega (arith, h.0)), h.1)

-- an atom takes at least a byte of the line
abbrev pub AtomSmall : ℕ → Option (Bytes × Bytes) → Type 0
AtomSmall n none = Unit {0}
AtomSmall n (some a) = (length a.0 + length a.1 ≤ n) × (length a.1 < n)

-- the first atom
pub atom-small : (m : Marks) (s : Bytes) → AtomSmall (length s) (atom m s)
unfolding atom
atom-small m [] = tt
atom-small m (x ∷ s) =
    let P : Option (Bytes × Bytes) → Type 0 = AtomSmall (suc (length s)) in
    both P (eqb x m.right) _ _ tt (
    both P (eqb x m.left) _ _ (by (group m 0 s) (group-small m s 0)) (omega arith, omega arith))
  where
    by : (o : Option (Bytes × Bytes)) → GroupSmall (length s) o
        → AtomSmall (suc (length s)) (elim o as (λ r. Option (Bytes × Bytes)) [ none ↦ none | some r ↦ some (x ∷ r.0, r.1) ])
    by none h = tt
    by (some g) h = (omega arith, omega arith)

-- the shortest row of atoms
pub piece_of_small : (f : ℕ) (m : Marks) (ds s : Bytes) → PieceSmall (length s) (piece_of f m ds s)
unfolding piece_of
piece_of_small zero m ds s = tt
piece_of_small (suc f) m ds [] = (omega arith, omega arith)
piece_of_small (suc f) m ds (x ∷ s) =
    both (PieceSmall (suc (length s))) (has x ds) _ _ (omega arith, omega arith)
    (by (atom m (x ∷ s)) (atom-small m (x ∷ s)) (λ r. piece_of_small f m ds r))
  where
    by : (o : Option (Bytes × Bytes)) → AtomSmall (suc (length s)) o → ((r : Bytes) → PieceSmall (length r) (piece_of f m ds r))
        → PieceSmall (suc (length s)) (elim o as (λ r. Option Piece) [ none ↦ none | some a ↦ longer a.0 (piece_of f m ds a.1) ])
    by none h ih = tt
    by (some a) h ih = longer-small a.0 (length a.1) (suc (length s)) (piece_of f m ds a.1) (ih a.1) h.0

-- a character's bytes and the rest are the line
pub one_pass-small : (s : Bytes) (o : Option Character) → CharacterIs s o → PieceSmall (length s) (one_pass o)
unfolding one_pass
one_pass-small s none h = tt
one_pass-small s (some c) h = (omega (arith, simp length-append at (ap length h.joined)), omega arith)

-- what a pass takes
pub pass_of-small : (m : Marks) (ds s : Bytes) → PieceSmall (length s) (pass_of m ds s)
unfolding pass_of
pass_of-small m [] [] = (omega arith, omega arith)
pass_of-small m [] (x ∷ s) = one_pass-small (x ∷ s) (character (x ∷ s)) (character_is (x ∷ s))
pass_of-small m (d ∷ ds) s = piece_of_small (length s + 1) m (d ∷ ds) s

-- ---- the store

-- names and texts stay short
pub put_short : (name text : Bytes) (st : Store) → length name ≤ 200 → length text ≤ 200 → EntriesShort st → EntriesShort (put name text st)
unfolding put
put_short name text [] n t h = (n, t, tt)
put_short name text (e ∷ more) n t h = both EntriesShort (same e.0 name) _ _ (n, t, h.2) (h.0, h.1, put_short name text more n t h.2)

-- storing never makes the store shorter
pub put_grows : (name text : Bytes) (st : Store) → length st ≤ length (put name text st)
unfolding put
put_grows name text [] = omega arith
put_grows name text (e ∷ more) = both (λ (s : Store). suc (length more) ≤ length s) (same e.0 name) ((name, text) ∷ more) (e ∷ put name text more) (omega arith) (omega (arith, put_grows name text more))

-- a name that isn't stored makes the store longer
pub put_new : (name text : Bytes) (st : Store) → find name st ≡ none → suc (length st) ≤ length (put name text st)
unfolding put find
put_new name text [] e = omega arith
put_new name text (x ∷ more) e = by (same x.0 name) e (λ h. put_new name text more h)
  where
    by : (b : Bool) → ◌≡◌ {A = Option Bytes} (elim b [ true ↦ some x.1 | false ↦ find name more ]) none
        → (find name more ≡ none → suc (length more) ≤ length (put name text more))
        → suc (suc (length more)) ≤ length {A = Bytes × Bytes} (elim b [ true ↦ (name, text) ∷ more | false ↦ x ∷ put name text more ])
    by true h ih = let z : ◌≡◌ {A = ℕ} 0 1 = cc in absurd (omega arith)
    by false h ih = omega (arith, ih h)

-- a number written in at most f digits
pub digits_short : (f n : ℕ) → length (digits_of f n) ≤ f
unfolding digits_of
digits_short zero n = omega arith
digits_short (suc f) n = both (λ (l : Bytes). length l ≤ suc f) (ltb n 10) _ _ (omega arith) (simp length-append (omega (arith, digits_short f (n / 10))))

-- a number written is short
pub decimal_short : (n : ℕ) → length (decimal n) ≤ 200
unfolding decimal
decimal_short n = omega (arith, digits_short 20 n)

-- ---- the built line

-- the built line has at most 200 bytes
abbrev pub BuildingSmall : Rooms → Building → Type 0
BuildingSmall room (built l v) = (length l ≤ 200) × SharedSmall room v
BuildingSmall room (failed n v) = SharedSmall room v

module _ (room : Rooms) (n : ℕ) where
  -- the store after another text is put into it
  pub stored-small : (name text : Bytes) (w : Shared) (k : ℕ) → length name ≤ 200 → length text ≤ 200 → k ≤ length (put name text w.store)
      → within (put name text w.store) ≡ true → SharedSmall room w → SharedSmall room (record { symbols = k; store = put name text w.store; output = w.output })
  unfolding within
  stored-small name text w k nl tl kl e h =
      let st : Store = put name text w.store in
      record {
        names = leb-true (length st) 256 (and_left (leb (length st) 256) (leb (size st) 8192) e);
        bytes = leb-true (size st) 8192 (and_right (leb (length st) 256) (leb (size st) 8192) e);
        entries = put_short name text w.store nl tl h.entries;
        symbols = kl;
        first = h.first;
        second = h.second;
      }

  -- adding bytes
  pub add_small : (l s : Bytes) (w : Shared) → SharedSmall room w → BuildingSmall room (add l s w)
  unfolding add
  add_small l s w h = split (BuildingSmall room) (leb (length l + length s) 200) _ _ (λ e. (simp length-append (leb-true (length l + length s) 200 e), h)) (λ e. h)

  -- ed2: the next number is stored under a new name
  pub add_symbol-small : (l name : Bytes) (o : Option Bytes) (w : Shared) → find name w.store ≡ o → length name ≤ 200 → SharedSmall room w → BuildingSmall room (add_symbol l name o w)
  unfolding add_symbol
  add_symbol-small l name (some s) w e k h = add_small l s w h
  add_symbol-small l name none w e k h =
      let text : Bytes = decimal (suc w.symbols) in
      split (BuildingSmall room) (within (put name text w.store)) _ _
      (λ i. add_small l text (record { symbols = suc w.symbols; store = put name text w.store; output = w.output })
      (stored-small name text w (suc w.symbols) k (decimal_short (suc w.symbols)) (omega (arith, put_new name text w.store e, h.symbols)) i h))
      (λ i. h)

  -- ed4
  pub add_value-small : (m : Marks) (l : Bytes) (o : Option ℤ) (w : Shared) → SharedSmall room w → BuildingSmall room (add_value m l o w)
  unfolding add_value
  add_value-small m l none w h = h
  add_value-small m l (some v) w h = add_small l (written m v) w h

  -- ed5
  pub add_length-small : (l : Bytes) (o : Option (List ℕ)) (w : Shared) → SharedSmall room w → BuildingSmall room (add_length l o w)
  unfolding add_length
  add_length-small l none w h = h
  add_length-small l (some vs) w h = add_small l _ w h

  -- ed8
  pub add_code_point-small : (l : Bytes) (o : Option (List ℕ)) (w : Shared) → SharedSmall room w → BuildingSmall room (add_code_point l o w)
  unfolding add_code_point
  add_code_point-small l none w h = h
  add_code_point-small l (some []) w h = h
  add_code_point-small l (some (v ∷ [])) w h = add_small l _ w h
  add_code_point-small l (some (v ∷ u ∷ vs)) w h = h

  -- a parameter is short
  pub param_short : (f : Frame) (d : ℕ) → FrameSmall n f → length (param f d) ≤ 200
  unfolding param
  param_short f d h = short_at 200 f.params (d - 1) h.params

  -- a conversion of a parameter
  pub add_converted-small : (m : Marks) (f : Frame) (d : ℕ) (c : Conversion) (l : Bytes) (w : Shared) → FrameSmall n f → SharedSmall room w
      → BuildingSmall room (add_converted m f d c l w)
  unfolding add_converted
  add_converted-small m f d Itself l w g h = add_small l _ w h
  add_converted-small m f d StoredText l w g h = add_small l _ w h
  add_converted-small m f d Symbol l w g h = add_symbol-small l (param f d) (find (param f d) w.store) w refl (param_short f d g) h
  add_converted-small m f d LatestDelimiter l w g h = add_small l _ w h
  add_converted-small m f d ExpressionValue l w g h = add_value-small m l _ w h
  add_converted-small m f d Length l w g h = add_length-small l _ w h
  add_converted-small m f d CodePoint l w g h = add_code_point-small l _ w h

  -- a part of a code line
  pub add_part-small : (m : Marks) (f : Frame) (p : Part) (l : Bytes) (w : Shared) → FrameSmall n f → SharedSmall room w → BuildingSmall room (add_part m f p l w)
  unfolding add_part
  add_part-small m f (byte b) l w g h = add_small l _ w h
  add_part-small m f (serial k) l w g h = add_small l _ w h
  add_part-small m f (convert d c) l w g h = add_converted-small m f d c l w g h

  -- a built line
  pub build-small : (m : Marks) (f : Frame) (ps : List Part) (l : Bytes) (w : Shared) → FrameSmall n f → length l ≤ 200 → SharedSmall room w → BuildingSmall room (build m f ps l w)
  unfolding build
  build-small m f [] l w g k h = (k, h)
  build-small m f (p ∷ ps) l w g k h = then (add_part m f p l w) (add_part-small m f p l w g h) (λ l v k h. build-small m f ps l v g k h)
    where
      then : (b : Building) → BuildingSmall room b → ((l : Bytes) (v : Shared) → length l ≤ 200 → SharedSmall room v → BuildingSmall room (build m f ps l v))
          → BuildingSmall room (elim b [ built k v ↦ build m f ps k v | failed n v ↦ failed n v ])
      then (built l v) e ih = ih l v e.0 e.1
      then (failed j v) e ih = e

-- ---- carrying out a code line

-- a line written, or none
abbrev pub WroteSmall : Rooms → Option Shared → Type 0
WroteSmall room none = Unit {0}
WroteSmall room (some v) = SharedSmall room v

-- what a code line comes to is small
abbrev pub StepSmall : Rooms → ℕ → Step → Type 0
StepSmall room n (continues f w) = FrameSmall n f × SharedSmall room w
StepSmall room n (offers l f w) = FrameSmall n f × SharedSmall room w × (length l ≤ 200)
StepSmall room n (skips k f w) = FrameSmall n f × SharedSmall room w
StepSmall room n (leaves w) = SharedSmall room w
StepSmall room n (copies r ch f w) = (r ≡ room) × FrameSmall n f × SharedSmall room w
StepSmall room n (halts k w) = SharedSmall room w

module _ (room : Rooms) (n : ℕ) where
  -- other code lines, and other iterations that are small
  pub resume_at-small : (f : Frame) (ls : List Loop) (cs : List Bytes) → FrameSmall n f → LoopsSmall ls → FrameSmall n (resume_at f ls cs)
  unfolding resume_at
  resume_at-small f ls cs g k = record { number = g.number; nine_params = g.nine_params; params = g.params; nine_delimiters = g.nine_delimiters; delimiters = g.delimiters; loops = k }

  -- a short text as a parameter
  pub with_param-small : (f : Frame) (d : ℕ) (v : Bytes) → FrameSmall n f → length v ≤ 200 → FrameSmall n (with_param f d v)
  unfolding with_param
  with_param-small f d v g k = record {
    number = g.number;
    nine_params = simp length-set g.nine_params;
    params = short_set 200 f.params (d - 1) v g.params k;
    nine_delimiters = g.nine_delimiters;
    delimiters = g.delimiters;
    loops = g.loops;
  }

  -- a pass: its piece, delimiter and rest are short
  pub take_pass-small : (d k : ℕ) (p : Option Piece) (ds old : Bytes) (after : List Bytes) (ls : List Loop) (f : Frame) (w : Shared)
      → PieceSmall k p → k ≤ 200 → length old ≤ 200 → LoopsSmall ls → FrameSmall n f → SharedSmall room w → StepSmall room n (take_pass d p ds old after ls f w)
  unfolding take_pass
  take_pass-small d k none ds old after ls f w e j o l g h = h
  take_pass-small d k (some p) ds old after ls f w e j o l g h = (
    record {
      number = g.number;
      nine_params = simp length-set g.nine_params;
      params = short_set 200 f.params (d - 1) p.piece g.params (omega (arith, e.0));
      nine_delimiters = simp length-set g.nine_delimiters;
      delimiters = short_set 1 f.delimiters (d - 1) p.delimiter g.delimiters e.1;
      loops = (omega (arith, e.0), o, l);
    },
    h,
  )

  -- the next pass, or the end, where d regains its value
  pub next_pass-small : (m : Marks) (d : ℕ) (rest ds old : Bytes) (after : List Bytes) (ls : List Loop) (f : Frame) (w : Shared)
      → length rest ≤ 200 → length old ≤ 200 → LoopsSmall ls → FrameSmall n f → SharedSmall room w → StepSmall room n (next_pass m d rest ds old after ls f w)
  unfolding next_pass
  next_pass-small m d [] ds old after ls f w r o l g h = (resume_at-small (with_param f d old) ls f.next (with_param-small f d old g o) l, h)
  next_pass-small m d (x ∷ rest) ds old after ls f w r o l g h = take_pass-small d (length (x ∷ rest)) (pass_of m ds (x ∷ rest)) ds old after ls f w (pass_of-small m ds (x ∷ rest)) r o l g h

  -- eF8
  pub end_pass-small : (m : Marks) (ls : List Loop) (f : Frame) (w : Shared) → LoopsSmall ls → FrameSmall n f → SharedSmall room w → StepSmall room n (end_pass m ls f w)
  unfolding end_pass
  end_pass-small m [] f w l g h = (g, h)
  end_pass-small m (by_count zero after ∷ ls) f w l g h = (resume_at-small f ls f.next g l, h)
  end_pass-small m (by_count (suc k) after ∷ ls) f w l g h = (resume_at-small f (by_count k after ∷ ls) after g l, h)
  end_pass-small m (by_pieces d rest ds old after ∷ ls) f w l g h = next_pass-small m d rest ds old after ls f w l.0 l.1 l.2 g h

  -- eF7
  pub start_repeat-small : (m : Marks) (v : Option ℤ) (f : Frame) (w : Shared) → FrameSmall n f → SharedSmall room w → StepSmall room n (start_repeat m v f w)
  unfolding start_repeat
  start_repeat-small m none f w g h = h
  start_repeat-small m (some (pos zero)) f w g h = (resume_at-small f f.loops _ g g.loops, h)
  start_repeat-small m (some (pos (suc k))) f w g h = (resume_at-small f (by_count k f.next ∷ f.loops) f.next g g.loops, h)
  start_repeat-small m (some (negsuc k)) f w g h = (resume_at-small f f.loops _ g g.loops, h)

  -- a line written to a channel, or none
  pub wrote-small : (ch : Channel) (l : Bytes) (w : Shared) → SharedSmall room w → WroteSmall room (wrote room ch l w)
  unfolding wrote appended with_first with_second
  wrote-small Nowhere l w h = h
  wrote-small First l w h = split (λ (o : Option Bytes). WroteSmall room (with_first w o)) (leb (length w.output.first + length l + 1) room.first) _ none
      (λ e. let k = leb-true (length w.output.first + length l + 1) room.first e in
      record { names = h.names; bytes = h.bytes; entries = h.entries; symbols = h.symbols; first = simp length-append (omega arith); second = h.second }) (λ e. tt)
  wrote-small Second l w h = split (λ (o : Option Bytes). WroteSmall room (with_second w o)) (leb (length w.output.second + length l + 1) room.second) _ none
      (λ e. let k = leb-true (length w.output.second + length l + 1) room.second e in
      record { names = h.names; bytes = h.bytes; entries = h.entries; symbols = h.symbols; first = h.first; second = simp length-append (omega arith) }) (λ e. tt)

  -- F1
  pub write_to-small : (ch : Channel) (l : Bytes) (f : Frame) (w : Shared) → FrameSmall n f → SharedSmall room w → StepSmall room n (write_to room ch l f w)
  unfolding write_to goes_written
  write_to-small ch l f w g h = by (wrote room ch l w) (wrote-small ch l w h)
    where
      by : (o : Option Shared) → WroteSmall room o → StepSmall room n (goes_written f w o)
      by none k = h
      by (some v) k = (g, k)

  -- a layout written
  pub write_layout-small : (m : Marks) (ch : Channel) (cs : List Bytes) (f : Frame) (w : Shared) → FrameSmall n f → SharedSmall room w → StepSmall room n (write_layout room m ch cs f w)
  unfolding write_layout
  write_layout-small m ch [] f w g h = (g, h)
  write_layout-small m ch (c ∷ cs) f w g h = write_to-small ch _ (resume_at f f.loops cs) w (resume_at-small f f.loops cs g g.loops) h

  -- parameter 2 stored under parameter 1
  pub save_text-small : (name text : Bytes) (f : Frame) (w : Shared) → length name ≤ 200 → length text ≤ 200 → FrameSmall n f → SharedSmall room w → StepSmall room n (save_text name text f w)
  unfolding save_text with_store
  save_text-small name text f w k l g h = split (StepSmall room n) (within (put name text w.store)) _ _
      (λ e. (g, stored-small room n name text w w.symbols k l (omega (arith, put_grows name text w.store, h.symbols)) e h)) (λ e. h)

  -- a skip
  pub skip_by-small : (v : Option ℤ) (f : Frame) (w : Shared) → FrameSmall n f → SharedSmall room w → StepSmall room n (skip_by v f w)
  unfolding skip_by
  skip_by-small none f w g h = h
  skip_by-small (some (pos k)) f w g h = (g, h)
  skip_by-small (some (negsuc k)) f w g h = h

  -- a skip on a condition
  pub skip_if-small : (m : Marks) (b : Bool) (f : Frame) (w : Shared) → FrameSmall n f → SharedSmall room w → StepSmall room n (skip_if m b f w)
  unfolding skip_if
  skip_if-small m b f w g h = both (StepSmall room n) b _ _ (skip_by-small _ f w g h) (g, h)

  -- a skip on a comparison
  pub skip_compared-small : (m : Marks) (o : Comparison) (a b : Option ℤ) (f : Frame) (w : Shared) → FrameSmall n f → SharedSmall room w → StepSmall room n (skip_compared m o a b f w)
  unfolding skip_compared
  skip_compared-small m o none b f w g h = h
  skip_compared-small m o (some a) none f w g h = h
  skip_compared-small m o (some a) (some b) f w g h = skip_if-small m _ f w g h

  -- what is done at a code line's end
  pub finish-small : (m : Marks) (k : Ending) (l : Bytes) (f : Frame) (w : Shared) → length l ≤ 200 → FrameSmall n f → SharedSmall room w → StepSmall room n (finish room m k l f w)
  unfolding finish
  finish-small m offer l f w e g h = (g, h, e)
  finish-small m (assign d) l f w e g h = (with_param-small f d l g e, h)
  finish-small m (iterate d ds) l f w e g h = take_pass-small d (length l) (pass_of m ds l) ds (param f d) f.next f.loops f w (pass_of-small m ds l) e (param_short room n f d g) g.loops g h
  finish-small m stop l f w e g h = h
  finish-small m (write ch) l f w e g h = write_to-small ch l f w g h
  finish-small m (layout ch) l f w e g h = write_layout-small m ch f.next f w g h
  finish-small m (copy ch) l f w e g h = (refl, g, h)
  finish-small m save l f w e g h = save_text-small (param f 1) (param f 2) f w (param_short room n f 1 g) (param_short room n f 2 g) g h
  finish-small m skip l f w e g h = skip_by-small _ f w g h
  finish-small m (skip_text b) l f w e g h = skip_if-small m _ f w g h
  finish-small m (skip_value o) l f w e g h = skip_compared-small m o _ _ f w g h
  finish-small m repeat l f w e g h = start_repeat-small m _ f w g h
  finish-small m again l f w e g h = end_pass-small m f.loops f w g.loops g h
  finish-small m leave l f w e g h = h
  finish-small m malformed l f w e g h = (g, h)

  -- a whole code line
  pub carry_out-small : (m : Marks) (c : Code) (f : Frame) (w : Shared) → FrameSmall n f → SharedSmall room w → StepSmall room n (carry_out room m c f w)
  unfolding carry_out finish_built
  carry_out-small m c f w g h = then (build m f c.parts [] w) (build-small room n m f c.parts [] w g (omega arith) h)
    where
      then : (b : Building) → BuildingSmall room b → StepSmall room n (finish_built room m c.ending f b)
      then (built l v) e = finish-small m c.ending l f v e.0 g e.1
      then (failed k v) e = e

-- ---- the machine

-- with one more call made, the open ones stay small
pub frames_more : (n : ℕ) (fs : List Frame) → FramesSmall n fs → FramesSmall (suc n) fs
frames_more n [] h = tt
frames_more n (f ∷ fs) h = (
  record {
    number = omega (arith, h.0.number);
    nine_params = h.0.nine_params;
    params = h.0.params;
    nine_delimiters = h.0.nine_delimiters;
    delimiters = h.0.delimiters;
    loops = h.0.loops;
  },
  frames_more n fs h.1,
)

module _ (room : Rooms) where
  -- a state made of small parts
  pub state_with-small : (s : State) (p : Option Bytes) (fs : List Frame) (w : Shared)
      → SharedSmall room w → FramesSmall s.calls fs → length fs ≤ 12 → s.calls ≤ s.events → Small room (state_with s p fs w)
  unfolding state_with
  state_with-small s p fs w h g l c = record { shared = h; frames = g; few = l; calls = c }

  -- a skip in one call
  pub skip_from-small : (f : Frame) (fs : List Frame) (w : Shared) (s : State) (out : ℕ → Next) (p : Passed)
      → SharedSmall room w → FramesSmall s.calls (f ∷ fs) → length (f ∷ fs) ≤ 12 → s.calls ≤ s.events → ((k : ℕ) → NextSmall room (out k)) → NextSmall room (skip_from f fs w s out p)
  unfolding skip_from state_with
  skip_from-small f fs w s out (landed cs) h g l c ih = (state_with-small s none (resume_at f f.loops cs ∷ fs) w h (resume_at-small room s.calls f f.loops cs g.0 g.0.loops, g.1) l c, tt)
  skip_from-small f fs w s out (beyond k) h g l c ih = ih k
  skip_from-small f fs w s out bad_landing h g l c ih = state_with-small s none (f ∷ fs) w h g l c

  -- a skip through the open calls
  pub skip_in-small : (m : Marks) (k : ℕ) (fs : List Frame) (w : Shared) (s : State)
      → SharedSmall room w → FramesSmall s.calls fs → length fs ≤ 12 → s.calls ≤ s.events → NextSmall room (skip_in m k fs w s)
  unfolding skip_in
  skip_in-small m k [] w s h g l c = (record { shared = h; frames = tt; few = omega arith; calls = c }, tt)
  skip_in-small m k (f ∷ fs) w s h g l c =
      skip_from-small f fs w s (λ k. skip_in m k fs w s) (pass_over m k 0 f.next) h g l c (λ k. skip_in-small m k fs w s h g.1 (omega arith) c)

  -- input lines copied
  pub copy_input-small : (m : Marks) (ch : Channel) (name : Bytes) (s : State) → Small room s → PendingSmall s.pending → NextSmall room (copy_input m room ch name s)
  unfolding past_line state_with
  copy_input-small m ch name s h p =
      input_copied m room ch (λ x. Small room x × PendingSmall x.pending) (NextSmall room) (λ x k. k) (λ x k. k.0) (λ x k. k.0)
      (λ l ls x e k. (record { shared = k.0.shared; frames = k.0.frames; few = k.0.few; calls = k.0.calls }, tt))
      (λ c x w e k. (record { shared = subst (WroteSmall room) e (wrote-small room 0 ch c x.shared k.0.shared); frames = k.0.frames; few = k.0.few; calls = k.0.calls }, tt)) name s (h, p)

  -- what a code line comes to
  pub stepped-small : (m : Marks) (fs : List Frame) (p : Step) (s : State)
      → StepSmall room s.calls p → FramesSmall s.calls fs → suc (length fs) ≤ 12 → s.calls ≤ s.events → NextSmall room (stepped m fs p s)
  unfolding stepped state_with
  stepped-small m fs (continues f w) s h g l c = (state_with-small s none (f ∷ fs) w h.1 (h.0, g) l c, tt)
  stepped-small m fs (offers k f w) s h g l c = (state_with-small s (some k) (f ∷ fs) w h.1 (h.0, g) l c, h.2)
  stepped-small m fs (skips k f w) s h g l c = skip_in-small m k (f ∷ fs) w s h.1 (h.0, g) l c
  stepped-small m fs (leaves w) s h g l c = (state_with-small s none fs w h g (omega arith) c, tt)
  stepped-small m fs (copies r ch f w) s h g l c =
      rw h.0 (copy_input-small m ch (param f 1) (state_with s none (f ∷ fs) w) (state_with-small s none (f ∷ fs) w h.2 (h.1, g) l c) tt)
  stepped-small m fs (halts k w) s h g l c = state_with-small s none fs w h g (omega arith) c

  -- a line counted
  pub decided-small : (i : Option ℕ) (s : State) → Small room s → Small room (decided i s)
  unfolding decided
  decided-small i s h = record { shared = h.shared; frames = h.frames; few = h.few; calls = h.calls }

  -- a line without a reading, written
  pub pass_through-small : (l : Bytes) (s : State) → Small room s → NextSmall room (pass_through room l s)
  unfolding pass_through passed state_with
  pass_through-small l s h = by (wrote room First l s.shared) (wrote-small room 0 First l s.shared h.shared)
    where
      by : (o : Option Shared) → WroteSmall room o → NextSmall room (passed s o)
      by none k = h
      by (some v) k = (record { shared = k; frames = h.frames; few = h.few; calls = h.calls }, tt)

  -- a call: at most nine pieces, each short, and fewer than twelve calls open
  pub call-small : (x : Macro) (ps : List Bytes) (s : State) → AllShort 200 ps → length ps ≤ 9 → s.calls < s.events → Small room s → NextSmall room (call x ps s)
  unfolding call
  call-small x ps s k l c h = split (NextSmall room) (leb 12 (length s.frames)) _ _ (λ e. h) (λ e. (
    record {
      shared = h.shared;
      frames = (
        record {
          number = omega arith;
          nine_params = padded-nine ps l;
          params = padded_short ps k;
          nine_delimiters = refl;
          delimiters = short_empty 1 9;
          loops = tt;
        },
        frames_more s.calls s.frames h.frames,
      );
      few = leb-false 12 (length s.frames) e;
      calls = c;
    },
    tt,
  ))

  -- a code line begun
  pub begin_at-small : (m : Marks) (f : Frame) (fs : List Frame) (s : State) (cs : List Bytes) → s.frames ≡ f ∷ fs → s.pending ≡ none → Small room s → NextSmall room (begin_at room m f fs s cs)
  unfolding begin_at
  begin_at-small m f fs s [] e p h = (h, rw p tt)
  begin_at-small m f fs s (c ∷ cs) e p h =
      let g : FramesSmall s.calls (f ∷ fs) = subst (FramesSmall s.calls) e h.frames in
      let l : suc (length fs) ≤ 12 = rw e at h.few in
      stepped-small m fs _ s (carry_out-small room s.calls m (parse m true c) (resume_at f f.loops cs) s.shared (resume_at-small room s.calls f f.loops cs g.0 g.0.loops) h.shared) g.1 l h.calls

  -- the innermost call's next code line
  pub begin_line-small : (m : Marks) (fs : List Frame) (s : State) → s.frames ≡ fs → s.pending ≡ none → Small room s → NextSmall room (begin_line room m fs s)
  unfolding begin_line
  begin_line-small m [] s e p h = (h, rw p tt)
  begin_line-small m (f ∷ fs) s e p h = begin_at-small m f fs s f.next e p h

  -- the calls that are left open after those that are finished
  pub closed-small : (n : ℕ) (f : Frame) (fs outer : List Frame) (cs : List Bytes) → FramesSmall n (f ∷ fs) × (length (f ∷ fs) ≤ 12) → FramesSmall n outer × (length outer ≤ 12)
      → FramesSmall n (closed f fs outer cs) × (length (closed f fs outer cs) ≤ 12)
  unfolding closed
  closed-small n f fs outer [] h k = k
  closed-small n f fs outer (c ∷ cs) h k = h

  -- the calls left open
  pub unfinished-small : (n : ℕ) (fs : List Frame) → FramesSmall n fs → length fs ≤ 12 → FramesSmall n (unfinished fs) × (length (unfinished fs) ≤ 12)
  unfolding unfinished
  unfinished-small n [] h l = (tt, omega arith)
  unfinished-small n (f ∷ fs) h l = closed-small n f fs (unfinished fs) f.next (h, l) (unfinished-small n fs h.1 (omega arith))

  -- an input line that goes on has at most 200 bytes
  pub measured-small : (s : State) (c : Bytes) → s.pending ≡ some c → Small room s → NextSmall room (measured s c (leb (length c) 200))
  unfolding measured
  measured-small s c p h = by (leb (length c) 200) refl
    where
      by : (b : Bool) → leb (length c) 200 ≡ b → NextSmall room (measured s c b)
      by true e = (h, rw p (leb-true (length c) 200 e))
      by false e = h

  -- an input line read
  pub read_input_small : (m : Marks) (ls : List Bytes) (s : State) → Small room s → NextSmall room (read_input m ls s)
  unfolding read_input state_with
  read_input_small m [] s h = record { shared = h.shared; frames = tt; few = omega arith; calls = h.calls }
  read_input_small m (l ∷ ls) s h = measured-small _ (up_to m.source l) refl (record { shared = h.shared; frames = tt; few = omega arith; calls = h.calls })

  -- with these calls open
  pub ready_in-small : (m : Marks) (s : State) (fs : List Frame) → FramesSmall s.calls fs × (length fs ≤ 12) → Small room s → NextSmall room (ready_in m s fs)
  unfolding ready_in state_with
  ready_in-small m s [] g h = read_input_small m s.input s h
  ready_in-small m s (f ∷ fs) g h = (state_with-small s none (f ∷ fs) s.shared h.shared g.0 g.1 h.calls, tt)

  -- with a line pending or none
  pub ready_for-small : (m : Marks) (s : State) (p : Option Bytes) → s.pending ≡ p → NextSmall room (running s) → NextSmall room (ready_for m s p)
  unfolding ready_for
  ready_for-small m s (some l) e h = h
  ready_for-small m s none e h = ready_in-small m s (unfinished s.frames) (unfinished-small s.calls s.frames h.0.frames h.0.few) h.0

  -- what comes without an event
  pub ready-small : (m : Marks) (s : State) → NextSmall room (running s) → NextSmall room (ready m s)
  unfolding ready
  ready-small m s h = ready_for-small m s s.pending refl h

-- a text whose templates have at most nine placeholders
module _ (room : Rooms) (t : Loaded) (nine : (i : ℕ) → count t.marks.placeholder (get_or (templates t.macros) i []) ≤ 9) where
  -- a line offered: the chosen reading's pieces are few and short
  pub offered_as-small : (l : Bytes) (s : State) (o : Option Reading) → chosen t.marks (templates t.macros) l ≡ o → length l ≤ 200 → s.calls < s.events → Small room s
      → NextSmall room (offered_as room t l s o)
  unfolding offered_as decided
  offered_as-small l s none e k c h = pass_through-small room l (decided none s) (decided-small room none s h)
  offered_as-small l s (some r) e k c h =
      let q = chosen-reads t.marks (templates t.macros) l r e in
      call-small room _ r.pieces (decided (some r.which) s) (fits_short t.marks 200 _ r.pieces l q.fits k)
      (omega (arith, nine r.which, fits_count t.marks _ r.pieces l q.fits)) c (decided-small room (some r.which) s h)

  -- an event, with a line pending or none
  pub event_for-small : (s : State) (p : Option Bytes) → s.pending ≡ p → NextSmall room (running s) → NextSmall room (event_for room t s p)
  unfolding event_for offered counted
  event_for-small s (some l) e h = offered_as-small l (counted s) (chosen t.marks (templates t.macros) l) refl (rw e at h.1) (omega (arith, h.0.calls))
      (record { shared = h.0.shared; frames = h.0.frames; few = h.0.few; calls = omega (arith, h.0.calls) })
  event_for-small s none e h = begin_line-small room t.marks s.frames (counted s) refl refl
      (record { shared = h.0.shared; frames = h.0.frames; few = h.0.few; calls = omega (arith, h.0.calls) })

  -- an event
  pub event-small : (s : State) → NextSmall room (running s) → NextSmall room (event room t s)
  unfolding event
  event-small s h = event_for-small s s.pending refl h

  -- any number of events
  pub after_small : (n : ℕ) (x : Next) → NextSmall room x → NextSmall room (after n room t x)
  unfolding after follow
  after_small zero (ended k s) h = h
  after_small zero (running s) h = ready-small room t.marks s h
  after_small (suc n) (ended k s) h = h
  after_small (suc n) (running s) h = by (ready t.marks s) (ready-small room t.marks s h) (λ x. after_small n x)
    where
      by : (r : Next) → NextSmall room r → ((x : Next) → NextSmall room x → NextSmall room (after n room t x))
          → NextSmall room (follow (λ s'. after n room t (event room t s')) r)
      by (ended k s') h ih = h
      by (running s') h ih = ih (event room t s') (event-small s' h)

  -- the first state
  pub first_small : NextSmall room (running (initial t))
  unfolding initial size no_output
  first_small = (
    record {
      shared = record { names = omega arith; bytes = omega arith; entries = tt; symbols = omega arith; first = omega arith; second = omega arith };
      frames = tt;
      few = omega arith;
      calls = omega arith;
    },
    tt,
  )

-- ---- the theorems

-- well nested calls have at most four open iterations
pub loops_few : (m : Marks) (fs : List Frame) → FramesOk m fs → LoopsFew fs
loops_few m [] h = tt
loops_few m (f ∷ fs) h = (nested-loops m f h.0, loops_few m fs h.1)

module _ (text : Bytes) (t : Loaded) (e : load text ≡ loaded t) (n : ℕ) (room : Rooms) where
  -- every state of a run
  pub run_small : NextSmall room (after n room t (running (initial t)))
  run_small = after_small room t (load_legal text t e).1.nine n (running (initial t)) (first_small room t (load_legal text t e).1.nine)

  -- the state just before an event
  pub running_small : (s : State) → after n room t (running (initial t)) ≡ running s → Small room s × PendingSmall s.pending × LoopsFew s.frames
  running_small s h =
      let k : NextSmall room (running s) = subst (NextSmall room) h run_small in
      (k.0, k.1, loops_few t.marks s.frames (subst (NextOk t.marks) h (run-nested text t n room e)))

  -- the last state
  pub ended_small : (k : ℕ) (s : State) → after n room t (running (initial t)) ≡ ended k s → Small room s × LoopsFew s.frames
  ended_small k s h = (subst (NextSmall room) h run_small, loops_few t.marks s.frames (subst (NextOk t.marks) h (run-nested text t n room e)))
