-- How long the rows are that the programs print. The theorems, at the end: end-row-long, check-row-long, fit_prints_long.
use mathlib.Core.Path.{◌≡◌, refl, subst}
use mathlib.Core.Bool.{Bool, not, ◌&&◌, ◌||◌}
use mathlib.Core.Option.{Option, none, some}
use mathlib.Core.List.{List, [], ◌∷◌, ◌++◌, map}
use Prim.Native.Nat.{ℕ, zero, suc, ◌+◌, ◌-◌, ◌*◌, ◌/◌, ◌^◌, ◌≤◌, ◌<◌}
use native.Mathlib.Omega.{arith}
use native.Mathlib.Nat.{pow-suc, suc-mul, mul-le-mul, mul-le-mul_right}
use borrow.Author.Tests.{ltb-true, ltb-false, ne_eqb, eq-eqb}
use lib.Dec.{eqb, ltb}
use lib.ListN.{length, get_or, drop, replicate, length-append, length-replicate}
use Rattle.model.specs.declared.Marks.{Marks}
use Rattle.model.specs.declared.Checked.{Checked}
use Rattle.model.specs.declared.Fitted.{Fitted}
use Rattle.model.specs.Text.{Bytes, has, starts_with, onto_first, lines, marks_of}
use Rattle.model.specs.Reading.{Pieces, Reading, chosen}
use Rattle.model.specs.Store.{digits_of, decimal}
use Rattle.model.specs.Load.{Macro, no_macro, templates, nodes, Progress, Seen, fault, more, section_ends, lowest, count, template_fault, unless, template_line, code_line, after_line, line_seen, Loaded, Load, refused, loaded, lowest_at, load_on, load_from, none_read, load_lines, load}
use Rattle.model.specs.Places.{places_taken, bytes_read}
use Rattle.model.specs.Results.{short_row, short_dead, starts_of, nine, without_pieces, fitted_as, fitted_in, fit_of_line}
use Rattle.model.specs.Fitting.{Fits, end, literal, placeholder}
use Rattle.model.specs.Printed.{spaced, end_row, check_row, piece_row, fit_row, fit_rows, fit_prints}
use Rattle.model.proofs.Choices.{both, split, or_false}
use Rattle.model.proofs.Loading.{load_legal, loaded_chosen}
use Rattle.model.proofs.Input.{macro_line}
use Rattle.model.proofs.Places.{few_read, loaded_places}

-- ---- numbers in decimal

-- a number below 10 to the power of a count has at most so many digits
digits_few : (f n k : ℕ) → n < 10 ^ suc k → length (digits_of f n) ≤ suc k
unfolding digits_of
digits_few zero n k h = omega arith
digits_few (suc f) n zero h = split (λ (l : Bytes). length l ≤ 1) (ltb n 10) _ _ (λ e. omega arith) (λ e. absurd (omega (arith, ltb-false n 10 e)))
digits_few (suc f) n (suc k) h =
    let p = pow-suc 10 (suc k) in
    let q = digits_few f (n / 10) k (omega arith) in
    both (λ (l : Bytes). length l ≤ suc (suc k)) (ltb n 10) _ _ (omega arith) (simp length-append (omega arith))

-- whatever the number is
digits-most : (f n : ℕ) → length (digits_of f n) ≤ f
unfolding digits_of
digits-most zero n = omega arith
digits-most (suc f) n =
    both (λ (l : Bytes). length l ≤ suc f) (ltb n 10) _ _ (omega arith) (let q = digits-most f (n / 10) in simp length-append (omega arith))

pub decimal_most : (n : ℕ) → length (decimal n) ≤ 20
unfolding decimal
decimal_most n = digits-most 20 n

pub spaced_most : (n : ℕ) → length (spaced n) ≤ 21
unfolding spaced
spaced_most n = omega (arith, decimal_most n)

pub decimal_few : (k n : ℕ) → n < 10 ^ suc k → length (decimal n) ≤ suc k
unfolding decimal
decimal_few k n h = digits_few 20 n k h

spaced_few : (k n : ℕ) → n < 10 ^ suc k → length (spaced n) ≤ suc (suc k)
unfolding spaced
spaced_few k n h = omega (arith, decimal_few k n h)

-- ---- the lines of a file

-- the bytes of lines, each with a byte 10
spread : List Bytes → ℕ
spread [] = 0
spread (l ∷ ls) = length l + 1 + spread ls

-- all bytes of a file, and a byte 10 that may be missing from its last line
lines_spread : (s : Bytes) → spread (lines s) ≤ length s + 1
unfolding lines onto_first spread
lines_spread [] = omega arith
lines_spread (b ∷ s) =
    both (λ (l : List Bytes). spread l ≤ suc (length s) + 1) (eqb b 10) ([] ∷ lines s) (onto_first b (lines s)) (omega (arith, lines_spread s)) (onto-first (lines s) (lines_spread s))
  where
    onto-first : (ls : List Bytes) → spread ls ≤ length s + 1 → spread (onto_first b ls) ≤ suc (length s) + 1
    onto-first [] h = omega arith
    onto-first (l ∷ ls) h = omega arith

lines-count : (ls : List Bytes) → length ls ≤ spread ls
unfolding spread
lines-count [] = omega arith
lines-count (l ∷ ls) = omega (arith, lines-count ls)

-- ---- a text that is refused

-- its number is at most 9, and its line at most that of the last
abbrev RefusedLow : ℕ → Load → Type 0
RefusedLow most (refused k n) = (k ≤ 9) × (n ≤ most)
RefusedLow most (loaded t) = Unit {0}

abbrev FaultLow : Seen → Type 0
FaultLow (fault k) = k ≤ 9
FaultLow (more r) = Unit {0}
FaultLow section_ends = Unit {0}

-- the lowest of some causes
abbrev AllLow : List (Bool × ℕ) → Type 0
AllLow [] = Unit {0}
AllLow (c ∷ cs) = (c.1 ≤ 9) × AllLow cs

lowest_low : (cs : List (Bool × ℕ)) (r : Progress) → AllLow cs → FaultLow (unless (lowest cs) r)
unfolding lowest unless
lowest_low [] r h = tt
lowest_low (c ∷ cs) r h = both (λ (o : Option ℕ). FaultLow (unless o r)) c.0 _ _ h.0 (lowest_low cs r h.1)

-- any line's fault
line_seen_low : (m : Marks) (r : Progress) (n : ℕ) (l : Bytes) (ls : List Bytes) → FaultLow (line_seen m r n l ls)
unfolding line_seen after_line code_line template_line template_fault
line_seen_low m r n l ls =
    both FaultLow r.in_body _ _
    (both FaultLow (starts_with m.code l) _ _
    (both FaultLow (eqb r.opened 0 && not r.due) _ _ (both FaultLow (starts_with m.code (drop 1 l)) _ _ tt tt) (omega arith))
    (lowest_low _ _ (omega arith, (omega arith, (omega arith, tt)))))
    (lowest_low _ _ (omega arith, (omega arith, (omega arith, (omega arith, tt)))))

-- at the last line the number may be lower
lowest_at_low : (ls : List Bytes) (k : ℕ) → k ≤ 9 → lowest_at ls k ≤ 9
unfolding lowest_at
lowest_at_low [] k h = omega arith
lowest_at_low (l ∷ ls) k h = h

-- all lines
load_from_low : (m : Marks) (most : ℕ) (ls : List Bytes) (r : Progress) (n : ℕ) → n + length ls ≤ most → RefusedLow most (load_from m r n ls)
unfolding load_from load_on
load_from_low m most [] r n h = (omega arith, omega arith)
load_from_low m most (l ∷ ls) r n h = by (line_seen m r (n + 1) l ls) (line_seen_low m r (n + 1) l ls) (λ r'. load_from_low m most ls r' (n + 1) (omega arith))
  where
    by : (s : Seen) → FaultLow s → ((r' : Progress) → RefusedLow most (load_from m r' (n + 1) ls))
        → RefusedLow most (load_on m r.macros (n + 1) ls (λ r'. load_from m r' (n + 1) ls) s)
    by (fault k) e ih = (lowest_at_low ls k e, omega arith)
    by (more r') e ih = ih r'
    by section_ends e ih = tt

-- every load: a text of 65,536 bytes has at most 65,537 lines
load_low : (text : Bytes) → RefusedLow 65537 (load text)
unfolding load load_lines
load_low text =
    split (RefusedLow 65537) (ltb 65536 (length text) || has 0 text) _ _ (λ e. (omega arith, omega arith))
    (λ e. through_lines (lines text) (omega (arith, ltb-false 65536 (length text) (or_false (ltb 65536 (length text)) (has 0 text) e).0, lines_spread text, lines-count (lines text))))
  where
    through_lines : (ls : List Bytes) → length ls ≤ 65537 → RefusedLow 65537 (load_lines ls)
    through_lines [] h = (omega arith, omega arith)
    through_lines (f ∷ ls) h = by_marks (marks_of f)
      where
        by_marks : (o : Option Marks) → RefusedLow 65537 (elim o [ none ↦ refused 3 1 | some m ↦ load_from m none_read 1 ls ])
        by_marks none = (omega arith, omega arith)
        by_marks (some m) = load_from_low m 65537 ls none_read 1 (omega arith)

-- ---- the pieces of a reading

-- no number is above n
abbrev Below : ℕ → List ℕ → Type 0
Below n [] = Unit {0}
Below n (x ∷ xs) = (x ≤ n) × Below n xs

below-zeros : (n k : ℕ) (ns : List ℕ) → Below n ns → Below n (ns ++ replicate k 0)
below-zeros n zero [] h = tt
below-zeros n (suc k) [] h = (omega arith, below-zeros n k [] tt)
below-zeros n k (x ∷ ns) h = (h.0, below-zeros n k ns h.1)

below-nine : (n : ℕ) (ns : List ℕ) → Below n ns → Below n (nine ns)
unfolding nine
below-nine n ns h = below-zeros n (9 - length ns) ns h

nine-long : (ns : List ℕ) → length ns ≤ 9 → length (nine ns) ≤ 9
unfolding nine
nine-long ns h = simp (length-append, length-replicate) (omega arith)

-- where pieces start in a line of which n is past the end
starts_below : {m : Marks} {t : Bytes} {ps : Pieces} {s : Bytes} (at n : ℕ) → Fits m t ps s → at + length s ≤ n → Below n (starts_of m at t ps)
unfolding starts_of
starts_below at n end h = tt
starts_below {m} at n (literal b t ps s ne f) h = by ps (starts_below (suc at) n f (omega arith))
  where
    by : (qs : Pieces) → Below n (starts_of m (suc at) t qs) → Below n (starts_of m at (b ∷ t) qs)
    by [] k = tt
    by (q ∷ qs) k = rw (ne_eqb b m.placeholder ne, starts_of) k
starts_below {m} at n (placeholder b t p ps s e g f) h =
    let l = length-append p s in
    rw (eq-eqb b m.placeholder e, starts_of) (omega arith, starts_below (at + length p) n f (omega arith))

-- and how long they are
lengths_below : {m : Marks} {t : Bytes} {ps : Pieces} {s : Bytes} (n : ℕ) → Fits m t ps s → length s ≤ n → Below n (map (λ p. length p) ps)
lengths_below n end h = tt
lengths_below n (literal b t ps s ne f) h = lengths_below n f (omega arith)
lengths_below n (placeholder b t p ps s e g f) h = let l = length-append p s in (omega arith, lengths_below n f (omega arith))

-- there is one for each placeholder
starts_count : {m : Marks} {t : Bytes} {ps : Pieces} {s : Bytes} (at : ℕ) → Fits m t ps s → length (starts_of m at t ps) ≤ count m.placeholder t
unfolding starts_of count
starts_count at end = omega arith
starts_count {m} at (literal b t ps s ne f) = by ps (starts_count (suc at) f)
  where
    by : (qs : Pieces) → length (starts_of m (suc at) t qs) ≤ count m.placeholder t → length (starts_of m at (b ∷ t) qs) ≤ count m.placeholder (b ∷ t)
    by [] k = omega arith
    by (q ∷ qs) k = rw (ne_eqb b m.placeholder ne, starts_of, count) k
starts_count {m} at (placeholder b t p ps s e g f) = rw (eq-eqb b m.placeholder e, starts_of, count) (omega (arith, starts_count (at + length p) f))

-- ---- what fitting a line answers

template_at : (ms : List Macro) (i : ℕ) → get_or (templates ms) i [] ≡ (get_or ms i no_macro).template
unfolding templates no_macro
template_at [] i = refl
template_at (x ∷ ms) zero = refl
template_at (x ∷ ms) (suc i) = template_at ms i

-- an answer for a line: its numbers are small, and no start or length is above n
record FittedLow (line : Bytes) (n : ℕ) (f : Fitted) : Type 0 where
  number : f.number ≤ 11
  single : length line ≤ 200 → f.number ≤ 9
  place : f.line ≤ 65537
  few : length f.start ≤ 9
  starts : Below n f.start
  lengths : Below n f.length
  places : f.places ≤ 2048 * suc (length line)
  most_places : f.places ≤ 411648
  bytes : f.bytes ≤ f.places * length line
  most_bytes : f.bytes ≤ 82329600

no_pieces_low : {line : Bytes} {k n : ℕ} → k ≤ 11 → (length line ≤ 200 → k ≤ 9) → n ≤ 65537 → FittedLow line 0 (without_pieces k n)
unfolding without_pieces
no_pieces_low a b c = record {
  number = a;
  single = b;
  place = c;
  few = nine-long [] (omega arith);
  starts = below-nine 0 [] tt;
  lengths = below-nine 0 [] tt;
  places = omega arith;
  most_places = omega arith;
  bytes = omega arith;
  most_bytes = omega arith;
}

-- n is neither above the line's length nor above 200
abbrev FittedShort : Bytes → Fitted → Type 0
FittedShort line f = (n : ℕ) × (n ≤ length line) × (n ≤ 200) × FittedLow line n f

module _ (text : Bytes) (line : Bytes) where
  -- the places and the bytes of a text that loads, with as many nodes as there may be
  places_low : (t : Loaded) → load text ≡ loaded t → length line ≤ 200 → (places_taken t.marks (templates t.macros) line ≤ 2048 * suc (length line)) × (places_taken t.marks (templates t.macros) line ≤ 411648)
  places_low t e h =
      let a = loaded_places text t e line in
      let b = mul-le-mul_right {m = nodes t.macros} {n = 2048} (suc (length line)) (load_legal text t e).1.tree in
      (omega (arith, a, b), omega (arith, a, b))

  bytes_low : (t : Loaded) → load text ≡ loaded t → length line ≤ 200 → bytes_read t.marks (templates t.macros) line ≤ 82329600
  bytes_low t e h =
      let a = few_read t.marks (templates t.macros) line in
      let b = mul-le-mul {n₁ = places_taken t.marks (templates t.macros) line} {m₁ = length line} {n₂ = 411648} {m₂ = 200} (places_low t e h).1 h in
      omega (arith, a, b)

  fitted_low : (t : Loaded) → load text ≡ loaded t → length line ≤ 200 → (o : Option Reading) → chosen t.marks (templates t.macros) line ≡ o
      → FittedShort line (fitted_as t o (places_taken t.marks (templates t.macros) line) (bytes_read t.marks (templates t.macros) line))
  unfolding fitted_as
  fitted_low t e h none q =
      let (a, b) = places_low t e h in (
        0,
        omega arith,
        omega arith,
        record {
          number = omega arith;
          single = λ _. omega arith;
          place = omega arith;
          few = nine-long [] (omega arith);
          starts = below-nine 0 [] tt;
          lengths = below-nine 0 [] tt;
          places = a;
          most_places = b;
          bytes = few_read t.marks (templates t.macros) line;
          most_bytes = bytes_low t e h;
        },
      )
  fitted_low t e h (some r) q =
      let i : ℕ = r.which in
      let x : Macro = get_or t.macros i no_macro in
      let f : Fits t.marks x.template r.pieces line =
      subst (λ (u : Bytes). Fits t.marks u r.pieces line) (template_at t.macros i) (loaded_chosen text t e line r q).reads.fits in
      let c : count t.marks.placeholder x.template ≤ 9 = subst (λ (u : Bytes). count t.marks.placeholder u ≤ 9) (template_at t.macros i) ((load_legal text t e).1.nine i) in
      let l = macro_line text t e i in
      let (a, b) = places_low t e h in (
        length line,
        omega arith,
        h,
        record {
          number = omega arith;
          single = λ _. omega arith;
          place = omega arith;
          few = nine-long _ (omega (arith, starts_count 0 f));
          starts = below-nine (length line) _ (starts_below 0 (length line) f (omega arith));
          lengths = below-nine (length line) _ (lengths_below (length line) f (omega arith));
          places = a;
          most_places = b;
          bytes = few_read t.marks (templates t.macros) line;
          most_bytes = bytes_low t e h;
        },
      )

  fitted_in_low : (x : Load) → load text ≡ x → RefusedLow 65537 x → FittedShort line (fitted_in line x)
  unfolding fitted_in
  fitted_in_low (refused k n) e h = (0, omega arith, omega arith, no_pieces_low (omega (arith, h.0)) (λ _. h.0) h.1)
  fitted_in_low (loaded t) e h =
      split (FittedShort line) (ltb 200 (length line)) _ _
      (λ u. (0, omega arith, omega arith, no_pieces_low (omega arith) (λ v. absurd (omega (arith, ltb-true 200 (length line) u))) (omega arith)))
      (λ u. fitted_low t e (ltb-false 200 (length line) u) (chosen t.marks (templates t.macros) line) refl)

  fit_low : FittedShort line (fit_of_line 2048 51456 text line)
  unfolding fit_of_line short_row short_dead
  fit_low = fitted_in_low (load text) refl (load_low text)

-- ---- rows

-- the pieces take at most so many bytes for each number
piece_row-long : (n d : ℕ) → ((x : ℕ) → x ≤ n → length (spaced x) ≤ d) → (ss ls : List ℕ) → Below n ss → Below n ls → length (piece_row ss ls) ≤ length ss * (d + d)
unfolding piece_row
piece_row-long n d w [] ls h k = omega arith
piece_row-long n d w (s ∷ ss) [] h k = omega arith
piece_row-long n d w (s ∷ ss) (l ∷ ls) h k =
    let ih = piece_row-long n d w ss ls h.1 k.1 in
    let a = w s h.0 in
    let b = w l k.0 in
    let m = suc-mul (length ss) (d + d) in
    simp length-append (omega arith)

-- a row of fit_line: 51 bytes for each byte of the line, and for its end
fit_row-long : (line : Bytes) (f : Fitted) → FittedShort line f → length (fit_row f) ≤ 51 * (length line + 1)
unfolding fit_row
fit_row-long [] f (n, z, w, h) =
    let a = decimal_few 0 f.number (omega (arith, h.single (omega arith))) in
    let b = spaced_few 4 f.line (omega (arith, h.place)) in
    let c = piece_row-long n 2 (λ x u. spaced_few 0 x (omega arith)) f.start f.length h.starts h.lengths in
    let d = h.few in
    let e = spaced_few 3 f.places (omega (arith, h.places)) in
    let g = spaced_few 0 f.bytes (omega (arith, h.bytes)) in
    simp length-append (omega arith)
fit_row-long (x ∷ line) f (n, z, w, h) =
    let a = decimal_few 1 f.number (omega (arith, h.number)) in
    let b = spaced_few 4 f.line (omega (arith, h.place)) in
    let c = piece_row-long n 4 (λ x u. spaced_few 2 x (omega arith)) f.start f.length h.starts h.lengths in
    let d = h.few in
    let e = spaced_few 5 f.places (omega (arith, h.most_places)) in
    let g = spaced_few 7 f.bytes (omega (arith, h.most_bytes)) in
    simp length-append (omega arith)

fit_rows_long : (text : Bytes) (ls : List Bytes) → length (fit_rows text ls) ≤ 51 * spread ls
unfolding fit_rows spread
fit_rows_long text [] = omega arith
fit_rows_long text (l ∷ ls) =
    let a = fit_row-long l (fit_of_line 2048 51456 text l) (fit_low text l) in
    let b = fit_rows_long text ls in
    simp length-append (omega arith)

-- ---- the theorems

-- the last row of expand
pub end-row-long : (k n e : ℕ) → length (end_row k n e) ≤ 67
unfolding end_row
end-row-long k n e = simp length-append (omega (arith, spaced_most k, spaced_most n, spaced_most e))

-- a row of check_text
pub check-row-long : (name : Bytes) (c : Checked) → length (check_row name c) ≤ length name + 43
unfolding check_row
check-row-long name c = simp length-append (omega (arith, spaced_most c.number, spaced_most c.line))

-- all that fit_line prints
pub fit_prints_long : (text file : Bytes) → length (fit_prints text file) ≤ 51 * (length file + 1)
unfolding fit_prints
fit_prints_long text file = omega (arith, fit_rows_long text (lines file), lines_spread file)
