-- What each program prints: the room suffices, and the parts make the whole. Two of them are loops, over the pieces of a reading and
-- over the lines of a file.
use mathlib.Core.Path.{◌≡◌, refl, sym, ap, ap₂, subst, ◌∙◌}
use mathlib.Core.Logic.{◌⊎◌, ⊎_elim}
use mathlib.Core.List.{List, [], ◌∷◌, ◌++◌, append-nil, append_assoc}
use Prim.Native.Nat.{ℕ, zero, suc, ◌+◌, ◌*◌, ◌≤◌, ◌<◌, min}
use lib.Dec.{eqb}
use Rattle.std.specs.List.{IsFirstMatchOrLen}
use Rattle.std.specs.Option.{MatchOption, unwrap_or}
use Rattle.std.specs.Prelude.{Bool, true, false, ◌&&◌, ◌-◌, Option, None, Some}
use Rattle.std.proofs.Common.{Bor, true≢false}
use Rattle.std.proofs.lemmas.List.{take-append-le}
use lib.Pointwise.{pointwise}
use Rattle.std.proofs.lemmas.List.Sums.{position_or_len_is}
use native.Mathlib.Omega.{arith}
use lib.ListN.{length, get_or, take, drop, drop_of_length-le, length-append, take-append-drop}
use lib.Seq.{drop-cons, drop-append-le, length-take-le, take-length}
use Rattle.model.specs.declared.Checked.{Checked}
use Rattle.model.specs.declared.Fitted.{Fitted}
use Rattle.model.specs.declared.Ran.{Ran}
use Rattle.model.specs.Text.{Bytes, up_to, lines}
use Rattle.model.specs.Machine.{rooms, Result}
use Rattle.model.specs.Results.{check_text, fit_of_line, run_text, ran_as}
use Rattle.model.specs.Runs.{Runs}
use Rattle.scan.proofs.Lines.{lines_first, up_to_long, up_to_front}
use Rattle.model.specs.Printed.{spaced, end_row, expand_runs, run_printed, expand_prints, expand_writes, expand_reports, check_row, piece_row, fit_row, fit_rows, fit_prints}
use Rattle.model.proofs.Printed.{end-row-long, check-row-long, fit_prints_long}
use Rattle.rendering.specs.Prints.{RoomFor, Prints}
use Rattle.rendering.proofs.Prints.{prints_none, prints_as, prints_more, room_as, room_first, room_next, written_prints}
use Rattle.printed.specs.Leaves.{Leaves}

-- ---- what expand prints

-- a run in the first 65,536 bytes of out, in all of second, and in a report of 2,048 bytes
module _ (text out second : Bytes) {store report output' second' store' report' : Bytes} {r : Ran}
    (x : Runs (run_text 1000000 2048 51456 (rooms (length (take 65536 out)) (length second)) (length store) (length report) text) (take 65536 out) second store report r output' second' store' report')
    (h : 65603 ≤ length out) (s : length store ≡ 8704) (u : length report ≡ 2048) where
  whole : Result
  whole = expand_runs (length second) text

  -- with its rooms by their sizes
  sized : (a b c : ℕ) → Result
  sized a b c = run_text 1000000 2048 51456 (rooms a (length second)) b c text

  ran : Runs whole (take 65536 out) second store report r output' second' store' report'
  unfolding whole expand_runs sized
  ran = subst (λ (z : Result). Runs z (take 65536 out) second store report r output' second' store' report')
      (ap (λ (n : ℕ). sized n (length store) (length report)) (length-take-le 65536 out (omega arith))
      ∙ ap (λ (n : ℕ). sized 65536 n (length report)) s ∙ ap (sized 65536 8704) u) x

  module _ (kept : length output' ≡ length (take 65536 out)) where
    short : length whole.output.first ≤ 65536
    short =
        let a = ap (λ (l : Bytes). length l) ran.writes in
        let b = length-append whole.output.first (drop (length whole.output.first) (take 65536 out)) in
        let c = length-take-le 65536 out (omega arith) in
        omega arith

    out_written : Prints out 0 whole.output.first r.output (output' ++ drop 65536 out)
    unfolding ran_as
    out_written =
        let n : ℕ = length whole.output.first in
        let c = length-take-le 65536 out (omega arith) in
        let d = short in
        let e : r.output ≡ n = ap (λ (y : Ran). y.output) ran.is in
        written_prints (record {
          is = ap (λ (l : Bytes). l ++ drop 65536 out) ran.writes ∙ append_assoc whole.output.first (drop n (take 65536 out)) (drop 65536 out)
              ∙ ap (λ (l : Bytes). whole.output.first ++ l) (sym (drop-append-le n (take 65536 out) (drop 65536 out) (omega arith)) ∙ ap (λ (l : Bytes). drop n l) (take-append-drop 65536 out))
              ∙ ap (λ (k : ℕ). whole.output.first ++ drop k out) (sym e);
          long = sym e;
          fits = omega arith;
        })

    second_written : length second' ≡ length second → Prints second 0 whole.output.second r.second second'
    unfolding ran_as
    second_written l =
        let e : r.second ≡ length whole.output.second = ap (λ (y : Ran). y.second) ran.is in
        written_prints (record {
          is = ran.writes_second ∙ ap (λ (k : ℕ). whole.output.second ++ drop k second) (sym e);
          long = sym e;
          fits = omega (arith, ran.written_second);
        })

    report_written : length report' ≡ length report → Prints report 0 whole.report r.report report'
    unfolding ran_as
    report_written l =
        let e : r.report ≡ length whole.report = ap (λ (y : Ran). y.report) ran.is in
        written_prints (record {
          is = ran.reports ∙ ap (λ (k : ℕ). whole.report ++ drop k report) (sym e);
          long = sym e;
          fits = omega (arith, ran.reported);
        })

    pub run_leaves : length second' ≡ length second → length report' ≡ length report → Leaves (expand_runs (length second) text) out second report r (output' ++ drop 65536 out) second' report'
    unfolding whole
    run_leaves l m =
        let p = out_written in
        let e = end-row-long r.number r.line r.events in
        let d = short in
        record { is = ran.is; prints = p; writes = second_written l; reports = report_written m; room = record { fits = omega (arith, p.ends, p.long) } }

-- the output, then the row that ends it
pub run_prints : {out second report : Bytes} (n : ℕ) (text : Bytes) {r : Ran} {o p u : Bytes} → Leaves (expand_runs n text) out second report r o p u
    → {k : ℕ} {o' : Bytes} → Prints o r.output (end_row r.number r.line r.events) k o' → Prints out 0 (expand_prints n text) k o'
unfolding expand_prints run_printed ran_as
run_prints n text l p = prints_as (ap (λ (y : Ran). (expand_runs n text).output.first ++ end_row y.number y.line y.events) l.is) (prints_more l.prints p)

pub run_writes : {out second report : Bytes} (n : ℕ) (text : Bytes) {r : Ran} {o p u : Bytes} → Leaves (expand_runs n text) out second report r o p u → Prints second 0 (expand_writes n text) r.second p
unfolding expand_writes
run_writes n text l = l.writes

pub run_reports : {out second report : Bytes} (n : ℕ) (text : Bytes) {r : Ran} {o p u : Bytes} → Leaves (expand_runs n text) out second report r o p u → Prints report 0 (expand_reports n text) r.report u
unfolding expand_reports
run_reports n text l = l.reports

-- ---- a row of check_text

pub check_room : {o : Bytes} {w : ℕ} (name : Bytes) (x : Checked) → w + length name + 43 ≤ length o → RoomFor o w (check_row name x)
check_room name x h = record { fits = omega (arith, check-row-long name x) }

pub checked_prints : {o : Bytes} {w : ℕ} (name text : Bytes) (x : Checked) {r : ℕ} {o' : Bytes} → x ≡ check_text 2048 text → Prints o w (check_row name x) r o'
    → Prints o w (check_row name (check_text 2048 text)) r o'
checked_prints name text x e p = prints_as (ap (λ (y : Checked). check_row name y) e) p

-- ---- what is there, and what is left of a whole

left_room : {o : Bytes} {w : ℕ} {done all : Bytes} (s rest : Bytes) {k : ℕ} {o' : Bytes} → RoomFor o w all → Prints o w done k o' → done ++ (s ++ rest) ≡ all → RoomFor o' k s
left_room s rest h p e = room_first s rest (room_next (s ++ rest) (room_as (sym e) h) p)

left_more : (done s rest all : Bytes) → done ++ (s ++ rest) ≡ all → (done ++ s) ++ rest ≡ all
left_more done s rest all e = append_assoc done s rest ∙ e

-- ---- the pieces

-- some pieces are there; the starts ss' and the lengths ls' are left
pub record Piecing (o : Bytes) (w : ℕ) (ss ls ss' ls' : List ℕ) (k : ℕ) (o' : Bytes) : Type 0 where
  pub done : Bytes
  pub prints : Prints o w done k o'
  pub rest : done ++ piece_row ss' ls' ≡ piece_row ss ls

-- where no start is left, or no length, no piece is
no_pieces : (xs ys : List ℕ) → (length xs ≡ 0) ⊎ (length ys ≡ 0) → piece_row xs ys ≡ []
unfolding piece_row
no_pieces [] ys g = refl
no_pieces (x ∷ xs) [] g = refl
no_pieces (x ∷ xs) (y ∷ ys) g = absurd (⊎_elim (λ (a : suc (length xs) ≡ 0). omega arith) (λ (b : suc (length ys) ≡ 0). omega arith) g)

module _ {o : Bytes} {w : ℕ} {ss ls ss' ls' : List ℕ} {k : ℕ} {o' : Bytes} (p : Piecing o w ss ls ss' ls' k o') where
  module _ {s l : ℕ} {ss″ ls″ : List ℕ} (a : ss' ≡ s ∷ ss″) (b : ls' ≡ l ∷ ls″) where
    -- the next piece, and those after it
    next_piece : p.done ++ ((spaced s ++ spaced l) ++ piece_row ss″ ls″) ≡ piece_row ss ls
    unfolding piece_row
    next_piece = ap₂ (λ (x y : List ℕ). p.done ++ piece_row x y) (sym a) (sym b) ∙ p.rest

    pub piece_room : RoomFor o w (piece_row ss ls) → RoomFor o' k (spaced s ++ spaced l)
    piece_room h = left_room _ _ h p.prints next_piece

    pub piecing_more : {k₁ : ℕ} {o₁ : Bytes} → Prints o' k (spaced s ++ spaced l) k₁ o₁ → Piecing o w ss ls ss″ ls″ k₁ o₁
    piecing_more q = record { done = p.done ++ (spaced s ++ spaced l); prints = prints_more p.prints q; rest = left_more p.done _ _ _ next_piece }

  pub piecing_all : (length ss' ≡ 0) ⊎ (length ls' ≡ 0) → Prints o w (piece_row ss ls) k o'
  piecing_all h = prints_as (sym (append-nil p.done) ∙ ap (λ (x : Bytes). p.done ++ x) (sym (no_pieces ss' ls' h)) ∙ p.rest) p.prints

-- ---- the lines of a file

fits_room : {o : Bytes} (text file : Bytes) → 51 * (length file + 1) ≤ length o → RoomFor o 0 (fit_prints text file)
fits_room text file h = record { fits = omega (arith, fit_prints_long text file) }

-- the rows of some lines are there; the bytes `left` of the file are left
pub record Rowing (text file o left : Bytes) (k : ℕ) (o' : Bytes) : Type 0 where
  pub done : Bytes
  pub prints : Prints o 0 done k o'
  pub rest : done ++ fit_rows text (lines left) ≡ fit_prints text file

pub rowing_none : {text file o left : Bytes} → left ≡ file → Rowing text file o left 0 o
unfolding fit_prints
rowing_none {text} e = record { done = []; prints = prints_none (omega arith); rest = ap (λ (l : Bytes). fit_rows text (lines l)) e }

-- the line x comes first of what is left, and left' is left then
pub record Cuts (left x left' : Bytes) : Type 0 where
  pub is : lines left ≡ x ∷ lines left'

module _ {text file o left : Bytes} {k : ℕ} {o' : Bytes} (p : Rowing text file o left k o') {x left' : Bytes} (l : Cuts left x left') {f : Fitted}
    (e : f ≡ fit_of_line 2048 51456 text x) where
  -- the next row, and those after it
  next_row : p.done ++ (fit_row f ++ fit_rows text (lines left')) ≡ fit_prints text file
  unfolding fit_rows
  next_row =
      ap (λ (y : Fitted). p.done ++ (fit_row y ++ fit_rows text (lines left'))) e
      ∙ ap (λ (y : List Bytes). p.done ++ fit_rows text y) (sym l.is) ∙ p.rest

  pub row_room : 51 * (length file + 1) ≤ length o → RoomFor o' k (fit_row f)
  row_room h = left_room (fit_row f) _ (fits_room text file h) p.prints next_row

  pub rowing_more : {k₁ : ℕ} {o₁ : Bytes} → Prints o' k (fit_row f) k₁ o₁ → Rowing text file o left' k₁ o₁
  rowing_more q = record { done = p.done ++ fit_row f; prints = prints_more p.prints q; rest = left_more p.done _ _ _ next_row }

-- where no byte is left, no row is
no_rows : (text l : Bytes) → length l ≡ 0 → fit_rows text (lines l) ≡ []
unfolding fit_rows lines
no_rows text [] g = refl
no_rows text (b ∷ l) g = absurd (omega arith)

pub rowing_all : {text file o left : Bytes} {k : ℕ} {o' : Bytes} → Rowing text file o left k o' → length left ≡ 0 → Prints o 0 (fit_prints text file) k o'
rowing_all {text} {left = left} p h = prints_as (sym (append-nil p.done) ∙ ap (λ (x : Bytes). p.done ++ x) (sym (no_rows text left h)) ∙ p.rest) p.prints

-- a list without its front, and perhaps with less
drop_past : (x rest : Bytes) (n : ℕ) → length x ≤ n → (length x < n → length rest ≡ 0) → drop n (x ++ rest) ≡ rest
drop_past [] rest zero h g = refl
drop_past [] [] (suc n) h g = refl
drop_past [] (b ∷ r) (suc n) h g = absurd (omega (arith, g (omega arith)))
drop_past (b ∷ x) rest zero h g = absurd (omega arith)
drop_past (b ∷ x) rest (suc n) h g = drop_past x rest n (omega arith) (λ k. g (omega arith))

-- the front of a whole
get_front : (x rest : Bytes) (k d : ℕ) → k < length x → get_or (x ++ rest) k d ≡ get_or x k d
get_front [] rest k d h = absurd (omega arith)
get_front (b ∷ x) rest zero d h = refl
get_front (b ∷ x) rest (suc k) d h = get_front x rest k d (omega arith)

le_unless : (a b : ℕ) → (a < b → suc zero ≤ zero) → b ≤ a
le_unless a zero f = omega arith
le_unless zero (suc b) f = absurd (omega (arith, f (omega arith)))
le_unless (suc a) (suc b) f = let r : b ≤ a = le_unless a b (λ h. f (omega arith)) in omega arith

and_true : (b : Bool) → b && true ≡ b
and_true true = refl
and_true false = refl

-- what std's split_inclusive gives: a part x of what is left, past its first byte 10, at i, or to the end
module _ (left left' x : Bytes) (i : ℕ) (e : left ≡ x ++ left') (n : length x ≡ min (i + 1) (length left)) (z : 0 < length left) (m : IsFirstMatchOrLen (λ b. eqb b 10) left i) where
  long : length left ≡ length x + length left'
  long = ap length e ∙ length-append x left'

  first_long : length (up_to 10 left) ≡ min i (length left)
  first_long =
      up_to_long 10 left ∙ position_or_len_is (λ b. eqb b 10) left (min i (length left)) 0 (omega arith) (λ k h. m.0 k 0 (omega arith) (omega arith))
      (λ h. let q : min i (length left) ≡ i = omega arith in rw q (m.1 (omega arith) 0))

  pub cuts_first : Cuts left (up_to 10 left) left'
  cuts_first =
      let l : length left ≡ length x + length left' = long in
      let f : length (up_to 10 left) ≡ min i (length left) = first_long in
      record {
        is = lines_first left z ∙ ap (λ (y : Bytes). up_to 10 left ∷ lines y)
            (ap (λ (y : Bytes). drop (suc (length (up_to 10 left))) y) e ∙ drop_past x left' (suc (length (up_to 10 left))) (omega arith) (λ h. omega arith));
      }

  -- the test of its last byte
  last_is : pointwise eqb (drop (length x - 1) x) (10 ∷ []) ≡ eqb (get_or left (length x - 1) 0) 10
  last_is =
      let h : length x - 1 < length x = omega (arith, long) in
      let a = drop-cons x (length x - 1) 0 h in
      let b : drop (suc (length x - 1)) x ≡ [] = drop_of_length-le x {i = suc (length x - 1)} (omega arith) in
      ap (λ (y : Bytes). pointwise eqb y (10 ∷ [])) (a ∙ ap (λ (y : Bytes). get_or x (length x - 1) 0 ∷ y) b)
      ∙ and_true (eqb (get_or x (length x - 1) 0) 10)
      ∙ ap (λ (y : ℕ). eqb y 10) (sym (get_front x left' (length x - 1) 0 h) ∙ sym (ap (λ (y : Bytes). get_or y (length x - 1) 0) e))

  front : (k : ℕ) → length (up_to 10 left) ≡ k → k ≤ length x → up_to 10 left ≡ take k x
  front k q h = up_to_front 10 left ∙ ap (λ (j : ℕ). take j left) q ∙ ap (λ (y : Bytes). take k y) e ∙ take-append-le k x left' h

  -- without its byte 10 it is the first line
  strip_some : pointwise eqb (drop (length x - 1) x) (10 ∷ []) ≡ true → take (length x - 1) x ≡ up_to 10 left
  strip_some t =
      let l : length left ≡ length x + length left' = long in
      sym (front (length x - 1) (up_to_long 10 left ∙ position_or_len_is (λ b. eqb b 10) left (length x - 1) 0 (omega arith) (λ k h. m.0 k 0 (omega arith) (omega arith)) (λ h. sym last_is ∙ t)) (omega arith))

  -- and so it is where it has none
  strip_none : pointwise eqb (drop (length x - 1) x) (10 ∷ []) ≡ false → x ≡ up_to 10 left
  strip_none t =
      let l : length left ≡ length x + length left' = long in
      let f : length (up_to 10 left) ≡ min i (length left) = first_long in
      let k : i < length left → suc zero ≤ zero = λ h.
      let q : length x - 1 ≡ i = omega arith in
      let u : eqb (get_or left (length x - 1) 0) 10 ≡ true = rw q (m.1 h 0) in
      absurd (true≢false (sym u ∙ sym last_is ∙ t)) in
      let g : length left ≤ i = le_unless i (length left) k in
      sym (front (length x) (omega arith) (omega arith) ∙ take-length x)

  pub stripped : (o : Option (Bor Bytes)) (y : Bor Bytes) → y.now ≡ x
      → MatchOption o (pointwise eqb (drop (length x - 1) x) (10 ∷ []) ≡ false) (λ v. (pointwise eqb (drop (length x - 1) x) (10 ∷ []) ≡ true) × (v.now ≡ take (length x - 1) x) × (length v.now + 1 ≡ length x))
      → (unwrap_or o y).now ≡ up_to 10 left
  stripped None y g c = g ∙ strip_none c
  stripped (Some v) y g c = c.1 ∙ strip_some c.0
