-- The report row by row: each row has room, and the rows make the whole.
use mathlib.Core.Path.{◌≡◌, refl, sym, ap, ap₂, ◌∙◌}
use mathlib.Core.Logic.{◌⊎◌, ⊎_elim}
use mathlib.Core.List.{List, [], ◌∷◌, ◌++◌, append_assoc, append-nil}
use Prim.Native.Nat.{ℕ, zero, suc, ◌+◌, ◌*◌, ◌≤◌, ◌<◌}
use native.Mathlib.Omega.{arith}
use native.Mathlib.Numerals.{add-one}
use lib.ListN.{length, get_or, take, drop, length-append, length-drop}
use lib.Seq.{take-suc, length-take-le, take-length, get_or-take}
use Rattle.model.specs.Limits.{text_most, macros_most, fuel_most, report_least}
use Rattle.model.specs.declared.Marks.{Marks}
use Rattle.model.specs.Text.{Bytes}
use Rattle.model.specs.Store.{decimal}
use Rattle.model.specs.Load.{Macro, no_macro}
use Rattle.model.specs.Report.{Row, use_rows, report_rows, row_bytes, rows_bytes, report_head, report_bytes}
use Rattle.model.proofs.Printed.{decimal_few}
use Rattle.macros.specs.declared.Entry.{Entry}
use Rattle.macros.specs.declared.Table.{Table}
use Rattle.macros.specs.Table.{no_entry, macros_in}
use Rattle.macros.proofs.Entries.{macros_in_length, macros_in_at}
use Rattle.rendering.specs.Prints.{RoomFor, Prints}
use Rattle.rendering.proofs.Prints.{prints_none, prints_as, prints_more, prints_4, prints_written, room_as, room_1, room_2, room_3, room_4}
use Rattle.usage.specs.Counts.{ReadyToReport, OnLines, PrintsReport}

-- ---- a row

module _ (line count : ℕ) where
  -- its four parts
  row_is : row_bytes (line, count) ≡ decimal line ++ (44 ∷ []) ++ decimal count ++ (10 ∷ [])
  unfolding row_bytes
  row_is = sym (append_assoc (decimal line ++ (44 ∷ [])) (decimal count) (10 ∷ []) ∙ append_assoc (decimal line) (44 ∷ []) (decimal count ++ (10 ∷ [])))

  -- it has at most 14 bytes
  row-long : line ≤ text_most → count ≤ fuel_most → length (row_bytes (line, count)) ≤ 14
  unfolding row_bytes
  row-long h k = simp length-append (omega (arith, decimal_few 4 line (omega arith), decimal_few 6 count (omega arith)))

  -- the room for each part; a is the line's number, and b the count
  module _ {o : Bytes} {w : ℕ} (h : RoomFor o w (row_bytes (line, count))) {a : ℕ} (e : a ≡ line) where
    row_parts : {b : ℕ} → b ≡ count → RoomFor o w (decimal a ++ (44 ∷ []) ++ decimal b ++ (10 ∷ []))
    row_parts f = rw (e, f) (room_as row_is h)

    pub row_line : RoomFor o w (decimal a)
    row_line = room_1 (decimal a) (44 ∷ []) (decimal count) (10 ∷ []) (row_parts refl)

    module _ {i : ℕ} {o₁ : Bytes} (p : Prints o w (decimal a) i o₁) where
      pub row_comma : RoomFor o₁ i (44 ∷ [])
      row_comma = room_2 (decimal a) (44 ∷ []) (decimal count) (10 ∷ []) (row_parts refl) p

      module _ {j : ℕ} {o₂ : Bytes} (q : Prints o₁ i (44 ∷ []) j o₂) {b : ℕ} (f : b ≡ count) where
        pub row_count : RoomFor o₂ j (decimal b)
        row_count = room_3 (decimal a) (44 ∷ []) (decimal b) (10 ∷ []) (row_parts f) p q

        pub row_end : {k : ℕ} {o₃ : Bytes} → Prints o₂ j (decimal b) k o₃ → RoomFor o₃ k (10 ∷ [])
        row_end r = room_4 (decimal a) (44 ∷ []) (decimal b) (10 ∷ []) (row_parts f) p q r

  -- what they make
  pub row_prints : {o : Bytes} {w a b i j k l : ℕ} {o₁ o₂ o₃ o₄ : Bytes} → a ≡ line → b ≡ count
      → Prints o w (decimal a) i o₁ → Prints o₁ i (44 ∷ []) j o₂ → Prints o₂ j (decimal b) k o₃ → Prints o₃ k (10 ∷ []) l o₄ → Prints o w (row_bytes (line, count)) l o₄
  row_prints e f p q r s = prints_as (ap₂ (λ (x y : ℕ). decimal x ++ (44 ∷ []) ++ decimal y ++ (10 ∷ [])) e f ∙ sym row_is) (prints_4 p q r s)

-- ---- the rows

-- a row more
rows_last : (rs : List Row) (r : Row) → rows_bytes (rs ++ (r ∷ [])) ≡ rows_bytes rs ++ row_bytes r
unfolding rows_bytes
rows_last [] r = append-nil (row_bytes r)
rows_last (q ∷ rs) r = ap (λ (l : Bytes). row_bytes q ++ l) (rows_last rs r) ∙ sym (append_assoc (row_bytes q) (rows_bytes rs) (row_bytes r))

-- the row of one template more
uses_last : (ms : List Macro) (x : Macro) (ns : List ℕ) (n : ℕ) → length ns ≡ length ms → use_rows (ms ++ (x ∷ [])) (ns ++ (n ∷ [])) ≡ use_rows ms ns ++ ((x.line, n) ∷ [])
unfolding use_rows
uses_last [] x [] n e = refl
uses_last [] x (c ∷ ns) n e = absurd (omega arith)
uses_last (y ∷ ms) x [] n e = absurd (omega arith)
uses_last (y ∷ ms) x (c ∷ ns) n e = ap (λ (l : List Row). (y.line, c) ∷ l) (uses_last ms x ns n (omega arith))

-- the rows of the first k macros
pub rows_of : List Entry → List ℕ → ℕ → List Row
rows_of es counts zero = []
rows_of es counts (suc k) = rows_of es counts k ++ (((get_or es k no_entry).line, get_or counts k 0) ∷ [])

-- whatever their templates and bodies are
rows_are : {ms : List Macro} {es : List Entry} → OnLines ms es → (counts : List ℕ) (k : ℕ) → k ≤ length es → k ≤ length counts
    → use_rows (take k ms) (take k counts) ≡ rows_of es counts k
unfolding rows_of use_rows
rows_are o counts zero u v = refl
rows_are {ms} {es} o counts (suc k) u v =
    let l : length (take k counts) ≡ length (take k ms) = omega (arith, length-take-le k counts (omega arith), length-take-le k ms (omega (arith, o.as_many))) in
    let e = uses_last (take k ms) (get_or ms k no_macro) (take k counts) (get_or counts k 0) l in
    rw (take-suc ms k no_macro (omega (arith, o.as_many)), take-suc counts k 0, e, rows_are o counts k (omega arith) (omega arith), o.same k u)

rows_all : {ms : List Macro} {es : List Entry} → OnLines ms es → (counts : List ℕ) → length es ≤ length counts → use_rows ms (take (length es) counts) ≡ rows_of es counts (length es)
rows_all {ms} {es} o counts h =
    ap (λ (l : List Macro). use_rows l (take (length es) counts)) (sym (take-length ms) ∙ ap (λ (n : ℕ). take n ms) o.as_many) ∙ rows_are o counts (length es) (omega arith) h

-- one macro more
rows_more : (es : List Entry) (counts : List ℕ) (k : ℕ) → rows_bytes (rows_of es counts (k + 1)) ≡ rows_bytes (rows_of es counts k) ++ row_bytes ((get_or es k no_entry).line, get_or counts k 0)
unfolding rows_of
rows_more es counts k = rw add-one (rows_last (rows_of es counts k) ((get_or es k no_entry).line, get_or counts k 0))

-- each has at most 14 bytes
rows_short : {es : List Entry} {counts : List ℕ} {o : Bytes} → ReadyToReport es counts o → (k : ℕ) → k ≤ length es → length (rows_bytes (rows_of es counts k)) ≤ 14 * k
unfolding rows_of rows_bytes
rows_short g zero h = omega arith
rows_short {es} {counts} g (suc k) h =
    let a = row-long (get_or es k no_entry).line (get_or counts k 0) (g.lines k (omega arith)) (g.counted k) in
    rw rows_last (simp length-append (omega (arith, rows_short g k (omega arith))))

-- ---- the loop

-- the next of a list behind its first k
next_is : {A : Type 0} (xs rest : List A) (k : ℕ) (x d : A) → drop k xs ≡ x ∷ rest → (k < length xs) × (x ≡ get_or xs k d) × (rest ≡ drop (suc k) xs)
next_is [] rest zero x d e = absurd (cc)
next_is (y ∷ xs) rest zero x d e = (omega arith, cc, cc)
next_is [] rest (suc k) x d e = absurd (cc)
next_is (y ∷ xs) rest (suc k) x d e = let (u, a, b) = next_is xs rest k x d e in (omega arith, a, b)

-- the bytes `template,calls` and 10
abbrev head : Bytes
head = 116 ∷ 101 ∷ 109 ∷ 112 ∷ 108 ∷ 97 ∷ 116 ∷ 101 ∷ 44 ∷ 99 ∷ 97 ∷ 108 ∷ 108 ∷ 115 ∷ 10 ∷ []

-- the rows of the first k macros come after the first v bytes, and end at w; the other entries and counts are left
pub record Reporting (es : List Entry) (counts : List ℕ) (o : Bytes) (v k : ℕ) (es' : List Entry) (counts' : List ℕ) (w : ℕ) (o' : Bytes) : Type 0 where
  pub upto : k ≤ length es
  pub from : v ≤ 15
  pub room : report_least ≤ length o
  pub prints : Prints o v (rows_bytes (rows_of es counts k)) w o'
  pub entries_left : es' ≡ drop k es
  pub counts_left : counts' ≡ drop k counts

-- none of them, after the head
pub reporting_none : {es es' : List Entry} {counts counts' : List ℕ} {o s : Bytes} {v : ℕ} {o₁ : Bytes} → ReadyToReport es counts o → Prints o 0 s v o₁ → length s ≤ 15
    → es' ≡ es → counts' ≡ counts → Reporting es counts o₁ v 0 es' counts' v o₁
unfolding rows_of rows_bytes
reporting_none g q h a b = record {
  upto = omega arith;
  from = omega (arith, q.ends);
  room = omega (arith, q.long, g.room);
  prints = prints_none (omega (arith, q.long, q.fits));
  entries_left = a;
  counts_left = b;
}

module _ {es : List Entry} {counts : List ℕ} {o₁ : Bytes} {v k : ℕ} {es' : List Entry} {counts' : List ℕ} {w : ℕ} {o₂ : Bytes} (p : Reporting es counts o₁ v k es' counts' w o₂) where
  -- a row more, of the next entry and the next count
  pub reporting_more : {x : Entry} {n : ℕ} {es″ : List Entry} {counts″ : List ℕ} {w' : ℕ} {o₃ : Bytes} → Prints o₂ w (row_bytes (x.line, n)) w' o₃
      → es' ≡ x ∷ es″ → counts' ≡ n ∷ counts″ → Reporting es counts o₁ v (k + 1) es″ counts″ w' o₃
  reporting_more {x} {n} r a b =
      let (u, e, c) = next_is es _ k x no_entry (sym p.entries_left ∙ a) in
      let (_, f, d) = next_is counts _ k n 0 (sym p.counts_left ∙ b) in
      record {
        upto = omega arith;
        from = p.from;
        room = p.room;
        prints = prints_as (ap₂ (λ (x : Entry) (n : ℕ). rows_bytes (rows_of es counts k) ++ row_bytes (x.line, n)) e f ∙ sym (rows_more es counts k)) (prints_more p.prints r);
        entries_left = rw add-one c;
        counts_left = rw add-one d;
      }

  module _ {o : Bytes} (g : ReadyToReport es counts o) where
    -- a row has room, whichever it is
    room_for : (line i : ℕ) → line ≤ text_most → RoomFor o₂ w (row_bytes (line, get_or counts i 0))
    room_for line i h = record {
      fits = omega (arith, row-long line (get_or counts i 0) h (g.counted i), rows_short g k p.upto, g.few, p.upto, p.from, p.room, p.prints.ends, p.prints.long);
    }

    -- that of the next entry
    pub next_room : {x : Entry} {n : ℕ} {es″ : List Entry} {counts″ : List ℕ} → es' ≡ x ∷ es″ → counts' ≡ n ∷ counts″ → RoomFor o₂ w (row_bytes (x.line, n))
    next_room {x} {n} a b =
        let (u, e, _) = next_is es _ k x no_entry (sym p.entries_left ∙ a) in
        let (_, f, _) = next_is counts _ k n 0 (sym p.counts_left ∙ b) in
        rw (e, f) (room_for (get_or es k no_entry).line k (g.lines k u))

    -- the last one
    pub last_room : (i : ℕ) → RoomFor o₂ w (row_bytes (0, get_or counts i 0))
    last_room i = room_for 0 i (omega arith)

    -- no entry is left, or no count: there are more counts than entries
    pub none_left : (length es' ≡ 0) ⊎ (length counts' ≡ 0) → k ≡ length es
    none_left h = ⊎_elim
        (λ a. omega (arith, p.upto, length-drop k es, ap (length {A = Entry}) p.entries_left))
        (λ a. absurd (omega (arith, p.upto, g.few, g.long, length-drop k counts, ap (length {A = ℕ}) p.counts_left))) h

    -- with it the report is whole
    pub reporting_all : {r : ℕ} {o₃ : Bytes} → Prints o 0 head v o₁ → (length es' ≡ 0) ⊎ (length counts' ≡ 0) → Prints o₂ w (row_bytes (0, get_or counts macros_most 0)) r o₃ → PrintsReport es counts o r o₃
    unfolding report_bytes report_head report_rows
    reporting_all q h s =
        let z = none_left h in
        let last : Row = (0, get_or counts macros_most 0) in
        let all : head ++ rows_bytes (rows_of es counts k) ++ row_bytes last ≡ head ++ rows_bytes (rows_of es counts (length es) ++ (last ∷ [])) =
        append_assoc head (rows_bytes (rows_of es counts k)) (row_bytes last) ∙ ap (λ (l : Bytes). head ++ l) (rw z (sym (rows_last (rows_of es counts (length es)) last))) in
        record {
          is = λ ms l. rw (rows_all l counts (omega (arith, g.few, g.long))) (prints_written (prints_as all (prints_more (prints_more q p.prints) s)));
        }

-- ---- the entries of a table

module _ (t : Table) (n : ℕ) (h : n ≤ length t.entries) where
  -- its macros stand on the lines of its entries
  pub on_lines : (m : Marks) (text : Bytes) → OnLines (macros_in m text t n) (take n t.entries)
  on_lines m text = record {
    as_many = macros_in_length m text t n ∙ sym (length-take-le n t.entries h);
    same = λ k u. let v : k < n = omega (arith, length-take-le n t.entries h) in
        ap (λ (x : Macro). x.line) (macros_in_at m text t n k v) ∙ ap (λ (e : Entry). e.line) (sym (get_or-take n t.entries k no_entry v));
  }
