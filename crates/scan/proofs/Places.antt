-- Why each function ensures what it does: the loops of find_byte and find_end, and the answers of the others from what they call.
use mathlib.Core.Path.{◌≡◌, refl, ap, sym, ◌∙◌, subst}
use mathlib.Core.Bool.{Bool, true, false, ◌&&◌, not}
use mathlib.Core.List.{[], ◌∷◌}
use Prim.Native.Nat.{ℕ, suc, ◌+◌, ◌-◌, ◌≤◌, ◌<◌, min}
use native.Mathlib.Numerals.{add-one}
use native.Mathlib.Omega.{arith}
use borrow.Author.Tests.{ltb-true, ltb-false, eqb-true, eqb-false, eq-eqb, ne_eqb}
use lib.Dec.{eqb, ltb}
use lib.ListN.{length, get_or, take, drop, drop_of_length-le}
use lib.Seq.{drop-cons}
use lib.Pointwise.{pointwise}
use Rattle.std.specs.Prelude.{Option, None, Some, MatchOption}
use Rattle.model.specs.declared.Marks.{Marks}
use Rattle.scan.specs.declared.Line.{Line}
use Rattle.model.specs.Text.{Bytes, part, starts_with, up_to, lines}
use Rattle.model.specs.Load.{body_of, body_at}
use Rattle.model.proofs.Text.{part_length, part-rest, part_empty, part_cons, part-take}
use Rattle.scan.specs.Lines.{line_at, FindsByte, LineAt, FindsEnd, ContentAt, BeginsMarked, CodeLine, CodeAt}
use Rattle.scan.proofs.Lines.{up_to_stops, up_to_goes_on, up_to_front, up_to_short, lines_at, body_none, body_ends, body_goes_on}

-- ---- find_byte

-- no b stands before i: what precedes it from i on ends where what precedes it from `from` on does
pub record Seeking (s : Bytes) (from to b i : ℕ) : Type 0 where
  pub low : from ≤ i
  pub high : i ≤ to
  pub within : to ≤ length s
  pub same : i + length (up_to b (part s i to)) ≡ from + length (up_to b (part s from to))

pub seeking_goes_on : {s : Bytes} {from to b i : ℕ} → Seeking s from to b i → i < to → ¬ (get_or s i 0 ≡ b) → Seeking s from to b (i + 1)
seeking_goes_on {s} {from} {to} {b} {i} h k f =
    let e : length (up_to b (part s i to)) ≡ suc (length (up_to b (part s (suc i) to))) = ap (λ (l : Bytes). length (up_to b l)) (part_cons s i to k h.within) ∙ ap length (up_to_goes_on b (get_or s i 0) (part s (suc i) to) f) in
    record { low = omega arith; high = omega arith; within = h.within; same = rw add-one (omega arith) }

-- found as far on as what precedes b is long
found_at : (s : Bytes) (from to b r : ℕ) → from ≤ to → to ≤ length s → from + length (up_to b (part s from to)) ≡ r → FindsByte s from to b r
found_at s from to b r h w e =
    let p : Bytes = part s from to in
    let k : length (up_to b p) ≤ length p = up_to_short b p in
    let l : length p ≡ to - from = part_length s from to w in
    record { low = omega arith; high = omega arith; is = sym (up_to_front b p ∙ part-take s from to (length (up_to b p)) (omega arith) ∙ ap (part s from) e) }

-- found where nothing precedes b any more
found-by : (s : Bytes) (from to b r : ℕ) → Seeking s from to b r → length (up_to b (part s r to)) ≡ 0 → FindsByte s from to b r
found-by s from to b r h z = found_at s from to b r (omega (arith, h.low, h.high)) h.within (omega (arith, h.same))

pub found_there : {s : Bytes} {from to b i : ℕ} → Seeking s from to b i → i < to → get_or s i 0 ≡ b → FindsByte s from to b i
found_there {s} {from} {to} {b} {i} h k e =
    found-by s from to b i h (ap (λ (l : Bytes). length (up_to b l)) (part_cons s i to k h.within) ∙ ap length (up_to_stops b (get_or s i 0) (part s (suc i) to) e))

pub found_nowhere : {s : Bytes} {from to b i : ℕ} → Seeking s from to b i → to ≤ i → FindsByte s from to b i
unfolding up_to
found_nowhere {s} {from} {to} {b} {i} h k = found-by s from to b i h (ap (λ (l : Bytes). length (up_to b l)) (part_empty s i to k))

-- how far it is
pub found-length : {s : Bytes} {from to b r : ℕ} → FindsByte s from to b r → to ≤ length s → length (up_to b (part s from to)) ≡ r - from
found-length {s} {from} {to} {b} {r} h k = ap length (sym h.is) ∙ part_length s from r (omega arith)

-- ---- a byte at the front

-- std's test for one byte at the front
pub starts-with : (b : ℕ) (s : Bytes) → pointwise eqb (b ∷ []) (take 1 s) ≡ starts_with b s
unfolding starts_with
starts-with b [] = refl
starts-with b (x ∷ s) = by (eqb b x) refl
  where
    by : (c : Bool) → eqb b x ≡ c → eqb b x && true ≡ eqb x b
    by true e = rw e (sym (eq-eqb x b (sym (eqb-true b x e))))
    by false e = rw e (sym (ne_eqb x b (λ z. eqb-false b x e (sym z))))

-- ---- read_line

line_by : (text : Bytes) (at r next : ℕ) → FindsByte text at (length text) 10 r → at < length text → r ≤ next → at < next → next ≤ length text → drop (suc r) text ≡ drop next text
    → LineAt text at r next
line_by text at r next h k p q w e =
    let l : part text at r ≡ line_at text at = h.is ∙ ap (up_to 10) (part-rest text at) in
    let n : length (part text at r) ≡ r - at = part_length text at r h.high in
    let z : suc (at + length (part text at r)) ≡ suc r = omega (arith, h.low) in
    record {
      low = h.low;
      high = p;
      ahead = q;
      within = w;
      is = lines_at text at k ∙ ap (λ (x : Bytes). x ∷ lines (drop (suc (at + length x)) text)) (sym l)
          ∙ ap (λ (i : ℕ). part text at r ∷ lines (drop i text)) z ∙ ap (λ (x : Bytes). part text at r ∷ lines x) e;
    }

-- past byte 10, or at the end of the text
pub line_found : {text : Bytes} {at r : ℕ} → FindsByte text at (length text) 10 r → at < length text → LineAt text at r (min (length text) (r + 1))
line_found {text} {at} {r} h k = by (ltb r (length text)) refl
  where
    by : (c : Bool) → ltb r (length text) ≡ c → LineAt text at r (min (length text) (r + 1))
    by true t =
        let lt = ltb-true r (length text) t in
        let e : suc r ≡ min (length text) (r + 1) = omega arith in
        subst (λ (i : ℕ). LineAt text at r i) e (line_by text at r (suc r) h k (omega arith) (omega (arith, h.low)) (omega arith) refl)
    by false t =
        let le = ltb-false r (length text) t in
        let e : r ≡ min (length text) (r + 1) = omega (arith, h.high) in
        subst (λ (i : ℕ). LineAt text at r i) e (line_by text at r r h k (omega arith) (omega arith) h.high (drop_of_length-le text {i = suc r} (omega arith) ∙ sym (drop_of_length-le text {i = r} le)))

-- the line is what precedes byte 10
pub line_is : {text : Bytes} {at end next : ℕ} → LineAt text at end next → part text at end ≡ line_at text at
line_is {text} {at} {end} {next} h =
    let e : part text at end ∷ lines (drop next text) ≡ line_at text at ∷ lines (drop (suc (at + length (line_at text at))) text) = sym h.is ∙ lines_at text at (omega (arith, h.ahead, h.within)) in
    cc

-- ---- find_end

-- neither the mark nor byte 10 stands before i
pub record Scanning (text : Bytes) (at mark i : ℕ) : Type 0 where
  pub low : at ≤ i
  pub high : i ≤ length text
  pub line : (to : ℕ) → i ≤ to → to ≤ length text → Seeking text at to 10 i
  pub content : (to : ℕ) → i ≤ to → to ≤ length text → Seeking text at to mark i

pub scanning_goes_on : {text : Bytes} {at mark i : ℕ} → Scanning text at mark i → i < length text → ¬ (get_or text i 0 ≡ mark) → ¬ (get_or text i 0 ≡ 10) → Scanning text at mark (i + 1)
scanning_goes_on s lt f g = record {
  low = omega (arith, s.low);
  high = omega arith;
  line = λ to k w. seeking_goes_on (s.line to (omega arith) w) (omega arith) g;
  content = λ to k w. seeking_goes_on (s.content to (omega arith) w) (omega arith) f;
}

module _ {text : Bytes} {at mark r : ℕ} (s : Scanning text at mark r) where
  -- the content ends here, where the line ends or the mark stands
  end_by : ((stop : ℕ) → FindsByte text r (length text) 10 stop → r < stop → get_or text r 0 ≡ mark) → FindsEnd text at mark r
  unfolding up_to
  end_by e = record { low = s.low; high = s.high; line = line; content = content }
    where
      line : (stop : ℕ) → FindsByte text r (length text) 10 stop → FindsByte text at (length text) 10 stop
      line stop f =
          found_at text at (length text) 10 stop (omega (arith, s.low, s.high)) (omega arith)
          (omega (arith, (s.line (length text) s.high (omega arith)).same, found-length f (omega arith), f.low))

      content : (stop : ℕ) → FindsByte text r (length text) 10 stop → FindsByte text at stop mark r
      content stop f = found-by text at stop mark r (s.content stop f.low f.high) (by (ltb r stop) refl)
        where
          by : (c : Bool) → ltb r stop ≡ c → length (up_to mark (part text r stop)) ≡ 0
          by true t =
              let lt = ltb-true r stop t in
              ap (λ (l : Bytes). length (up_to mark l)) (part_cons text r stop lt f.high) ∙ ap length (up_to_stops mark (get_or text r 0) (part text (suc r) stop) (e stop f lt))
          by false t = ap (λ (l : Bytes). length (up_to mark l)) (part_empty text r stop (ltb-false r stop t))

  pub end_mark : get_or text r 0 ≡ mark → FindsEnd text at mark r
  end_mark e = end_by (λ stop f lt. e)

  pub end_line : r < length text → get_or text r 0 ≡ 10 → FindsEnd text at mark r
  end_line lt e = end_by (λ stop f k.
      let z : length (up_to 10 (part text r (length text))) ≡ 0 = ap (λ (l : Bytes). length (up_to 10 l)) (part_cons text r (length text) lt (omega arith)) ∙ ap length (up_to_stops 10 (get_or text r 0) (part text (suc r) (length text)) e) in
      absurd (omega (arith, z, found-length f (omega arith))))

  pub end_text : length text ≤ r → FindsEnd text at mark r
  end_text h =
      end_by (λ stop f k. absurd (omega (arith, f.high)))

-- ---- read_content

content_at : {text : Bytes} {mark at stop end next : ℕ} → LineAt text at stop next → FindsByte text at stop mark end → ContentAt text mark at end next
content_at {text} {mark} {at} {stop} {end} {next} h f = record {
  low = f.low;
  high = omega (arith, f.high, h.high);
  ahead = h.ahead;
  within = h.within;
  content = f.is ∙ ap (up_to mark) (line_is h);
  is = h.is ∙ ap (λ (l : Bytes). l ∷ lines (drop next text)) (line_is h);
}

pub content_read : {text : Bytes} {mark at end stop next : ℕ} → at < length text → FindsEnd text at mark end → FindsByte text end (length text) 10 stop → next ≡ min (length text) (stop + 1)
    → ContentAt text mark at end next
content_read {text} {mark} {at} {end} {stop} lt e f q = subst (λ (i : ℕ). ContentAt text mark at end i) (sym q) (content_at (line_found (e.line stop f) lt) (e.content stop f))

-- ---- begins_marked

pub begins_marked_is : {b mark : ℕ} → BeginsMarked b mark (eqb b mark && not (eqb b 10))
unfolding starts_with up_to
begins_marked_is {b} {mark} = record { is = by (eqb b mark) (eqb b 10) refl refl }
  where
    by : (x y : Bool) → eqb b mark ≡ x → eqb b 10 ≡ y → x && not y ≡ starts_with mark (up_to 10 (b ∷ []))
    by true true e f = rw (f, up_to) refl
    by true false e f = rw (f, up_to, e) refl
    by false true e f = rw (f, up_to) refl
    by false false e f = rw (f, up_to, e) refl

-- the line at a place begins with the mark as its first byte says
line_marked : (text : Bytes) (at mark : ℕ) {r : Bool} → at < length text → BeginsMarked (get_or text at 0) mark r → starts_with mark (line_at text at) ≡ r
unfolding starts_with up_to
line_marked text at mark {r} lt h = ap (λ (s : Bytes). starts_with mark (up_to 10 s)) (drop-cons text at 0 lt) ∙ same (get_or text at 0) (drop (suc at) text) ∙ sym h.is
  where
    same : (x : ℕ) (s : Bytes) → starts_with mark (up_to 10 (x ∷ s)) ≡ starts_with mark (up_to 10 (x ∷ []))
    same x s = by (eqb x 10) refl
      where
        by : (c : Bool) → eqb x 10 ≡ c → starts_with mark (up_to 10 (x ∷ s)) ≡ starts_with mark (up_to 10 (x ∷ []))
        by true e = rw (e, up_to) refl
        by false e = rw (e, up_to) refl

-- ---- read_code

pub code_past : {m : Marks} {text : Bytes} {at : ℕ} → at ≡ length text → CodeAt m text at None
code_past {m} {text} {at} e = record { is = body_none m text at (omega arith) }

pub code_ends : {m : Marks} {text : Bytes} {at : ℕ} {b : Bool} → at ≤ length text → ¬ (at ≡ length text) → BeginsMarked (get_or text at 0) m.code b → b ≡ true → CodeAt m text at None
code_ends {m} {text} {at} h f g e =
    let lt : at < length text = omega arith in
    record { is = ap (body_of m) (lines_at text at lt) ∙ body_ends m (line_at text at) _ (line_marked text at m.code lt g ∙ e) }

pub code_more : {m : Marks} {text : Bytes} {at : ℕ} {l : Line} {b : Bool} → BeginsMarked (get_or text at 0) m.code b → b ≡ false → ContentAt text m.code at l.end l.next
    → CodeAt m text at (Some l)
code_more {m} {text} {at} {l} g e h = record {
  is = record {
    low = h.low;
    high = h.high;
    ahead = h.ahead;
    within = h.within;
    is = ap (body_of m) h.is ∙ body_goes_on m (line_at text at) (lines (drop l.next text)) (line_marked text at m.code (omega (arith, h.ahead, h.within)) g ∙ e)
        ∙ ap (λ (x : Bytes). x ∷ body_at m text l.next) (sym h.content);
  };
}

-- ---- for callers of read_code, by its answer

module _ {m : Marks} {text : Bytes} {at : ℕ} {r : Option Line} (h : CodeAt m text at r) where
  pub code_line : {l : Line} → r ≡ Some l → CodeLine m text at l
  code_line e = subst (λ (x : Option Line). MatchOption x (body_at m text at ≡ []) (λ l. CodeLine m text at l)) e h.is

  pub code_over : r ≡ None → body_at m text at ≡ []
  code_over e = subst (λ (x : Option Line). MatchOption x (body_at m text at ≡ []) (λ l. CodeLine m text at l)) e h.is
