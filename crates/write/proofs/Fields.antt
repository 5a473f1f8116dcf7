-- The text of a layout: its fields and its other bytes.
use mathlib.Core.Path.{◌≡◌, refl, sym, ap, ap₂, ◌∙◌}
use mathlib.Core.Bool.{Bool, true, false, not, cond, ◌&&◌}
use mathlib.Core.List.{List, [], ◌∷◌, ◌++◌, append_assoc, append-nil}
use Prim.Native.Nat.{ℕ, zero, suc, ◌+◌, ◌-◌, ◌≤◌, ◌<◌, min}
use native.Mathlib.Omega.{arith}
use mir.Syntax.{w8}
use mir.Val.{Fits}
use borrow.Author.Tests.{ltb-false, leb-true, leb-false, eqb-false, eq-eqb, ne_eqb}
use lib.Dec.{eqb, leb, ltb}
use lib.ListN.{length, get_or, set, take, drop, replicate, length-append, length-drop, drop_of_length-le}
use lib.Seq.{take-length, drop-drop, length-take-le}
use borrow.Rule.Slice.PartMut.{mid_of, post_of, put_mid}
use Rattle.std.specs.Prelude.{Option, Some, None, position}
use Rattle.std.specs.Option.{unwrap_or}
use Rattle.model.specs.declared.Marks.{Marks}
use Rattle.model.specs.Text.{Bytes, part}
use Rattle.model.specs.Machine.{Frame, param, field, fields}
use Rattle.model.proofs.Choices.{when_true, when_false}
use Rattle.model.proofs.Text.{part_length, part-rest}
use Rattle.buffer.specs.Pasted.{Pasted}
use Rattle.buffer.specs.Written.{Written}
use Rattle.buffer.proofs.Pasted.{pasted_long, front_pasted}
use Rattle.buffer.proofs.Written.{written_none, written-length, written-take, written-drop, written_store}
use Rattle.call.specs.declared.Call.{Call}
use Rattle.call.specs.Call.{frame_of}
use Rattle.call.specs.Params.{Reads}
use Rattle.write.specs.Layout.{is_field, NamesField, param_of, layout_of, run_length, FillsField, PutsPart}

-- ---- one field

field_cut : (b n : ℕ) (s : Bytes) → n ≤ length s → field b n s ≡ take n s
unfolding field
field_cut b zero s h = refl
field_cut b (suc n) [] h = absurd (omega arith)
field_cut b (suc n) (x ∷ s) h = ap (λ (l : Bytes). x ∷ l) (field_cut b n s (omega arith))

field_blank : (b n : ℕ) → field b n [] ≡ replicate n b
unfolding field
field_blank b zero = refl
field_blank b (suc n) = ap (λ (l : Bytes). b ∷ l) (field_blank b n)

field_filled : (b n k : ℕ) (s : Bytes) → n ≡ length s + k → field b n s ≡ s ++ replicate k b
unfolding field
field_filled b n k [] e = field_blank b n ∙ ap (λ (i : ℕ). replicate i b) (let z : n ≡ k = omega arith in z)
field_filled b zero k (x ∷ s) e = absurd (omega arith)
field_filled b (suc n) k (x ∷ s) e = ap (λ (l : Bytes). x ∷ l) (field_filled b n k s (omega arith))

field-long : (b n : ℕ) (s : Bytes) → length (field b n s) ≡ n
unfolding field
field-long b zero s = refl
field-long b (suc n) [] = ap suc (field-long b n [])
field-long b (suc n) (x ∷ s) = ap suc (field-long b n s)

-- cut to n bytes, or filled
field_min : (b n len : ℕ) (s : Bytes) → len ≡ min (length s) n → field b n s ≡ take len s ++ replicate (n - len) b
field_min b n len s e = by (leb n (length s)) refl
  where
    by : (q : Bool) → leb n (length s) ≡ q → field b n s ≡ take len s ++ replicate (n - len) b
    by true q =
        let h : n ≤ length s = leb-true n (length s) q in
        let z : n ≡ len = omega arith in
        let y : 0 ≡ n - len = omega arith in
        field_cut b n s h ∙ ap (λ (k : ℕ). take k s) z ∙ sym (append-nil (take len s)) ∙ ap (λ (k : ℕ). take len s ++ replicate k b) y
    by false q =
        let h : length s < n = leb-false n (length s) q in
        let z : length s ≡ len = omega arith in
        field_filled b n (n - len) s (omega arith) ∙ ap (λ (x : Bytes). x ++ replicate (n - len) b) (sym (take-length s) ∙ ap (λ (k : ℕ). take k s) z)

-- the parameter's bytes, whatever the marks are
pub reads_param : {c : Call} {d : ℕ} {s : Bytes} → Reads c d s → param_of c d ≡ s
unfolding param
reads_param r = r.is (record { source = 0; placeholder = 0; code = 0; escape = 0; blank = 0; left = 0; plus = 0; minus = 0; times = 0; divide = 0; right = 0 }) []

-- a parameter cut, or with blanks after it: x is the field when its bytes are copied, f the blanks
pub fills_field : {blank : ℕ} {c : Call} {d len : ℕ} {s o x f : Bytes} → Reads c d s → len ≡ min (length s) (length o) → Pasted o 0 (take len s) (length (take len s)) x
    → f ≡ replicate (length (mid_of len (length x - len) x)) blank → FillsField blank c d o (put_mid len (length x - len) x f)
fills_field {blank} {c} {d} {len} {s} {o} {x} {f} l e g h =
    let n : length (take len s) ≡ len = length-take-le len s (omega arith) in
    let w : length x ≡ length o = pasted_long g (omega arith) (omega arith) in
    let k : length (mid_of len (length x - len) x) ≡ length o - len = omega (arith, part_length x len (length x) (omega arith)) in
    let none : post_of len (length x - len) x ≡ [] = drop_of_length-le (drop len x) (omega (arith, length-drop len x)) in
    let copied : take len x ≡ take len s = ap (λ (i : ℕ). take i x) (sym n) ∙ front_pasted g (omega arith) in
    record {
      is = ap₂ (λ (y z : Bytes). y ++ z) copied (ap (λ (y : Bytes). f ++ y) none ∙ append-nil f ∙ h ∙ ap (λ (i : ℕ). replicate i blank) k)
          ∙ sym (ap (λ (y : Bytes). field blank (length o) y) (reads_param l) ∙ field_min blank (length o) len s e);
    }

-- ---- all of them

module _ (m : Marks) (f : Frame) where
  either : (q : Bool) (a b c : Bytes) → elim q as (λ _. Bytes) [ true ↦ a ++ b | false ↦ a ++ c ] ≡ a ++ elim q as (λ _. Bytes) [ true ↦ b | false ↦ c ]
  either true a b c = refl
  either false a b c = refl

  lengths : (q : Bool) (a b : Bytes) (n : ℕ) → length a ≡ n → length b ≡ n → length {A = ℕ} (elim q as (λ _. Bytes) [ true ↦ a | false ↦ b ]) ≡ n
  lengths true a b n e g = e
  lengths false a b n e g = g

  -- a layout is written as long as it is
  pub fields-long : (d n : ℕ) (s : Bytes) → length (fields m f d n s) ≡ n + length s
  unfolding fields
  fields-long d n [] = field-long m.blank n (param f (d - 48)) ∙ omega arith
  fields-long d n (x ∷ s) =
      let a : Bytes = field m.blank n (param f (d - 48)) in
      let l : length a ≡ n = field-long m.blank n (param f (d - 48)) in
      let p = length-append a (fields m f x 1 s) in
      let q = length-append a (x ∷ fields m f 256 0 s) in
      let i = fields-long x 1 s in
      let j = fields-long 256 0 s in
      let k = fields-long d (suc n) s in
      lengths (eqb x d) (fields m f d (suc n) s) _ (n + suc (length s)) (omega arith)
      (lengths (leb 49 x && leb x 57) _ _ (n + suc (length s)) (omega arith) (omega arith))

  -- a byte that starts a field
  fields-field : (x : ℕ) (s : Bytes) → x < 256 → is_field x ≡ true → fields m f 256 0 (x ∷ s) ≡ fields m f x 1 s
  unfolding fields field
  fields-field x s h e = when_false _ _ (ne_eqb x 256 (λ z. omega arith)) ∙ when_true _ _ e

  -- a byte that is copied
  fields_byte : (x : ℕ) (s : Bytes) → x < 256 → is_field x ≡ false → fields m f 256 0 (x ∷ s) ≡ x ∷ fields m f 256 0 s
  unfolding fields field
  fields_byte x s h e = when_false _ _ (ne_eqb x 256 (λ z. omega arith)) ∙ when_false _ _ e

  -- another byte ends a field
  fields-next : (d n x : ℕ) (s : Bytes) → x < 256 → ¬ (x ≡ d) → fields m f d n (x ∷ s) ≡ field m.blank n (param f (d - 48)) ++ fields m f 256 0 (x ∷ s)
  unfolding fields field
  fields-next d n x s h g =
      when_false _ _ (ne_eqb x d g) ∙ either (is_field x) (field m.blank n (param f (d - 48))) (fields m f x 1 s) (x ∷ fields m f 256 0 s)
      ∙ ap (λ (l : Bytes). field m.blank n (param f (d - 48)) ++ l) (sym (when_false _ _ (ne_eqb x 256 (λ z. omega arith))))

-- only the parameters matter
pub fields-same : (m : Marks) (f g : Frame) → f.params ≡ g.params → (d n : ℕ) (s : Bytes) → fields m f d n s ≡ fields m g d n s
unfolding fields param
fields-same m f g e d n [] = ap (λ (ps : List Bytes). field m.blank n (get_or ps (d - 48 - 1) [])) e
fields-same m f g e d n (x ∷ s) =
    let same : field m.blank n (param f (d - 48)) ≡ field m.blank n (param g (d - 48)) = ap (λ (ps : List Bytes). field m.blank n (get_or ps (d - 48 - 1) [])) e in
    by (eqb x d) (fields-same m f g e d (suc n) s)
    (by (is_field x) (ap₂ (λ (a b : Bytes). a ++ b) same (fields-same m f g e x 1 s)) (ap₂ (λ (a b : Bytes). a ++ (x ∷ b)) same (fields-same m f g e 256 0 s)))
  where
    by : (q : Bool) {a b c d : Bytes} → a ≡ b → c ≡ d → ◌≡◌ {A = Bytes} (elim q [ true ↦ a | false ↦ c ]) (elim q [ true ↦ b | false ↦ d ])
    by true e f = e
    by false e f = f

-- ---- a run of one byte

run_more : (b x : ℕ) (s : Bytes) → eqb x b ≡ true → run_length b (x ∷ s) ≡ suc (run_length b s)
run_more b x s e = ap (λ (q : Bool). cond (not (not q)) (1 + run_length b s) 0) e ∙ omega arith

run-over : (b x : ℕ) (s : Bytes) → eqb x b ≡ false → run_length b (x ∷ s) ≡ 0
run-over b x s e = ap (λ (q : Bool). cond (not (not q)) (1 + run_length b s) 0) e

pub run_most : (b : ℕ) (s : Bytes) → run_length b s ≤ length s
run_most b [] = omega arith
run_most b (x ∷ s) = by (eqb x b) refl (run_most b s)
  where
    by : (q : Bool) → eqb x b ≡ q → run_length b s ≤ length s → run_length b (x ∷ s) ≤ suc (length s)
    by true q h = omega (arith, run_more b x s q)
    by false q h = omega (arith, run-over b x s q)

-- where the first other byte stands, or the layout ends
pub run-found : (b : ℕ) (s : Bytes) → unwrap_or (position (λ x. not (eqb x b)) s) (length s) ≡ run_length b s
run-found b s = by (ltb (run_length b s) (length s)) refl
  where
    at : Bool → ℕ
    at q = unwrap_or (cond q (Some (run_length b s)) None) (length s)

    by : (q : Bool) → ltb (run_length b s) (length s) ≡ q → at (ltb (run_length b s) (length s)) ≡ run_length b s
    by true q = ap at q
    by false q = ap at q ∙ omega (arith, ltb-false (run_length b s) (length s) q, run_most b s)

module _ (m : Marks) (f : Frame) (b : ℕ) where
  -- a field is a run of its byte
  fields-run : (n : ℕ) (s : Bytes) → ((i : ℕ) → get_or s i 0 < 256) → fields m f b n s ≡ field m.blank (n + run_length b s) (param f (b - 48)) ++ fields m f 256 0 (drop (run_length b s) s)
  unfolding fields field
  fields-run n [] h =
      let z : n ≡ n + 0 = omega arith in
      ap (λ (k : ℕ). field m.blank k (param f (b - 48))) z ∙ sym (append-nil (field m.blank (n + 0) (param f (b - 48))))
  fields-run n (x ∷ s) h = by (eqb x b) refl (fields-run (suc n) s (λ i. h (suc i)))
    where
      after : ℕ → ℕ → Bytes
      after k j = field m.blank k (param f (b - 48)) ++ fields m f 256 0 (drop j (x ∷ s))

      by : (q : Bool) → eqb x b ≡ q → fields m f b (suc n) s ≡ after (suc n + run_length b s) (suc (run_length b s))
          → fields m f b n (x ∷ s) ≡ after (n + run_length b (x ∷ s)) (run_length b (x ∷ s))
      by true q g =
          let e = run_more b x s q in
          let z : suc n + run_length b s ≡ n + run_length b (x ∷ s) = omega (arith, e) in
          when_true _ _ q ∙ g ∙ ap₂ (λ (k j : ℕ). after k j) z (sym e)
      by false q g =
          let e = run-over b x s q in
          let z : n ≡ n + run_length b (x ∷ s) = omega (arith, e) in
          fields-next m f b n x s (h 0) (eqb-false x b q) ∙ ap₂ (λ (k j : ℕ). after k j) z (sym e)

-- ---- what is written behind what is written

-- what the rest of a list becomes
pub written_behind : {o front : Bytes} {i : ℕ} {out bytes : Bytes} {r : ℕ} {rest : Bytes} → Written o front i out → Written (mid_of i (length out - i) out) bytes r rest
    → Written o (front ++ bytes) (i + r) (put_mid i (length out - i) out rest)
written_behind {o} {front} {i} {out} {bytes} {r} {rest} a b =
    let none : post_of i (length out - i) out ≡ [] = drop_of_length-le (drop i out) (omega (arith, length-drop i out)) in
    let n = written-length a in
    let k = part_length out i (length out) (omega arith) in
    let z : i ≤ i + r = omega arith in
    let tail : drop r (mid_of i (length out - i) out) ≡ drop (i + r) o = ap (λ (x : Bytes). drop r x) (part-rest out i) ∙ drop-drop r i out ∙ written-drop a (i + r) z in
    record {
      is = ap₂ (λ (x y : Bytes). x ++ y) (written-take a) (ap (λ (x : Bytes). rest ++ x) none ∙ append-nil rest ∙ b.is ∙ ap (λ (x : Bytes). bytes ++ x) tail)
          ∙ sym (append_assoc front bytes (drop (i + r) o));
      long = length-append front bytes ∙ omega (arith, a.long, b.long);
      fits = omega (arith, a.fits, b.fits);
    }

-- ---- a part of a layout

-- a field lies in the output
pub field_inside : (b : ℕ) (s : Bytes) (n : ℕ) (o : Bytes) → n ≡ run_length b s → length s ≤ length o → n ≡ length (take n o)
field_inside b s n o e w = sym (length-take-le n o (omega (arith, run_most b s)))

pub part_field : {m : Marks} {s : Bytes} {c : Call} {o : Bytes} → 0 < length s → length s ≤ length o → {r : Option ℕ} → NamesField (get_or s 0 0) r → {d n : ℕ} {f : Bytes} → ((i : ℕ) → Fits w8 (get_or s i 0)) → r ≡ Some d
    → n ≡ run_length (get_or s 0 0) s → FillsField m.blank c d (take n o) f → PutsPart m s c o n (f ++ drop n o)
unfolding param
part_field {s = []} h w k bytes e y p = absurd (omega arith)
part_field {m} {s = x ∷ s} {c} {o} h w k {d} {n} bytes e y p =
    let f : Frame = frame_of m [] c in
    let l = run_more x x s (eq-eqb x x refl) in
    let most = run_most x (x ∷ s) in
    let z : 1 + run_length x s ≡ n = omega arith in
    let v : suc (run_length x s) ≡ n = omega arith in
    let long : length (take n o) ≡ n = length-take-le n o (omega arith) in
    record {
      bytes = field m.blank n (param_of c d);
      is = fields-field m f x s k.small (k.names d e).0 ∙ fields-run m f x 1 s (λ i. omega (arith, bytes (suc i)))
          ∙ ap₂ (λ (a j : ℕ). field m.blank a (param f (x - 48)) ++ fields m f 256 0 (drop j (x ∷ s))) z v
          ∙ ap (λ (j : ℕ). field m.blank n (param_of c j) ++ layout_of m (drop n (x ∷ s)) c) (sym (k.names d e).1);
      written = record {
        is = ap (λ (a : Bytes). a ++ drop n o) (p.is ∙ ap (λ (i : ℕ). field m.blank i (param_of c d)) long);
        long = field-long m.blank n (param_of c d);
        fits = omega arith;
      };
      from = omega arith;
      upto = omega arith;
    }

-- the layout's first byte
first_byte : (s : Bytes) → 0 < length s → s ≡ get_or s 0 0 ∷ drop 1 s
first_byte [] h = absurd (omega arith)
first_byte (x ∷ s) h = refl

pub part_byte : {m : Marks} {s : Bytes} {c : Call} {o : Bytes} {r : Option ℕ} → 0 < length s → length s ≤ length o → NamesField (get_or s 0 0) r → r ≡ None → PutsPart m s c o 1 (set o 0 (get_or s 0 0))
part_byte {m} {s} {c} {o} h w n e = record {
  bytes = get_or s 0 0 ∷ [];
  is = ap (λ (x : Bytes). layout_of m x c) (first_byte s h) ∙ fields_byte m (frame_of m [] c) (get_or s 0 0) (drop 1 s) n.small (n.none e);
  written = written_store (get_or s 0 0) (written_none o 0 (omega arith)) (omega arith);
  from = omega arith;
  upto = omega arith;
}

-- ---- the parts one after the other

-- the layout's first i bytes are written
pub record LayoutSoFar (m : Marks) (s : Bytes) (c : Call) (o₀ : Bytes) (i : ℕ) (o : Bytes) : Type 0 where
  pub bytes : Bytes
  pub is : layout_of m s c ≡ bytes ++ layout_of m (drop i s) c
  pub written : Written o₀ bytes i o
  pub upto : i ≤ length s

-- a layout's bytes
pub layout_long : (m : Marks) (s : Bytes) (c : Call) → length (layout_of m s c) ≡ length s
layout_long m s c = fields-long m (frame_of m [] c) 256 0 s ∙ omega arith

module _ {m : Marks} {s : Bytes} {c : Call} {o₀ : Bytes} {i : ℕ} {o : Bytes} (p : LayoutSoFar m s c o₀ i o) where
  -- what a part asks
  pub laying_room : length o₀ ≡ length (layout_of m s c) → length (part s i (length s)) ≤ length (part o i (length o))
  laying_room h = omega (arith, layout_long m s c, written-length p.written, part_length s i (length s) (omega arith), part_length o i (length o) (omega arith))

  pub laying_more : {r : ℕ} {rest : Bytes} → PutsPart m (part s i (length s)) c (part o i (length o)) r rest → LayoutSoFar m s c o₀ (i + r) (put_mid i (length o - i) o rest)
  laying_more {r} q =
      let e : part s i (length s) ≡ drop i s = part-rest s i in
      let z : drop r (part s i (length s)) ≡ drop (i + r) s = ap (λ (x : Bytes). drop r x) e ∙ drop-drop r i s in
      record {
        bytes = p.bytes ++ q.bytes;
        is = p.is ∙ ap (λ (x : Bytes). p.bytes ++ layout_of m x c) (sym e) ∙ ap (λ (x : Bytes). p.bytes ++ x) (q.is ∙ ap (λ (x : Bytes). q.bytes ++ layout_of m x c) z)
            ∙ sym (append_assoc p.bytes q.bytes (layout_of m (drop (i + r) s) c));
        written = written_behind p.written q.written;
        upto = omega (arith, q.upto, p.upto, part_length s i (length s) (omega arith));
      }

  pub laying_all : length o₀ ≡ length (layout_of m s c) → length s ≤ i → o ≡ layout_of m s c
  unfolding fields field
  laying_all n h =
      let none : drop i o₀ ≡ [] = drop_of_length-le o₀ (omega (arith, layout_long m s c)) in
      p.written.is ∙ ap (λ (x : Bytes). p.bytes ++ x) none ∙ sym (p.is ∙ ap (λ (x : Bytes). p.bytes ++ layout_of m x c) (drop_of_length-le s h))
