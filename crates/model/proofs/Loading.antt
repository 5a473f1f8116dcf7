-- What a text that loads has: marks that differ; at most 128 templates, no two of them equal, each of at most 200 bytes and nine
-- placeholders; at most 2,048 tree nodes and 1,024 code lines. So `chosen` on its templates is the first reading of a line.
-- The theorems, at the end: load_codes, load_legal, loaded_no_call, loaded_chosen, loaded_first.
use mathlib.Core.Path.{◌≡◌, refl, ap, sym, ◌∙◌, subst}
use mathlib.Core.Bool.{Bool, true, false, not, ◌&&◌, ◌||◌}
use mathlib.Core.Logic.{◌↔◌, ◌⊎◌, inl, inr, ⊎_elim}
use mathlib.Core.Option.{Option, none, some}
use mathlib.Core.List.{List, [], ◌∷◌, ◌++◌}
use Prim.Native.Nat.{ℕ, zero, suc, ◌+◌, ◌≤◌, ◌<◌}
use native.Mathlib.Omega.{arith}
use borrow.Author.Tests.{leb-false, ltb-false, eqb-false, eq-eqb, not-true}
use lib.Dec.{eqb, leb, ltb}
use lib.ListN.{length, get_or, drop, length-append}
use Rattle.model.specs.declared.Marks.{Marks}
use Rattle.model.specs.Text.{Bytes, same, has, starts_with, up_to, lines, all_plain, distinct, apart, legal_marks, others, legal_flags, marks_of}
use Rattle.model.specs.Reading.{Reading, Pieces, chosen}
use Rattle.model.specs.declared.Effect.{Effect}
use Rattle.model.specs.Load.{templates, unmatched, open_after, is_owner, Macro, body_of, Progress, Seen, fault, more, section_ends, lowest, count, met, begins, begun, nodes_from, nodes, fresh, template_fault, effect_here, unless, template_line, code_line, after_line, line_seen, Loaded, Load, refused, loaded, load_on, load_from, none_read, load_lines, load}
use Rattle.model.specs.Fitting.{Reads, Distinct, First}
use Rattle.model.specs.Legal.{operators, Lawful, Legal, code_lines}
use Rattle.model.proofs.Chosen.{no_call, chosen_first, first_chosen}
use Rattle.model.proofs.Choices.{false-not-true, both, split, and_left, and_right, or_false}

-- ---- the statements

-- what a load gives
abbrev pub LoadLegal : Load → Type 0
LoadLegal (refused k n) = Unit {0}
LoadLegal (loaded t) = Lawful t.marks × Legal t.marks t.macros

-- ---- marks

-- a list without a byte has it nowhere
has-none : (b : ℕ) (s : List ℕ) → has b s ≡ false → (j : ℕ) → j < length s → ¬ (get_or s j 0 ≡ b)
unfolding has
has-none b [] e j k q = omega arith
has-none b (x ∷ s) e j k q = by (eqb x b) refl e j k q (λ e j k q. has-none b s e j k q)
  where
    by : (c : Bool) → eqb x b ≡ c → ◌≡◌ {A = Bool} (elim c [ true ↦ true | false ↦ has b s ]) false → (j : ℕ) → j < length (x ∷ s) → get_or (x ∷ s) j 0 ≡ b
        → (has b s ≡ false → (j : ℕ) → j < length s → get_or s j 0 ≡ b → ⊥) → ⊥
    by true t e j k q ih = false-not-true (sym e)
    by false t e zero k q ih = eqb-false x b t q
    by false t e (suc j) k q ih = ih e j (omega arith) q

-- distinct bytes differ, wherever they stand
pub distinct_at : (s : List ℕ) → distinct s ≡ true → (i j : ℕ) → i < j → j < length s → ¬ (get_or s i 0 ≡ get_or s j 0)
unfolding distinct
distinct_at [] e i j h k q = omega arith
distinct_at (b ∷ s) e i zero h k q = omega arith
distinct_at (b ∷ s) e zero (suc j) h k q = has-none b s (not-true (has b s) (and_left (not (has b s)) (distinct s) e)) j (omega arith) (sym q)
distinct_at (b ∷ s) e (suc i) (suc j) h k q = distinct_at s (and_right (not (has b s)) (distinct s) e) i j (omega arith) (omega arith) q

-- the brackets differ
pub brackets : (m : Marks) → Lawful m → ¬ (m.left ≡ m.right)
brackets m h = distinct_at (m.source ∷ m.placeholder ∷ operators m) h.sources 3 8 (omega arith) (omega arith)

-- the same of a flag line's marks
abbrev MarksLawful : Option Marks → Type 0
MarksLawful none = Unit {0}
MarksLawful (some m) = Lawful m

-- a legal flag line has lawful marks
marks_of_lawful : (s : List ℕ) → MarksLawful (marks_of s)
unfolding marks_of legal_flags legal_marks others apart
marks_of_lawful s = split MarksLawful (legal_flags s) _ _ (λ e. lawful e) (λ e. tt)
  where
    a : ℕ
    a = get_or s 0 0

    b : ℕ
    b = get_or s 1 0

    c : ℕ
    c = get_or s 2 0

    d : ℕ
    d = get_or s 3 0

    o : List ℕ
    o = others s

    lawful : legal_flags s ≡ true → Lawful (record {
      source = get_or s 0 0;
      placeholder = get_or s 1 0;
      code = get_or s 2 0;
      escape = get_or s 3 0;
      blank = get_or s 5 0;
      left = get_or s 6 0;
      plus = get_or s 7 0;
      minus = get_or s 8 0;
      times = get_or s 9 0;
      divide = get_or s 10 0;
      right = get_or s 11 0;
    })
    lawful e =
        let l : (eqb (get_or s 4 0) 48 && (all_plain (a ∷ b ∷ c ∷ d ∷ o) && apart a b c d o)) ≡ true = and_right (leb 12 (length s)) _ e in
        let p : (all_plain (a ∷ b ∷ c ∷ d ∷ o) && apart a b c d o) ≡ true = and_right (eqb (get_or s 4 0) 48) _ l in
        let q : (distinct (a ∷ b ∷ o) && (distinct (c ∷ d ∷ o) && (not (eqb a d) && not (eqb b c)))) ≡ true = and_right (all_plain (a ∷ b ∷ c ∷ d ∷ o)) _ p in
        let r : (distinct (c ∷ d ∷ o) && (not (eqb a d) && not (eqb b c))) ≡ true = and_right (distinct (a ∷ b ∷ o)) _ q in
        let t : (not (eqb a d) && not (eqb b c)) ≡ true = and_right (distinct (c ∷ d ∷ o)) _ r in
        record {
          plain = and_left _ (apart a b c d o) p;
          sources = and_left _ (distinct (c ∷ d ∷ o) && (not (eqb a d) && not (eqb b c))) q;
          codes = and_left _ (not (eqb a d) && not (eqb b c)) r;
          ends = eqb-false a d (not-true (eqb a d) (and_left (not (eqb a d)) (not (eqb b c)) t));
          signs = eqb-false b c (not-true (eqb b c) (and_right (not (eqb a d)) (not (eqb b c)) t));
        }

-- ---- templates

-- a text has the same bytes as itself
same_itself : (s : List ℕ) → same s s ≡ true
unfolding same
same_itself [] = refl
same_itself (x ∷ s) = rw (eq-eqb x x refl, same) (same_itself s)

-- as many templates as macros
pub templates-length : (ms : List Macro) → length (templates ms) ≡ length ms
unfolding templates
templates-length [] = refl
templates-length (x ∷ ms) = ap suc (templates-length ms)

-- one more macro has one more template
pub templates_snoc : (ms : List Macro) (x : Macro) → templates (ms ++ (x ∷ [])) ≡ templates ms ++ (x.template ∷ [])
unfolding templates
templates_snoc [] x = refl
templates_snoc (y ∷ ms) x = ap (λ (l : List Bytes). y.template ∷ l) (templates_snoc ms x)

-- what holds of each template and of one more
snoc_all : (P : Bytes → Type 0) (ts : List Bytes) (t : Bytes) → ((i : ℕ) → P (get_or ts i [])) → P t → (i : ℕ) → P (get_or (ts ++ (t ∷ [])) i [])
snoc_all P [] t h k zero = k
snoc_all P [] t h k (suc i) = h 0
snoc_all P (u ∷ ts) t h k zero = h 0
snoc_all P (u ∷ ts) t h k (suc i) = snoc_all P ts t (λ i. h (suc i)) k i

-- a template that wasn't met is none of them
met-none : (t : Bytes) (ms : List Macro) → met t ms ≡ false → (i : ℕ) → i < length (templates ms) → ¬ (get_or (templates ms) i [] ≡ t)
unfolding met templates
met-none t [] e i k q = omega arith
met-none t (x ∷ ms) e i k q = by (same t x.template) refl e i k q (λ e i k q. met-none t ms e i k q)
  where
    by : (c : Bool) → same t x.template ≡ c → ◌≡◌ {A = Bool} (elim c [ true ↦ true | false ↦ met t ms ]) false → (i : ℕ) → i < suc (length (templates ms)) → get_or (x.template ∷ templates ms) i [] ≡ t
        → (met t ms ≡ false → (i : ℕ) → i < length (templates ms) → get_or (templates ms) i [] ≡ t → ⊥) → ⊥
    by true s e i k q ih = false-not-true (sym e)
    by false s e zero k q ih = false-not-true (sym s ∙ (ap (same t) q ∙ same_itself t))
    by false s e (suc i) k q ih = ih e i (omega arith) q

-- a place among templates and one more: an earlier one, or the last
snoc_place : (ts : List Bytes) (t : Bytes) (i : ℕ) → i < length (ts ++ (t ∷ []))
    → ((i < length ts) × (get_or (ts ++ (t ∷ [])) i [] ≡ get_or ts i [])) ⊎ ((i ≡ length ts) × (get_or (ts ++ (t ∷ [])) i [] ≡ t))
snoc_place [] t zero h = inr (refl, refl)
snoc_place [] t (suc i) h = absurd (omega arith)
snoc_place (u ∷ ts) t zero h = inl (omega arith, refl)
snoc_place (u ∷ ts) t (suc i) h = ⊎_elim (λ k. inl (omega (arith, k.0), k.1)) (λ k. inr (ap suc k.0, k.1)) (snoc_place ts t i (omega arith))

-- a template that wasn't met stays different from all others
distinct_snoc : (ts : List Bytes) (t : Bytes) → Distinct ts → ((i : ℕ) → i < length ts → ¬ (get_or ts i [] ≡ t)) → Distinct (ts ++ (t ∷ []))
distinct_snoc ts t d n i j h k e = by (snoc_place ts t i h) (snoc_place ts t j k)
  where
    by : ((i < length ts) × (get_or (ts ++ (t ∷ [])) i [] ≡ get_or ts i [])) ⊎ ((i ≡ length ts) × (get_or (ts ++ (t ∷ [])) i [] ≡ t))
        → ((j < length ts) × (get_or (ts ++ (t ∷ [])) j [] ≡ get_or ts j [])) ⊎ ((j ≡ length ts) × (get_or (ts ++ (t ∷ [])) j [] ≡ t)) → i ≡ j
    by (inl p) (inl q) = d i j p.0 q.0 (cc (p.1, q.1, e))
    by (inl p) (inr q) = absurd (n i p.0 (cc (p.1, q.1, e)))
    by (inr p) (inl q) = absurd (n j q.0 (cc (p.1, q.1, e)))
    by (inr p) (inr q) = omega (arith, p.0, q.0)

-- ---- tree nodes

-- the macros of ms, the last first, before earlier ones
behind : List Macro → List Macro → List Macro
behind [] earlier = earlier
behind (x ∷ ms) earlier = behind ms (x ∷ earlier)

-- the order of macros doesn't matter to what is begun
begun_behind : (p : Bytes) (ms earlier : List Macro) → begun p (behind ms earlier) ≡ (begun p ms || begun p earlier)
unfolding begun behind
begun_behind p [] earlier = refl
begun_behind p (x ∷ ms) earlier = begun_behind p ms (x ∷ earlier) ∙ by (begins p x.template) (begun p ms) (begun p earlier)
  where
    by : (b a c : Bool) → (a || elim b [ true ↦ true | false ↦ c ]) ≡ ((elim b as (λ x. Bool) [ true ↦ true | false ↦ a ]) || c)
    by true true c = refl
    by true false c = refl
    by false a c = refl

-- what is begun decides the new beginnings
fresh-same : (p t : Bytes) (ms ns : List Macro) → ((q : Bytes) → begun q ms ≡ begun q ns) → fresh p t ms ≡ fresh p t ns
unfolding fresh
fresh-same p [] ms ns h = refl
fresh-same p (x ∷ t) ms ns h = rw (h (p ++ (x ∷ [])), fresh) (by (begun (p ++ (x ∷ [])) ns) (fresh-same (p ++ (x ∷ [])) t ms ns h))
  where
    by : {a c : ℕ} (b : Bool) → a ≡ c → ◌≡◌ {A = ℕ} (elim b [ true ↦ a | false ↦ suc a ]) (elim b [ true ↦ c | false ↦ suc c ])
    by true e = e
    by false e = ap suc e

-- one more macro, after earlier ones
nodes_from_snoc : (ms earlier : List Macro) (x : Macro) → nodes_from earlier (ms ++ (x ∷ [])) ≡ nodes_from earlier ms + fresh [] x.template (behind ms earlier)
unfolding nodes_from behind
nodes_from_snoc [] earlier x = omega arith
nodes_from_snoc (y ∷ ms) earlier x = omega (arith, nodes_from_snoc ms (y ∷ earlier) x)

-- a macro more has its new beginnings more
pub nodes_snoc : (ms : List Macro) (x : Macro) → nodes (ms ++ (x ∷ [])) ≡ nodes ms + fresh [] x.template ms
unfolding nodes begun
nodes_snoc ms x =
    let e : fresh [] x.template (behind ms []) ≡ fresh [] x.template ms = fresh-same [] x.template (behind ms []) ms (λ q. begun_behind q ms [] ∙ or_none (begun q ms)) in
    omega (arith, nodes_from_snoc ms [] x, e)
  where
    or_none : (a : Bool) → (a || false) ≡ a
    or_none true = refl
    or_none false = refl

-- ---- loading

-- one more macro
legal_snoc : (m : Marks) (ms : List Macro) (x : Macro) → Legal m ms → length ms < 128 → nodes ms + fresh [] x.template ms ≤ 2048 → length x.template ≤ 200 → count m.placeholder x.template ≤ 9 → met x.template ms ≡ false
    → Legal m (ms ++ (x ∷ []))
legal_snoc m ms x h f v l c n =
    let e = templates_snoc ms x in
    record {
      few = simp length-append (omega arith);
      tree = rw (nodes_snoc ms x) v;
      short = subst (λ (ts : List Bytes). (i : ℕ) → length (get_or ts i []) ≤ 200) (sym e) (snoc_all (λ t. length t ≤ 200) (templates ms) x.template h.short l);
      nine = subst (λ (ts : List Bytes). (i : ℕ) → count m.placeholder (get_or ts i []) ≤ 9) (sym e) (snoc_all (λ t. count m.placeholder t ≤ 9) (templates ms) x.template h.nine c);
      different = subst Distinct (sym e) (distinct_snoc (templates ms) x.template h.different (met-none x.template ms n));
    }

-- what a line leaves is legal
abbrev SeenLegal : Marks → Seen → Type 0
SeenLegal m (fault k) = Unit {0}
SeenLegal m (more r) = Legal m r.macros
SeenLegal m section_ends = Unit {0}

-- a template line without a fault
template_line_legal : (m : Marks) (r : Progress) (n : ℕ) (c : Bytes) (ls : List Bytes) → Legal m r.macros → SeenLegal m (template_line m r n c ls)
unfolding template_line template_fault lowest unless
template_line_legal m r n c ls h =
    by (ltb 200 (length c)) refl (ltb 9 (count m.placeholder c)) refl (met c r.macros) refl (leb 128 (length r.macros) || ltb 2048 (nodes r.macros + fresh [] c r.macros)) refl
  where
    x : Macro
    x = record { line = n; template = c; body = body_of m ls }

    r' : Progress
    r' = record { macros = r.macros ++ (x ∷ []); codes = r.codes; in_body = true; opened = 0; due = false }

    by : (long : Bool) → ltb 200 (length c) ≡ long → (ten : Bool) → ltb 9 (count m.placeholder c) ≡ ten → (old : Bool) → met c r.macros ≡ old
        → (full : Bool) → (leb 128 (length r.macros) || ltb 2048 (nodes r.macros + fresh [] c r.macros)) ≡ full
        → SeenLegal m (unless (lowest ((long, 4) ∷ (ten, 5) ∷ (old, 6) ∷ (full, 9) ∷ [])) r')
    by true l ten t old o full f = tt
    by false l true t old o full f = tt
    by false l false t true o full f = tt
    by false l false t false o true f = tt
    by false l false t false o false f =
        let g = or_false (leb 128 (length r.macros)) (ltb 2048 (nodes r.macros + fresh [] c r.macros)) f in
        legal_snoc m r.macros x h (leb-false 128 (length r.macros) g.0) (ltb-false 2048 (nodes r.macros + fresh [] c r.macros) g.1) (ltb-false 200 (length c) l) (ltb-false 9 (count m.placeholder c) t) o

-- without a fault, what is read is kept
unless_legal : (m : Marks) (o : Option ℕ) (r : Progress) → Legal m r.macros → SeenLegal m (unless o r)
unfolding unless
unless_legal m (some k) r h = tt
unless_legal m none r h = h

-- any line
line_seen_legal : (m : Marks) (r : Progress) (n : ℕ) (l : Bytes) (ls : List Bytes) → Legal m r.macros → SeenLegal m (line_seen m r n l ls)
unfolding line_seen after_line code_line
line_seen_legal m r n l ls h =
    both (SeenLegal m) r.in_body _ _
    (both (SeenLegal m) (starts_with m.code l) _ _
    (both (SeenLegal m) (eqb r.opened 0 && not r.due) _ _ (both (SeenLegal m) (starts_with m.code (drop 1 l)) _ _ tt h) tt)
    (unless_legal m _ _ h))
    (template_line_legal m r n (up_to m.source l) ls h)

-- all lines
load_from_legal : (m : Marks) (ls : List Bytes) (r : Progress) (n : ℕ) → Lawful m → Legal m r.macros → LoadLegal (load_from m r n ls)
unfolding load_from load_on
load_from_legal m [] r n g h = tt
load_from_legal m (l ∷ ls) r n g h = by (line_seen m r (n + 1) l ls) (line_seen_legal m r (n + 1) l ls h) (λ r' k. load_from_legal m ls r' (n + 1) g k)
  where
    by : (s : Seen) → SeenLegal m s → ((r' : Progress) → Legal m r'.macros → LoadLegal (load_from m r' (n + 1) ls))
        → LoadLegal (load_on m r.macros (n + 1) ls (λ r'. load_from m r' (n + 1) ls) s)
    by (fault k) e ih = tt
    by (more r') e ih = ih r' e
    by section_ends e ih = (g, h)

-- every load
load_all : (text : Bytes) → LoadLegal (load text)
unfolding load load_lines none_read templates count nodes nodes_from
load_all text = both LoadLegal (ltb 65536 (length text) || has 0 text) _ _ tt (through_lines (lines text))
  where
    none_yet : (m : Marks) → Legal m []
    none_yet m = record { few = omega arith; tree = omega arith; short = λ i. omega arith; nine = λ i. omega arith; different = λ i j h k e. absurd (omega arith) }

    by_marks : (o : Option Marks) (ls : List Bytes) → MarksLawful o → LoadLegal (elim o [ none ↦ refused 3 1 | some m ↦ load_from m none_read 1 ls ])
    by_marks none ls h = tt
    by_marks (some m) ls h = load_from_legal m ls none_read 1 h (none_yet m)

    through_lines : (ls : List Bytes) → LoadLegal (load_lines ls)
    through_lines [] = tt
    through_lines (f ∷ ls) = by_marks (marks_of f) ls (marks_of_lawful f)

-- ---- code lines

-- one more macro
code_lines_snoc : (ms : List Macro) (x : Macro) → code_lines (ms ++ (x ∷ [])) ≡ code_lines ms + length x.body
unfolding code_lines
code_lines_snoc [] x = omega arith
code_lines_snoc (y ∷ ms) x = omega (arith, code_lines_snoc ms x)

-- the code lines of the body being read that are still to come
abbrev to_come : Marks → Bool → List Bytes → ℕ
to_come m true ls = length (body_of m ls)
to_come m false ls = 0

-- the code lines of the macros so far are those counted and those to come
pub record Counts (m : Marks) (r : Progress) (ls : List Bytes) : Type 0 where
  pub all : code_lines r.macros ≡ r.codes + to_come m r.in_body ls
  pub few : r.codes ≤ 1024

-- what a line leaves is counted
abbrev SeenCounts : Marks → Progress → List Bytes → Seen → Type 0
SeenCounts m r ls (fault k) = Unit {0}
SeenCounts m r ls (more r') = Counts m r' ls
SeenCounts m r ls section_ends = code_lines r.macros ≤ 1024

-- a load has few code lines
abbrev LoadCounts : Load → Type 0
LoadCounts (refused k n) = Unit {0}
LoadCounts (loaded t) = code_lines t.macros ≤ 1024

-- without a fault, what is read is counted
unless_counts : (m : Marks) (r : Progress) (ls : List Bytes) (o : Option ℕ) (r' : Progress) → Counts m r' ls → SeenCounts m r ls (unless o r')
unfolding unless
unless_counts m r ls (some k) r' h = tt
unless_counts m r ls none r' h = h

-- a code line without a fault
code_line_counts : (m : Marks) (r : Progress) (c : Bytes) (e : Effect) (ls : List Bytes) → code_lines r.macros ≡ r.codes + suc (length (body_of m ls)) → SeenCounts m r ls (code_line r c e)
unfolding code_line lowest unless
code_line_counts m r c e ls h = by (ltb 200 (length c)) (unmatched e r.opened) (leb 1024 r.codes) refl
  where
    r' : Progress
    r' = record { macros = r.macros; codes = suc r.codes; in_body = true; opened = open_after e r.opened; due = is_owner e }

    by : (long bad full : Bool) → leb 1024 r.codes ≡ full → SeenCounts m r ls (unless (lowest ((long, 4) ∷ (bad, 7) ∷ (full, 9) ∷ [])) r')
    by true bad full f = tt
    by false true full f = tt
    by false false true f = tt
    by false false false f = record { all = omega arith; few = leb-false 1024 r.codes f }

-- any line
line_seen_counts : (m : Marks) (r : Progress) (n : ℕ) (l : Bytes) (ls : List Bytes) → Counts m r (l ∷ ls) → SeenCounts m r ls (line_seen m r n l ls)
unfolding line_seen after_line template_line body_of
line_seen_counts m r n l ls h = by r.in_body refl
  where
    -- what was to come, in a body and outside
    within_body : r.in_body ≡ true → code_lines r.macros ≡ r.codes + length (body_of m (l ∷ ls))
    within_body b = h.all ∙ ap (λ (x : Bool). r.codes + to_come m x (l ∷ ls)) b

    outside : r.in_body ≡ false → code_lines r.macros ≡ r.codes + 0
    outside b = h.all ∙ ap (λ (x : Bool). r.codes + to_come m x (l ∷ ls)) b

    at-end : code_lines r.macros ≡ r.codes + 0 → SeenCounts m r ls (after_line m r (drop 1 l))
    at-end e = both (SeenCounts m r ls) (eqb r.opened 0 && not r.due) _ _
        (both (SeenCounts m r ls) (starts_with m.code (drop 1 l)) _ _ (omega (arith, h.few)) (record { all = e; few = h.few })) tt

    by : (b : Bool) → r.in_body ≡ b → SeenCounts m r ls (elim b [
      | false ↦ template_line m r n (up_to m.source l) ls
      | true ↦ elim (starts_with m.code l) [ true ↦ after_line m r (drop 1 l) | false ↦ code_line r (up_to m.code l) (effect_here m r.due (up_to m.code l)) ]
    ])
    by true b = split (SeenCounts m r ls) (starts_with m.code l) _ _
        (λ e. at-end (rw (e, body_of) at (within_body b)))
        (λ e. code_line_counts m r (up_to m.code l) _ ls (rw (e, body_of) at (within_body b)))
    by false b = unless_counts m r ls _ _ (record { all = code_lines_snoc r.macros _ ∙ omega (arith, outside b); few = h.few })

-- all lines
load_from_counts : (m : Marks) (ls : List Bytes) (r : Progress) (n : ℕ) → Counts m r ls → LoadCounts (load_from m r n ls)
unfolding load_from load_on
load_from_counts m [] r n h = tt
load_from_counts m (l ∷ ls) r n h = by (line_seen m r (n + 1) l ls) (line_seen_counts m r (n + 1) l ls h) (λ r' k. load_from_counts m ls r' (n + 1) k)
  where
    by : (s : Seen) → SeenCounts m r ls s → ((r' : Progress) → Counts m r' ls → LoadCounts (load_from m r' (n + 1) ls))
        → LoadCounts (load_on m r.macros (n + 1) ls (λ r'. load_from m r' (n + 1) ls) s)
    by (fault k) e ih = tt
    by (more r') e ih = ih r' e
    by section_ends e ih = e

-- every load
load_counts : (text : Bytes) → LoadCounts (load text)
unfolding load load_lines none_read code_lines
load_counts text = both LoadCounts (ltb 65536 (length text) || has 0 text) _ _ tt (through_lines (lines text))
  where
    by_marks : (o : Option Marks) (ls : List Bytes) → LoadCounts (elim o [ none ↦ refused 3 1 | some m ↦ load_from m none_read 1 ls ])
    by_marks none ls = tt
    by_marks (some m) ls = load_from_counts m ls none_read 1 (record { all = omega arith; few = omega arith })

    through_lines : (ls : List Bytes) → LoadCounts (load_lines ls)
    through_lines [] = tt
    through_lines (f ∷ ls) = by_marks (marks_of f) ls

-- ---- the theorems

-- a text that loads has at most 1,024 code lines
pub load_codes : (text : Bytes) (t : Loaded) → load text ≡ loaded t → code_lines t.macros ≤ 1024
load_codes text t e = subst LoadCounts e (load_counts text)

-- a text that loads has lawful marks and legal templates
pub load_legal : (text : Bytes) (t : Loaded) → load text ≡ loaded t → Lawful t.marks × Legal t.marks t.macros
load_legal text t e = subst LoadLegal e (load_all text)

module _ (text : Bytes) (t : Loaded) (e : load text ≡ loaded t) (line : Bytes) where
  -- a line is no call exactly where it has no reading
  pub loaded_no_call : chosen t.marks (templates t.macros) line ≡ none ↔ ((i : ℕ) (ps : Pieces) → ¬ Reads t.marks (templates t.macros) line i ps)
  loaded_no_call = no_call t.marks (brackets t.marks (load_legal text t e).0) (templates t.macros) line

  -- the chosen reading is the first
  pub loaded_chosen : (r : Reading) → chosen t.marks (templates t.macros) line ≡ some r → First t.marks (templates t.macros) line r.which r.pieces
  loaded_chosen r h = chosen_first t.marks (brackets t.marks (load_legal text t e).0) (templates t.macros) line (load_legal text t e).1.different r h

  -- the first reading is the chosen one
  pub loaded_first : (i : ℕ) (ps : Pieces) → First t.marks (templates t.macros) line i ps
      → (r : Reading) × (chosen t.marks (templates t.macros) line ≡ some r) × (i ≡ r.which) × (ps ≡ r.pieces)
  loaded_first i ps h = first_chosen t.marks (brackets t.marks (load_legal text t e).0) (templates t.macros) line i ps h
