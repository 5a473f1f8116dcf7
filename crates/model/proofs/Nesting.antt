-- A text that loads has its iterations well nested, at most four in one another, and code lines of at most 200 bytes;
-- what a skip lands on, and what follows an iteration that is passed over, is well nested too.
-- The theorems: passing, pass-nested, past_loop-nested, load-nested.
use mathlib.Core.Path.{◌≡◌, refl, sym, subst}
use mathlib.Core.Bool.{Bool, true, false, not, ◌&&◌, ◌||◌}
use mathlib.Core.Option.{Option, none, some}
use mathlib.Core.List.{List, [], ◌∷◌, ◌++◌}
use Prim.Native.Nat.{ℕ, zero, suc, ◌+◌, ◌-◌, ◌≤◌}
use native.Mathlib.Nat.{zero-add, suc-add}
use native.Mathlib.Omega.{arith}
use borrow.Author.Tests.{ltb-false, leb-true, leb-false, eqb-true, eqb-false, le-leb, not-true}
use lib.Dec.{eqb, leb, ltb}
use lib.ListN.{length, get_or, drop}
use Rattle.model.specs.declared.Marks.{Marks}
use Rattle.model.specs.Text.{Bytes, has, starts_with, up_to, lines, marks_of}
use Rattle.model.specs.Code.{effect}
use Rattle.model.specs.declared.Effect.{Effect}
use Rattle.model.specs.declared.Effect.TheVariants.{Malformed, Plain, Opens, Closes, Owns}
use Rattle.model.specs.Load.{Macro, body_of, unless, load_on, Progress, Seen, fault, more, section_ends, lowest, template_fault, effect_here, unmatched, open_after, is_owner, no_macro, template_line, code_line, after_line, line_seen, Loaded, Load, refused, loaded, load_from, none_read, load_lines, load}
use Rattle.model.specs.Machine.{Passed, landed, beyond, bad_landing, pass_over, past_loop}
use Rattle.model.specs.Sizes.{AllShort, nested, well_nested, BodiesOk}
use Rattle.model.proofs.Choices.{false-not-true, both, split, and_left, and_right, and_both}

-- ---- well nested code lines

-- at most four are open
pub nested_few : (m : Marks) (n : ℕ) (cs : List Bytes) → well_nested m n cs ≡ true → n ≤ 4
unfolding well_nested
nested_few m n cs e = leb-true n 4 (and_left _ _ e)

-- at a body's end none is open
pub nested-none : (m : Marks) (n : ℕ) → well_nested m n [] ≡ true → n ≡ 0
unfolding well_nested nested
nested-none m n e = eqb-true n 0 (and_right (leb n 4) (eqb n 0) e)

-- a body's end is well nested
pub nested-end : (m : Marks) → well_nested m 0 [] ≡ true
unfolding well_nested nested
nested-end m = refl

-- what remains after a code line, by its effect
abbrev pub Passing : Marks → ℕ → Effect → List Bytes → Type 0
Passing m n Malformed cs = ⊥
Passing m n Plain cs = well_nested m n cs ≡ true
Passing m n Opens cs = well_nested m (suc n) cs ≡ true
Passing m zero Closes cs = ⊥
Passing m (suc k) Closes cs = well_nested m k cs ≡ true
Passing m n Owns [] = ⊥
Passing m n Owns (b ∷ cs) = well_nested m n cs ≡ true

-- a code line leaves what its effect says
pub passing : (m : Marks) (n : ℕ) (c : Bytes) (cs : List Bytes) → well_nested m n (c ∷ cs) ≡ true → Passing m n (effect m c) cs
unfolding well_nested nested
passing m n c cs h = by n cs (effect m c) (leb-true n 4 (and_left (leb n 4) _ h)) (and_right (leb n 4) _ h)
  where
    by : (n : ℕ) (cs : List Bytes) (e : Effect) → n ≤ 4
        → (elim e as (λ x. Bool) [ Malformed ↦ false | Plain ↦ nested m false n cs | Opens ↦ leb (suc n) 4 && nested m false (suc n) cs | Closes ↦ elim n [ zero ↦ false | suc k ↦ nested m false k cs ] | Owns ↦ nested m true n cs ]) ≡ true
        → Passing m n e cs
    by n cs Malformed b h = false-not-true h
    by n cs Plain b h = and_both _ _ (le-leb n 4 b) h
    by n cs Opens b h = h
    by zero cs Closes b h = false-not-true h
    by (suc k) cs Closes b h = and_both _ _ (le-leb k 4 (omega arith)) h
    by n [] Owns b h = false-not-true h
    by n (c ∷ cs) Owns b h = and_both _ _ (le-leb n 4 b) h

-- ---- lines passed over

-- what a skip lands on is well nested
abbrev pub Lands : Marks → ℕ → Passed → Type 0
Lands m n (landed cs) = well_nested m n cs ≡ true
Lands m n (beyond k) = Unit {0}
Lands m n bad_landing = Unit {0}

-- no iteration opened since: the same are open
pub level_past : (d n : ℕ) → eqb d 0 ≡ true → d + n ≡ n
level_past d n e = let q : d ≡ 0 = eqb-true d 0 e in omega arith

-- a skip lands among n open iterations if it set out from them
pub pass_over-nested : (m : Marks) (k d n : ℕ) (cs : List Bytes) → well_nested m (d + n) cs ≡ true → Lands m n (pass_over m k d cs)
unfolding pass_over
pass_over-nested m zero zero n cs h = rw zero-add at h
pass_over-nested m zero (suc d) n cs h = tt
pass_over-nested m (suc k) zero n [] h = tt
pass_over-nested m (suc k) (suc d) n [] h = tt
pass_over-nested m (suc k) zero n (c ∷ cs) h = by cs (effect m c) (rw zero-add at (passing m (0 + n) c cs h)) (λ d cs. pass_over-nested m k d n cs)
  where
    by : (cs : List Bytes) (e : Effect) → Passing m n e cs → ((d : ℕ) (cs : List Bytes) → well_nested m (d + n) cs ≡ true → Lands m n (pass_over m k d cs))
        → Lands m n (elim e [ Malformed ↦ pass_over m k zero cs | Plain ↦ pass_over m k zero cs | Opens ↦ pass_over m k (suc zero) cs | Closes ↦ bad_landing | Owns ↦ pass_over m k zero (drop 1 cs) ])
    by cs Malformed h ih = absurd h
    by cs Plain h ih = ih 0 cs (rw zero-add h)
    by cs Opens h ih = let q : 1 + n ≡ suc n = omega arith in ih 1 cs (rw q h)
    by cs Closes h ih = tt
    by [] Owns h ih = absurd h
    by (b ∷ cs) Owns h ih = ih 0 cs (rw zero-add h)
pass_over-nested m (suc k) (suc d) n (c ∷ cs) h = by cs (effect m c) (rw suc-add at (passing m (suc d + n) c cs h)) (λ d cs. pass_over-nested m k d n cs)
  where
    by : (cs : List Bytes) (e : Effect) → Passing m (suc (d + n)) e cs → ((d : ℕ) (cs : List Bytes) → well_nested m (d + n) cs ≡ true → Lands m n (pass_over m k d cs))
        → Lands m n (elim e [ Malformed ↦ pass_over m k (suc d) cs | Plain ↦ pass_over m k (suc d) cs | Opens ↦ pass_over m k (suc (suc d)) cs | Closes ↦ pass_over m k d cs | Owns ↦ pass_over m k (suc d) (drop 1 cs) ])
    by cs Malformed h ih = absurd h
    by cs Plain h ih = ih (suc d) cs (rw suc-add h)
    by cs Opens h ih = let q : suc (suc d) + n ≡ suc (suc (d + n)) = omega arith in ih (suc (suc d)) cs (rw q h)
    by cs Closes h ih = ih d cs h
    by [] Owns h ih = absurd h
    by (b ∷ cs) Owns h ih = ih (suc d) cs (rw suc-add h)

-- past the end of an iteration, one fewer is open
pub past_loop-nested : (m : Marks) (d n : ℕ) (cs : List Bytes) → well_nested m (suc (d + n)) cs ≡ true → well_nested m n (past_loop m d cs) ≡ true
unfolding past_loop
past_loop-nested m d n [] h = let q : suc (d + n) ≡ 0 = nested-none m (suc (d + n)) h in absurd (omega arith)
past_loop-nested m d n (c ∷ []) h = by (effect m c) (passing m (suc (d + n)) c [] h)
  where
    at_end : d + n ≡ 0 → well_nested m n [] ≡ true
    at_end q = let z : n ≡ 0 = omega arith in rw z (nested-end m)

    by : (e : Effect) → Passing m (suc (d + n)) e [] → well_nested m n [] ≡ true
    by Malformed h = absurd h
    by Plain h = let q : suc (d + n) ≡ 0 = nested-none m (suc (d + n)) h in absurd (omega arith)
    by Opens h = let q : suc (suc (d + n)) ≡ 0 = nested-none m (suc (suc (d + n))) h in absurd (omega arith)
    by Closes h = at_end (nested-none m (d + n) h)
    by Owns h = absurd h
past_loop-nested m d n (c ∷ b ∷ cs) h = by d (effect m c) (passing m (suc (d + n)) c (b ∷ cs) h) (λ d. past_loop-nested m d n (b ∷ cs)) (λ d. past_loop-nested m d n cs)
  where
    P : List Bytes → Type 0
    P l = well_nested m n l ≡ true

    by : (d : ℕ) (e : Effect) → Passing m (suc (d + n)) e (b ∷ cs)
        → ((d : ℕ) → well_nested m (suc (d + n)) (b ∷ cs) ≡ true → well_nested m n (past_loop m d (b ∷ cs)) ≡ true)
        → ((d : ℕ) → well_nested m (suc (d + n)) cs ≡ true → well_nested m n (past_loop m d cs) ≡ true)
        → well_nested m n (elim e [
          | Malformed ↦ past_loop m d (b ∷ cs)
          | Plain ↦ past_loop m d (b ∷ cs)
          | Opens ↦ past_loop m (suc d) (b ∷ cs)
          | Closes ↦ elim (eqb d 0) [ true ↦ b ∷ cs | false ↦ past_loop m (d - 1) (b ∷ cs) ]
          | Owns ↦ past_loop m d cs
        ]) ≡ true
    by d Malformed h ih ih' = absurd h
    by d Plain h ih ih' = ih d h
    by d Opens h ih ih' = ih (suc d) (rw suc-add h)
    by d Closes h ih ih' = split P (eqb d 0) (b ∷ cs) (past_loop m (d - 1) (b ∷ cs)) (λ e. rw (level_past d n e) at h)
        (λ e. let q : suc (d - 1 + n) ≡ d + n = omega (arith, eqb-false d 0 e) in ih (d - 1) (rw q h))
    by d Owns h ih ih' = ih' d h

-- ---- a text that loads

-- one more macro
pub all_snoc : (m : Marks) (xs : List Macro) (x : Macro) → BodiesOk m xs → well_nested m 0 x.body ≡ true → AllShort 200 x.body → BodiesOk m (xs ++ (x ∷ []))
all_snoc m [] x h e k = (e, k, tt)
all_snoc m (y ∷ ys) x h e k = (h.0, h.1, all_snoc m ys x h.2 e k)

-- the macro at a place
pub all_at : (m : Marks) (xs : List Macro) (i : ℕ) → BodiesOk m xs → well_nested m 0 (get_or xs i no_macro).body ≡ true
unfolding no_macro
all_at m [] i h = nested-end m
all_at m (x ∷ xs) zero h = h.0
all_at m (x ∷ xs) (suc i) h = all_at m xs i h.2

-- the rest of a body that is being read is well nested among what is open
abbrev pub BodyOk : Marks → Bool → Bool → ℕ → List Bytes → Type 0
BodyOk m true due n ls = (nested m due n (body_of m ls) ≡ true) × AllShort 200 (body_of m ls)
BodyOk m false due n ls = Unit {0}

-- where these lines load, the body being read is well nested; and if the macros so far are, all are
abbrev pub LoadsOk : Marks → Progress → List Bytes → Load → Type 0
LoadsOk m r ls (refused k n) = Unit {0}
LoadsOk m r ls (loaded t) = BodyOk m r.in_body r.due r.opened ls × (BodiesOk m r.macros → BodiesOk t.marks t.macros)

-- what is seen of the line l, with ls after it: what holds of the rest then holds of both
abbrev pub SeenOk : Marks → Progress → Bytes → List Bytes → Seen → Type 0
SeenOk m r l ls (fault k) = Unit {0}
SeenOk m r l ls (more r') = (x : Load) → LoadsOk m r' ls x → LoadsOk m r (l ∷ ls) x
SeenOk m r l ls section_ends = BodyOk m r.in_body r.due r.opened (l ∷ ls)

-- a template line: its body is what the next lines make it
pub template_line-nested : (m : Marks) (r : Progress) (n : ℕ) (c l : Bytes) (ls : List Bytes) → r.in_body ≡ false → SeenOk m r l ls (template_line m r n c ls)
unfolding template_line unless well_nested
template_line-nested m r n c l ls b = by (template_fault m r.macros c)
  where
    x : Macro
    x = record { line = n; template = c; body = body_of m ls }

    r' : Progress
    r' = record { macros = r.macros ++ (x ∷ []); codes = r.codes; in_body = true; opened = 0; due = false }

    carried : (x : Load) → LoadsOk m r' ls x → LoadsOk m r (l ∷ ls) x
    carried (refused k j) h = tt
    carried (loaded t) h = rw b (tt, λ k. h.1 (all_snoc m r.macros x k h.0.0 h.0.1))

    by : (o : Option ℕ) → SeenOk m r l ls (unless o r')
    by (some k) = tt
    by none = carried

-- one code line more
pub nested_line : (m : Marks) (due : Bool) (n : ℕ) (c : Bytes) (cs : List Bytes) → unmatched (effect_here m due c) n ≡ false
    → nested m (is_owner (effect_here m due c)) (open_after (effect_here m due c) n) cs ≡ true → nested m due n (c ∷ cs) ≡ true
unfolding nested effect_here unmatched is_owner open_after
nested_line m true n c cs u h = h
nested_line m false n c cs u h = by n (effect m c) u h
  where
    by : (n : ℕ) (e : Effect) → unmatched e n ≡ false → nested m (is_owner e) (open_after e n) cs ≡ true
        → (elim e as (λ x. Bool) [ Malformed ↦ false | Plain ↦ nested m false n cs | Opens ↦ leb (suc n) 4 && nested m false (suc n) cs | Closes ↦ elim n [ zero ↦ false | suc k ↦ nested m false k cs ] | Owns ↦ nested m true n cs ]) ≡ true
    by n Malformed u h = false-not-true (sym u)
    by n Plain u h = h
    by n Opens u h = and_both _ _ (le-leb (suc n) 4 (leb-false 4 n u)) h
    by zero Closes u h = false-not-true (sym u)
    by (suc k) Closes u h = let q : suc k - 1 ≡ k = omega arith in rw q at h
    by n Owns u h = h

-- a code line: what follows it decides
pub code_line-nested : (m : Marks) (r : Progress) (c l : Bytes) (ls : List Bytes) → r.in_body ≡ true → body_of m (l ∷ ls) ≡ c ∷ body_of m ls
    → SeenOk m r l ls (code_line r c (effect_here m r.due c))
unfolding code_line lowest unless
code_line-nested m r c l ls b d = by (ltb 200 (length c)) refl (unmatched e r.opened) refl (leb 1024 r.codes)
  where
    e : Effect
    e = effect_here m r.due c

    r' : Progress
    r' = record { macros = r.macros; codes = suc r.codes; in_body = true; opened = open_after e r.opened; due = is_owner e }

    carried : ltb 200 (length c) ≡ false → unmatched e r.opened ≡ false → (x : Load) → LoadsOk m r' ls x → LoadsOk m r (l ∷ ls) x
    carried s u (refused k j) h = tt
    carried s u (loaded t) h = rw (b, d) ((nested_line m r.due r.opened c (body_of m ls) u h.0.0, (ltb-false 200 (length c) s, h.0.1)), h.1)

    by : (long : Bool) → ltb 200 (length c) ≡ long → (bad : Bool) → unmatched e r.opened ≡ bad → (full : Bool)
        → SeenOk m r l ls (unless (lowest ((long, 4) ∷ (bad, 7) ∷ (full, 9) ∷ [])) r')
    by true s bad u full = tt
    by false s true u full = tt
    by false s false u true = tt
    by false s false u false = carried s u

-- at a body's end, with nothing open and no layout due
pub body_done : (m : Marks) (r : Progress) → (eqb r.opened 0 && not r.due) ≡ true → nested m r.due r.opened [] ≡ true
unfolding nested
body_done m r e =
    let z : r.opened ≡ 0 = eqb-true r.opened 0 (and_left (eqb r.opened 0) (not r.due) e) in
    let d : r.due ≡ false = not-true r.due (and_right (eqb r.opened 0) (not r.due) e) in
    rw (d, z) refl

-- a line that ends the macro or the section
pub end_line-nested : (m : Marks) (r : Progress) (s l : Bytes) (ls : List Bytes) → r.in_body ≡ true → body_of m (l ∷ ls) ≡ [] → SeenOk m r l ls (after_line m r s)
unfolding after_line
end_line-nested m r s l ls b d = split (SeenOk m r l ls) (eqb r.opened 0 && not r.due) _ _
    (λ e. both (SeenOk m r l ls) (starts_with m.code s) _ _ (rw (b, d) (body_done m r e, tt)) (carried e)) (λ e. tt)
  where
    r' : Progress
    r' = record { macros = r.macros; codes = r.codes; in_body = false; opened = 0; due = false }

    carried : (eqb r.opened 0 && not r.due) ≡ true → (x : Load) → LoadsOk m r' ls x → LoadsOk m r (l ∷ ls) x
    carried e (refused k j) h = tt
    carried e (loaded t) h = rw (b, d) ((body_done m r e, tt), h.1)

-- any line
pub line_seen-nested : (m : Marks) (r : Progress) (n : ℕ) (l : Bytes) (ls : List Bytes) → SeenOk m r l ls (line_seen m r n l ls)
unfolding line_seen body_of
line_seen-nested m r n l ls = by r.in_body refl
  where
    body_end : starts_with m.code l ≡ true → body_of m (l ∷ ls) ≡ []
    body_end e = rw (e, body_of)

    body_line : starts_with m.code l ≡ false → body_of m (l ∷ ls) ≡ up_to m.code l ∷ body_of m ls
    body_line e = rw (e, body_of)

    by : (b : Bool) → r.in_body ≡ b → SeenOk m r l ls (elim b [
      | false ↦ template_line m r n (up_to m.source l) ls
      | true ↦ elim (starts_with m.code l) [ true ↦ after_line m r (drop 1 l) | false ↦ code_line r (up_to m.code l) (effect_here m r.due (up_to m.code l)) ]
    ])
    by true b = split (SeenOk m r l ls) (starts_with m.code l) _ _
        (λ e. end_line-nested m r (drop 1 l) l ls b (body_end e))
        (λ e. code_line-nested m r (up_to m.code l) l ls b (body_line e))
    by false b = template_line-nested m r n (up_to m.source l) l ls b

-- all lines
pub load_from-nested : (m : Marks) (ls : List Bytes) (r : Progress) (n : ℕ) → LoadsOk m r ls (load_from m r n ls)
unfolding load_from load_on
load_from-nested m [] r n = tt
load_from-nested m (l ∷ ls) r n = by (line_seen m r (n + 1) l ls) (line_seen-nested m r (n + 1) l ls) (λ r'. load_from-nested m ls r' (n + 1))
  where
    by : (s : Seen) → SeenOk m r l ls s → ((r' : Progress) → LoadsOk m r' ls (load_from m r' (n + 1) ls))
        → LoadsOk m r (l ∷ ls) (load_on m r.macros (n + 1) ls (λ r'. load_from m r' (n + 1) ls) s)
    by (fault k) h ih = tt
    by (more r') h ih = h (load_from m r' (n + 1) ls) (ih r')
    by section_ends h ih = (h, λ k. k)

-- what a load gives
abbrev pub LoadOk : Load → Type 0
LoadOk (refused k n) = Unit {0}
LoadOk (loaded t) = BodiesOk t.marks t.macros

-- every load
pub load_ok : (text : Bytes) → LoadOk (load text)
unfolding load load_lines none_read
load_ok text = both LoadOk (ltb 65536 (length text) || has 0 text) _ _ tt (through_lines (lines text))
  where
    all : (m : Marks) (ls : List Bytes) (x : Load) → LoadsOk m none_read ls x → LoadOk x
    all m ls (refused k n) h = tt
    all m ls (loaded t) h = h.1 tt

    through_lines : (ls : List Bytes) → LoadOk (load_lines ls)
    through_lines [] = tt
    through_lines (f ∷ ls) = elim (marks_of f) as (λ o. LoadOk (elim o [ none ↦ refused 3 1 | some m ↦ load_from m none_read 1 ls ]))
        [ none ↦ tt | some m ↦ all m ls (load_from m none_read 1 ls) (load_from-nested m ls none_read 1) ]

-- every macro of a text that loads has a well nested body
pub load-nested : (text : Bytes) (t : Loaded) → load text ≡ loaded t → BodiesOk t.marks t.macros
load-nested text t e = subst LoadOk e (load_ok text)
