-- What a table holds, macro by macro, and what it holds once another macro is stored.
use mathlib.Core.Path.{◌≡◌, refl, sym, ◌∙◌, ap, subst}
use mathlib.Core.List.{List, [], ◌∷◌, ◌++◌}
use mathlib.Core.Logic.{⊎_elim}
use Prim.Native.Nat.{ℕ, zero, suc, ◌+◌, ◌≤◌, ◌<◌}
use native.Mathlib.Omega.{arith}
use native.Mathlib.Nat.{eq-or-lt_of_le}
use native.Mathlib.Numerals.{add-one}
use lib.ListN.{length, get_or, length-append, get_or-append, get_or-map}
use lib.Seq.{get_or_at, get_or-set_other}
use Rattle.model.specs.declared.Marks.{Marks}
use Rattle.model.specs.Text.{Bytes, part}
use Rattle.model.specs.Load.{no_macro, templates, body_at}
use Rattle.model.proofs.Loading.{templates_snoc}
use Rattle.macros.specs.declared.Entry.{Entry}
use Rattle.macros.specs.declared.Table.{Table}
use Rattle.macros.specs.Table.{no_entry, entry_in, start_in, len_in, line_in, body_in, bodies_in, PutsMacro, template_in, templates_in, macro_in, macros_in, EntriesInside}

-- what holds below n and of n holds below n + 1
pub one_more : (n : ℕ) (P : ℕ → Type 0) → ((k : ℕ) → k < n → P k) → P n → (k : ℕ) → k < n + 1 → P k
one_more n P h p k u = ⊎_elim (λ q. subst P (sym q) p) (λ q. h k q) (eq-or-lt_of_le {n = k} {m = n} (omega arith))

-- ---- the bodies

-- each stands in the row of all
pub bodies_in_at : (t : Table) (k : ℕ) → get_or (bodies_in t) k 0 ≡ body_in t k
bodies_in_at t k = get_or-map (λ (e : Entry). e.body) t.entries k no_entry

-- ---- the templates

module _ (text : Bytes) (t : Table) where
  pub templates_in_length : (n : ℕ) → length (templates_in text t n) ≡ n
  unfolding templates_in
  templates_in_length zero = refl
  templates_in_length (suc n) = omega (arith, length-append (templates_in text t n) (template_in text t n ∷ []), templates_in_length n)

  pub templates_in_at : (n k : ℕ) → k < n → get_or (templates_in text t n) k [] ≡ template_in text t k
  unfolding templates_in
  templates_in_at zero k u = absurd (omega arith)
  templates_in_at (suc n) k u =
      ⊎_elim (λ q. rw q (get_or_at (templates_in text t n) (template_in text t n) [] [] n (templates_in_length n)))
      (λ q. get_or-append (templates_in text t n) (template_in text t n ∷ []) [] k (omega (arith, templates_in_length n)) ∙ templates_in_at n k q)
      (eq-or-lt_of_le {n = k} {m = n} (omega arith))

-- ---- the macros

module _ (m : Marks) (text : Bytes) (t : Table) where
  pub macros_in_length : (n : ℕ) → length (macros_in m text t n) ≡ n
  unfolding macros_in
  macros_in_length zero = refl
  macros_in_length (suc n) = omega (arith, length-append (macros_in m text t n) (macro_in m text t n ∷ []), macros_in_length n)

  pub macros_in_at : (n k : ℕ) → k < n → get_or (macros_in m text t n) k no_macro ≡ macro_in m text t k
  unfolding macros_in
  macros_in_at zero k h = absurd (omega arith)
  macros_in_at (suc n) k h =
      ⊎_elim (λ e. rw e (get_or_at (macros_in m text t n) (macro_in m text t n) [] no_macro n (macros_in_length n)))
      (λ l. get_or-append (macros_in m text t n) (macro_in m text t n ∷ []) no_macro k (omega (arith, macros_in_length n)) ∙ macros_in_at n k l)
      (eq-or-lt_of_le {n = k} {m = n} (omega arith))

  pub macros-templates : (n : ℕ) → templates (macros_in m text t n) ≡ templates_in text t n
  unfolding macros_in templates templates_in
  macros-templates zero = refl
  macros-templates (suc n) = templates_snoc (macros_in m text t n) (macro_in m text t n) ∙ ap (λ (l : List Bytes). l ++ (template_in text t n ∷ [])) (macros-templates n)

-- ---- tables that hold the same macros

-- the first n macros of t' have the numbers that they have in t
pub record SameMacros (t t' : Table) (n : ℕ) : Type 0 where
  pub start : (k : ℕ) → k < n → start_in t' k ≡ start_in t k
  pub len : (k : ℕ) → k < n → len_in t' k ≡ len_in t k
  pub line : (k : ℕ) → k < n → line_in t' k ≡ line_in t k
  pub body : (k : ℕ) → k < n → body_in t' k ≡ body_in t k

pub same_entries : {t t' : Table} (n : ℕ) → ((k : ℕ) → k < n → entry_in t' k ≡ entry_in t k) → SameMacros t t' n
same_entries n h = record {
  start = λ k u. ap (λ (e : Entry). e.start) (h k u);
  len = λ k u. ap (λ (e : Entry). e.len) (h k u);
  line = λ k u. ap (λ (e : Entry). e.line) (h k u);
  body = λ k u. ap (λ (e : Entry). e.body) (h k u);
}

-- they are the same macros
pub macros-same : (m : Marks) (text : Bytes) (t t' : Table) (n : ℕ) → SameMacros t t' n → (i : ℕ) → i ≤ n → macros_in m text t' i ≡ macros_in m text t i
unfolding macros_in
macros-same m text t t' n h zero u = refl
macros-same m text t t' n h (suc i) u = rw (macros-same m text t t' n h i (omega arith), h.start i u, h.len i u, h.line i u, h.body i u)

-- and lie in the text as they did
pub entries_same : (text : Bytes) (t t' : Table) (n : ℕ) → SameMacros t t' n → EntriesInside text t n → EntriesInside text t' n
entries_same text t t' n h i = record {
  entries = record { few = i.entries.few; inside = λ k u. rw (h.start k u, h.len k u) (i.entries.inside k u) };
  short = λ k u. rw (h.len k u) (i.short k u);
  body = λ k u. rw (h.body k u) (i.body k u);
}

-- ---- a macro more

module _ {t t' : Table} {e : Entry} {place : ℕ} (h : PutsMacro t e place t') where
  -- the others are as they were
  put_other : (j : ℕ) → ¬ (j ≡ t.count) → entry_in t' j ≡ entry_in t j
  put_other j f = ap (λ (es : List Entry). get_or es j no_entry) h.entries ∙ get_or-set_other t.entries t.count j e no_entry f

  put_same : SameMacros t t' t.count
  put_same = same_entries t.count (λ j u. put_other j (λ z. omega arith))

  put_start : start_in t' t.count ≡ e.start
  put_start = ap (λ (x : Entry). x.start) h.last

  put_len : len_in t' t.count ≡ e.len
  put_len = ap (λ (x : Entry). x.len) h.last

  -- the new macro comes after the earlier ones
  pub macros-put : (m : Marks) (text : Bytes) → macros_in m text t' t'.count
      ≡ macros_in m text t t.count ++ (record { line = e.line; template = part text e.start (e.start + e.len); body = body_at m text e.body } ∷ [])
  unfolding macros_in
  macros-put m text =
      ap (macros_in m text t') (h.more ∙ add-one t.count)
      ∙ rw (
        macros-same m text t t' t.count put_same t.count (omega arith),
        put_start,
        put_len,
        ap (λ (x : Entry). x.line) h.last,
        ap (λ (x : Entry). x.body) h.last,
      )

  -- each lies in the text where the new one does
  pub entries_put : (text : Bytes) → t.count < 128 → e.start + e.len ≤ length text → e.len ≤ 200 → e.body ≤ length text
      → EntriesInside text t t.count → EntriesInside text t' t'.count
  entries_put text u a l b g =
      let g' = entries_same text t t' t.count put_same g in
      subst (EntriesInside text t') (sym h.more) (record {
        entries = record {
          few = omega arith;
          inside = one_more t.count (λ j. start_in t' j + len_in t' j ≤ length text) g'.entries.inside (rw (put_start, put_len) a);
        };
        short = one_more t.count (λ j. len_in t' j ≤ 200) g'.short (rw put_len l);
        body = one_more t.count (λ j. body_in t' j ≤ length text) g'.body (rw (ap (λ (x : Entry). x.body) h.last) b);
      })
