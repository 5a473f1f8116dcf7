-- What the function that weighs a template says of whatever macros stand in the table, and what a new macro makes of the table.
use mathlib.Core.Path.{◌≡◌, refl, ap, sym, ◌∙◌}
use mathlib.Core.Bool.{Bool, true, false}
use mathlib.Core.List.{List, [], ◌∷◌, ◌++◌}
use Prim.Native.Nat.{ℕ, ◌+◌, ◌<◌}
use native.Mathlib.Omega.{arith}
use lib.Dec.{eqb}
use lib.ListN.{length, take, drop}
use Rattle.model.specs.declared.Marks.{Marks}
use Rattle.model.specs.Text.{Bytes, part, up_to, lines}
use Rattle.model.specs.Load as Load
use Rattle.model.specs.Load.{Macro, body_at, body_of, count, templates, nodes, template_fault, unless, template_line, line_seen}
use Rattle.model.proofs.Choices.{when_true, when_false}
use Rattle.model.proofs.Text.{part-take}
use Rattle.std.proofs.lemmas.List.{length-take-le}
use Rattle.model.proofs.Loading.{templates-length, templates_snoc, nodes_snoc}
use Rattle.scan.specs.Lines.{FindsByte}
use Rattle.std.specs.Prelude.{None, Result, Ok, ◌==◌, cond, count_by}
use Rattle.std.proofs.lemmas.List.Recursion.{is_count_by}
use Rattle.faults.specs.declared.LoadFault.{LoadFault}
use Rattle.macros.specs.declared.Table.{Table}
use Rattle.macros.specs.Table.{order_in, PutsMacro, templates_in, macros_in}
use Rattle.macros.proofs.Entries.{templates_in_length, macros-templates, macros-put, entries_put}
use Rattle.templates.specs.declared.Found.{Found}
use Rattle.templates.specs.Order.{InOrder}
use Rattle.templates.proofs.Order.{in_order_more}
use Rattle.load.specs.declared.Loader.{Loader}
use Rattle.load.specs.declared.Next.TheVariants.{Template, Code}
use Rattle.load.specs.Lines.{in_body, progress_of, TableSound, LineIn, SeesLine}
use Rattle.load.proofs.Laws.{content_is}
use Rattle.load.specs.Template.{weighed_fault, Tabled, HasRoom, Weighs}

-- ---- weigh_template

pub tabled_length : {ts : List Bytes} {n : ℕ} (ms : List Macro) → Tabled ts n ms → length ms ≡ length ts
tabled_length ms h = sym (templates-length ms) ∙ ap length h.stand

-- the placeholders are counted
count-cons : (b x : ℕ) (s : Bytes) (t : Bool) → eqb x b ≡ t → count b (x ∷ s) ≡ cond (x == b) (1 + count b s) (count b s)
unfolding count
count-cons b x s true q = when_true _ _ q ∙ rw q (omega arith)
count-cons b x s false q = when_false _ _ q ∙ rw q refl

pub counted_by : (b : ℕ) (s : Bytes) → count b s ≡ count_by (λ x. x == b) s
unfolding count
counted_by b = is_count_by (count b) (λ x. x == b) refl (λ x s. count-cons b x s (eqb x b) refl)

-- ---- add_macro

-- the macros of the table
pub tabled : {m : Marks} {text : Bytes} {l : Loader} → TableSound m text l → Tabled (templates_in text l.table l.table.count) l.nodes (macros_in m text l.table l.table.count)
tabled {m} {text} {l} s = record { stand = macros-templates m text l.table l.table.count; counted = sym s.counted }

seen-template : (m : Marks) (r : Load.Progress) (n : ℕ) (l : Bytes) (ls : List Bytes) → r.in_body ≡ false → line_seen m r n l ls ≡ template_line m r n (up_to m.source l) ls
unfolding line_seen
seen-template m r n l ls e = when_false _ _ e

-- how far the macros are read with one more
abbrev begun : Load.Progress → Macro → Load.Progress
begun r x = record { macros = r.macros ++ (x ∷ []); codes = r.codes; in_body = true; opened = 0; due = false }

template-tested : (m : Marks) (r : Load.Progress) (n : ℕ) (l c : Bytes) (ls : List Bytes) (w : Result Found LoadFault) → up_to m.source l ≡ c → template_fault m r.macros c ≡ weighed_fault w
    → template_line m r n (up_to m.source l) ls ≡ unless (weighed_fault w) (begun r (record { line = n; template = c; body = body_of m ls }))
unfolding template_line
template-tested m r n l c ls w e f = rw (e, f)

module _ {m : Marks} {text : Bytes} {l : Loader} {start next : ℕ} {bytes c : Bytes} {stop : ℕ} {w : Result Found LoadFault} (s : TableSound m text l) (i : l.next ≡ Template)
    (b : LineIn text start bytes next) (f : FindsByte bytes 0 (length bytes) m.source stop) (z : c ≡ take stop bytes)
    (h : Weighs m.placeholder (templates_in text l.table l.table.count) (order_in l.table) l.nodes c w) where
  -- what the line comes to by what its template is found to be
  by-template : (n : ℕ) → line_seen m (progress_of m text l) n bytes (lines (drop next text))
      ≡ unless (weighed_fault w) (begun (progress_of m text l) (record { line = n; template = c; body = body_at m text next }))
  by-template n =
      seen-template m (progress_of m text l) n bytes (lines (drop next text)) (ap in_body i)
      ∙ template-tested m (progress_of m text l) n bytes c (lines (drop next text)) w (sym (z ∙ content_is f)) (h.is m refl (macros_in m text l.table l.table.count) (tabled s))

  module _ {y : Found} (e : w ≡ Ok y) where
    room : HasRoom m.placeholder (templates_in text l.table l.table.count) (order_in l.table) l.nodes c y
    room = rw e at h.room

    -- u is the table with the macro
    module _ (n : ℕ) (u : Table) (q : PutsMacro l.table (record { start = start; len = length c; line = n; body = next }) y.place u) where
      few : l.table.count < 128
      few = omega (arith, room.few, templates_in_length text l.table l.table.count)

      long : length c ≡ stop
      long = ap length z ∙ length-take-le stop bytes f.high

      template_is : part text start (start + length c) ≡ c
      template_is =
          let p : part text start (start + stop) ≡ take stop bytes = sym (part-take text start (start + length bytes) stop (omega (arith, f.high))) ∙ ap (take stop) (sym b.is) in
          ap (λ x. part text start (start + x)) long ∙ p ∙ sym z

      abbrev new-macro : Macro
      new-macro = record { line = n; template = c; body = body_at m text next }

      -- the macro comes after those before it
      macros-more : macros_in m text u u.count ≡ macros_in m text l.table l.table.count ++ (new-macro ∷ [])
      macros-more =
          macros-put q m text
          ∙ ap (λ (d : Bytes). macros_in m text l.table l.table.count ++ (record { line = n; template = d; body = body_at m text next } ∷ [])) template_is

      -- and so does its template
      templates-more : templates_in text l.table l.table.count ++ (c ∷ []) ≡ templates_in text u u.count
      templates-more =
          ap (λ (x : List Bytes). x ++ (c ∷ [])) (sym (macros-templates m text l.table l.table.count))
          ∙ sym (templates_snoc (macros_in m text l.table l.table.count) new-macro) ∙ ap templates (sym macros-more)
          ∙ macros-templates m text u u.count

      -- with it the templates are in order
      order-more : InOrder m.placeholder (templates_in text u u.count) (order_in u)
      order-more =
          let z = templates_in_length text l.table l.table.count in
          rw templates-more at (in_order_more s.in_order room.goes room.within q.before (q.there ∙ sym z) (λ i a b. q.further i a (omega arith)))

      -- the line begins the macro
      pub macro_more : SeesLine m text l n bytes next (record { table = u; nodes = l.nodes + y.new; codes = l.codes; next = Code 0 }) (Ok None)
      unfolding unless
      macro_more =
          record {
            is = by-template n ∙ rw (e, macros-more);
            left = record {
              inside = entries_put q text few (omega (arith, f.high, b.high, b.within, long)) room.short b.within s.inside;
              counted = rw macros-more (sym (nodes_snoc (macros_in m text l.table l.table.count) new-macro ∙ room.counted (macros_in m text l.table l.table.count) (tabled s)));
              tree = room.tree;
              in_order = order-more;
            };
          }
