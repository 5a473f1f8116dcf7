-- A line's first reading as an open call.
use mathlib.Core.Path.{◌≡◌, refl, sym, ap, ◌∙◌, subst}
use mathlib.Core.Option.{none}
use Rattle.std.specs.Prelude.{Option, Some, None, IfSome, IsNone}
use Rattle.model.specs.Reading.{chosen}
use mathlib.Core.List.{List, []}
use Prim.Native.Nat.{ℕ, ◌+◌, ◌≤◌, ◌<◌}
use native.Mathlib.Omega.{arith}
use lib.ListN.{length, get_or, replicate}
use Rattle.model.specs.declared.Marks.{Marks}
use Rattle.model.specs.Text.{Bytes}
use Rattle.model.specs.Load.{templates, no_macro, Loaded, body_at}
use Rattle.model.specs.Machine.{padded}
use Rattle.model.specs.Sizes.{Nested}
use Rattle.model.proofs.Nesting.{all_at}
use Rattle.model.proofs.Loading.{templates-length}
use Rattle.nodes.specs.declared.Node.{Node}
use Rattle.call.specs.declared.Call.{Call}
use Rattle.call.specs.Call.{frame_of}
use Rattle.call.proofs.Reading.{opens_reading}
use Rattle.fit.specs.declared.Choice.{Choice}
use Rattle.fit.specs.declared.Reading.{Reading}
use Rattle.fit.specs.Chosen.{TreeAt, Chosen, Chooses}
use Rattle.matching.specs.Book.{Basis, Book, Prepared}
use Rattle.matching.specs.Matches.{opened, Opening, Opened, Calls}

-- ---- what callers take

-- what is known where none is found
pub found_none : {m : Marks} {row : List Node} {count : ℕ} {line : Bytes} {c : Choice} → Chooses m row count line c → c.reading ≡ None → (ts : List Bytes) → TreeAt m row count ts → chosen m ts line ≡ none
found_none g e = g.no_call (subst (λ (y : Option Reading). IsNone y) (sym e) refl)

module _ {m : Marks} {row : List Node} {count : ℕ} {line : Bytes} {c : Choice} {x : Reading} (g : Chooses m row count line c) (f : c.reading ≡ Some x) where
  -- what is known of a reading that is found
  pub found_call : (ts : List Bytes) → TreeAt m row count ts → Chosen m ts line x
  found_call = subst (λ (y : Option Reading). IfSome y (λ r. (ts : List Bytes) → TreeAt m row count ts → Chosen m ts line r)) f g.call

  found_within : (i : ℕ) → get_or x.starts i 0 + get_or x.lens i 0 ≤ length line
  found_within = subst (λ (y : Option Reading). IfSome y (λ r. (i : ℕ) → get_or r.starts i 0 + get_or r.lens i 0 ≤ length line)) f g.within

module _ {b : Basis} {line : Bytes} {c : Choice} {x : Reading} (g : Chooses b.marks b.nodes b.count line c) (f : c.reading ≡ Some x) where
  -- what is chosen can be opened
  pub choice_opening : Prepared b → length line ≤ 200 → Opening line x
  choice_opening p s =
      let k = p.book in
      record {
        pieces = record { each = λ i u. record { inside = found_within g f i; short = omega (arith, found_within g f i) } };
        place = omega (arith, (found_call g f _ k.fits).place, templates-length p.table.macros, k.few);
      }

  -- the call is that of the first reading
  pub reading_calls : {number : ℕ} {r : Call} → Opened b.bodies line x number r → (t : Loaded) → Book b t → Calls b.marks b.text t line number r
  unfolding opened
  reading_calls {number} {r} w t k =
      let o = w.opens in
      let q : Chosen b.marks (templates t.macros) line x = found_call g f (templates t.macros) k.fits in
      let below : x.template < length t.macros = omega (arith, q.place, templates-length t.macros) in
      let body : body_at b.marks b.text (get_or b.bodies x.template 0) ≡ (get_or t.macros q.reading.which no_macro).body =
      sym (k.body x.template below) ∙ ap (λ (i : ℕ). (get_or t.macros i no_macro).body) (sym q.which) in
      let frame : frame_of b.marks b.text r ≡ opened number (get_or t.macros q.reading.which no_macro) q.reading.pieces =
      opens_reading line x.starts x.lens q.reading.pieces w.nine q.few q.lens q.piece o b.marks b.text
      ∙ ap (λ (cs : List Bytes). record { number = number; params = padded q.reading.pieces; delimiters = replicate 9 []; next = cs; loops = [] }) body in
      record {
        reading = q.reading;
        is = q.is;
        frame = frame;
        same = o.same.0;
        within = subst (λ (i : ℕ). i ≤ length b.text) (sym o.same.1) (k.within x.template below);
        nested = subst (Nested b.marks) (sym frame) record { lines = all_at b.marks t.macros q.reading.which k.nested; around = tt };
      }
