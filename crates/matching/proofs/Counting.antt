-- A line that is counted by its reading: the counts stay within the fuel, and stand for the tally that the expansion has.
use mathlib.Core.Path.{◌≡◌, sym, ap, ◌∙◌}
use mathlib.Core.Option as Math
use mathlib.Core.Option.{none, some}
use Rattle.std.specs.Prelude.{Option, Some, None, IfSome}
use mathlib.Core.List.{List}
use Prim.Native.Nat.{ℕ, ◌-◌, ◌<◌}
use native.Mathlib.Omega.{arith}
use lib.ListN.{length}
use Rattle.model.specs.Text.{Bytes}
use Rattle.model.specs.Reading.{Reading as ReadingOf, chosen}
use Rattle.model.specs.Load.{templates, Loaded}
use Rattle.model.specs.Report.{one_more_of, tallied}
use Rattle.model.proofs.Loading.{templates-length}
use Rattle.fit.specs.declared.Choice.{Choice}
use Rattle.fit.specs.declared.Reading.{Reading}
use Rattle.fit.specs.Chosen.{TreeAt, Chosen, Chooses}
use Rattle.usage.specs.Counts.{Counts}
use Rattle.usage.proofs.Counts.{counts_chosen, counts_passed, counts_more}
use Rattle.matching.specs.Book.{Basis, Book, Prepared, tally_in}
use Rattle.matching.specs.Matches.{chosen_place, CountsDecided}

-- ---- the place

place_found : {c : Option Reading} {x : Reading} → c ≡ Some x → x.template ≡ chosen_place c
place_found e = sym (ap chosen_place e)

place-passed : {c : Option Reading} → c ≡ None → 128 ≡ chosen_place c
place-passed e = sym (ap chosen_place e)

-- ---- what callers take

-- a template that is chosen has its count
pub choice_below : {b : Basis} {line : Bytes} {c : Choice} → Prepared b → Chooses b.marks b.nodes b.count line c → IfSome c.reading (λ r. r.template < 128)
choice_below {b} {line} {c} p g = by c.reading g.call
  where
    by : (x : Option Reading) → IfSome x (λ r. (ts : List Bytes) → TreeAt b.marks b.nodes b.count ts → Chosen b.marks ts line r) → IfSome x (λ r. r.template < 128)
    by None h = tt
    by (Some r) h = omega (arith, (h _ p.book.fits).place, templates-length p.table.macros, p.book.few)

module _ {c : Option Reading} {fuel : ℕ} {counts counts' : List ℕ} (z : CountsDecided c fuel counts counts') (some_fuel : 0 < fuel) where
  -- the counts stay within the fuel
  pub decided_counts : Counts counts fuel → Counts counts' (fuel - 1)
  decided_counts h = rw (z.counted some_fuel) (counts_more h some_fuel (chosen_place c))

  module _ {b : Basis} {t : Loaded} (k : Book b t) where
    -- a line without a reading is one more that is passed through
    pub passed_tally : Counts counts fuel → c ≡ None → tally_in t counts' ≡ tallied none (tally_in t counts)
    passed_tally h e = rw (z.counted some_fuel, ← place-passed e) (counts_passed (length t.macros) counts k.few h.long)

    -- one with a reading is one more of its template's
    pub chosen_tally : {line : Bytes} {x : Reading} → c ≡ Some x → Chosen b.marks (templates t.macros) line x → (r : ReadingOf) → chosen b.marks (templates t.macros) line ≡ some r
        → tally_in t counts' ≡ tallied (some r.which) (tally_in t counts)
    chosen_tally {x = x} e q r f =
        let below : x.template < length t.macros = omega (arith, q.place, templates-length t.macros) in
        ap (tally_in t) (z.counted some_fuel ∙ ap (λ (k : ℕ). one_more_of k counts) (sym (place_found e))) ∙ counts_chosen (length t.macros) x.template counts below k.few
        ∙ ap (λ (k : ℕ). tallied (some k) (tally_in t counts)) (sym q.which ∙ ap which (sym q.is ∙ f))
      where
        which : Math.Option ReadingOf → ℕ
        which Math.none = 0
        which (Math.some x) = x.which
