-- What a run answers, from what preparing a text, expanding its input and listing its names ensure.
use mathlib.Core.Path.{◌≡◌, refl, sym, ◌∙◌, ap, subst}
use mathlib.Core.Option.{none}
use mathlib.Core.List.{List, [], ◌++◌}
use Prim.Native.Nat.{ℕ, ◌≤◌}
use native.Mathlib.Omega.{arith}
use lib.ListN.{length, take, drop, replicate, take-append-drop}
use lib.Seq.{length-take-le}
use Rattle.model.specs.declared.Ran.{Ran}
use Rattle.model.specs.Text.{Bytes}
use Rattle.model.specs.Store.{listing}
use Rattle.model.specs.Load as Load
use Rattle.model.specs.Load.{Macro, load}
use Rattle.model.specs.Report.{report_rows, report_bytes}
use Rattle.model.specs.Machine.{rooms, outputs, Next, running, after, no_output, initial, Result, outcome, no_run, run}
use Rattle.model.specs.Results.{ran_as}
use Rattle.model.proofs.Input.{macro_line}
use Rattle.nodes.specs.declared.Node.{Node}
use Rattle.buffer.specs.Written.{Written}
use Rattle.buffer.proofs.Written.{written-length}
use Rattle.state.specs.declared.State.{State}
use Rattle.state.specs.State.{state_of, Sound}
use Rattle.faults.specs.Numbers.{load_number}
use Rattle.load.specs.declared.Loaded.{Loaded}
use Rattle.load.specs.declared.Refused.{Refused}
use Rattle.std.specs.Prelude as Prelude
use Rattle.std.specs.Prelude.{Err}
use Rattle.macros.specs.declared.Entry.{Entry}
use Rattle.macros.proofs.Entries.{bodies_in_at, macros_in_length, macros_in_at}
use Rattle.fit.proofs.Asking.{tree_alone}
use Rattle.load.specs.Answer.{loaded_of}
use Rattle.usage.specs.Counts.{tally_of, Counts, PrintsReport}
use Rattle.usage.proofs.Counts.{counts_none, counts_start}
use Rattle.usage.proofs.Report.{on_lines}
use Rattle.matching.specs.Book.{tally_in}
use Rattle.prepare.specs.declared.Prepared.{Prepared}
use Rattle.prepare.specs.Prepares.{IsPrepared, Prepares}
use Rattle.answer.specs.Answers.{Answer, end_number, result_after}
use Rattle.answer.specs.Kept.{Extends}
use Rattle.input.specs.Expands.{Expands}
use Rattle.model.specs.Runs.{Runs}
use Rattle.run.specs.Inner.{basis_of, ReadyToRun, start_of, EndsRun}

-- ---- the same answer for an equal result

pub same_runs : {x y : Result} {output second store report : Bytes} {r : Ran} {output' second' store' report' : Bytes} → x ≡ y → Runs x output second store report r output' second' store' report'
    → Runs y output second store report r output' second' store' report'
same_runs {output = output} {second = second} {store = store} {report = report} {r = r} {output' = output'} {second' = second'} {store' = store'} {report' = report'} e h =
    subst (λ (z : Result). Runs z output second store report r output' second' store' report') e h

-- ---- nothing is written

pub refuses : {k n : ℕ} {output second store report : Bytes} {r : Ran} → r ≡ ran_as (no_run k n) → Runs (no_run k n) output second store report r output second store report
unfolding ran_as no_output
refuses {r = r} e =
    let w : r.output ≡ 0 = ap (λ (x : Ran). x.output) e in
    let v : r.second ≡ 0 = ap (λ (x : Ran). x.second) e in
    let l : r.store ≡ 0 = ap (λ (x : Ran). x.store) e in
    let u : r.report ≡ 0 = ap (λ (x : Ran). x.report) e in
    record {
      is = e;
      writes = refl;
      writes_second = refl;
      lists = refl;
      reports = refl;
      written = omega arith;
      written_second = omega arith;
      listed = omega arith;
      reported = omega arith;
    }

-- a text that is refused
pub refused_runs : (text : Bytes) (row : List Node) {t : Prelude.Result Prepared Refused} {f : Refused} (fuel : ℕ) {output second store report : Bytes} {k : ℕ} {r : Ran} → Prepares text row t → t ≡ Err f
    → k ≡ load_number f.fault → r ≡ ran_as (no_run k f.line) → Runs (run fuel (rooms (length output) (length second)) (load text)) output second store report r output second store report
unfolding run
refused_runs text row {f = f} fuel {output = output} {second = second} p z n e =
    same_runs (ap (run fuel (rooms (length output) (length second))) (sym (rw z at p))) (refuses (e ∙ ap (λ (k : ℕ). ran_as (no_run k f.line)) n))

-- ---- a text that is prepared is ready for its expansion

pub ready : {text : Bytes} {row : List Node} {t : Prepared} → IsPrepared text row t → ReadyToRun text row t
ready {text} {row} {t} p =
    let l = t.loaded in
    let h = p.loads in
    let inside = h.sound.inside in
    let q = p.has_tree in
    let count = macros_in_length l.marks text t.table t.table.count in
    let at = macros_in_at l.marks text t.table t.table.count in
    record {
      loads = h.is;
      book = record {
        marks = refl;
        short = q.short;
        fits = tree_alone q.fits;
        few = omega (arith, inside.entries.few);
        within = λ k. λ lt. rw (bodies_in_at t.table k) (inside.body k (omega arith));
        body = λ k. λ lt. rw (bodies_in_at t.table k) (ap (λ x. x.body) (at k (omega arith)));
        nested = q.nested;
      };
      within = q.fits.within;
      few = inside.entries.few;
      lines = λ k u. subst (λ (x : Macro). x.line ≤ 65536) (at k u) (macro_line text _ h.is k);
      at = h.sound.input;
      line = omega (arith, h.sound.read, h.sound.input, q.short);
    }

-- ---- the expansion of a text that is ready

-- an output's first bytes are what was written, and the others are unchanged
extended : {o : Bytes} {w : ℕ} {o' : Bytes} {w' : ℕ} → Extends o w o' w' → o' ≡ take w' o' ++ drop (length (take w' o')) o
extended {o} {w} {o'} {w'} e =
    sym (take-append-drop w' o') ∙ ap (λ (z : Bytes). take w' o' ++ z) e.rest ∙ ap (λ (n : ℕ). take w' o' ++ drop n o) (sym (length-take-le w' o' (omega (arith, e.long, e.fits))))

module _ {text : Bytes} {row : List Node} {t : Prepared} (y : ReadyToRun text row t) where
  abbrev l : Loaded
  l = t.loaded

  -- the loaded text
  abbrev u : Load.Loaded
  u = loaded_of text t.table t.loaded

  -- the entries of its macros
  abbrev entries : List Entry
  entries = take t.table.count t.table.entries

  module _ {fuel : ℕ} {s : State} (is : s ≡ start_of l fuel) where
    pub starts_sound : {output second : Bytes} → fuel ≤ 1000000 → Sound text s (outputs output second)
    starts_sound {output} {second} f =
        subst (λ (z : State). Sound text z (outputs output second)) (sym is)
        (record {
          within = y.at;
          lines = omega (arith, y.line, y.book.short);
          written = omega arith;
          second = omega arith;
          symbols = omega arith;
          calls = omega arith;
          total = omega arith;
        })

    pub starts_counted : fuel ≤ 1000000 → Counts (replicate 129 0) s.fuel
    starts_counted f = subst (λ (z : State). Counts (replicate 129 0) z.fuel) (sym is) (counts_start f)

    module _ {output second : Bytes} {q : Answer} {s' : State} {output' second' : Bytes} {counts' : List ℕ}
        (e : Expands (basis_of text row t) s (outputs output second) (replicate 129 0) q s' (outputs output' second') counts') where
      begins : ◌≡◌ {A = Next} (running (initial u)) (running (state_of text none [] (tally_in u (replicate 129 0)) (start_of l fuel) (outputs output second)))
      unfolding initial no_output
      begins = λ i. running (record {
        input = u.input;
        line = u.last;
        pending = none;
        frames = [];
        calls = 0;
        shared = record { symbols = 0; store = []; output = no_output };
        events = 0;
        tally = sym (counts_none u.macros y.book.few) i;
      })

      expands : Expands (basis_of text row t) (start_of l fuel) (outputs output second) (replicate 129 0) q s' (outputs output' second') counts'
      expands = subst (λ (z : State). Expands (basis_of text row t) z (outputs output second) (replicate 129 0) q s' (outputs output' second') counts') is e

      -- what the run of the loaded text comes to
      whole : result_after u (tally_in u counts') q s' (outputs output' second') ≡ run fuel (rooms (length output) (length second)) (load text)
      unfolding run
      whole = sym (ap (run fuel (rooms (length output) (length second))) y.loads
          ∙ ap (λ (z : Next). outcome u (after fuel (rooms (length output) (length second)) u z)) begins ∙ expands.same u y.book)

      -- the report is that of the loaded text
      whole_report : {report : Bytes} {n : ℕ} {report' : Bytes} → t.table.count ≤ length t.table.entries → PrintsReport entries counts' report n report'
          → Written report (report_bytes (report_rows u.macros (tally_in u counts'))) n report'
      whole_report {report} {n} {report'} long p =
          let lines = on_lines t.table t.table.count long l.marks text in
          subst (λ (k : ℕ). Written report (report_bytes (report_rows u.macros (tally_of k counts'))) n report') (sym lines.as_many) (p.is u.macros lines)

      pub loaded_runs : {store report : Bytes} {r : Ran} {n : ℕ} {store' report' : Bytes} → t.table.count ≤ length t.table.entries → PrintsReport entries counts' report n report' → EndsRun q n s' store r store'
          → Runs (run fuel (rooms (length output) (length second)) (load text)) output second store report r output' second' store' report'
      unfolding ran_as
      loaded_runs {store} {report} {r} {n} {store'} {report'} long p d =
          let w = length-take-le s'.written output' e.sound.written in
          let v = length-take-le s'.second second' e.sound.second in
          let f : r.output ≡ s'.written = ap (λ (z : Ran). z.output) d.is in
          let g : r.second ≡ s'.second = ap (λ (z : Ran). z.second) d.is in
          let k : r.report ≡ n = ap (λ (z : Ran). z.report) d.is in
          let b = whole_report long p in
          same_runs whole (record {
            is = d.is ∙ (λ i. record {
              number = end_number q;
              line = s'.line;
              events = s'.events;
              output = sym w i;
              second = sym v i;
              store = sym d.lists.long i;
              report = sym b.long i;
            });
            writes = extended e.extends.first;
            writes_second = extended e.extends.second;
            lists = d.lists.is ∙ ap (λ (n : ℕ). listing s'.store ++ drop n store) (sym d.lists.long);
            reports = b.is ∙ ap (λ (n : ℕ). report_bytes (report_rows u.macros (tally_in u counts')) ++ drop n report) (sym b.long);
            written = omega (arith, e.sound.written);
            written_second = omega (arith, e.sound.second);
            listed = omega (arith, d.lists.fits, written-length d.lists);
            reported = omega (arith, b.fits, written-length b);
          })
