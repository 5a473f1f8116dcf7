-- A run's answer that is the expansion stopped at its fuel has all that document 01 demands. The theorems: run_offers, follows-expansion.
use mathlib.Core.Path.{◌≡◌, sym, ◌∙◌, ap, subst}
use Prim.Native.Nat.{ℕ, ◌≤◌}
use native.Mathlib.Omega.{arith}
use lib.ListN.{length, take}
use lib.Seq.{take_at}
use Rattle.model.specs.Limits.{fuel_most}
use Rattle.model.specs.declared.Ran.{Ran}
use Rattle.model.specs.Text.{Bytes}
use Rattle.model.specs.Load.{Loaded, loaded, load}
use Rattle.model.specs.Machine.{Rooms, rooms, Outputs, outputs, Extends, running, initial, Result, run}
use Rattle.model.specs.Results.{ran_as}
use Rattle.model.specs.Runs.{Runs}
use Rattle.model.specs.Usage.{ReportsUse}
use Rattle.model.specs.Demands.{OffersInRun, FollowsExpansion}
use Rattle.model.proofs.FirstReading.{offered_first}
use Rattle.model.proofs.Fuel.{fuel_enough, fuel_spent, run_events, spent_events, run_ended, run_spent}
use Rattle.model.proofs.Events.{next-event, exactly_ended, exactly_spent}
use Rattle.model.proofs.Usage.{counts_add_up, counts_grow, report_is, events_are, row_is, last_row_is, rows_are, report_short}
use Rattle.model.proofs.NumberTable.{begun_numbered}

-- every line offered in a run goes by its first reading
pub run_offers : (text : Bytes) (t : Loaded) → load text ≡ loaded t → (fuel : ℕ) (room : Rooms) → OffersInRun fuel room t
run_offers text t loads fuel room n s l b e p = (next-event n room t (running (initial t)) s e, offered_first text t loads room s l p)

module _ (text : Bytes) (t : Loaded) (loads : load text ≡ loaded t) (fuel : ℕ) (output second store report : Bytes) {r : Ran} {output' second' store' report' : Bytes}
    (h : Runs (run fuel (rooms (length output) (length second)) (loaded t)) output second store report r output' second' store' report') where
  abbrev room : Rooms
  room = rooms (length output) (length second)

  number : r.number ≡ (run fuel room (loaded t)).number
  unfolding ran_as
  number = ap (λ (z : Ran). z.number) h.is

  events : r.events ≡ (run fuel room (loaded t)).events
  unfolding ran_as
  events = ap (λ (z : Ran). z.events) h.is

  -- the bytes that the run has written
  wrote : outputs (take r.output output') (take r.second second') ≡ (run fuel room (loaded t)).output
  unfolding ran_as
  wrote =
      let first = ap (λ (z : Bytes). take r.output z) h.writes ∙ take_at (run fuel room (loaded t)).output.first _ r.output (sym (ap (λ (z : Ran). z.output) h.is)) in
      let second = ap (λ (z : Bytes). take r.second z) h.writes_second ∙ take_at (run fuel room (loaded t)).output.second _ r.second (sym (ap (λ (z : Ran). z.second) h.is)) in
      (λ i. outputs (first i) (second i))

  -- the run's result under another name
  runs_as : {x : Result} → run fuel room (loaded t) ≡ x → Runs x output second store report r output' second' store' report'
  runs_as e = subst (λ (x : Result). Runs x output second store report r output' second' store' report') e h

  -- what the report says
  reports_use : fuel ≤ fuel_most → ReportsUse t fuel room r report'
  unfolding ran_as
  reports_use legal =
      let long : r.report ≡ length (run fuel room (loaded t)).report = ap (λ (z : Ran). z.report) h.is in
      record {
        is = ap (λ (z : Bytes). take r.report z) h.reports ∙ take_at (run fuel room (loaded t)).report _ r.report (sym long) ∙ report_is room t fuel;
        short = omega (arith, long, report_short text t loads fuel room legal);
        uses = row_is room t fuel;
        passed = last_row_is room t fuel;
        rows = rows_are room t fuel;
        adds_up = counts_add_up room t fuel;
        grows = counts_grow room t fuel;
        events = events ∙ events_are room t fuel;
      }

  pub follows-expansion : fuel ≤ fuel_most → FollowsExpansion t fuel output second store report r output' second' store' report'
  unfolding run
  follows-expansion legal = record {
    is = h;
    ends = λ n k s l e. runs_as (run_ended fuel room t n k s l e);
    spent = λ s e. runs_as (run_spent fuel room t s e);
    exactly_ended = (λ z. (exactly_ended fuel room t).0 (λ e. z (number ∙ e)), λ p e. (exactly_ended fuel room t).1 p (sym number ∙ e));
    exactly_spent = (λ e. (exactly_spent fuel room t).0 (sym number ∙ e), λ p. number ∙ (exactly_spent fuel room t).1 p);
    numbered = rw number (begun_numbered fuel room t);
    offers = run_offers text t loads fuel room;
    events = omega (arith, events, run_events fuel room t);
    used = λ e. events ∙ spent_events fuel room t (sym number ∙ e);
    same = λ g l z. runs_as (sym (fuel_enough fuel g room (loaded t) l (λ e. z (number ∙ e))));
    adds = λ g l e. subst (λ (z : Outputs). Extends z (run g room (loaded t)).output) (sym wrote) (fuel_spent fuel g room (loaded t) l (sym number ∙ e));
    uses = reports_use legal;
  }
