-- What document 01 demands of a run of a text that loads, with legal fuel and rooms: the equality with the expansion.
use Rattle.std.specs.Prelude.{◌≡◌, ◌↔◌, true, ℕ, ◌+◌, ◌≤◌, ◌<◌, length, take}
use Rattle.std.proofs.Math.Option.{some}
use Rattle.model.specs.declared.Ran.{Ran}
use Rattle.model.specs.Text.{Bytes, has}
use Rattle.model.specs.Load.{Loaded, loaded}
use Rattle.model.specs.Machine.{Rooms, rooms, outputs, Extends, State, running, ended, counted, event, after, initial, result_of, outcome, run}
use Rattle.model.specs.FirstReading.{OffersFirst}
use Rattle.model.specs.Usage.{ReportsUse}
use Rattle.model.specs.Runs.{Runs}
use Rattle.model.specs.NumberTable.{begun_numbers}

-- the expansion ends within as many events as the fuel
abbrev pub EndsInFuel : ℕ → Rooms → Loaded → Type 0
EndsInFuel fuel room t = (n : ℕ) × (k : ℕ) × (s : State) × (n ≤ fuel) × (after n room t (running (initial t)) ≡ ended k s)

-- the expansion has an event beyond the fuel
abbrev pub GoesBeyond : ℕ → Rooms → Loaded → Type 0
GoesBeyond fuel room t = (s : State) × (after fuel room t (running (initial t)) ≡ running s)

-- a line l that is to be offered n events after the start: the expansion's next event is that offer, and goes by the first reading. `after 0` is what then
-- comes without an event
abbrev pub OffersInRun : ℕ → Rooms → Loaded → Type 0
OffersInRun fuel room t = (n : ℕ) (s : State) (l : Bytes) → n < fuel → after n room t (running (initial t)) ≡ running s → s.pending ≡ some l
    → (after (n + 1) room t (running (initial t)) ≡ after 0 room t (event room t s)) × OffersFirst room t l (counted s) (event room t s)

-- the answer r of a run with this fuel of the loaded text t
pub record FollowsExpansion (t : Loaded) (fuel : ℕ) (output second store report : Bytes) (r : Ran) (output' second' store' report' : Bytes) : Type 0 where
  -- the run is the expansion, stopped before the event beyond the fuel
  pub is : Runs (outcome t (after fuel (rooms (length output) (length second)) t (running (initial t)))) output second store report r output' second' store' report'
  -- where the expansion ends within as many events as the fuel, the run's result is the expansion's
  pub ends : (n k : ℕ) (s : State) → n ≤ fuel → after n (rooms (length output) (length second)) t (running (initial t)) ≡ ended k s → Runs (result_of t k s) output second store report r output' second' store' report'
  -- where it does not, the run is spent, with what the expansion has before the event beyond the fuel
  pub spent : (s : State) → after fuel (rooms (length output) (length second)) t (running (initial t)) ≡ running s → Runs (result_of t 20 s) output second store report r output' second' store' report'
  -- so its number is other than 20 exactly when the expansion ends within as many events as the fuel, and 20 exactly when it goes on
  pub exactly_ended : (¬ (r.number ≡ 20)) ↔ EndsInFuel fuel (rooms (length output) (length second)) t
  pub exactly_spent : r.number ≡ 20 ↔ GoesBeyond fuel (rooms (length output) (length second)) t
  -- the number is 0 or one of 11 to 21
  pub numbered : has r.number begun_numbers ≡ true
  -- every line offered on the way is passed through exactly when it has no reading, and otherwise calls its first
  pub offers : OffersInRun fuel (rooms (length output) (length second)) t
  -- the events are counted: at most the fuel, and all of it where the run is spent
  pub events : r.events ≤ fuel
  pub used : r.number ≡ 20 → r.events ≡ fuel
  -- more fuel changes nothing of a run that is not spent
  pub same : (more : ℕ) → fuel ≤ more → ¬ (r.number ≡ 20) → Runs (run more (rooms (length output) (length second)) (loaded t)) output second store report r output' second' store' report'
  -- and only adds to the outputs of a spent one
  pub adds : (more : ℕ) → fuel ≤ more → r.number ≡ 20 → Extends (outputs (take r.output output') (take r.second second')) (run more (rooms (length output) (length second)) (loaded t)).output
  -- the report says what was decided of the lines offered among the events counted
  pub uses : ReportsUse t fuel (rooms (length output) (length second)) r report'
