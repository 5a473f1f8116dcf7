-- What a run answers for every argument, and that it is what document 01 demands: from what running a prepared text ensures.
use mathlib.Core.Path.{◌≡◌, sym, ◌∙◌, ap}
use mathlib.Core.Bool.{Bool, true, false}
use Prim.Native.Nat.{ℕ}
use mathlib.Core.List.{List}
use lib.ListN.{length}
use Rattle.model.specs.declared.Ran.{Ran}
use Rattle.model.specs.Text.{Bytes}
use Rattle.model.specs.Load.{Loaded, loaded, load}
use Rattle.model.specs.Machine.{Rooms, rooms, Result, no_run, run}
use Rattle.model.specs.Results.{illegal, run_text, ran_as}
use Rattle.model.specs.Runs.{Runs}
use Rattle.model.specs.Demands.{FollowsExpansion}
use Rattle.model.proofs.Theorems.{run_follows}
use Rattle.model.proofs.Choices.{when_true, when_false}
use Rattle.nodes.specs.declared.Node.{Node}
use Rattle.nodes.specs.SideBySide.{HoldsTree}
use Rattle.std.specs.Prelude as Prelude
use Rattle.std.specs.Prelude.{Ok, Err}
use Rattle.load.specs.declared.Refused.{Refused}
use Rattle.prepare.specs.declared.Prepared.{Prepared}
use Rattle.prepare.specs.Prepares.{Prepares}
use Rattle.prepare.proofs.Trees.{holds-tree, refused-loads}
use Rattle.run.proofs.Running.{same_runs, refuses}
use Rattle.stage2.specs.Rooms.{TestsRooms}

-- ---- illegal arguments, and legal ones
module _ (fuel rows dead : ℕ) (room : Rooms) (text : Bytes) (store report : ℕ) where
  when_illegal : illegal fuel rows dead store report ≡ true → no_run 1 0 ≡ run_text fuel rows dead room store report text
  unfolding run_text
  when_illegal e = sym (when_true _ _ e)

  when_legal : illegal fuel rows dead store report ≡ false → run fuel room (load text) ≡ run_text fuel rows dead room store report text
  unfolding run_text
  when_legal e = sym (when_false _ _ e)

module _ (fuel rows dead : ℕ) (text output second store report : Bytes) where
  abbrev room : Rooms
  room = rooms (length output) (length second)

  abbrev whole : Result
  whole = run_text fuel rows dead room (length store) (length report) text

  module _ {b : Bool} (h : TestsRooms fuel rows dead (length store) (length report) b) where
    pub illegal-runs : {r : Ran} → b ≡ true → r ≡ ran_as (no_run 1 0) → Runs whole output second store report r output second store report
    illegal-runs e a = same_runs (when_illegal fuel rows dead room text (length store) (length report) (sym h.is ∙ e)) (refuses a)

    -- legal ones
    pub legal_runs : {f : ℕ} {r : Ran} {output' second' store' report' : Bytes} → b ≡ false → f ≡ fuel → Runs (run f room (load text)) output second store report r output' second' store' report'
        → Runs whole output second store report r output' second' store' report'
    legal_runs e u a = same_runs (ap (λ (n : ℕ). run n room (load text)) u ∙ when_legal fuel rows dead room text (length store) (length report) (sym h.is ∙ e)) a

  -- a text that loads has its tree in the row
  tree : (row : List Node) (p : Prelude.Result Prepared Refused) → Prepares text row p → (t : Loaded) → load text ≡ loaded t → HoldsTree t row
  tree row (Ok p) h t loads = holds-tree h t loads
  tree row (Err f) h t loads = absurd (refused-loads text t h loads)

  -- what document 01 demands of them, and the tree that is left in the row
  module _ {row : List Node} {r : Ran} {output' second' store' report' : Bytes} (h : Runs whole output second store report r output' second' store' report') {b : Bool}
      (g : TestsRooms fuel rows dead (length store) (length report) b) where
    pub follows-expansion : (p : Prelude.Result Prepared Refused) → Prepares text row p → (t : Loaded) → load text ≡ loaded t → illegal fuel rows dead (length store) (length report) ≡ false
        → HoldsTree t row × FollowsExpansion t fuel output second store report r output' second' store' report'
    follows-expansion p q t loads legal = (
      tree row p q t loads,
      run_follows text t loads fuel output second store report
          (same_runs (sym (when_legal fuel rows dead room text (length store) (length report) legal) ∙ ap (run fuel room) loads) h) (g.few (g.is ∙ legal)),
    )
