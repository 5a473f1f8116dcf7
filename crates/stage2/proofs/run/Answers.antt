-- run answers 1 for illegal arguments, else what the run comes to, which is the expansion.
-- The check finds none of these goals alone, nor with the laws named at the function.
use mathlib.Core.Path.{refl, ap, ◌∙◌}
use Prim.Native.Nat.{ℕ}
use Rattle.model.specs.Machine.{no_run}
use Rattle.model.specs.Results.{ran_as}
use Rattle.stage2.proofs.Demanded.{illegal-runs, legal_runs, follows-expansion}
use Rattle.stage2.proofs.run.Goals as goal

pub returns-then-is_illegal-clause-runs : goal.returns-then-is_illegal-clause-runs
returns-then-is_illegal-clause-runs c = illegal-runs _ _ _ _ _ _ _ _ c.is_illegal.ensures c.if-is_illegal.true (c.refuse.ensures ∙ ap (λ (k : ℕ). ran_as (no_run k 0)) c.into.ensures)

pub returns : goal.returns
returns c =
    let is = legal_runs _ _ _ _ _ _ _ _ c.is_illegal.ensures c.if-is_illegal.false refl c.run_prepared.ensures in
    record { runs = is; holds_tree = follows-expansion _ _ _ _ _ _ _ _ is c.is_illegal.ensures _ c.prepare-t.ensures }
