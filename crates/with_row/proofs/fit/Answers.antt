-- fit lends its own rows, which are long enough for document 01's rule.
-- The check does not find this goal alone.
use Rattle.std.proofs.Common.{ℕ, arith}
use Rattle.std.proofs.lemmas.List.{length-replicate}
use Rattle.nodes.specs.declared.Node.{Node}
use Rattle.with_row.proofs.fit.Goals as goal

pub returns-clause-fits_first : goal.returns-clause-fits_first
returns-clause-fits_first c =
    λ t loads. (c.fit.ensures.holds_tree t loads (omega (arith, length-replicate {A = Node})) (omega (arith, length-replicate {A = ℕ}))).1
