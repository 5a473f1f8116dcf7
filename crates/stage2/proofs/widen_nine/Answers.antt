-- widen_nine keeps the nine numbers.
-- The check does not find this goal alone.
use mathlib.Core.Path.{◌≡◌}
use native.Mathlib.Omega.{arith}
use borrow.Author.Rules.{rules}
use lib.ListN.{length}
use Rattle.std.proofs.lemmas.List.{ext_get_or}
use Rattle.stage2.proofs.widen_nine.Goals as goal

pub returns : goal.returns
returns c =
    let long : length c.map.result ≡ 9 = c.map.ensures.items.long in
    let nine : length c.args.a ≡ 9 = search rules in
    ext_get_or 0 _ _ (omega arith) (λ i within. search (c.map.ensures.items.at i 0 0 (omega arith)))
