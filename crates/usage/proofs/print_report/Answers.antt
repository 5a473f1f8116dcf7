-- print_report adds the head, a row a turn, and the last row: each has room, and with the last one the report is whole.
-- The check finds none of these goals alone, nor with the laws named at the function.
use mathlib.Core.Logic.{inl, inr, ⊎_elim}
use borrow.Author.Rules.{rules}
use lib.ListN.{length-append}
use Rattle.usage.proofs.Report.{reporting_none, next_room, reporting_more, last_room, reporting_all}
use Rattle.usage.proofs.print_report.Goals as goal

pub loop-entry-init : goal.loop-entry-init
loop-entry-init c = reporting_none c.requires c.add_bytes-at.ensures (search rules) (search rules) (search rules)

pub add_row-at-requires : goal.add_row-at-requires
add_row-at-requires c = let h = c.in-Some.ensures.steps in next_room c.loop-entry.invariant c.requires h.0 h.1

pub loop-entry-preserved : goal.loop-entry-preserved
loop-entry-preserved c =
    let h = c.in-Some.ensures.steps in
    rw length-append (reporting_more c.loop-entry.invariant c.add_row-at.ensures h.0 h.1)

pub add_row-requires : goal.add_row-requires
add_row-requires c = search last_room

pub returns : goal.returns
returns c =
    let ended = ⊎_elim (λ a. inl a.1.0) (λ a. inr a.1.0) c.in-None.ensures.steps in
    reporting_all c.loop-entry.invariant c.requires c.add_bytes-at.ensures ended c.add_row.ensures
