-- read_stored reads the amount behind a minus, or the amount alone.
-- The check finds none of these goals alone, nor with the laws named at the function.
use Rattle.number.proofs.Digits.{minus_stored, plain_stored}
use Rattle.number.proofs.read_stored.Goals as goal

pub returns-then-first-m : goal.returns-then-first-m
returns-then-first-m c = minus_stored c.args.m c.args.s.now c.in-len1-up.len_at_least c.if-first-m.true (rw c.in_ok-read_amount.was at c.read_amount.ensures) c.checked_sub_unsigned.ensures

pub returns : goal.returns
returns c =
    plain_stored c.args.m c.args.s.now c.in-len1-up.len_at_least c.if-first-m.false (rw c.in_ok-read_amount-2.was at c.read_amount-2.ensures) _ c.try_from.ensures c.ok.ensures.value
