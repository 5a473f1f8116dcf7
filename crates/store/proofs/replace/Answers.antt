-- replace moves the entries after the text to its new end and writes it, or refuses it by the size.
-- The check finds none of these goals alone, nor with the laws named at the function.
use mathlib.Core.Path.{refl}
use native.Mathlib.Omega.{arith}
use Rattle.store.proofs.Placed.{entry_within, used_within}
use Rattle.store.proofs.Cleared.{full_clean}
use Rattle.store.proofs.Replaced.{too_long, replaces, clears}
use Rattle.store.proofs.replace.Goals as goal

pub overflow_add-from : goal.overflow_add-from
overflow_add-from c = record { fits = omega (arith, entry_within c.requires.kept.0 c.requires.kept.1, c.requires.kept.0.long) }

pub overflow_add-from-2 : goal.overflow_add-from-2
overflow_add-from-2 c = record { fits = omega (arith, entry_within c.requires.kept.0 c.requires.kept.1, c.requires.kept.0.long) }

pub overflow_add-at : goal.overflow_add-at
overflow_add-at c = record { fits = omega (arith, entry_within c.requires.kept.0 c.requires.kept.1, c.requires.kept.0.long) }

pub bounds-memory-at : goal.bounds-memory-at
bounds-memory-at c = omega (arith, entry_within c.requires.kept.0 c.requires.kept.1, c.requires.kept.0.long)

pub returns-then-index-end : goal.returns-then-index-end
returns-then-index-end c = record { puts = too_long c.requires.kept.0 c.requires.kept.1 c.from.ensures c.if-index-end.true; clean = full_clean }

pub returns-clause-puts : goal.returns-clause-puts
returns-clause-puts c = replaces c.requires.kept.0 c.requires.kept.1 c.from.ensures c.if-index-end.false c.shift.ensures c.copy.ensures refl c.clear.ensures
    (omega (arith, used_within c.requires.kept.0, c.requires.kept.0.long, c.requires.kept.0.few, c.if-index-end.false))

pub returns-clause-clean : goal.returns-clause-clean
returns-clause-clean c = clears c.requires.kept.0 c.requires.kept.1 c.from.ensures c.if-index-end.false c.shift.ensures c.copy.ensures refl c.clear.ensures refl
