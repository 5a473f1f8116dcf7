-- append_entry writes the entry after the last, or refuses it by its number or its size.
-- The check finds none of these goals alone, nor with the laws named at the function.
use Rattle.store.proofs.Cleared.{full_clean}
use Rattle.store.proofs.Appended.{no_more, no_room, appends, appends_clean}
use Rattle.store.proofs.append_entry.Goals as goal

pub returns-then-count-eq-NAMES_MOST : goal.returns-then-count-eq-NAMES_MOST
returns-then-count-eq-NAMES_MOST c = record { puts = search no_more; clean = full_clean }

pub returns-then-count-end : goal.returns-then-count-end
returns-then-count-end c = record { puts = search no_room; clean = full_clean }

pub returns : goal.returns
returns c = record { puts = search appends; clean = search appends_clean }
