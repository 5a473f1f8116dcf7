-- next reads the first entry that is left.
-- The check finds none of these goals alone, nor with the laws named at the function.
use native.Mathlib.Omega.{arith}
use Rattle.std.proofs.Common.{refl, ℕ, ◌-◌, ◌<◌, ◌≡◌}
use Rattle.store.proofs.Walk.{first_entry, still_within}
use Rattle.store.proofs.EntriesIterator.next.Goals as goal

less : (n : ℕ) → (n ≡ 0 → ⊥) → n - 1 < n
less n h = omega arith

pub returns-clause-steps : goal.returns-clause-steps
returns-clause-steps c = first_entry c.if-self-eq0.false c.requires c.read_entry-entry.ensures refl refl refl

pub returns-clause-goes : goal.returns-clause-goes
returns-clause-goes c =
    let s = c.args.self.now in
    record {
      on = λ _. (still_within c.requires (returns-clause-steps c), tt, less s.left c.if-self-eq0.false);
      keeps = still_within c.requires (returns-clause-steps c);
      rests = λ _. tt;
    }
