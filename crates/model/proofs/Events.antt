-- What `after n` says of events: a machine that goes on has counted n; one that ended has counted at most n, and ended with the last of them.
-- So a run is spent exactly when the expansion has an event beyond the fuel. The theorems: next-event, running_events, ended_events, exactly_ended, exactly_spent.
use mathlib.Core.Path.{◌≡◌, refl, ap, sym, ◌∙◌, subst}
use mathlib.Core.Logic.{◌↔◌}
use Prim.Native.Nat.{ℕ, zero, suc, ◌+◌, ◌≤◌}
use native.Mathlib.Omega.{arith}
use Rattle.model.specs.Load.{Loaded, loaded}
use Rattle.model.specs.Machine.{Rooms, State, Next, running, ended, ready, event, follow, after, no_output, initial, Result, result_of, outcome, run}
use Rattle.model.specs.Demands.{EndsInFuel, GoesBeyond}
use Rattle.model.proofs.Fuel.{Later, ready-later, event-later, after_ended, after-sum, after_since, Since, run_ended, run_spent}
use Rattle.model.proofs.Steps.{after-event}
use Rattle.model.proofs.NumberTable.{ended_unspent}

-- ---- one event

-- a state that `after` comes to is just before its next event
pub after_settled : (n : ℕ) (room : Rooms) (t : Loaded) (x : Next) (s : State) → after n room t x ≡ running s → ready t.marks s ≡ running s
unfolding after follow
after_settled n room t x s e =
    let z : n + 0 ≡ n = omega arith in
    sym (ap (after 0 room t) e) ∙ (sym (after-sum n 0 room t x) ∙ (ap (λ (j : ℕ). after j room t x) z ∙ e))

-- and one event more is `event`, and what then comes without one
pub next-event : (n : ℕ) (room : Rooms) (t : Loaded) (x : Next) (s : State) → after n room t x ≡ running s → after (n + 1) room t x ≡ after 0 room t (event room t s)
next-event n room t x s e = after-sum n 1 room t x ∙ (ap (after 1 room t) e ∙ after-event 0 room t s (after_settled n room t x s e))

-- ---- events counted

-- from the state s, the expansion ends in s' with the number k after j of at most n events, and s' counts these
abbrev EndsAt : Rooms → Loaded → State → ℕ → ℕ → State → Type 0
EndsAt room t s n k s' = (j : ℕ) × (j ≤ n) × (s'.events ≡ s.events + j) × (after j room t (running s) ≡ ended k s')

-- a machine that has ended did so at the last event that it counts
ended_at : (n : ℕ) (room : Rooms) (t : Loaded) (s : State) (k : ℕ) (s' : State) → after n room t (running s) ≡ ended k s' → EndsAt room t s n k s'
unfolding after follow
ended_at zero room t s k s' e = (0, omega arith, omega (arith, (subst (Later s.shared.output s.events) e (ready-later t.marks s)).1), e)
ended_at (suc n) room t s k s' e = by (ready t.marks s) refl (ready-later t.marks s) e (λ s₁ d. ended_at n room t s₁ k s' d)
  where
    by_event : (s₁ : State) (x : Next) → ready t.marks s ≡ running s₁ → s₁.events ≡ s.events → event room t s₁ ≡ x → Later s₁.shared.output (suc s₁.events) x
        → after n room t x ≡ ended k s' → ((s₂ : State) → after n room t (running s₂) ≡ ended k s' → EndsAt room t s₂ n k s') → EndsAt room t s (suc n) k s'
    by_event s₁ (ended k₂ s₂) d c v h e ih =
        let f : ended k₂ s₂ ≡ ended k s' = sym (after_ended n room t k₂ s₂) ∙ e in
        (1, omega arith, omega (arith, (subst (Later s₁.shared.output (suc s₁.events)) f h).1), rw (d, after, v, follow) f)
    by_event s₁ (running s₂) d c v h e ih =
        let p = ih s₂ e in
        (suc p.0, omega (arith, p.1), omega (arith, p.2, h.1), rw (d, after, v) p.3)

    by : (r : Next) → ready t.marks s ≡ r → Later s.shared.output s.events r → follow (λ s₁. after n room t (event room t s₁)) r ≡ ended k s'
        → ((s₂ : State) → after n room t (running s₂) ≡ ended k s' → EndsAt room t s₂ n k s') → EndsAt room t s (suc n) k s'
    by (ended k₁ s₁) d h e ih = (0, omega arith, omega (arith, (subst (Later s.shared.output s.events) e h).1), d ∙ e)
    by (running s₁) d h e ih = by_event s₁ (event room t s₁) d h.1 refl (event-later room t s₁) e ih

module _ (n : ℕ) (room : Rooms) (t : Loaded) where
  -- a state before its next event has counted the events up to it
  pub running_events : (s : State) → after n room t (running (initial t)) ≡ running s → s.events ≡ n
  unfolding initial
  running_events s e = omega (arith, (subst (Since no_output 0 n) e (after_since n room t (initial t))).1)

  -- an ended one at most as many, and the expansion had ended as soon as it had counted them
  pub ended_events : (k : ℕ) (s : State) → after n room t (running (initial t)) ≡ ended k s → (s.events ≤ n) × (after s.events room t (running (initial t)) ≡ ended k s)
  unfolding initial
  ended_events k s e =
      let p = ended_at n room t (initial t) k s e in
      let q : s.events ≡ p.0 = omega (arith, p.2) in
      (omega (arith, p.1), ap (λ (j : ℕ). after j room t (running (initial t))) q ∙ p.3)

-- ---- ended or spent

module _ (f : ℕ) (room : Rooms) (t : Loaded) where
  -- a run's number is other than 20 exactly when the expansion ends within as many events as the fuel
  pub exactly_ended : (¬ ((run f room (loaded t)).number ≡ 20)) ↔ EndsInFuel f room t
  unfolding run outcome result_of
  exactly_ended = (by (after f room t (running (initial t))) refl, λ p q. ended_unspent p.0 room t p.1 p.2 p.4 (sym (number p) ∙ q))
    where
      number : (p : EndsInFuel f room t) → (run f room (loaded t)).number ≡ p.1
      number p = ap (λ (r : Result). r.number) (run_ended f room t p.0 p.1 p.2 (omega (arith, p.3)) p.4)

      by : (x : Next) → after f room t (running (initial t)) ≡ x → ¬ ((outcome t x).number ≡ 20) → EndsInFuel f room t
      by (running s) e z = absurd (z refl)
      by (ended k s) e z = (f, k, s, omega arith, e)

  -- and 20 exactly when the expansion has an event beyond the fuel
  pub exactly_spent : (run f room (loaded t)).number ≡ 20 ↔ GoesBeyond f room t
  unfolding run outcome result_of
  exactly_spent = (by (after f room t (running (initial t))) refl, λ p. ap (λ (r : Result). r.number) (run_spent f room t p.0 p.1))
    where
      by : (x : Next) → after f room t (running (initial t)) ≡ x → (outcome t x).number ≡ 20 → GoesBeyond f room t
      by (running s) e z = (s, e)
      by (ended k s) e z = absurd (ended_unspent f room t k s e z)
