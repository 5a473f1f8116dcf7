-- Laws of code lines passed over, one by one.
use mathlib.Core.Path.{◌≡◌, refl, sym, subst, ap, ◌∙◌}
use mathlib.Core.Bool.{Bool, true, false}
use mathlib.Core.Logic.{◌⊎◌, ⊎_elim}
use mathlib.Core.List.{List, [], ◌∷◌}
use Prim.Native.Nat.{ℕ, zero, suc, ◌+◌, ◌-◌, ◌≤◌, ◌<◌}
use native.Mathlib.Numerals.{add-one}
use native.Mathlib.Omega.{arith}
use borrow.Author.Tests.{eq-eqb, ne_eqb}
use lib.Dec.{eqb}
use lib.ListN.{length, drop}
use Rattle.model.specs.Text.{Bytes, part}
use Rattle.model.specs.Load.{body_at}
use Rattle.model.specs.Code.{effect}
use Rattle.model.specs.Machine as Machine
use Rattle.model.specs.declared.Marks.{Marks}
use Rattle.model.specs.declared.Effect.{Effect}
use Rattle.model.specs.declared.Effect.TheVariants.{Malformed, Plain, Opens, Closes, Owns}
use Rattle.model.proofs.Choices.{when_true, when_false}
use Rattle.std.specs.Prelude.{Option, Some, Result, Ok, Err}
use Rattle.faults.specs.declared.RunFault.{RunFault}
use Rattle.faults.specs.declared.RunFault.TheVariants.{BadSkip}
use Rattle.faults.specs.Numbers.{run_number}
use Rattle.scan.specs.declared.Line.{Line}
use Rattle.scan.specs.Lines.{CodeAt}
use Rattle.scan.proofs.Places.{code_line}
use Rattle.code.specs.Tokens.{Affects}
use Rattle.body.specs.declared.Passed.{Passed}
use Rattle.body.specs.declared.Passed.TheVariants.{Landed, Beyond}
use Rattle.body.specs.declared.Stepped.{Stepped}
use Rattle.body.specs.declared.Stepped.TheVariants.{Ended, Closed, On}
use Rattle.body.specs.Steps.{passed_of, passed_fault, RangedPassed, DropsFirst, PassesOver, Leaves, Shuts, StepsTo, StepsOver}

-- ---- one line, by its effect

module _ (m : Marks) where
  pass_closed : ℕ → ℕ → List Bytes → Machine.Passed
  pass_closed n zero cs = Machine.bad_landing
  pass_closed n (suc d) cs = Machine.pass_over m n d cs

  abbrev pass_by : ℕ → ℕ → List Bytes → Effect → Machine.Passed
  pass_by n d cs e = elim e as (λ _. Machine.Passed) [
    | Malformed ↦ Machine.pass_over m n d cs
    | Plain ↦ Machine.pass_over m n d cs
    | Opens ↦ Machine.pass_over m n (suc d) cs
    | Closes ↦ pass_closed n d cs
    | Owns ↦ Machine.pass_over m n d (drop 1 cs)
  ]

  pass-by : (n d : ℕ) (c : Bytes) (cs : List Bytes) → Machine.pass_over m (suc n) d (c ∷ cs) ≡ pass_by n d cs (effect m c)
  unfolding Machine.pass_over pass_closed
  pass-by n zero c cs = refl
  pass-by n (suc d) c cs = refl

  abbrev past_closed : ℕ → List Bytes → List Bytes
  past_closed d cs = elim (eqb d 0) as (λ _. List Bytes) [ true ↦ cs | false ↦ Machine.past_loop m (d - 1) cs ]

  abbrev past_within : ℕ → List Bytes → Effect → List Bytes
  past_within d cs e = elim e as (λ _. List Bytes) [
    | Malformed ↦ Machine.past_loop m d cs
    | Plain ↦ Machine.past_loop m d cs
    | Opens ↦ Machine.past_loop m (suc d) cs
    | Closes ↦ past_closed d cs
    | Owns ↦ Machine.past_loop m d (drop 1 cs)
  ]

  none-closed : (d : ℕ) (q : Bool) → ◌≡◌ {A = List Bytes} [] (elim q as (λ _. List Bytes) [ true ↦ [] | false ↦ Machine.past_loop m d [] ])
  unfolding Machine.past_loop
  none-closed d true = refl
  none-closed d false = refl

  past_none : (d : ℕ) (e : Effect) → ◌≡◌ {A = List Bytes} [] (past_within d [] e)
  unfolding Machine.past_loop
  past_none d Malformed = refl
  past_none d Plain = refl
  past_none d Opens = refl
  past_none d Closes = none-closed (d - 1) (eqb d 0)
  past_none d Owns = refl

  past_by : (d : ℕ) (c : Bytes) (cs : List Bytes) → Machine.past_loop m d (c ∷ cs) ≡ past_within d cs (effect m c)
  unfolding Machine.past_loop
  past_by d c [] = past_none d (effect m c)
  past_by d c (b ∷ cs) = refl

  closes_open : (n d : ℕ) (cs : List Bytes) → (d ≡ 0 → ⊥) → pass_closed n d cs ≡ Machine.pass_over m n (d - 1) cs
  unfolding pass_closed
  closes_open n zero cs o = absurd (o refl)
  closes_open n (suc d) cs o =
      let p : d ≡ suc d - 1 = omega arith in
      ap (λ i. Machine.pass_over m n i cs) p

  closes_none : (n d : ℕ) (cs : List Bytes) → d ≡ 0 → pass_closed n d cs ≡ Machine.bad_landing
  unfolding pass_closed
  closes_none n zero cs o = refl
  closes_none n (suc d) cs o = absurd (omega arith)

  -- no line left to pass over
  lands : (cs : List Bytes) → Machine.pass_over m 0 0 cs ≡ Machine.landed cs
  unfolding Machine.pass_over
  lands cs = refl

  lands_open : (d : ℕ) (cs : List Bytes) → (d ≡ 0 → ⊥) → Machine.pass_over m 0 d cs ≡ Machine.bad_landing
  unfolding Machine.pass_over
  lands_open zero cs o = absurd (o refl)
  lands_open (suc d) cs o = refl

  -- the body's end
  ends : (n : ℕ) → Machine.pass_over m (suc n) 0 [] ≡ Machine.beyond (suc n)
  unfolding Machine.pass_over
  ends n = refl

  ends_open : (d n : ℕ) → (d ≡ 0 → ⊥) → Machine.pass_over m (suc n) d [] ≡ Machine.bad_landing
  unfolding Machine.pass_over
  ends_open zero n o = absurd (o refl)
  ends_open (suc d) n o = refl

  past_end : (d : ℕ) → Machine.past_loop m d [] ≡ []
  unfolding Machine.past_loop
  past_end d = refl

module _ {m : Marks} {text : Bytes} {at : ℕ} {r : Option Line} (k : CodeAt m text at r) where
  module _ {l : Line} (there : r ≡ Some l) {e : Effect} (a : Affects m (part text at l.end) e) where
    skips : (n d : ℕ) {x : Effect} → e ≡ x → Machine.pass_over m (suc n) d (body_at m text at) ≡ pass_by m n d (body_at m text l.next) x
    skips n d q =
        ap (λ cs. Machine.pass_over m (suc n) d cs) (code_line k there).is ∙ pass-by m n d _ _
        ∙ ap (λ x. pass_by m n d (body_at m text l.next) x) (sym a.is ∙ q)

    leaves : (d : ℕ) {x : Effect} → e ≡ x → Machine.past_loop m d (body_at m text at) ≡ past_within m d (body_at m text l.next) x
    leaves d q =
        ap (λ cs. Machine.past_loop m d cs) (code_line k there).is ∙ past_by m d _ _
        ∙ ap (λ x. past_within m d (body_at m text l.next) x) (sym a.is ∙ q)

    module _ {depth : ℕ} (few : depth ≤ at) where
      goes : {p d : ℕ} → ((n : ℕ) → Machine.pass_over m (suc n) depth (body_at m text at) ≡ Machine.pass_over m n d (body_at m text p))
          → Machine.past_loop m depth (body_at m text at) ≡ Machine.past_loop m d (body_at m text p) → l.next ≤ p → p ≤ length text → d ≤ depth + 1
          → StepsOver m text at depth (On p d)
      goes s t from w o =
          let f = (code_line k there).ahead in
          record { is = record { skip = s; leave = t; ahead = omega arith; within = w; few = omega arith } }

      pub step_stays : (e ≡ Malformed) ⊎ (e ≡ Plain) → StepsOver m text at depth (On l.next depth)
      step_stays q =
          goes (λ n. ⊎_elim (λ x. skips n depth x) (λ x. skips n depth x) q) (⊎_elim (λ x. leaves depth x) (λ x. leaves depth x) q) (omega arith) (code_line k there).within (omega arith)

      pub step_opens : e ≡ Opens → StepsOver m text at depth (On l.next (depth + 1))
      step_opens q =
          goes (λ n. skips n depth q ∙ ap (λ d. Machine.pass_over m n d (body_at m text l.next)) (sym (add-one depth)))
          (leaves depth q ∙ ap (λ d. Machine.past_loop m d (body_at m text l.next)) (sym (add-one depth)))
          (omega arith) (code_line k there).within (omega arith)

      pub step_owns : {p : ℕ} → e ≡ Owns → DropsFirst m text l.next p → StepsOver m text at depth (On p depth)
      step_owns q o =
          goes (λ n. skips n depth q ∙ ap (λ cs. Machine.pass_over m n depth cs) o.is)
          (leaves depth q ∙ ap (λ cs. Machine.past_loop m depth cs) o.is)
          o.from o.within (omega arith)

      pub step_closes : {outer : ℕ} → e ≡ Closes → (1 ≤ depth) × (outer ≡ depth - 1) → StepsOver m text at depth (On l.next outer)
      step_closes {outer} q h =
          let f : depth ≡ 0 → ⊥ = λ z. omega (arith, h.0) in
          goes (λ n. skips n depth q ∙ closes_open m n depth _ f ∙ ap (λ d. Machine.pass_over m n d (body_at m text l.next)) (sym h.1))
          (leaves depth q ∙ when_false _ _ (ne_eqb depth 0 f) ∙ ap (λ d. Machine.past_loop m d (body_at m text l.next)) (sym h.1))
          (omega arith) (code_line k there).within (omega arith)

      pub step_shuts : e ≡ Closes → (1 ≤ depth → ⊥) → StepsOver m text at depth (Closed l.next)
      step_shuts q o =
          let z : depth ≡ 0 = omega arith in
          record {
            is = record {
              none_open = z;
              skip = λ n. skips n depth q ∙ closes_none m n depth _ z;
              leave = leaves depth q ∙ when_true _ _ (eq-eqb depth 0 z);
              ahead = (code_line k there).ahead;
              within = (code_line k there).within;
            };
          }

-- ---- what a step says, by its case

module _ {m : Marks} {text : Bytes} {at depth : ℕ} {r : Stepped} (s : StepsOver m text at depth r) where
  at_ended : r ≡ Ended → body_at m text at ≡ []
  at_ended q = subst (λ (x : Stepped). StepsTo m text at depth x) q s.is

  at_closed : {p : ℕ} → r ≡ Closed p → Shuts m text at depth p
  at_closed q = subst (λ (x : Stepped). StepsTo m text at depth x) q s.is

-- ---- a skip

-- with n lines to pass over from `at` on, place i is reached after `passed` of them, and `depth` iterations are open there
pub record Passing (m : Marks) (text : Bytes) (at n i depth passed : ℕ) : Type 0 where
  pub is : Machine.pass_over m n 0 (body_at m text at) ≡ Machine.pass_over m (n - passed) depth (body_at m text i)
  pub from : at ≤ i
  pub within : i ≤ length text
  pub few : depth ≤ i

-- an answer's number is that of what it stands for, where a fault is a bad skip
passed-fault : (m : Marks) (text : Bytes) (r : Result Passed RunFault) → ((f : RunFault) → r ≡ Err f → f ≡ BadSkip) → passed_fault r ≡ Machine.landing_fault (passed_of m text r)
passed-fault m text (Ok (Landed p)) g = refl
passed-fault m text (Ok (Beyond k)) g = refl
passed-fault m text (Err fault) g = ap run_number (g fault refl)

-- no other fault comes of a skip
only_bad : (text : Bytes) (at n : ℕ) {r : Result Passed RunFault} {f : RunFault} → RangedPassed text at n r → r ≡ Err f → f ≡ BadSkip
only_bad text at n g q = subst (λ (x : Result Passed RunFault). RangedPassed text at n x) q g

passes : {m : Marks} {text : Bytes} {at n : ℕ} {r : Result Passed RunFault} → Machine.pass_over m n 0 (body_at m text at) ≡ passed_of m text r → RangedPassed text at n r → PassesOver m text at n r
passes {m} {text} {at} {n} {r} e g = record { is = e; number = passed-fault m text r (λ f q. only_bad text at n g q) ∙ ap Machine.landing_fault (sym e); ranged = g }

module _ {m : Marks} {text : Bytes} {at n i depth passed : ℕ} (p : Passing m text at n i depth passed) where
  module _ (h : n ≤ passed) where
    at_last : Machine.pass_over m n 0 (body_at m text at) ≡ Machine.pass_over m 0 depth (body_at m text i)
    at_last =
        let z : n - passed ≡ 0 = omega arith in
        p.is ∙ ap (λ x. Machine.pass_over m x depth (body_at m text i)) z

    pub landed : depth ≡ 0 → PassesOver m text at n (Ok (Landed i))
    landed o = passes (at_last ∙ ap (λ x. Machine.pass_over m 0 x (body_at m text i)) o ∙ lands m (body_at m text i)) (p.from, p.within)

    pub open_landing : (depth ≡ 0 → ⊥) → PassesOver m text at n (Err BadSkip)
    open_landing o = passes (at_last ∙ lands_open m depth (body_at m text i) o) refl

  module _ (h : passed < n) {r : Stepped} (s : StepsOver m text i depth r) where
    -- the lines after this one
    abbrev rest : ℕ
    rest = n - (passed + 1)

    one_more : n - passed ≡ suc rest
    one_more = omega arith

    at_line : Machine.pass_over m n 0 (body_at m text at) ≡ Machine.pass_over m (suc rest) depth (body_at m text i)
    at_line = p.is ∙ ap (λ x. Machine.pass_over m x depth (body_at m text i)) one_more

    pub shut : {j : ℕ} → r ≡ Closed j → PassesOver m text at n (Err BadSkip)
    shut q = passes (at_line ∙ (at_closed s q).skip rest) refl

    at_end : r ≡ Ended → Machine.pass_over m n 0 (body_at m text at) ≡ Machine.pass_over m (suc rest) depth []
    at_end q = at_line ∙ ap (λ cs. Machine.pass_over m (suc rest) depth cs) (at_ended s q)

    pub beyond_end : r ≡ Ended → depth ≡ 0 → PassesOver m text at n (Ok (Beyond (n - passed)))
    beyond_end q o =
        passes (at_end q ∙ ap (λ x. Machine.pass_over m (suc rest) x []) o ∙ ends m rest ∙ ap Machine.beyond (sym one_more)) (omega arith)

    pub open_end : r ≡ Ended → (depth ≡ 0 → ⊥) → PassesOver m text at n (Err BadSkip)
    open_end q o = passes (at_end q ∙ ends_open m depth rest o) refl

-- ---- past an iteration

-- at place i, where `depth` iterations are open, the lines past the iteration are those sought
pub record Leaving (m : Marks) (text : Bytes) (at i depth : ℕ) : Type 0 where
  pub is : Machine.past_loop m 0 (body_at m text at) ≡ Machine.past_loop m depth (body_at m text i)
  pub from : at ≤ i
  pub within : i ≤ length text
  pub few : depth ≤ i

module _ {m : Marks} {text : Bytes} {at i depth : ℕ} (p : Leaving m text at i depth) {r : Stepped} (s : StepsOver m text i depth r) where
  pub leaving_ended : r ≡ Ended → Leaves m text at i
  leaving_ended q =
      record { is = p.is ∙ ap (λ cs. Machine.past_loop m depth cs) (at_ended s q) ∙ past_end m depth ∙ sym (at_ended s q); from = p.from; within = p.within }

-- ---- what callers take from a skip, by its case

module _ {m : Marks} {text : Bytes} {at n : ℕ} {r : Result Passed RunFault} (s : PassesOver m text at n r) where
  pub passes_landed : {p : ℕ} → r ≡ Ok (Landed p) → Machine.pass_over m n 0 (body_at m text at) ≡ Machine.landed (body_at m text p)
  passes_landed q = s.is ∙ ap (λ x. passed_of m text x) q

  pub passes_beyond : {j : ℕ} → r ≡ Ok (Beyond j) → Machine.pass_over m n 0 (body_at m text at) ≡ Machine.beyond j
  passes_beyond q = s.is ∙ ap (λ x. passed_of m text x) q

  pub passes_bad : {f : RunFault} → r ≡ Err f → Machine.pass_over m n 0 (body_at m text at) ≡ Machine.bad_landing
  passes_bad q = s.is ∙ ap (λ x. passed_of m text x) q

  -- no fault but a bad skip
  pub bad_skip : {f : RunFault} → r ≡ Err f → f ≡ BadSkip
  bad_skip q = only_bad text at n s.ranged q

  pub landed_within : {p : ℕ} → r ≡ Ok (Landed p) → p ≤ length text
  landed_within q = (subst (λ (x : Result Passed RunFault). RangedPassed text at n x) q s.ranged).1
