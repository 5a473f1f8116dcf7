-- Steps of the code beside calls and loops: sequences, blocks, tests, literals. What is to hold where a part ends is shut, so that two of them are compared by their parts.
use mathlib.Core.Path.{◌≡◌, refl, sym, subst}
use Prim.Native.Nat.{ℕ, suc}
use mathlib.Core.Bool.{Bool, true, false, not, ◌||◌}
use mathlib.Core.List.{List, []}
use lib.Dec.{T as Holds}
use seplogic.Ra.Ura.{Ura}
use mir.Syntax.{Width, int_big, Arms, arm, default, no_default, switch, place, Opd as Operand, Rv as RValue, Body, skip, exit, block, seq, assign}
use mir.Val.{Val, vint, Fits, has_key}
use base.Logic.{SProp, guard_i, ent, via}
use prog.Wp.{Heap, Env, Calls, Loops, spot_of, Wp, WpArms, branch, after_seq, after_block, at_return, next, exits, returns as returnsᴼ}
use types.Logic.{Logic}
use types.Kit.{Item, ⋆, Post, any_q, post, prop, Goal, runs, settles, Seq, Step, step, ◌$◌}
use types.Run.{Opd, Rv, Writes, from, stop, skips, jumps, switches_on, assigns_last, land_last, exec}

-- how a test came out, as an equation
pub is_true : (t : Bool) → Holds t → t ≡ true
is_true true h = refl
is_true false h = absurd h

pub is_false : (t : Bool) → Holds (not t) → t ≡ false
is_false true h = absurd h
is_false false h = refl

-- ---- what is to hold where a part of a sequence ends: the rest runs. It is shut, so that antt compares two of them by their parts
module _ {M : Type 1} (𝓤 : Ura M) (H : Heap 𝓤) where
  unfoldable pub after : Calls 𝓤 H → Loops 𝓤 H → Env 𝓤 H → Body → Post 𝓤 H → Post 𝓤 H
  after C Λ E b q = any_q (after_seq 𝓤 H (Wp 𝓤 H C Λ E b (post 𝓤 H q)) (post 𝓤 H q))

  -- where the code returns, q is what E and Kf say
  abbrev pub Falls : Env 𝓤 H → (Val → SProp 𝓤) → Post 𝓤 H → Type 2
  Falls E Kf q = post 𝓤 H q returnsᴼ ≡ at_return 𝓤 H E Kf returnsᴼ

  pub through : (C : Calls 𝓤 H) (Λ : Loops 𝓤 H) (E : Env 𝓤 H) (b : Body) (q : Post 𝓤 H) (Kf : Val → SProp 𝓤) → Falls E Kf q → Falls E Kf (after C Λ E b q)
  unfolding after
  through C Λ E b q Kf e = e

module _ {M : Type 1} {𝓤 : Ura M} {𝓛 : Logic 𝓤} {K : Type 0} {Γ : List (Item 𝓤)} {C : Calls 𝓤 𝓛.H} {Λ : Loops 𝓤 𝓛.H} {E : Env 𝓤 𝓛.H} {q : Post 𝓤 𝓛.H} where
  -- into the first part of a sequence
  open 𝓛 use {H}

  pub first_then : K → {a b : Body} → Seq K 𝓛 Γ (runs C Λ E a (after 𝓤 H C Λ E b q)) → Seq K 𝓛 Γ (runs C Λ E (seq a b) q)
  unfolding after
  first_then t s = record { prf = s.prf }

  -- a part ends, and the rest runs
  pub skips_then : K → {b : Body} → Seq K 𝓛 Γ (runs C Λ E b q) → Seq K 𝓛 Γ (runs C Λ E skip (after 𝓤 H C Λ E b q))
  unfolding after
  skips_then t {b} s = skips t $ exec t C Λ E b q $ s

  pub assigns_then : K → {b : Body} {i : ℕ} {rv : RValue} {v : Val} {Γ' : List (Item 𝓤)} → Rv K 𝓛 Γ E rv v
      → Writes K 𝓛 Γ (spot_of 𝓤 H E i).0 (spot_of 𝓤 H E i).1 (spot_of 𝓤 H E i).2 v Γ' → Seq K 𝓛 Γ' (runs C Λ E b q) → Seq K 𝓛 Γ (runs C Λ E (assign (place i []) rv) (after 𝓤 H C Λ E b q))
  unfolding after
  assigns_then t {b} r w s = assigns_last t r (from t (stop t)) w $ exec t C Λ E b q $ s

  pub lands_then : K → {b : Body} {i : ℕ} {r : Val} {Γ' : List (Item 𝓤)} → Writes K 𝓛 Γ (spot_of 𝓤 H E i).0 (spot_of 𝓤 H E i).1 (spot_of 𝓤 H E i).2 r Γ'
      → Seq K 𝓛 Γ' (runs C Λ E b q) → Seq K 𝓛 Γ (settles E (place i []) r (after 𝓤 H C Λ E b q))
  unfolding after
  lands_then t {b} w s = land_last t (from t (stop t)) w $ exec t C Λ E b q $ s

module _ {M : Type 1} {𝓤 : Ura M} {𝓛 : Logic 𝓤} {K : Type 0} {Γ : List (Item 𝓤)} {E : Env 𝓤 𝓛.H} where
  -- a literal that MIR writes with a bound to show: one above 1023
  pub big_lit : K → {w : Width} {n : ℕ} → Fits w n → Opd K 𝓛 Γ E (int_big w n) (vint w n)
  big_lit t {w} {n} z = record { go = λ Kt h. via 𝓤 (Kt (vint w n)) h (guard_i 𝓤 (Fits w n) (Kt (vint w n)) z) }

module _ {M : Type 1} {𝓤 : Ura M} {𝓛 : Logic 𝓤} {K : Type 0} {Γ : List (Item 𝓤)} {G : Goal 𝓤 𝓛.H} where
  -- the context, written out: what the steps so far made of it is compared with it once, and is then forgotten
  pub written_out : K → (Γ' : List (Item 𝓤)) → Γ ≡ Γ' → Seq K 𝓛 Γ' G → Seq K 𝓛 Γ G
  written_out t Γ' e s = subst (λ (Δ : List (Item 𝓤)). Seq K 𝓛 Δ G) (sym e) s

-- ---- blocks. What is to hold where a block's body ends is shut too
module _ {M : Type 1} (𝓤 : Ura M) (H : Heap 𝓤) where
  unfoldable pub inside : Post 𝓤 H → Post 𝓤 H
  inside q = any_q (after_block 𝓤 H (post 𝓤 H q))

  pub through_block : (E : Env 𝓤 H) (q : Post 𝓤 H) (Kf : Val → SProp 𝓤) → Falls 𝓤 H E Kf q → Falls 𝓤 H E Kf (inside q)
  unfolding inside
  through_block E q Kf e = e

  module _ (C : Calls 𝓤 H) (Λ : Loops 𝓤 H) (E : Env 𝓤 H) where
    -- where a part with the postcondition q ends, b runs, with q' for its own
    pub record Next (q : Post 𝓤 H) (b : Body) (q' : Post 𝓤 H) : Type 2 where
      pub is : post 𝓤 H q next ≡ Wp 𝓤 H C Λ E b (post 𝓤 H q')

    -- the same where it ends by `exit n`
    pub record Leaves (n : ℕ) (q : Post 𝓤 H) (b : Body) (q' : Post 𝓤 H) : Type 2 where
      pub is : post 𝓤 H q (exits n) ≡ Wp 𝓤 H C Λ E b (post 𝓤 H q')

module _ {M : Type 1} {𝓤 : Ura M} {H : Heap 𝓤} {C : Calls 𝓤 H} {Λ : Loops 𝓤 H} {E : Env 𝓤 H} where
  pub here : {b : Body} {q : Post 𝓤 H} → Next 𝓤 H C Λ E (after 𝓤 H C Λ E b q) b q
  unfolding after
  here = record { is = refl }

  pub out : {q : Post 𝓤 H} {b : Body} {q' : Post 𝓤 H} → Next 𝓤 H C Λ E q b q' → Next 𝓤 H C Λ E (inside 𝓤 H q) b q'
  unfolding inside
  out n = record { is = n.is }

  pub past : {n : ℕ} (a : Body) {q : Post 𝓤 H} {b : Body} {q' : Post 𝓤 H} → Leaves 𝓤 H C Λ E n q b q' → Leaves 𝓤 H C Λ E n (after 𝓤 H C Λ E a q) b q'
  unfolding after
  past a l = record { is = l.is }

  pub leaves_here : {q : Post 𝓤 H} {b : Body} {q' : Post 𝓤 H} → Next 𝓤 H C Λ E q b q' → Leaves 𝓤 H C Λ E 0 (inside 𝓤 H q) b q'
  unfolding inside
  leaves_here n = record { is = n.is }

  pub leaves_out : {n : ℕ} {q : Post 𝓤 H} {b : Body} {q' : Post 𝓤 H} → Leaves 𝓤 H C Λ E n q b q' → Leaves 𝓤 H C Λ E (suc n) (inside 𝓤 H q) b q'
  unfolding inside
  leaves_out l = record { is = l.is }

goes : {M : Type 1} {𝓤 : Ura M} {𝓛 : Logic 𝓤} {K : Type 0} {Γ : List (Item 𝓤)} → K
    → (C : Calls 𝓤 𝓛.H) (Λ : Loops 𝓤 𝓛.H) (E : Env 𝓤 𝓛.H) (b : Body) (q' : Post 𝓤 𝓛.H) {P : SProp 𝓤}
    → P ≡ Wp 𝓤 𝓛.H C Λ E b (post 𝓤 𝓛.H q') → Step K 𝓛 Γ (runs C Λ E b q') Γ (prop P)
goes {𝓤 = 𝓤} {𝓛 = 𝓛} {Γ = Γ} t C Λ E b q' {P} e = step (λ s. record { prf = subst (λ (Q : SProp 𝓤). ent 𝓤 (⋆ 𝓛 Γ) Q) (sym e) s.prf })

module _ {M : Type 1} {𝓤 : Ura M} {𝓛 : Logic 𝓤} {K : Type 0} {Γ : List (Item 𝓤)} {C : Calls 𝓤 𝓛.H} {Λ : Loops 𝓤 𝓛.H} {E : Env 𝓤 𝓛.H} {q : Post 𝓤 𝓛.H} where
  open 𝓛 use {H}

  pub blocks_in : K → {b : Body} → Seq K 𝓛 Γ (runs C Λ E b (inside 𝓤 H q)) → Seq K 𝓛 Γ (runs C Λ E (block b) q)
  unfolding inside
  blocks_in t s = record { prf = s.prf }

  module _ {b : Body} {q' : Post 𝓤 H} where
    pub skips-by : K → Next 𝓤 H C Λ E q b q' → Seq K 𝓛 Γ (runs C Λ E b q') → Seq K 𝓛 Γ (runs C Λ E skip q)
    skips-by t n s = skips t $ goes t C Λ E b q' n.is $ s

    pub jumps-by : K → {m : ℕ} → Leaves 𝓤 H C Λ E m q b q' → Seq K 𝓛 Γ (runs C Λ E b q') → Seq K 𝓛 Γ (runs C Λ E (exit m) q)
    jumps-by t n s = jumps t $ goes t C Λ E b q' n.is $ s

module _ {M : Type 1} {𝓤 : Ura M} {𝓛 : Logic 𝓤} {K : Type 0} {Γ : List (Item 𝓤)}
    {C : Calls 𝓤 𝓛.H} {Λ : Loops 𝓤 𝓛.H} {E : Env 𝓤 𝓛.H} {q : Post 𝓤 𝓛.H} {b : Body} {q' : Post 𝓤 𝓛.H} where
  open 𝓛 use {H}

  pub assigns-by : K → Next 𝓤 H C Λ E q b q' → {i : ℕ} {rv : RValue} {v : Val} {Γ' : List (Item 𝓤)} → Rv K 𝓛 Γ E rv v
      → Writes K 𝓛 Γ (spot_of 𝓤 H E i).0 (spot_of 𝓤 H E i).1 (spot_of 𝓤 H E i).2 v Γ' → Seq K 𝓛 Γ' (runs C Λ E b q') → Seq K 𝓛 Γ (runs C Λ E (assign (place i []) rv) q)
  assigns-by t n r w s = assigns_last t r (from t (stop t)) w $ goes t C Λ E b q' n.is $ s

  pub lands-by : K → Next 𝓤 H C Λ E q b q' → {i : ℕ} {r : Val} {Γ' : List (Item 𝓤)} → Writes K 𝓛 Γ (spot_of 𝓤 H E i).0 (spot_of 𝓤 H E i).1 (spot_of 𝓤 H E i).2 r Γ'
      → Seq K 𝓛 Γ' (runs C Λ E b q') → Seq K 𝓛 Γ (settles E (place i []) r q)
  lands-by t n w s = land_last t (from t (stop t)) w $ goes t C Λ E b q' n.is $ s

-- ---- a switch on a number that is written out: the arm that runs
abbrev pub choose : Bool → Body → Body → Body
choose true a b = a
choose false a b = b

abbrev pub arm_of : Arms → ℕ → Body
arm_of (arm ks b arms) x = choose (has_key ks x) b (arm_of arms x)
arm_of (default b) x = b
arm_of no_default x = skip

abbrev pub has-arm : Arms → ℕ → Bool
has-arm (arm ks b arms) x = has_key ks x || has-arm arms x
has-arm (default b) x = true
has-arm no_default x = false

module _ {M : Type 1} (𝓤 : Ura M) (H : Heap 𝓤) (C : Calls 𝓤 H) (Λ : Loops 𝓤 H) (E : Env 𝓤 H) (q : Post 𝓤 H) where
  by_key : (t : Bool) (z : Bool) (b b' : Body) (P : SProp 𝓤) → (Holds z → P ≡ Wp 𝓤 H C Λ E b' (post 𝓤 H q)) → Holds (t || z)
      → branch 𝓤 H t (Wp 𝓤 H C Λ E b (post 𝓤 H q)) P ≡ Wp 𝓤 H C Λ E (choose t b b') (post 𝓤 H q)
  by_key true z b b' P k h = refl
  by_key false z b b' P k h = k h

  picked : (arms : Arms) (x : ℕ) → Holds (has-arm arms x) → WpArms 𝓤 H C Λ E arms x (post 𝓤 H q) ≡ Wp 𝓤 H C Λ E (arm_of arms x) (post 𝓤 H q)
  picked (arm ks b arms) x h = by_key (has_key ks x) (has-arm arms x) b (arm_of arms x) (WpArms 𝓤 H C Λ E arms x (post 𝓤 H q)) (picked arms x) h
  picked (default b) x h = refl
  picked no_default x h = absurd h

pub switch_on : {M : Type 1} {𝓤 : Ura M} {𝓛 : Logic 𝓤} {K : Type 0} {Γ : List (Item 𝓤)} {C : Calls 𝓤 𝓛.H} {Λ : Loops 𝓤 𝓛.H} {E : Env 𝓤 𝓛.H} {q : Post 𝓤 𝓛.H} → K
    → {c : Operand} {arms : Arms} {w : Width} {x : ℕ}
    → Opd K 𝓛 Γ E c (vint w x) → Holds (has-arm arms x) → Seq K 𝓛 Γ (runs C Λ E (arm_of arms x) q) → Seq K 𝓛 Γ (runs C Λ E (switch c arms) q)
switch_on {𝓤 = 𝓤} {𝓛 = 𝓛} {C = C} {Λ = Λ} {E = E} {q = q} t {c} {arms} {w} {x} o h s = switches_on t o $ goes t C Λ E (arm_of arms x) q (picked 𝓤 𝓛.H C Λ E q arms x h) $ s
