-- Loops: a turn is shown for every state, and where it ends is a variable, so that it stays small in what is compared.
use mathlib.Core.Path.{◌≡◌, refl, sym, subst}
use Prim.Native.Nat.{ℕ, suc, ◌<◌}
use mathlib.Core.WellFounded.InvImage
use lib.WfN.{lt-wf_rel}
use mathlib.Core.List.{List, []}
use seplogic.Ra.Ura.{Ura}
use mir.Syntax.{place, Rv as RValue, Body, skip, exit, loop, assign}
use mir.Val.{Val}
use base.Logic.{SProp, guard_i, ent, via, ex, ex_i, guard}
use prog.Wp.{Heap, Env, Calls, Loops, spot_of, Tables, after_turn, next, exits}
use types.Logic.{Logic}
use types.Kit.{Item, ⋆, Post, any_q, post, prop, runs, settles, Seq, Step, step, ◌$◌}
use types.Run.{Rv, Writes, from, stop, skips, jumps, assigns_last, land_last, loops}
use Rattle.walk_laws.proofs.Parts.{after, Falls, inside, Leaves}

-- ---- loops. A loop's state is d, of which P d holds and which the code has as I d; a turn ends in the same at a d' whose measure is less
module _ {M : Type 1} (𝓤 : Ura M) (H : Heap 𝓤) where
  -- what is to hold where a turn ends: X where it ends or goes on with the next one, q's where it leaves the loop. It is shut
  pub turning : SProp 𝓤 → Post 𝓤 H → Post 𝓤 H
  turning X q = any_q (after_turn 𝓤 H X (post 𝓤 H q))

  pub through_turn : (E : Env 𝓤 H) (X : SProp 𝓤) (q : Post 𝓤 H) (Kf : Val → SProp 𝓤) → Falls 𝓤 H E Kf q → Falls 𝓤 H E Kf (turning X q)
  unfolding turning after_turn
  through_turn E X q Kf e = e

  -- where a part with the postcondition q ends, X is to hold
  pub record To (q : Post 𝓤 H) (X : SProp 𝓤) : Type 2 where
    pub is : post 𝓤 H q next ≡ X

  pub record LeavesTo (n : ℕ) (q : Post 𝓤 H) (X : SProp 𝓤) : Type 2 where
    pub is : post 𝓤 H q (exits n) ≡ X

module _ {M : Type 1} {𝓤 : Ura M} (𝓛 : Logic 𝓤) {D : Type 0} (P : D → Type 0) (μ : D → ℕ) (I : D → List (Item 𝓤)) where
  pub Less : D → SProp 𝓤
  Less d = ex 𝓤 (λ (x : (e : D) × P e). guard 𝓤 (μ x.0 < μ d) (⋆ 𝓛 (I x.0)))

module _ {M : Type 1} {𝓤 : Ura M} {H : Heap 𝓤} where
  pub turn_here : (q : Post 𝓤 H) {X : SProp 𝓤} → To 𝓤 H (turning 𝓤 H X q) X
  unfolding turning after_turn
  turn_here q = record { is = refl }

  pub to_out : {q : Post 𝓤 H} {X : SProp 𝓤} → To 𝓤 H q X → To 𝓤 H (inside 𝓤 H q) X
  unfolding inside
  to_out n = record { is = n.is }

  pub turn_left : (q : Post 𝓤 H) {X : SProp 𝓤} → LeavesTo 𝓤 H 0 (turning 𝓤 H X q) X
  unfolding turning after_turn
  turn_left q = record { is = refl }

  pub left_here : {q : Post 𝓤 H} {X : SProp 𝓤} → To 𝓤 H q X → LeavesTo 𝓤 H 0 (inside 𝓤 H q) X
  unfolding inside
  left_here n = record { is = n.is }

  pub left_out : {q : Post 𝓤 H} {X : SProp 𝓤} {n : ℕ} → LeavesTo 𝓤 H n q X → LeavesTo 𝓤 H (suc n) (inside 𝓤 H q) X
  unfolding inside
  left_out l = record { is = l.is }

  pub left_turn : {q : Post 𝓤 H} {X : SProp 𝓤} {n : ℕ} (Y : SProp 𝓤) → LeavesTo 𝓤 H n q X → LeavesTo 𝓤 H (suc n) (turning 𝓤 H Y q) X
  unfolding turning after_turn
  left_turn Y l = record { is = l.is }

  pub left_past : (C : Calls 𝓤 H) (Λ : Loops 𝓤 H) (E : Env 𝓤 H) {n : ℕ} (a : Body) {q : Post 𝓤 H} {X : SProp 𝓤} → LeavesTo 𝓤 H n q X → LeavesTo 𝓤 H n (after 𝓤 H C Λ E a q) X
  unfolding after
  left_past C Λ E a l = record { is = l.is }

  pub leaves_turn : {C : Calls 𝓤 H} {Λ : Loops 𝓤 H} {E : Env 𝓤 H} {n : ℕ} {q : Post 𝓤 H} {b : Body} {q' : Post 𝓤 H} (Y : SProp 𝓤) → Leaves 𝓤 H C Λ E n q b q'
      → Leaves 𝓤 H C Λ E (suc n) (turning 𝓤 H Y q) b q'
  unfolding turning after_turn
  leaves_turn Y l = record { is = l.is }

reach : {M : Type 1} {𝓤 : Ura M} {𝓛 : Logic 𝓤} {K : Type 0} {Γ : List (Item 𝓤)} → K → {X P : SProp 𝓤} → P ≡ X → Step K 𝓛 Γ (prop X) Γ (prop P)
reach {𝓤 = 𝓤} {𝓛 = 𝓛} {Γ = Γ} t e = step (λ s. record { prf = subst (λ (Q : SProp 𝓤). ent 𝓤 (⋆ 𝓛 Γ) Q) (sym e) s.prf })

module _ {M : Type 1} {𝓤 : Ura M} {𝓛 : Logic 𝓤} {K : Type 0} {Γ : List (Item 𝓤)} {C : Calls 𝓤 𝓛.H} {Λ : Loops 𝓤 𝓛.H} {E : Env 𝓤 𝓛.H} {q : Post 𝓤 𝓛.H} {X : SProp 𝓤} where
  open 𝓛 use {H}

  pub skips_to : K → To 𝓤 H q X → Seq K 𝓛 Γ (prop X) → Seq K 𝓛 Γ (runs C Λ E skip q)
  skips_to t n s = skips t $ reach t n.is $ s

  pub jumps_to : K → {m : ℕ} → LeavesTo 𝓤 H m q X → Seq K 𝓛 Γ (prop X) → Seq K 𝓛 Γ (runs C Λ E (exit m) q)
  jumps_to t n s = jumps t $ reach t n.is $ s

  pub assigns_to : K → To 𝓤 H q X → {i : ℕ} {rv : RValue} {v : Val} {Γ' : List (Item 𝓤)} → Rv K 𝓛 Γ E rv v
      → Writes K 𝓛 Γ (spot_of 𝓤 H E i).0 (spot_of 𝓤 H E i).1 (spot_of 𝓤 H E i).2 v Γ' → Seq K 𝓛 Γ' (prop X) → Seq K 𝓛 Γ (runs C Λ E (assign (place i []) rv) q)
  assigns_to t n r w s = assigns_last t r (from t (stop t)) w $ reach t n.is $ s

module _ {M : Type 1} {𝓤 : Ura M} {𝓛 : Logic 𝓤} {K : Type 0} {Γ : List (Item 𝓤)} {E : Env 𝓤 𝓛.H} {q : Post 𝓤 𝓛.H} {X : SProp 𝓤} where
  open 𝓛 use {H}

  pub lands_to : K → To 𝓤 H q X → {i : ℕ} {r : Val} {Γ' : List (Item 𝓤)} → Writes K 𝓛 Γ (spot_of 𝓤 H E i).0 (spot_of 𝓤 H E i).1 (spot_of 𝓤 H E i).2 r Γ'
      → Seq K 𝓛 Γ' (prop X) → Seq K 𝓛 Γ (settles E (place i []) r q)
  lands_to t n w s = land_last t (from t (stop t)) w $ reach t n.is $ s

module _ {M : Type 1} {𝓤 : Ura M} {𝓛 : Logic 𝓤} {K : Type 0} {D : Type 0} where
  open 𝓛 use {H}

  pub again_by : K → (P : D → Type 0) (μ : D → ℕ) (I : D → List (Item 𝓤)) (d d' : D) → P d' → μ d' < μ d → Seq K 𝓛 (I d') (prop (Less 𝓛 P μ I d))
  unfolding Less
  again_by k P μ I d d' p lt = record {
    prf = via 𝓤 (guard 𝓤 (μ d' < μ d) (⋆ 𝓛 (I d'))) (guard_i 𝓤 (μ d' < μ d) (⋆ 𝓛 (I d')) lt)
        (ex_i 𝓤 (λ (u : (e : D) × P e). guard 𝓤 (μ u.0 < μ d) (⋆ 𝓛 (I u.0))) (d', p));
  }

  -- where a turn ends is a variable X, so that it stays small in what antt compares: `next` says how to get there
  pub loops-by : K → (𝓣 : Tables 𝓤 H) (P : D → Type 0) (μ : D → ℕ) (I : D → List (Item 𝓤)) {E : Env 𝓤 H} {b : Body} {q : Post 𝓤 H}
      → ((d : D) → P d → (X : SProp 𝓤) → ((d' : D) → P d' → μ d' < μ d → Seq K 𝓛 (I d') (prop X)) → Seq K 𝓛 (I d) (runs 𝓣.C 𝓣.Λ E b (turning 𝓤 H X q))) → (d : D) → P d
      → Seq K 𝓛 (I d) (runs 𝓣.C 𝓣.Λ E (loop b) q)
  unfolding turning Less
  loops-by k 𝓣 P μ I {E} {b} {q} turn d p = loops k 𝓣 (λ (x y : (e : D) × P e). μ x.0 < μ y.0) (InvImage.wf (λ (x : (e : D) × P e). μ x.0) lt-wf_rel.wf)
      (λ (x : (e : D) × P e). I x.0) {E = E} {b = b} {q = q}
      (λ x. turn x.0 x.1 (Less 𝓛 P μ I x.0) (λ d' p' lt. again_by k P μ I x.0 d' p' lt)) (d, p)
