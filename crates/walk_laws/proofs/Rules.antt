-- The logic's rules on one step of a function's code, with the rest of the proof as a rule's last argument. As a `Step`, with `$`, each would spell the context and the goal twice more.
use mathlib.Core.Path.{◌≡◌, subst, sym}
use Prim.Native.Nat.{ℕ, zero, ◌+◌}
use mathlib.Core.List.{List, [], ◌∷◌}
use mathlib.Core.Option.{some}
use lib.Dec.{T as Holds}
use seplogic.Ra.Ura.{Ura}
use base.Fraction.{full_share}
use mir.Syntax.{Ty, Sym, ty_struct, Tys, Fn, place, field, copy, Rv as RValue, Body, seq, assign, return}
use mir.Val.{Val, vstruct, Vals, has_ty, WT}
use mir.Fields.{get_v, set_v}
use base.Logic.{SProp, ent, emp, via}
use base.Fml.{Share, fat, froom}
use prog.Memory.{field_at}
use prog.Wp.{Env, Spot, Calls, Loops, WpFn, at_return, spot_of, returns as returnsᴼ}
use types.Logic.{Logic}
use types.Kit as Kit
use types.Kit.{Item, ‵, mean, ⋆, nth, put, sel, sel⊢, only, only⊢, Goal, Post, at_ret, post, prop, runs, lands, allocs, params', passes, frees, Seq, ◌$◌}
use types.Run as Run
use types.Part as Part
use types.Run.{Opd, Rv, Reads, Writes}
use denote.RattleType.{RattleType}
use denote.Laws.{Is, shows}
use denote.Steps.{peeks}

module _ {M : Type 1} {𝓤 : Ura M} {𝓛 : Logic 𝓤} {K : Type 0} {Γ : List (Item 𝓤)} {G : Goal 𝓤 𝓛.H} where
  -- the entries at these places come first, each place counted in what is left once those before it are taken out
  pub move : K → (π : List ℕ) → Seq K 𝓛 (sel 𝓛 π Γ) G → Seq K 𝓛 Γ G
  move t π s = record { prf = via 𝓤 (⋆ 𝓛 (sel 𝓛 π Γ)) (sel⊢ 𝓛 π Γ) s.prf }

  -- those are kept only
  pub keep : K → (π : List ℕ) → Seq K 𝓛 (only 𝓛 π Γ) G → Seq K 𝓛 Γ G
  keep t π s = record { prf = via 𝓤 (⋆ 𝓛 (only 𝓛 π Γ)) (only⊢ 𝓛 π Γ) s.prf }

  -- a local's cell is room, whatever it holds
  pub forget : K → (n : ℕ) {τ : Ty} {b o : ℕ} {v : Val} → nth 𝓛 n Γ ≡ ‵ (fat full_share τ b o v) → Seq K 𝓛 (put 𝓛 n (‵ (froom τ b o)) Γ) G → Seq K 𝓛 Γ G
  forget t n e s = Run.forget t n e $ s

-- ---- these take 𝓛: what they are given would else be compared with parts of it, and each step after them would spell these out
module _ {M : Type 1} {𝓤 : Ura M} {K : Type 0} (𝓛 : Logic 𝓤) {Γ : List (Item 𝓤)} {G : Goal 𝓤 𝓛.H} where
  -- an item from nothing, and the head turned into what it entails
  pub use0 : K → (k : Item 𝓤) → ent 𝓤 (emp 𝓤) (mean 𝓛 k) → Seq K 𝓛 (k ∷ Γ) G → Seq K 𝓛 Γ G
  use0 t k h s = Kit.use0 𝓛 k h $ s

  pub use1 : K → {i : Item 𝓤} (k : Item 𝓤) → ent 𝓤 (mean 𝓛 i) (mean 𝓛 k) → Seq K 𝓛 (k ∷ Γ) G → Seq K 𝓛 (i ∷ Γ) G
  use1 t k h s = Kit.use1 𝓛 k h $ s

  -- what a value owns says what it is
  pub peek : K → (R : RattleType) (x : R.Denot) (vs : List Val) → (Is R x vs → Seq K 𝓛 (‵ (R.own_val x vs) ∷ Γ) G) → Seq K 𝓛 (‵ (R.own_val x vs) ∷ Γ) G
  peek t R x vs k = peeks t R (Is R) (shows 𝓛 R) x vs k

module _ {M : Type 1} {𝓤 : Ura M} {𝓛 : Logic 𝓤} {K : Type 0} {Γ : List (Item 𝓤)} where
  -- ---- a function's entry
  open 𝓛 use {H}

  pub enter : K → (C : Calls 𝓤 H) (Λ : Loops 𝓤 H) (f : Fn) (vs : List Val) (Kf : Val → SProp 𝓤) → Seq K 𝓛 Γ (allocs f.locals (λ E. params' E vs (runs C Λ E f.body (at_ret E Kf))))
      → Seq K 𝓛 Γ (prop (WpFn 𝓤 H C Λ f vs Kf))
  enter t C Λ f vs Kf s = Run.enter t C Λ f vs Kf $ s

  -- its locals are there
  pub allocated : K → {Kt : Env 𝓤 H → Goal 𝓤 H} → Seq K 𝓛 Γ (Kt []) → Seq K 𝓛 Γ (allocs [] Kt)
  allocated t s = Run.alloc0 t $ s

  -- the first of them is the result's, and the parameters' follow
  pub after_result : K → {e : Ty × ℕ} {E : Env 𝓤 H} {vs : List Val} {g : Goal 𝓤 H} → Seq K 𝓛 Γ (passes E vs g) → Seq K 𝓛 Γ (params' (e ∷ E) vs g)
  after_result t s = Run.params1 t $ s

  -- an argument is stored, and then all are
  pub pass : K → {τ : Ty} {b : ℕ} {E : Env 𝓤 H} {v : Val} {vs : List Val} {g : Goal 𝓤 H} {Γ' : List (Item 𝓤)} → Writes K 𝓛 Γ τ b zero v Γ' → Seq K 𝓛 Γ' (passes E vs g)
      → Seq K 𝓛 Γ (passes ((τ, b) ∷ E) (v ∷ vs) g)
  pass t w s = Run.pass1 t w $ s

  pub passed : K → {E : Env 𝓤 H} {g : Goal 𝓤 H} → Seq K 𝓛 Γ g → Seq K 𝓛 Γ (passes E [] g)
  passed t s = Run.pass0 t $ s

  -- ---- a value is written that is equal to w, and w is what stands there then
  as_equal : (τ : Ty) (b o : ℕ) (n : ℕ) {v w : Val} → v ≡ w → Writes K 𝓛 Γ τ b o v (put 𝓛 n (‵ (fat full_share τ b o v)) Γ) → Writes K 𝓛 Γ τ b o v (put 𝓛 n (‵ (fat full_share τ b o w)) Γ)
  as_equal τ b o n {v} e h = subst (λ (u : Val). Writes K 𝓛 Γ τ b o v (put 𝓛 n (‵ (fat full_share τ b o u)) Γ)) e h

  pub init_as : K → (n : ℕ) {τ : Ty} {b o : ℕ} {v w : Val} → nth 𝓛 n Γ ≡ ‵ (froom τ b o) → Holds (has_ty τ v) × WT v → v ≡ w → Writes K 𝓛 Γ τ b o v (put 𝓛 n (‵ (fat full_share τ b o w)) Γ)
  init_as t n {τ} {b} {o} e wt same = as_equal τ b o n same (Run.init t n e wt)

  pub store_as : K → (n : ℕ) {τ : Ty} {b o : ℕ} {u v w : Val} → nth 𝓛 n Γ ≡ ‵ (fat full_share τ b o u) → Holds (has_ty τ v) × WT v → v ≡ w
      → Writes K 𝓛 Γ τ b o v (put 𝓛 n (‵ (fat full_share τ b o w)) Γ)
  store_as t n {τ} {b} {o} e wt same = as_equal τ b o n same (Run.store t n e wt)

-- ---- operands and statements about a local, each in one step
module _ {M : Type 1} {𝓤 : Ura M} {𝓛 : Logic 𝓤} {K : Type 0} {Γ : List (Item 𝓤)} {E : Env 𝓤 𝓛.H} where
  -- a local is read: entry n is its cell
  open 𝓛 use {H}

  pub local : K → {i : ℕ} (n : ℕ) {q : Share} {v : Val} → nth 𝓛 n Γ ≡ ‵ (fat q (spot_of 𝓤 H E i).0 (spot_of 𝓤 H E i).1 (spot_of 𝓤 H E i).2 v) → Opd K 𝓛 Γ E (copy (place i [])) v
  local t n e = Run.load t (Run.from t (Run.stop t)) (Run.look t n e)

  -- a field of a local is read
  pub part : K → {i k : ℕ} (n : ℕ) {q : Share} {ν : Sym} {τs : Tys} {b o : ℕ} {vs : Vals} {τ : Ty} {d : ℕ} → nth 𝓛 n Γ ≡ ‵ (fat q (ty_struct ν τs) b o (vstruct vs))
      → spot_of 𝓤 H E i ≡ (ty_struct ν τs, b, o) → field_at zero τs k ≡ some (τ, d) → Opd K 𝓛 Γ E (copy (place i (field k ∷ []))) (get_v vs k)
  part t {i} {k} n {q} {ν} {τs} {b} {o} {vs} {τ} {d} e s f =
      Run.load t (Run.from t (subst (λ (sp : Spot 𝓤 H). Run.Walks K 𝓛 Γ E sp (field k ∷ []) (τ, b, o + d)) (sym s) (Run.fld t f (Run.stop t))))
      (Part.look_in t n (subst (λ (j : Item 𝓤). Part.Part K 𝓛 j q τ b (o + d) (get_v vs k) (λ (u : Val). ‵ (fat q (ty_struct ν τs) b o (vstruct (set_v vs k u))))) (sym e) (Part.sub t k f (Part.whole t))))

  module _ {C : Calls 𝓤 H} {Λ : Loops 𝓤 H} {q : Post 𝓤 H} where
    -- a local is assigned
    pub sets : K → {i : ℕ} {rv : RValue} {rest : Body} {v : Val} {Γ' : List (Item 𝓤)} → Rv K 𝓛 Γ E rv v
        → Writes K 𝓛 Γ (spot_of 𝓤 H E i).0 (spot_of 𝓤 H E i).1 (spot_of 𝓤 H E i).2 v Γ' → Seq K 𝓛 Γ' (runs C Λ E rest q) → Seq K 𝓛 Γ (runs C Λ E (seq (assign (place i []) rv) rest) q)
    sets t r w s = Run.assigns t r (Run.from t (Run.stop t)) w $ s

    -- a call's result is stored in a local
    pub lands_in : K → {i : ℕ} {r : Val} {rest : Body} {Γ' : List (Item 𝓤)} → Writes K 𝓛 Γ (spot_of 𝓤 H E i).0 (spot_of 𝓤 H E i).1 (spot_of 𝓤 H E i).2 r Γ'
        → Seq K 𝓛 Γ' (runs C Λ E rest q) → Seq K 𝓛 Γ (lands C Λ E (place i []) r rest q)
    lands_in t w s = Run.land t (Run.from t (Run.stop t)) w $ s

    -- the function returns from within a part
    pub returns-by : K → (Kf : Val → SProp 𝓤) {r : Val} → post 𝓤 H q returnsᴼ ≡ at_return 𝓤 H E Kf returnsᴼ → Reads K 𝓛 Γ (spot_of 𝓤 H E zero).0 (spot_of 𝓤 H E zero).1 zero r
        → Seq K 𝓛 Γ (frees E (prop (Kf r))) → Seq K 𝓛 Γ (runs C Λ E return q)
    returns-by t Kf e rd s = Run.returns_within t Kf e rd $ s
