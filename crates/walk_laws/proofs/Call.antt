-- A call in one step: from the tokens and what the arguments own to the tokens, with the callee's `ensures` in hand and what the result is. What the result owns is let go: the laws are for results that are plain data, which own nothing.
--     asks, asks_last      the callee has no `&mut`; `_last`: the call is the last of its sequence
--     asksˡ, asksˡ_last    it has one: what says the last lists is had too
--     says_both, hears_both    two clauses of `ensures`: said by the function, and heard by its caller
use mathlib.Core.List.{List, [], ◌∷◌}
use seplogic.Ra.Ura.{Ura}
use mir.Syntax.{Callee, Place, Opd as Operand, Body, seq, call}
use mir.Val.{Val}
use base.Logic.{SProp, ent, sep, emp, via, id⊢, emp∗, mono∗, fst∗, snd∗, ex_e}
use prog.Wp.{Env, Calls, Loops}
use types.Logic.{Logic, sem}
use contract.Monad.{fact, fact_i, fact_mono, fact_use}
use types.Kit.{Item, ‵, raw, ◌⊛◌, some, later, Post, Soaks, Goal, runs, lands, settles, Seq, ◌$◌, move, drop, use0, use1, split, join, pick, await}
use types.Run.{Opds}
use sound.WpLaws.{FmC}
use denote.RattleType.{RattleType, owns}
use denote.Laws.{Is, shows}
use denote.Signature.{type_at, types_at}
use denote.Steps.{heard, peeks}
use denote.Triple.Call.{calls_from, calls_from_last}
use denote.Triple.Clauses.{Clauses, Ended, Lasts, at_exit, lasts, ensured, closing}
use denote.Triple.Entry.{Res, alive}
use denote.Triple.Spec.{triple_of}
use denote.Triple.Statement.{Contract}

-- a callee's contract, at one choice y of what its triple binds
module _ {M : Type 1} {𝓤 : Ura M} (𝓛 : Logic 𝓤) (T : Ended) (c : Clauses 𝓤 T) where
  abbrev pub Of : Contract 𝓤
  Of = triple_of 𝓛 T.signature (closing 𝓛 T c)

  module _ (y : Of.Ghost) where
    abbrev pub Tok : Item 𝓤
    Tok = raw (alive 𝓛 T.signature y.0.0 y.0.1)

    abbrev pub Out : RattleType
    Out = type_at T.signature.result y.0.0

    abbrev pub Args_own : Item 𝓤
    Args_own = ‵ (owns (types_at T.signature.params y.0.0) y.0.3 y.0.4)

    abbrev pub Req : SProp 𝓤
    Req = (c y.0.0 y.0.3).requires y.1

    abbrev pub Pre : Item 𝓤
    Pre = (Tok ⊛ Args_own) ⊛ raw Req

    abbrev pub Said : (Res T.signature y.0.0 → Type 0) → Type 1
    Said ψ = (r : Res T.signature y.0.0) (ws : Lasts T y.0.0 y.0.3) → ent 𝓤 ((c y.0.0 y.0.3).ensures y.1 r (at_exit T y.0.0 y.0.3 ws)) (fact 𝓤 (ψ r))

module _ {M : Type 1} {𝓤 : Ura M} {K : Type 0} (𝓛 : Logic 𝓤) {Γ : List (Item 𝓤)} where
  -- what there is once the callee has returned
  open 𝓛 use {H}

  back : K → (T : Ended) (c : Clauses 𝓤 T) (y : (Of 𝓛 T c).Ghost) (ψ : Res T.signature y.0.0 → Type 0) (v : Val) {G : Goal 𝓤 H} → Soaks G → Said 𝓛 T c y ψ
      → ((r : Res T.signature y.0.0) → Is (Out 𝓛 T c y) r (v ∷ []) → ψ r → Seq K 𝓛 (Tok 𝓛 T c y ∷ Γ) G)
      → Seq K 𝓛 (raw ((Of 𝓛 T c).post y v) ∷ Γ) G
  back t T c y ψ v soaks said k =
      use1 𝓛 (later (some (λ (r : Res T.signature y.0.0). (Tok 𝓛 T c y ⊛ ‵ ((Out 𝓛 T c y).own_val r (v ∷ []))) ⊛ raw (ensured 𝓛 T c y.0.0 y.0.3 y.1 r)))) (id⊢ 𝓤 _) $
      await t soaks $ pick t (λ r.
      split t $ move t (1 ∷ []) $ use1 𝓛 (raw (fact 𝓤 (ψ r)))
      (ex_e 𝓤 _ (λ ws. via 𝓤 ((c y.0.0 y.0.3).ensures y.1 r (at_exit T y.0.0 y.0.3 ws))
      (snd∗ 𝓤 (sem 𝓛 (lasts T y.0.0 y.0.3 ws)) ((c y.0.0 y.0.3).ensures y.1 r (at_exit T y.0.0 y.0.3 ws))) (said r ws))) $
      heard t (ψ r) (λ e. split t $ move t (1 ∷ []) $ peeks t (Out 𝓛 T c y) (Is (Out 𝓛 T c y)) (shows 𝓛 (Out 𝓛 T c y)) r (v ∷ []) (λ is.
      drop t $ k r is e)))

  module _ {E : Env 𝓤 H} {C : Calls 𝓤 H} {Λ : Loops 𝓤 H} {q : Post 𝓤 H} {f : Callee} {xs : List Operand} {d : Place} where
    pub asks : K → FmC 𝓤 H 𝓛.laws C → {rest : Body} (T : Ended) (c : Clauses 𝓤 T) (y : (Of 𝓛 T c).Ghost) (ψ : Res T.signature y.0.0 → Type 0)
        → ent 𝓤 ((Of 𝓛 T c).pre y) (C f ((Of 𝓛 T c).args y) ((Of 𝓛 T c).post y)) → ent 𝓤 (emp 𝓤) (Req 𝓛 T c y) → Said 𝓛 T c y ψ
        → Opds K 𝓛 (Pre 𝓛 T c y ∷ Γ) E xs ((Of 𝓛 T c).args y)
        → ((v : Val) (r : Res T.signature y.0.0) → Is (Out 𝓛 T c y) r (v ∷ []) → ψ r → Seq K 𝓛 (Tok 𝓛 T c y ∷ Γ) (lands C Λ E d v rest q))
        → Seq K 𝓛 (Tok 𝓛 T c y ∷ Args_own 𝓛 T c y ∷ Γ) (runs C Λ E (seq (call f xs d) rest) q)
    asks t fm T c y ψ known req said os k =
        join t $ use0 𝓛 (raw (Req 𝓛 T c y)) req $ move t (1 ∷ 0 ∷ []) $ join t $
        calls_from t fm (Pre 𝓛 T c y) ((Of 𝓛 T c).args y) ((Of 𝓛 T c).post y) known os (λ v. back t T c y ψ v tt said (k v))

    pub asks_last : K → FmC 𝓤 H 𝓛.laws C → (T : Ended) (c : Clauses 𝓤 T) (y : (Of 𝓛 T c).Ghost) (ψ : Res T.signature y.0.0 → Type 0)
        → ent 𝓤 ((Of 𝓛 T c).pre y) (C f ((Of 𝓛 T c).args y) ((Of 𝓛 T c).post y)) → ent 𝓤 (emp 𝓤) (Req 𝓛 T c y) → Said 𝓛 T c y ψ
        → Opds K 𝓛 (Pre 𝓛 T c y ∷ Γ) E xs ((Of 𝓛 T c).args y)
        → ((v : Val) (r : Res T.signature y.0.0) → Is (Out 𝓛 T c y) r (v ∷ []) → ψ r → Seq K 𝓛 (Tok 𝓛 T c y ∷ Γ) (settles E d v q))
        → Seq K 𝓛 (Tok 𝓛 T c y ∷ Args_own 𝓛 T c y ∷ Γ) (runs C Λ E (call f xs d) q)
    asks_last t fm T c y ψ known req said os k =
        join t $ use0 𝓛 (raw (Req 𝓛 T c y)) req $ move t (1 ∷ 0 ∷ []) $ join t $
        calls_from_last t fm (Pre 𝓛 T c y) ((Of 𝓛 T c).args y) ((Of 𝓛 T c).post y) known os (λ v. back t T c y ψ v tt said (k v))

-- a call of a function with a `&mut`: what says the last values is had too
abbrev pub Saidˡ : {M : Type 1} {𝓤 : Ura M} (𝓛 : Logic 𝓤) (T : Ended) (c : Clauses 𝓤 T) (y : (Of 𝓛 T c).Ghost)
    → (Res T.signature y.0.0 → Lasts T y.0.0 y.0.3 → Type 0) → Type 1
Saidˡ {𝓤 = 𝓤} 𝓛 T c y ψ = (r : Res T.signature y.0.0) (ws : Lasts T y.0.0 y.0.3) → ent 𝓤 ((c y.0.0 y.0.3).ensures y.1 r (at_exit T y.0.0 y.0.3 ws)) (fact 𝓤 (ψ r ws))

module _ {M : Type 1} {𝓤 : Ura M} {K : Type 0} (𝓛 : Logic 𝓤) {Γ : List (Item 𝓤)} where
  open 𝓛 use {H}

  backˡ : K → (T : Ended) (c : Clauses 𝓤 T) (y : (Of 𝓛 T c).Ghost) (ψ : Res T.signature y.0.0 → Lasts T y.0.0 y.0.3 → Type 0) (v : Val) {G : Goal 𝓤 H} → Soaks G → Saidˡ 𝓛 T c y ψ
      → ((r : Res T.signature y.0.0) (ws : Lasts T y.0.0 y.0.3) → Is (Out 𝓛 T c y) r (v ∷ []) → ψ r ws
      → Seq K 𝓛 (Tok 𝓛 T c y ∷ ‵ (lasts T y.0.0 y.0.3 ws) ∷ Γ) G)
      → Seq K 𝓛 (raw ((Of 𝓛 T c).post y v) ∷ Γ) G
  backˡ t T c y ψ v soaks said k =
      use1 𝓛 (later (some (λ (r : Res T.signature y.0.0). (Tok 𝓛 T c y ⊛ ‵ ((Out 𝓛 T c y).own_val r (v ∷ [])))
      ⊛ some (λ (ws : Lasts T y.0.0 y.0.3). ‵ (lasts T y.0.0 y.0.3 ws) ⊛ raw ((c y.0.0 y.0.3).ensures y.1 r (at_exit T y.0.0 y.0.3 ws)))))) (id⊢ 𝓤 _) $
      await t soaks $ pick t (λ r.
      split t $ move t (1 ∷ []) $ pick t (λ ws. split t $ move t (1 ∷ []) $ use1 𝓛 (raw (fact 𝓤 (ψ r ws))) (said r ws) $
      heard t (ψ r ws) (λ e. move t (1 ∷ []) $ split t $ move t (1 ∷ []) $ peeks t (Out 𝓛 T c y) (Is (Out 𝓛 T c y)) (shows 𝓛 (Out 𝓛 T c y)) r (v ∷ []) (λ is.
      drop t $ k r ws is e))))

  module _ {E : Env 𝓤 H} {C : Calls 𝓤 H} {Λ : Loops 𝓤 H} {q : Post 𝓤 H} {f : Callee} {xs : List Operand} {d : Place} where
    pub asksˡ : K → FmC 𝓤 H 𝓛.laws C → {rest : Body} (T : Ended) (c : Clauses 𝓤 T) (y : (Of 𝓛 T c).Ghost) (ψ : Res T.signature y.0.0 → Lasts T y.0.0 y.0.3 → Type 0)
        → ent 𝓤 ((Of 𝓛 T c).pre y) (C f ((Of 𝓛 T c).args y) ((Of 𝓛 T c).post y)) → ent 𝓤 (emp 𝓤) (Req 𝓛 T c y) → Saidˡ 𝓛 T c y ψ
        → Opds K 𝓛 (Pre 𝓛 T c y ∷ Γ) E xs ((Of 𝓛 T c).args y)
        → ((v : Val) (r : Res T.signature y.0.0) (ws : Lasts T y.0.0 y.0.3) → Is (Out 𝓛 T c y) r (v ∷ []) → ψ r ws
        → Seq K 𝓛 (Tok 𝓛 T c y ∷ ‵ (lasts T y.0.0 y.0.3 ws) ∷ Γ) (lands C Λ E d v rest q))
        → Seq K 𝓛 (Tok 𝓛 T c y ∷ Args_own 𝓛 T c y ∷ Γ) (runs C Λ E (seq (call f xs d) rest) q)
    asksˡ t fm T c y ψ known req said os k =
        join t $ use0 𝓛 (raw (Req 𝓛 T c y)) req $ move t (1 ∷ 0 ∷ []) $ join t $
        calls_from t fm (Pre 𝓛 T c y) ((Of 𝓛 T c).args y) ((Of 𝓛 T c).post y) known os (λ v. backˡ t T c y ψ v tt said (k v))

    pub asksˡ_last : K → FmC 𝓤 H 𝓛.laws C → (T : Ended) (c : Clauses 𝓤 T) (y : (Of 𝓛 T c).Ghost) (ψ : Res T.signature y.0.0 → Lasts T y.0.0 y.0.3 → Type 0)
        → ent 𝓤 ((Of 𝓛 T c).pre y) (C f ((Of 𝓛 T c).args y) ((Of 𝓛 T c).post y)) → ent 𝓤 (emp 𝓤) (Req 𝓛 T c y) → Saidˡ 𝓛 T c y ψ
        → Opds K 𝓛 (Pre 𝓛 T c y ∷ Γ) E xs ((Of 𝓛 T c).args y)
        → ((v : Val) (r : Res T.signature y.0.0) (ws : Lasts T y.0.0 y.0.3) → Is (Out 𝓛 T c y) r (v ∷ []) → ψ r ws
        → Seq K 𝓛 (Tok 𝓛 T c y ∷ ‵ (lasts T y.0.0 y.0.3 ws) ∷ Γ) (settles E d v q))
        → Seq K 𝓛 (Tok 𝓛 T c y ∷ Args_own 𝓛 T c y ∷ Γ) (runs C Λ E (call f xs d) q)
    asksˡ_last t fm T c y ψ known req said os k =
        join t $ use0 𝓛 (raw (Req 𝓛 T c y)) req $ move t (1 ∷ 0 ∷ []) $ join t $
        calls_from_last t fm (Pre 𝓛 T c y) ((Of 𝓛 T c).args y) ((Of 𝓛 T c).post y) known os (λ v. backˡ t T c y ψ v tt said (k v))

-- two clauses of `ensures`: said by the function, and heard by its caller
pub says_both : {M : Type 1} (𝓤 : Ura M) (φ ψ : Type 0) → φ → ψ → ent 𝓤 (emp 𝓤) (sep 𝓤 (fact 𝓤 φ) (fact 𝓤 ψ))
says_both 𝓤 φ ψ x y = via 𝓤 (sep 𝓤 (emp 𝓤) (emp 𝓤)) (emp∗ 𝓤 (emp 𝓤)) (mono∗ 𝓤 (fact_i 𝓤 φ (emp 𝓤) x) (fact_i 𝓤 ψ (emp 𝓤) y))

pub hears_both : {M : Type 1} (𝓤 : Ura M) (φ ψ : Type 0) → ent 𝓤 (sep 𝓤 (fact 𝓤 φ) (fact 𝓤 ψ)) (fact 𝓤 (φ × ψ))
hears_both 𝓤 φ ψ =
    fact_use 𝓤 φ (fst∗ 𝓤 (fact 𝓤 φ) (fact 𝓤 ψ)) (λ x. via 𝓤 (fact 𝓤 ψ) (snd∗ 𝓤 (fact 𝓤 φ) (fact 𝓤 ψ)) (fact_mono 𝓤 ψ (φ × ψ) (λ y. (x, y))))
