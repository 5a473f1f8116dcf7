-- How a walk, a proof that follows a function's code, shows the function's contract, and how it ends.
--     dropped          a function with no `&mut` has nothing of its parameters at exit: what a contract says of a `&`, or of plain data, at exit is nothing (`Silents`)
--     leave, leave_by  the end of a walk: from the tokens and what the result owns, with the `ensures` shown; `leave_by` where there is a `&mut`
--     thin, thick      a walk shows the contract, without and with a `&mut`; `_at`: at one choice of what the triple binds, for a cycle of calls
--     ended_slice      what is said of a `&mut` slice at exit, in one step
use Prim.Native.Nat.{ℕ}
use mathlib.Core.List.{List, [], ◌∷◌}
use seplogic.Ra.Ura.{Ura}
use mir.Syntax.{Lifetime, Fn}
use mir.Val.{Val}
use base.Logic.{SProp, ent, sep, emp, via, id⊢, emp∗, mono_r}
use base.Fml.{Lft, fres}
use denote.Ref.{MutBor, at_last}
use denote.Slice.{MutSlice, finally, res-finally, heres, coded_holeys}
use prog.Wp.{WpFn, Tables}
use types.Logic.{Logic, sem}
use contract.Lifetimes.{Lfts, Shares, AllOutlive}
use types.Kit.{‵, raw, ◌⊛◌, ◌$◌, ◌∵◌, !, qed, by, move, use0, use1, join, suffices, frame, done, fsplit, drop, keep}
use sound.WpLaws.{WpFn-mono}
use denote.RattleType.{RattleType, Denots, Valss, flat}
use denote.Laws.{Are, Ises, Spells, valss, Tellss}
use denote.Signature.{Slot, type_at, types_at}
use denote.Triple.Clauses.{Clauses, Ended, Lasts, at_exit, closing}
use denote.Triple.End.{Kepts, Fins}
use denote.Triple.Entry.{Args, Res, alive, on_entry}
use denote.Triple.Spec.{Meets, triple_of}
use denote.Triple.Walked.{Stays, stay_dropped, Fit, fits_of, has_of, walk_of, Silent, Goes-dropped, AllGo, ends_at, walked, walked_at, walk_Meets, walk_meets_at}

abbrev pub dropped : {n : ℕ} (ss : List (Slot n)) (ks : Kepts ss) → Stays ss ks
dropped [] ks = tt
dropped (s ∷ ss) ks = (stay_dropped s ks.0, dropped ss ks.1)

fit_none : {n : ℕ} (κs : Lfts n) (ss : List (Slot n)) (ks : Kepts ss) (a : Denots (types_at ss κs)) (ws : Fins κs ss ks a) → fits_of κs ss ks (dropped ss ks) a ws
fit_none κs [] ks a ws = tt
fit_none κs (s ∷ ss) ks a ws = (tt, fit_none κs ss ks.1 a.1 ws.1)

module _ {M : Type 1} {𝓤 : Ura M} (𝓛 : Logic 𝓤) where
  open 𝓛 use {H}

  had_none : {n : ℕ} (κs : Lfts n) (ss : List (Slot n)) (ks : Kepts ss) (a : Denots (types_at ss κs)) (ws : Fins κs ss ks a) (vss : Valss (types_at ss κs))
      → ent 𝓤 (emp 𝓤) (sem 𝓛 (has_of κs ss ks (dropped ss ks) a ws vss))
  had_none κs [] ks a ws vss = id⊢ 𝓤 (emp 𝓤)
  had_none κs (s ∷ ss) ks a ws vss = via 𝓤 (sep 𝓤 (emp 𝓤) (emp 𝓤)) (emp∗ 𝓤 (emp 𝓤)) (mono_r 𝓤 (emp 𝓤) (had_none κs ss ks.1 a.1 ws.1 vss.1))

  abbrev pub Silents : (n : ℕ) (ss : List (Slot n)) → Kepts ss → Type 1
  Silents n [] ks = Unit {1}
  Silents n (s ∷ ss) ks = Silent 𝓛 n s ks.0 × Silents n ss ks.1

  go_dropped : (n : ℕ) (ss : List (Slot n)) (ks : Kepts ss) → Silents n ss ks → AllGo 𝓛 n ss ks (dropped ss ks)
  go_dropped n [] ks q = tt
  go_dropped n (s ∷ ss) ks q = (Goes-dropped 𝓛 n s ks.0 q.0, go_dropped n ss ks.1 q.1)

  -- at any choice of what is had of the parameters at exit: a function with a `&mut` has some of it
  module _ (T : Ended) (c : Clauses 𝓤 T) (hs : Stays T.signature.params T.kept) where
    pub leave_by : (y : (walk_of 𝓛 T hs c).Ghost) (v : Val) (r : Res T.signature y.0.0) (ws : Lasts T y.0.0 y.0.3) → Fit T hs y.0.0 y.0.3 ws
        → ent 𝓤 (emp 𝓤) ((c y.0.0 y.0.3).ensures y.1 r (at_exit T y.0.0 y.0.3 ws))
        → ent 𝓤 (sep 𝓤 (alive 𝓛 T.signature y.0.0 y.0.1)
        (sep 𝓤 (sem 𝓛 (has_of y.0.0 T.signature.params T.kept hs y.0.3 ws y.0.4)) (sem 𝓛 ((type_at T.signature.result y.0.0).own_val r (v ∷ [])))))
        ((walk_of 𝓛 T hs c).post y v)
    leave_by y v r ws fits e =
        qed 𝓛 ((raw (alive 𝓛 T.signature y.0.0 y.0.1)
        ⊛ (‵ (has_of y.0.0 T.signature.params T.kept hs y.0.3 ws y.0.4) ⊛ ‵ ((type_at T.signature.result y.0.0).own_val r (v ∷ [])))) ∷ []) ∵
        suffices ! _ (ends_at 𝓛 T hs c y v r ws fits) $ frame ! $ by ! e

    pub thick : AllGo 𝓛 T.signature.lifetimes T.signature.params T.kept hs → (sp : (κs : Lfts T.signature.lifetimes) → Spells (types_at T.signature.params κs))
        → ((κs : Lfts T.signature.lifetimes) → Tellss (types_at T.signature.params κs) (Ises (types_at T.signature.params κs)) (sp κs)) → (fn : Fn) (𝓣 : Tables 𝓤 H)
        → ((κs : Lfts T.signature.lifetimes) (qs : Shares T.signature.lifetimes) (bounds : AllOutlive T.signature.lifetimes T.signature.outlives κs)
        (a : Args T.signature κs) (g : (c κs a).ghost)
        → Are (types_at T.signature.params κs) (Ises (types_at T.signature.params κs)) a (valss (types_at T.signature.params κs) (sp κs) a)
        → ent 𝓤 (sep 𝓤 (on_entry 𝓛 T.signature κs qs a (valss (types_at T.signature.params κs) (sp κs) a)) ((c κs a).requires g))
        (WpFn 𝓤 H 𝓣.C 𝓣.Λ fn (flat (types_at T.signature.params κs) (valss (types_at T.signature.params κs) (sp κs) a))
        ((walk_of 𝓛 T hs c).post ((κs, qs, bounds, a, valss (types_at T.signature.params κs) (sp κs) a), g))))
        → Meets 𝓛 T.signature (WpFn 𝓤 H 𝓣.C 𝓣.Λ fn) (closing 𝓛 T c)
    thick gs sp tl fn 𝓣 k = walk_Meets 𝓛 T hs gs c (WpFn 𝓤 H 𝓣.C 𝓣.Λ fn) (WpFn-mono 𝓤 H 𝓛.laws 𝓣 fn) (walked 𝓛 T hs c (WpFn 𝓤 H 𝓣.C 𝓣.Λ fn) sp tl k)

    pub thick_at : AllGo 𝓛 T.signature.lifetimes T.signature.params T.kept hs → (sp : (κs : Lfts T.signature.lifetimes) → Spells (types_at T.signature.params κs))
        → ((κs : Lfts T.signature.lifetimes) → Tellss (types_at T.signature.params κs) (Ises (types_at T.signature.params κs)) (sp κs))
        → (fn : Fn) (𝓣 : Tables 𝓤 H) (y : (walk_of 𝓛 T hs c).Ghost)
        → (Are (types_at T.signature.params y.0.0) (Ises (types_at T.signature.params y.0.0)) y.0.3 (valss (types_at T.signature.params y.0.0) (sp y.0.0) y.0.3)
        → ent 𝓤 (sep 𝓤 (on_entry 𝓛 T.signature y.0.0 y.0.1 y.0.3 (valss (types_at T.signature.params y.0.0) (sp y.0.0) y.0.3))
        ((c y.0.0 y.0.3).requires y.1))
        (WpFn 𝓤 H 𝓣.C 𝓣.Λ fn (flat (types_at T.signature.params y.0.0) (valss (types_at T.signature.params y.0.0) (sp y.0.0) y.0.3))
        ((walk_of 𝓛 T hs c).post ((y.0.0, y.0.1, y.0.2, y.0.3, valss (types_at T.signature.params y.0.0) (sp y.0.0) y.0.3), y.1))))
        → ent 𝓤 ((triple_of 𝓛 T.signature (closing 𝓛 T c)).pre y)
        (WpFn 𝓤 H 𝓣.C 𝓣.Λ fn ((triple_of 𝓛 T.signature (closing 𝓛 T c)).args y) ((triple_of 𝓛 T.signature (closing 𝓛 T c)).post y))
    thick_at gs sp tl fn 𝓣 y k = walk_meets_at 𝓛 T hs gs c (WpFn 𝓤 H 𝓣.C 𝓣.Λ fn) (WpFn-mono 𝓤 H 𝓛.laws 𝓣 fn) y
        (walked_at 𝓛 T hs c (WpFn 𝓤 H 𝓣.C 𝓣.Λ fn) y (sp y.0.0) (tl y.0.0) k)

  module _ (T : Ended) (c : Clauses 𝓤 T) where
    abbrev hs : Stays T.signature.params T.kept
    hs = dropped T.signature.params T.kept

    -- what a walk has to reach
    abbrev pub Ends : (walk_of 𝓛 T hs c).Ghost → Val → SProp 𝓤
    Ends y = (walk_of 𝓛 T hs c).post y

    pub leave : (y : (walk_of 𝓛 T hs c).Ghost) (v : Val) (r : Res T.signature y.0.0) (ws : Lasts T y.0.0 y.0.3)
        → ent 𝓤 (emp 𝓤) ((c y.0.0 y.0.3).ensures y.1 r (at_exit T y.0.0 y.0.3 ws))
        → ent 𝓤 (sep 𝓤 (alive 𝓛 T.signature y.0.0 y.0.1) (sem 𝓛 ((type_at T.signature.result y.0.0).own_val r (v ∷ [])))) (Ends y v)
    leave y v r ws e =
        qed 𝓛 (raw (alive 𝓛 T.signature y.0.0 y.0.1) ∷ ‵ ((type_at T.signature.result y.0.0).own_val r (v ∷ [])) ∷ []) ∵
        suffices ! _ (ends_at 𝓛 T hs c y v r ws (fit_none y.0.0 T.signature.params T.kept y.0.3 ws)) $
        use0 𝓛 (‵ (has_of y.0.0 T.signature.params T.kept hs y.0.3 ws y.0.4)) (had_none y.0.0 T.signature.params T.kept y.0.3 ws y.0.4) $
        move ! (0 ∷ 2 ∷ []) $ join ! $ move ! (1 ∷ 0 ∷ []) $ join ! $ frame ! $ by ! e

    module _ (silent : Silents T.signature.lifetimes T.signature.params T.kept) (sp : (κs : Lfts T.signature.lifetimes) → Spells (types_at T.signature.params κs))
        (tl : (κs : Lfts T.signature.lifetimes) → Tellss (types_at T.signature.params κs) (Ises (types_at T.signature.params κs)) (sp κs)) (fn : Fn) (𝓣 : Tables 𝓤 H) where
      pub thin : ((κs : Lfts T.signature.lifetimes) (qs : Shares T.signature.lifetimes) (bounds : AllOutlive T.signature.lifetimes T.signature.outlives κs)
          (a : Args T.signature κs) (g : (c κs a).ghost)
          → Are (types_at T.signature.params κs) (Ises (types_at T.signature.params κs)) a (valss (types_at T.signature.params κs) (sp κs) a)
          → ent 𝓤 (sep 𝓤 (on_entry 𝓛 T.signature κs qs a (valss (types_at T.signature.params κs) (sp κs) a)) ((c κs a).requires g))
          (WpFn 𝓤 H 𝓣.C 𝓣.Λ fn (flat (types_at T.signature.params κs) (valss (types_at T.signature.params κs) (sp κs) a))
          (Ends ((κs, qs, bounds, a, valss (types_at T.signature.params κs) (sp κs) a), g))))
          → Meets 𝓛 T.signature (WpFn 𝓤 H 𝓣.C 𝓣.Λ fn) (closing 𝓛 T c)
      thin k = walk_Meets 𝓛 T hs (go_dropped T.signature.lifetimes T.signature.params T.kept silent) c (WpFn 𝓤 H 𝓣.C 𝓣.Λ fn) (WpFn-mono 𝓤 H 𝓛.laws 𝓣 fn)
          (walked 𝓛 T hs c (WpFn 𝓤 H 𝓣.C 𝓣.Λ fn) sp tl k)

      pub thin_at : (y : (walk_of 𝓛 T hs c).Ghost)
          → (Are (types_at T.signature.params y.0.0) (Ises (types_at T.signature.params y.0.0)) y.0.3 (valss (types_at T.signature.params y.0.0) (sp y.0.0) y.0.3)
          → ent 𝓤 (sep 𝓤 (on_entry 𝓛 T.signature y.0.0 y.0.1 y.0.3 (valss (types_at T.signature.params y.0.0) (sp y.0.0) y.0.3))
          ((c y.0.0 y.0.3).requires y.1))
          (WpFn 𝓤 H 𝓣.C 𝓣.Λ fn (flat (types_at T.signature.params y.0.0) (valss (types_at T.signature.params y.0.0) (sp y.0.0) y.0.3))
          (Ends ((y.0.0, y.0.1, y.0.2, y.0.3, valss (types_at T.signature.params y.0.0) (sp y.0.0) y.0.3), y.1))))
          → ent 𝓤 ((triple_of 𝓛 T.signature (closing 𝓛 T c)).pre y)
          (WpFn 𝓤 H 𝓣.C 𝓣.Λ fn ((triple_of 𝓛 T.signature (closing 𝓛 T c)).args y) ((triple_of 𝓛 T.signature (closing 𝓛 T c)).post y))
      thin_at y k = walk_meets_at 𝓛 T hs (go_dropped T.signature.lifetimes T.signature.params T.kept silent) c (WpFn 𝓤 H 𝓣.C 𝓣.Λ fn) (WpFn-mono 𝓤 H 𝓛.laws 𝓣 fn) y
          (walked_at 𝓛 T hs c (WpFn 𝓤 H 𝓣.C 𝓣.Λ fn) y (sp y.0.0) (tl y.0.0) k)

-- what is said of a `&mut` slice at exit, in one step
pub ended_slice : {M : Type 1} {𝓤 : Ura M} (𝓛 : Logic 𝓤) (ℓ : Lifetime) (κ : Lft) (R : RattleType) (x : MutBor (List R.Denot)) (ys : List R.Denot) (vs : List Val)
    → ent 𝓤 (sem 𝓛 ((MutSlice ℓ κ R).own_val (at_last x ys) vs)) (sem 𝓛 (finally R x.ghost_name ys))
ended_slice 𝓛 ℓ κ R x ys vs =
    qed 𝓛 (‵ ((MutSlice ℓ κ R).own_val (at_last x ys) vs) ∷ []) ∵ fsplit ! $ drop ! $ fsplit ! $
    use1 𝓛 (‵ (fres x.ghost_name ((coded_holeys R).code (heres R ys)))) (𝓛.names.obs-res x.ghost_name ((coded_holeys R).code (heres R ys))) $
    use1 𝓛 (‵ (finally R x.ghost_name ys)) (res-finally 𝓛 ℓ κ R x.ghost_name ys) $ keep ! (0 ∷ []) $ done !
