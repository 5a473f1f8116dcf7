-- A `&κ mut [T]` that is lent again for a lifetime κ' of a call, and comes back: `Denote/Lend.antt`'s `lends_again` and `comes_back`, of a slice.
--     LentAgain        what the holder keeps while the slice is lent again under the name γ₁: the lender's part at κ', and its own borrow at κ, open, with both halves of its ghost variable
--     lends_again      own (the `&κ mut [T]` ((b, o), γ, ys)) ∗ [κ]_q  ⊢ ⇛ ∃ γ₁. own (the `&κ' mut [T]` ((b, o), γ₁, ys)) ∗ LentAgain γ₁
--     comes_back       given `Room` and that zs is as long as ys:  [†κ'] ∗ LentAgain γ₁ ∗ finally γ₁ zs  ⊢ ⇛ (own (the `&κ mut [T]` ((b, o), γ, zs)) ∗ [κ]_q)
--     LentShared, shares_again, shared_back    the same where it is lent as a `&κ' [T]`: nothing has to be said of its last value. `shares_again` takes T's law `Shares`, and tokens whose lifetimes' meet is within κ', which come back
--     lends_copied, shares_again_copied        what lies in memory is lent as a `&κ [T]`, and a `&κ mut [T]` as a `&κ' [T]`, with no token, where T is Copy
--     with_token, span_token, span_others, token_in, token_out        the token of a call's lifetime beside those that the law asks for
--     lends, backs, shares, shares_copied, unshares   each as one rule of a walk, with the lifetime of the call begun and ended; `backs` with the local that holds the slice, too
use mathlib.Core.Path.{◌≡◌, refl, sym, ap, subst}
use Prim.Native.Nat.{ℕ}
use mathlib.Core.List.{List, [], ◌∷◌}
use lib.ListN.{length}
use seplogic.Ra.Ura.{Ura}
use base.Fraction.{full_share}
use mir.Syntax.{Lifetime, Ty}
use mir.Val.{Val}
use base.Logic.{ent, sep, ex, emp, id⊢, fst∗, snd∗}
use contract.BorrowLft.{⊑_static, meet_⊑_left, meet_⊑_right}
use denote.Copied.{Copied, each_lends}
use denote.Lends.{Lent-map}
use base.Fml.{Lft, GName, Share, Fml, Incl, Incl-refl, Incl-trans, fat, fsep, flft, fdead, fobs, fauth, flent, fobor, feq, fhide}
use types.Logic.{Logic, sem, lfts}
use types.Kit.{Item, Goal, Soaks, Seq, ‵, raw, ◌⊛◌, some, later, ◌$◌, ◌∵◌, !, qed, move, use0, use1, use2, use3, drop, split, join, pick, rewrite, fsplit, fjoin, feq_i, frame, await, updating, now as at_once, show, done}
use types.SemTy.{cells, Arr}
use types.Share.{arr_parts}
use types.Tokens.{lft_new, lft_end, lent_back}
use denote.RattleType.{RattleType}
use denote.Shadow.{pure_l, pure_i}
use denote.Memory.{mem, shares as shares_of}
use denote.Ref.{Bor, MutBor, at_last}
use denote.Shares.{Shares}
use ghost.Rules.{Toks, span}
use denote.Slice.{slice_val, MutSlice, ShrSlice, heres, Room, finally, elements_shared, shr_slice_at, mut_slice_at, coded_holeys}
use denote.Lend.{Held, LentShrs, lends_slice, lends_shr_slice, slice_back}
use denote.Index.{row, whole_out, whole_in, opens_slice, closes_slice}

module _ (R : RattleType) (κ κ' : Lft) (q : Share) (γ : GName) (b o : ℕ) where
  abbrev at_list : GName → List R.Denot → MutBor (List R.Denot)
  at_list δ ys = record { ref_ptr = (b, o); ghost_name = δ; now = ys }

  abbrev pub LentAgain : GName → List R.Denot → Fml
  LentAgain γ₁ ys = fsep (flent κ' (Held R (length ys) b o γ₁))
      (fsep (fobor κ q (Held R (length ys) b o γ)) (fsep (fobs γ ((coded_holeys R).code (heres R ys))) (fauth γ ((coded_holeys R).code (heres R ys)))))

  module _ {M : Type 1} {𝓤 : Ura M} (𝓛 : Logic 𝓤) (ℓ ℓ' : Lifetime) (ys : List R.Denot) where
    open 𝓛 use {H, A}

    abbrev vals : List Val
    vals = slice_val (b, o) (length ys) ∷ []

    pub lends_again : ent 𝓤 (sep 𝓤 (sem 𝓛 ((MutSlice ℓ κ R).own_val (at_list γ ys) vals)) (A.lft κ q))
        (H.⇛ (ex 𝓤 (λ (γ₁ : GName). sep 𝓤 (sem 𝓛 ((MutSlice ℓ' κ' R).own_val (at_list γ₁ ys) vals)) (sem 𝓛 (LentAgain γ₁ ys)))))
    lends_again =
        qed 𝓛 (‵ ((MutSlice ℓ κ R).own_val (at_list γ ys) vals) ∷ ‵ (flft κ q) ∷ []) ∵ updating ! $ fsplit ! $ pure_l ! (mut_slice_at R (at_list γ ys) vals) (λ p. fsplit ! $ opens_slice ! tt R ys b o $
        use1 𝓛 (‵ (cells (mem R) ys b o)) (whole_in 𝓛 R ys b o) $
        use1 𝓛 (later (some (λ (γ₁ : GName). ‵ ((MutSlice ℓ' κ' R).own_val (at_list γ₁ ys) vals) ⊛ ‵ (flent κ' (Held R (length ys) b o γ₁))))) (lends_slice 𝓛 R ℓ' κ' ys b o p.1) $
        await ! tt $ pick ! (λ γ₁. split ! $
        -- [the new slice; the lender's part at κ'; the open borrow at κ; obs γ; auth γ]
        at_once ! $ show ! (λ (γ' : GName). sep 𝓤 (sem 𝓛 ((MutSlice ℓ' κ' R).own_val (at_list γ' ys) vals)) (sem 𝓛 (LentAgain γ' ys))) γ₁ $ frame ! $
        move ! (2 ∷ 3 ∷ []) $ fjoin ! $ move ! (2 ∷ 0 ∷ []) $ fjoin ! $ move ! (1 ∷ 0 ∷ []) $ fjoin ! $ done !))

    pub comes_back : (γ₁ : GName) (zs : List R.Denot) → Room R (length ys) → length zs ≡ length ys
        → ent 𝓤 (sep 𝓤 (A.dead κ') (sep 𝓤 (sem 𝓛 (LentAgain γ₁ ys)) (sem 𝓛 (finally R γ₁ zs)))) (H.⇛ (sep 𝓤 (sem 𝓛 ((MutSlice ℓ κ R).own_val (at_list γ zs) vals)) (A.lft κ q)))
    comes_back γ₁ zs room e =
        qed 𝓛 (‵ (fdead κ') ∷ ‵ (LentAgain γ₁ ys) ∷ ‵ (finally R γ₁ zs) ∷ []) ∵ updating ! $ move ! (1 ∷ []) $ fsplit ! $ move ! (2 ∷ 0 ∷ 3 ∷ []) $
        use3 𝓛 (later (‵ ((Arr (mem R) (length ys)).own_at zs b o))) (slice_back 𝓛 R κ' γ₁ zs (length ys) b o) $ await ! tt $ fsplit ! $ drop ! $
        use1 𝓛 (‵ (row R full_share zs b o)) (whole_out 𝓛 R zs b o) $
        move ! (1 ∷ []) $ fsplit ! $ move ! (1 ∷ []) $ fsplit ! $ move ! (3 ∷ 2 ∷ 0 ∷ 1 ∷ []) $ closes_slice ! tt R ys zs e b o $ at_once ! $
        fjoin ! $ pure_i ! (mut_slice_at R (at_list γ zs) vals) (tt, (tt, tt)) (ap (λ (m : ℕ). slice_val (b, o) m ∷ []) (sym e), subst (Room R) (sym e) room) $ fjoin ! $ done !

-- ---- lent as a `&κ' [T]`. The share t of ys in memory is lent as a `&κ [T]` with no token, where T is Copy
pub lends_copied : {M : Type 1} {𝓤 : Ura M} (𝓛 : Logic 𝓤) (R : RattleType) → Copied 𝓛 R → (ℓ : Lifetime) (κ : Lft) (t : Share) (ys : List R.Denot) (b o : ℕ) → Room R (length ys)
    → ent 𝓤 (sem 𝓛 ((arr_parts (shares_of R) (length ys)).part t ys b o)) (𝓛.H.⇛ (LentShrs 𝓛 R ℓ κ t ys b o))
lends_copied {𝓤 = 𝓤} 𝓛 R c ℓ κ t ys b o room =
    qed 𝓛 (‵ ((arr_parts (shares_of R) (length ys)).part t ys b o) ∷ []) ∵ updating ! $
    use1 𝓛 (later (‵ (fhide (elements_shared R ys b o κ)) ⊛ ‵ (flent κ ((arr_parts (shares_of R) (length ys)).part t ys b o))))
    (Lent-map 𝓛 ((arr_parts (shares_of R) (length ys)).part t ys b o) (row R t ys b o) (elements_shared R ys b o)
    (snd∗ 𝓤 (sem 𝓛 (feq ℕ (length ys) (length ys))) (sem 𝓛 (row R t ys b o)))
    (qed 𝓛 (‵ (row R t ys b o) ∷ []) ∵ feq_i ! ℕ (length ys) (length ys) refl $ done !) (each_lends 𝓛 R c t ys b o) κ) $ await ! tt $ split ! $ at_once ! $
    pure_i ! (shr_slice_at R (record { ref_ptr = (b, o); now = ys }) (slice_val (b, o) (length ys) ∷ [])) (tt, (tt, tt)) (refl, room) $ fjoin ! $ done !

module _ (R : RattleType) (κ κ' : Lft) (q : Share) (γ : GName) (b o : ℕ) where
  abbrev pub LentShared : List R.Denot → Fml
  LentShared ys = fsep (flent κ' ((arr_parts (shares_of R) (length ys)).part full_share ys b o))
      (fsep (fobor κ q (Held R (length ys) b o γ)) (fsep (fobs γ ((coded_holeys R).code (heres R ys))) (fauth γ ((coded_holeys R).code (heres R ys)))))

  module _ {M : Type 1} {𝓤 : Ura M} (𝓛 : Logic 𝓤) (ℓ ℓ' : Lifetime) (ys : List R.Denot) where
    open 𝓛 use {H, A}

    abbrev valsˢ : List Val
    valsˢ = slice_val (b, o) (length ys) ∷ []

    abbrev at_name : GName → MutBor (List R.Denot)
    at_name δ = record { ref_ptr = (b, o); ghost_name = δ; now = ys }

    abbrev at_place : Bor (List R.Denot)
    at_place = record { ref_ptr = (b, o); now = ys }

    pub shares_again : (l : Lft) → Shares 𝓛 R l → (ts : Toks) → Incl (span ts) l → Incl (span ts) κ'
        → ent 𝓤 (sep 𝓤 (sem 𝓛 ((MutSlice ℓ κ R).own_val (at_name γ) valsˢ)) (sep 𝓤 (A.lft κ q) (lfts 𝓛 ts)))
        (H.⇛ (sep 𝓤 (sep 𝓤 (sem 𝓛 ((ShrSlice ℓ' κ' R).own_val at_place valsˢ)) (sem 𝓛 (LentShared ys))) (lfts 𝓛 ts)))
    shares_again l s ts inc sp =
        qed 𝓛 (‵ ((MutSlice ℓ κ R).own_val (at_name γ) valsˢ) ∷ ‵ (flft κ q) ∷ raw (lfts 𝓛 ts) ∷ []) ∵ updating ! $ fsplit ! $ pure_l ! (mut_slice_at R (at_name γ) valsˢ) (λ p. fsplit ! $ opens_slice ! tt R ys b o $
        feq_i ! ℕ (length ys) (length ys) refl $ fjoin ! $ move ! (0 ∷ 4 ∷ []) $
        use2 𝓛 (later ((‵ ((ShrSlice ℓ' κ' R).own_val at_place valsˢ) ⊛ ‵ (flent κ' ((arr_parts (shares_of R) (length ys)).part full_share ys b o))) ⊛ raw (lfts 𝓛 ts)))
        (lends_shr_slice 𝓛 R ℓ' κ' full_share ys b o p.1 l s ts inc sp) $ await ! tt $ split ! $ split ! $ at_once ! $
        -- [the new slice; the lender's part at κ'; the tokens; the open borrow at κ; obs γ; auth γ]
        move ! (4 ∷ 5 ∷ []) $ fjoin ! $ move ! (4 ∷ 0 ∷ []) $ fjoin ! $ move ! (2 ∷ 0 ∷ []) $ fjoin ! $ move ! (1 ∷ 0 ∷ []) $ join ! $ done !)

    -- with no token, where T is Copy
    pub shares_again_copied : Copied 𝓛 R → ent 𝓤 (sep 𝓤 (sem 𝓛 ((MutSlice ℓ κ R).own_val (at_name γ) valsˢ)) (A.lft κ q))
        (H.⇛ (sep 𝓤 (sem 𝓛 ((ShrSlice ℓ' κ' R).own_val at_place valsˢ)) (sem 𝓛 (LentShared ys))))
    shares_again_copied c =
        qed 𝓛 (‵ ((MutSlice ℓ κ R).own_val (at_name γ) valsˢ) ∷ ‵ (flft κ q) ∷ []) ∵ updating ! $ fsplit ! $ pure_l ! (mut_slice_at R (at_name γ) valsˢ) (λ p. fsplit ! $ opens_slice ! tt R ys b o $
        feq_i ! ℕ (length ys) (length ys) refl $ fjoin ! $
        use1 𝓛 (later (‵ ((ShrSlice ℓ' κ' R).own_val at_place valsˢ) ⊛ ‵ (flent κ' ((arr_parts (shares_of R) (length ys)).part full_share ys b o))))
        (lends_copied 𝓛 R c ℓ' κ' full_share ys b o p.1) $ await ! tt $ split ! $ at_once ! $ frame ! $
        move ! (2 ∷ 3 ∷ []) $ fjoin ! $ move ! (2 ∷ 0 ∷ []) $ fjoin ! $ move ! (1 ∷ 0 ∷ []) $ fjoin ! $ done !)

    pub shared_back : Room R (length ys) → ent 𝓤 (sep 𝓤 (A.dead κ') (sem 𝓛 (LentShared ys))) (H.⇛ (sep 𝓤 (sem 𝓛 ((MutSlice ℓ κ R).own_val (at_name γ) valsˢ)) (A.lft κ q)))
    shared_back room =
        qed 𝓛 (‵ (fdead κ') ∷ ‵ (LentShared ys) ∷ []) ∵ updating ! $ move ! (1 ∷ []) $ fsplit ! $ move ! (2 ∷ 0 ∷ []) $ lent_back ! tt $ fsplit ! $ drop ! $
        move ! (1 ∷ []) $ fsplit ! $ move ! (1 ∷ []) $ fsplit ! $ move ! (3 ∷ 2 ∷ 0 ∷ 1 ∷ []) $ closes_slice ! tt R ys ys refl b o $ at_once ! $
        fjoin ! $ pure_i ! (mut_slice_at R (at_name γ) valsˢ) (tt, (tt, tt)) (refl, room) $ fjoin ! $ done !

-- ---- the token of a call's lifetime ν beside other tokens
abbrev pub with_token : ℕ → Toks → Toks
with_token ν ts = (ν ∷ [], full_share) ∷ ts

pub span_token : (ν : ℕ) (ts : Toks) → Incl (span (with_token ν ts)) (ν ∷ [])
span_token ν [] = Incl-refl (ν ∷ [])
span_token ν (t ∷ ts) = meet_⊑_left (ν ∷ []) (span (t ∷ ts))

pub span_others : (ν : ℕ) (ts : Toks) → Incl (span (with_token ν ts)) (span ts)
span_others ν [] = ⊑_static (ν ∷ [])
span_others ν (t ∷ ts) = meet_⊑_right (ν ∷ []) (span (t ∷ ts))

module _ {M : Type 1} {𝓤 : Ura M} (𝓛 : Logic 𝓤) (ν : ℕ) where
  open 𝓛 use {A}

  pub token_in : (ts : Toks) → ent 𝓤 (sep 𝓤 (A.lft (ν ∷ []) full_share) (lfts 𝓛 ts)) (lfts 𝓛 (with_token ν ts))
  token_in [] = fst∗ 𝓤 (A.lft (ν ∷ []) full_share) (emp 𝓤)
  token_in (t ∷ ts) = id⊢ 𝓤 (lfts 𝓛 (with_token ν (t ∷ ts)))

  pub token_out : (ts : Toks) → ent 𝓤 (lfts 𝓛 (with_token ν ts)) (sep 𝓤 (A.lft (ν ∷ []) full_share) (lfts 𝓛 ts))
  token_out [] = qed 𝓛 (‵ (flft (ν ∷ []) full_share) ∷ []) ∵ use0 𝓛 (raw (emp 𝓤)) (id⊢ 𝓤 (emp 𝓤)) $ move ! (1 ∷ 0 ∷ []) $ done !
  token_out (t ∷ ts) = id⊢ 𝓤 (lfts 𝓛 (with_token ν (t ∷ ts)))

-- ---- as rules of a walk: the slice x of the function, at the list ys, for one call
module _ {M : Type 1} {𝓤 : Ura M} (𝓛 : Logic 𝓤) (R : RattleType) (κ : Lft) (q : Share) (x : MutBor (List R.Denot)) (ℓ ℓ' : Lifetime) (ys : List R.Denot) where
  open 𝓛 use {H}

  abbrev Own : List R.Denot → Item 𝓤
  Own zs = ‵ ((MutSlice ℓ κ R).own_val (at_last x zs) (slice_val x.ref_ptr (length zs) ∷ []))

  abbrev to_callee : GName → MutBor (List R.Denot)
  to_callee δ = record { ref_ptr = x.ref_ptr; ghost_name = δ; now = ys }

  abbrev shared : Bor (List R.Denot)
  shared = record { ref_ptr = x.ref_ptr; now = ys }

  abbrev Owed : ℕ → GName → Fml
  Owed ν δ = LentAgain R κ (ν ∷ []) q x.ghost_name x.ref_ptr.0 x.ref_ptr.1 δ ys

  abbrev Owedˢ : ℕ → Fml
  Owedˢ ν = LentShared R κ (ν ∷ []) q x.ghost_name x.ref_ptr.0 x.ref_ptr.1 ys

  module _ {K : Type 0} {Γ : List (Item 𝓤)} {G : Goal 𝓤 H} where
    pub lends : K → Soaks G
        → ((ν : ℕ) (δ : GName) → Seq K 𝓛 (‵ ((MutSlice ℓ' (ν ∷ []) R).own_val (to_callee δ) (slice_val x.ref_ptr (length ys) ∷ [])) ∷ ‵ (Owed ν δ) ∷ ‵ (flft (ν ∷ []) full_share) ∷ Γ) G)
        → Seq K 𝓛 (Own ys ∷ ‵ (flft κ q) ∷ Γ) G
    lends t soaks k = lft_new t soaks (λ ν. move t (1 ∷ 2 ∷ []) $
        use2 𝓛 (later (some (λ (δ : GName). ‵ ((MutSlice ℓ' (ν ∷ []) R).own_val (to_callee δ) (slice_val x.ref_ptr (length ys) ∷ [])) ⊛ ‵ (Owed ν δ))))
        (lends_again R κ (ν ∷ []) q x.ghost_name x.ref_ptr.0 x.ref_ptr.1 𝓛 ℓ ℓ' ys) $ await t soaks $ pick t (λ δ. split t $ k ν δ))

    pub shares : K → Soaks G → (l : Lft) → Shares 𝓛 R l → (ts : Toks) → Incl (span ts) l
        → ((ν : ℕ) → Seq K 𝓛 (‵ ((ShrSlice ℓ' (ν ∷ []) R).own_val shared (slice_val x.ref_ptr (length ys) ∷ [])) ∷ ‵ (Owedˢ ν) ∷ ‵ (flft (ν ∷ []) full_share) ∷ raw (lfts 𝓛 ts) ∷ Γ) G)
        → Seq K 𝓛 (Own ys ∷ ‵ (flft κ q) ∷ raw (lfts 𝓛 ts) ∷ Γ) G
    shares t soaks l s ts inc k = lft_new t soaks (λ ν. move t (0 ∷ 3 ∷ []) $ use2 𝓛 (raw (lfts 𝓛 (with_token ν ts))) (token_in 𝓛 ν ts) $ move t (1 ∷ 2 ∷ 0 ∷ []) $
        use3 𝓛 (later ((‵ ((ShrSlice ℓ' (ν ∷ []) R).own_val shared (slice_val x.ref_ptr (length ys) ∷ [])) ⊛ ‵ (Owedˢ ν)) ⊛ raw (lfts 𝓛 (with_token ν ts))))
        (shares_again R κ (ν ∷ []) q x.ghost_name x.ref_ptr.0 x.ref_ptr.1 𝓛 ℓ ℓ' ys l s (with_token ν ts) (Incl-trans (span_others ν ts) inc) (span_token ν ts)) $ await t soaks $
        split t $ split t $ move t (2 ∷ []) $ use1 𝓛 (‵ (flft (ν ∷ []) full_share) ⊛ raw (lfts 𝓛 ts)) (token_out 𝓛 ν ts) $ split t $ move t (2 ∷ 3 ∷ []) $ k ν)

    -- with no token, where T is Copy
    pub shares_copied : K → Soaks G → Copied 𝓛 R
        → ((ν : ℕ) → Seq K 𝓛 (‵ ((ShrSlice ℓ' (ν ∷ []) R).own_val shared (slice_val x.ref_ptr (length ys) ∷ [])) ∷ ‵ (Owedˢ ν) ∷ ‵ (flft (ν ∷ []) full_share) ∷ Γ) G)
        → Seq K 𝓛 (Own ys ∷ ‵ (flft κ q) ∷ Γ) G
    shares_copied t soaks c k = lft_new t soaks (λ ν. move t (1 ∷ 2 ∷ []) $
        use2 𝓛 (later (‵ ((ShrSlice ℓ' (ν ∷ []) R).own_val shared (slice_val x.ref_ptr (length ys) ∷ [])) ⊛ ‵ (Owedˢ ν)))
        (shares_again_copied R κ (ν ∷ []) q x.ghost_name x.ref_ptr.0 x.ref_ptr.1 𝓛 ℓ ℓ' ys c) $ await t soaks $ split t $ k ν)

    pub backs : K → Soaks G → {ν : ℕ} {δ : GName} {τ : Ty} {l : ℕ} (zs : List R.Denot) → Room R (length ys) → length zs ≡ length ys
        → Seq K 𝓛 (Own zs ∷ ‵ (flft κ q) ∷ ‵ (fat full_share τ l 0 (slice_val x.ref_ptr (length zs))) ∷ Γ) G
        → Seq K 𝓛 (‵ (flft (ν ∷ []) full_share) ∷ ‵ (Owed ν δ) ∷ ‵ (finally R δ zs) ∷ ‵ (fat full_share τ l 0 (slice_val x.ref_ptr (length ys))) ∷ Γ) G
    backs t soaks {ν} {δ} {τ} {l} zs room e s = lft_end t soaks $
        use3 𝓛 (later (‵ ((MutSlice ℓ κ R).own_val (at_last x zs) (slice_val x.ref_ptr (length ys) ∷ [])) ⊛ ‵ (flft κ q)))
        (comes_back R κ (ν ∷ []) q x.ghost_name x.ref_ptr.0 x.ref_ptr.1 𝓛 ℓ ℓ' ys δ zs room e) $ await t soaks $ split t $
        rewrite t 0 (λ (m : ℕ). ‵ ((MutSlice ℓ κ R).own_val (at_last x zs) (slice_val x.ref_ptr m ∷ []))) (sym e) refl $
        rewrite t 2 (λ (m : ℕ). ‵ (fat full_share τ l 0 (slice_val x.ref_ptr m))) (sym e) refl $ s

    pub unshares : K → Soaks G → {ν : ℕ} → Room R (length ys) → Seq K 𝓛 (Own ys ∷ ‵ (flft κ q) ∷ Γ) G → Seq K 𝓛 (‵ (flft (ν ∷ []) full_share) ∷ ‵ (Owedˢ ν) ∷ Γ) G
    unshares t soaks {ν} room s = lft_end t soaks $ use2 𝓛 (later (Own ys ⊛ ‵ (flft κ q))) (shared_back R κ (ν ∷ []) q x.ghost_name x.ref_ptr.0 x.ref_ptr.1 𝓛 ℓ ℓ' ys room) $
        await t soaks $ split t $ s
