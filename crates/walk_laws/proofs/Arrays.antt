-- A local array of n elements that is lent as a slice for a lifetime κ' of a call, and comes back.
--     lends_local, local_back      as a `&κ' mut [T]`: it comes back at the last list, at some machine value
--     shares-local, shared_local_back      as a `&κ' [T]`: it comes back as it was. `shares-local` takes T's law `Shares`, and tokens whose lifetimes' meet is within κ', which come back
--     shares_local_copied          the same with no token, where T is Copy
--     lends, backs, shares, shares_copied, unshares       each as one rule of a walk, with the lifetime of the call begun and ended
use mathlib.Core.Path.{◌≡◌, refl, ◌∙◌}
use Prim.Native.Nat.{ℕ}
use mathlib.Core.List.{List, [], ◌∷◌}
use lib.ListN.{length}
use seplogic.Ra.Ura.{Ura}
use base.Fraction.{full_share}
use mir.Syntax.{Lifetime, Ty, ty_array}
use mir.Val.{Val, vstruct, of_list}
use base.Logic.{SProp, ent, sep, ex}
use base.Fml.{Lft, GName, Incl, Incl-trans, fsep, fat, flft, fdead, flent}
use types.Logic.{Logic, sem, lfts}
use types.Kit.{Item, Goal, Soaks, Seq, ‵, raw, ◌⊛◌, some, later, ◌$◌, ◌∵◌, !, qed, by, move, use1, use2, use3, drop, split, join, pick, rewrite, fsplit, fjoin, fpick, fpack, feq_l, feq_i, await, updating, now as at_once, show, done}
use types.Tokens.{lft_new, lft_end, lent_back}
use types.SemTy.{cells, Arr}
use types.Share.{arr_parts}
use denote.RattleType.{RattleType}
use denote.Laws.{Is, shows}
use denote.Memory.{cell_at, lone, part_at, mem, shares as shares_of, part_of}
use denote.Array.{Array}
use denote.ArrayMemory.{Single, Array-apart, Array-whole}
use denote.Ref.{Bor, MutBor}
use denote.Shares.{Shares}
use denote.Copied.{Copied}
use ghost.Rules.{Toks, span}
use Rattle.walk_laws.proofs.Again.{lends_copied, with_token, span_token, span_others, token_in, token_out}
use denote.Slice.{slice_val, MutSlice, ShrSlice, Room, finally}
use denote.Lend.{Held, lends_slice, lends_shr_slice, slice_back}
use denote.Index.{row, whole_out, whole_in}
use denote.Steps.{peeks}

module _ {M : Type 1} {𝓤 : Ura M} (𝓛 : Logic 𝓤) (R : RattleType) (one : Single R.mir) (n l : ℕ) where
  open 𝓛 use {H, A}

  abbrev X : Type 0
  X = R.Denot

  abbrev pub τ : Ty
  τ = ty_array (lone R.mir) n

  -- the local holds v, which is xs
  abbrev pub Holds : List X → Val → SProp 𝓤
  Holds xs v = sep 𝓤 (H.at full_share τ l 0 v) (sem 𝓛 ((Array R n).own_val xs (v ∷ [])))

  local-apart : (xs : List X) (v : Val) → ent 𝓤 (Holds xs v) (sem 𝓛 ((arr_parts (shares_of R) n).part full_share xs l 0))
  unfolding part_of
  local-apart xs v =
      qed 𝓛 (‵ (fat full_share τ l 0 v) ∷ ‵ ((Array R n).own_val xs (v ∷ [])) ∷ []) ∵ use1 𝓛 (‵ (cell_at full_share (Array R n).mir (v ∷ []) l 0)) (𝓛.laws.at_raw full_share τ l 0 v) $ fjoin ! $
      fpack ! (List Val) (λ us. fsep (cell_at full_share (Array R n).mir us l 0) ((Array R n).own_val xs us)) (v ∷ []) $ by ! (Array-apart 𝓛 R full_share one n xs l 0)

  local-whole : (xs : List X) → ent 𝓤 (sem 𝓛 ((arr_parts (shares_of R) n).part full_share xs l 0)) (ex 𝓤 (Holds xs))
  unfolding part_of
  local-whole xs =
      qed 𝓛 (‵ ((arr_parts (shares_of R) n).part full_share xs l 0) ∷ []) ∵ use1 𝓛 (‵ (part_at (Array R n) full_share xs l 0)) (Array-whole 𝓛 R full_share n xs l 0) $
      fpick ! (λ vs. fsplit ! $ move ! (1 ∷ []) $ peeks ! (Array R n) (Is (Array R n)) (shows 𝓛 (Array R n)) xs vs (λ p.
      rewrite ! 0 (λ (us : List Val). ‵ ((Array R n).own_val xs us)) p.1.0.0 refl $ rewrite ! 1 (λ (us : List Val). ‵ (cell_at full_share (Array R n).mir us l 0)) p.1.0.0 refl $ move ! (1 ∷ []) $
      use1 𝓛 (‵ (fat full_share τ l 0 (vstruct (of_list p.0)))) (𝓛.laws.raw_at full_share τ l 0 _) $
      show ! (Holds xs) (vstruct (of_list p.0)) $ done !))

  abbrev as_slice : GName → List X → MutBor (List X)
  as_slice γ xs = record { ref_ptr = (l, 0); ghost_name = γ; now = xs }

  abbrev pub Lentˡ : Lifetime → Lft → List X → GName → SProp 𝓤
  Lentˡ ℓ κ' xs γ = sep 𝓤 (sem 𝓛 ((MutSlice ℓ κ' R).own_val (as_slice γ xs) (slice_val (l, 0) (length xs) ∷ []))) (sem 𝓛 (flent κ' (Held R (length xs) l 0 γ)))

  pub lends_local : (ℓ : Lifetime) (κ' : Lft) (xs : List X) (v : Val) → Room R (length xs) → ent 𝓤 (Holds xs v) (H.⇛ (ex 𝓤 (Lentˡ ℓ κ' xs)))
  lends_local ℓ κ' xs v room =
      qed 𝓛 ((raw (H.at full_share τ l 0 v) ⊛ ‵ ((Array R n).own_val xs (v ∷ []))) ∷ []) ∵ use1 𝓛 (‵ ((arr_parts (shares_of R) n).part full_share xs l 0)) (local-apart xs v) $ fsplit ! $ drop ! $
      use1 𝓛 (‵ (cells (mem R) xs l 0)) (whole_in 𝓛 R xs l 0) $ by ! (lends_slice 𝓛 R ℓ κ' xs l 0 room)

  pub local_back : (κ' : Lft) (γ : GName) (xs zs : List X) → length xs ≡ n
      → ent 𝓤 (sep 𝓤 (A.dead κ') (sep 𝓤 (A.lent κ' (Held R (length xs) l 0 γ)) (sem 𝓛 (finally R γ zs)))) (H.⇛ (ex 𝓤 (Holds zs)))
  local_back κ' γ xs zs e =
      qed 𝓛 (‵ (fdead κ') ∷ ‵ (flent κ' (Held R (length xs) l 0 γ)) ∷ ‵ (finally R γ zs) ∷ []) ∵ updating ! $
      use3 𝓛 (later (‵ ((Arr (mem R) (length xs)).own_at zs l 0))) (slice_back 𝓛 R κ' γ zs (length xs) l 0) $ await ! tt $ at_once ! $ fsplit ! $ feq_l ! (λ e'.
      use1 𝓛 (‵ (row R full_share zs l 0)) (whole_out 𝓛 R zs l 0) $ feq_i ! ℕ (length zs) n (e' ∙ e) $ fjoin ! $ by ! (local-whole zs))

  abbrev as_shared : List X → Bor (List X)
  as_shared xs = record { ref_ptr = (l, 0); now = xs }

  abbrev pub Sharedˡ : Lifetime → Lft → List X → SProp 𝓤
  Sharedˡ ℓ κ' xs = sep 𝓤 (sem 𝓛 ((ShrSlice ℓ κ' R).own_val (as_shared xs) (slice_val (l, 0) (length xs) ∷ []))) (sem 𝓛 (flent κ' ((arr_parts (shares_of R) (length xs)).part full_share xs l 0)))

  pub shares-local : (ℓ : Lifetime) (κ' : Lft) (xs : List X) (v : Val) → Room R (length xs) → (k : Lft) → Shares 𝓛 R k → (ts : Toks) → Incl (span ts) k → Incl (span ts) κ'
      → ent 𝓤 (sep 𝓤 (Holds xs v) (lfts 𝓛 ts)) (H.⇛ (sep 𝓤 (Sharedˡ ℓ κ' xs) (lfts 𝓛 ts)))
  shares-local ℓ κ' xs v room k s ts inc sp =
      qed 𝓛 ((raw (H.at full_share τ l 0 v) ⊛ ‵ ((Array R n).own_val xs (v ∷ []))) ∷ raw (lfts 𝓛 ts) ∷ []) ∵ use1 𝓛 (‵ ((arr_parts (shares_of R) n).part full_share xs l 0)) (local-apart xs v) $ fsplit ! $ drop ! $
      feq_i ! ℕ (length xs) (length xs) refl $ fjoin ! $ by ! (lends_shr_slice 𝓛 R ℓ κ' full_share xs l 0 room k s ts inc sp)

  -- with no token, where T is Copy
  pub shares_local_copied : Copied 𝓛 R → (ℓ : Lifetime) (κ' : Lft) (xs : List X) (v : Val) → Room R (length xs) → ent 𝓤 (Holds xs v) (H.⇛ (Sharedˡ ℓ κ' xs))
  shares_local_copied c ℓ κ' xs v room =
      qed 𝓛 ((raw (H.at full_share τ l 0 v) ⊛ ‵ ((Array R n).own_val xs (v ∷ []))) ∷ []) ∵ use1 𝓛 (‵ ((arr_parts (shares_of R) n).part full_share xs l 0)) (local-apart xs v) $ fsplit ! $ drop ! $
      feq_i ! ℕ (length xs) (length xs) refl $ fjoin ! $ by ! (lends_copied 𝓛 R c ℓ κ' full_share xs l 0 room)

  pub shared_local_back : (κ' : Lft) (xs : List X) → length xs ≡ n → ent 𝓤 (sep 𝓤 (A.dead κ') (A.lent κ' ((arr_parts (shares_of R) (length xs)).part full_share xs l 0))) (H.⇛ (ex 𝓤 (Holds xs)))
  shared_local_back κ' xs e =
      qed 𝓛 (‵ (fdead κ') ∷ ‵ (flent κ' ((arr_parts (shares_of R) (length xs)).part full_share xs l 0)) ∷ []) ∵ updating ! $ lent_back ! tt $ at_once ! $ fsplit ! $ drop ! $
      feq_i ! ℕ (length xs) n e $ fjoin ! $ by ! (local-whole xs)

-- ---- as rules of a walk: the local array at l, which holds xs, for one call
module _ {M : Type 1} {𝓤 : Ura M} (𝓛 : Logic 𝓤) (R : RattleType) (one : Single R.mir) (n l : ℕ) (ℓ : Lifetime) (xs : List R.Denot) where
  open 𝓛 use {H}

  abbrev Cell : Val → Item 𝓤
  Cell v = ‵ (fat full_share (ty_array (lone R.mir) n) l 0 v)

  abbrev Elements : List R.Denot → Val → Item 𝓤
  Elements zs v = ‵ ((Array R n).own_val zs (v ∷ []))

  abbrev to_callee : GName → MutBor (List R.Denot)
  to_callee δ = record { ref_ptr = (l, 0); ghost_name = δ; now = xs }

  abbrev shared : Bor (List R.Denot)
  shared = record { ref_ptr = (l, 0); now = xs }

  module _ {K : Type 0} {Γ : List (Item 𝓤)} {G : Goal 𝓤 H} where
    pub lends : K → Soaks G → {v : Val} → Room R (length xs)
        → ((ν : ℕ) (δ : GName) → Seq K 𝓛 (‵ ((MutSlice ℓ (ν ∷ []) R).own_val (to_callee δ) (slice_val (l, 0) (length xs) ∷ [])) ∷ ‵ (flent (ν ∷ []) (Held R (length xs) l 0 δ)) ∷ ‵ (flft (ν ∷ []) full_share) ∷ Γ) G)
        → Seq K 𝓛 (Cell v ∷ Elements xs v ∷ Γ) G
    lends t soaks {v} room k = lft_new t soaks (λ ν. move t (1 ∷ 2 ∷ []) $
        use2 𝓛 (later (some (λ (δ : GName). ‵ ((MutSlice ℓ (ν ∷ []) R).own_val (to_callee δ) (slice_val (l, 0) (length xs) ∷ [])) ⊛ ‵ (flent (ν ∷ []) (Held R (length xs) l 0 δ)))))
        (lends_local 𝓛 R one n l ℓ (ν ∷ []) xs v room) $ await t soaks $ pick t (λ δ. split t $ k ν δ))

    pub shares : K → Soaks G → {v : Val} → Room R (length xs) → (k : Lft) → Shares 𝓛 R k → (ts : Toks) → Incl (span ts) k
        → ((ν : ℕ) → Seq K 𝓛 (‵ ((ShrSlice ℓ (ν ∷ []) R).own_val shared (slice_val (l, 0) (length xs) ∷ [])) ∷ ‵ (flent (ν ∷ []) ((arr_parts (shares_of R) (length xs)).part full_share xs l 0))
        ∷ ‵ (flft (ν ∷ []) full_share) ∷ raw (lfts 𝓛 ts) ∷ Γ) G)
        → Seq K 𝓛 (Cell v ∷ Elements xs v ∷ raw (lfts 𝓛 ts) ∷ Γ) G
    shares t soaks {v} room k s ts inc next = lft_new t soaks (λ ν. move t (0 ∷ 3 ∷ []) $ use2 𝓛 (raw (lfts 𝓛 (with_token ν ts))) (token_in 𝓛 ν ts) $ move t (1 ∷ 2 ∷ []) $ join t $ move t (0 ∷ 1 ∷ []) $
        use2 𝓛 (later ((‵ ((ShrSlice ℓ (ν ∷ []) R).own_val shared (slice_val (l, 0) (length xs) ∷ [])) ⊛ ‵ (flent (ν ∷ []) ((arr_parts (shares_of R) (length xs)).part full_share xs l 0))) ⊛ raw (lfts 𝓛 (with_token ν ts))))
        (shares-local 𝓛 R one n l ℓ (ν ∷ []) xs v room k s (with_token ν ts) (Incl-trans (span_others ν ts) inc) (span_token ν ts)) $ await t soaks $
        split t $ split t $ move t (2 ∷ []) $ use1 𝓛 (‵ (flft (ν ∷ []) full_share) ⊛ raw (lfts 𝓛 ts)) (token_out 𝓛 ν ts) $ split t $ move t (2 ∷ 3 ∷ []) $ next ν)

    -- with no token, where T is Copy
    pub shares_copied : K → Soaks G → Copied 𝓛 R → {v : Val} → Room R (length xs)
        → ((ν : ℕ) → Seq K 𝓛 (‵ ((ShrSlice ℓ (ν ∷ []) R).own_val shared (slice_val (l, 0) (length xs) ∷ [])) ∷ ‵ (flent (ν ∷ []) ((arr_parts (shares_of R) (length xs)).part full_share xs l 0))
        ∷ ‵ (flft (ν ∷ []) full_share) ∷ Γ) G)
        → Seq K 𝓛 (Cell v ∷ Elements xs v ∷ Γ) G
    shares_copied t soaks c {v} room next = lft_new t soaks (λ ν. move t (1 ∷ 2 ∷ []) $
        use2 𝓛 (later (‵ ((ShrSlice ℓ (ν ∷ []) R).own_val shared (slice_val (l, 0) (length xs) ∷ [])) ⊛ ‵ (flent (ν ∷ []) ((arr_parts (shares_of R) (length xs)).part full_share xs l 0))))
        (shares_local_copied 𝓛 R one n l c ℓ (ν ∷ []) xs v room) $ await t soaks $ split t $ next ν)

    pub backs : K → Soaks G → {ν : ℕ} {δ : GName} (zs : List R.Denot) → length xs ≡ n → ((v : Val) → Seq K 𝓛 (Cell v ∷ Elements zs v ∷ Γ) G)
        → Seq K 𝓛 (‵ (flft (ν ∷ []) full_share) ∷ ‵ (flent (ν ∷ []) (Held R (length xs) l 0 δ)) ∷ ‵ (finally R δ zs) ∷ Γ) G
    backs t soaks {ν} {δ} zs e k = lft_end t soaks $ use3 𝓛 (later (some (λ (v : Val). Cell v ⊛ Elements zs v))) (local_back 𝓛 R one n l (ν ∷ []) δ xs zs e) $
        await t soaks $ pick t (λ v. split t $ k v)

    pub unshares : K → Soaks G → {ν : ℕ} → length xs ≡ n → ((v : Val) → Seq K 𝓛 (Cell v ∷ Elements xs v ∷ Γ) G)
        → Seq K 𝓛 (‵ (flft (ν ∷ []) full_share) ∷ ‵ (flent (ν ∷ []) ((arr_parts (shares_of R) (length xs)).part full_share xs l 0)) ∷ Γ) G
    unshares t soaks {ν} e k = lft_end t soaks $ use2 𝓛 (later (some (λ (v : Val). Cell v ⊛ Elements xs v))) (shared_local_back 𝓛 R one n l (ν ∷ []) xs e) $
        await t soaks $ pick t (λ v. split t $ k v)
