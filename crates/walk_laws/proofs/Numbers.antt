-- What a function knows of the numbers in a slice that it is lent: each fits its width.
--     numbers_fit      what a `&[T]` owns, with its token, updates to itself and that fact; `learns` is it as a rule of a walk
use mathlib.Core.Path.{refl}
use mathlib.Core.List.{List, [], ◌∷◌}
use Prim.Native.Nat.{ℕ, ◌<◌, ◌^◌}
use lib.ListN.{length, get_or}
use lib.Dec.{lit<}
use seplogic.Ra.Ura.{Ura}
use mir.Syntax.{Lifetime, Width, w8, w16, w32, w64, w128}
use mir.Val.{Val, Fits, bits}
use base.Logic.{SProp, ent, sep, guard}
use base.Fml.{Lft, Share, Fml, flft}
use types.Logic.{Logic, sem}
use types.Kit.{Item, Goal, Soaks, Seq, ‵, ◌⊛◌, given, later, ◌$◌, !, qed, use2, drop, split, learn, check, fsplit, fjoin, feq_i, await, updating, now as at_once, done}
use denote.Plain.{UInt}
use denote.Ref.{Bor}
use denote.Slice.{slice_val, ShrSlice}
use borrow.Table.Referent.{f_int}
use borrow.Rule.Slice.Shared.{OwnH}
use borrow.Rule.Slice.Know.{AllWt, fit_at, shs_known}

zero_fits : (w : Width) → Fits w 0
zero_fits w8 = record { fits = lit< tt }
zero_fits w16 = record { fits = lit< tt }
zero_fits w32 = record { fits = lit< tt }
zero_fits w64 = record { fits = lit< tt }
zero_fits w128 = record { fits = lit< tt }

module _ {M : Type 1} {𝓤 : Ura M} (𝓛 : Logic 𝓤) (ℓ : Lifetime) (κ : Lft) (q : Share) (w : Width) (x : Bor (List ℕ)) where
  open 𝓛 use {H, A}

  abbrev Own : Fml
  Own = (ShrSlice ℓ κ (UInt w)).own_val x (slice_val x.ref_ptr (length x.now) ∷ [])

  -- each of them fits
  abbrev pub AllFit : Type 0
  AllFit = (i : ℕ) → get_or x.now i 0 < 2 ^ bits w

  abbrev Kept : SProp 𝓤
  Kept = sep 𝓤 (sem 𝓛 Own) (A.lft κ q)

  abbrev Bare : Fml
  Bare = OwnH 𝓛 (f_int w) κ q x.ref_ptr.0 x.ref_ptr.1 x.now

  pub numbers_fit : ent 𝓤 Kept (H.⇛ (guard 𝓤 AllFit Kept))
  numbers_fit =
      qed 𝓛 (‵ Own ∷ ‵ (flft κ q) ∷ []) {P = H.⇛ (guard 𝓤 AllFit Kept)} (
      updating ! $ fsplit ! $ fsplit ! $ drop ! $ fjoin ! $
      use2 𝓛 (later (given (AllWt (f_int w) x.now) (‵ Bare ⊛ ‵ (flft κ q)))) (shs_known 𝓛 (f_int w) κ q x.ref_ptr.0 x.ref_ptr.1 x.now) $ await ! tt $ learn ! (λ a. split ! $
      fsplit ! $ feq_i ! (List Val) (slice_val x.ref_ptr (length x.now) ∷ []) (slice_val x.ref_ptr (length x.now) ∷ []) refl $ fjoin ! $ fjoin ! $
      at_once ! $ check ! (λ i. (fit_at (f_int w) 0 (zero_fits w) x.now a i).fits) $ done !))

  -- the same as a rule of a walk
  pub learns : {K : Type 0} {Γ : List (Item 𝓤)} {G : Goal 𝓤 H} → K → Soaks G → (AllFit → Seq K 𝓛 (‵ Own ∷ ‵ (flft κ q) ∷ Γ) G) → Seq K 𝓛 (‵ Own ∷ ‵ (flft κ q) ∷ Γ) G
  learns t soaks k = use2 𝓛 (later (given AllFit (‵ Own ⊛ ‵ (flft κ q)))) numbers_fit $ await t soaks $ learn t (λ fit. split t $ k fit)
