-- Many entries of the context at once: tokens, what the arguments of a call own, and what is had of its `&mut` arguments after it.
--     tokens_out, tokens_in    the tokens of a list of lifetimes, one by one and as a callee has them
--     gives                    a product, each part from an entry, from a copy of one, or from nothing
--     hears                    a product taken apart; of a last list also that it is as long as before
--     returned                 what a callee gives back: the tokens, and its `&mut` arguments' last lists
use mathlib.Core.Path.{◌≡◌}
use Prim.Native.Nat.{ℕ}
use mathlib.Core.List.{List, [], ◌∷◌}
use seplogic.Ra.Ura.{Ura}
use base.Logic.{SProp, ent, sep, emp, via, assoc∗, assoc', mono_l, mono_r, mono∗, comm∗, emp∗, snd∗}
use base.Fml.{Lft, Share, Fml, ftrue, fsep, flft, feq}
use types.Logic.{Logic, sem}
use types.Kit.{Item, ‵, raw, ⋆, push, pop, Goal, Seq, ◌$◌, drop, move, fsplit, feq_l}

module _ {M : Type 1} {𝓤 : Ura M} (𝓛 : Logic 𝓤) where
  -- ---- tokens
  open 𝓛 use {A}

  abbrev pub alive_of : List (Lft × Share) → SProp 𝓤
  alive_of [] = emp 𝓤
  alive_of (k ∷ ks) = sep 𝓤 (A.lft k.0 k.1) (alive_of ks)

  abbrev pub with_tokens : List (Lft × Share) → List (Item 𝓤) → List (Item 𝓤)
  with_tokens [] Γ = Γ
  with_tokens (k ∷ ks) Γ = ‵ (flft k.0 k.1) ∷ with_tokens ks Γ

  apart : (ks : List (Lft × Share)) (Γ : List (Item 𝓤)) → ent 𝓤 (sep 𝓤 (alive_of ks) (⋆ 𝓛 Γ)) (⋆ 𝓛 (with_tokens ks Γ))
  apart [] Γ = snd∗ 𝓤 (emp 𝓤) (⋆ 𝓛 Γ)
  apart (k ∷ ks) Γ = via 𝓤 (sep 𝓤 (A.lft k.0 k.1) (sep 𝓤 (alive_of ks) (⋆ 𝓛 Γ))) (assoc∗ 𝓤 (A.lft k.0 k.1) (alive_of ks) (⋆ 𝓛 Γ))
      (via 𝓤 (sep 𝓤 (A.lft k.0 k.1) (⋆ 𝓛 (with_tokens ks Γ))) (mono_r 𝓤 (A.lft k.0 k.1) (apart ks Γ)) (push 𝓛 (‵ (flft k.0 k.1)) (with_tokens ks Γ)))

  together : (ks : List (Lft × Share)) (Γ : List (Item 𝓤)) → ent 𝓤 (⋆ 𝓛 (with_tokens ks Γ)) (sep 𝓤 (alive_of ks) (⋆ 𝓛 Γ))
  together [] Γ = emp∗ 𝓤 (⋆ 𝓛 Γ)
  together (k ∷ ks) Γ = via 𝓤 (sep 𝓤 (A.lft k.0 k.1) (⋆ 𝓛 (with_tokens ks Γ))) (pop 𝓛 (‵ (flft k.0 k.1)) (with_tokens ks Γ))
      (via 𝓤 (sep 𝓤 (A.lft k.0 k.1) (sep 𝓤 (alive_of ks) (⋆ 𝓛 Γ))) (mono_r 𝓤 (A.lft k.0 k.1) (together ks Γ)) (assoc' 𝓤 (A.lft k.0 k.1) (alive_of ks) (⋆ 𝓛 Γ)))

  -- ---- a product, and where each part comes from: an entry, what an entry entails, a copy of an entry, nothing; or there is no part
  pub data Source : Type 1 where
    kept : Fml → Source
    turned : (F F' : Fml) → ent 𝓤 (sem 𝓛 F) (sem 𝓛 F') → Source
    copied : (F : Fml) → ent 𝓤 (sem 𝓛 F) (sep 𝓤 (sem 𝓛 F) (sem 𝓛 F)) → Source
    made : (F : Fml) → ent 𝓤 (emp 𝓤) (sem 𝓛 F) → Source
    nothing : Source

  -- the entries that the parts ask for, those that are left, and the product
  abbrev pub asked : List Source → List (Item 𝓤) → List (Item 𝓤)
  asked [] Γ = Γ
  asked (kept F ∷ ss) Γ = ‵ F ∷ asked ss Γ
  asked (turned F F' h ∷ ss) Γ = ‵ F ∷ asked ss Γ
  asked (copied F h ∷ ss) Γ = ‵ F ∷ asked ss Γ
  asked (made F h ∷ ss) Γ = asked ss Γ
  asked (nothing ∷ ss) Γ = asked ss Γ

  abbrev pub left : List Source → List (Item 𝓤) → List (Item 𝓤)
  left [] Γ = Γ
  left (kept F ∷ ss) Γ = left ss Γ
  left (turned F F' h ∷ ss) Γ = left ss Γ
  left (copied F h ∷ ss) Γ = ‵ F ∷ left ss Γ
  left (made F h ∷ ss) Γ = left ss Γ
  left (nothing ∷ ss) Γ = left ss Γ

  abbrev pub product : List Source → Fml
  product [] = ftrue
  product (kept F ∷ ss) = fsep F (product ss)
  product (turned F F' h ∷ ss) = fsep F' (product ss)
  product (copied F h ∷ ss) = fsep F (product ss)
  product (made F h ∷ ss) = fsep F (product ss)
  product (nothing ∷ ss) = fsep ftrue (product ss)

  -- a part X before the product of the others
  before : (X Q R S : SProp 𝓤) → ent 𝓤 S (sep 𝓤 Q R) → ent 𝓤 (sep 𝓤 X S) (sep 𝓤 (sep 𝓤 X Q) R)
  before X Q R S h = via 𝓤 (sep 𝓤 X (sep 𝓤 Q R)) (mono_r 𝓤 X h) (assoc' 𝓤 X Q R)

  drawn : (ss : List Source) (Γ : List (Item 𝓤)) → ent 𝓤 (⋆ 𝓛 (asked ss Γ)) (sep 𝓤 (sem 𝓛 (product ss)) (⋆ 𝓛 (left ss Γ)))
  drawn [] Γ = emp∗ 𝓤 (⋆ 𝓛 Γ)
  drawn (kept F ∷ ss) Γ = via 𝓤 (sep 𝓤 (sem 𝓛 F) (⋆ 𝓛 (asked ss Γ))) (pop 𝓛 (‵ F) (asked ss Γ))
      (before (sem 𝓛 F) (sem 𝓛 (product ss)) (⋆ 𝓛 (left ss Γ)) (⋆ 𝓛 (asked ss Γ)) (drawn ss Γ))
  drawn (turned F F' h ∷ ss) Γ = via 𝓤 (sep 𝓤 (sem 𝓛 F) (⋆ 𝓛 (asked ss Γ))) (pop 𝓛 (‵ F) (asked ss Γ))
      (via 𝓤 (sep 𝓤 (sem 𝓛 F') (⋆ 𝓛 (asked ss Γ))) (mono_l 𝓤 (⋆ 𝓛 (asked ss Γ)) h)
      (before (sem 𝓛 F') (sem 𝓛 (product ss)) (⋆ 𝓛 (left ss Γ)) (⋆ 𝓛 (asked ss Γ)) (drawn ss Γ)))
  drawn (copied F h ∷ ss) Γ = via 𝓤 (sep 𝓤 (sem 𝓛 F) (⋆ 𝓛 (asked ss Γ))) (pop 𝓛 (‵ F) (asked ss Γ))
      (via 𝓤 (sep 𝓤 (sep 𝓤 (sem 𝓛 F) (sem 𝓛 F)) (sep 𝓤 (sem 𝓛 (product ss)) (⋆ 𝓛 (left ss Γ)))) (mono∗ 𝓤 h (drawn ss Γ))
      (via 𝓤 (sep 𝓤 (sep 𝓤 (sem 𝓛 F) (sem 𝓛 (product ss))) (sep 𝓤 (sem 𝓛 F) (⋆ 𝓛 (left ss Γ))))
      (crossed (sem 𝓛 F) (sem 𝓛 F) (sem 𝓛 (product ss)) (⋆ 𝓛 (left ss Γ)))
      (mono_r 𝓤 (sep 𝓤 (sem 𝓛 F) (sem 𝓛 (product ss))) (push 𝓛 (‵ F) (left ss Γ)))))
    where
      crossed : (X Y Q R : SProp 𝓤) → ent 𝓤 (sep 𝓤 (sep 𝓤 X Y) (sep 𝓤 Q R)) (sep 𝓤 (sep 𝓤 X Q) (sep 𝓤 Y R))
      crossed X Y Q R = via 𝓤 (sep 𝓤 X (sep 𝓤 Y (sep 𝓤 Q R))) (assoc∗ 𝓤 X Y (sep 𝓤 Q R))
          (via 𝓤 (sep 𝓤 X (sep 𝓤 Q (sep 𝓤 Y R))) (mono_r 𝓤 X (via 𝓤 (sep 𝓤 (sep 𝓤 Y Q) R) (assoc' 𝓤 Y Q R) (via 𝓤 (sep 𝓤 (sep 𝓤 Q Y) R) (mono_l 𝓤 R (comm∗ 𝓤 Y Q)) (assoc∗ 𝓤 Q Y R))))
          (assoc' 𝓤 X Q (sep 𝓤 Y R)))
  drawn (made F h ∷ ss) Γ = via 𝓤 (sep 𝓤 (emp 𝓤) (⋆ 𝓛 (asked ss Γ))) (emp∗ 𝓤 (⋆ 𝓛 (asked ss Γ)))
      (via 𝓤 (sep 𝓤 (sem 𝓛 F) (⋆ 𝓛 (asked ss Γ))) (mono_l 𝓤 (⋆ 𝓛 (asked ss Γ)) h)
      (before (sem 𝓛 F) (sem 𝓛 (product ss)) (⋆ 𝓛 (left ss Γ)) (⋆ 𝓛 (asked ss Γ)) (drawn ss Γ)))
  drawn (nothing ∷ ss) Γ = via 𝓤 (sep 𝓤 (emp 𝓤) (⋆ 𝓛 (asked ss Γ))) (emp∗ 𝓤 (⋆ 𝓛 (asked ss Γ)))
      (before (emp 𝓤) (sem 𝓛 (product ss)) (⋆ 𝓛 (left ss Γ)) (⋆ 𝓛 (asked ss Γ)) (drawn ss Γ))

module _ {M : Type 1} {𝓤 : Ura M} {K : Type 0} (𝓛 : Logic 𝓤) where
  open 𝓛 use {H}

  pub tokens_out : (ks : List (Lft × Share)) → K → {P : SProp 𝓤} {Γ : List (Item 𝓤)} {G : Goal 𝓤 H} → ent 𝓤 P (alive_of 𝓛 ks) → Seq K 𝓛 (with_tokens 𝓛 ks Γ) G → Seq K 𝓛 (raw P ∷ Γ) G
  tokens_out ks t {P} {Γ} h s = record {
    prf = via 𝓤 (sep 𝓤 P (⋆ 𝓛 Γ)) (pop 𝓛 (raw P) Γ) (via 𝓤 (sep 𝓤 (alive_of 𝓛 ks) (⋆ 𝓛 Γ)) (mono_l 𝓤 (⋆ 𝓛 Γ) h) (via 𝓤 (⋆ 𝓛 (with_tokens 𝓛 ks Γ)) (apart 𝓛 ks Γ) s.prf));
  }

  pub tokens_in : (ks : List (Lft × Share)) (Γ : List (Item 𝓤)) → K → {G : Goal 𝓤 H} (P : SProp 𝓤) → ent 𝓤 (alive_of 𝓛 ks) P → Seq K 𝓛 (raw P ∷ Γ) G → Seq K 𝓛 (with_tokens 𝓛 ks Γ) G
  tokens_in ks Γ t P h s = record {
    prf = via 𝓤 (sep 𝓤 (alive_of 𝓛 ks) (⋆ 𝓛 Γ)) (together 𝓛 ks Γ) (via 𝓤 (sep 𝓤 P (⋆ 𝓛 Γ)) (mono_l 𝓤 (⋆ 𝓛 Γ) h) (via 𝓤 (⋆ 𝓛 (raw P ∷ Γ)) (push 𝓛 (raw P) Γ) s.prf));
  }

  pub gives : (ss : List (Source 𝓛)) (Γ : List (Item 𝓤)) → K → {G : Goal 𝓤 H} → Seq K 𝓛 (‵ (product 𝓛 ss) ∷ left 𝓛 ss Γ) G → Seq K 𝓛 (asked 𝓛 ss Γ) G
  gives ss Γ t s = record {
    prf = via 𝓤 (sep 𝓤 (sem 𝓛 (product 𝓛 ss)) (⋆ 𝓛 (left 𝓛 ss Γ))) (drawn 𝓛 ss Γ) (via 𝓤 (⋆ 𝓛 (‵ (product 𝓛 ss) ∷ left 𝓛 ss Γ)) (push 𝓛 (‵ (product 𝓛 ss)) (left 𝓛 ss Γ)) s.prf);
  }

-- ---- a part of a product: dropped, kept as an entry, or a last list with the equation of its length m with n
pub data Last : Type 1 where
  gone : Fml → Last
  stays : Fml → Last
  final : Fml → ℕ → ℕ → Last

abbrev pub lasts_of : List Last → Fml
lasts_of [] = ftrue
lasts_of (gone F ∷ ls) = fsep F (lasts_of ls)
lasts_of (stays F ∷ ls) = fsep F (lasts_of ls)
lasts_of (final F m n ∷ ls) = fsep (fsep F (feq ℕ m n)) (lasts_of ls)

module _ {M : Type 1} {𝓤 : Ura M} (K : Type 0) (𝓛 : Logic 𝓤) (G : Goal 𝓤 𝓛.H) where
  -- what is to be shown once the product is taken apart
  abbrev pub Heard : List Last → List (Item 𝓤) → Type 1
  Heard [] Γ = Seq K 𝓛 Γ G
  Heard (gone F ∷ ls) Γ = Heard ls Γ
  Heard (stays F ∷ ls) Γ = Heard ls (‵ F ∷ Γ)
  Heard (final F m n ∷ ls) Γ = m ≡ n → Heard ls (‵ F ∷ Γ)

  heard_all : K → (ls : List Last) (Γ : List (Item 𝓤)) → Heard ls Γ → Seq K 𝓛 (‵ (lasts_of ls) ∷ Γ) G
  heard_all t [] Γ k = drop t $ k
  heard_all t (gone F ∷ ls) Γ k = fsplit t $ drop t $ heard_all t ls Γ k
  heard_all t (stays F ∷ ls) Γ k = fsplit t $ move t (1 ∷ []) $ heard_all t ls (‵ F ∷ Γ) k
  heard_all t (final F m n ∷ ls) Γ k = fsplit t $ fsplit t $ move t (1 ∷ []) $ feq_l t (λ e. move t (1 ∷ []) $ heard_all t ls (‵ F ∷ Γ) (k e))

module _ {M : Type 1} {𝓤 : Ura M} {K : Type 0} (𝓛 : Logic 𝓤) where
  open 𝓛 use {H}

  pub hears : (ls : List Last) → K → {Γ : List (Item 𝓤)} {G : Goal 𝓤 H} → Heard K 𝓛 G ls Γ → Seq K 𝓛 (‵ (lasts_of ls) ∷ Γ) G
  hears ls t {Γ} {G} k = heard_all K 𝓛 G t ls Γ k

  pub returned : (ks : List (Lft × Share)) (ls : List Last) → K → {P : SProp 𝓤} {Γ : List (Item 𝓤)} {G : Goal 𝓤 H} → ent 𝓤 P (alive_of 𝓛 ks) → Heard K 𝓛 G ls (with_tokens 𝓛 ks Γ)
      → Seq K 𝓛 (raw P ∷ ‵ (lasts_of ls) ∷ Γ) G
  returned ks ls t {P} {Γ} {G} h k = move t (1 ∷ []) $ record {
    prf =
        via 𝓤 (sep 𝓤 X (⋆ 𝓛 (raw P ∷ Γ))) (pop 𝓛 (‵ (lasts_of ls)) (raw P ∷ Γ))
        (via 𝓤 (sep 𝓤 X (sep 𝓤 P (⋆ 𝓛 Γ))) (mono_r 𝓤 X (pop 𝓛 (raw P) Γ))
        (via 𝓤 (sep 𝓤 X (sep 𝓤 (alive_of 𝓛 ks) (⋆ 𝓛 Γ))) (mono_r 𝓤 X (mono_l 𝓤 (⋆ 𝓛 Γ) h))
        (via 𝓤 (sep 𝓤 X (⋆ 𝓛 (with_tokens 𝓛 ks Γ))) (mono_r 𝓤 X (apart 𝓛 ks Γ))
        (via 𝓤 (⋆ 𝓛 (‵ (lasts_of ls) ∷ with_tokens 𝓛 ks Γ)) (push 𝓛 (‵ (lasts_of ls)) (with_tokens 𝓛 ks Γ)) (heard_all K 𝓛 G t ls (with_tokens 𝓛 ks Γ) k).prf))));
  }
    where
      X : SProp 𝓤
      X = sem 𝓛 (lasts_of ls)
