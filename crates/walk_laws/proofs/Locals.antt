-- A function's locals: at their addresses, and freed in one step at a return.
use mathlib.Core.Path.{◌≡◌, refl, sym, subst, ap}
use Prim.Native.Nat.{ℕ}
use mathlib.Core.List.{List, [], ◌∷◌}
use seplogic.Ra.Ura.{Ura}
use base.Fraction.{full_share}
use mir.Syntax.{Ty, Local, local}
use mir.Val.{Val}
use base.Logic.{SProp, ent, sep, emp, via, emp∗, assoc', mono_l, mono_r, snd∗, comm∗, assoc∗}
use base.Fml.{Fml, ftrue, fsep, fat, froom, fdies}
use prog.Wp.{Env}
use types.Logic.{Logic, sem}
use types.Kit.{Item, ‵, nth, del, pull, push, pop, aim, mean, ⋆, Goal, frees, Seq, Step, step, ◌$◌}
use types.Run.{forget, free1, free0}

-- a function's locals, at their addresses
abbrev pub at_addresses : List Local → List ℕ → List (Ty × ℕ)
at_addresses [] bs = []
at_addresses (local τ h ∷ ls) [] = []
at_addresses (local τ h ∷ ls) (b ∷ bs) = (τ, b) ∷ at_addresses ls bs

module _ {M : Type 1} {𝓤 : Ura M} {𝓛 : Logic 𝓤} {K : Type 0} {Γ : List (Item 𝓤)} where
  -- a local that holds something, at entry n, is freed
  open 𝓛 use {H}

  pub freed : K → (n : ℕ) {τ : Ty} {b : ℕ} {v : Val} {E : Env 𝓤 H} {g : Goal 𝓤 H} → nth 𝓛 n Γ ≡ ‵ (fat full_share τ b 0 v) → nth 𝓛 n (del 𝓛 n Γ) ≡ ‵ (fdies τ b)
      → Step K 𝓛 (del 𝓛 n (del 𝓛 n Γ)) (frees E g) Γ (frees ((τ, b) ∷ E) g)
  freed t n {τ} {b} {v} {E} {g} e e' = step (λ s. record {
    prf =
        via 𝓤 (sep 𝓤 (H.at full_share τ b 0 v) (⋆ 𝓛 (del 𝓛 n Γ)))
        (subst (λ (j : Item 𝓤). ent 𝓤 (⋆ 𝓛 Γ) (sep 𝓤 (mean 𝓛 j) (⋆ 𝓛 (del 𝓛 n Γ)))) e (pull 𝓛 n Γ))
        (via 𝓤 (sep 𝓤 (H.room τ b 0) (⋆ 𝓛 (del 𝓛 n Γ))) (mono_l 𝓤 (⋆ 𝓛 (del 𝓛 n Γ)) (𝓛.laws.at_room τ b 0 v))
        (via 𝓤 (sep 𝓤 (H.room τ b 0) (sep 𝓤 (H.dies τ b) (⋆ 𝓛 (del 𝓛 n (del 𝓛 n Γ)))))
        (mono_r 𝓤 (H.room τ b 0) (subst (λ (j : Item 𝓤). ent 𝓤 (⋆ 𝓛 (del 𝓛 n Γ)) (sep 𝓤 (mean 𝓛 j) (⋆ 𝓛 (del 𝓛 n (del 𝓛 n Γ))))) e' (pull 𝓛 n (del 𝓛 n Γ))))
        (via 𝓤 (sep 𝓤 (sep 𝓤 (H.room τ b 0) (H.dies τ b)) (⋆ 𝓛 (del 𝓛 n (del 𝓛 n Γ)))) (assoc' 𝓤 (H.room τ b 0) (H.dies τ b) (⋆ 𝓛 (del 𝓛 n (del 𝓛 n Γ))))
        (mono_r 𝓤 (sep 𝓤 (H.room τ b 0) (H.dies τ b)) s.prf))));
  })

-- ---- a function's locals are freed in one step: each holds something, or nothing
pub data Local' : Type 0 where
  full : Ty → ℕ → Val → Local'
  bare : Ty → ℕ → Local'

abbrev pub env_of : List Local' → List (Ty × ℕ)
env_of [] = []
env_of (full τ b v ∷ hs) = (τ, b) ∷ env_of hs
env_of (bare τ b ∷ hs) = (τ, b) ∷ env_of hs

abbrev pub items_of : {M : Type 1} (𝓤 : Ura M) → List Local' → List (Item 𝓤) → List (Item 𝓤)
items_of 𝓤 [] Γ = Γ
items_of 𝓤 (full τ b v ∷ hs) Γ = ‵ (fat full_share τ b 0 v) ∷ ‵ (fdies τ b) ∷ items_of 𝓤 hs Γ
items_of 𝓤 (bare τ b ∷ hs) Γ = ‵ (froom τ b 0) ∷ ‵ (fdies τ b) ∷ items_of 𝓤 hs Γ

module _ {M : Type 1} {𝓤 : Ura M} {𝓛 : Logic 𝓤} {K : Type 0} where
  open 𝓛 use {H}

  pub frees_all : K → (hs : List Local') (Γ : List (Item 𝓤)) {g : Goal 𝓤 H} → Step K 𝓛 Γ g (items_of 𝓤 hs Γ) (frees (env_of hs) g)
  frees_all t [] Γ = free0 t
  frees_all t (full τ b v ∷ hs) Γ = step (λ s. forget t 0 refl $ free1 t $ frees_all t hs Γ $ s)
  frees_all t (bare τ b ∷ hs) Γ = step (λ s. free1 t $ frees_all t hs Γ $ s)

-- ---- what says that the locals die is one entry, from the entry to the return: the context is half as long
abbrev pub cell : Local' → Fml
cell (full τ b v) = fat full_share τ b 0 v
cell (bare τ b) = froom τ b 0

abbrev pub died : Local' → Fml
died (full τ b v) = fdies τ b
died (bare τ b) = fdies τ b

pub dies_of : List (Ty × ℕ) → Fml
dies_of [] = ftrue
dies_of (e ∷ es) = fsep (fdies e.0 e.1) (dies_of es)

-- the same by the locals themselves; the inductions below go by these
abbrev dies_in : List Local' → Fml
dies_in [] = ftrue
dies_in (h ∷ hs) = fsep (died h) (dies_in hs)

dies_same : (hs : List Local') → dies_in hs ≡ dies_of (env_of hs)
unfolding dies_of
dies_same [] = refl
dies_same (full τ b v ∷ hs) = ap (λ (F : Fml). fsep (fdies τ b) F) (dies_same hs)
dies_same (bare τ b ∷ hs) = ap (λ (F : Fml). fsep (fdies τ b) F) (dies_same hs)

abbrev pairs_in : {M : Type 1} (𝓤 : Ura M) → List Local' → List (Item 𝓤) → List (Item 𝓤)
pairs_in 𝓤 [] Γ = Γ
pairs_in 𝓤 (h ∷ hs) Γ = ‵ (cell h) ∷ ‵ (died h) ∷ pairs_in 𝓤 hs Γ

pairs_same : {M : Type 1} (𝓤 : Ura M) (hs : List Local') (Γ : List (Item 𝓤)) → pairs_in 𝓤 hs Γ ≡ items_of 𝓤 hs Γ
pairs_same 𝓤 [] Γ = refl
pairs_same 𝓤 (full τ b v ∷ hs) Γ = ap (λ (Δ : List (Item 𝓤)). ‵ (fat full_share τ b 0 v) ∷ ‵ (fdies τ b) ∷ Δ) (pairs_same 𝓤 hs Γ)
pairs_same 𝓤 (bare τ b ∷ hs) Γ = ap (λ (Δ : List (Item 𝓤)). ‵ (froom τ b 0) ∷ ‵ (fdies τ b) ∷ Δ) (pairs_same 𝓤 hs Γ)

abbrev pub cells_of : {M : Type 1} (𝓤 : Ura M) → List Local' → List (Item 𝓤) → List (Item 𝓤)
cells_of 𝓤 [] Γ = Γ
cells_of 𝓤 (h ∷ hs) Γ = ‵ (cell h) ∷ cells_of 𝓤 hs Γ

module _ {M : Type 1} {𝓤 : Ura M} (𝓛 : Logic 𝓤) where
  abbrev Sm : Fml → SProp 𝓤
  Sm φ = sem 𝓛 φ

  abbrev St : List (Item 𝓤) → SProp 𝓤
  St Γ = ⋆ 𝓛 Γ

  swapped : (P Q R : SProp 𝓤) → ent 𝓤 (sep 𝓤 P (sep 𝓤 Q R)) (sep 𝓤 Q (sep 𝓤 P R))
  swapped P Q R = via 𝓤 (sep 𝓤 (sep 𝓤 P Q) R) (assoc' 𝓤 P Q R) (via 𝓤 (sep 𝓤 (sep 𝓤 Q P) R) (mono_l 𝓤 R (comm∗ 𝓤 P Q)) (assoc∗ 𝓤 Q P R))

  put_in : (hs : List Local') (d F : Fml) (Γ : List (Item 𝓤)) → ent 𝓤 (sep 𝓤 (Sm d) (St (cells_of 𝓤 hs (‵ F ∷ Γ)))) (St (cells_of 𝓤 hs (‵ (fsep d F) ∷ Γ)))
  put_in [] d F Γ = via 𝓤 (sep 𝓤 (Sm d) (sep 𝓤 (Sm F) (St Γ))) (mono_r 𝓤 (Sm d) (pop 𝓛 (‵ F) Γ))
      (via 𝓤 (sep 𝓤 (sep 𝓤 (Sm d) (Sm F)) (St Γ)) (assoc' 𝓤 (Sm d) (Sm F) (St Γ)) (push 𝓛 (‵ (fsep d F)) Γ))
  put_in (h ∷ hs) d F Γ =
      via 𝓤 (sep 𝓤 (Sm d) (sep 𝓤 (Sm (cell h)) (St (cells_of 𝓤 hs (‵ F ∷ Γ))))) (mono_r 𝓤 (Sm d) (pop 𝓛 (‵ (cell h)) (cells_of 𝓤 hs (‵ F ∷ Γ))))
      (via 𝓤 (sep 𝓤 (Sm (cell h)) (sep 𝓤 (Sm d) (St (cells_of 𝓤 hs (‵ F ∷ Γ))))) (swapped (Sm d) (Sm (cell h)) (St (cells_of 𝓤 hs (‵ F ∷ Γ))))
      (via 𝓤 (sep 𝓤 (Sm (cell h)) (St (cells_of 𝓤 hs (‵ (fsep d F) ∷ Γ)))) (mono_r 𝓤 (Sm (cell h)) (put_in hs d F Γ)) (push 𝓛 (‵ (cell h)) (cells_of 𝓤 hs (‵ (fsep d F) ∷ Γ)))))

  take_out : (hs : List Local') (d F : Fml) (Γ : List (Item 𝓤)) → ent 𝓤 (St (cells_of 𝓤 hs (‵ (fsep d F) ∷ Γ))) (sep 𝓤 (Sm d) (St (cells_of 𝓤 hs (‵ F ∷ Γ))))
  take_out [] d F Γ = via 𝓤 (sep 𝓤 (sep 𝓤 (Sm d) (Sm F)) (St Γ)) (pop 𝓛 (‵ (fsep d F)) Γ)
      (via 𝓤 (sep 𝓤 (Sm d) (sep 𝓤 (Sm F) (St Γ))) (assoc∗ 𝓤 (Sm d) (Sm F) (St Γ)) (mono_r 𝓤 (Sm d) (push 𝓛 (‵ F) Γ)))
  take_out (h ∷ hs) d F Γ =
      via 𝓤 (sep 𝓤 (Sm (cell h)) (St (cells_of 𝓤 hs (‵ (fsep d F) ∷ Γ)))) (pop 𝓛 (‵ (cell h)) (cells_of 𝓤 hs (‵ (fsep d F) ∷ Γ)))
      (via 𝓤 (sep 𝓤 (Sm (cell h)) (sep 𝓤 (Sm d) (St (cells_of 𝓤 hs (‵ F ∷ Γ))))) (mono_r 𝓤 (Sm (cell h)) (take_out hs d F Γ))
      (via 𝓤 (sep 𝓤 (Sm d) (sep 𝓤 (Sm (cell h)) (St (cells_of 𝓤 hs (‵ F ∷ Γ))))) (swapped (Sm (cell h)) (Sm d) (St (cells_of 𝓤 hs (‵ F ∷ Γ))))
      (mono_r 𝓤 (Sm d) (push 𝓛 (‵ (cell h)) (cells_of 𝓤 hs (‵ F ∷ Γ))))))

  gather : (hs : List Local') (Γ : List (Item 𝓤)) → ent 𝓤 (St (pairs_in 𝓤 hs Γ)) (St (cells_of 𝓤 hs (‵ (dies_in hs) ∷ Γ)))
  gather [] Γ = via 𝓤 (sep 𝓤 (emp 𝓤) (St Γ)) (emp∗ 𝓤 (St Γ)) (push 𝓛 (‵ ftrue) Γ)
  gather (h ∷ hs) Γ =
      via 𝓤 (sep 𝓤 (Sm (cell h)) (St (‵ (died h) ∷ pairs_in 𝓤 hs Γ))) (pop 𝓛 (‵ (cell h)) (‵ (died h) ∷ pairs_in 𝓤 hs Γ))
      (via 𝓤 (sep 𝓤 (Sm (cell h)) (sep 𝓤 (Sm (died h)) (St (pairs_in 𝓤 hs Γ)))) (mono_r 𝓤 (Sm (cell h)) (pop 𝓛 (‵ (died h)) (pairs_in 𝓤 hs Γ)))
      (via 𝓤 (sep 𝓤 (Sm (cell h)) (sep 𝓤 (Sm (died h)) (St (cells_of 𝓤 hs (‵ (dies_in hs) ∷ Γ))))) (mono_r 𝓤 (Sm (cell h)) (mono_r 𝓤 (Sm (died h)) (gather hs Γ)))
      (via 𝓤 (sep 𝓤 (Sm (cell h)) (St (cells_of 𝓤 hs (‵ (fsep (died h) (dies_in hs)) ∷ Γ)))) (mono_r 𝓤 (Sm (cell h)) (put_in hs (died h) (dies_in hs) Γ))
      (push 𝓛 (‵ (cell h)) (cells_of 𝓤 hs (‵ (fsep (died h) (dies_in hs)) ∷ Γ))))))

  spread : (hs : List Local') (Γ : List (Item 𝓤)) → ent 𝓤 (St (cells_of 𝓤 hs (‵ (dies_in hs) ∷ Γ))) (St (pairs_in 𝓤 hs Γ))
  spread [] Γ = via 𝓤 (sep 𝓤 (emp 𝓤) (St Γ)) (pop 𝓛 (‵ ftrue) Γ) (snd∗ 𝓤 (emp 𝓤) (St Γ))
  spread (h ∷ hs) Γ =
      via 𝓤 (sep 𝓤 (Sm (cell h)) (St (cells_of 𝓤 hs (‵ (fsep (died h) (dies_in hs)) ∷ Γ)))) (pop 𝓛 (‵ (cell h)) (cells_of 𝓤 hs (‵ (fsep (died h) (dies_in hs)) ∷ Γ)))
      (via 𝓤 (sep 𝓤 (Sm (cell h)) (sep 𝓤 (Sm (died h)) (St (cells_of 𝓤 hs (‵ (dies_in hs) ∷ Γ))))) (mono_r 𝓤 (Sm (cell h)) (take_out hs (died h) (dies_in hs) Γ))
      (via 𝓤 (sep 𝓤 (Sm (cell h)) (sep 𝓤 (Sm (died h)) (St (pairs_in 𝓤 hs Γ)))) (mono_r 𝓤 (Sm (cell h)) (mono_r 𝓤 (Sm (died h)) (spread hs Γ)))
      (via 𝓤 (sep 𝓤 (Sm (cell h)) (St (‵ (died h) ∷ pairs_in 𝓤 hs Γ))) (mono_r 𝓤 (Sm (cell h)) (push 𝓛 (‵ (died h)) (pairs_in 𝓤 hs Γ))) (push 𝓛 (‵ (cell h)) (‵ (died h) ∷ pairs_in 𝓤 hs Γ)))))

module _ {M : Type 1} {𝓤 : Ura M} {𝓛 : Logic 𝓤} {K : Type 0} where
  -- what it is, is a variable F, so that it stays small
  open 𝓛 use {H}

  pub gathers : K → (hs : List Local') (Γ : List (Item 𝓤)) {G : Goal 𝓤 H} → ((F : Fml) → F ≡ dies_of (env_of hs) → Seq K 𝓛 (cells_of 𝓤 hs (‵ F ∷ Γ)) G) → Seq K 𝓛 (items_of 𝓤 hs Γ) G
  gathers t hs Γ {G} k = record {
    prf = subst (λ (Δ : List (Item 𝓤)). ent 𝓤 (⋆ 𝓛 Δ) (aim 𝓤 H G)) (pairs_same 𝓤 hs Γ)
        (via 𝓤 (⋆ 𝓛 (cells_of 𝓤 hs (‵ (dies_in hs) ∷ Γ))) (gather 𝓛 hs Γ)
        (subst (λ (F : Fml). ent 𝓤 (⋆ 𝓛 (cells_of 𝓤 hs (‵ F ∷ Γ))) (aim 𝓤 H G)) (sym (dies_same hs)) (k (dies_of (env_of hs)) refl).prf));
  }

  pub frees_gathered : K → (hs : List Local') (F : Fml) → F ≡ dies_of (env_of hs) → (Γ : List (Item 𝓤)) {g : Goal 𝓤 H} → Seq K 𝓛 Γ g → Seq K 𝓛 (cells_of 𝓤 hs (‵ F ∷ Γ)) (frees (env_of hs) g)
  frees_gathered t hs F e Γ {g} s = record {
    prf = subst (λ (F' : Fml). ent 𝓤 (⋆ 𝓛 (cells_of 𝓤 hs (‵ F' ∷ Γ))) (aim 𝓤 H (frees (env_of hs) g))) (sym e)
        (subst (λ (F' : Fml). ent 𝓤 (⋆ 𝓛 (cells_of 𝓤 hs (‵ F' ∷ Γ))) (aim 𝓤 H (frees (env_of hs) g))) (dies_same hs)
        (via 𝓤 (⋆ 𝓛 (pairs_in 𝓤 hs Γ)) (spread 𝓛 hs Γ)
        (subst (λ (Δ : List (Item 𝓤)). ent 𝓤 (⋆ 𝓛 Δ) (aim 𝓤 H (frees (env_of hs) g))) (sym (pairs_same 𝓤 hs Γ)) (frees_all t hs Γ $ s).prf)));
  }
