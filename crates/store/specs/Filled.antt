-- Memory is the bytes of the entries that it holds, and then what they leave. These laws stand here and not in the proofs, since the law that
-- a store's names give back its memory takes them.
use mathlib.Core.Path.{◌≡◌, refl, sym, ap, ◌∙◌}
use mathlib.Core.List.{List, [], ◌∷◌, ◌++◌, append_assoc}
use Prim.Native.Nat.{ℕ, zero, suc, ◌+◌, ◌≤◌}
use native.Mathlib.Omega.{arith}
use lib.ListN.{length, take, drop, length-append, length-drop, take-append-drop}
use lib.Seq.{drop-drop, length-take-le}
use Rattle.model.specs.Store.{Store}
use Rattle.store.specs.Memory.{held, extent, packed, Kept}
use Rattle.store.specs.declared.Index.{Index}

pub packs : (k : ℕ) (s : List ℕ) → extent k s ≤ length s → s ≡ packed (held k s) ++ drop (extent k s) s
unfolding held extent packed
packs zero s h = refl
packs (suc k) [] h = absurd (omega arith)
packs (suc k) (n ∷ []) h = absurd (omega arith)
packs (suc k) (n ∷ t ∷ s) h =
    let r : List ℕ = drop t (drop n s) in
    let P : List ℕ = packed (held k r) in
    let E : ℕ = extent k r in
    let l1 = length-drop n s in
    let l2 = length-drop t (drop n s) in
    let ih : r ≡ P ++ drop E r = packs k r (omega arith) in
    let ln : length (take n s) ≡ n = length-take-le n s (omega arith) in
    let lt : length (take t (drop n s)) ≡ t = length-take-le t (drop n s) (omega arith) in
    let z : 2 + n + t + E ≡ suc (suc (n + t + E)) = omega arith in
    let d : drop (2 + n + t + E) (n ∷ t ∷ s) ≡ drop E r =
    ap (λ (i : ℕ). drop i (n ∷ t ∷ s)) z ∙ sym (drop-drop E (n + t) s) ∙ ap (λ (x : List ℕ). drop E x) (sym (drop-drop t n s)) in
    let b : s ≡ (take n s ++ (take t (drop n s) ++ P)) ++ drop (2 + n + t + E) (n ∷ t ∷ s) =
    sym (take-append-drop n s)
    ∙ ap (λ (x : List ℕ). take n s ++ x) (sym (take-append-drop t (drop n s)))
    ∙ ap (λ (x : List ℕ). take n s ++ (take t (drop n s) ++ x)) (ih ∙ ap (λ (x : List ℕ). P ++ x) (sym d))
    ∙ sym (append_assoc (take n s) (take t (drop n s) ++ P) (drop (2 + n + t + E) (n ∷ t ∷ s))
    ∙ ap (λ (x : List ℕ). take n s ++ x) (append_assoc (take t (drop n s)) P (drop (2 + n + t + E) (n ∷ t ∷ s)))) in
    λ i. sym ln i ∷ (sym lt i ∷ b i)

held-length : (k : ℕ) (s : List ℕ) → extent k s ≤ length s → length (held k s) ≡ k
unfolding held extent
held-length zero s h = refl
held-length (suc k) [] h = absurd (omega arith)
held-length (suc k) (n ∷ []) h = absurd (omega arith)
held-length (suc k) (n ∷ t ∷ s) h =
    let l1 = length-drop n s in
    let l2 = length-drop t (drop n s) in
    ap suc (held-length k (drop t (drop n s)) (omega arith))

-- memory is the bytes of its entries, and then what they leave
pub record Filled (m : List ℕ) (x : Index) : Type 0 where
  pub is : m ≡ packed (held x.count m) ++ drop x.used m
  pub count : length (held x.count m) ≡ x.count
  pub long : length (packed (held x.count m)) ≡ x.used

pub filled : {m : List ℕ} {x : Index} → Kept m x → Filled m x
filled {m} {x} k =
    let es : Store = held x.count m in
    let w : m ≡ packed es ++ drop x.used m = packs x.count m (omega arith) ∙ ap (λ (i : ℕ). packed es ++ drop i m) k.whole in
    let a = ap (λ (s : List ℕ). length s) w in
    let b = length-append (packed es) (drop x.used m) in
    let c = length-drop x.used m in
    record { is = w; count = held-length x.count m (omega arith); long = omega arith }
