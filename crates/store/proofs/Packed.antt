-- From bytes to entries and back.
use mathlib.Core.Path.{◌≡◌, refl, ap, ◌∙◌}
use mathlib.Core.List.{List, [], ◌∷◌, ◌++◌, append_assoc}
use Prim.Native.Nat.{ℕ, ◌+◌, ◌*◌}
use native.Mathlib.Omega.{arith}
use lib.ListN.{length, take, drop, length-append}
use lib.Seq.{take-append_seam, drop-append_seam}
use Rattle.model.specs.Store.{Store, size}
use Rattle.store.specs.Memory.{held, extent, packed}

module _ (n t P x : List ℕ) where
  whole : (n ++ (t ++ P)) ++ x ≡ n ++ (t ++ (P ++ x))
  whole = simp append_assoc

  past_name : drop (length n) ((n ++ (t ++ P)) ++ x) ≡ t ++ (P ++ x)
  past_name = ap (λ (l : List ℕ). drop (length n) l) whole ∙ drop-append_seam n (t ++ (P ++ x))

  past_text : drop (length t) (drop (length n) ((n ++ (t ++ P)) ++ x)) ≡ P ++ x
  past_text = ap (λ (l : List ℕ). drop (length t) l) past_name ∙ drop-append_seam t (P ++ x)

  the_name : take (length n) ((n ++ (t ++ P)) ++ x) ≡ n
  the_name = ap (λ (l : List ℕ). take (length n) l) whole ∙ take-append_seam n (t ++ (P ++ x))

  the_text : take (length t) (drop (length n) ((n ++ (t ++ P)) ++ x)) ≡ t
  the_text = ap (λ (l : List ℕ). take (length t) l) past_name ∙ take-append_seam t (P ++ x)

pub held-packed : (es : Store) (x : List ℕ) → held (length es) (packed es ++ x) ≡ es
unfolding held packed
held-packed [] x = refl
held-packed (e ∷ es) x =
    let r : held (length es) (drop (length e.1) (drop (length e.0) ((e.0 ++ (e.1 ++ packed es)) ++ x))) ≡ es =
    ap (λ (l : List ℕ). held (length es) l) (past_text e.0 e.1 (packed es) x) ∙ held-packed es x in
    λ i. (the_name e.0 e.1 (packed es) x i, the_text e.0 e.1 (packed es) x i) ∷ r i

pub extent-packed : (es : Store) (x : List ℕ) → extent (length es) (packed es ++ x) ≡ length (packed es)
unfolding extent packed
extent-packed [] x = refl
extent-packed (e ∷ es) x =
    let r : extent (length es) (drop (length e.1) (drop (length e.0) ((e.0 ++ (e.1 ++ packed es)) ++ x))) ≡ length (packed es) =
    ap (λ (l : List ℕ). extent (length es) l) (past_text e.0 e.1 (packed es) x) ∙ extent-packed es x in
    let l1 = length-append e.0 (e.1 ++ packed es) in
    let l2 = length-append e.1 (packed es) in
    omega arith

pub packed_append : (xs ys : Store) → packed (xs ++ ys) ≡ packed xs ++ packed ys
unfolding packed
packed_append [] ys = refl
packed_append (e ∷ xs) ys =
    ap (λ (r : List ℕ). length e.0 ∷ length e.1 ∷ (e.0 ++ (e.1 ++ r))) (packed_append xs ys) ∙ simp append_assoc

-- a byte for each length
pub size-packed : (es : Store) → length (packed es) ≡ size es + 2 * length es
unfolding packed size
size-packed [] = refl
size-packed (e ∷ es) =
    let i = size-packed es in
    let l1 = length-append e.0 (e.1 ++ packed es) in
    let l2 = length-append e.1 (packed es) in
    omega arith
