-- What lies behind the entries stays zeroes.
use mathlib.Core.Path.{◌≡◌, sym, ap, ◌∙◌, subst}
use mathlib.Core.List.{List, [], ◌++◌, append_assoc}
use Prim.Native.Nat.{ℕ, ◌+◌, ◌-◌, ◌≤◌}
use native.Mathlib.Omega.{arith}
use lib.ListN.{length, take, drop, replicate, length-append, length-drop}
use lib.Seq.{take-length, drop_at, length-take-le}
use Rattle.std.proofs.lemmas.List.{drop-drop, length-replicate, drop-replicate, replicate-append-replicate}
use Rattle.buffer.specs.Pasted.{Pasted}
use Rattle.model.specs.Store.{Store}
use Rattle.store.specs.Memory.{packed, Holds}
use Rattle.store.specs.Filled.{filled}
use Rattle.store.specs.Clean.{Clean}
use Rattle.store.specs.Put.{StaysClean}
use Rattle.store.specs.declared.Index.{Index}
use Rattle.store.specs.declared.Full.{Full}
use Rattle.std.specs.Prelude.{Ok, Err}

-- memory of zeroes that holds nothing
zeroes_clean : (n : ℕ) {x : Index} → Holds (replicate n 0) x [] → Clean (replicate n 0) x
unfolding packed
zeroes_clean n {x} h =
    let m : List ℕ = replicate n 0 in
    let u : 0 ≡ x.used = ap (λ (es : Store). length (packed es)) (sym h.is) ∙ (filled h.kept).long in
    let l : length m ≡ n = length-replicate n 0 in
    let z : n ≡ length m - x.used = omega (arith, l, u) in
    record { zeroes = ap (λ (i : ℕ). drop i m) (sym u) ∙ ap (λ (k : ℕ). replicate k 0) z }

pub nothing_clean : {x : Index} → Holds (replicate 8704 0) x [] → Clean (replicate 8704 0) x
nothing_clean = zeroes_clean 8704

-- what is behind the entries is zeroes from any place on
pub zeroes_from : {m : List ℕ} {x : Index} → Clean m x → (u : ℕ) → x.used ≤ u → drop u m ≡ replicate (length m - u) 0
zeroes_from {m} {x} c u h =
    let i : ℕ = u - x.used in
    let zu : u ≡ x.used + i = omega arith in
    let zn : length m - x.used - i ≡ length m - u = omega arith in
    let n : ℕ = length m - x.used in
    let d : drop u m ≡ drop i (drop x.used m) = ap (λ (k : ℕ). drop k m) zu ∙ sym (drop-drop i x.used m) in
    let z : drop i (drop x.used m) ≡ replicate (n - i) 0 = ap (λ (l : List ℕ). drop i l) c.zeroes ∙ drop-replicate i n 0 in
    d ∙ z ∙ ap (λ (k : ℕ). replicate k 0) zn

pub stays_clean : {m : List ℕ} {x : Index} {m' : List ℕ} {y : Index} → (Clean m x → Clean m' y) → StaysClean m x m' (Ok y)
stays_clean {m} {x} {m'} {y} h = record { is = λ z e c. let q : y ≡ z = cc in subst (λ (i : Index). Clean m' i) q (h c) }

pub full_clean : {m : List ℕ} {x : Index} {m' : List ℕ} {f : Full} → StaysClean m x m' (Err f)
full_clean = record { is = λ y e. let z : ◌≡◌ {A = ℕ} 0 1 = cc in absurd (omega arith) }

-- nothing behind the new end is written
pub clean_longer : {m m' : List ℕ} {x y : Index} → x.used ≤ y.used → length m' ≡ length m → drop y.used m' ≡ drop y.used m → Clean m x → Clean m' y
clean_longer {m} {m'} {x} {y} h l e c = record { zeroes = e ∙ zeroes_from c y.used h ∙ ap (λ (n : ℕ). replicate (n - y.used) 0) (sym l) }

-- nothing behind the new end is written but zeroes, up to where the old entries ended
pub clean_shorter : {m w m' : List ℕ} {x y : Index} → x.used ≤ length m → y.used ≤ length m → length w ≡ length m → drop y.used w ≡ drop y.used m
    → Pasted w y.used (replicate (x.used - y.used) 0) (x.used - y.used) m' → Clean m x → Clean m' y
clean_shorter {m} {w} {m'} {x} {y} h k l e g c =
    let u : ℕ = y.used in
    let j : ℕ = x.used - u in
    let Z : List ℕ = replicate j 0 in
    let lj : length Z ≡ j = length-replicate j 0 in
    let r : List ℕ = drop (u + j) w in
    let zj : take j Z ≡ Z = ap (λ (i : ℕ). take i Z) (sym lj) ∙ take-length Z in
    let e1 : m' ≡ take u w ++ (Z ++ r) = g.is ∙ ap (λ (l : List ℕ). take u w ++ l ++ r) zj ∙ append_assoc (take u w) Z r in
    let e2 : r ≡ replicate (length m - (u + j)) 0 =
    sym (drop-drop j u w) ∙ ap (λ (l : List ℕ). drop j l) e ∙ drop-drop j u m ∙ zeroes_from c (u + j) (omega arith) in
    let l1 = ap (λ (l : List ℕ). length l) e1 in
    let l2 = length-append (take u w) (Z ++ r) in
    let l3 = length-append Z r in
    let l4 = length-take-le u w (omega arith) in
    let l5 = length-drop (u + j) w in
    let k : ℕ = length m - (u + j) in
    let zn : j + k ≡ length m' - u = omega arith in
    let d : drop u m' ≡ Z ++ r = ap (λ (l : List ℕ). drop u l) e1 ∙ drop_at (take u w) (Z ++ r) u l4 in
    let z : Z ++ r ≡ replicate (j + k) 0 = ap (λ (l : List ℕ). Z ++ l) e2 ∙ replicate-append-replicate j k 0 in
    record { zeroes = d ∙ z ∙ ap (λ (n : ℕ). replicate n 0) zn }
