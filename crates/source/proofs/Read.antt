-- What a reader has left, from one read to the next.
use mathlib.Core.Path.{◌≡◌, sym, ap, ◌∙◌}
use mathlib.Core.List.{List, ◌++◌, append_assoc}
use Prim.Native.Nat.{ℕ, ◌+◌, ◌-◌, ◌≤◌}
use borrow.Rule.Slice.PartMut.{put_mid, post_of}
use lib.ListN.{length, take}
use lib.Seq.{take-append-add, length-take-le}
use Rattle.std.proofs.Common.{Option, Some, None}
use Rattle.std.specs.Io.KnownBytes.{Consumes}
use Rattle.std.proofs.lemmas.List.{take-append-le}

-- what stands in front after a read to the bytes from d on, where it brought n
put_front : (d n : ℕ) (s t : List ℕ) → d ≤ length s → n ≤ length t → take (d + n) (put_mid d (length s - d) s t) ≡ take d s ++ take n t
put_front d n s t h k =
    let e : d + n ≡ length (take d s) + n = ap (λ (i : ℕ). i + n) (sym (length-take-le d s h)) in
    ap (λ (i : ℕ). take i (put_mid d (length s - d) s t)) e
    ∙ take-append-add (take d s) (t ++ post_of d (length s - d) s) n
    ∙ ap (λ (x : List ℕ). take d s ++ x) (take-append-le n t (post_of d (length s - d) s) k)

consumes_both : (a b c : Option (List ℕ)) (s t : List ℕ) → Consumes a b s → Consumes b c t → Consumes a c (s ++ t)
consumes_both None b c s t h k = tt
consumes_both (Some x) None c s t h k = absurd h
consumes_both (Some x) (Some y) None s t h k = absurd k
consumes_both (Some x) (Some y) (Some z) s t h k = h ∙ ap (λ (u : List ℕ). s ++ u) k ∙ sym (append_assoc s t z)

pub consumes_more : (a b c : Option (List ℕ)) {d n : ℕ} (s t : List ℕ) → Consumes a b (take d s) → Consumes b c (take n t) → d ≤ length s → n ≤ length t
    → Consumes a c (take (d + n) (put_mid d (length s - d) s t))
consumes_more a b c {d} {n} s t h k l m = rw (put_front d n s t l m) (consumes_both a b c (take d s) (take n t) h k)
