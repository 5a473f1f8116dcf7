-- Two templates are compared by their keys where they first differ.
use mathlib.Core.Path.{◌≡◌, sym, ◌∙◌}
use mathlib.Core.Bool.{Bool, true}
use mathlib.Core.Logic.{⊎_elim}
use mathlib.Core.List.{[], ◌∷◌}
use Prim.Native.Nat.{ℕ, zero, suc, ◌≤◌, ◌<◌}
use native.Mathlib.Omega.{arith}
use native.Mathlib.Nat.{eq-or-lt_of_le}
use borrow.Author.Tests.{ltb-true, lt-ltb, ltb-false}
use lib.Dec.{ltb}
use lib.ListN.{length, get_or}
use Rattle.model.specs.Text.{Bytes}
use Rattle.templates.specs.Count.{common}
use Rattle.templates.specs.Keys.{byte_key, key_of, Key}
use Rattle.templates.specs.Order.{precedes, Compared}
use Rattle.templates.proofs.Matching.{common-same, common_other}
use Rattle.templates.proofs.Keys.{byte_inj, byte_no_end, eq_or}
use Rattle.templates.proofs.Order.{first_same, first_less}

-- the one that has the lesser key at place x, where they first differ, stands first
key_less : (p : ℕ) (s t : Bytes) (x : ℕ) → common s t ≡ x → x ≤ length s → key_of p s x < key_of p t x → precedes p s t ≡ true
unfolding common precedes key_of
key_less p [] [] x q u v = absurd (omega arith)
key_less p [] (b ∷ t) zero q u v = lt-ltb 256 (byte_key p b) v
key_less p [] (b ∷ t) (suc x) q u v = absurd (omega arith)
key_less p (a ∷ s) [] zero q u v = lt-ltb (byte_key p a) 256 v
key_less p (a ∷ s) [] (suc x) q u v = absurd (omega arith)
key_less p (a ∷ s) (b ∷ t) zero q u v = first_less p a b s t v
key_less p (a ∷ s) (b ∷ t) (suc x) q u v = ⊎_elim
    (λ e. first_same p a b s t e (key_less p s t x (omega (arith, common-same a b s t e)) (omega arith) v))
    (λ n. absurd (omega (arith, common_other a b s t n))) (eq_or a b)

-- and bytes that differ have different keys
key_more : (p : ℕ) (s t : Bytes) (x : ℕ) → common s t ≡ x → x ≤ length s → (x < length s → get_or s x 0 < 256) → (x < length t → get_or t x 0 < 256)
    → key_of p t x ≤ key_of p s x → precedes p t s ≡ true
unfolding common precedes key_of
key_more p [] [] x q u g h v = absurd (omega arith)
key_more p [] (b ∷ t) zero q u g h v =
    lt-ltb (byte_key p b) 256 (⊎_elim (λ e. absurd (byte_no_end p b (h (omega arith)) e)) (λ l. l) (eq-or-lt_of_le {n = byte_key p b} {m = 256} v))
key_more p [] (b ∷ t) (suc x) q u g h v = absurd (omega arith)
key_more p (a ∷ s) [] zero q u g h v =
    lt-ltb 256 (byte_key p a) (⊎_elim (λ e. absurd (byte_no_end p a (g (omega arith)) (sym e))) (λ l. l) (eq-or-lt_of_le {n = 256} {m = byte_key p a} v))
key_more p (a ∷ s) [] (suc x) q u g h v = absurd (omega arith)
key_more p (a ∷ s) (b ∷ t) zero q u g h v = ⊎_elim
    (λ e. let z = byte_inj p a (g (omega arith)) b (h (omega arith)) e in absurd (omega (arith, common-same a b s t (sym z))))
    (λ l. first_less p b a t s l) (eq-or-lt_of_le {n = byte_key p b} {m = byte_key p a} v)
key_more p (a ∷ s) (b ∷ t) (suc x) q u g h v = ⊎_elim
    (λ e. first_same p b a t s (sym e) (key_more p s t x (omega (arith, common-same a b s t e)) (omega arith) (λ w. g (omega arith)) (λ w. h (omega arith)) v))
    (λ n. absurd (omega (arith, common_other a b s t n))) (eq_or a b)

-- the test of their keys
pub compared : (p : ℕ) (s t : Bytes) (x k l : ℕ) (r : Bool) → Key p s x k → Key p t x l → r ≡ ltb k l → Compared p s t x r
compared p s t x k l r a b e = record {
  less = λ z q u. key_less p s t x q u (omega (arith, a.is, b.is, ltb-true k l (sym e ∙ z)));
  more = λ z q u. key_more p s t x q u a.byte b.byte (omega (arith, a.is, b.is, ltb-false k l (sym e ∙ z)));
}
