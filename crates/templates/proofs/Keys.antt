-- The laws of keys, of shared beginnings and of counts.
use mathlib.Core.Path.{◌≡◌, refl, sym, ◌∙◌, ap}
use mathlib.Core.Bool.{Bool, true, false}
use mathlib.Core.List.{[], ◌∷◌}
use mathlib.Core.Logic.{◌⊎◌, inl, inr, ⊎_elim}
use Prim.Native.Nat.{ℕ, zero, suc, ◌+◌, ◌≤◌, ◌<◌}
use native.Mathlib.Omega.{arith}
use native.Mathlib.Numerals.{add-one}
use native.Mathlib.Nat.{eq-or-lt_of_le}
use lib.Dec.{eqb, ltb}
use lib.ListN.{length, get_or}
use borrow.Author.Tests.{eqb-true, eqb-false, eq-eqb, ne_eqb, ltb-true, ltb-false}
use Rattle.model.specs.Text.{Bytes}
use Rattle.model.specs.Load.{count}
use Rattle.templates.specs.Keys.{AllBytes, byte_key, key_of, Share, one, cnt, Key}

-- numbers are equal or not, and one is less or not
pub eq_or : (a b : ℕ) → (a ≡ b) ⊎ (a ≡ b → ⊥)
eq_or a b = go (eqb a b) refl
  where
    go : (t : Bool) → eqb a b ≡ t → (a ≡ b) ⊎ (a ≡ b → ⊥)
    go true e = inl (eqb-true a b e)
    go false e = inr (eqb-false a b e)

pub lt_or : (a b : ℕ) → (a < b) ⊎ (b ≤ a)
lt_or a b = go (ltb a b) refl
  where
    go : (t : Bool) → ltb a b ≡ t → (a < b) ⊎ (b ≤ a)
    go true e = inl (ltb-true a b e)
    go false e = inr (ltb-false a b e)

-- the key at a place
pub byte_hole : (p b : ℕ) → b ≡ p → 257 ≡ byte_key p b
unfolding byte_key
byte_hole p b e = rw (eq-eqb b p e) refl

pub byte_plain : (p b : ℕ) → (b ≡ p → ⊥) → b ≡ byte_key p b
unfolding byte_key
byte_plain p b e = rw (ne_eqb b p e) refl

key_in : (p : ℕ) (c : Bytes) (x : ℕ) → x < length c → key_of p c x ≡ byte_key p (get_or c x 0)
unfolding key_of
key_in p [] x u = absurd (omega arith)
key_in p (b ∷ c) zero u = refl
key_in p (b ∷ c) (suc x) u = key_in p c x (omega arith)

pub key_past : (p : ℕ) (c : Bytes) (x : ℕ) → length c ≤ x → key_of p c x ≡ 256
unfolding key_of
key_past p [] x u = refl
key_past p (b ∷ c) zero u = absurd (omega arith)
key_past p (b ∷ c) (suc x) u = key_past p c x (omega arith)

module _ (p : ℕ) (c : Bytes) (x : ℕ) where
  -- it is that of the byte b
  module _ (u : x < length c) (b : ℕ) (q : b ≡ get_or c x 0) (small : get_or c x 0 < 256) where
    pub key_hole : b ≡ p → Key p c x 257
    key_hole e = record { is = byte_hole p _ (sym q ∙ e) ∙ sym (key_in p c x u); small = omega arith; byte = λ v. small }

    pub key_byte : (b ≡ p → ⊥) → Key p c x b
    key_byte e = record { is = byte_plain p b e ∙ ap (byte_key p) q ∙ sym (key_in p c x u); small = omega arith; byte = λ v. small }

  -- or of the end
  pub key_end : length c ≤ x → Key p c x 256
  key_end u = record { is = sym (key_past p c x u); small = omega arith; byte = λ v. absurd (omega arith) }

-- of bytes: no key is past the placeholder's, none but the end's is 256, and bytes differ where their keys do
module _ (p b : ℕ) (small : b < 256) where
  pub byte_bound : byte_key p b < 258
  byte_bound = ⊎_elim (λ e. omega (arith, byte_hole p b e)) (λ e. omega (arith, byte_plain p b e)) (eq_or b p)

  pub byte_no_end : byte_key p b ≡ 256 → ⊥
  byte_no_end q = ⊎_elim (λ e. omega (arith, byte_hole p b e)) (λ e. omega (arith, byte_plain p b e)) (eq_or b p)

  pub byte_inj : (a : ℕ) → a < 256 → byte_key p a ≡ byte_key p b → a ≡ b
  byte_inj a u q = ⊎_elim
      (λ e. ⊎_elim (λ g. omega arith) (λ g. absurd (omega (arith, byte_hole p b e, byte_plain p a g))) (eq_or a p))
      (λ e. ⊎_elim (λ g. absurd (omega (arith, byte_plain p b e, byte_hole p a g))) (λ g. omega (arith, byte_plain p b e, byte_plain p a g)) (eq_or a p)) (eq_or b p)

pub key_bound : (p : ℕ) (c : Bytes) (x : ℕ) → AllBytes c → key_of p c x < 258
key_bound p c x h = ⊎_elim (λ u. omega (arith, key_in p c x u, byte_bound p (get_or c x 0) (h x))) (λ u. omega (arith, key_past p c x u)) (lt_or x (length c))

pub key_ends : (p : ℕ) (c : Bytes) (x : ℕ) → AllBytes c → key_of p c x ≡ 256 → length c ≤ x
key_ends p c x h q = ⊎_elim (λ u. absurd (byte_no_end p (get_or c x 0) (h x) (sym (key_in p c x u) ∙ q))) (λ u. u) (lt_or x (length c))

-- shared beginnings
pub share_sym : (f : ℕ → ℕ → ℕ) (k m d : ℕ) → Share f k m d → Share f m k d
share_sym f k m d h x u = sym (h x u)

pub share_trans : (f : ℕ → ℕ → ℕ) (k m l d : ℕ) → Share f k m d → Share f m l d → Share f k l d
share_trans f k m l d g h x u = g x u ∙ h x u

pub share_more : (f : ℕ → ℕ → ℕ) (k m d : ℕ) → Share f k m d → f k d ≡ f m d → Share f k m (d + 1)
share_more f k m d h e x u = ⊎_elim (λ q. rw q e) (λ q. h x q) (eq-or-lt_of_le {n = x} {m = d} (omega arith))

-- counts
module _ (p : ℕ → Bool) where
  pub cnt-more : (x : ℕ) → cnt p (x + 1) ≡ cnt p x + one (p x)
  unfolding cnt
  cnt-more x = rw add-one refl

pub cnt-same : (p q : ℕ → Bool) (d : ℕ) → ((x : ℕ) → x < d → p x ≡ q x) → cnt p d ≡ cnt q d
unfolding cnt
cnt-same p q zero h = refl
cnt-same p q (suc d) h = rw (cnt-same p q d (λ x u. h x (omega arith)), h d (omega arith)) refl

-- placeholders in the first x elements of a template, at most those of all
cnt_shift : (g : ℕ → Bool) (x : ℕ) → cnt g (suc x) ≡ one (g 0) + cnt (λ y. g (suc y)) x
unfolding cnt
cnt_shift g zero = omega arith
cnt_shift g (suc x) = omega (arith, cnt_shift g x)

pub holes_most : (p : ℕ) (c : Bytes) (x : ℕ) → AllBytes c → cnt (λ y. eqb (key_of p c y) 257) x ≤ count p c
unfolding cnt key_of count
holes_most p c zero h = omega arith
holes_most p [] (suc x) h = omega (arith, cnt_shift (λ y. eqb (key_of p [] y) 257) x, holes_most p [] x h)
holes_most p (b ∷ c) (suc x) h =
    let e : cnt (λ y. eqb (key_of p (b ∷ c) y) 257) (suc x) ≡ one (eqb (byte_key p b) 257) + cnt (λ y. eqb (key_of p c y) 257) x = cnt_shift (λ y. eqb (key_of p (b ∷ c) y) 257) x in
    rw e (by (eqb b p) refl (h 0) (holes_most p c x (λ i. h (suc i))))
  where
    at_most : (t : Bool) → one t ≤ 1
    at_most true = omega arith
    at_most false = omega arith

    by : (t : Bool) → eqb b p ≡ t → b < 256 → cnt (λ y. eqb (key_of p c y) 257) x ≤ count p c
        → ◌≤◌ (one (eqb (byte_key p b) 257) + cnt (λ y. eqb (key_of p c y) 257) x) (elim t [ true ↦ suc (count p c) | false ↦ count p c ])
    by true e u k = omega (arith, at_most (eqb (byte_key p b) 257))
    by false e u k = rw (ne_eqb (byte_key p b) 257 (λ q. omega (arith, byte_plain p b (eqb-false b p e)))) (omega arith)
