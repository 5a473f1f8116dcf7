-- The pieces of a reading as the parameters of a call.
use mathlib.Core.Path.{◌≡◌, refl, sym, ap, ap₂, ◌∙◌, subst}
use mathlib.Core.List.{List, [], ◌∷◌, ◌++◌, map}
use Prim.Native.Nat.{ℕ, zero, suc, ◌+◌, ◌-◌, ◌≤◌, ◌<◌}
use native.Mathlib.Omega.{arith}
use lib.ListN.{length, get_or, take, drop, replicate, length-map}
use Rattle.model.specs.declared.Marks.{Marks}
use Rattle.model.specs.Text.{Bytes}
use Rattle.model.specs.Load.{body_at}
use Rattle.model.specs.Machine.{padded}
use Rattle.model.specs.Results.{nine}
use Rattle.call.specs.declared.Call.{Call}
use Rattle.call.specs.Call.{frame_of}
use Rattle.call.specs.Params.{pieces_at, Opens}

-- pieces of no byte
pieces_none : (line : Bytes) (starts : List ℕ) (k : ℕ) → length starts ≡ k → pieces_at line starts (replicate k 0) ≡ replicate k []
unfolding pieces_at
pieces_none line [] zero h = refl
pieces_none line [] (suc k) h = absurd (omega arith)
pieces_none line (a ∷ starts) zero h = absurd (omega arith)
pieces_none line (a ∷ starts) (suc k) h =
    let z : a + 0 - a ≡ 0 = omega arith in
    ap₂ (λ (n : ℕ) (ps : List Bytes). take n (drop a line) ∷ ps) z (pieces_none line starts k (omega arith))

-- the pieces ps, and k of no byte
pieces_then : (line : Bytes) (starts : List ℕ) (ps : List Bytes) (k : ℕ) → length starts ≡ length ps + k
    → ((i : ℕ) → i < length ps → get_or ps i [] ≡ take (get_or (map (λ p. length p) ps ++ replicate k 0) i 0) (drop (get_or starts i 0) line))
    → pieces_at line starts (map (λ p. length p) ps ++ replicate k 0) ≡ ps ++ replicate k []
unfolding pieces_at
pieces_then line starts [] k h each = pieces_none line starts k (omega arith)
pieces_then line [] (p ∷ ps) k h each = absurd (omega arith)
pieces_then line (a ∷ starts) (p ∷ ps) k h each =
    let z : a + length p - a ≡ length p = omega arith in
    ap₂ (λ (x : Bytes) (xs : List Bytes). x ∷ xs) (ap (λ (n : ℕ). take n (drop a line)) z ∙ sym (each 0 (omega arith)))
    (pieces_then line starts ps k (omega arith) (λ i l. each (suc i) (omega arith)))

module _ (line : Bytes) (starts lens : List ℕ) (ps : List Bytes) (h : length starts ≡ 9) (few : length ps ≤ 9) (e : lens ≡ nine (map (λ p. length p) ps))
    (each : (i : ℕ) → i < length ps → get_or ps i [] ≡ take (get_or lens i 0) (drop (get_or starts i 0) line)) where
  -- the parameters that the template lacks are empty
  pub pieces-padded : pieces_at line starts lens ≡ padded ps
  unfolding nine padded
  pieces-padded =
      let k : ℕ = 9 - length ps in
      let f : lens ≡ map (λ p. length p) ps ++ replicate k 0 = e ∙ ap (λ (n : ℕ). map (λ p. length p) ps ++ replicate (9 - n) 0) (length-map ps (λ p. length p)) in
      ap (λ (l : List ℕ). pieces_at line starts l) f
      ∙ pieces_then line starts ps k (omega arith) (subst (λ (l : List ℕ). (i : ℕ) → i < length ps → get_or ps i [] ≡ take (get_or l i 0) (drop (get_or starts i 0) line)) f each)

  -- the call that a reading opens
  pub opens_reading : {number next : ℕ} {r : Call} → Opens number next line starts lens r → (m : Marks) (text : Bytes)
      → frame_of m text r ≡ record { number = number; params = padded ps; delimiters = replicate 9 []; next = body_at m text next; loops = [] }
  opens_reading {number} {next} o m text =
      o.frame m text ∙ ap (λ (xs : List Bytes). record { number = number; params = xs; delimiters = replicate 9 []; next = body_at m text next; loops = [] }) pieces-padded
