-- The pieces of a line become the parameters of a call.
use mathlib.Core.Path.{◌≡◌, refl, sym, ap, ◌∙◌}
use mathlib.Core.List.{List, [], ◌∷◌}
use Prim.Native.Nat.{ℕ, zero, suc, ◌+◌, ◌≤◌, ◌<◌}
use native.Mathlib.Omega.{arith}
use borrow.Author.Count.{below_more}
use lib.ListN.{length, get_or, set, replicate, length-map, length-set}
use lib.Seq.{get_or-set_same, get_or-set_other, ext_get_or}
use Rattle.model.specs.Text.{Bytes, part}
use Rattle.std.specs.Prelude.{None}
use Rattle.pass.specs.Pass.{delimiter_bytes}
use Rattle.call.specs.declared.Text.{Text}
use Rattle.call.specs.declared.Param.{Param}
use Rattle.call.specs.declared.Iteration.{Iteration}
use Rattle.call.specs.Call.{text_of, Holds, no_param, texts_of, delimiters_of, loops_of}
use Rattle.call.specs.Params.{pieces_at, Opens}
use Rattle.call.proofs.Calls.{set_texts, same_delimiters}

pieces_get : (line : Bytes) (bs ns : List ℕ) (i : ℕ) → i < length bs → i < length ns → get_or (pieces_at line bs ns) i [] ≡ part line (get_or bs i 0) (get_or bs i 0 + get_or ns i 0)
unfolding pieces_at
pieces_get line [] ns i h k = absurd (omega arith)
pieces_get line (b ∷ bs) [] i h k = absurd (omega arith)
pieces_get line (b ∷ bs) (n ∷ ns) zero h k = refl
pieces_get line (b ∷ bs) (n ∷ ns) (suc i) h k = pieces_get line bs ns i (omega arith) (omega arith)

pieces-length : (line : Bytes) (bs ns : List ℕ) → length bs ≡ length ns → length (pieces_at line bs ns) ≡ length ns
unfolding pieces_at
pieces-length line [] ns h = h
pieces-length line (b ∷ bs) [] h = refl
pieces-length line (b ∷ bs) (n ∷ ns) h = ap suc (pieces-length line bs ns (omega arith))

-- the first i parameters are pieces, and none has a delimiter
pub record Opening (line : Bytes) (starts lens : List ℕ) (i : ℕ) (ps : List Param) : Type 0 where
  pub long : length ps ≡ 9
  pub is : (j : ℕ) → j < i → get_or (texts_of ps) j [] ≡ get_or (pieces_at line starts lens) j []
  pub none : delimiters_of ps ≡ replicate 9 []

module _ {line : Bytes} {starts lens : List ℕ} where
  pub opening_none : {x : Text} → Opening line starts lens 0 (replicate 9 (record { text = x; delimiter = None }))
  unfolding delimiter_bytes
  opening_none {x} = record { long = refl; is = λ j u. absurd (omega arith); none = refl }

  pub opening-more : {i : ℕ} {ps : List Param} {q : Param} → Opening line starts lens i ps → length starts ≡ 9 → length lens ≡ 9 → i < 9
      → Holds (part line (get_or starts i 0) (get_or starts i 0 + get_or lens i 0)) q.text → q.delimiter ≡ (get_or ps i no_param).delimiter
      → Opening line starts lens (i + 1) (set ps i q)
  opening-more {i} {ps} {q} p ls ln h k e =
      let t : Bytes = part line (get_or starts i 0) (get_or starts i 0 + get_or lens i 0) in
      let now = set_texts ps i q k in
      let size = length-map ps (λ p. text_of p.text) in
      let long = p.long in
      record {
        long = length-set ps i q ∙ long;
        is = λ j u. ap (λ (x : List Bytes). get_or x j []) now ∙ below_more _ i
            (λ j v. get_or-set_other (texts_of ps) i j t [] (omega arith) ∙ p.is j v)
            (get_or-set_same (texts_of ps) i t [] (omega arith) ∙ sym (pieces_get line starts lens i (omega arith) (omega arith))) j u;
        none = same_delimiters ps i q e ∙ p.none;
      }

  pub opens : {number next i : ℕ} {ps : List Param} {xs : List Iteration} → Opening line starts lens i ps → 9 ≤ i → length starts ≡ 9 → length lens ≡ 9
      → Opens number next line starts lens (record { number = number; next = next; params = ps; iterations = xs; depth = 0 })
  unfolding loops_of
  opens {number} {next} {i} {ps} {xs} p h ls ln =
      let size = length-map ps (λ p. text_of p.text) in
      let pieces = pieces-length line starts lens (omega arith) in
      let long = p.long in
      let e : texts_of ps ≡ pieces_at line starts lens = ext_get_or [] (texts_of ps) (pieces_at line starts lens) (omega arith) (λ j k. p.is j (omega arith)) in
      record {
        frame = λ m text. rw (e, p.none) refl;
        same = (refl, refl);
        placed = λ text a b. record { number = a; next = b; depth = omega arith; iterations = λ j u. absurd (omega arith) };
      }
