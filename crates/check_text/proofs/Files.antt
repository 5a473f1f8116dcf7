-- The rows of files, one after another.
use mathlib.Core.Path.{◌≡◌, refl, sym, ap, ◌∙◌}
use mathlib.Core.List.{List, [], ◌∷◌, ◌++◌, append_assoc, append-nil}
use Prim.Native.Nat.{ℕ, ◌+◌}
use native.Mathlib.Omega.{arith}
use lib.ListN.{take, length-append}
use Rattle.model.specs.Text.{Bytes}
use Rattle.model.specs.Results.{check_text}
use Rattle.rendering.proofs.Added.{adds_take}
use Rattle.model.specs.Printed.{check_row, check_prints}
use Rattle.check_text.specs.Files.{AddsFile, HasFiles}

-- one more row
checks_more : (fs : List (Bytes × Bytes)) (f : Bytes × Bytes) → check_prints (fs ++ (f ∷ [])) ≡ check_prints fs ++ check_row f.0 (check_text 2048 f.1)
unfolding check_prints
checks_more [] f = append-nil (check_row f.0 (check_text 2048 f.1))
checks_more (g ∷ fs) f =
    ap (λ (l : Bytes). check_row g.0 (check_text 2048 g.1) ++ l) (checks_more fs f)
    ∙ sym (append_assoc (check_row g.0 (check_text 2048 g.1)) (check_prints fs) (check_row f.0 (check_text 2048 f.1)))

pub files_none : {o : Bytes} → HasFiles 0 o 0
unfolding check_prints
files_none = record { files = []; count = refl; is = refl; fits = omega arith }

pub files_more : {n m : ℕ} {o : Bytes} {w r : ℕ} {o' : Bytes} → HasFiles n o w → AddsFile o w r o' → m ≡ n + 1 → HasFiles m o' r
files_more {n} {m} {o} {w} {r} {o'} h x e =
    let p = x.prints in
    let f : Bytes × Bytes = (x.name, x.text) in
    let row : Bytes = check_row x.name (check_text 2048 x.text) in
    let k = length-append h.files (f ∷ []) in
    let c = h.count in
    record {
      files = h.files ++ (f ∷ []);
      count = omega arith;
      is = ap (λ (i : ℕ). take i o') p.ends ∙ adds_take p.adds ∙ ap (λ (l : Bytes). l ++ row) h.is ∙ sym (checks_more h.files f);
      fits = omega (arith, p.fits, p.long);
    }
