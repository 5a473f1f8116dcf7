-- A piece that is stored stands in the row of starts and lengths with both of its numbers.
use Rattle.std.proofs.Common.{◌≡◌, ℕ, ◌+◌, ◌-◌, ◌<◌, List, ◌++◌, length, set, sym, ap, ◌∙◌, arith, length-set}
use Rattle.std.proofs.lemmas.List.{set-append_left, set-append_right}

pub piece_stored : (ss ls : List ℕ) (k s l : ℕ) → length ss ≡ 9 → k < 9 → set ss k s ++ set ls k l ≡ set (set (ss ++ ls) k s) (k + 9) l
piece_stored ss ls k s l e h =
    let i : k + 9 - 9 ≡ k = omega arith in
    rw (set-append_left ss ls k s (omega (arith, e))) (sym (set-append_right (set ss k s) ls 9 (k + 9) l (length-set ss k s ∙ e) (omega arith) ∙ ap (λ (j : ℕ). set ss k s ++ set ls j l) i))
