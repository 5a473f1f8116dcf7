-- A walk of the tree passes what the beginning of its last node has more, and stays in the row.
use mathlib.Core.Path.{◌≡◌, sym, ◌∙◌, ap}
use mathlib.Core.List.{List, [], ◌∷◌, ◌++◌, append_assoc, append-nil}
use Prim.Native.Nat.{ℕ, suc, ◌<◌}
use native.Mathlib.Omega.{arith}
use lib.ListN.{length}
use Rattle.model.specs.declared.Marks.{Marks}
use Rattle.model.specs.Text.{Bytes}
use Rattle.model.specs.Parts.{Elem}
use Rattle.model.proofs.Search.{walk, onward_inv}
use Rattle.nodes.specs.declared.Node.{Node}
use Rattle.nodes.specs.Rows.{kid}
use Rattle.nodes.specs.SideBySide.{SideBySide}
use Rattle.nodes.proofs.Rows.{kid-longer, kid-within}

module _ {m : Marks} {ts : List Bytes} {rows : List Node} (tree : SideBySide m ts rows) where
  -- what a walk passes is what the beginning has more
  pub walk_pre : (es : List Elem) (i j : ℕ) → walk (kid rows) i es ≡ suc j → tree.pre (suc j) ≡ tree.pre i ++ es
  walk_pre [] i j w = ap tree.pre (sym w) ∙ sym (append-nil (tree.pre i))
  walk_pre (e ∷ es) i j w =
      let (k, x, y) = onward_inv (λ k. walk (kid rows) k es) (kid rows i e) j w in
      walk_pre es (suc k) j y ∙ ap (λ (l : List Elem). l ++ es) (kid-longer tree i e k x) ∙ append_assoc (tree.pre i) (e ∷ []) es

  -- a walk stays in the row
  pub walk_there : (es : List Elem) (i j : ℕ) → i < length rows → walk (kid rows) i es ≡ suc j → suc j < length rows
  walk_there [] i j lt w = omega (arith, w)
  walk_there (e ∷ es) i j lt w =
      let (k, x, y) = onward_inv (λ k. walk (kid rows) k es) (kid rows i e) j w in
      walk_there es (suc k) j (kid-within tree i e k x) y
