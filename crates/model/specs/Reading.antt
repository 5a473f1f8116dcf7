-- Templates, pieces, readings and their order (document 01, "Fitting a line").
use Rattle.std.specs.Prelude.{Bool, true, false, ◌&&◌, List, [], ◌∷◌, ◌++◌, map, ℕ, suc, ◌-◌, eqb, ltb, length}
use Rattle.std.proofs.Math.Option.{Option, none, some}
use Rattle.model.specs.declared.Marks.{Marks}
use Rattle.model.specs.Text.{Bytes}

-- the bytes through the partner of an open left bracket, and the rest; none without a partner. d more are open
unfoldable pub group : Marks → ℕ → Bytes → Option (Bytes × Bytes)
group m d [] = none
group m d (x ∷ s) =
    let d' : ℕ = elim (eqb x m.left) as (λ b. ℕ) [ true ↦ suc d | false ↦ elim (eqb x m.right) as (λ b. ℕ) [ true ↦ d - 1 | false ↦ d ] ] in
    elim (eqb x m.right && eqb d 0) [
      | true ↦ some (x ∷ [], s)
      | false ↦ elim (group m d' s) [ none ↦ none | some r ↦ some (x ∷ r.0, r.1) ]
    ]

-- the first atom of a line and the rest: one byte that is no bracket, or a left bracket through its partner. None where the line is
-- empty, at a right bracket, and at a left one without a partner
unfoldable pub atom : Marks → Bytes → Option (Bytes × Bytes)
atom m [] = none
atom m (x ∷ s) =
    elim (eqb x m.right) [
      | true ↦ none
      | false ↦ elim (eqb x m.left) [
        | true ↦ elim (group m 0 s) [ none ↦ none | some r ↦ some (x ∷ r.0, r.1) ]
        | false ↦ some (x ∷ [], s)
      ]
    ]

-- a row of atoms: no right bracket without its left one before it, and none left open. `d` brackets are open
unfoldable pub balanced_from : Marks → ℕ → List ℕ → Bool
balanced_from m d [] = eqb d 0
balanced_from m d (x ∷ s) =
    elim (eqb x m.left) [
      | true ↦ balanced_from m (suc d) s
      | false ↦ elim (eqb x m.right) [
        | true ↦ elim (eqb d 0) [ true ↦ false | false ↦ balanced_from m (d - 1) s ]
        | false ↦ balanced_from m d s
      ]
    ]

unfoldable pub balanced : Marks → List ℕ → Bool
balanced m s = balanced_from m 0 s

-- every cut of s into a beginning and the rest, the shortest beginning first; p stands before s
unfoldable pub cuts : List ℕ → List ℕ → List (List ℕ × List ℕ)
cuts p [] = (p, []) ∷ []
cuts p (x ∷ s) = (p, x ∷ s) ∷ cuts (p ++ (x ∷ [])) s

-- the pieces of a reading, one for each placeholder
abbrev pub Pieces : Type 0
Pieces = List (List ℕ)

-- each balanced beginning, in front of each way to read the rest
unfoldable pub with_piece : Marks → List (List ℕ × List ℕ) → (List ℕ → List Pieces) → List Pieces
with_piece m [] go = []
with_piece m (c ∷ cs) go = elim (balanced m c.0) [ true ↦ map (λ ps. c.0 ∷ ps) (go c.1) ++ with_piece m cs go | false ↦ with_piece m cs go ]

unfoldable pub with_literal : ℕ → List ℕ → (List ℕ → List Pieces) → List Pieces
with_literal b [] go = []
with_literal b (x ∷ s) go = elim (eqb x b) [ true ↦ go s | false ↦ [] ]

-- the pieces of each reading of a line by one template: literals and pieces joined give the line
unfoldable pub readings : Marks → List ℕ → List ℕ → List Pieces
readings m [] [] = [] ∷ []
readings m [] (x ∷ s) = []
readings m (b ∷ t) [] = elim (eqb b m.placeholder) [ true ↦ with_piece m (([], []) ∷ []) (λ rest. readings m t rest) | false ↦ [] ]
readings m (b ∷ t) (x ∷ s) =
    elim (eqb b m.placeholder) [
      | true ↦ with_piece m (cuts [] (x ∷ s)) (λ rest. readings m t rest)
      | false ↦ with_literal b (x ∷ s) (λ rest. readings m t rest)
    ]

-- a reading's rank: at each element 0 for a literal or the end, and for a placeholder one more than its piece's length
unfoldable pub rank : Marks → List ℕ → Pieces → List ℕ
rank m [] ps = 0 ∷ []
rank m (b ∷ t) [] = 0 ∷ rank m t []
rank m (b ∷ t) (p ∷ ps) = elim (eqb b m.placeholder) [ true ↦ suc (length p) ∷ rank m t ps | false ↦ 0 ∷ rank m t (p ∷ ps) ]

-- a before b at the first place where they differ
unfoldable pub less : List ℕ → List ℕ → Bool
less [] [] = false
less [] (y ∷ t) = true
less (x ∷ s) [] = false
less (x ∷ s) (y ∷ t) = elim (eqb x y) [ true ↦ less s t | false ↦ ltb x y ]

-- a template's place in the text's order, and its pieces
pub record Reading : Type 0 where
  pub which : ℕ
  pub pieces : Pieces
  pub order : List ℕ

unfoldable pub as_readings : Marks → ℕ → List ℕ → List Pieces → List Reading
as_readings m i t [] = []
as_readings m i t (ps ∷ more) = record { which = i; pieces = ps; order = rank m t ps } ∷ as_readings m i t more

unfoldable pub all_readings : Marks → ℕ → List (List ℕ) → List ℕ → List Reading
all_readings m i [] line = []
all_readings m i (t ∷ ts) line = as_readings m i t (readings m t line) ++ all_readings m (suc i) ts line

unfoldable pub least_of : Reading → List Reading → Reading
least_of r [] = r
least_of r (x ∷ xs) = elim (less x.order r.order) [ true ↦ least_of x xs | false ↦ least_of r xs ]

unfoldable pub least : List Reading → Option Reading
least [] = none
least (r ∷ rs) = some (least_of r rs)

-- the first of all readings, or none: the line is no call
unfoldable pub chosen : Marks → List (List ℕ) → List ℕ → Option Reading
chosen m ts line = least (all_readings m 0 ts line)
