-- How an expression begins, and how a sum or a product goes on, by the byte at the front: the tests that the code makes, in its order.
use Rattle.std.specs.Prelude.{cond, List, [], ◌∷◌, ℕ, eqb, Option, Some, None}
use Rattle.model.specs.declared.Marks.{Marks}
use Rattle.number.specs.declared.Step.{Step}
use Rattle.number.specs.declared.Step.TheVariants.{First, Negated, Plus, Minus, Times, Divide}
use Rattle.value.specs.declared.Turn.{Turn}

-- a step with what is left where its value begins, or none
abbrev pub NextTurn : Type 0
NextTurn = Option (Step × List ℕ)

abbrev pub turn_of : Option Turn → NextTurn
turn_of (Some t) = Some (t.step, t.rest.now)
turn_of None = None

-- how an expression begins: it is empty, or has a sign, or its first product stands there
unfoldable pub start_of : Marks → List ℕ → NextTurn
start_of m [] = None
start_of m (x ∷ s) = cond (eqb x m.right) None (cond (eqb x m.minus) (Some (Negated, s)) (cond (eqb x m.plus) (Some (First, s)) (Some (First, x ∷ s))))

-- how a sum or a product goes on: by the step k after the byte b, by k' after b', or not
unfoldable pub next_of : List ℕ → ℕ → Step → ℕ → Step → NextTurn
next_of [] b k b' k' = None
next_of (x ∷ s) b k b' k' = cond (eqb x b) (Some (k, s)) (cond (eqb x b') (Some (k', s)) None)

abbrev pub next_sum : Marks → List ℕ → NextTurn
next_sum m s = next_of s m.plus Plus m.minus Minus

abbrev pub next_factor : Marks → List ℕ → NextTurn
next_factor m s = next_of s m.times Times m.divide Divide
