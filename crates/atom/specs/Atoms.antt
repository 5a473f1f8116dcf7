-- Where the first atom of a line from a place on ends, and how many bytes a look for it reads.
use Rattle.std.specs.Prelude.{◌≡◌, true, false, ℕ, suc, ◌-◌, ◌≤◌, ◌<◌, eqb, length, drop, IsNone, IfSome}
use Rattle.std.proofs.Math.Option.{none, some}
use Rattle.model.specs.declared.Marks.{Marks}
use Rattle.model.specs.Text.{Bytes, part}
use Rattle.model.specs.Reading.{atom}
use Rattle.model.specs.Places.{bytes_of_look}
use Rattle.atom.specs.declared.Scanned.{Scanned}

-- marks with these brackets; no atom asks for the others
abbrev pub brackets : ℕ → ℕ → Marks
brackets l r = record { source = 0; placeholder = 0; code = 0; escape = 0; blank = 0; left = l; plus = 0; minus = 0; times = 0; divide = 0; right = r }

-- how many brackets are open past the byte b, where d were
unfoldable pub depth_past : Marks → ℕ → ℕ → ℕ
depth_past m b d = elim (eqb b m.left) [ true ↦ suc d | false ↦ elim (eqb b m.right) [ true ↦ d - 1 | false ↦ d ] ]

-- the line's first atom from place `at` on ends at place e
pub record EndsAtom (m : Marks) (line : Bytes) (at e : ℕ) : Type 0 where
  pub is : atom m (drop at line) ≡ some (part line at e, drop e line)
  pub ahead : at < e
  pub within : e ≤ length line

-- the line's first atom from place `at` on ends at the answer's end, if there is one. What was read is what the look reads
pub record AtomAt (m : Marks) (line : Bytes) (at : ℕ) (r : Scanned) : Type 0 where
  pub nowhere : IsNone r.end → atom m (drop at line) ≡ none
  pub found : IfSome r.end (EndsAtom m line at)
  pub read : r.read ≡ bytes_of_look m (drop at line)
