-- What the methods of a call answer.
use Rattle.std.specs.Prelude.{◌≡◌, Option, List, [], ◌∷◌, ℕ, ◌+◌, ◌-◌, ◌≤◌, ◌<◌, length, get_or, set, replicate}
use Rattle.model.specs.Limits.{line_most, fuel_most}
use Rattle.model.specs.declared.Marks.{Marks}
use Rattle.model.specs.Text.{Bytes, part}
use Rattle.model.specs.Load.{body_at}
use Rattle.model.specs.Machine.{Frame, param, with_param, resume_at}
use Rattle.pass.specs.Pass.{delimiter_bytes}
use Rattle.call.specs.declared.Param.{Param}
use Rattle.call.specs.declared.Kind.{Kind}
use Rattle.call.specs.declared.Call.{Call}
use Rattle.call.specs.Call.{no_param, loop_by, frame_of, PlacedKind, Placed}

-- a piece lies in the line, and is not too long
pub record PieceInside (line : Bytes) (at len : ℕ) : Type 0 where
  pub inside : at + len ≤ length line
  pub short : len ≤ line_most

-- the nine pieces lie in the line
pub record PiecesInside (line : Bytes) (starts lens : List ℕ) : Type 0 where
  pub each : (i : ℕ) → i < 9 → PieceInside line (get_or starts i 0) (get_or lens i 0)

-- the pieces, from their starts and lengths
unfoldable pub pieces_at : Bytes → List ℕ → List ℕ → List Bytes
pieces_at line [] ns = []
pieces_at line (a ∷ rest) [] = []
pieces_at line (a ∷ rest) (n ∷ ns) = part line a (a + n) ∷ pieces_at line rest ns

-- r is a new call, at place `next` of whatever text
pub record Opens (number next : ℕ) (line : Bytes) (starts lens : List ℕ) (r : Call) : Type 0 where
  pub frame : (m : Marks) (text : Bytes) → frame_of m text r ≡ record { number = number; params = pieces_at line starts lens; delimiters = replicate 9 []; next = body_at m text next; loops = [] }
  pub same : (r.number ≡ number) × (r.next ≡ next)
  pub placed : (text : Bytes) → number ≤ fuel_most → next ≤ length text → Placed text r

-- s is parameter d
pub record Reads (c : Call) (d : ℕ) (s : Bytes) : Type 0 where
  pub is : (m : Marks) (text : Bytes) → param (frame_of m text c) d ≡ s
  pub short : length s ≤ line_most

-- parameter d is another
pub record Sets (c : Call) (d : ℕ) (s : Bytes) (r : Call) : Type 0 where
  pub frame : (m : Marks) (text : Bytes) → frame_of m text r ≡ with_param (frame_of m text c) d s
  pub placed : (text : Bytes) → Placed text c → Placed text r

-- b is the latest delimiter of parameter d
pub record Delimiter (c : Call) (d : ℕ) (b : Option ℕ) : Type 0 where
  pub is : (m : Marks) (text : Bytes) → get_or (frame_of m text c).delimiters (d - 1) [] ≡ delimiter_bytes b

-- the call with another latest delimiter of parameter d
unfoldable pub with_delimiter : Frame → ℕ → Bytes → Frame
with_delimiter f d b = record { number = f.number; params = f.params; delimiters = set f.delimiters (d - 1) b; next = f.next; loops = f.loops }

pub record Delimits (c : Call) (d : ℕ) (b : Option ℕ) (r : Call) : Type 0 where
  pub frame : (m : Marks) (text : Bytes) → frame_of m text r ≡ with_delimiter (frame_of m text c) d (delimiter_bytes b)
  pub placed : (text : Bytes) → Placed text c → Placed text r

-- q is p with another latest delimiter, in whatever call and place it is the parameter
pub record DelimitsParam (p : Param) (b : Option ℕ) (q : Param) : Type 0 where
  pub call : (c : Call) (d : ℕ) → get_or c.params (d - 1) no_param ≡ p → Delimits c d b (record c { params = set c.params (d - 1) q })

-- r is c, at place `next`
pub record Moves (c : Call) (next : ℕ) (r : Call) : Type 0 where
  pub is : r ≡ record c { next = next }
  pub frame : (m : Marks) (text : Bytes) → frame_of m text r ≡ resume_at (frame_of m text c) (frame_of m text c).loops (body_at m text next)
  pub placed : (text : Bytes) → Placed text c → next ≤ length text → Placed text r

-- r is c in an iteration that begins in front of its next code line
pub record Enters (c : Call) (k : Kind) (r : Call) : Type 0 where
  pub frame : (m : Marks) (text : Bytes)
      → frame_of m text r ≡ resume_at (frame_of m text c) (loop_by text (frame_of m text c).next k ∷ (frame_of m text c).loops) (frame_of m text c).next
  pub placed : (text : Bytes) → Placed text c → PlacedKind text k → Placed text r
