-- What an open call stands for in the expansion. Each definition is total: a length counts as at most 200, so that none asks an invariant.
use Rattle.std.specs.Prelude.{◌≡◌, None, List, [], ◌∷◌, map, ℕ, zero, suc, ◌≤◌, ◌<◌, min, length, get_or, take, drop}
use Rattle.model.specs.Limits.{line_most, fuel_most}
use Rattle.model.specs.declared.Marks.{Marks}
use Rattle.model.specs.Text.{Bytes, part}
use Rattle.model.specs.Load.{body_at}
use Rattle.model.specs.Machine.{Loop, by_pieces, by_count, Frame}
use Rattle.pass.specs.Pass.{delimiter_bytes}
use Rattle.call.specs.declared.Text.{Text}
use Rattle.call.specs.declared.Param.{Param}
use Rattle.call.specs.declared.Pieces.{Pieces}
use Rattle.call.specs.declared.Kind.{Kind}
use Rattle.call.specs.declared.Kind.TheVariants as Kinds
use Rattle.call.specs.declared.Iteration.{Iteration}
use Rattle.call.specs.declared.Call.{Call}

-- ---- texts and parameters

abbrev pub text_of : Text → Bytes
text_of x = take (min x.len line_most) x.bytes

-- x is the text s
pub record Holds (s : Bytes) (x : Text) : Type 0 where
  pub is : text_of x ≡ s

abbrev pub no_text : Text
no_text = record { len = 0; bytes = [] }

abbrev pub no_param : Param
no_param = record { text = no_text; delimiter = None }

abbrev pub texts_of : List Param → List Bytes
texts_of = map (λ p. text_of p.text)

abbrev pub delimiters_of : List Param → List Bytes
delimiters_of = map (λ p. delimiter_bytes p.delimiter)

-- ---- iterations

abbrev pub no_iteration : Iteration
no_iteration = record { after = 0; kind = Kinds.Count 0 }

-- the rest of the line that an ed7 goes over
abbrev pub rest_of : Pieces → Bytes
rest_of x = drop x.from (text_of x.line)

-- its list of delimiters
abbrev pub list_of : Bytes → Pieces → Bytes
list_of text x = part text x.list.start x.list.end

abbrev pub loop_by : Bytes → List Bytes → Kind → Loop
loop_by text after (Kinds.Count left) = by_count left after
loop_by text after (Kinds.Pieces x) = by_pieces x.param (rest_of x) (list_of text x) (text_of x.before) after

abbrev pub loop_of : Marks → Bytes → Iteration → Loop
loop_of m text x = loop_by text (body_at m text x.after) x.kind

-- the first k, the innermost first
unfoldable pub loops_of : Marks → Bytes → List Iteration → ℕ → List Loop
loops_of m text xs zero = []
loops_of m text xs (suc k) = loop_of m text (get_or xs k no_iteration) ∷ loops_of m text xs k

-- ---- a call

abbrev pub frame_of : Marks → Bytes → Call → Frame
frame_of m text c = record {
  number = c.number;
  params = texts_of c.params;
  delimiters = delimiters_of c.params;
  next = body_at m text c.next;
  loops = loops_of m text c.iterations c.depth;
}

-- what an ed7 says lies in the text and in its line
pub record PlacedPieces (text : Bytes) (x : Pieces) : Type 0 where
  pub some : 1 ≤ x.param
  pub param : x.param ≤ 9
  pub list : x.list.start ≤ x.list.end
  pub end : x.list.end ≤ length text
  pub from : x.from ≤ length (text_of x.line)

abbrev pub PlacedKind : Bytes → Kind → Type 0
PlacedKind text (Kinds.Count left) = Unit
PlacedKind text (Kinds.Pieces x) = PlacedPieces text x

-- what an iteration says lies in the text
pub record PlacedLoop (text : Bytes) (x : Iteration) : Type 0 where
  pub after : x.after ≤ length text
  pub kind : PlacedKind text x.kind

-- what a call says lies in the text
pub record Placed (text : Bytes) (c : Call) : Type 0 where
  pub number : c.number ≤ fuel_most
  pub next : c.next ≤ length text
  pub depth : c.depth ≤ 4
  pub iterations : (i : ℕ) → i < c.depth → PlacedLoop text (get_or c.iterations i no_iteration)
