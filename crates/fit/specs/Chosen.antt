-- What first_reading answers: the chosen reading of the line, how many places were taken up to find it, and how many bytes were read.
use Rattle.std.specs.Prelude.{◌≡◌, ℕ, ◌+◌, ◌<◌, ◌≤◌, List, [], map, length, take, drop, slice_index, slice_index_or, Option, IsNone, IfSome}
use Rattle.std.proofs.Math.Option.{none, some}
use Rattle.model.specs.Limits.{line_most, nodes_most, dead_least}
use Rattle.model.specs.declared.Marks.{Marks}
use Rattle.model.specs.Text.{Bytes}
use Rattle.model.specs.Reading.{Reading as ReadingOf, chosen}
use Rattle.model.specs.Fitting.{Distinct}
use Rattle.model.specs.Places.{places_taken, bytes_read}
use Rattle.model.specs.Results.{starts_of, nine}
use Rattle.nodes.specs.declared.Node.{Node}
use Rattle.nodes.specs.SideBySide.{SideBySide, Stands}
use Rattle.fit.specs.declared.Notes.{Notes}
use Rattle.fit.specs.declared.Reading.{Reading}
use Rattle.fit.specs.declared.Choice.{Choice}

-- the call of a template, with the pieces that are noted
abbrev pub reading_of : Notes → ℕ → Reading
reading_of ns template = record { template = template; starts = ns.starts; lens = ns.lens }

-- a call or none, with what is counted
abbrev pub choice_of : Notes → Option Reading → Choice
choice_of ns r = record { reading = r; places = ns.places; bytes = ns.bytes }

-- what fitting a line asks: a tree of `count` nodes stands in the row of nodes, and the row of dead places is long enough
pub record Fits (row : List Node) (count : ℕ) (dead line : Bytes) : Type 0 where
  pub stands : Stands row count
  pub few : count ≤ nodes_most
  pub short : length line ≤ line_most
  pub room : dead_least ≤ length dead

-- the first `count` nodes of the row are the tree of the templates ts, no two of which are equal, and the brackets differ
pub record TreeAt (m : Marks) (row : List Node) (count : ℕ) (ts : List Bytes) : Type 0 where
  pub within : count ≤ length row
  pub few : count ≤ nodes_most
  pub tree : SideBySide m ts (take count row)
  pub distinct : Distinct ts
  pub differ : ¬ (m.left ≡ m.right)

-- the call is the chosen reading of the line by the templates ts
pub record Chosen (m : Marks) (ts : List Bytes) (line : Bytes) (r : Reading) : Type 0 where
  pub reading : ReadingOf
  pub is : chosen m ts line ≡ some reading
  pub which : reading.which ≡ r.template
  pub place : r.template < length ts
  pub starts : r.starts ≡ nine (starts_of m 0 (slice_index_or ts r.template []) reading.pieces)
  pub lens : r.lens ≡ nine (map (λ p. length p) reading.pieces)
  pub few : length reading.pieces ≤ 9
  pub piece : (i : ℕ) → i < length reading.pieces → slice_index_or reading.pieces i [] ≡ take (slice_index r.lens i) (drop (slice_index r.starts i) line)

-- the call is the chosen reading by any templates whose tree stands in the row, or there is none
pub record Chooses (m : Marks) (row : List Node) (count : ℕ) (line : Bytes) (c : Choice) : Type 0 where
  pub no_call : IsNone c.reading → (ts : List Bytes) → TreeAt m row count ts → chosen m ts line ≡ none
  pub call : IfSome c.reading (λ r. (ts : List Bytes) → TreeAt m row count ts → Chosen m ts line r)
  pub within : IfSome c.reading (λ r. (i : ℕ) → slice_index r.starts i + slice_index r.lens i ≤ length line)
  pub places : (ts : List Bytes) → TreeAt m row count ts → c.places ≡ places_taken m ts line
  pub bytes : (ts : List Bytes) → TreeAt m row count ts → c.bytes ≡ bytes_read m ts line
