-- How large the states of a run are: what the arrays and numbers of the code rest on.
use Rattle.std.specs.Prelude.{◌≡◌, Bool, true, false, ◌&&◌, List, [], ◌∷◌, ℕ, zero, suc, ◌≤◌, eqb, leb, length}
use Rattle.std.proofs.Math.Option.{Option, none, some}
use Rattle.model.specs.Limits.{line_most, names_most, memory_most}
use Rattle.model.specs.declared.Marks.{Marks}
use Rattle.model.specs.declared.Effect.TheVariants.{Malformed, Plain, Opens, Closes, Owns}
use Rattle.model.specs.Text.{Bytes}
use Rattle.model.specs.Code.{effect}
use Rattle.model.specs.Store.{Store, size}
use Rattle.model.specs.Load.{Macro}
use Rattle.model.specs.Machine.{Loop, by_pieces, by_count, Frame, Rooms, Shared, State}

-- each text has at most n bytes
abbrev pub AllShort : ℕ → List Bytes → Type 0
AllShort n [] = Unit {0}
AllShort n (l ∷ ls) = (length l ≤ n) × AllShort n ls

-- the code lines that remain, with n iterations open; `due`: the first is a layout
unfoldable pub nested : Marks → Bool → ℕ → List Bytes → Bool
nested m true n [] = false
nested m false n [] = eqb n 0
nested m true n (c ∷ cs) = nested m false n cs
nested m false n (c ∷ cs) =
    elim (effect m c) [
      | Malformed ↦ false
      | Plain ↦ nested m false n cs
      | Opens ↦ leb (suc n) 4 && nested m false (suc n) cs
      | Closes ↦ elim n [ zero ↦ false | suc k ↦ nested m false k cs ]
      | Owns ↦ nested m true n cs
    ]

-- the code lines that remain are well nested, with n of at most four iterations open
unfoldable pub well_nested : Marks → ℕ → List Bytes → Bool
well_nested m n cs = leb n 4 && nested m false n cs

-- every body is well nested, and its code lines have at most 200 bytes
abbrev pub BodiesOk : Marks → List Macro → Type 0
BodiesOk m [] = Unit {0}
BodiesOk m (x ∷ xs) = (well_nested m 0 x.body ≡ true) × AllShort line_most x.body × BodiesOk m xs

-- the code lines after an open iteration's opening line
unfoldable pub after_of : Loop → List Bytes
after_of (by_pieces d rest ds old after) = after
after_of (by_count left after) = after

-- an iteration's lines are well nested with it and those around it open
abbrev pub LoopsOk : Marks → List Loop → Type 0
LoopsOk m [] = Unit {0}
LoopsOk m (l ∷ ls) = (well_nested m (suc (length ls)) (after_of l) ≡ true) × LoopsOk m ls

pub record Nested (m : Marks) (f : Frame) : Type 0 where
  pub lines : well_nested m (length f.loops) f.next ≡ true
  pub around : LoopsOk m f.loops

-- every open call is well nested
abbrev pub FramesOk : Marks → List Frame → Type 0
FramesOk m [] = Unit {0}
FramesOk m (f ∷ fs) = Nested m f × FramesOk m fs

-- an iteration's rest and old value have at most 200 bytes
abbrev pub LoopsSmall : List Loop → Type 0
LoopsSmall [] = Unit {0}
LoopsSmall (by_pieces d rest ds old after ∷ ls) = (length rest ≤ line_most) × (length old ≤ line_most) × LoopsSmall ls
LoopsSmall (by_count left after ∷ ls) = LoopsSmall ls

-- an open call, where n calls were made
pub record FrameSmall (n : ℕ) (f : Frame) : Type 0 where
  pub number : f.number ≤ n
  pub nine_params : length f.params ≡ 9
  pub params : AllShort line_most f.params
  pub nine_delimiters : length f.delimiters ≡ 9
  pub delimiters : AllShort 1 f.delimiters
  pub loops : LoopsSmall f.loops

-- every open call is small
abbrev pub FramesSmall : ℕ → List Frame → Type 0
FramesSmall n [] = Unit {0}
FramesSmall n (f ∷ fs) = FrameSmall n f × FramesSmall n fs

-- each stored name and text has at most 200 bytes
abbrev pub EntriesShort : Store → Type 0
EntriesShort [] = Unit {0}
EntriesShort (e ∷ more) = (length e.0 ≤ line_most) × (length e.1 ≤ line_most) × EntriesShort more

-- what calls share: 256 names, 8,192 bytes; each number of ed2 has its name; each output fits its room
pub record SharedSmall (room : Rooms) (w : Shared) : Type 0 where
  pub names : length w.store ≤ names_most
  pub bytes : size w.store ≤ memory_most
  pub entries : EntriesShort w.store
  pub symbols : w.symbols ≤ length w.store
  pub first : length w.output.first ≤ room.first
  pub second : length w.output.second ≤ room.second

-- a pending line has at most 200 bytes
abbrev pub PendingSmall : Option Bytes → Type 0
PendingSmall none = Unit {0}
PendingSmall (some l) = length l ≤ line_most

-- a state, whatever its pending line: an input line that is too long ends the run while it is pending
pub record Small (room : Rooms) (s : State) : Type 0 where
  pub shared : SharedSmall room s.shared
  pub frames : FramesSmall s.calls s.frames
  pub few : length s.frames ≤ 12
  pub calls : s.calls ≤ s.events

-- at most four iterations are open in each call
abbrev pub LoopsFew : List Frame → Type 0
LoopsFew [] = Unit {0}
LoopsFew (f ∷ fs) = (length f.loops ≤ 4) × LoopsFew fs
