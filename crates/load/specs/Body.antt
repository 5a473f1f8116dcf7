-- What a line of a macro's body comes to.
use Rattle.std.specs.Prelude.{◌≡◌, true, false, Option, Some, None, Ok, Err, ℕ}
use Rattle.model.specs.declared.Marks.{Marks}
use Rattle.model.specs.declared.Effect.{Effect}
use Rattle.model.specs.Text.{Bytes, up_to}
use Rattle.model.specs.Load.{effect_here, unmatched, open_after, is_owner, code_line, after_line}
use Rattle.load.specs.declared.Loader.{Loader}
use Rattle.load.specs.declared.Next.{Next}
use Rattle.load.specs.Lines.{in_body, opened, due, LineSeen, progress_of, seen_of}

-- a code line with the effect e stands in its place, where n iterations are open, and `next` follows it
pub record Stands (e : Effect) (n : ℕ) (next : Next) : Type 0 where
  pub matched : unmatched e n ≡ false
  pub inside : in_body next ≡ true
  pub opens : opened next ≡ open_after e n
  pub owner : due next ≡ is_owner e

-- or it is malformed or out of place
abbrev pub Nests : Effect → ℕ → Option Next → Type 0
Nests e n (Some next) = Stands e n next
Nests e n None = unmatched e n ≡ true

-- r follows a line of a body with the content c
pub record Follows (m : Marks) (next : Next) (c : Bytes) (r : Option Next) : Type 0 where
  pub nests : in_body next ≡ true → Nests (effect_here m (due next) c) (opened next) r

-- the macros are as they were
pub record MacrosKept (l k : Loader) : Type 0 where
  pub table : k.table ≡ l.table
  pub nodes : k.nodes ≡ l.nodes

-- no code line ends the section; after a fault the loader is as it was
abbrev pub CodeKept : Loader → Loader → LineSeen → Type 0
CodeKept l k (Err f) = k ≡ l
CodeKept l k (Ok None) = MacrosKept l k
CodeKept l k (Ok (Some x)) = ⊥

-- a code line or a layout comes to r, and the loader l to k
pub record AddsCode (m : Marks) (l : Loader) (line : Bytes) (k : Loader) (r : LineSeen) : Type 0 where
  pub is : (text : Bytes) → code_line (progress_of m text l) (up_to m.code line) (effect_here m (due l.next) (up_to m.code line)) ≡ seen_of m text k r
  pub kept : CodeKept l k r

-- after a fault and at the section's end the loader is as it was
abbrev pub EndKept : Marks → Loader → ℕ → ℕ → Loader → LineSeen → Type 0
EndKept m l n next k (Err f) = k ≡ l
EndKept m l n next k (Ok None) = MacrosKept l k
EndKept m l n next k (Ok (Some x)) = (k ≡ l) × (x ≡ record { line = n; marks = m; nodes = l.nodes; input = next })

-- the end of a macro or of the section, line n, comes to r, and the loader l to k; `rest` is what follows the line's first byte
pub record EndsMacro (m : Marks) (l : Loader) (n next : ℕ) (rest : Bytes) (k : Loader) (r : LineSeen) : Type 0 where
  pub is : (text : Bytes) → after_line m (progress_of m text l) rest ≡ seen_of m text k r
  pub kept : EndKept m l n next k r
