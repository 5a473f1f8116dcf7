-- What the head of a text comes to.
use Rattle.std.specs.Prelude.{◌≡◌, Result, Ok, Err, IfOk, IfErr, ℕ, ◌≤◌, ◌<◌, length, drop}
use Rattle.model.specs.Text.{Bytes, lines}
use Rattle.model.specs.Load.{Load, refused, load_from, none_read, load}
use Rattle.faults.specs.declared.LoadFault.{LoadFault}
use Rattle.faults.specs.declared.LoadFault.TheVariants.{BadText, BadFlags, LongContent, ManyPlaceholders, MetTemplate, BadCode, OpenSection, OverLimit}
use Rattle.faults.specs.Numbers.{load_number}
use Rattle.load.specs.declared.head.Head.{Head}
use Rattle.load.specs.declared.Refused.{Refused}

-- the section starts after a line
pub record SectionAt (text : Bytes) (first : ℕ) : Type 0 where
  pub later : 0 < first
  pub within : first ≤ length text

-- what a text comes to by its head: document 01's number and line, or what its section comes to
abbrev pub head_of : Bytes → Result Head Refused → Load
head_of text (Ok h) = load_from h.marks none_read 1 (lines (drop h.first text))
head_of text (Err f) = refused (load_number f.fault) f.line

-- a head has two faults, each at its place: the text's at line 0, which is the text as a whole, and the flag line's at line 1; the others are a section's
abbrev pub HeadFault : LoadFault → ℕ → Type 0
HeadFault BadText n = n ≡ 0
HeadFault BadFlags n = n ≡ 1
HeadFault LongContent n = ⊥
HeadFault ManyPlaceholders n = ⊥
HeadFault MetTemplate n = ⊥
HeadFault BadCode n = ⊥
HeadFault OpenSection n = ⊥
HeadFault OverLimit n = ⊥

pub record ReadsHead (text : Bytes) (r : Result Head Refused) : Type 0 where
  pub is : load text ≡ head_of text r
  pub inside : IfOk r (λ h. SectionAt text h.first)
  pub head : IfErr r (λ f. HeadFault f.fault f.line)
