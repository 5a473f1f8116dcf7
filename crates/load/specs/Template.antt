-- What a line at a template's place comes to.
use Rattle.std.specs.Prelude.{◌≡◌, List, [], Result, Ok, Err, IfOk, ℕ, ◌+◌, ◌≤◌, ◌<◌, length}
use Rattle.std.proofs.Math.Option.{Option, none, some}
use Rattle.model.specs.Limits.{line_most, macros_most, nodes_most}
use Rattle.model.specs.declared.Marks.{Marks}
use Rattle.model.specs.Text.{Bytes}
use Rattle.model.specs.Load.{Macro, templates, nodes, fresh, template_fault}
use Rattle.faults.specs.declared.LoadFault.{LoadFault}
use Rattle.faults.specs.Numbers.{load_number}
use Rattle.templates.specs.Order.{GoesTo}
use Rattle.templates.specs.declared.Found.{Found}

-- the number of the fault that a template is found to have
abbrev pub weighed_fault : Result Found LoadFault → Option ℕ
weighed_fault (Err f) = some (load_number f)
weighed_fault (Ok w) = none

-- the macros ms have the templates ts, and their tree so many nodes
pub record Tabled (ts : List Bytes) (n : ℕ) (ms : List Macro) : Type 0 where
  pub stand : templates ms ≡ ts
  pub counted : nodes ms ≡ n

-- the template c is short, one more macro is legal, with it the tree of whatever macros have the templates ts has so many nodes more, and it
-- goes to a place of the order. p is the placeholder
pub record HasRoom (p : ℕ) (ts : List Bytes) (order : ℕ → ℕ) (n : ℕ) (c : Bytes) (w : Found) : Type 0 where
  pub short : length c ≤ line_most
  pub few : length ts < macros_most
  pub tree : n + w.new ≤ nodes_most
  pub counted : (ms : List Macro) → Tabled ts n ms → nodes ms + fresh [] c ms ≡ n + w.new
  pub within : w.place ≤ length ts
  pub goes : GoesTo p ts order c w.place

-- the template c is weighed, whatever macros have the templates ts
pub record Weighs (p : ℕ) (ts : List Bytes) (order : ℕ → ℕ) (n : ℕ) (c : Bytes) (r : Result Found LoadFault) : Type 0 where
  pub is : (m : Marks) → m.placeholder ≡ p → (ms : List Macro) → Tabled ts n ms → template_fault m ms c ≡ weighed_fault r
  pub room : IfOk r (HasRoom p ts order n c)
