-- What the inner functions ask for and answer.
use Rattle.std.specs.Prelude.{◌≡◌, List, [], ℕ, ◌≤◌, ◌<◌, length, take}
use Rattle.model.specs.Limits.{text_most, macros_most}
use Rattle.model.specs.declared.Ran.{Ran}
use Rattle.model.specs.Text.{Bytes}
use Rattle.model.specs.Store.{listing}
use Rattle.model.specs.Load.{loaded, load}
use Rattle.buffer.specs.Written.{Written}
use Rattle.nodes.specs.declared.Node.{Node}
use Rattle.state.specs.declared.State.{State}
use Rattle.macros.specs.Table.{line_in}
use Rattle.load.specs.declared.Loaded.{Loaded}
use Rattle.load.specs.Answer.{loaded_of}
use Rattle.prepare.specs.declared.Prepared.{Prepared}
use Rattle.matching.specs.Book.{Basis, basis, Book}
use Rattle.answer.specs.Answers.{Answer, end_number}

-- what the run of a text that is loaded into t goes by
abbrev pub basis_of : Bytes → List Node → Prepared → Basis
basis_of text row t = basis t.loaded.marks text (take t.loaded.nodes row) t.table

-- a text is loaded into t, and the tree of its templates stands in the row
pub record ReadyToRun (text : Bytes) (row : List Node) (t : Prepared) : Type 0 where
  pub loads : load text ≡ loaded (loaded_of text t.table t.loaded)
  pub book : Book (basis_of text row t) (loaded_of text t.table t.loaded)
  pub within : t.loaded.nodes ≤ length row
  pub few : t.table.count ≤ macros_most
  pub lines : (k : ℕ) → k < t.table.count → line_in t.table k ≤ text_most
  pub at : t.loaded.input ≤ length text
  pub line : t.loaded.line ≤ text_most

-- the state before the first input line
abbrev pub start_of : Loaded → ℕ → State
start_of r fuel = record { at = r.input; line = r.line; calls = 0; symbols = 0; store = []; written = 0; second = 0; events = 0; fuel = fuel }

-- r is the answer of a run that ended with q in the state s, with a report of so many bytes, and what s stores is listed in the store
pub record EndsRun (q : Answer) (reported : ℕ) (s : State) (store : Bytes) (r : Ran) (store' : Bytes) : Type 0 where
  pub is : r ≡ record {
    number = end_number q;
    line = s.line;
    events = s.events;
    output = s.written;
    second = s.second;
    store = r.store;
    report = reported;
  }
  pub lists : Written store (listing s.store) r.store store'
