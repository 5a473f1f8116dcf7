-- Code lines passed over, as places of the text: a place stands for the body's lines from there on.
use Rattle.std.specs.Prelude.{◌≡◌, ℕ, suc, ◌≤◌, ◌<◌, [], length, drop, Result, Ok, Err}
use Rattle.model.specs.Text.{Bytes}
use Rattle.model.specs.Load.{body_at}
use Rattle.model.specs.Machine as Machine
use Rattle.model.specs.declared.Marks.{Marks}
use Rattle.faults.specs.declared.RunFault.{RunFault}
use Rattle.faults.specs.declared.RunFault.TheVariants.{BadSkip}
use Rattle.faults.specs.Numbers.{run_number}
use Rattle.body.specs.declared.Passed.{Passed}
use Rattle.body.specs.declared.Passed.TheVariants.{Landed, Beyond}
use Rattle.body.specs.declared.Stepped.{Stepped}
use Rattle.body.specs.declared.Stepped.TheVariants.{Ended, Closed, On}

-- what an answer stands for: the lines from the place landed on, or the lines left
abbrev pub passed_of : Marks → Bytes → Result Passed RunFault → Machine.Passed
passed_of m text (Ok (Landed p)) = Machine.landed (body_at m text p)
passed_of m text (Ok (Beyond k)) = Machine.beyond k
passed_of m text (Err fault) = Machine.bad_landing

-- and document 01's number for it: a bad landing is 18
abbrev pub passed_fault : Result Passed RunFault → ℕ
passed_fault (Ok p) = 0
passed_fault (Err fault) = run_number fault

-- a landing lies from `at` on in the text, at most n lines are left, and no other fault comes of it
abbrev pub RangedPassed : Bytes → ℕ → ℕ → Result Passed RunFault → Type 0
RangedPassed text at n (Ok (Landed p)) = (at ≤ p) × (p ≤ length text)
RangedPassed text at n (Ok (Beyond k)) = k ≤ n
RangedPassed text at n (Err fault) = fault ≡ BadSkip

-- the body at r is that at `at` without its first line
pub record DropsFirst (m : Marks) (text : Bytes) (at r : ℕ) : Type 0 where
  pub is : drop 1 (body_at m text at) ≡ body_at m text r
  pub from : at ≤ r
  pub within : r ≤ length text

-- n lines passed over from `at` on come to r
pub record PassesOver (m : Marks) (text : Bytes) (at n : ℕ) (r : Result Passed RunFault) : Type 0 where
  pub is : Machine.pass_over m n 0 (body_at m text at) ≡ passed_of m text r
  pub number : passed_fault r ≡ Machine.landing_fault (Machine.pass_over m n 0 (body_at m text at))
  pub ranged : RangedPassed text at n r

-- the lines past the iteration that goes on at `at` are those at r
pub record Leaves (m : Marks) (text : Bytes) (at r : ℕ) : Type 0 where
  pub is : Machine.past_loop m 0 (body_at m text at) ≡ body_at m text r
  pub from : at ≤ r
  pub within : r ≤ length text

-- the line at `at`, in which the iteration around the first line ends
pub record Shuts (m : Marks) (text : Bytes) (at depth p : ℕ) : Type 0 where
  pub none_open : depth ≡ 0
  pub skip : (n : ℕ) → Machine.pass_over m (suc n) depth (body_at m text at) ≡ Machine.bad_landing
  pub leave : Machine.past_loop m depth (body_at m text at) ≡ body_at m text p
  pub ahead : at < p
  pub within : p ≤ length text

-- the line at `at`, after which d iterations are open and the lines at p follow
pub record Goes (m : Marks) (text : Bytes) (at depth p d : ℕ) : Type 0 where
  pub skip : (n : ℕ) → Machine.pass_over m (suc n) depth (body_at m text at) ≡ Machine.pass_over m n d (body_at m text p)
  pub leave : Machine.past_loop m depth (body_at m text at) ≡ Machine.past_loop m d (body_at m text p)
  pub ahead : at < p
  pub within : p ≤ length text
  pub few : d ≤ p

abbrev pub StepsTo : Marks → Bytes → ℕ → ℕ → Stepped → Type 0
StepsTo m text at depth Ended = body_at m text at ≡ []
StepsTo m text at depth (Closed p) = Shuts m text at depth p
StepsTo m text at depth (On p d) = Goes m text at depth p d

-- r is what the code line at `at` comes to, with `depth` iterations opened before it
pub record StepsOver (m : Marks) (text : Bytes) (at depth : ℕ) (r : Stepped) : Type 0 where
  pub is : StepsTo m text at depth r
