-- Document 01's number for each fault.
use Rattle.std.specs.Prelude.{ℕ}
use Rattle.faults.specs.declared.LoadFault.{LoadFault}
use Rattle.faults.specs.declared.LoadFault.TheVariants.{BadText, BadFlags, LongContent, ManyPlaceholders, MetTemplate, BadCode, OpenSection, OverLimit}
use Rattle.faults.specs.declared.RunFault.{RunFault}
use Rattle.faults.specs.declared.RunFault.TheVariants.{LongInput, LongLine, NoRoom, DeepCall, NoValue, NoCodePoint, NoAtom, BadSkip, FullStore, NoFuel, BadCharacter}
use Rattle.faults.specs.declared.Fault.{Fault}
use Rattle.faults.specs.declared.Fault.TheVariants.{Illegal, Load, Run}

abbrev pub load_number : LoadFault → ℕ
load_number BadText = 2
load_number BadFlags = 3
load_number LongContent = 4
load_number ManyPlaceholders = 5
load_number MetTemplate = 6
load_number BadCode = 7
load_number OpenSection = 8
load_number OverLimit = 9

abbrev pub run_number : RunFault → ℕ
run_number LongInput = 11
run_number LongLine = 12
run_number NoRoom = 13
run_number DeepCall = 14
run_number NoValue = 15
run_number NoCodePoint = 16
run_number NoAtom = 17
run_number BadSkip = 18
run_number FullStore = 19
run_number NoFuel = 20
run_number BadCharacter = 21

abbrev pub fault_number : Fault → ℕ
fault_number Illegal = 1
fault_number (Load cause) = load_number cause
fault_number (Run cause) = run_number cause
