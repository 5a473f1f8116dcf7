-- step leaves the call where no code line is left, ends the run where no fuel is left, and else counts the event and moves the call before its code line is
-- carried out.
-- The check finds none of these goals alone, nor with the laws named at the function.
use mathlib.Core.Path.{refl}
use native.Mathlib.Nat.{pos_of_ne-zero}
use Rattle.scan.proofs.Places.{code_line}
use Rattle.carry.proofs.Carrying.{ready, carries_halt, carries_finish}
use Rattle.carry.proofs.Stepping.{counted_sound, few_open, steps_back, steps_spent, steps_on}
use Rattle.carry.proofs.step.Goals as goal

pub returns-in_default : goal.returns-in_default
returns-in_default c =
    let pre = c.requires in
    steps_back pre.1 c.read_code.ensures pre.0 c.args.line.now c.in_default.is refl

pub returns-then-s-eq0 : goal.returns-then-s-eq0
returns-then-s-eq0 c =
    let pre = c.requires in
    steps_spent pre.1 c.read_code.ensures pre.0 c.args.line.now c.in-Some.is c.if-s-eq0.true refl

pub returns-in_err-ending : goal.returns-in_err-ending
returns-in_err-ending c =
    let pre = c.requires in
    let some_fuel = pos_of_ne-zero c.if-s-eq0.false in
    let moved = c.move_to.ensures.placed _ pre.1.placed (code_line c.read_code.ensures c.in-Some.is).within in
    let halts = carries_halt c.build_line.ensures c.in_err-ending.was (counted_sound pre.0 some_fuel c.count_event.ensures) moved c.from_residual.ensures.1 in
    steps_on pre.1 c.read_code.ensures _ c.build_line.new.line c.in-Some.is some_fuel c.move_to.ensures c.count_event.ensures halts

pub finish_code-requires-clause-ready : goal.finish_code-requires-clause-ready
finish_code-requires-clause-ready c =
    let few = few_open c.requires.1 c.read_code.ensures c.in-Some.is c.move_to.ensures in
    ready c.build_line.ensures c.in_ok-ending.was c.as_bytes.ensures few

pub returns : goal.returns
returns c =
    let pre = c.requires in
    let some_fuel = pos_of_ne-zero c.if-s-eq0.false in
    let finishes = carries_finish c.build_line.ensures c.in_ok-ending.was c.as_bytes.ensures c.finish_code.ensures in
    steps_on pre.1 c.read_code.ensures _ c.build_line.new.line c.in-Some.is some_fuel c.move_to.ensures c.count_event.ensures finishes
