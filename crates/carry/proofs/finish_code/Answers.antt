-- finish_code does what the ending says: each arm is its leaf's. After those that a fault may end the call goes on.
-- The check finds none of these goals alone, nor with the laws named at the function.
use mathlib.Core.Path.{refl}
use borrow.Author.Rules.{rules}
use Rattle.carry.proofs.Endings.{iterate_parameter, iterate_depth, repeat_depth, went_on, broke_off}
use Rattle.carry.proofs.Endings.{ends_offer, ends_assign, ends_iterate, ends_stop, ends_write, ends_layout, ends_copy, ends_save, ends_skip, ends_text, ends_value, ends_repeat, ends_again, ends_leave, ends_malformed}
use Rattle.carry.proofs.finish_code.Goals as goal

pub start_pass-requires-clause-depth_lt_nesting_most : goal.start_pass-requires-clause-depth_lt_nesting_most
start_pass-requires-clause-depth_lt_nesting_most c =
    let ready = c.requires.ready in
    let d = iterate_parameter ready c.in-Iterate.is in
    (iterate_depth ready c.in-Iterate.is, (d.least, d.most))

pub repeat-requires : goal.repeat-requires
repeat-requires c =
    let pre = c.requires in
    (pre.sound.1.next, repeat_depth pre.ready c.in-Repeat.is)

pub returns-in-Offer : goal.returns-in-Offer
returns-in-Offer c = search (ends_offer, rules)

pub returns-in-Assign : goal.returns-in-Assign
returns-in-Assign c = search (ends_assign, rules)

pub returns-in-Stop : goal.returns-in-Stop
returns-in-Stop c = search (ends_stop, rules)

pub returns-in-Skip : goal.returns-in-Skip
returns-in-Skip c =
    let sound = c.requires.sound in
    ends_skip sound.0 sound.1 c.in-Skip.is (c.skip_by.ensures.comes _ _ sound.1 sound.0)

pub returns-in-SkipText : goal.returns-in-SkipText
returns-in-SkipText c =
    let sound = c.requires.sound in
    ends_text sound.0 sound.1 c.in-SkipText.is (c.skip_text.ensures.comes _ _ sound.1 sound.0)

pub returns-in-SkipValue : goal.returns-in-SkipValue
returns-in-SkipValue c =
    let sound = c.requires.sound in
    ends_value sound.0 sound.1 c.in-SkipValue.is (c.skip_value.ensures.comes _ _ sound.1 sound.0)

pub returns-in-Leave : goal.returns-in-Leave
returns-in-Leave c = search (ends_leave, rules)

pub returns-in-Malformed : goal.returns-in-Malformed
returns-in-Malformed c = search (ends_malformed, rules)

pub returns-in_ok-start_pass-in-Iterate : goal.returns-in_ok-start_pass-in-Iterate
returns-in_ok-start_pass-in-Iterate c =
    let sound = c.requires.sound in
    ends_iterate _ c.args.code.end sound.0 sound.1 c.in-Iterate.is c.start_pass.ensures (went_on c.in_ok-start_pass-in-Iterate.was refl)

pub returns-in_err-start_pass-in-Iterate : goal.returns-in_err-start_pass-in-Iterate
returns-in_err-start_pass-in-Iterate c =
    let sound = c.requires.sound in
    ends_iterate _ c.args.code.end sound.0 sound.1 c.in-Iterate.is c.start_pass.ensures (broke_off c.in_err-start_pass-in-Iterate.was (search rules))

pub returns-in_ok-write-in-Write : goal.returns-in_ok-write-in-Write
returns-in_ok-write-in-Write c =
    let sound = c.requires.sound in
    ends_write sound.0 sound.1 c.in-Write.is c.write.ensures (went_on c.in_ok-write-in-Write.was refl)

pub returns-in_err-write-in-Write : goal.returns-in_err-write-in-Write
returns-in_err-write-in-Write c =
    let sound = c.requires.sound in
    ends_write sound.0 sound.1 c.in-Write.is c.write.ensures (broke_off c.in_err-write-in-Write.was (search rules))

pub returns-in_ok-write_layout_line-in-Layout : goal.returns-in_ok-write_layout_line-in-Layout
returns-in_ok-write_layout_line-in-Layout c =
    let sound = c.requires.sound in
    ends_layout sound.0 sound.1 c.in-Layout.is (c.write_layout_line.ensures.comes _ sound.0) (went_on c.in_ok-write_layout_line-in-Layout.was refl)

pub returns-in_err-write_layout_line-in-Layout : goal.returns-in_err-write_layout_line-in-Layout
returns-in_err-write_layout_line-in-Layout c =
    let sound = c.requires.sound in
    ends_layout sound.0 sound.1 c.in-Layout.is (c.write_layout_line.ensures.comes _ sound.0) (broke_off c.in_err-write_layout_line-in-Layout.was (search rules))

pub returns-in_ok-copy_input-in-Copy : goal.returns-in_ok-copy_input-in-Copy
returns-in_ok-copy_input-in-Copy c =
    let sound = c.requires.sound in
    ends_copy sound.0 sound.1 c.in-Copy.is c.copy_input.ensures (went_on c.in_ok-copy_input-in-Copy.was refl)

pub returns-in_err-copy_input-in-Copy : goal.returns-in_err-copy_input-in-Copy
returns-in_err-copy_input-in-Copy c =
    let sound = c.requires.sound in
    ends_copy sound.0 sound.1 c.in-Copy.is c.copy_input.ensures (broke_off c.in_err-copy_input-in-Copy.was (search rules))

pub returns-in_ok-save-in-Save : goal.returns-in_ok-save-in-Save
returns-in_ok-save-in-Save c =
    let sound = c.requires.sound in
    ends_save sound.0 sound.1 c.in-Save.is c.save.ensures (went_on c.in_ok-save-in-Save.was refl)

pub returns-in_err-save-in-Save : goal.returns-in_err-save-in-Save
returns-in_err-save-in-Save c =
    let sound = c.requires.sound in
    ends_save sound.0 sound.1 c.in-Save.is c.save.ensures (broke_off c.in_err-save-in-Save.was (search rules))

pub returns-in_ok-repeat-in-Repeat : goal.returns-in_ok-repeat-in-Repeat
returns-in_ok-repeat-in-Repeat c =
    let sound = c.requires.sound in
    ends_repeat sound.0 sound.1 c.in-Repeat.is (c.repeat.ensures.comes _ _ sound.1 sound.0) (went_on c.in_ok-repeat-in-Repeat.was refl)

pub returns-in_err-repeat-in-Repeat : goal.returns-in_err-repeat-in-Repeat
returns-in_err-repeat-in-Repeat c =
    let sound = c.requires.sound in
    ends_repeat sound.0 sound.1 c.in-Repeat.is (c.repeat.ensures.comes _ _ sound.1 sound.0) (broke_off c.in_err-repeat-in-Repeat.was (search rules))

pub returns-in_ok-end_pass-in-Again : goal.returns-in_ok-end_pass-in-Again
returns-in_ok-end_pass-in-Again c =
    let sound = c.requires.sound in
    ends_again sound.0 sound.1 c.in-Again.is c.end_pass.ensures (went_on c.in_ok-end_pass-in-Again.was refl)

pub returns-in_err-end_pass-in-Again : goal.returns-in_err-end_pass-in-Again
returns-in_err-end_pass-in-Again c =
    let sound = c.requires.sound in
    ends_again sound.0 sound.1 c.in-Again.is c.end_pass.ensures (broke_off c.in_err-end_pass-in-Again.was (search rules))
