-- add_end adds the four parts of the row: the word, number and line, the events, and the byte 10.
-- The check finds none of these goals alone, nor with the laws named at the function.
use Rattle.printed.proofs.Adding.{end-word, end_events, end_newline, end_prints}
use Rattle.printed.proofs.add_end.Goals as goal

pub add_bytes-number-requires : goal.add_bytes-number-requires
add_bytes-number-requires c = search end-word

pub add_spaced-end-requires : goal.add_spaced-end-requires
add_spaced-end-requires c = search end_events

pub add_bytes-requires : goal.add_bytes-requires
add_bytes-requires c = search end_newline

pub returns : goal.returns
returns c = search end_prints
