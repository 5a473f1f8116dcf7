-- fit_prepared answers the first reading of a line that is not too long.
-- The check finds none of these goals alone, nor with the laws named at the function.
use Rattle.stage2.proofs.Results.{asks_whole, template_within, fit_chosen}
use Rattle.stage2.proofs.fit_prepared.Goals as goal

pub first_reading-choice-requires : goal.first_reading-choice-requires
first_reading-choice-requires c = asks_whole _ c.requires.0 c.requires.1 c.if-line-gt-LINE_MOST.false

pub answer_choice-requires : goal.answer_choice-requires
answer_choice-requires c = template_within _ c.requires.0 c.first_reading-choice.ensures

pub returns : goal.returns
returns c = fit_chosen _ c.requires.0 c.first_reading-choice.ensures c.if-line-gt-LINE_MOST.false c.answer_choice.ensures
