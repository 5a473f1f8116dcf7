-- Each way through an offer, a body and a code line, by its law.
-- The check finds none of these goals alone, nor with the laws named at the functions.
use Rattle.std.proofs.Common.{refl, sym, ap, ◌∙◌, subst, arith}
use borrow.Author.Rules.{rules}
use Rattle.matching.proofs.Matching.{choice_opening}
use Rattle.matching.proofs.Counting.{choice_below}
use Rattle.matching.specs.Book.{Prepared}
use Rattle.cycle_laws.proofs.Ways.{chosen_by, opened_by, steps_by, lands_by, offer_fails, offer_passes, offer_opens, called_sound, called_less, called_counts, called_open, offer_enters, turns_else, advance_takes, advance_lands, running_on, body_left}
use Rattle.answer.specs.Answers.{is_offer}
use Rattle.std.specs.Prelude.{Ok}
use Rattle.cycle.proofs.+calls.Goals as goal

-- ---- a line is offered

pub offer-count_decided-requires : goal.offer-count_decided-requires
offer-count_decided-requires t c = search (choice_below, rules)

pub offer-returns-in_err-decide : goal.offer-returns-in_err-decide
offer-returns-in_err-decide t c =
    let g = chosen_by c.script.view_is c.first_reading-found.ensures in
    offer_fails c.requires.0 c.requires.4 g c.count_decided.ensures c.decide.ensures c.in_err-decide.was (search rules)

pub offer-returns-in_default : goal.offer-returns-in_default
offer-returns-in_default t c =
    let g = chosen_by c.script.view_is c.first_reading-found.ensures in
    offer_passes c.requires.0 c.requires.4 g c.count_decided.ensures c.decide.ensures c.in_ok-decide.was c.in_default.is

pub offer-open_reading-call-requires : goal.offer-open_reading-call-requires
offer-open_reading-call-requires t c = choice_opening c.first_reading-found.ensures c.in-Some.is c.script.invariant c.requires.1

pub offer-body-requires : goal.offer-body-requires
offer-body-requires t c =
    let opens = offer_opens c.first_reading-found.result c.decide.ensures c.in_ok-decide.was c.in-Some.is in
    let called = c.add_call.ensures in (
      omega (arith, called_less c.requires.0 opens called, c.decreases),
      (
        called_sound c.requires.0 opens called,
        called_open c.requires.0 opens called (chosen_by c.script.view_is c.first_reading-found.ensures) (opened_by c.script.view_is c.open_reading-call.ensures) (subst Prepared c.script.view_is c.script.invariant),
        omega (arith, c.requires.2, opens.shallow),
        omega (arith, c.requires.3, c.first_reading-found.auto.dead),
        called_counts c.requires.0 opens called c.requires.4 c.count_decided.ensures,
      ),
    )

pub offer-returns : goal.offer-returns
offer-returns t c =
    let opens = offer_opens c.first_reading-found.result c.decide.ensures c.in_ok-decide.was c.in-Some.is in
    let g = chosen_by c.script.view_is c.first_reading-found.ensures in
    offer_enters c.requires.0 opens c.add_call.ensures g (opened_by c.script.view_is c.open_reading-call.ensures) c.requires.2 c.count_decided.ensures c.body.ensures

-- ---- a body

pub body-returns-then-is_left : goal.body-returns-then-is_left
body-returns-then-is_left t c = body_left c.loop-call.invariant c.advance-answer.ensures (sym c.is_left.ensures ∙ c.if-is_left.true) refl

pub body-loop-call-preserved : goal.body-loop-call-preserved
body-loop-call-preserved t c = running_on c.loop-call.invariant c.advance-answer.ensures (sym c.is_left.ensures ∙ c.if-is_left.false)

-- ---- a code line

pub advance-returns-in_err-turn : goal.advance-returns-in_err-turn
advance-returns-in_err-turn t c = advance_takes (steps_by c.script.view_is c.in_err-turn.ensures) c.requires.4 refl (search rules)

pub advance-returns-in_default : goal.advance-returns-in_default
advance-returns-in_default t c = advance_takes (steps_by c.script.view_is c.in_ok-turn.ensures) c.requires.4 (turns_else _ c.in_default.not-Offers) refl

pub advance-returns : goal.advance-returns
advance-returns t c =
    let steps = steps_by c.script.view_is c.in_ok-turn.ensures in
    let lands = lands_by c.script.view_is c.land.ensures in
    advance_lands steps (ap (λ z. is_offer (Ok z)) c.in-Offers.is) c.as_bytes.ensures c.offer-offered.ensures lands.settled lands.placed lands.same
