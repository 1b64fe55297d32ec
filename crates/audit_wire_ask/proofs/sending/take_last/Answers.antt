use Rattle.std.proofs.Common.{◌≡◌, ◌∙◌, ◌≤◌, ◌+◌, ◌-◌, true, None, Ok, refl, sym, ap, arith, rules}
use Rattle.audit_wire_ask.specs.declared.sending.SendEnd.{SendEnd}
use Rattle.audit_wire_ask.proofs.Conversations.{appends_none}
use Rattle.audit_wire_ask.proofs.SentLines.{few_answers, first_none, round_sends, round_on, round_ends}
use Rattle.audit_wire_ask.proofs.NearRefusals.{takes_nothing, stops_last}
use Rattle.audit_wire_ask.proofs.KeptKeys.{keys_after, keys_joined, first_keys_break}
use Rattle.audit_wire_ask.proofs.sending.take_last.Goals as goal

pub end_after-requires-clause-refused : goal.end_after-requires-clause-refused
end_after-requires-clause-refused g c =
    let few = few_answers c.take_answers-answers.ensures.taken in
    search (rules, few.0, few.1, c.requires.within.refused, c.requires.within.answered)

pub returns-clause-sends : goal.returns-clause-sends
returns-clause-sends g c = λ form i rest w v r o on.
    let end = c.args.end.now in
    let within : end.answered + (end.sent - end.answered) ≤ end.sent + 0 = omega (arith, c.requires.within.answered) in
    rw c.end_after.ensures (rw c.first_error-error.ensures (round_sends (Ok tt) on (takes_nothing c.args.places form rest (c.args.before + end.sent)) (appends_none v) tt c.take_answers-answers.ensures.taken within))

pub returns-clause-cause : goal.returns-clause-cause
returns-clause-cause g c = λ form i rest w v r o on.
    let end = c.args.end.now in
    let answered = c.take_answers-answers.ensures.taken in
    let all : end.answered + (end.sent - end.answered) ≡ end.sent + 0 = omega (arith, c.requires.within.answered) in
    rw c.end_after.ensures (rw c.first_error-error.ensures
    (round_ends _ _ (end.sent - end.answered) c.take_answers-answers.result (Ok tt) c.take_answers-answers.result.error None on (takes_nothing c.args.places form rest (c.args.before + end.sent)) tt tt answered.fails tt (λ none. (answered.all none).answered_is) (λ _ over. all) (λ broken. all)))

pub returns-clause-near : goal.returns-clause-near
returns-clause-near g c = λ r near.
    rw c.end_after.ensures (stops_last (record { count = 0; more = true; error = None }) _ refl near c.take_answers-answers.ensures.taken)

pub returns-clause-on : goal.returns-clause-on
returns-clause-on g c = λ none form i rest w v r o on.
    let end = c.args.end.now in
    let within : end.answered + (end.sent - end.answered) ≤ end.sent + 0 = omega (arith, c.requires.within.answered) in
    let right = sym (ap (λ (after : SendEnd). after.error) c.end_after.ensures) ∙ none in
    rw c.end_after.ensures (rw c.first_error-error.ensures (round_on (Ok tt) on (takes_nothing c.args.places form rest (c.args.before + end.sent)) (appends_none v) c.take_answers-answers.ensures.taken within refl (sym c.first_error-error.ensures ∙ right)))

pub returns-clause-kept : goal.returns-clause-kept
returns-clause-kept g c = λ r k kept. rw c.end_after.ensures (keys_after kept c.take_answers-answers.ensures.kept)

pub returns-clause-all_kept : goal.returns-clause-all_kept
returns-clause-all_kept g c = λ none r k kept.
    let right = sym (ap (λ (after : SendEnd). after.error) c.end_after.ensures) ∙ none in
    let answered = (first_none (Ok tt) c.take_answers-answers.result.error None (sym c.first_error-error.ensures ∙ right)).1 in
    rw c.end_after.ensures (keys_joined kept (c.take_answers-answers.ensures.all_kept answered))

pub returns-clause-keys_broken : goal.returns-clause-keys_broken
returns-clause-keys_broken g c = rw c.end_after.ensures (rw c.first_error-error.ensures (first_keys_break _ (Ok tt) c.take_answers-answers.result.error None c.take_answers-answers.ensures.keys_broken))
