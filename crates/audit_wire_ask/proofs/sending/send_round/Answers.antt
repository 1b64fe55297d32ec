use Rattle.std.proofs.Common.{◌≡◌, ◌≤◌, ◌+◌, ◌-◌, ◌∙◌, ℕ, List, sym, ap, subst, arith, OnOk, OnErr}
use Rattle.std.specs.Io.KnownBytes.{Appends}
use Rattle.audit_text.specs.Writing.{WritesInPart}
use Rattle.audit_wire_ask.specs.declared.sending.SendEnd.{SendEnd}
use Rattle.audit_wire_ask.proofs.SentLines.{few_answers, first_none, read_within, read_near, read_all, read_unwritten, round_ends, round_sends, round_on, round_all, first_breaks}
use Rattle.audit_wire_ask.proofs.NearRefusals.{stops_more, stays_more}
use Rattle.audit_wire_ask.proofs.KeptKeys.{keys_after, keys_joined, first_keys_break}
use Rattle.audit_wire_ask.proofs.sending.send_round.Goals as goal

pub end_after-requires-clause-refused : goal.end_after-requires-clause-refused
end_after-requires-clause-refused g c =
    let end = c.args.end.now in
    let count = c.take_lines-taken.result.count in
    let few = few_answers c.take_answers-answers.ensures.taken in
    let read = read_within c.answers_to_read-count.result (end.sent - end.answered) count c.args.window c.take_lines-taken.result.more _ c.answers_to_read-count.ensures in
    omega (arith, c.requires.within.refused, c.requires.within.answered, few.0, few.1, read, c.take_lines-taken.ensures.fits)

pub returns-clause-within : goal.returns-clause-within
returns-clause-within g c = λ more.
    let end = c.args.end.now in
    let count = c.take_lines-taken.result.count in
    let few = few_answers c.take_answers-answers.ensures.taken in
    let read = read_within c.answers_to_read-count.result (end.sent - end.answered) count c.args.window c.take_lines-taken.result.more _ c.answers_to_read-count.ensures in
    rw c.end_after.ensures (record {
      refused = omega (arith, c.requires.within.refused, few.1);
      answered = omega (arith, c.requires.within.answered, few.0, read);
      ahead = omega (arith, c.requires.within.answered, c.take_lines-taken.ensures.few, c.lines_of_round.ensures.within);
      room = λ some.
          let printed = c.take_answers-answers.ensures.taken.all (first_none c.send_text-sent.result c.take_answers-answers.result.error c.take_lines-taken.result.error (sym c.first_error-error.ensures ∙ c.goes_on.ensures.right more)).1 in
          let near = read_near c.answers_to_read-count.result (end.sent - end.answered) count c.args.window c.take_lines-taken.result.more _ c.answers_to_read-count.ensures some in
          omega (arith, c.requires.within.answered, printed.answered_is, near);
    })

pub returns-clause-sends : goal.returns-clause-sends
returns-clause-sends g c = λ i w r o on.
    let end = c.args.end.now in
    let sent = c.send_text-sent.result in
    let w1 = g.W.Write.contents c.args.to.now in
    let w2 = g.W.Write.contents c.send_text-sent.new.self in
    let whole = subst (λ (bytes : List ℕ). OnOk sent (Appends w1 w2 bytes)) c.deref.ensures.value c.send_text-sent.ensures.sent in
    let part = subst (λ (bytes : List ℕ). OnErr sent (WritesInPart w1 w2 bytes)) c.deref.ensures.value c.send_text-sent.ensures.part in
    let read = read_within c.answers_to_read-count.result (end.sent - end.answered) c.take_lines-taken.result.count c.args.window c.take_lines-taken.result.more _ c.answers_to_read-count.ensures in
    let within : end.answered + c.answers_to_read-count.result ≤ end.sent + c.take_lines-taken.result.count = omega (arith, c.requires.within.answered, read) in
    rw c.end_after.ensures (rw c.first_error-error.ensures (round_sends sent on c.take_lines-taken.ensures.taken whole part c.take_answers-answers.ensures.taken within))

pub returns-clause-on : goal.returns-clause-on
returns-clause-on g c = λ more i w r o on.
    let end = c.args.end.now in
    let sent = c.send_text-sent.result in
    let w1 = g.W.Write.contents c.args.to.now in
    let w2 = g.W.Write.contents c.send_text-sent.new.self in
    let whole = subst (λ (bytes : List ℕ). OnOk sent (Appends w1 w2 bytes)) c.deref.ensures.value c.send_text-sent.ensures.sent in
    let read = read_within c.answers_to_read-count.result (end.sent - end.answered) c.take_lines-taken.result.count c.args.window c.take_lines-taken.result.more _ c.answers_to_read-count.ensures in
    let within : end.answered + c.answers_to_read-count.result ≤ end.sent + c.take_lines-taken.result.count = omega (arith, c.requires.within.answered, read) in
    let none = sym c.first_error-error.ensures ∙ c.goes_on.ensures.right more in
    rw c.end_after.ensures (rw c.first_error-error.ensures (round_on sent on c.take_lines-taken.ensures.taken whole c.take_answers-answers.ensures.taken within (c.goes_on.ensures.more more) none))

pub returns-clause-all : goal.returns-clause-all
returns-clause-all g c = λ over none i w r o on.
    let end = c.args.end.now in
    let sent = c.send_text-sent.result in
    let w1 = g.W.Write.contents c.args.to.now in
    let w2 = g.W.Write.contents c.send_text-sent.new.self in
    let whole = subst (λ (bytes : List ℕ). OnOk sent (Appends w1 w2 bytes)) c.deref.ensures.value c.send_text-sent.ensures.sent in
    let right = sym (ap (λ (after : SendEnd). after.error) c.end_after.ensures) ∙ none in
    let last = c.goes_on.ensures.over over right in
    let read = read_all c.answers_to_read-count.result (end.sent - end.answered) c.take_lines-taken.result.count c.args.window c.take_lines-taken.result.more _ c.answers_to_read-count.ensures last in
    let all : end.answered + c.answers_to_read-count.result ≡ end.sent + c.take_lines-taken.result.count = omega (arith, c.requires.within.answered, read) in
    rw c.end_after.ensures
    (rw c.first_error-error.ensures (round_all sent on c.take_lines-taken.ensures.taken whole c.take_answers-answers.ensures.taken all last (sym c.first_error-error.ensures ∙ right)))

pub returns-clause-ahead : goal.returns-clause-ahead
returns-clause-ahead g c = rw c.end_after.ensures (omega (arith, c.requires.within.answered, c.take_lines-taken.ensures.few, c.lines_of_round.ensures.within))

pub returns-clause-more : goal.returns-clause-more
returns-clause-more g c = λ some more.
    let wanted = c.lines_of_round.ensures.some (omega (arith, c.requires.within.answered, c.requires.within.room some)) in
    let taken = c.take_lines-taken.ensures.some wanted (c.goes_on.ensures.more more) in
    rw c.end_after.ensures (omega (arith, taken))

pub returns-clause-cause : goal.returns-clause-cause
returns-clause-cause g c = λ i w r o on.
    let end = c.args.end.now in
    let count = c.answers_to_read-count.result in
    let answered = c.take_answers-answers.ensures.taken in
    rw c.end_after.ensures (rw c.first_error-error.ensures
    (round_ends _ _ count c.take_answers-answers.result c.send_text-sent.result c.take_answers-answers.result.error c.take_lines-taken.result.error on c.take_lines-taken.ensures.taken c.send_text-sent.ensures.fault c.send_text-sent.ensures.failed answered.fails c.take_lines-taken.ensures.taken.stops
    (λ none. (answered.all none).answered_is)
    (λ _ over. let all = read_all count (end.sent - end.answered) c.take_lines-taken.result.count c.args.window c.take_lines-taken.result.more _ c.answers_to_read-count.ensures over in omega (arith, c.requires.within.answered, all))
    (λ broken. let all = read_unwritten count (end.sent - end.answered) c.take_lines-taken.result.count c.args.window c.take_lines-taken.result.more _ c.answers_to_read-count.ensures (c.is_ok.ensures.value ∙ broken) in omega (arith, c.requires.within.answered, all))))

pub returns-clause-broken : goal.returns-clause-broken
returns-clause-broken g c = rw c.end_after.ensures (rw c.first_error-error.ensures (first_breaks _ c.send_text-sent.result c.take_answers-answers.result.error c.take_lines-taken.result.error c.take_answers-answers.ensures.broken))

pub returns-clause-near : goal.returns-clause-near
returns-clause-near g c = λ none r near.
    let room : c.args.end.now.sent + c.take_lines-taken.result.count ≤ c.args.end.now.answered + c.args.window = omega (arith, c.requires.within.answered, c.take_lines-taken.ensures.few, c.lines_of_round.ensures.within) in
    rw c.end_after.ensures (stops_more c.take_lines-taken.result _ near none c.take_answers-answers.ensures.taken room)

pub returns-clause-stays : goal.returns-clause-stays
returns-clause-stays g c = λ more none r near.
    let room : c.args.end.now.sent + c.take_lines-taken.result.count ≤ c.args.end.now.answered + c.args.window = omega (arith, c.requires.within.answered, c.take_lines-taken.ensures.few, c.lines_of_round.ensures.within) in
    let right = first_none c.send_text-sent.result c.take_answers-answers.result.error c.take_lines-taken.result.error (sym c.first_error-error.ensures ∙ c.goes_on.ensures.right more) in
    rw c.end_after.ensures (stays_more c.take_lines-taken.result c.take_answers-answers.result _ near none (c.take_answers-answers.ensures.taken.all right.1) room)

pub returns-clause-kept : goal.returns-clause-kept
returns-clause-kept g c = λ r k kept. rw c.end_after.ensures (keys_after kept c.take_answers-answers.ensures.kept)

pub returns-clause-all_kept : goal.returns-clause-all_kept
returns-clause-all_kept g c = λ none r k kept.
    let right = sym (ap (λ (after : SendEnd). after.error) c.end_after.ensures) ∙ none in
    let answered = (first_none c.send_text-sent.result c.take_answers-answers.result.error c.take_lines-taken.result.error (sym c.first_error-error.ensures ∙ right)).1 in
    rw c.end_after.ensures (keys_joined kept (c.take_answers-answers.ensures.all_kept answered))

pub returns-clause-keys_broken : goal.returns-clause-keys_broken
returns-clause-keys_broken g c = rw c.end_after.ensures (rw c.first_error-error.ensures (first_keys_break _ c.send_text-sent.result c.take_answers-answers.result.error c.take_lines-taken.result.error c.take_answers-answers.ensures.keys_broken))
