use Rattle.std.proofs.Common.{◌≡◌, ◌+◌, ◌-◌, ◌++◌, length, refl, sym, subst, arith}
use Rattle.std.proofs.lemmas.Bool.{iff_false}
use Rattle.std.proofs.lemmas.List.{length_push}
use Rattle.std.proofs.lemmas.Result.{err_from_is_err_and}
use Rattle.audit_verify.specs.declared.verifying.TheConstants.{BYTE_LIMIT}
use Rattle.audit_verify.specs.Verdict.{IsExternal}
use Rattle.audit_disclosure.specs.Choosing.{chosen_key}
use Rattle.audit_disclosure.proofs.TakenKeys.{chosen_none, chosen_more, keys_taken, other_end, stopped_by}
use Rattle.audit_disclosure.proofs.making.keys_again.Goals as goal

pub loop-keys-init : goal.loop-keys-init
loop-keys-init g c = chosen_none (c.from_state-entries.ensures (g.R.Read.remaining c.args.reader.now)) c.first_key-key.ensures c.new-keys.ensures.items

pub returns-in_err-event-clause-fault : goal.returns-in_err-event-clause-fault
returns-in_err-event-clause-fault g c =
    let p = err_from_is_err_and c.from_residual.result c.from_residual.ensures.1 in
    let had = c.loop-keys.invariant in
    let stops = c.in_err-event.ensures.from c.args.from.now BYTE_LIMIT (g.R.Read.remaining c.args.reader.now) had.events had.taken in
    rw (p.1, p.2) (stopped_by c.args.accepted.now c.in_err-event.field-0.0 had stops)

pub returns-in_err-event-clause-read : goal.returns-in_err-event-clause-read
returns-in_err-event-clause-read g c =
    let p = err_from_is_err_and c.from_residual.result c.from_residual.ensures.1 in
    let had = c.loop-keys.invariant in
    let stops = c.in_err-event.ensures.from c.args.from.now BYTE_LIMIT (g.R.Read.remaining c.args.reader.now) had.events had.taken in
    rw (p.1, p.2) (λ is. stops.given_up (subst IsExternal (sym is) tt))

pub loop-keys-preserved : goal.loop-keys-preserved
loop-keys-preserved g c =
    let l = c.loop-keys in
    let had = l.invariant in
    let found = rw c.in-Some.is at (c.in_ok-event.ensures.from c.args.from.now BYTE_LIMIT (g.R.Read.remaining c.args.reader.now) had.events had.taken) in
    let number : c.count.result - 1 ≡ c.args.from.now.frontier.count + length had.events = omega (arith, c.count.ensures, found.count, length_push had.events c.in-Some.event) in
    chosen_more c.in-Some.event (c.count.result - 1) had found number
    (subst (λ k. c.add_chosen.new.keys.items ≡ l.keys.items ++ chosen_key c.args.choice.now l.key (c.count.result - 1) k) c.kind.ensures.kind c.in_ok-add_chosen.ensures.added)
    c.next_key-key.ensures

pub returns-then-not-has_reached-clause-fault : goal.returns-then-not-has_reached-clause-fault
returns-then-not-has_reached-clause-fault g c =
    let had = c.loop-keys.invariant in
    let ended = rw c.in_default.is at (c.in_ok-event.ensures.from c.args.from.now BYTE_LIMIT (g.R.Read.remaining c.args.reader.now) had.events had.taken) in
    other_end c.args.accepted.now _ had ended (iff_false c.has_reached.ensures c.if-not-has_reached.true) refl

pub returns-clause-keys : goal.returns-clause-keys
returns-clause-keys g c =
    let had = c.loop-keys.invariant in
    let ended = rw c.in_default.is at (c.in_ok-event.ensures.from c.args.from.now BYTE_LIMIT (g.R.Read.remaining c.args.reader.now) had.events had.taken) in
    keys_taken c.args.accepted.now had ended (c.has_reached.ensures.0 c.if-not-has_reached.false)
