use Rattle.std.proofs.Common.{◌≡◌, ◌∙◌, Some, inl, inr, sym, ap, arith, rules, true, false}
use Rattle.std.proofs.lemmas.Option.{none-some}
use Rattle.std.specs.Io.Buffered.{reader_remaining}
use Rattle.audit_text.specs.declared.fault.LinesError.TheVariants.{InputTooLong}
use Rattle.audit_wire_ask.specs.declared.send_error.SendError.TheVariants.{Input}
use Rattle.audit_wire_ask.specs.declared.sending.SendEnd.{SendEnd}
use Rattle.audit_wire_ask.proofs.SentLines.{sends_none, on_stopped, ends_at_limit, ends_unwritten}
use Rattle.audit_wire_ask.proofs.KeptKeys.{keys_none, keys_whole}
use Rattle.audit_wire_ask.proofs.NearRefusals.{stays_none, stops_stays, until_none, until_stays}
use Rattle.audit_wire_ask.proofs.sending.send_events.Goals as goal

pub loop-init : goal.loop-init
loop-init g c = record {
  further = λ some. omega arith;
  number = omega (arith, c.ranges.before.fits);
  on = sends_none c.args.places c.args.form c.args.before (reader_remaining g.I.Read.remaining c.args.input.now) (g.W.Write.contents c.args.to.now) (g.R.Read.remaining c.args.from.now) (g.O.Write.contents c.args.output.now);
  within = record { refused = omega arith; answered = omega arith; ahead = omega arith; room = λ some. omega arith };
  keys = keys_none (g.R.Read.remaining c.args.from.now) (g.K.Write.contents c.args.keys.now);
  stays = λ is. stays_none c.args.places c.args.before (g.R.Read.remaining c.args.from.now) c.args.window;
}

pub returns-then-not-round-clause-sends : goal.returns-then-not-round-clause-sends
returns-then-not-round-clause-sends g c = c.send_round-round.ensures.sends _ _ _ _ c.loop.invariant.on

pub returns-then-not-round-clause-all : goal.returns-then-not-round-clause-all
returns-then-not-round-clause-all g c = λ none goes.
    let over : c.send_round-round.result.more ≡ false = search rules in
    c.send_round-round.ensures.all over none _ _ _ _ c.loop.invariant.on

pub loop-preserved : goal.loop-preserved
loop-preserved g c =
    let more : c.send_round-round.result.more ≡ true = search rules in
    record {
      on = c.send_round-round.ensures.on more _ _ _ _ c.loop.invariant.on;
      within = c.send_round-round.ensures.within more;
      keys = c.send_round-round.ensures.all_kept (c.send_round-round.ensures.on more _ _ _ _ c.loop.invariant.on).no_error _ _ c.loop.invariant.keys;
      number = c.send_round-round.ensures.number;
      further = λ some. omega (arith, c.send_round-round.ensures.more some more, c.loop.invariant.further some);
      stays = λ is. c.send_round-round.ensures.stays more (until_none c.args.stop_at c.loop.end.refused is (sym c.stops_at.ensures ∙ c.if-stops_at.false)) _ (c.loop.invariant.stays is);
    }

pub returns-clause-sends : goal.returns-clause-sends
returns-clause-sends g c = rw c.with_error.ensures (on_stopped (Input InputTooLong) c.loop.invariant.on)

pub returns-clause-cause : goal.returns-clause-cause
returns-clause-cause g c = λ some. rw c.with_error.ensures (ends_at_limit (g.W.FallibleWrite.failed c.loop.to) c.loop.invariant.on (omega (arith, c.loop.invariant.further some, c.loop-test.false)))

pub returns-then-not-round-clause-cause : goal.returns-then-not-round-clause-cause
returns-then-not-round-clause-cause g c = λ some. c.send_round-round.ensures.cause _ _ _ _ c.loop.invariant.on

pub returns-then-not-round-clause-broken : goal.returns-then-not-round-clause-broken
returns-then-not-round-clause-broken g c = c.send_round-round.ensures.broken

pub returns-clause-broken : goal.returns-clause-broken
returns-clause-broken g c = rw c.with_error.ensures tt

pub returns-then-stops_at-clause-sends : goal.returns-then-stops_at-clause-sends
returns-then-stops_at-clause-sends g c = c.take_last.ensures.sends _ _ _ _ _ _ _ c.loop.invariant.on

pub returns-then-stops_at-clause-cause : goal.returns-then-stops_at-clause-cause
returns-then-stops_at-clause-cause g c = λ some. ends_unwritten c.args.places (g.W.FallibleWrite.failed c.loop.to) c.args.form c.args.before (reader_remaining g.I.Read.remaining c.args.input.now) (g.R.Read.remaining c.args.from.now) (g.R.Read.remaining c.take_last.new.from) c.take_last.result.sent c.take_last.result.answered c.take_last.result.error (c.take_last.ensures.cause _ _ _ _ _ _ _ c.loop.invariant.on)

pub returns-then-stops_at-clause-all : goal.returns-then-stops_at-clause-all
returns-then-stops_at-clause-all g c = λ none goes.
    absurd (until_stays c.args.stop_at c.loop.end.refused c.take_last.result.refused c.take_last.ensures.refused (sym c.stops_at.ensures ∙ c.if-stops_at.true) goes)

pub returns-then-stops_at-clause-near : goal.returns-then-stops_at-clause-near
returns-then-stops_at-clause-near g c = λ is. c.take_last.ensures.near _ (c.loop.invariant.stays is)

pub returns-then-not-round-clause-near : goal.returns-then-not-round-clause-near
returns-then-not-round-clause-near g c = λ is. c.send_round-round.ensures.near (until_none c.args.stop_at c.loop.end.refused is (sym c.stops_at.ensures ∙ c.if-stops_at.false)) _ (c.loop.invariant.stays is)

pub returns-clause-near : goal.returns-clause-near
returns-clause-near g c = λ is. rw c.with_error.ensures (stops_stays (Some (Input InputTooLong)) (c.loop.invariant.stays is))

pub returns-then-stops_at-clause-stopped : goal.returns-then-stops_at-clause-stopped
returns-then-stops_at-clause-stopped g c = λ none stopped. inl (c.take_last.ensures.on none _ _ _ _ _ _ _ c.loop.invariant.on)

pub returns-then-not-round-clause-stopped : goal.returns-then-not-round-clause-stopped
returns-then-not-round-clause-stopped g c = λ none stopped.
    let over : c.send_round-round.result.more ≡ false = search rules in
    inr (c.send_round-round.ensures.all over none _ _ _ _ c.loop.invariant.on)

pub returns-then-stops_at-clause-kept : goal.returns-then-stops_at-clause-kept
returns-then-stops_at-clause-kept g c = c.take_last.ensures.kept _ _ c.loop.invariant.keys

pub returns-then-stops_at-clause-all_kept : goal.returns-then-stops_at-clause-all_kept
returns-then-stops_at-clause-all_kept g c = λ none. c.take_last.ensures.all_kept none _ _ c.loop.invariant.keys

pub returns-then-not-round-clause-kept : goal.returns-then-not-round-clause-kept
returns-then-not-round-clause-kept g c = c.send_round-round.ensures.kept _ _ c.loop.invariant.keys

pub returns-then-not-round-clause-all_kept : goal.returns-then-not-round-clause-all_kept
returns-then-not-round-clause-all_kept g c = λ none. c.send_round-round.ensures.all_kept none _ _ c.loop.invariant.keys

pub returns-then-not-round-clause-keys_broken : goal.returns-then-not-round-clause-keys_broken
returns-then-not-round-clause-keys_broken g c = c.send_round-round.ensures.keys_broken

pub returns-clause-kept : goal.returns-clause-kept
returns-clause-kept g c = rw c.with_error.ensures (keys_whole c.loop.invariant.keys)

pub returns-clause-all_kept : goal.returns-clause-all_kept
returns-clause-all_kept g c = λ none. absurd (none-some (Input InputTooLong) (sym (sym (ap (λ (end : SendEnd). end.error) c.with_error.ensures) ∙ none)))

pub returns-clause-keys_broken : goal.returns-clause-keys_broken
returns-clause-keys_broken g c = rw c.with_error.ensures tt
