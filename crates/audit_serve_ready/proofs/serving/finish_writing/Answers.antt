use Rattle.std.proofs.Common.{◌≡◌, inl, inr, refl, arith}
use Rattle.audit_serve_ready.proofs.Passes.{writes_none, writes_then}
use Rattle.audit_serve_ready.proofs.Offers.{offers_on}
use Rattle.audit_serve_ready.proofs.serving.finish_writing.Goals as goal

pub loop-times-init : goal.loop-times-init
loop-times-init g c = (writes_none g.D.Stream.ReadyStream.calls c.args.slots.now, (refl, refl))

pub loop-times-preserved : goal.loop-times-preserved
loop-times-preserved g c =
    let N = g.D.Stream.ReadyStream.calls in
    let l = c.loop-times in
    let offers = c.push_all-moved.ensures in (
      writes_then N c.args.slots.now l.slots c.push_all-moved.new.slots l.invariant.0 offers.writes,
      offers_on N g.D.Door.calls l.times c.lets_reply.new.self l.door c.pause.new.self c.push_all-moved.result c.args.slots.now l.slots c.push_all-moved.new.slots l.invariant.1 offers (c.in-Again.ensures),
    )

pub returns-then-not-lets_reply-clause-writes : goal.returns-then-not-lets_reply-clause-writes
returns-then-not-lets_reply-clause-writes g c = writes_none g.D.Stream.ReadyStream.calls c.args.slots.now

pub returns-then-not-lets_reply-clause-written : goal.returns-then-not-lets_reply-clause-written
returns-then-not-lets_reply-clause-written g c = inl (c.if-not-lets_reply.ensures, refl)

pub returns-then-all_written-clause-writes : goal.returns-then-all_written-clause-writes
returns-then-all_written-clause-writes g c = writes_then g.D.Stream.ReadyStream.calls c.args.slots.now c.loop-times.slots c.push_all-moved.new.slots c.loop-times.invariant.0 c.push_all-moved.ensures.writes

pub returns-then-all_written-clause-written : goal.returns-then-all_written-clause-written
returns-then-all_written-clause-written g c =
    let l = c.loop-times in
    inr (
      c.lets_reply.new.self,
      record {
        times = l.times;
        mid = l.door;
        between = l.slots;
        released = c.if-not-lets_reply.ensures;
        on = l.invariant.1;
        ends = inl (c.push_all-moved.ensures, refl, (λ k within. c.if-all_written.ensures refl k (omega (arith, within, c.push_all-moved.auto.slots))));
      },
    )

pub returns-in-Stop-clause-writes : goal.returns-in-Stop-clause-writes
returns-in-Stop-clause-writes g c = writes_then g.D.Stream.ReadyStream.calls c.args.slots.now c.loop-times.slots c.push_all-moved.new.slots c.loop-times.invariant.0 c.push_all-moved.ensures.writes

pub returns-in-Stop-clause-written : goal.returns-in-Stop-clause-written
returns-in-Stop-clause-written g c =
    let l = c.loop-times in
    inr (
      c.lets_reply.new.self,
      record {
        times = l.times;
        mid = l.door;
        between = l.slots;
        released = c.if-not-lets_reply.ensures;
        on = l.invariant.1;
        ends = inr (inl (c.push_all-moved.result, c.push_all-moved.ensures, c.in-Stop.ensures));
      },
    )

pub returns-clause-written : goal.returns-clause-written
returns-clause-written g c =
    let l = c.loop-times in
    let all : l.times ≡ 18446744073709551615 = omega (arith, l.auto.times-end, c.loop-times-test.false) in
    inr (
      c.lets_reply.new.self,
      record {
        times = l.times;
        mid = l.door;
        between = l.slots;
        released = c.if-not-lets_reply.ensures;
        on = l.invariant.1;
        ends = inr (inr (all, refl, refl));
      },
    )
