use Rattle.std.proofs.Common.{◌≡◌, inr, ◌∙◌, sym, subst, ap, add-one, refl, rules, arith}
use Rattle.audit_serve_ready.specs.Clients.{next_first, ServesClients, StopsServing}
use Rattle.audit_serve_ready.specs.Rounds.{first_after_rounds}
use Rattle.audit_serve_ready.proofs.Changes.{clients_then, stops_later, if_err_is}
use Rattle.audit_serve_ready.proofs.RoundByRound.{rounds_more, ends_after}
use Rattle.audit_serve_ready.proofs.serving.serve_clients.Goals as goal

pub returns-in_err-goes_on-clause-stopped : goal.returns-in_err-goes_on-clause-stopped
returns-in_err-goes_on-clause-stopped g c =
    let M = g.C.SessionCore.model in
    let N = g.D.Stream.ReadyStream.calls in
    let l = c.loop-round in
    if_err_is c.from_residual.result λ error is.
    subst (λ e. StopsServing M N c.args.backlog (λ old new. g.C.SessionCore.refuses old new e) 0 c.args.core.now c.serve_round.new.core c.args.slots.now c.serve_round.new.slots) (search (rules, is))
    (stops_later M N c.args.backlog 0 l.first c.args.core.now l.core c.serve_round.new.core c.args.slots.now l.slots c.serve_round.new.slots l.invariant.0 c.in_err-goes_on.ensures.stopped)

pub loop-round-preserved : goal.loop-round-preserved
loop-round-preserved g c =
    let M = g.C.SessionCore.model in
    let N = g.D.Stream.ReadyStream.calls in
    let l = c.loop-round in (
      subst (λ next. ServesClients M N c.args.backlog 0 next c.args.core.now c.serve_round.new.core c.args.slots.now c.serve_round.new.slots) (sym c.next_first-first.ensures)
          (clients_then M N c.args.backlog 0 l.first (next_first l.first) c.args.core.now l.core c.serve_round.new.core c.args.slots.now l.slots c.serve_round.new.slots l.invariant.0 c.in_ok-goes_on.ensures.served),
      (λ nothing inside.
          let were = l.invariant.1 nothing inside in (
            (λ k below. c.in_ok-goes_on.ensures.owes c.if-not-goes_on.false k (omega (arith, below, c.serve_round.auto.slots))),
            c.in_ok-goes_on.ensures.within were.0 were.1,
          )),
      c.next_first-first.ensures ∙ ap next_first l.invariant.2 ∙ sym (ap first_after_rounds (add-one l.round)),
      rounds_more M N g.D.Door.calls c.args.backlog l.round l.first c.args.door.now l.door c.serve_round.new.door c.args.core.now l.core c.serve_round.new.core c.args.slots.now l.slots c.serve_round.new.slots l.invariant.2 l.invariant.3
          (c.in_ok-goes_on.ensures.on c.if-not-goes_on.false),
    )

pub returns-then-not-goes_on-clause-rounds : goal.returns-then-not-goes_on-clause-rounds
returns-then-not-goes_on-clause-rounds g c =
    let l = c.loop-round in
    record {
      rounds = l.round;
      door = l.door;
      core = l.core;
      places = l.slots;
      are = l.invariant.3;
      ends = ends_after g.C.SessionCore.model g.D.Stream.ReadyStream.calls g.D.Door.calls c.args.backlog l.round l.first l.door c.serve_round.new.door l.core c.serve_round.new.core l.slots c.serve_round.new.slots l.invariant.2
          (c.in_ok-goes_on.ensures.over c.if-not-goes_on.true);
    }

pub returns-then-not-goes_on-clause-served : goal.returns-then-not-goes_on-clause-served
returns-then-not-goes_on-clause-served g c =
    let M = g.C.SessionCore.model in
    let N = g.D.Stream.ReadyStream.calls in
    let l = c.loop-round in (
      next_first l.first,
      clients_then M N c.args.backlog 0 l.first (next_first l.first) c.args.core.now l.core c.serve_round.new.core c.args.slots.now l.slots c.serve_round.new.slots l.invariant.0 c.in_ok-goes_on.ensures.served,
    )

pub returns-then-not-goes_on-clause-within : goal.returns-then-not-goes_on-clause-within
returns-then-not-goes_on-clause-within g c = λ nothing inside.
    let were = c.loop-round.invariant.1 nothing inside in
    c.in_ok-goes_on.ensures.within were.0 were.1

pub returns-clause-rounds : goal.returns-clause-rounds
returns-clause-rounds g c =
    let l = c.loop-round in
    let all : l.round ≡ 18446744073709551615 = omega (arith, l.auto.round-end, c.loop-round-test.false) in
    record {
      rounds = l.round;
      door = l.door;
      core = l.core;
      places = l.slots;
      are = l.invariant.3;
      ends = inr (inr (all, refl, refl, refl));
    }
