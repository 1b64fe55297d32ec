use Rattle.std.proofs.Common.{◌≡◌, ◌∙◌, [], ◌∷◌, true, false, OnOk, refl, sym, subst, rules, arith}
use Rattle.audit_serve_passes.specs.Steps.{an_end}
use Rattle.audit_serve_passes.specs.Core.{no_bytes}
use Rattle.audit_serve_passes.proofs.Turns.{if_err}
use Rattle.audit_serve_ready.specs.Slot.{is_shut, unread_of}
use Rattle.audit_serve_ready.specs.Reading.{IsFound, is_had, has_moved}
use Rattle.audit_serve_ready.specs.Backlog.{MayAsk, HasTakenRequest}
use Rattle.audit_serve_ready.proofs.Asking.{never_shut, none_waits}
use Rattle.audit_serve_ready.proofs.Visits.{shut_turn, shut_stopped, vain_turn, over_turn, over_stopped, fed_turn, look_stops, if_ok_all, on_ok, on_err}
use Rattle.audit_serve_ready.proofs.Bounds.{turn_idle, turn_ended, turn_then, looked_length}
use Rattle.audit_serve_ready.proofs.turns.read_turn.Goals as goal

pub returns-in_err-end-clause-stopped : goal.returns-in_err-end-clause-stopped
returns-in_err-end-clause-stopped g c =
    let shut : is_shut c.args.slot.now ≡ true = search rules in
    if_err c.from_residual.result (shut_stopped g.C.SessionCore.model g.S.ReadyStream.calls c.args.session c.args.core.now c.end.new.self c.args.slot.now shut c.end.ensures.reaches)

pub returns-then-is_shut-clause-done : goal.returns-then-is_shut-clause-done
returns-then-is_shut-clause-done g c =
    let shut : is_shut c.args.slot.now ≡ true = search rules in
    shut_turn g.C.SessionCore.model g.S.ReadyStream.calls c.args.bounds.backlog c.args.session c.args.core.now c.end.new.self c.args.slot.now shut c.in_ok-end.ensures.did c.in_ok-end.ensures.over

pub returns-in-Nothing-clause-done : goal.returns-in-Nothing-clause-done
returns-in-Nothing-clause-done g c =
    let found = subst (λ found. IsFound found c.look.ensures.looked.0 c.look.new.self) c.in-Nothing.is c.look.ensures.looked.2 in
    vain_turn g.C.SessionCore.model g.S.ReadyStream.calls c.args.bounds.backlog c.args.session c.args.core.now c.args.slot.now c.look.new.self c.look.ensures.looked.0 c.look.ensures.looked.1 found.0 found.1

pub returns-in_err-end-in-Over-clause-stopped : goal.returns-in_err-end-in-Over-clause-stopped
returns-in_err-end-in-Over-clause-stopped g c =
    let found = subst (λ found. IsFound found c.look.ensures.looked.0 c.look.new.self) c.in-Over.is c.look.ensures.looked.2 in
    if_err c.from_residual-in_err-end-in-Over.result
    (over_stopped g.C.SessionCore.model g.S.ReadyStream.calls c.args.session c.args.core.now c.end-in-Over.new.self c.args.slot.now c.look.new.self c.look.ensures.looked.0 c.look.ensures.looked.1 found.0 c.end-in-Over.ensures.reaches)

pub returns-in_ok-end-in-Over-clause-done : goal.returns-in_ok-end-in-Over-clause-done
returns-in_ok-end-in-Over-clause-done g c =
    let found = subst (λ found. IsFound found c.look.ensures.looked.0 c.look.new.self) c.in-Over.is c.look.ensures.looked.2 in
    over_turn g.C.SessionCore.model g.S.ReadyStream.calls c.args.bounds.backlog c.args.session c.args.core.now c.end-in-Over.new.self c.args.slot.now c.look.new.self c.look.ensures.looked.0 c.look.ensures.looked.1 found.0 found.1 c.in_ok-end-in-Over.ensures.did c.in_ok-end-in-Over.ensures.over

pub feed_turn-requires-clause-live : goal.feed_turn-requires-clause-live
feed_turn-requires-clause-live g c =
    let live : is_shut c.args.slot.now ≡ false = search rules in
    c.look.ensures.looked.1.same.shut ∙ live

pub returns-in-Bytes-clause-stopped : goal.returns-in-Bytes-clause-stopped
returns-in-Bytes-clause-stopped g c =
    let M = g.C.SessionCore.model in
    on_err c.feed_turn.result (look_stops M g.S.ReadyStream.calls {Did = M.DidStepsInPart c.args.core.now c.feed_turn.new.core} c.args.session c.args.slot.now c.look.new.self c.feed_turn.new.slot c.look.ensures.looked.0 c.look.ensures.looked.1) c.feed_turn.ensures.stopped

pub returns-in-Bytes-clause-done : goal.returns-in-Bytes-clause-done
returns-in-Bytes-clause-done g c =
    let M = g.C.SessionCore.model in
    let N = g.S.ReadyStream.calls in
    let going = subst (λ found. IsFound found c.look.ensures.looked.0 c.look.new.self) c.in-Bytes.is c.look.ensures.looked.2 in
    if_ok_all c.feed_turn.result c.feed_turn.ensures.taken c.feed_turn.ensures.done
    (λ turn had fed. fed_turn M N c.args.bounds.backlog (has_moved turn) c.args.session (is_had turn) c.args.core.now c.feed_turn.new.core c.args.slot.now c.look.new.self c.feed_turn.new.slot c.look.ensures.looked.0 had c.look.ensures.looked.1 going fed)

pub returns-then-is_shut-clause-within : goal.returns-then-is_shut-clause-within
returns-then-is_shut-clause-within g c =
    turn_ended g.C.SessionCore.model c.args.bounds.backlog c.args.session c.args.core.now c.end.new.self c.args.slot.now c.args.slot.now (an_end c.args.session ∷ []) no_bytes (omega arith) c.in_ok-end.ensures.did c.in_ok-end.ensures.over c.in_ok-end.ensures.owes

pub returns-in-Nothing-clause-within : goal.returns-in-Nothing-clause-within
returns-in-Nothing-clause-within g c =
    turn_idle g.C.SessionCore.model c.args.bounds.backlog c.args.session c.args.core.now c.args.slot.now c.look.new.self (looked_length g.S.ReadyStream.calls c.look.ensures.looked.0 c.args.slot.now c.look.new.self c.look.ensures.looked.1)

pub returns-in_ok-end-in-Over-clause-within : goal.returns-in_ok-end-in-Over-clause-within
returns-in_ok-end-in-Over-clause-within g c =
    turn_ended g.C.SessionCore.model c.args.bounds.backlog c.args.session c.args.core.now c.end-in-Over.new.self c.args.slot.now c.look.new.self (an_end c.args.session ∷ []) no_bytes (looked_length g.S.ReadyStream.calls c.look.ensures.looked.0 c.args.slot.now c.look.new.self c.look.ensures.looked.1)
    c.in_ok-end-in-Over.ensures.did c.in_ok-end-in-Over.ensures.over c.in_ok-end-in-Over.ensures.owes

pub returns-in-Bytes-clause-within : goal.returns-in-Bytes-clause-within
returns-in-Bytes-clause-within g c =
    on_ok c.feed_turn.result (turn_then g.C.SessionCore.model c.args.bounds.backlog c.args.session c.args.core.now c.feed_turn.new.core c.args.slot.now c.look.new.self c.feed_turn.new.slot (looked_length g.S.ReadyStream.calls c.look.ensures.looked.0 c.args.slot.now c.look.new.self c.look.ensures.looked.1)) c.feed_turn.ensures.within

pub returns-then-is_shut-clause-asked : goal.returns-then-is_shut-clause-asked
returns-then-is_shut-clause-asked g c =
    let shut : is_shut c.args.slot.now ≡ true = search rules in λ whole may. never_shut c.args.slot.now shut may.heard

pub returns-in-Nothing-clause-idle : goal.returns-in-Nothing-clause-idle
returns-in-Nothing-clause-idle g c = λ idle. (refl, none_waits (unread_of c.args.slot.now) (λ some. cc (c.look.ensures.waits some).0))

pub returns-in-Nothing-clause-asked : goal.returns-in-Nothing-clause-asked
returns-in-Nothing-clause-asked g c = λ whole may. absurd (cc (c.look.ensures.waits may.unread).0)

pub returns-in_ok-end-in-Over-clause-asked : goal.returns-in_ok-end-in-Over-clause-asked
returns-in_ok-end-in-Over-clause-asked g c = λ whole may. absurd (cc (c.look.ensures.waits may.unread).0)

pub returns-in-Bytes-clause-asked : goal.returns-in-Bytes-clause-asked
returns-in-Bytes-clause-asked g c =
    let M = g.C.SessionCore.model in λ whole may.
    let same = (c.look.ensures.waits may.unread).1 in
    subst (λ slot. OnOk c.feed_turn.result (HasTakenRequest M c.args.bounds.backlog c.args.session c.args.core.now slot c.feed_turn.new.slot)) same
    (c.feed_turn.ensures.asked whole (subst (MayAsk M c.args.bounds.backlog c.args.session c.args.core.now) (sym same) may))
