use Rattle.std.proofs.Common.{inl}
use Rattle.std.proofs.lemmas.Result.{err_from_is_err_and}
use Rattle.audit_wire_ask.proofs.Conversations.{converses_once}
use Rattle.audit_wire_ask.proofs.Failures.{exchanges_once, hears_reply, fails_to_send, fails_once}
use Rattle.audit_wire_ask.proofs.conversation.ask.Goals as goal

pub returns-clause-done : goal.returns-clause-done
returns-clause-done g c = converses_once _ _ _ _ _ _ c.in_ok-send_request.ensures.sent c.in_ok-given.ensures.read

pub returns-clause-heard : goal.returns-clause-heard
returns-clause-heard g c = exchanges_once _ _ _ _ _ _ c.in_ok-send_request.ensures.sent (hears_reply _ _ _ c.in_ok-given.ensures.read)

pub returns-in_err-send_request-clause-fault : goal.returns-in_err-send_request-clause-fault
returns-in_err-send_request-clause-fault g c =
    let p = err_from_is_err_and c.from_residual.result c.from_residual.ensures.1 in
    rw (p.1, p.2) (inl (fails_to_send _ _ _ _ _ c.in_err-send_request.ensures.part c.in_err-send_request.ensures.fault))

pub returns-in_err-given-clause-fault : goal.returns-in_err-given-clause-fault
returns-in_err-given-clause-fault g c =
    let p = err_from_is_err_and c.from_residual-in_err-given.result c.from_residual-in_err-given.ensures.1 in
    rw (p.1, p.2) (fails_once _ _ _ _ _ _ c.in_ok-send_request.ensures.sent c.in_err-given.ensures.fault)
