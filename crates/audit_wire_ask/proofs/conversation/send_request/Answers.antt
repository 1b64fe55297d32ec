use Rattle.std.proofs.lemmas.Result.{err_from_is_err_and}
use Rattle.audit_wire_ask.proofs.Conversations.{part_none}
use Rattle.audit_wire_ask.proofs.conversation.send_request.Goals as goal

pub returns-in_err-write_request-clause-part : goal.returns-in_err-write_request-clause-part
returns-in_err-write_request-clause-part g c =
    let p = err_from_is_err_and c.from_residual.result c.from_residual.ensures.1 in
    rw p.1 (part_none _ _)
