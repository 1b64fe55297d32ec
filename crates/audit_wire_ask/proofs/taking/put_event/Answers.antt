use Rattle.std.proofs.Common.{rules}
use Rattle.audit_wire_ask.proofs.EventLines.{request_allowed}
use Rattle.audit_wire_ask.proofs.taking.put_event.Goals as goal

pub put_request-requires-clause-request : goal.put_request-requires-clause-request
put_request-requires-clause-request c =
    request_allowed c.args.places c.args.form c.args.line.now c.args.earlier c.in-Ok.event c.in-Ok.ensures c.requires.place (search rules) (search rules)
