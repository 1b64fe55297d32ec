use Rattle.std.proofs.Common.{append_assoc}
use Rattle.audit_wire.proofs.request_writing.write_request.Goals as goal

pub returns-clause-ok : goal.returns-clause-ok
returns-clause-ok c =
    rw (c.put_body.ensures.items, c.put.ensures.items, c.in_ok-reserve.ensures.items, c.to_be_bytes.ensures, c.body_size-size.ensures.size)
    (simp append_assoc)
