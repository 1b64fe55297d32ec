use Rattle.std.proofs.Common.{append_assoc}
use Rattle.audit_wire.proofs.writing.put_state_tail.Goals as goal

pub returns-clause-items : goal.returns-clause-items
returns-clause-items c =
    rw (c.put-2.ensures.items, c.put.ensures.items, c.put_number-3.ensures.items, c.put_number-2.ensures.items, c.put_number.ensures.items, c.to_be_bytes.ensures, c.mark_of.ensures)
    (simp append_assoc)
