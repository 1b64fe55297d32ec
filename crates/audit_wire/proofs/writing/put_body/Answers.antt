use Rattle.std.proofs.Common.{append_assoc}
use Rattle.audit_wire.proofs.writing.put_body.Goals as goal

pub returns-in-Acknowledgement-clause-items : goal.returns-in-Acknowledgement-clause-items
returns-in-Acknowledgement-clause-items c =
    rw (c.in-Acknowledgement.is, c.put-in-Acknowledgement-2.ensures.items, c.put-in-Acknowledgement.ensures.items, c.put.ensures.items, c.put_head.ensures.items, c.to_be_bytes.ensures, c.to_be_bytes-in-Acknowledgement.ensures)
    (simp append_assoc)

pub returns-in-Commitment-clause-items : goal.returns-in-Commitment-clause-items
returns-in-Commitment-clause-items c =
    rw (c.in-Commitment.is, c.put-in-Commitment-2.ensures.items, c.put-in-Commitment.ensures.items, c.put_head-in-Commitment.ensures.items, c.to_be_bytes-in-Commitment.ensures)
    (simp append_assoc)

pub returns-in-State-clause-items : goal.returns-in-State-clause-items
returns-in-State-clause-items c =
    rw (c.in-State.is, c.put_state_tail.ensures.items, c.put-in-State-2.ensures.items, c.put-in-State.ensures.items, c.put_head-in-State.ensures.items, c.to_be_bytes-in-State.ensures)
    (simp append_assoc)

pub returns-in-Place-clause-items : goal.returns-in-Place-clause-items
returns-in-Place-clause-items c =
    rw (c.in-Place.is, c.put_number-in-Place.ensures.items, c.put_number.ensures.items, c.put_head-in-Place.ensures.items) (simp append_assoc)

pub returns-in-Placed-clause-items : goal.returns-in-Placed-clause-items
returns-in-Placed-clause-items c =
    rw (c.in-Placed.is, c.put-in-Placed-2.ensures.items, c.put-in-Placed.ensures.items, c.put_number-in-Placed-2.ensures.items, c.put_number-in-Placed.ensures.items, c.put_head-in-Placed.ensures.items)
    (simp append_assoc)
