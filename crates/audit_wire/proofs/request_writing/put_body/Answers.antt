use Rattle.std.proofs.Common.{append_assoc}
use Rattle.audit_wire.proofs.request_writing.put_body.Goals as goal

pub returns-in-Append-clause-items : goal.returns-in-Append-clause-items
returns-in-Append-clause-items c =
    rw (c.in-Append.is, c.put-in-Append.ensures.items, c.put.ensures.items, c.put_head.ensures.items, c.to_be_bytes.ensures)
    (simp append_assoc)

pub returns-in-Membership-clause-items : goal.returns-in-Membership-clause-items
returns-in-Membership-clause-items c =
    rw (c.in-Membership.is, c.put_numbers.ensures.items, c.put_head-in-Membership.ensures.items) (simp append_assoc)

pub returns-in-Incremental-clause-items : goal.returns-in-Incremental-clause-items
returns-in-Incremental-clause-items c =
    rw (c.in-Incremental.is, c.put_numbers-in-Incremental.ensures.items, c.put_head-in-Incremental.ensures.items) (simp append_assoc)

pub returns-in-Entry-clause-items : goal.returns-in-Entry-clause-items
returns-in-Entry-clause-items c =
    rw (c.in-Entry.is, c.put-in-Entry.ensures.items, c.put_head-in-Entry.ensures.items, c.to_be_bytes-in-Entry.ensures) (simp append_assoc)

pub returns-in-Place-clause-items : goal.returns-in-Place-clause-items
returns-in-Place-clause-items c =
    rw (c.in-Place.is, c.put-in-Place.ensures.items, c.put_head-in-Place.ensures.items, c.to_be_bytes-in-Place.ensures) (simp append_assoc)

pub returns-in-PlacedAppend-clause-items : goal.returns-in-PlacedAppend-clause-items
returns-in-PlacedAppend-clause-items c =
    rw (c.in-PlacedAppend.is, c.put-in-PlacedAppend-3.ensures.items, c.put-in-PlacedAppend-2.ensures.items, c.put-in-PlacedAppend.ensures.items, c.put_head-in-PlacedAppend.ensures.items, c.to_be_bytes-in-PlacedAppend.ensures, c.to_be_bytes-in-PlacedAppend-2.ensures)
    (simp append_assoc)
