use Rattle.std.proofs.Common.{slice_index}
use Rattle.audit_lanes.proofs.ChMaj.{maj_short}
use Rattle.audit_lanes.proofs.lanes.maj.Goals as goal

pub returns : goal.returns
returns c k h =
    rw (c.xor-3.ensures k h, c.and.ensures k h, c.xor.ensures k h, c.xor-2.ensures k h)
    (maj_short (slice_index c.args.x k) (slice_index c.args.y k) (slice_index c.args.z k))
