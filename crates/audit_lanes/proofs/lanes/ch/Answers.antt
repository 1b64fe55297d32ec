use Rattle.std.proofs.Common.{slice_index}
use Rattle.audit_lanes.proofs.ChMaj.{ch_short}
use Rattle.audit_lanes.proofs.LaneLemmas.{lane_fits}
use Rattle.audit_lanes.proofs.lanes.ch.Goals as goal

pub returns : goal.returns
returns c k h =
    rw (c.xor-2.ensures k h, c.and.ensures k h, c.xor.ensures k h)
    (ch_short (slice_index c.args.x k) (slice_index c.args.y k) (slice_index c.args.z k)
    (lane_fits c.args.x k h c.fits-x) (lane_fits c.args.y k h c.fits-y) (lane_fits c.args.z k h c.fits-z))
