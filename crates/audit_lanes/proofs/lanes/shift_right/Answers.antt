use Rattle.audit_lanes.proofs.LaneLemmas.{lanes_shift}
use Rattle.audit_lanes.proofs.lanes.shift_right.Goals as goal

pub returns : goal.returns
returns c = lanes_shift c.args.by c.args.x c.fits-x.0
