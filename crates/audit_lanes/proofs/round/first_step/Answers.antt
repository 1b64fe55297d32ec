use Rattle.std.proofs.Common.{refl, sym}
use Rattle.sha2.proofs.Schedule256.{rounds_first}
use Rattle.audit_lanes.specs.Lanes.{lane}
use Rattle.audit_lanes.proofs.LaneLemmas.{lane_at}
use Rattle.audit_lanes.proofs.round.first_step.Goals as goal

pub returns : goal.returns
returns c k l b h window held =
    rounds_first b h (lane k c.args.w.now) (lane k c.args.v) c.args.t _ _ _ c.requires window held
    refl (sym (lane_at c.args.w.now k c.args.t)) (c.round.ensures k l)
