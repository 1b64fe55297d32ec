use Rattle.std.proofs.Common.{refl}
use Rattle.audit_lanes.proofs.LaneLemmas.{lane_at}
use Rattle.audit_lanes.proofs.round.round.Goals as goal

pub returns : goal.returns
returns c k h =
    let v = c.args.v in
    rw (
      lane_at v k 0,
      lane_at v k 1,
      lane_at v k 2,
      lane_at v k 3,
      lane_at v k 4,
      lane_at v k 5,
      lane_at v k 6,
      lane_at v k 7,
      c.add-4.ensures k h,
      c.add-5.ensures k h,
      c.add-temp1.ensures k h,
      c.add-temp2.ensures k h,
      c.add-3.ensures k h,
      c.add-2.ensures k h,
      c.add.ensures k h,
      c.big_sigma1.ensures k h,
      c.ch.ensures k h,
      c.splat.ensures k h,
      c.big_sigma0.ensures k h,
      c.maj.ensures k h,
    ) refl
