use Rattle.std.proofs.Common.{refl}
use Rattle.audit_lanes.proofs.LaneLemmas.{lane_at}
use Rattle.audit_lanes.proofs.states.States.plus.Goals as goal

pub returns : goal.returns
returns c k l =
    let v = c.args.v in
    rw (
      lane_at v k 0,
      lane_at v k 1,
      lane_at v k 2,
      lane_at v k 3,
      lane_at v k 4,
      lane_at v k 5,
      lane_at v k 6,
      lane_at v k 7,
      c.add.ensures k l,
      c.add-2.ensures k l,
      c.add-3.ensures k l,
      c.add-4.ensures k l,
      c.add-5.ensures k l,
      c.add-6.ensures k l,
      c.add-7.ensures k l,
      c.add-8.ensures k l,
    ) refl
