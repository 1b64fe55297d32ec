use Rattle.std.proofs.Common.{refl}
use Rattle.audit_lanes.proofs.lanes.big_sigma0.Goals as goal

pub returns : goal.returns
returns c k h =
    rw (
      c.xor-2.ensures k h,
      c.xor.ensures k h,
      c.rotate_right.ensures k h,
      c.rotate_right-2.ensures k h,
      c.rotate_right-3.ensures k h,
    ) refl
