use Rattle.std.proofs.Common.{refl}
use Rattle.audit_lanes.proofs.lanes.small_sigma0.Goals as goal

pub returns : goal.returns
returns c k h =
    rw (
      c.xor-2.ensures k h,
      c.xor.ensures k h,
      c.rotate_right.ensures k h,
      c.rotate_right-2.ensures k h,
      c.shift_right.ensures k h,
    ) refl
