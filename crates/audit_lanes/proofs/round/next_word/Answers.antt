use Rattle.std.proofs.Common.{◌≡◌, ◌+◌, ◌%◌, arith, refl}
use Rattle.audit_lanes.proofs.LaneLemmas.{lane_at}
use Rattle.audit_lanes.proofs.round.next_word.Goals as goal

pub returns-clause-value : goal.returns-clause-value
returns-clause-value c k h =
    let w = c.args.w.now in
    let place = c.args.place in
    let at : place % 16 ≡ place = omega arith in
    rw (
      c.add-word.ensures k h,
      c.add.ensures k h,
      c.add-recent.ensures k h,
      c.small_sigma1.ensures k h,
      c.small_sigma0.ensures k h,
      at,
      lane_at w k ((place + 14) % 16),
      lane_at w k ((place + 9) % 16),
      lane_at w k ((place + 1) % 16),
      lane_at w k place,
    ) refl
