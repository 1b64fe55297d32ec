use Rattle.std.proofs.Common.{ℕ, ◌<◌, ◌*◌}
use Rattle.sha2.specs.Sha256.{IsRoundsAt}
use Rattle.audit_lanes.specs.States.{hash_in_lane}
use Rattle.audit_lanes.specs.Lanes.{lane, of_four}
use Rattle.audit_lanes.proofs.compress.compress.Given as goal

abbrev pub invariant-schedule : goal.invariant-schedule
invariant-schedule l = (k : ℕ) → k < 4
    → IsRoundsAt (of_four l.a l.b l.c l.d k) (hash_in_lane l.states k) (lane k l.w) (lane k l.v) (16 * l.turn)
