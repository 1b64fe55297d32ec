use Rattle.std.proofs.Common.{refl}
use Rattle.sha2.specs.Sha256.{rounds}
use Rattle.audit_lanes.specs.Lanes.{lane}
use Rattle.audit_lanes.proofs.round.first_rounds.Goals as goal

pub returns : goal.returns
unfolding rounds
returns c k l b window =
    let h = lane k c.args.v in
    let s1 = c.first_four_steps-v.ensures k l b h window refl in
    let s2 = c.first_four_steps-v-2.ensures k l b h window s1 in
    let s3 = c.first_four_steps-v-3.ensures k l b h window s2 in
    c.first_four_steps.ensures k l b h window s3
