use Rattle.std.proofs.Common.{length}
use Rattle.audit_link.proofs.counts.+ascend.Given as goal

abbrev pub decreases-ascend : goal.decreases-ascend
decreases-ascend l = length l.counts.now
