use Rattle.std.proofs.Common.{length}
use Rattle.audit_link.proofs.counts.+place_of.Given as goal

abbrev pub decreases-place_of : goal.decreases-place_of
decreases-place_of l = length l.counts.now
