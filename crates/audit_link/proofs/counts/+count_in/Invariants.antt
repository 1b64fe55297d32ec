use Rattle.std.proofs.Common.{length}
use Rattle.audit_link.proofs.counts.+count_in.Given as goal

abbrev pub decreases-count_in : goal.decreases-count_in
decreases-count_in l = length l.counts.now
