use Rattle.std.proofs.Common.{length}
use Rattle.audit_test_disk.proofs.wire.streams.hear.Given as goal

abbrev pub decreases-loop-rest : goal.decreases-loop-rest
decreases-loop-rest l = length l.rest
