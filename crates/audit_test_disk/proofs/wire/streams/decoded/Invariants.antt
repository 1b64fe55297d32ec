use Rattle.std.proofs.Common.{length}
use Rattle.audit_test_disk.proofs.wire.streams.decoded.Given as goal

abbrev pub decreases-loop-rest : goal.decreases-loop-rest
decreases-loop-rest g l = length l.rest
