use Rattle.std.proofs.Common.{arith}
use Rattle.audit_base.specs.Bytes.{zeros}
use Rattle.audit_disclosure.proofs.reading.is_fitting.Goals as goal

pub returns-else-count-gt0 : goal.returns-else-count-gt0
unfolding zeros
returns-else-count-gt0 c = (λ same none. c.is_same_hash.ensures.0 same, λ empty. c.is_same_hash.ensures.1 (empty (omega (arith, c.count.ensures.count, c.if-count-gt0.false))))
