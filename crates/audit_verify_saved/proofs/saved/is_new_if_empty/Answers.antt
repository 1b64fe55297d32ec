use Rattle.std.proofs.Common.{arith}
use Rattle.audit_base.specs.Bytes.{zeros}
use Rattle.audit_verify_saved.proofs.saved.is_new_if_empty.Goals as goal

pub returns-then-not-closed : goal.returns-then-not-closed
unfolding zeros
returns-then-not-closed c = (λ same none. (c.is_same_hash.ensures.0 same, c.if-not-closed.true), λ empty. c.is_same_hash.ensures.1 (empty (omega (arith, c.if-count-gt0.false))).0)
