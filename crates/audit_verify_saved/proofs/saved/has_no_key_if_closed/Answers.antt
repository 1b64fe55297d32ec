use Rattle.audit_base.specs.Bytes.{zeros}
use Rattle.audit_verify_saved.proofs.saved.has_no_key_if_closed.Goals as goal

pub returns-else-not-closed : goal.returns-else-not-closed
unfolding zeros
returns-else-not-closed c = (λ same closed. c.is_same_hash.ensures.0 same, λ none. c.is_same_hash.ensures.1 (none c.if-not-closed.false))
