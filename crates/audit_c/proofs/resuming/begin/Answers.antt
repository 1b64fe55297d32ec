use Rattle.std.proofs.Common.{refl, arith}
use Rattle.audit_verify_saved.specs.Saved.{shown}
use Rattle.audit_c.proofs.Steps.{fed_none}
use Rattle.audit_c.proofs.resuming.begin.Goals as goal

pub returns : goal.returns
returns c =
    fed_none (shown c.args.saved.now) _ c.hashes-nodes.ensures.sized refl refl c.count-count.ensures.count c.mark_of-closed.ensures
    c.hashes-nodes.ensures.hashes refl (omega arith) refl
