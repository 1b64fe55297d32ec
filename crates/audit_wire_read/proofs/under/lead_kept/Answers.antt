use Rattle.std.proofs.lemmas.Result.{on_ok_weaker}
use Rattle.audit_wire_read.proofs.Asked.{asks_none}
use Rattle.audit_wire_read.proofs.under.lead_kept.Goals as goal

pub returns-then-eq-clause-asked : goal.returns-then-eq-clause-asked
returns-then-eq-clause-asked g c = asks_none _ _

pub returns-then-kept-eq0-clause-asked : goal.returns-then-kept-eq0-clause-asked
returns-then-kept-eq0-clause-asked g c = asks_none _ _

pub returns-clause-asked : goal.returns-clause-asked
returns-clause-asked g c =
    on_ok_weaker c.join_by.result (λ joined. record { asked = _; given = _; reading = (tt, tt); conversation = joined.1 }) c.join_by.ensures.done
