use Rattle.audit_wire.proofs.GivingBack.{given_back, any_given_back, ahead_given_back}
use Rattle.audit_wire.proofs.laws.a_byte_given_back_never_came.Goals as goal

pub returns-clause-whole : goal.returns-clause-whole
returns-clause-whole c = given_back

pub returns-clause-any : goal.returns-clause-any
returns-clause-any c = any_given_back

pub returns-clause-ahead : goal.returns-clause-ahead
returns-clause-ahead c = ahead_given_back
