use Rattle.audit_cli_base.proofs.OtherLogs.{other_of}
use Rattle.audit_cli_base.proofs.files.extending.Goals as goal

pub returns-in-Ok-clause-on : goal.returns-in-Ok-clause-on
returns-in-Ok-clause-on g c = record {
  opened = c.in-Ok.ensures.opened;
  holds = λ origin events honest one. (c.in-Ok.ensures.holds origin events honest one).0;
}

pub returns-in-Err-clause-fault : goal.returns-in-Err-clause-fault
returns-in-Err-clause-fault g c = record {
  error = c.in-Err.failed.error;
  fault_is = c.fault_of.ensures.fault;
  other = other_of _ _ c.args.older c.in-Err.failed.error c.in-Err.ensures.opened;
  events = λ origin events honest one. c.in-Err.ensures.holds origin events honest one;
}
