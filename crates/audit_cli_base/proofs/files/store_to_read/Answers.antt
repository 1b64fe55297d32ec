use Rattle.audit_cli_base.proofs.files.store_to_read.Goals as goal

pub returns-in-Ok-clause-on : goal.returns-in-Ok-clause-on
returns-in-Ok-clause-on g c = record {
  opened = c.in-Ok.ensures.opened;
  holds = λ origin events honest one. (c.in-Ok.ensures.holds origin events honest one).0;
}
