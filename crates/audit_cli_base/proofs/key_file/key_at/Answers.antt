use Rattle.audit_cli_base.proofs.KeyFiles.{keyless}
use Rattle.audit_cli_base.proofs.key_file.key_at.Goals as goal

-- the file has no key
pub returns-clause-bad : goal.returns-clause-bad
returns-clause-bad g c = λ bad. record {
  file = c.in_ok-file.file;
  opened = c.in_ok-file.ensures.opened;
  none = keyless c.read_key.result _ bad c.read_key.ensures.fault;
}
