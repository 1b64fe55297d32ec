use Rattle.audit_cli_base.proofs.StartFiles.{no_start_if_too_long}
use Rattle.audit_cli_base.proofs.start_file.read_start.Goals as goal

pub returns-in-Err-InputTooLong-clause-fault : goal.returns-in-Err-InputTooLong-clause-fault
returns-in-Err-InputTooLong-clause-fault g c =
    no_start_if_too_long (g.R.Read.remaining c.args.reader.now) (rw c.in-Err-InputTooLong.field-0-is at c.in-Err-InputTooLong.ensures.fault)
