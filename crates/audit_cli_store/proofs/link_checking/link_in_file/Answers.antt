use Rattle.audit_cli_store.proofs.LinkFiles.{too_long_if}
use Rattle.audit_cli_store.proofs.link_checking.link_in_file.Goals as goal

pub returns-in-Err-InputTooLong-clause-unread : goal.returns-in-Err-InputTooLong-clause-unread
returns-in-Err-InputTooLong-clause-unread g c =
    too_long_if (g.R.Read.remaining c.args.reader.now) (rw c.in-Err-InputTooLong.field-0-is at c.in-Err-InputTooLong.ensures.fault)
