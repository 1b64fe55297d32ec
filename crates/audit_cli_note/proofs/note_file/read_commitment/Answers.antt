use Rattle.audit_note.proofs.Notes.{too_long_if}
use Rattle.audit_cli_note.proofs.note_file.read_commitment.Goals as goal

pub returns-in-Err-InputTooLong-clause-fault : goal.returns-in-Err-InputTooLong-clause-fault
returns-in-Err-InputTooLong-clause-fault g c =
    too_long_if (g.R.Read.remaining c.args.reader.now) (rw c.in-Err-InputTooLong.field-0-is at c.in-Err-InputTooLong.ensures.fault)
