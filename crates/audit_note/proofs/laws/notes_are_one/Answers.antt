use Rattle.audit_note.proofs.Notes.{one_note, short_note}
use Rattle.audit_note.proofs.laws.notes_are_one.Goals as goal

pub returns-clause-one : goal.returns-clause-one
returns-clause-one c = one_note

pub returns-clause-short : goal.returns-clause-short
returns-clause-short c = short_note
