use Rattle.audit_wire.proofs.Readings.{reading_of, reading_is}
use Rattle.audit_wire.proofs.laws.one_reading_of_a_stream.Goals as goal

pub returns-clause-read : goal.returns-clause-read
returns-clause-read c = reading_of

pub returns-clause-only : goal.returns-clause-only
returns-clause-only c = reading_is
