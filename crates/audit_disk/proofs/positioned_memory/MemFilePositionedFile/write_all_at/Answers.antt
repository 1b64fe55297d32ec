use Rattle.audit_disk.proofs.PositionedCalls.{write_uncounted}
use Rattle.audit_disk.proofs.positioned_memory.MemFilePositionedFile.write_all_at.Goals as goal

pub returns : goal.returns
returns c = write_uncounted c.write_row.result c.as_system.result c.as_system.ensures c.write_row.ensures
