use Rattle.audit_disk.proofs.PositionedCalls.{row_uncounted}
use Rattle.audit_disk.proofs.positioned_memory.MemFilePositionedFile.read_exact_at.Goals as goal

pub returns : goal.returns
returns c = row_uncounted c.read_row.result c.as_system.result c.as_system.ensures c.read_row.ensures
