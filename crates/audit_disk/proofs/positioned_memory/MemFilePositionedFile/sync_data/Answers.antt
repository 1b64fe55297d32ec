use Rattle.audit_disk.proofs.PositionedCalls.{sync_uncounted}
use Rattle.audit_disk.proofs.positioned_memory.MemFilePositionedFile.sync_data.Goals as goal

pub returns : goal.returns
returns c = sync_uncounted c.sync.result c.as_system.result c.as_system.ensures c.sync.ensures
