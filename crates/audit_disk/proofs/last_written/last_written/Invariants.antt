use Rattle.std.proofs.Common.{take}
use Rattle.audit_disk.specs.ReadOnly.{IsLastWritten}
use Rattle.audit_disk.proofs.last_written.last_written.Given as goal

abbrev pub invariant-loop-call : goal.invariant-loop-call
invariant-loop-call l = IsLastWritten (take l.call-index l.calls) l.at l.found
