use Rattle.std.proofs.Common.{map, take}
use Rattle.audit_disk.specs.Held.{settled}
use Rattle.audit_disk.specs.Memory.{after_calls}
use Rattle.audit_disk.specs.Progress.{AreProgress}
use Rattle.audit_disk.proofs.replay.replayed_blocks.Given as goal

abbrev pub invariant-loop-call : goal.invariant-loop-call
invariant-loop-call l = AreProgress (after_calls (take l.call-index l.calls) (map settled l.start)) l.pick l.progress.items
