use Rattle.std.proofs.Common.{map, take}
use Rattle.audit_disk.specs.Held.{settled}
use Rattle.audit_disk.specs.Progress.{AreProgress}
use Rattle.audit_disk.proofs.replay.progress_at.Given as goal

abbrev pub invariant-loop-k : goal.invariant-loop-k
invariant-loop-k l = AreProgress (map settled (take l.k l.start)) l.pick l.progress.items
