use Rattle.std.proofs.Common.{◌≡◌, map, take}
use Rattle.audit_disk.specs.Held.{settled}
use Rattle.audit_disk.specs.Memory.{after_calls}
use Rattle.audit_disk.specs.Contents.{newest_of}
use Rattle.audit_disk.proofs.replay.content_of_calls.Given as goal

abbrev pub invariant-loop-call : goal.invariant-loop-call
invariant-loop-call l = l.blocks.items ≡ newest_of (after_calls (take l.call-index l.calls) (map settled l.start))
