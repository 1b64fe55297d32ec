use Rattle.std.proofs.Common.{◌≤◌, take}
use Rattle.audit_disk.specs.Contents.{EndSynced}
use Rattle.audit_disk.proofs.replay.synced_calls.Given as goal

abbrev pub invariant-loop-k : goal.invariant-loop-k
invariant-loop-k l = record {
  within : l.synced ≤ l.k;
  ends : EndSynced (take l.synced l.calls);
}
