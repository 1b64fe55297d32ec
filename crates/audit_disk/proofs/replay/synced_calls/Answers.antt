use Rattle.std.proofs.Common.{ℕ, take, sym, subst, arith}
use Rattle.audit_disk.specs.Contents.{EndSynced}
use Rattle.audit_disk.proofs.Contents.{end_synced_none, end_synced_more}
use Rattle.audit_disk.proofs.replay.synced_calls.Goals as goal
use Rattle.audit_disk.proofs.replay.synced_calls.Goals.{in-Sync, in_default}

pub loop-k-init : goal.loop-k-init
loop-k-init c = record { within = omega arith; ends = end_synced_none }

pub loop-k-preserved : goal.loop-k-preserved
loop-k-preserved c =
    let calls = c.args.calls.now in
    elim c.match-call.branch [
      | in-Sync w ↦ record {
        within = omega (arith, w.synced-is);
        ends = subst (λ (n : ℕ). EndSynced (take n calls)) (sym w.synced-is) (end_synced_more calls c.loop-k.k c.index-calls-k.result c.loop-k-test.true c.index-calls-k.is w.in-Sync.is);
      }
      | in_default w ↦ record {
        within = omega (arith, w.synced-is, c.loop-k.invariant.within);
        ends = subst (λ (n : ℕ). EndSynced (take n calls)) (sym w.synced-is) c.loop-k.invariant.ends;
      }
    ]
