use Rattle.std.proofs.Common.{arith}
use Rattle.audit_disk.proofs.GateCalls.{sync_at_end, sync_shut}
use Rattle.audit_disk.proofs.gate.Gate.sync.Goals as goal

pub returns-then-not-passes-clause-sync : goal.returns-then-not-passes-clause-sync
returns-then-not-passes-clause-sync g c =
    let e = c.miss.ensures in
    sync_shut c.args.self.now c.miss.new.self e.inner e.refused e.more c.miss.result e.missed (c.requires c.if-not-passes.true)

pub returns-then-calls-eq18446744073709551615-clause-sync : goal.returns-then-calls-eq18446744073709551615-clause-sync
returns-then-calls-eq18446744073709551615-clause-sync g c =
    let e = c.refuse.ensures in
    sync_at_end c.args.self.now c.refuse.new.self e.inner e.refused e.more c.refuse.result e.place e.missed (omega (arith, c.calls.ensures))
