use Rattle.std.proofs.Common.{arith}
use Rattle.audit_disk.proofs.GateCalls.{write_at_end, write_shut}
use Rattle.audit_disk.proofs.gate.Gate.write.Goals as goal

pub returns-then-not-passes-clause-write : goal.returns-then-not-passes-clause-write
returns-then-not-passes-clause-write g c =
    let e = c.miss.ensures in
    write_shut c.args.self.now c.miss.new.self e.inner e.refused e.more c.miss.result e.missed (c.requires.may_shut c.if-not-passes.true) c.args.at c.args.bytes.now

pub returns-then-calls-eq18446744073709551615-clause-write : goal.returns-then-calls-eq18446744073709551615-clause-write
returns-then-calls-eq18446744073709551615-clause-write g c =
    let e = c.refuse.ensures in
    write_at_end c.args.self.now c.refuse.new.self e.inner e.refused e.more c.refuse.result e.place e.missed (omega (arith, c.calls.ensures)) c.args.at c.args.bytes.now
