use Rattle.audit_disk.proofs.GateCalls.{read_refused}
use Rattle.audit_disk.proofs.gate.Gate.read.Goals as goal

pub returns-clause-read : goal.returns-clause-read
returns-clause-read g c =
    let e = c.refuse.ensures in
    read_refused c.args.self.now c.refuse.new.self e.inner e.refused e.more c.refuse.result e.place e.missed c.args.at c.args.into.now
