use Rattle.std.proofs.Common.{◌+◌, ap, arith}
use Rattle.audit_disk.specs.Memory.{latest}
use Rattle.audit_disk.proofs.MemoryLemmas.{latest-push}
use Rattle.audit_disk.proofs.call_log.CallLog.note.Goals as goal

pub invariant_of-self-in-Ok : goal.invariant_of-self-in-Ok
invariant_of-self-in-Ok c =
    record { stamped = omega (arith, ap latest c.in-Ok.ensures.items, latest-push c.args.self.now.calls.items (record { moment = c.args.self.now.clock + 1; effect = c.args.effect }), c.args.self.now.stamped); in_range = omega arith }
