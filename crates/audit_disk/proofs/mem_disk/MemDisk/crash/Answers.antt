use Rattle.audit_disk.specs.Held.{bytes_of_blocks}
use Rattle.audit_disk.proofs.FreshDisks.{crash_image, crash_every, after_crash_if}
use Rattle.audit_disk.proofs.mem_disk.MemDisk.crash.Goals as goal

pub returns-in_err-left-clause-image : goal.returns-in_err-left-clause-image
returns-in_err-left-clause-image c = crash_image c.args.self.now c.args.pick.now

pub returns-in_err-left-clause-every : goal.returns-in_err-left-clause-every
returns-in_err-left-clause-every c = crash_every c.args.self.now

pub returns-clause-image : goal.returns-clause-image
returns-clause-image c = crash_image c.args.self.now c.args.pick.now

pub returns-clause-every : goal.returns-clause-every
returns-clause-every c = crash_every c.args.self.now

pub returns-clause-after : goal.returns-clause-after
returns-clause-after c =
    after_crash_if c.args.self.now c.args.pick.now (bytes_of_blocks c.in_ok-left.left.items) c.with_content.result c.with_content.ensures.fresh (rw (← c.deref.ensures.value, ← c.deref-2.ensures.value) c.in_ok-left.ensures)
