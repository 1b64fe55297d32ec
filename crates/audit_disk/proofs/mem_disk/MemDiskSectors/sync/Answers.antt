use Rattle.audit_disk.proofs.MemDiskCalls.{current_after, sync_noted, sync_refused, held_synced, refused_sync}
use Rattle.audit_disk.proofs.mem_disk.MemDiskSectors.sync.Goals as goal

pub returns-in_err-note-clause-sync : goal.returns-in_err-note-clause-sync
returns-in_err-note-clause-sync c =
    let disk = c.args.self.now in
    sync_refused disk.start.items disk.content.items disk.log disk.current disk.sized c.note.new.self c.from_residual.result c.from_residual.ensures.0 c.in_err-note.ensures.err _ _

pub returns-in_err-note-clause-held : goal.returns-in_err-note-clause-held
returns-in_err-note-clause-held c =
    let disk = c.args.self.now in
    refused_sync disk.start.items disk.log c.note.new.self c.from_residual.result c.from_residual.ensures.0 c.in_err-note.ensures.err

pub invariant_of-self : goal.invariant_of-self
invariant_of-self c =
    let disk = c.args.self.now in
    record { current = current_after disk.start.items disk.content.items disk.log disk.current disk.sized c.note.new.self c.note.result c.note.ensures.ok c.note.ensures.err; sized = disk.sized }

pub returns-clause-sync : goal.returns-clause-sync
returns-clause-sync c =
    let disk = c.args.self.now in
    sync_noted disk.start.items disk.content.items disk.log disk.current disk.sized c.note.new.self c.in_ok-note.ensures.ok _ _

pub returns-clause-held : goal.returns-clause-held
returns-clause-held c = let disk = c.args.self.now in held_synced disk.start.items disk.log c.note.new.self c.in_ok-note.ensures.ok
