use Rattle.std.proofs.Common.{refl, arith}
use Rattle.audit_disk.proofs.MemDiskCalls.{length-content, current_written, write_noted, write_refused, held_written, refused_write}
use Rattle.audit_disk.proofs.mem_disk.MemDiskSectors.write.Goals as goal

pub returns-in_err-note-clause-write : goal.returns-in_err-note-clause-write
returns-in_err-note-clause-write c =
    let disk = c.args.self.now in
    write_refused disk.start.items disk.content.items disk.log disk.current disk.sized c.note.new.self c.args.at c.args.bytes.now c.from_residual.result c.from_residual.ensures.0 c.in_err-note.ensures.err _ _

pub returns-in_err-note-clause-held : goal.returns-in_err-note-clause-held
returns-in_err-note-clause-held c =
    let disk = c.args.self.now in
    refused_write disk.start.items disk.log c.note.new.self c.args.at c.args.bytes.now c.from_residual.result c.from_residual.ensures.0 c.in_err-note.ensures.err

pub index_mut-requires : goal.index_mut-requires
index_mut-requires c = let disk = c.args.self.now in omega (arith, c.requires, length-content disk.start.items disk.content.items disk.log disk.current disk.sized)

pub invariant_of-self-2 : goal.invariant_of-self-2
invariant_of-self-2 c =
    let disk = c.args.self.now in
    record { current = current_written disk.start.items disk.content.items disk.log disk.current disk.sized c.note.new.self c.args.at _ c.in_ok-note.ensures.ok; sized = disk.sized }

pub returns-clause-write : goal.returns-clause-write
returns-clause-write c =
    let disk = c.args.self.now in
    write_noted disk.start.items disk.content.items disk.log disk.current disk.sized c.note.new.self c.args.at _ c.in_ok-note.ensures.ok _ _

pub returns-clause-held : goal.returns-clause-held
returns-clause-held c = let disk = c.args.self.now in (_, refl, held_written disk.start.items disk.log c.note.new.self c.args.at _ c.in_ok-note.ensures.ok)
