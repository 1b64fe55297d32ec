use Rattle.audit_disk.proofs.ReadOnlyCalls.{write_is}
use Rattle.audit_disk.proofs.read_only.ReadOnlySectors.write.Goals as goal

pub returns-clause-write : goal.returns-clause-write
returns-clause-write g c =
    write_is (g.S.SectorSource.source c.args.self.now.source.now) c.args.self.now.log c.note.new.self c.args.at _ c.note.result c.note.ensures.ok c.note.ensures.err
