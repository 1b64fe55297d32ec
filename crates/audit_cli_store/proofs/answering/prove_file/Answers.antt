use Rattle.std.proofs.Common.{rules}
use Rattle.audit_cli_store.proofs.AnsweredFiles.{proved, proved_alone}
use Rattle.audit_cli_store.proofs.answering.prove_file.Goals as goal

pub returns-then-eq-clause-proved : goal.returns-then-eq-clause-proved
returns-then-eq-clause-proved g c =
    proved_alone g.F.File.SystemFile.facts g.F.File.PositionedFile.positioned _ c.args.access c.args.file.now c.args.asked c.args.out.now c.in_ok-proof.proof.items c.as_slice.result.now (g.W.Write.contents c.args.output.now) (g.W.Write.contents c.put.new.output) c.as_slice.ensures.value (search rules) c.in_ok-proof.ensures.made c.in_ok-put.ensures.put

pub returns-clause-proved : goal.returns-clause-proved
returns-clause-proved g c =
    proved g.F.File.SystemFile.facts g.F.File.PositionedFile.positioned _ c.args.access c.args.file.now c.args.asked c.args.out.now c.in_ok-proof.proof.items c.as_slice.result.now c.len.result (g.W.Write.contents c.args.output.now) (g.W.Write.contents c.put.new.output) (g.W.Write.contents c.write_number.new.writer) c.write_number.result c.as_slice.ensures.value (search rules) (search rules) c.in_ok-proof.ensures.made c.in_ok-put.ensures.put c.write_number.ensures.written
