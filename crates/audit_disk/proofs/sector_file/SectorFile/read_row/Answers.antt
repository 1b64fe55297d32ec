use Rattle.std.proofs.Common.{◌∙◌, refl, arith, length-set}
use Rattle.audit_disk.proofs.RowReads.{row_next, row_failed}
use Rattle.audit_disk.proofs.sector_file.SectorFile.read_row.Goals as goal

pub returns-in_err-read_at : goal.returns-in_err-read_at
returns-in_err-read_at g c = row_failed c.loop-k.invariant.0 refl c.from_residual.result c.from_residual.ensures.0 c.in_err-read_at.ensures (omega arith)

pub loop-k-preserved : goal.loop-k-preserved
loop-k-preserved g c = (
  row_next c.loop-k.invariant.0 refl c.in_ok-read_at.ensures (omega (arith, c.loop-k.invariant.1)),
  length-set c.loop-k.into c.loop-k.k c.read_at.new.into ∙ c.loop-k.invariant.1,
)
