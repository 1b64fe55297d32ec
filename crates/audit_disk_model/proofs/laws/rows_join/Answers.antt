use Rattle.std.proofs.Common.{refl}
use Rattle.audit_disk_model.proofs.Images.{with_sectors-append}
use Rattle.audit_disk_model.proofs.Rows.{writes_append}
use Rattle.audit_disk_model.proofs.laws.rows_join.Goals as goal

pub returns-clause-image : goal.returns-clause-image
returns-clause-image g c = with_sectors-append

pub returns-clause-written : goal.returns-clause-written
returns-clause-written g c = λ old mid new at one two calls first next fits. writes_append calls first next refl fits
