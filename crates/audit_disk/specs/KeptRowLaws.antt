-- Laws of the kept sectors of a row.
use Rattle.std.specs.Prelude.{◌≡◌, length}
use Rattle.std.proofs.lemmas.List.{length-take-le}
use Rattle.audit_disk.specs.RowLaws.{whole_take}
use Rattle.audit_disk.specs.Rows.{IsWholeRow}
use Rattle.audit_disk.specs.declared.kept_row.KeptRow.{KeptRow}
use Rattle.audit_disk.specs.KeptRow.{kept_sectors}

pub whole_kept : (kept : KeptRow) → IsWholeRow (kept_sectors kept)
whole_kept kept = whole_take kept.count kept.row.items kept.whole

pub length-kept : (kept : KeptRow) → length (kept_sectors kept) ≡ kept.count
length-kept kept = length-take-le kept.count kept.row.items kept.in_row
