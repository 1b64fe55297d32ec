-- The last call of a device that reached its file.
use Rattle.std.proofs.Common.{◌≡◌, ℕ, Option, Some, None, is_some, unwrap_or, List, [], take, true, false, refl, sym, ap}
use Rattle.audit_disk_model.specs.Image.{Sector}
use Rattle.audit_disk.specs.Rows.{active_row}
use Rattle.audit_disk.specs.KeptRow.{kept_sectors}
use Rattle.audit_disk.specs.declared.kept_row.KeptRow.{KeptRow}
use Rattle.std.proofs.lemmas.Bool.{false≢true}

-- unless a sync has failed, the last call reached the file
pub reached_now : (failed_at : Option ℕ) (clock : ℕ) → is_some failed_at ≡ false → unwrap_or failed_at clock ≡ clock
reached_now None clock working = refl
reached_now (Some at) clock working = absurd (false≢true (sym working))

pub none_of : (given : Option ℕ) → is_some given ≡ false → given ≡ None
none_of None none = refl
none_of (Some at) none = absurd (false≢true (sym none))

-- while rows are kept, the kept sectors are those that the file doesn't have yet
pub active_rows : (single : Option ℕ) (kept : List Sector) → is_some single ≡ false → active_row single kept ≡ kept
active_rows None kept none = refl
active_rows (Some at) kept none = absurd (false≢true (sym none))

pub active_singly : (single : Option ℕ) (kept : List Sector) → is_some single ≡ true → active_row single kept ≡ []
active_singly None kept some = absurd (false≢true some)
active_singly (Some at) kept some = refl

pub active_nothing : (single : Option ℕ) (kept : List Sector) → kept ≡ [] → active_row single kept ≡ []
active_nothing None kept none = none
active_nothing (Some at) kept none = refl

pub kept_nothing : (kept : KeptRow) → kept.count ≡ 0 → kept_sectors kept ≡ []
kept_nothing kept none = ap (λ (n : ℕ). take n kept.row.items) none
