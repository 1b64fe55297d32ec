use Rattle.std.proofs.Common.{◌+◌, ◌-◌, ◌<◌, ◌≤◌, ◌≡◌, ◌⊎◌, ℕ, List, length, min, is_some, true, false, unwrap_or, refl, sym, ap, subst, arith}
use Rattle.audit_disk_model.specs.Image.{Sector}
use Rattle.audit_disk.specs.Rows.{file_moment, row_at, active_row}
use Rattle.audit_disk.specs.KeptRow.{kept_sectors}
use Rattle.audit_disk.specs.KeptRowLaws.{length-kept}
use Rattle.audit_disk.proofs.FileCalls.{read_file}
use Rattle.audit_disk.proofs.FileTimes.{moment_most, row_active, earlier_then, earlier_was, apart_active}
use Rattle.audit_disk.proofs.Reached.{reached_now, none_of}
use Rattle.audit_disk.proofs.file_disk.FileDisk.read_alone.Goals as goal

pub returns-clause-read : goal.returns-clause-read
returns-clause-read g c =
    let disk = c.args.self.now in
    let old = g.F.SectorFile.file disk.file.inner in
    let new = g.F.SectorFile.file c.read_at-outcome.new.self.inner in
    let call = c.read_at-outcome.ensures in
    let kept = kept_sectors disk.kept in
    let active = active_row disk.single_from kept in
    let count = disk.kept.count in
    let single = disk.single_from in
    let reached = unwrap_or disk.failed_at disk.clock in
    let split = unwrap_or single reached in
    let working = c.requires.working in
    let here = reached_now disk.failed_at disk.clock working in
    let long = length-kept disk.kept in
    let rows = λ (honest : old.honest) (none : is_some single ≡ false). disk.in_step honest (none_of disk.failed_at working) (none_of single none) in
    let singly = λ (honest : old.honest) (some : is_some single ≡ true). disk.in_step_singly honest (none_of disk.failed_at working) some in
    let moment_of = λ (at : ℕ). file_moment (split - count) split reached old.moment (min at reached) in
    let moment_of' = λ (at : ℕ). file_moment (split - count) split reached new.moment (min at reached) in
    let row_of = λ (at : ℕ). row_at (split - count) split kept active (min at reached) in
    let same_moment = λ (at : ℕ) (honest : old.honest). ap (λ (now : ℕ). file_moment (split - count) split reached now (min at reached)) (call.only.moment honest) in
    let most = λ (at : ℕ) (le : at ≤ disk.clock) (honest : old.honest). moment_most disk.clock reached count old.moment single here disk.row_in_order disk.split_in_order (rows honest) (singly honest) at le in
    read_file old new disk.sectors disk.kept.start disk.kept.start moment_of moment_of' row_of row_of disk.clock disk.clock disk.failures c.counted.new.failures _ _ disk.in_range _ _ _ _ _ disk.sized _ call.only.goes_on
    (λ at image le left. earlier_then old new disk.sectors disk.kept.start at (moment_of at) (moment_of' at) (row_of at) (row_of at) image call.only.goes_on (same_moment at) refl (most at le) left)
    (λ at image le left. earlier_was old new disk.sectors disk.kept.start at (moment_of at) (moment_of' at) (row_of at) (row_of at) image call.only.goes_on (same_moment at) refl (most at le) left)
    (omega arith) c.counted.ensures.more
    c.args.at c.read_at-outcome.new.into c.read_at-outcome.result c.counted.result (omega (arith, c.requires.within))
    (subst (λ (row : List Sector). (c.args.at < disk.kept.start) ⊎ (disk.kept.start + length row ≤ c.args.at)) (sym (row_active single disk.clock reached (split - count) kept disk.split_in_order disk.in_order))
    (apart_active single kept c.args.at disk.kept.start count long c.requires.apart))
    call refl refl refl c.counted.ensures.counts c.counted.ensures.result
