use Rattle.std.proofs.Common.{Ok, Err, ◌+◌, ◌-◌, ◌≤◌, ◌≡◌, ℕ, min, is_some, true, false, unwrap_or, refl, arith}
use Rattle.audit_disk.specs.Rows.{file_moment, row_at, active_row}
use Rattle.audit_disk.specs.KeptRow.{kept_sectors}
use Rattle.audit_disk.specs.KeptRowLaws.{length-kept}
use Rattle.audit_disk.proofs.FileCalls.{sync_counted}
use Rattle.audit_disk.proofs.FileTimes.{moment_kept, row_kept, moment_most, row_none, earlier_then, earlier_was, below_last, below_end, split_up}
use Rattle.audit_disk.proofs.Reached.{reached_now, none_of}
use Rattle.audit_disk.proofs.file_disk.FileDisk.sync_alone.Goals as goal

pub returns-in-Ok-clause-sync : goal.returns-in-Ok-clause-sync
returns-in-Ok-clause-sync g c =
    let disk = c.args.self.now in
    let old = g.F.SectorFile.file disk.file.inner in
    let new = g.F.SectorFile.file c.sync.new.self.inner in
    let call = c.in-Ok.ensures in
    let kept = kept_sectors disk.kept in
    let active = active_row disk.single_from kept in
    let count = disk.kept.count in
    let single = disk.single_from in
    let reached = unwrap_or disk.failed_at disk.clock in
    let split = unwrap_or single reached in
    let working = c.requires.passes.working in
    let here = reached_now disk.failed_at disk.clock working in
    let long = length-kept disk.kept in
    let rows = λ (honest : old.honest) (none : is_some single ≡ false). disk.in_step honest (none_of disk.failed_at working) (none_of single none) in
    let singly = λ (honest : old.honest) (some : is_some single ≡ true). disk.in_step_singly honest (none_of disk.failed_at working) some in
    let next = disk.clock + 1 in
    let reached' = unwrap_or disk.failed_at next in
    let there : reached' ≡ next = reached_now disk.failed_at next working in
    let split' = unwrap_or single reached' in
    let ticks = λ (honest : old.honest). call.moment honest (below_last single disk.clock count old.moment c.requires.passes.below_end (omega (arith, disk.kept.in_row, disk.kept.room)) (rows honest) (singly honest)) in
    let moment_of = λ (at : ℕ). file_moment (split - count) split reached old.moment (min at reached) in
    let moment_of' = λ (at : ℕ). file_moment (split' - count) split' reached' new.moment (min at reached') in
    let row_of = λ (at : ℕ). row_at (split - count) split kept active (min at reached) in
    let row_of' = λ (at : ℕ). row_at (split' - count) split' kept active (min at reached') in
    let same_moment = λ (at : ℕ) (le : at ≤ disk.clock) (honest : old.honest). moment_kept disk.clock reached reached' count old.moment new.moment kept here there long (ticks honest) single c.requires.none disk.row_in_order disk.split_in_order (rows honest) at le in
    let most = λ (at : ℕ) (le : at ≤ disk.clock) (honest : old.honest). moment_most disk.clock reached count old.moment single here disk.row_in_order disk.split_in_order (rows honest) (singly honest) at le in
    let same_row = λ (at : ℕ) (le : at ≤ disk.clock). row_kept disk.clock reached reached' count old.moment (old.moment + 1) kept here there long refl single c.requires.none disk.row_in_order disk.split_in_order at le in
    let split_order : split' ≤ reached' = split_up single reached reached' disk.split_in_order (omega (arith, here, there)) in
    sync_counted old new disk.sectors disk.kept.start disk.kept.start moment_of moment_of' row_of row_of' disk.clock next disk.failures disk.failures _ _ disk.in_range _ _ _ _ _ disk.sized _ call.goes_on
    (λ at image le left. earlier_then old new disk.sectors disk.kept.start at (moment_of at) (moment_of' at) (row_of at) (row_of' at) image call.goes_on (same_moment at le) (same_row at le) (most at le) left)
    (λ at image le left. earlier_was old new disk.sectors disk.kept.start at (moment_of at) (moment_of' at) (row_of at) (row_of' at) image call.goes_on (same_moment at le) (same_row at le) (most at le) left)
    (omega arith) (omega arith)
    (row_none single disk.clock reached (split - count) kept c.requires.none disk.split_in_order disk.in_order) (row_none single next reached' (split' - count) kept c.requires.none split_order (omega (arith, there)))
    (below_end single disk.clock c.requires.passes.below_end) refl
    (Ok tt) (Ok tt) call refl refl

pub returns-in-Err-clause-sync : goal.returns-in-Err-clause-sync
returns-in-Err-clause-sync g c =
    let disk = c.args.self.now in
    let old = g.F.SectorFile.file disk.file.inner in
    let new = g.F.SectorFile.file c.sync.new.self.inner in
    let call = c.in-Err.ensures in
    let kept = kept_sectors disk.kept in
    let active = active_row disk.single_from kept in
    let count = disk.kept.count in
    let single = disk.single_from in
    let reached = unwrap_or disk.failed_at disk.clock in
    let split = unwrap_or single reached in
    let working = c.requires.passes.working in
    let here = reached_now disk.failed_at disk.clock working in
    let long = length-kept disk.kept in
    let rows = λ (honest : old.honest) (none : is_some single ≡ false). disk.in_step honest (none_of disk.failed_at working) (none_of single none) in
    let singly = λ (honest : old.honest) (some : is_some single ≡ true). disk.in_step_singly honest (none_of disk.failed_at working) some in
    let next = disk.clock + 1 in
    let reached' = next in
    let there : reached' ≡ next = refl in
    let split' = unwrap_or single reached' in
    let ticks = λ (honest : old.honest). call.moment honest (below_last single disk.clock count old.moment c.requires.passes.below_end (omega (arith, disk.kept.in_row, disk.kept.room)) (rows honest) (singly honest)) in
    let moment_of = λ (at : ℕ). file_moment (split - count) split reached old.moment (min at reached) in
    let moment_of' = λ (at : ℕ). file_moment (split' - count) split' reached' new.moment (min at reached') in
    let row_of = λ (at : ℕ). row_at (split - count) split kept active (min at reached) in
    let row_of' = λ (at : ℕ). row_at (split' - count) split' kept active (min at reached') in
    let same_moment = λ (at : ℕ) (le : at ≤ disk.clock) (honest : old.honest). moment_kept disk.clock reached reached' count old.moment new.moment kept here there long (ticks honest) single c.requires.none disk.row_in_order disk.split_in_order (rows honest) at le in
    let most = λ (at : ℕ) (le : at ≤ disk.clock) (honest : old.honest). moment_most disk.clock reached count old.moment single here disk.row_in_order disk.split_in_order (rows honest) (singly honest) at le in
    let same_row = λ (at : ℕ) (le : at ≤ disk.clock). row_kept disk.clock reached reached' count old.moment (old.moment + 1) kept here there long refl single c.requires.none disk.row_in_order disk.split_in_order at le in
    let split_order : split' ≤ reached' = split_up single reached reached' disk.split_in_order (omega (arith, here, there)) in
    sync_counted old new disk.sectors disk.kept.start disk.kept.start moment_of moment_of' row_of row_of' disk.clock next disk.failures c.counted.new.failures _ _ disk.in_range _ _ _ _ _ disk.sized _ call.goes_on
    (λ at image le left. earlier_then old new disk.sectors disk.kept.start at (moment_of at) (moment_of' at) (row_of at) (row_of' at) image call.goes_on (same_moment at le) (same_row at le) (most at le) left)
    (λ at image le left. earlier_was old new disk.sectors disk.kept.start at (moment_of at) (moment_of' at) (row_of at) (row_of' at) image call.goes_on (same_moment at le) (same_row at le) (most at le) left)
    (omega arith) c.counted.ensures.more
    (row_none single disk.clock reached (split - count) kept c.requires.none disk.split_in_order disk.in_order) (row_none single next reached' (split' - count) kept c.requires.none split_order (omega (arith, there)))
    (below_end single disk.clock c.requires.passes.below_end) refl
    (Err c.in-Err.fault) c.counted.result call c.counted.ensures.counts c.counted.ensures.result
