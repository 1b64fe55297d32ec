use Rattle.std.proofs.Common.{◌+◌, ◌-◌, ◌*◌, ◌≤◌, ℕ, List, Option, Some, length, unwrap_or, is_some, refl, sym, ◌∙◌, ap, subst, arith}
use Rattle.std.proofs.lemmas.Bool.{false≢true}
use Rattle.audit_disk_model.specs.Image.{Sector}
use Rattle.audit_disk_model.specs.declared.fault.DeviceFault.{DeviceFault}
use Rattle.audit_disk.specs.File.{IsRowWrite}
use Rattle.audit_disk.specs.Rows.{active_row}
use Rattle.audit_disk.specs.KeptRow.{kept_sectors}
use Rattle.audit_disk.specs.KeptRowLaws.{whole_kept, length-kept}
use Rattle.audit_disk.proofs.FileFlushes.{flush_done, flush_singly, flush_lost, row_ok, row_failed}
use Rattle.audit_disk.proofs.Reached.{reached_now, none_of, active_rows, kept_nothing}
use Rattle.audit_disk.proofs.RowTries.{not_tried, tried_again}
use Rattle.audit_disk.proofs.RowWrites.{same_length_after, goes_then}
use Rattle.audit_disk.proofs.file_disk.FileDisk.flush.Goals.{else-is_ok-2-via-then-is_ok-2+else-self-lt-LAST_SINGLE, else-is_ok-2-via-else-is_ok-2}
use Rattle.audit_disk.proofs.file_disk.FileDisk.flush.Goals as goal

pub write_row-requires : goal.write_row-requires
write_row-requires g c =
    let disk = c.args.self.now in
    let long = ap length c.sectors.ensures ∙ length-kept disk.kept in record {
      multiple = omega arith;
      within = λ honest. omega (arith, disk.row_sized honest, long);
      fits = omega (arith, disk.kept.fits, long);
    }

pub invariant_of-self-then-is_ok : goal.invariant_of-self-then-is_ok
invariant_of-self-then-is_ok g c =
    let disk = c.args.self.now in
    let write = c.write_row.ensures in
    let rows = sym c.is_some.ensures ∙ c.if-is_some.false in
    let long = ap length c.sectors.ensures ∙ length-kept disk.kept in record {
      fits = disk.fits;
      sized = λ honest. let was = write.goes_on.was_honest honest in omega (arith, disk.sized was, same_length_after write.goes_on was);
      row_sized = λ honest. let was = write.goes_on.was_honest honest in omega (arith, disk.row_sized was, same_length_after write.goes_on was, c.clear.ensures.start, c.clear.ensures.count);
      in_order = disk.in_order;
      split_in_order = disk.split_in_order;
      row_in_order = omega (arith, c.clear.ensures.count);
      in_range = disk.in_range;
      in_step = λ honest working none.
          let was = write.goes_on.was_honest honest in
          let before = disk.in_step was working none in
          omega (arith, before, write.moment was (omega (arith, before, long, disk.in_range)), long, c.clear.ensures.count);
      in_step_singly = λ honest working some. absurd (false≢true (sym rows ∙ some));
    }

pub returns-then-is_ok-clause-same : goal.returns-then-is_ok-clause-same
returns-then-is_ok-clause-same g c =
    let disk = c.args.self.now in
    let old = g.F.SectorFile.file disk.file.inner in
    let new = g.F.SectorFile.file c.write_row.new.self.inner in
    let kept = kept_sectors disk.kept in
    let kept' = kept_sectors c.clear.new.self in
    let reached = unwrap_or disk.failed_at disk.clock in
    let split = unwrap_or disk.single_from reached in
    let rows = sym c.is_some.ensures ∙ c.if-is_some.false in
    let at_clock = reached_now disk.failed_at disk.clock c.requires in
    let split_now = reached_now disk.single_from reached rows in
    let long = length-kept disk.kept in
    let nothing = kept_nothing c.clear.new.self c.clear.ensures.count in
    let write = subst (λ (row : List Sector). IsRowWrite {E = DeviceFault} old new (512 * disk.kept.start) row c.write_row.result) c.sectors.ensures c.write_row.ensures in
    flush_done old new disk.sectors disk.kept.start c.clear.new.self.start disk.clock disk.failures kept (active_row disk.single_from kept) kept' (active_row disk.single_from kept')
    (split - disk.kept.count) split reached (split - c.clear.new.self.count) split reached _ _ _ _ _ _ _ _ _ _ _ _ disk.sized _ at_clock split_now (omega (arith, long, disk.row_in_order, at_clock, split_now))
    (active_rows disk.single_from kept rows)
    (λ honest. omega (arith, disk.in_step honest (none_of disk.failed_at c.requires) (none_of disk.single_from rows), at_clock, split_now, disk.row_in_order))
    (512 * disk.kept.start) refl (λ honest. omega (arith, disk.row_sized honest, long)) (row_ok c.write_row.result (sym c.is_ok.ensures.value ∙ c.if-is_ok.true) write)
    at_clock split_now (omega (arith, at_clock, split_now, c.clear.ensures.count)) nothing (active_rows disk.single_from kept' rows ∙ nothing)

pub write_each-requires : goal.write_each-requires
write_each-requires g c =
    let disk = c.args.self.now in
    let write = c.write_row.ensures in
    let long = ap length c.sectors-2.ensures ∙ length-kept disk.kept in record {
      multiple = omega arith;
      within = λ honest. let was = write.goes_on.was_honest honest in omega (arith, disk.row_sized was, same_length_after write.goes_on was, long);
      fits = omega (arith, disk.kept.fits, long);
    }

pub invariant_of-self-then-self-lt-LAST_SINGLE : goal.invariant_of-self-then-self-lt-LAST_SINGLE
invariant_of-self-then-self-lt-LAST_SINGLE g c =
    let disk = c.args.self.now in
    let first = c.write_row.ensures in
    let second = c.write_each.ensures in
    let goes_on = goes_then first.goes_on second.goes_on first.later in
    let rows = sym c.is_some.ensures ∙ c.if-is_some.false in
    let at_clock = reached_now disk.failed_at disk.clock c.requires in
    let split_now = reached_now disk.single_from (unwrap_or disk.failed_at disk.clock) rows in
    let long = ap length c.sectors.ensures ∙ length-kept disk.kept in
    let long_again = ap length c.sectors-2.ensures ∙ length-kept disk.kept in record {
      fits = disk.fits;
      sized = λ honest. let was = goes_on.was_honest honest in omega (arith, disk.sized was, same_length_after goes_on was);
      row_sized = λ honest. let was = goes_on.was_honest honest in omega (arith, disk.row_sized was, same_length_after goes_on was);
      in_order = disk.in_order;
      split_in_order = omega (arith, at_clock);
      row_in_order = omega (arith, disk.row_in_order, at_clock, split_now);
      in_range = disk.in_range;
      in_step = λ honest working none. absurd (false≢true (sym (ap (λ (o : Option ℕ). is_some o) none)));
      in_step_singly = λ honest working some.
          let was = goes_on.was_honest honest in
          let before = disk.in_step was working (none_of disk.single_from rows) in
          let middle = first.moment was (omega (arith, before, long, disk.in_range)) in
          omega (arith, before, middle, second.moment (first.goes_on.honest was) (omega (arith, before, middle, long, long_again, c.if-self-lt-LAST_SINGLE.true, disk.kept.room, disk.kept.in_row)), long, long_again);
    }

pub returns-then-self-lt-LAST_SINGLE-clause-same : goal.returns-then-self-lt-LAST_SINGLE-clause-same
returns-then-self-lt-LAST_SINGLE-clause-same g c =
    let disk = c.args.self.now in
    let old = g.F.SectorFile.file disk.file.inner in
    let mid = g.F.SectorFile.file c.write_row.new.self.inner in
    let new = g.F.SectorFile.file c.write_each.new.self.inner in
    let kept = kept_sectors disk.kept in
    let reached = unwrap_or disk.failed_at disk.clock in
    let split = unwrap_or disk.single_from reached in
    let rows = sym c.is_some.ensures ∙ c.if-is_some.false in
    let at_clock = reached_now disk.failed_at disk.clock c.requires in
    let split_now = reached_now disk.single_from reached rows in
    let long = length-kept disk.kept in
    let offset = 512 * disk.kept.start in
    let first = subst (λ (row : List Sector). IsRowWrite {E = DeviceFault} old mid offset row c.write_row.result) c.sectors.ensures c.write_row.ensures in
    let second = subst (λ (row : List Sector). IsRowWrite {E = DeviceFault} mid new offset row c.write_each.result) c.sectors-2.ensures c.write_each.ensures in
    let within = λ (honest : old.honest). let w : 512 * (disk.kept.start + length kept) ≤ length old.bytes = omega (arith, disk.row_sized honest, long) in w in
    let once = tried_again old old mid disk.sectors disk.kept.start offset kept refl disk.sized within (whole_kept disk.kept) (not_tried old disk.sectors disk.kept.start kept) first in
    let twice = tried_again old mid new disk.sectors disk.kept.start offset kept refl disk.sized within (whole_kept disk.kept) once second in
    flush_singly old new disk.sectors disk.kept.start disk.kept.start disk.clock disk.failures kept (active_row disk.single_from kept) kept (active_row (Some disk.clock) kept)
    (split - disk.kept.count) split reached (disk.clock - disk.kept.count) disk.clock reached _ _ _ _ _ _ _ _ _ _ _ _ disk.sized _ at_clock split_now (omega (arith, long, disk.row_in_order, at_clock, split_now))
    (active_rows disk.single_from kept rows)
    (λ honest. omega (arith, disk.in_step honest (none_of disk.failed_at c.requires) (none_of disk.single_from rows), at_clock, split_now, disk.row_in_order))
    twice at_clock (sym at_clock) (omega (arith, at_clock, split_now)) refl refl
    mid offset refl within once (row_ok c.write_each.result (sym c.is_ok-2.ensures.value ∙ c.if-is_ok-2.true) second) refl

pub invariant_of-self-2 : goal.invariant_of-self-2
invariant_of-self-2 g c =
    let disk = c.args.self.now in
    let first = c.write_row.ensures in
    let second = c.write_each.ensures in
    let goes_on = goes_then first.goes_on second.goes_on first.later in
    let rows = sym c.is_some.ensures ∙ c.if-is_some.false in
    let at_clock = reached_now disk.failed_at disk.clock c.requires in
    let split_now = reached_now disk.single_from (unwrap_or disk.failed_at disk.clock) rows in
    let split_later = reached_now disk.single_from disk.clock rows in record {
      fits = disk.fits;
      sized = λ honest. let was = goes_on.was_honest honest in omega (arith, disk.sized was, same_length_after goes_on was);
      row_sized = λ honest. let was = goes_on.was_honest honest in omega (arith, disk.row_sized was, same_length_after goes_on was);
      in_order = omega arith;
      split_in_order = omega (arith, split_later);
      row_in_order = omega (arith, disk.row_in_order, at_clock, split_now, split_later);
      in_range = disk.in_range;
      in_step = λ honest working none. absurd (false≢true (sym (ap (λ (o : Option ℕ). is_some o) working)));
      in_step_singly = λ honest working some. absurd (false≢true (sym (ap (λ (o : Option ℕ). is_some o) working)));
    }

pub returns-clause-same : goal.returns-clause-same
returns-clause-same g c =
    let disk = c.args.self.now in
    let old = g.F.SectorFile.file disk.file.inner in
    let mid = g.F.SectorFile.file c.write_row.new.self.inner in
    let new = g.F.SectorFile.file c.write_each.new.self.inner in
    let kept = kept_sectors disk.kept in
    let reached = unwrap_or disk.failed_at disk.clock in
    let split = unwrap_or disk.single_from reached in
    let split' = unwrap_or disk.single_from disk.clock in
    let rows = sym c.is_some.ensures ∙ c.if-is_some.false in
    let at_clock = reached_now disk.failed_at disk.clock c.requires in
    let split_now = reached_now disk.single_from reached rows in
    let split_later = reached_now disk.single_from disk.clock rows in
    let long = length-kept disk.kept in
    let offset = 512 * disk.kept.start in
    let first = subst (λ (row : List Sector). IsRowWrite {E = DeviceFault} old mid offset row c.write_row.result) c.sectors.ensures c.write_row.ensures in
    let second = subst (λ (row : List Sector). IsRowWrite {E = DeviceFault} mid new offset row c.write_each.result) c.sectors-2.ensures c.write_each.ensures in
    let within = λ (honest : old.honest). let w : 512 * (disk.kept.start + length kept) ≤ length old.bytes = omega (arith, disk.row_sized honest, long) in w in
    let once = tried_again old old mid disk.sectors disk.kept.start offset kept refl disk.sized within (whole_kept disk.kept) (not_tried old disk.sectors disk.kept.start kept) first in
    let twice = tried_again old mid new disk.sectors disk.kept.start offset kept refl disk.sized within (whole_kept disk.kept) once second in
    flush_lost old new disk.sectors disk.kept.start disk.kept.start disk.clock disk.failures kept (active_row disk.single_from kept) kept (active_row disk.single_from kept)
    (split - disk.kept.count) split reached (split' - disk.kept.count) split' disk.clock _ _ _ _ _ _ _ _ _ _ _ _ disk.sized _ at_clock split_now (omega (arith, long, disk.row_in_order, at_clock, split_now))
    (active_rows disk.single_from kept rows)
    (λ honest. omega (arith, disk.in_step honest (none_of disk.failed_at c.requires) (none_of disk.single_from rows), at_clock, split_now, disk.row_in_order))
    twice refl split_later (omega (arith, at_clock, split_now, split_later)) refl refl
    (active_rows disk.single_from kept rows)

pub returns-clause-lost : goal.returns-clause-lost
returns-clause-lost g c below =
    let first = row_failed c.write_row.result (sym c.is_ok.ensures.value ∙ c.if-is_ok.false) c.write_row.ensures in
    elim c.else-is_ok-2.branch [
      | else-is_ok-2-via-then-is_ok-2+else-self-lt-LAST_SINGLE w ↦ absurd (omega (arith, below, w.if-self-lt-LAST_SINGLE.false))
      | else-is_ok-2-via-else-is_ok-2 w ↦
          let second = row_failed c.write_each.result (sym c.is_ok-2.ensures.value ∙ w.if-is_ok-2.false) c.write_each.ensures in
          omega (arith, first, second)
    ]
