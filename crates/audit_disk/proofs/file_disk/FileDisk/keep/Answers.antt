use Rattle.std.proofs.Common.{◌+◌, ◌-◌, ◌≡◌, ◌⊎◌, ℕ, Option, length, inl, inr, ⊎_elim, min, is_some, false, unwrap_or, refl, ap, arith}
use Rattle.audit_disk.specs.Rows.{file_moment, row_at, active_row}
use Rattle.audit_disk.specs.KeptRow.{kept_sectors}
use Rattle.audit_disk.specs.KeptRowLaws.{length-kept}
use Rattle.audit_disk.proofs.FileCalls.{write_kept}
use Rattle.audit_disk.proofs.FileKeeps.{keep_then, keep_was, keep_now_in, keep_now_out, keep_next_in, keep_next_out, row_now, row_next, same_content}
use Rattle.audit_disk.proofs.FileTimes.{below_end}
use Rattle.audit_disk.proofs.Reached.{reached_now, none_of, active_rows}
use Rattle.audit_disk.proofs.RowTries.{not_tried}
use Rattle.audit_disk.proofs.file_disk.FileDisk.keep.Goals as goal

pub returns-clause-write : goal.returns-clause-write
returns-clause-write g c =
    let disk = c.args.self.now in
    let file = g.F.SectorFile.file disk.file.inner in
    let kept = kept_sectors disk.kept in
    let kept' = kept_sectors c.keep.new.self in
    let single = disk.single_from in
    let active = active_row single kept in
    let active' = active_row single kept' in
    let start = disk.kept.start in
    let start' = c.keep.new.self.start in
    let next = disk.clock + 1 in
    let reached = unwrap_or disk.failed_at disk.clock in
    let reached' = unwrap_or disk.failed_at next in
    let split = unwrap_or single reached in
    let split' = unwrap_or single reached' in
    let base = split - disk.kept.count in
    let base' = split' - c.keep.new.self.count in
    let working = c.requires.passes.working in
    let rows : is_some single ≡ false = ap (λ (o : Option ℕ). is_some o) c.requires.can.rows in
    let here = reached_now disk.failed_at disk.clock working in
    let there = reached_now disk.failed_at next working in
    let split_now = reached_now single reached rows in
    let split_next = reached_now single reached' rows in
    let length_is = length-kept disk.kept in
    let long : base + length kept ≡ disk.clock = omega (arith, length_is, disk.row_in_order, here, split_now) in
    let all = active_rows single kept rows in
    let all_next = active_rows single kept' rows in
    let more = c.keep.ensures.sectors in
    let base_same : base' ≡ base = omega (arith, c.keep.ensures.count, here, there, split_now, split_next) in
    let step = λ (honest : file.honest). let is : file.moment ≡ base = omega (arith, disk.in_step honest (none_of disk.failed_at working) c.requires.can.rows, here, split_now) in is in
    let first : (length kept ≡ 0) ⊎ (start' ≡ start) = ⊎_elim (λ (none : disk.kept.count ≡ 0). inl (omega (arith, length_is))) (λ (same : start' ≡ start). inr same) c.keep.ensures.first in
    let bytes = c.args.bytes.now in
    let goes_on = (not_tried file 0 0 kept).goes_on in
    write_kept file file disk.sectors start start' (λ at. file_moment base split reached file.moment (min at reached)) (λ at. file_moment base' split' reached' file.moment (min at reached'))
    (λ at. row_at base split kept active (min at reached)) (λ at. row_at base' split' kept' active' (min at reached')) disk.clock next disk.failures disk.failures _ _ disk.in_range _ _ _ _ _ disk.sized _ goes_on
    (keep_then file disk.sectors start start' disk.clock reached reached' base base' split split' kept active kept' active' bytes here split_now long all there split_next base_same more all_next step first)
    (keep_was file disk.sectors start start' disk.clock reached reached' base base' split split' kept active kept' active' bytes here split_now long all there split_next base_same more all_next step first)
    (omega arith) (omega arith) c.args.at bytes refl
    (keep_now_in file disk.sectors start start' disk.clock reached reached' base base' split split' kept active kept' active' bytes here split_now long all there split_next base_same more all_next step first)
    (keep_now_out file disk.sectors start start' disk.clock reached reached' base base' split split' kept active kept' active' bytes here split_now long all there split_next base_same more all_next step first)
    (keep_next_in file disk.sectors start start' disk.clock reached reached' base base' split split' kept active kept' active' bytes here split_now long all there split_next base_same more all_next step first)
    (keep_next_out file disk.sectors start start' disk.clock reached reached' base base' split split' kept active kept' active' bytes here split_now long all there split_next base_same more all_next step first)
    (omega (arith, c.keep.ensures.there, length_is, ap length (row_now file disk.sectors start start' disk.clock reached reached' base base' split split' kept active kept' active' bytes here split_now long all there split_next base_same more all_next step first)))
    (same_content file disk.sectors start start' disk.clock reached reached' base base' split split' kept active kept' active' bytes here split_now long all there split_next base_same more all_next step first)
    (row_next file disk.sectors start start' disk.clock reached reached' base base' split split' kept active kept' active' bytes here split_now long all there split_next base_same more all_next step first)
    (below_end single disk.clock c.requires.passes.below_end) refl refl
