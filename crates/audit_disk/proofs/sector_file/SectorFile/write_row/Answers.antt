use Rattle.std.proofs.Common.{◌≡◌, ◌+◌, ◌*◌, List, ◌∷◌, [], ◌++◌, Result, length, take, slice_index_or, ◌∙◌, subst, sym, arith}
use Rattle.std.proofs.lemmas.List.{take_more, length-take-le}
use Rattle.audit_disk_model.specs.Image.{Sector}
use Rattle.audit_disk_model.specs.declared.fault.DeviceFault.{DeviceFault}
use Rattle.audit_disk.specs.File.{IsRowWrite}
use Rattle.audit_disk.proofs.RowWrites.{next_offset, row_failed_by, row_done_by}
use Rattle.audit_disk.proofs.sector_file.SectorFile.write_row.Goals as goal
use Rattle.audit_disk.proofs.sector_file.SectorFile.write_row.Goals.{then-is_err, else-is_err}

pub write_at-requires : goal.write_at-requires
write_at-requires g c =
    let so_far = length-take-le c.loop-k.k c.args.row.now (omega arith) in
    next_offset c.requires c.loop-k.invariant (omega (arith, so_far)) (omega (arith, so_far))

pub loop-k-preserved : goal.loop-k-preserved
loop-k-preserved g c =
    let row = c.args.row.now in
    let before = take c.loop-k.k row in
    let so_far = length-take-le c.loop-k.k row (omega arith) in
    let next = slice_index_or row c.loop-k.k [] in
    let old = g.Self.SectorFile.file c.args.self.now in
    let mid = g.Self.SectorFile.file c.loop-k.self in
    let new = g.Self.SectorFile.file c.write_at.new.self in
    let offset = c.args.offset in
    let here : offset + 512 * c.loop-k.k ≡ offset + 512 * length before = omega (arith, so_far) in
    let taken : before ++ next ∷ [] ≡ take (c.loop-k.k + 1) row = sym (take_more row c.loop-k.k [] c.loop-k-test.true) in
    subst (λ (all : List Sector). IsRowWrite {E = DeviceFault} old new offset all c.if-is_err.outcome) taken
    (elim c.if-is_err.branch [
      | then-is_err w ↦
          subst (λ (outcome : Result (Unit {0}) DeviceFault). IsRowWrite {E = DeviceFault} old new offset (before ++ next ∷ []) outcome) (sym w.outcome-is)
          (row_failed_by old mid new offset (offset + 512 * c.loop-k.k) before next c.loop-k.outcome c.loop-k.invariant here c.write_at.result _ (sym c.is_err.ensures.value ∙ w.if-is_err.true) c.write_at.ensures)
      | else-is_err w ↦
          subst (λ (outcome : Result (Unit {0}) DeviceFault). IsRowWrite {E = DeviceFault} old new offset (before ++ next ∷ []) outcome) (sym w.outcome-is)
          (row_done_by old mid new offset (offset + 512 * c.loop-k.k) before next c.loop-k.outcome c.loop-k.invariant here c.write_at.result (sym c.is_err.ensures.value ∙ w.if-is_err.false) c.write_at.ensures)
    ])
