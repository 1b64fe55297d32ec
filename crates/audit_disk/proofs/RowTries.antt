-- A row that is handed to a file, and what a crash then leaves of the device.
use Rattle.std.proofs.Common.{⊎_elim, ◌≡◌, ℕ, ◌+◌, ◌-◌, ◌*◌, ◌<◌, ◌≤◌, min, Ok, Err, Result, List, [], length, take, refl, sym, ◌∙◌, ap, subst, arith}
use Rattle.std.proofs.lemmas.List.{take_all, length-take}
use Rattle.std.proofs.lemmas.Bool.{cases_lt, cond_below, cond_above}
use Rattle.audit_disk_model.specs.Image.{Sector, Image}
use Rattle.audit_disk_model.specs.View.{last_count}
use Rattle.audit_disk_model.specs.declared.fault.DeviceFault.{DeviceFault}
use Rattle.audit_disk.specs.File.{FileView, FileContinues, SomeWritten, sectors_of, IsRowWrite}
use Rattle.audit_disk.specs.FileView.{LeftWithRow}
use Rattle.audit_disk.specs.RowLaws.{whole_take}
use Rattle.audit_disk.specs.Rows.{with_row, MayHaveRow, IsWholeRow, file_moment, row_at}
use Rattle.audit_disk.proofs.KeptRows.{row_same, row_nothing, nothing_row, row_trans, row_of_some, some_of_row, sectors_of-overlaid_row, with_row-over}
use Rattle.audit_disk.proofs.RowWrites.{some_all, goes_then, same_length_after}
use Rattle.audit_base.specs.declared.limits.TheConstants.{SECTOR_SIZE}

abbrev pub Outcome : Type 0
Outcome = Result (Unit {0}) DeviceFault

-- what an earlier moment of the file leaves stays
pub left_kept : (old new : FileView) (sectors start moment : ℕ) (row : List Sector) (image : Image) → FileContinues old new → moment ≤ old.moment → LeftWithRow old sectors moment start row image
    → LeftWithRow new sectors moment start row image
left_kept old new sectors start moment row image goes_on le left = (goes_on.honest left.0, (left.1.0, goes_on.kept left.0 moment left.1.0 le left.1.1, left.1.2))

pub left_no_other : (old new : FileView) (sectors start moment : ℕ) (row : List Sector) (image : Image) → FileContinues old new → moment ≤ old.moment → LeftWithRow new sectors moment start row image
    → LeftWithRow old sectors moment start row image
left_no_other old new sectors start moment row image goes_on le left =
    let was = goes_on.was_honest left.0 in (was, (left.1.0, goes_on.no_other was moment left.1.0 le left.1.1, left.1.2))

-- if nothing is kept, its place doesn't matter
pub left_nothing : (file : FileView) (sectors start start' moment : ℕ) (image : Image) → LeftWithRow file sectors moment start [] image → LeftWithRow file sectors moment start' [] image
left_nothing file sectors start start' moment image left =
    (left.0, (left.1.0, left.1.1, nothing_row start' (sectors_of sectors left.1.0) image (row_nothing start (sectors_of sectors left.1.0) image left.1.2)))

-- the same at equal moments, with equal rows
pub left_at_same : (file : FileView) (sectors start : ℕ) (image : Image) (moment moment' : ℕ) (row row' : List Sector) → moment ≡ moment' → row ≡ row' → LeftWithRow file sectors moment start row image
    → LeftWithRow file sectors moment' start row' image
left_at_same file sectors start image moment moment' row row' same same_row left =
    subst (λ (r : List Sector). LeftWithRow file sectors moment' start r image) same_row (subst (λ (m : ℕ). LeftWithRow file sectors m start row image) same left)

-- The row was handed over, and some of its sectors were written.
pub record IsTried (old new : FileView) (sectors start : ℕ) (row : List Sector) : Type 0 where
  pub goes_on : FileContinues old new
  pub later : old.honest → old.moment ≤ new.moment
  pub unwritten : old.honest → (file : List ℕ) → old.left_at old.moment file → new.left_at new.moment file
  pub images : old.honest → (file : List ℕ) → new.left_at new.moment file
      → (before : List ℕ) × old.left_at old.moment before × MayHaveRow start row (sectors_of sectors before) (sectors_of sectors file)
  pub bytes : old.honest → MayHaveRow start row (sectors_of sectors old.bytes) (sectors_of sectors new.bytes)

pub not_tried : (file : FileView) (sectors start : ℕ) (row : List Sector) → IsTried file file sectors start row
not_tried file sectors start row = record {
  goes_on = record { honest = λ honest. honest; was_honest = λ honest. honest; kept = λ honest at bytes le left. left; no_other = λ honest at bytes le left. left };
  later = λ honest. omega arith;
  unwritten = λ honest bytes left. left;
  images = λ honest bytes left. (bytes, left, row_same start row (sectors_of sectors bytes));
  bytes = λ honest. row_same start row (sectors_of sectors file.bytes);
}

bytes_some : {mid new : FileView} {offset : ℕ} {row : List Sector} (result : Outcome) → IsRowWrite {E = DeviceFault} mid new offset row result → mid.honest → SomeWritten mid.bytes offset row new.bytes
bytes_some {mid = mid} {new = new} {offset = offset} {row = row} (Ok done) write honest = subst (λ (f : List ℕ). SomeWritten mid.bytes offset row f) (sym (write.stands honest)) (some_all mid.bytes offset row)
bytes_some (Err fault) write honest = write.stands_err honest

module _ (old mid new : FileView) (sectors start offset : ℕ) (row : List Sector) (here : offset ≡ SECTOR_SIZE * start) (sized : old.honest → SECTOR_SIZE * sectors ≤ length old.bytes)
    (within : old.honest → SECTOR_SIZE * (start + length row) ≤ length old.bytes) (whole : IsWholeRow row) (tried : IsTried old mid sectors start row) where
  -- the file is long enough for the row
  long : (honest : old.honest) (file : List ℕ) → mid.left_at mid.moment file → length file ≡ length old.bytes
  long honest file left = mid.same_length (tried.goes_on.honest honest) mid.moment file left ∙ same_length_after tried.goes_on honest

  fits : (honest : old.honest) (file : List ℕ) → length file ≡ length old.bytes → (new_file : List ℕ) → SomeWritten file offset row new_file → MayHaveRow start row (sectors_of sectors file) (sectors_of sectors new_file)
  fits honest file same new_file some = row_of_some sectors start offset row file new_file here (omega (arith, same, sized honest)) (omega (arith, same, within honest)) whole some

  -- a second try
  pub tried_again : {result : Outcome} → IsRowWrite {E = DeviceFault} mid new offset row result → IsTried old new sectors start row
  tried_again {result = result} write = record {
    goes_on = goes_then tried.goes_on write.goes_on tried.later;
    later = λ honest. omega (arith, tried.later honest, write.later (tried.goes_on.honest honest));
    unwritten = λ honest file left. write.unwritten (tried.goes_on.honest honest) file (tried.unwritten honest file left);
    images = λ honest file left.
        let may = write.images (tried.goes_on.honest honest) file left in
        let was = tried.images honest may.0 may.1 in
        (was.0, was.1, row_trans start row (sectors_of sectors was.0) (sectors_of sectors may.0) (sectors_of sectors file) was.2 (fits honest may.0 (long honest may.0 may.1) file may.2));
    bytes = λ honest.
        row_trans start row (sectors_of sectors old.bytes) (sectors_of sectors mid.bytes) (sectors_of sectors new.bytes) (tried.bytes honest)
        (fits honest mid.bytes (same_length_after tried.goes_on honest) new.bytes (bytes_some result write (tried.goes_on.honest honest)));
  }

  -- the try succeeded: the file has what the device had
  module _ (start' : ℕ) {done : Unit {0}} (write : IsRowWrite {E = DeviceFault} mid new offset row (Ok done)) where
    pub row_reached : (image : Image) → LeftWithRow old sectors old.moment start row image → LeftWithRow new sectors new.moment start' [] image
    row_reached image left =
        let honest = left.0 in
        let file = left.1.0 in
        let at_mid = tried.unwritten honest file left.1.1 in
        let same = long honest file at_mid in
        let some = some_of_row sectors start offset row file image here (omega (arith, same, sized honest)) (omega (arith, same, within honest)) whole left.1.2 in
        let next = tried.goes_on.honest honest in
        (write.goes_on.honest next, (some.0, write.pending next some.0 (file, at_mid, some.1), nothing_row start' (sectors_of sectors some.0) image some.2))

    pub row_came : (image : Image) → LeftWithRow new sectors new.moment start' [] image → LeftWithRow old sectors old.moment start row image
    row_came image left =
        let honest = tried.goes_on.was_honest (write.goes_on.was_honest left.0) in
        let was = (tried_again write).images honest left.1.0 left.1.1 in
        (honest, (was.0, was.1, subst (λ (i : Image). MayHaveRow start row (sectors_of sectors was.0) i) (sym (row_nothing start' (sectors_of sectors left.1.0) image left.1.2)) was.2))

    pub row_content : old.honest → sectors_of sectors new.bytes ≡ with_row (sectors_of sectors old.bytes) start row
    row_content honest =
        let next = tried.goes_on.honest honest in
        let same = same_length_after tried.goes_on honest in
        ap (λ (f : List ℕ). sectors_of sectors f) (write.stands next)
        ∙ sectors_of-overlaid_row sectors start offset row mid.bytes here (omega (arith, same, sized honest)) (omega (arith, same, within honest)) whole
        ∙ with_row-over start row (sectors_of sectors old.bytes) (sectors_of sectors mid.bytes) (tried.bytes honest)

-- the try failed: what a crash leaves of the device stays
pub row_lost : {old new : FileView} {sectors start : ℕ} {row : List Sector} → IsTried old new sectors start row → (image : Image) → LeftWithRow old sectors old.moment start row image → LeftWithRow new sectors new.moment start row image
row_lost tried image left = (tried.goes_on.honest left.0, (left.1.0, tried.unwritten left.0 left.1.0 left.1.1, left.1.2))

pub row_lost_only : {old new : FileView} {sectors start : ℕ} {row : List Sector} → IsTried old new sectors start row → (image : Image) → LeftWithRow new sectors new.moment start row image
    → LeftWithRow old sectors old.moment start row image
row_lost_only {sectors = sectors} {start = start} {row = row} tried image left =
    let honest = tried.goes_on.was_honest left.0 in
    let was = tried.images honest left.1.0 left.1.1 in
    (honest, (was.0, was.1, row_trans start row (sectors_of sectors was.0) (sectors_of sectors left.1.0) image was.2 left.1.2))

pub row_lost_content : {old new : FileView} {sectors start : ℕ} {row : List Sector} → IsTried old new sectors start row → old.honest
    → with_row (sectors_of sectors new.bytes) start row ≡ with_row (sectors_of sectors old.bytes) start row
row_lost_content {old = old} {new = new} {sectors = sectors} {start = start} {row = row} tried honest = with_row-over start row (sectors_of sectors old.bytes) (sectors_of sectors new.bytes) (tried.bytes honest)

-- a row that succeeded at once: at each of its moments the file has what the device had with fewer sectors
module _ (old new : FileView) (sectors start start' offset : ℕ) (row : List Sector) (here : offset ≡ SECTOR_SIZE * start) (sized : old.honest → SECTOR_SIZE * sectors ≤ length old.bytes)
    (within : old.honest → SECTOR_SIZE * (start + length row) ≤ length old.bytes) (whole : IsWholeRow row) {done : Unit {0}} (write : IsRowWrite {E = DeviceFault} old new offset row (Ok done)) where
  pub each_reached : (count : ℕ) (image : Image) → count ≤ length row → old.moment + length row ≤ last_count → LeftWithRow old sectors old.moment start (take count row) image
      → LeftWithRow new sectors (old.moment + count) start' [] image
  each_reached count image le room left =
      let honest = left.0 in
      let file = left.1.0 in
      let same = old.same_length honest old.moment file left.1.1 in
      let some = some_of_row sectors start offset (take count row) file image here (omega (arith, same, sized honest)) (omega (arith, same, within honest, length-take count row)) (whole_take count row whole) left.1.2 in
      (write.goes_on.honest honest, (some.0, write.written honest room count some.0 le (file, left.1.1, some.1), nothing_row start' (sectors_of sectors some.0) image some.2))

  pub each_came : (count : ℕ) (image : Image) → count ≤ length row → old.moment + length row ≤ last_count → LeftWithRow new sectors (old.moment + count) start' [] image
      → LeftWithRow old sectors old.moment start (take count row) image
  each_came count image le room left =
      let honest = write.goes_on.was_honest left.0 in
      let may = write.no_other honest room count left.1.0 le left.1.1 in
      let same = old.same_length honest old.moment may.0 may.1 in (
        honest,
        (
          may.0,
          may.1,
          subst (λ (i : Image). MayHaveRow start (take count row) (sectors_of sectors may.0) i) (sym (row_nothing start' (sectors_of sectors left.1.0) image left.1.2))
              (row_of_some sectors start offset (take count row) may.0 left.1.0 here (omega (arith, same, sized honest)) (omega (arith, same, within honest, length-take count row)) (whole_take count row whole) may.2),
        ),
      )

-- the file's moments, and the kept sectors
pub moment_below : (base split reached now at : ℕ) → at < split → file_moment base split reached now at ≡ min at base
moment_below base split reached now at lt = sym (cond_below at split (min at base) (now - (reached - at)) lt)

pub moment_above : (base split reached now at : ℕ) → split ≤ at → file_moment base split reached now at ≡ now - (reached - at)
moment_above base split reached now at le = sym (cond_above at split (min at base) (now - (reached - at)) (now - (reached - at)) le refl)

pub row_below : (base split at : ℕ) (kept active : List Sector) → at < split → row_at base split kept active at ≡ take (at - base) kept
row_below base split at kept active lt = sym (cond_below at split (take (at - base) kept) active lt)

pub row_above : (base split at : ℕ) (kept active : List Sector) → split ≤ at → row_at base split kept active at ≡ active
row_above base split at kept active le = sym (cond_above at split (take (at - base) kept) active active le refl)

-- while rows are kept, up to the current clock
pub moment_rows : (base split reached now at : ℕ) → at ≤ reached → split ≡ reached → now ≡ base → base ≤ split → file_moment base split reached now (min at reached) ≡ min at base
moment_rows base split reached now at le same here in_order =
    ⊎_elim
    (λ (lt : min at reached < split). let end : min (min at reached) base ≡ min at base = omega arith in moment_below base split reached now (min at reached) lt ∙ end)
    (λ (past : split ≤ min at reached). let end : now - (reached - min at reached) ≡ min at base = omega arith in moment_above base split reached now (min at reached) past ∙ end)
    (cases_lt (min at reached) split)

pub row_rows : (base split reached at : ℕ) (kept active : List Sector) → at ≤ reached → split ≡ reached → base + length kept ≡ split → active ≡ kept → row_at base split kept active (min at reached) ≡ take (at - base) kept
row_rows base split reached at kept active le same long now =
    ⊎_elim
    (λ (lt : min at reached < split).
    let here : min at reached - base ≡ at - base = omega arith in
    row_below base split (min at reached) kept active lt ∙ ap (λ (n : ℕ). take n kept) here)
    (λ (past : split ≤ min at reached). row_above base split (min at reached) kept active past ∙ now ∙ sym (take_all (at - base) kept (omega arith)))
    (cases_lt (min at reached) split)
