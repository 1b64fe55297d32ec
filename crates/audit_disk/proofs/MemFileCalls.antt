-- The calls of a device have the effects of calls of the file that it holds.
use Rattle.std.proofs.Common.{◌≡◌, ◌≢◌, ◌⊎◌, inl, inr, ⊎_elim, ℕ, zero, suc, ◌+◌, ◌*◌, ◌/◌, ◌<◌, ◌≤◌, Ok, Err, OnOk, OnErr, List, [], ◌∷◌, ◌++◌, length, take, drop, refl, sym, ◌∙◌, ap, arith}
use Rattle.std.proofs.Math.Seq.{take-append-add, drop-append-add}
use Rattle.std.proofs.lemmas.List.{take_at, drop_at, append_assoc, get_or-set_other}
use Rattle.audit_disk_model.specs.Image.{Sector, Image, IsWhole, sector_at, with_sector}
use Rattle.audit_disk_model.specs.View.{View}
use Rattle.audit_disk_model.specs.Calls.{Outcome, Continues, IsRead, IsWrite, IsSync}
use Rattle.audit_disk.specs.File.{IsUnusedFile, overlaid, FileContinues, IsFileRead, IsFileWrite, IsFileSync}
use Rattle.audit_disk.specs.MemFile.{bytes_of_image}
use Rattle.audit_disk.specs.MemFileView.{joined_view}
use Rattle.audit_disk.specs.MemFileLaws.{length-joined}
use Rattle.audit_disk.specs.MemDisk.{IsFresh}
use Rattle.audit_base.specs.declared.limits.TheConstants.{SECTOR_SIZE}

-- each of its sectors is whole
abbrev AreWhole : Image → Type 0
AreWhole image = (at : ℕ) → at < length image → length (sector_at image at) ≡ SECTOR_SIZE

are_whole : {size : ℕ} {image : Image} → IsWhole size image → AreWhole image
are_whole whole = λ at lt. whole.each at (omega (arith, whole.sectors))

-- one sector of the bytes
joined-sector_at : (image : Image) (at : ℕ) → AreWhole image → at < length image → sector_at image at ≡ take SECTOR_SIZE (drop (SECTOR_SIZE * at) (bytes_of_image image))
joined-sector_at [] at whole lt = absurd (omega arith)
joined-sector_at (bytes ∷ image) zero whole lt = sym (take_at bytes (bytes_of_image image) SECTOR_SIZE (whole zero (omega arith)))
joined-sector_at (bytes ∷ image) (suc at) whole lt =
    let long : length bytes ≡ SECTOR_SIZE = whole zero (omega arith) in
    let there : length bytes + SECTOR_SIZE * at ≡ SECTOR_SIZE * suc at = omega arith in
    joined-sector_at image at (λ k below. whole (suc k) (omega arith)) (omega arith)
    ∙ ap (λ (l : List ℕ). take SECTOR_SIZE l) (sym (drop-append-add bytes (bytes_of_image image) (SECTOR_SIZE * at)) ∙ ap (λ (n : ℕ). drop n (bytes ++ bytes_of_image image)) there)

-- the bytes with one sector written
joined-with_sector : (image : Image) (at : ℕ) (next : Sector) → AreWhole image → at < length image → length next ≡ SECTOR_SIZE → bytes_of_image (with_sector image at next) ≡ overlaid (bytes_of_image image) (SECTOR_SIZE * at) next
joined-with_sector [] at next whole lt size = absurd (omega arith)
joined-with_sector (bytes ∷ image) zero next whole lt size =
    let long : length bytes ≡ SECTOR_SIZE = whole zero (omega arith) in
    let n : 0 + length next ≡ SECTOR_SIZE = omega arith in
    sym (ap (λ (m : ℕ). next ++ drop m (bytes ++ bytes_of_image image)) n ∙ ap (λ (l : List ℕ). next ++ l) (drop_at bytes (bytes_of_image image) SECTOR_SIZE long))
joined-with_sector (bytes ∷ image) (suc at) next whole lt size =
    let long : length bytes ≡ SECTOR_SIZE = whole zero (omega arith) in
    let rest = bytes_of_image image in
    let off = SECTOR_SIZE * at in
    let there : SECTOR_SIZE * suc at ≡ length bytes + off = omega arith in
    let far : length bytes + off + length next ≡ length bytes + (off + length next) = omega arith in
    ap (λ (l : List ℕ). bytes ++ l) (joined-with_sector image at next (λ k below. whole (suc k) (omega arith)) (omega arith) size)
    ∙ sym (append_assoc bytes (take off rest ++ next) (drop (off + length next) rest))
    ∙ ap (λ (l : List ℕ). l ++ drop (off + length next) rest) (sym (append_assoc bytes (take off rest) next))
    ∙ ap (λ (l : List ℕ). l ++ next ++ drop (off + length next) rest) (sym (take-append-add bytes rest off))
    ∙ ap (λ (l : List ℕ). take (length bytes + off) (bytes ++ rest) ++ next ++ l) (sym (drop-append-add bytes rest (off + length next)) ∙ ap (λ (n : ℕ). drop n (bytes ++ rest)) (sym far))
    ∙ ap (λ (n : ℕ). overlaid (bytes ++ rest) n next) (sym there)

goes_on : {old new : View} → Continues old new → FileContinues (joined_view old) (joined_view new)
goes_on calls = record {
  honest = calls.honest;
  was_honest = calls.was_honest;
  kept = λ honest at file le left. (calls.honest left.0, (left.1.0, calls.kept at left.1.0 le left.1.1, left.1.2));
  no_other = λ honest at file le left. (calls.was_honest left.0, (left.1.0, calls.no_other at left.1.0 le left.1.1, left.1.2));
}

content_whole : (view : View) → view.honest → AreWhole view.content
content_whole view honest = are_whole (view.whole honest view.clock view.content (view.content_left honest))

-- each offset within the bytes is the offset of a sector
pub offset_within : (view : View) (offset : ℕ) → view.honest → offset + SECTOR_SIZE ≤ length (bytes_of_image view.content) → offset / SECTOR_SIZE < view.size
offset_within view offset honest fits =
    let long = length-joined view.size view.content (view.whole honest view.clock view.content (view.content_left honest)) in
    omega (arith, fits, long)

module _ (old new : View) where
  pub read_joined : {into : Sector} (at offset : ℕ) (result : Outcome) → offset ≡ SECTOR_SIZE * at → at < old.size → IsRead old new at into result → IsFileRead (joined_view old) (joined_view new) offset into result
  read_joined {into = into} at offset result there lt read = record {
    goes_on = goes_on read.continues;
    failures = read.failures;
    given = given result read.bytes;
    still_given = λ other bytes apart was honest multiple.
        let before = read.continues.was_honest honest in
        was before multiple ∙ ap (λ (image : Image). sector_at image (other / SECTOR_SIZE)) (sym (read.content before));
    moment = λ honest. read.clock;
    same = λ honest. ap bytes_of_image (read.content honest);
    found = λ honest. found result honest (read.bytes honest);
  }
    where
      found : (result : Outcome) → old.honest → OnOk result (into ≡ sector_at old.content at) → OnOk result (into ≡ take SECTOR_SIZE (drop offset (bytes_of_image old.content)))
      found (Ok done) honest is =
          is ∙ joined-sector_at old.content at (content_whole old honest) (omega (arith, (old.whole honest old.clock old.content (old.content_left honest)).sectors)) ∙ ap (λ (n : ℕ). take SECTOR_SIZE (drop n (bytes_of_image old.content))) (sym there)
      found (Err fault) honest is = tt

      given : (result : Outcome) → (old.honest → OnOk result (into ≡ sector_at old.content at)) → OnOk result ((joined_view new).gave offset into)
      given (Ok done) is = λ honest multiple.
          let before = read.continues.was_honest honest in
          let here : at ≡ offset / SECTOR_SIZE = omega (arith, there) in
          is before ∙ ap (λ (image : Image). sector_at image at) (sym (read.content before)) ∙ ap (λ (k : ℕ). sector_at new.content k) here
      given (Err fault) is = tt

  pub write_joined : {bytes : Sector} (at offset : ℕ) (result : Outcome) → offset ≡ SECTOR_SIZE * at → at < old.size → length bytes ≡ SECTOR_SIZE → IsWrite old new at bytes result
      → IsFileWrite (joined_view old) (joined_view new) offset bytes result
  write_joined {bytes = bytes} at offset result there lt long write = record {
    goes_on = goes_on write.continues;
    failures = write.failures;
    still_given = λ other given apart was honest multiple.
        let before = write.continues.was_honest honest in
        let elsewhere : other / SECTOR_SIZE ≢ at = λ same. apart (omega (arith, same, multiple, there)) in
        was before multiple ∙ sym (kept result (write.content before) (write.content_err before) (other / SECTOR_SIZE) elsewhere);
    moment = λ honest below. write.clock.before_end below;
    later = λ honest. write.continues.clock;
    stands = λ honest. stands result honest (write.content honest);
    stands_err = λ honest. stands_err result honest (write.content_err honest);
    images = λ honest file left.
        ⊎_elim
        (λ (same : old.left_at old.clock left.1.0). inl (honest, (left.1.0, same, left.1.2)))
        (λ (over : (before : Image) × old.left_at old.clock before × (left.1.0 ≡ with_sector before at bytes)).
        inr (bytes_of_image over.0, (honest, (over.0, over.1, refl)), left.1.2 ∙ ap bytes_of_image over.2 ∙ placed over.0 (old.whole honest old.clock over.0 over.1)))
        (write.images honest left.1.0 left.1.1).either;
    unwritten = λ honest file left. (write.continues.honest honest, (left.1.0, write.unwritten honest left.1.0 left.1.1, left.1.2));
    written = λ honest. written result honest (write.written honest);
  }
    where
      placed : (image : Image) → IsWhole old.size image → bytes_of_image (with_sector image at bytes) ≡ overlaid (bytes_of_image image) offset bytes
      placed image whole = joined-with_sector image at bytes (are_whole whole) (omega (arith, whole.sectors)) long ∙ ap (λ (n : ℕ). overlaid (bytes_of_image image) n bytes) (sym there)

      kept : (result : Outcome) → OnOk result (new.content ≡ with_sector old.content at bytes) → OnErr result ((new.content ≡ old.content) ⊎ (new.content ≡ with_sector old.content at bytes))
          → (other : ℕ) → other ≢ at → sector_at new.content other ≡ sector_at old.content other
      kept (Ok done) is either other ne = ap (λ (image : Image). sector_at image other) is ∙ get_or-set_other old.content at other bytes [] ne
      kept (Err fault) is either other ne =
          ⊎_elim
          (λ (same : new.content ≡ old.content). ap (λ (image : Image). sector_at image other) same)
          (λ (changed : new.content ≡ with_sector old.content at bytes). ap (λ (image : Image). sector_at image other) changed ∙ get_or-set_other old.content at other bytes [] ne)
          either

      now : old.honest → IsWhole old.size old.content
      now honest = old.whole honest old.clock old.content (old.content_left honest)

      stands : (result : Outcome) → old.honest → OnOk result (new.content ≡ with_sector old.content at bytes) → OnOk result (bytes_of_image new.content ≡ overlaid (bytes_of_image old.content) offset bytes)
      stands (Ok done) honest is = ap bytes_of_image is ∙ placed old.content (now honest)
      stands (Err fault) honest is = tt

      stands_err : (result : Outcome) → old.honest → OnErr result ((new.content ≡ old.content) ⊎ (new.content ≡ with_sector old.content at bytes))
          → OnErr result ((bytes_of_image new.content ≡ bytes_of_image old.content) ⊎ (bytes_of_image new.content ≡ overlaid (bytes_of_image old.content) offset bytes))
      stands_err (Ok done) honest is = tt
      stands_err (Err fault) honest is =
          ⊎_elim
          (λ (same : new.content ≡ old.content). inl (ap bytes_of_image same))
          (λ (changed : new.content ≡ with_sector old.content at bytes). inr (ap bytes_of_image changed ∙ placed old.content (now honest)))
          is

      written : (result : Outcome) → old.honest → OnOk result ((image : Image) → old.left_at old.clock image → new.left_at new.clock (with_sector image at bytes))
          → OnOk result ((file : List ℕ) → (joined_view old).left_at old.clock file → (joined_view new).left_at new.clock (overlaid file offset bytes))
      written (Ok done) honest over = λ file left. (
        write.continues.honest honest,
        (
          with_sector left.1.0 at bytes,
          over left.1.0 left.1.1,
          ap (λ (f : List ℕ). overlaid f offset bytes) left.1.2 ∙ sym (placed left.1.0 (old.whole honest old.clock left.1.0 left.1.1)),
        ),
      )
      written (Err fault) honest over = tt

  pub sync_joined : (result : Outcome) → IsSync old new result → IsFileSync (joined_view old) (joined_view new) result
  sync_joined result sync = record {
    goes_on = goes_on sync.continues;
    failures = sync.failures;
    still_given = λ other bytes was honest multiple.
        let before = sync.continues.was_honest honest in
        was before multiple ∙ ap (λ (image : Image). sector_at image (other / SECTOR_SIZE)) (sym (sync.content before));
    moment = λ honest below. sync.clock.before_end below;
    same = λ honest. ap bytes_of_image (sync.content honest);
    only = λ honest. only result (sync.only honest);
    no_other = λ honest. no_other result honest (sync.no_other honest);
    kept = λ honest. kept result honest (sync.kept honest);
  }
    where
      only : (result : Outcome) → OnOk result ((image : Image) → new.left_at new.clock image → image ≡ old.content)
          → OnOk result ((file : List ℕ) → (joined_view new).left_at new.clock file → file ≡ bytes_of_image old.content)
      only (Ok done) is = λ file left. left.1.2 ∙ ap bytes_of_image (is left.1.0 left.1.1)
      only (Err fault) is = tt

      no_other : (result : Outcome) → old.honest → OnErr result ((image : Image) → new.left_at new.clock image → old.left_at old.clock image)
          → OnErr result ((file : List ℕ) → (joined_view new).left_at new.clock file → (joined_view old).left_at old.clock file)
      no_other (Ok done) honest is = tt
      no_other (Err fault) honest is = λ file left. (honest, (left.1.0, is left.1.0 left.1.1, left.1.2))

      kept : (result : Outcome) → old.honest → OnErr result ((image : Image) → old.left_at old.clock image → new.left_at new.clock image)
          → OnErr result ((file : List ℕ) → (joined_view old).left_at old.clock file → (joined_view new).left_at new.clock file)
      kept (Ok done) honest is = tt
      kept (Err fault) honest is = λ file left. (sync.continues.honest honest, (left.1.0, is left.1.0 left.1.1, left.1.2))

-- a new disk is an unused file of this number of sectors
pub unused_file : (view : View) (image : Image) (sectors : ℕ) → IsFresh view image → length image ≡ sectors → IsUnusedFile (joined_view view) sectors
unused_file view image sectors fresh long = record {
  sized = λ honest.
      omega (arith, length-joined view.size view.content (view.whole honest view.clock view.content (view.content_left honest)), fresh.size, long);
  moment = λ honest. fresh.clock;
}
