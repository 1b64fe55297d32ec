-- A device of the first sectors of a file, and one of fewer of them.
use Rattle.std.proofs.Common.{◌≡◌, ◌∙◌, ℕ, ◌≤◌, List, Result, Ok, Err, IfOk, take, sym, ap, subst, arith}
use Rattle.audit_disk_model.specs.Image.{Image}
use Rattle.audit_disk_model.specs.View.{View}
use Rattle.audit_disk.specs.File.{sectors_of}
use Rattle.audit_disk.specs.FileDisk.{IsFrontOf}
use Rattle.audit_disk.specs.FileFacts.{FileFacts}
use Rattle.audit_disk.specs.Positioned.{PositionedView, ShowsFront}
use Rattle.audit_disk.proofs.FileSectors.{take-sectors_of}
use Rattle.audit_log.specs.Reads.{OnlyReads}
use Rattle.audit_log.specs.declared.header.Header.{Header}
use Rattle.audit_store_commit.specs.IndexData.{IndexData}
use Rattle.audit_store.specs.Recovered.{IsOpened}
use Rattle.audit_cli_base.specs.OpenedStore.{FindsHeader, IsDeviceAt, IsReadDeviceAt}
use Rattle.audit_cli_base.specs.declared.fault.CommandError.{CommandError}

module _ (file : PositionedView) (front whole : View) (count : ℕ) (of : IsFrontOf front whole count) (few : count ≤ whole.size) (shows : ShowsFront file whole) where
  fewer : (bytes : List ℕ) → take count (sectors_of whole.size bytes) ≡ sectors_of front.size bytes
  fewer bytes = take-sectors_of count whole.size bytes few ∙ ap (λ (n : ℕ). sectors_of n bytes) (sym of.size)

  pub front_shows : ShowsFront file front
  front_shows = record {
    honest = λ honest. of.honest (shows.honest honest);
    was_honest = λ honest. shows.was_honest (of.was_honest honest);
    within = λ honest. omega (arith, of.size, few, shows.within honest);
    content = λ honest. of.content ∙ ap (λ (image : Image). take count image) (shows.content honest) ∙ fewer file.bytes;
    left = λ honest bytes left. subst (λ (image : Image). front.left_at 0 image) (fewer bytes) (of.left 0 (sectors_of whole.size bytes) (shows.left honest bytes left));
    no_other = λ image left.
        let full = of.no_other 0 image left in
        let other = shows.no_other full.0 full.1 in
        (other.0, other.1, full.2 ∙ ap (λ (i : Image). take count i) other.2 ∙ fewer other.0);
  }

-- what an opening found is a header that it finds
pub finds_header : {old new : View} {header : Header} {index : IndexData} → IsOpened old new header index → FindsHeader old header
finds_header opened = record {
  sound = record { chosen = opened.chosen; entries = opened.entries; two = opened.two; log = opened.log; opening = opened.opening };
  header_is = opened.header_is;
}

-- reads change nothing of what a device shows of its file
pub shows_still : {file : PositionedView} {old new : View} → OnlyReads old new → ShowsFront file old → ShowsFront file new
shows_still {file = file} {old = old} {new = new} reads shows = record {
  honest = λ honest. reads.continues.honest (shows.honest honest);
  was_honest = λ honest. shows.was_honest (reads.continues.was_honest honest);
  within = λ honest. omega (arith, reads.continues.size, shows.within honest);
  content = λ honest. reads.content (shows.honest honest) ∙ shows.content honest ∙ same file.bytes;
  left = λ honest bytes left. subst (λ (image : Image). new.left_at 0 image) (same bytes) (reads.continues.kept 0 _ (omega arith) (shows.left honest bytes left));
  no_other = λ image left. let other = shows.no_other image (reads.continues.no_other 0 image (omega arith) left) in (other.0, other.1, other.2 ∙ same other.0);
}
  where
    same : (bytes : List ℕ) → sectors_of old.size bytes ≡ sectors_of new.size bytes
    same bytes = ap (λ (n : ℕ). sectors_of n bytes) (sym reads.continues.size)

-- a device of all sectors of a file that was opened at a path, and what its file's identity was read of
module _ {F : Type 0} (facts : F → FileFacts) (positioned : F → PositionedView) where
  pub device_at : {C : Type 0} (path : List ℕ) {view : View} (file : F) → (facts file).opened path → (facts file).locked → ShowsFront (positioned file) view → (view_of : C → View) (result : Result C CommandError)
      → ((file : F) → ShowsFront (positioned file) view → IfOk result (λ opened. ShowsFront (positioned file) (view_of opened))) → IfOk result (λ opened. IsDeviceAt facts positioned path (view_of opened))
  device_at path file opened locked shows view_of (Err fault) front = tt
  device_at path file opened locked shows view_of (Ok content) front = record { file = file; opened = opened; locked = locked; front = front file shows }

  -- the same for one that is only read
  pub read_device_at : {C : Type 0} (path : List ℕ) {view : View} (file : F) → (facts file).opened_to_read path → (facts file).locked_shared → ShowsFront (positioned file) view → (view_of : C → View) (result : Result C CommandError)
      → ((file : F) → ShowsFront (positioned file) view → IfOk result (λ opened. ShowsFront (positioned file) (view_of opened))) → IfOk result (λ opened. IsReadDeviceAt facts positioned path (view_of opened))
  read_device_at path file opened locked shows view_of (Err fault) front = tt
  read_device_at path file opened locked shows view_of (Ok content) front = record { file = file; opened = opened; locked = locked; front = front file shows }

  -- a device that was only read since is still that of the file
  pub still_device_at : {C E : Type 0} (path : List ℕ) {old : View} (view_of : C → View) (result : Result C E) → IsDeviceAt facts positioned path old → IfOk result (λ free. OnlyReads old (view_of free))
      → IfOk result (λ free. IsDeviceAt facts positioned path (view_of free))
  still_device_at path view_of (Err fault) at reads = tt
  still_device_at path view_of (Ok free) at reads = record { file = at.file; opened = at.opened; locked = at.locked; front = shows_still reads at.front }
