-- A device over a file: the view of its sectors.
use Rattle.std.specs.Prelude.{◌≡◌, ℕ, ◌*◌, ◌^◌, ◌<◌, ◌≤◌, min, List, length}
use Rattle.std.proofs.Common.{sym, subst}
use Rattle.audit_disk_model.specs.Image.{Sector, Image}
use Rattle.audit_disk_model.specs.View.{View}
use Rattle.audit_disk_model.specs.Calls.{Continues, Ticks, HasRisen}
use Rattle.audit_disk.specs.File.{sectors_of, FileView}
use Rattle.audit_base.specs.declared.limits.TheConstants.{SECTOR_SIZE}
use Rattle.audit_disk.specs.RowLaws.{moment_now, still_sized, whole_rows, whole_sectors, whole_with_row, with_row_is}
use Rattle.audit_disk.specs.Rows.{IsWholeRow, MayHaveRow, file_moment, row_at, with_row}

-- a crash leaves the first sectors of a content that it may leave of the file at this moment; of the sectors kept from
-- `start` on, each is written or not
abbrev pub LeftWithRow : FileView → ℕ → ℕ → ℕ → List Sector → Image → Type 0
LeftWithRow file sectors moment start row image = file.honest
    × ((bytes : List ℕ) × file.left_at moment bytes × MayHaveRow start row (sectors_of sectors bytes) image)

-- The device of the first sectors of a file that doesn't have the row yet: its moment and the kept sectors, at each
-- moment of the clock.
abbrev pub row_view : (file : FileView) (sectors start : ℕ) (moment_of : ℕ → ℕ) (row_of : ℕ → List Sector)
    (clock failures : ℕ) → sectors < 2 ^ 64 → clock < 2 ^ 64 → moment_of clock ≡ file.moment
    → ((at : ℕ) → IsWholeRow (row_of at)) → (file.honest → SECTOR_SIZE * sectors ≤ length file.bytes) → View
row_view file sectors start moment_of row_of clock failures fits in_range now whole_rows sized = record {
  size = sectors;
  content = with_row (sectors_of sectors file.bytes) start (row_of clock);
  clock = clock;
  left_at = λ at image. LeftWithRow file sectors (moment_of at) start (row_of at) image;
  failures = failures;
  honest = file.honest;
  size_fits = fits;
  clock_fits = in_range;
  content_left = λ honest. (
    honest,
    (
      file.bytes,
      subst (λ (at : ℕ). file.left_at at file.bytes) (sym now) (file.bytes_left honest),
      with_row_is (sectors_of sectors file.bytes) start (row_of clock),
    ),
  );
  whole = λ honest at image left.
      whole_with_row sectors start (row_of at) (sectors_of sectors left.1.0) image (whole_rows at)
      (whole_sectors sectors left.1.0 (still_sized file sectors (moment_of at) left.1.0 honest left.1.1 (sized honest)))
      left.1.2;
}

-- How far a device has come over a file. Its clock counts the calls that the file had made at `base`, then kept writes
-- up to `split`, then further calls up to `reached`; the later ones were refused.
pub record FileProgress (file : FileView) : Type 0 where
  pub sectors : ℕ
  pub clock : ℕ
  pub failures : ℕ
  -- the number of the first kept sector
  pub start : ℕ
  pub kept : List Sector
  -- what the file doesn't have yet
  pub active : List Sector
  pub base : ℕ
  pub split : ℕ
  pub reached : ℕ
  pub fits : sectors < 2 ^ 64
  pub in_range : clock < 2 ^ 64
  pub in_order : split ≤ reached
  pub le : reached ≤ clock
  pub whole : IsWholeRow kept
  pub whole_active : IsWholeRow active
  pub sized : file.honest → SECTOR_SIZE * sectors ≤ length file.bytes

-- the device over a file that has come so far
abbrev pub file_view : (file : FileView) → FileProgress file → View
file_view file now =
    row_view file now.sectors now.start
    (λ at. file_moment now.base now.split now.reached file.moment (min at now.reached))
    (λ at. row_at now.base now.split now.kept now.active (min at now.reached)) now.clock now.failures now.fits
    now.in_range (moment_now now.base now.split now.reached file.moment now.clock now.in_order now.le)
    (λ at. whole_rows now.base now.split now.kept now.active now.whole now.whole_active (min at now.reached)) now.sized

-- Something happened below the device: it looks the same, now and at each earlier moment.
pub record IsSameDevice (old new : View) : Type 0 where
  pub continues : Continues old new
  pub clock : new.clock ≡ old.clock
  pub failures : new.failures ≡ old.failures
  pub content : old.honest → new.content ≡ old.content

-- a write or a sync failed, with no effect
pub record IsCallRefused (old new : View) : Type 0 where
  pub continues : Continues old new
  pub clock : Ticks old.clock new.clock
  pub failures : HasRisen old.failures new.failures
  pub content : old.honest → new.content ≡ old.content
  pub kept : old.honest → (image : Image) → old.left_at old.clock image → new.left_at new.clock image
  pub no_other : old.honest → (image : Image) → new.left_at new.clock image → old.left_at old.clock image
