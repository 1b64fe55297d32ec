-- The view of a file in memory.
use Rattle.std.specs.Prelude.{◌≡◌, ◌/◌, ◌%◌, ℕ, List, length, refl}
use Rattle.std.proofs.Common.{sym, ◌∙◌, ap}
use Rattle.std.proofs.Props.{props}
use Rattle.audit_disk_model.specs.Image.{Image, sector_at}
use Rattle.audit_disk_model.specs.View.{View}
use Rattle.audit_disk.specs.File.{FileView}
use Rattle.audit_disk.specs.MemDisk.{disk_view}
use Rattle.audit_disk.specs.MemFile.{bytes_of_image}
use Rattle.audit_disk.specs.MemFileLaws.{length-joined}
use Rattle.audit_disk.specs.declared.mem_file.MemFile.{MemFile}
use Rattle.audit_base.specs.declared.limits.TheConstants.{SECTOR_SIZE}

-- the file whose bytes are a device's sectors
abbrev pub joined_view : View → FileView
joined_view device = record {
  bytes = bytes_of_image device.content;
  moment = device.clock;
  left_at = λ moment file. device.honest
      × ((image : Image) × device.left_at moment image × (file ≡ bytes_of_image image));
  failures = device.failures;
  gave = λ offset bytes. device.honest → offset % SECTOR_SIZE ≡ 0
      → bytes ≡ sector_at device.content (offset / SECTOR_SIZE);
  honest = device.honest;
  given_once = λ offset bytes. Prim.hlevel props;
  bytes_left = λ honest. (honest, (device.content, device.content_left honest, refl));
  same_length = λ honest at file left.
      ap length left.1.2
      ∙ length-joined device.size left.1.0 (device.whole honest at left.1.0 left.1.1)
      ∙ sym (length-joined device.size device.content
      (device.whole honest device.clock device.content (device.content_left honest)));
}

-- everything that is known of it as a file
abbrev pub mem_file_view : MemFile → FileView
mem_file_view file = joined_view (disk_view file.disk)
