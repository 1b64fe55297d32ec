-- The crash model.
pub use Rattle.audit_disk_model.specs.Calls
pub use Rattle.audit_disk_model.specs.Image
pub use Rattle.audit_disk_model.specs.Moments
pub use Rattle.audit_disk_model.specs.View
pub use Rattle.audit_disk_model.specs.Window
-- What the contracts of public calls cite, besides the views below.
pub mod Countdown
pub mod FailOnce
pub mod File
pub mod FileDisk
pub mod FileFacts
pub mod FileFaults
pub mod Fuse
pub mod Held
pub mod MemDisk
pub mod MemFileView
pub mod OsFile
pub mod Passing
pub mod Positioned
pub mod ReadOnlyView
pub mod Reading
pub mod SectorSource
-- Views of devices and files.
pub mod FileView
pub mod Folder
pub mod KeptRow
pub mod MemFile
pub mod Memory
pub mod MemoryView
pub mod OverlayView
pub mod ReadOnly
pub mod Rows
pub mod Shifted
pub mod ShiftedView
-- Laws that these views have as fields, or that functions above use.
pub mod FileLaws
pub mod HeldLaws
pub mod KeptRowLaws
pub mod MemFileLaws
pub mod MemoryLaws
pub mod ReadOnlyLaws
pub mod RowLaws
pub mod ShiftedLaws
-- Needed only by bodies.
pub mod CallLog
pub mod Contents
pub mod Gate
pub mod Progress
pub mod ReadAhead
