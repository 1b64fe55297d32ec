-- Sectors that are only read.
use Rattle.std.specs.Prelude.{◌≡◌, ℕ, ◌^◌, ◌<◌, ◌≤◌, OnOk}
use Rattle.audit_disk_model.specs.Image.{Sector, Image, IsWhole, sector_at}
use Rattle.audit_disk_model.specs.View.{View}
use Rattle.audit_disk_model.specs.Calls.{Outcome}

-- what is known of the sectors
pub record SourceView : Type 1 where
  -- how many there are
  pub size : ℕ
  -- what a successful read returns, sector by sector
  pub content : Image
  -- a read of it has failed
  pub failed : Type 0
  -- the last read of it failed
  pub last_failed : Type 0
  -- the source behaves as described here
  pub honest : Type 0
  pub size_fits : size < 2 ^ 64
  pub whole : honest → IsWhole size content

-- a read of an honest source returns the sector of its content, or fails
abbrev pub IsSourceRead : SourceView → ℕ → Sector → Outcome → Type 0
IsSourceRead source at into result = source.honest → OnOk result (into ≡ sector_at source.content at)

-- a read changes nothing that is known of an honest source
pub record IsSameSource (old new : SourceView) : Type 0 where
  pub size : new.size ≡ old.size
  pub honest : old.honest → new.honest
  pub was_honest : new.honest → old.honest
  pub content : old.honest → new.content ≡ old.content
  pub failed : old.failed → new.failed

-- a device as a source
abbrev pub source_of : View → SourceView
source_of view = record {
  size = view.size;
  content = view.content;
  failed = 1 ≤ view.failures;
  last_failed = 1 ≤ view.failures;
  honest = view.honest;
  size_fits = view.size_fits;
  whole = λ honest. view.whole honest view.clock view.content (view.content_left honest);
}
