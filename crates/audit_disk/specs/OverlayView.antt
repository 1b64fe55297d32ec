-- A source with the writes kept over it, as a device.
use Rattle.std.specs.Prelude.{ℕ, ◌^◌, ◌<◌, ◌≤◌, List, reverse}
use Rattle.std.proofs.Common.{sym, subst}
use Rattle.audit_disk_model.specs.View.{View}
use Rattle.audit_disk.specs.Memory.{latest, calls_until}
use Rattle.audit_disk.specs.MemoryLaws.{calls_until_all}
use Rattle.audit_disk.specs.SectorSource.{SourceView}
use Rattle.audit_disk.specs.declared.call.Call.{Call}
use Rattle.audit_disk.specs.ReadOnly.{content_over, left_over}
use Rattle.audit_disk.specs.ReadOnlyLaws.{content_is_left, whole_left}

-- The source with these calls applied over it. At the start its content is the only image that a crash leaves; nothing
-- is known of what one leaves of a source that isn't honest.
abbrev pub overlay_view : (source : SourceView) (calls : List Call) (clock failures : ℕ) → latest calls ≤ clock
    → clock < 2 ^ 64 → View
overlay_view source calls clock failures is_stamped is_in_range = record {
  size = source.size;
  content = content_over (reverse calls) source.content;
  clock = clock;
  left_at = λ moment image. source.honest × left_over (reverse (calls_until moment calls)) source.content image;
  failures = failures;
  honest = source.honest;
  size_fits = source.size_fits;
  clock_fits = is_in_range;
  content_left = λ honest. (
    honest,
    subst (λ (all : List Call). left_over (reverse all) source.content (content_over (reverse calls) source.content))
        (sym (calls_until_all calls clock is_stamped)) (content_is_left (reverse calls) source.content),
  );
  whole = λ honest moment image left. whole_left source.size (reverse (calls_until moment calls)) source.content image
      (source.whole honest) left.1;
}
