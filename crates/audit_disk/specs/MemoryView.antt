-- A device that records its calls.
use Rattle.std.specs.Prelude.{◌≡◌, ℕ, ◌^◌, ◌<◌, ◌≤◌, List, map, length}
use Rattle.std.proofs.Common.{sym, ◌∙◌, subst}
use Rattle.std.proofs.lemmas.List.{length-map}
use Rattle.audit_disk_model.specs.Image.{Image, IsWhole}
use Rattle.audit_disk_model.specs.View.{View}
use Rattle.audit_disk.specs.Held.{settled, content_of, IsImageOf}
use Rattle.audit_disk.specs.HeldLaws.{content_image, whole_image}
use Rattle.audit_disk.specs.Memory.{after_calls, calls_until, held_at, latest}
use Rattle.audit_disk.specs.declared.block.Block.{Block}
use Rattle.audit_disk.specs.MemoryLaws.{calls_until_all, length-after_calls}
use Rattle.audit_disk.specs.declared.call.Call.{Call}

-- An honest device: the images of each moment follow from the calls up to it.
abbrev pub memory_view : (start : List Block) (content : Image) (calls : List Call) (clock failures : ℕ)
    → content ≡ content_of (after_calls calls (map settled start)) → latest calls ≤ clock → length start < 2 ^ 64
    → clock < 2 ^ 64 → View
memory_view start content calls clock failures is_current is_stamped is_sized is_in_range = record {
  size = length start;
  content = content;
  clock = clock;
  left_at = λ moment image. IsImageOf (held_at start calls moment) image;
  failures = failures;
  honest = Unit {0};
  size_fits = is_sized;
  clock_fits = is_in_range;
  content_left = λ honest.
      subst (λ (all : List Call). IsImageOf (after_calls all (map settled start)) content)
      (sym (calls_until_all calls clock is_stamped))
      (subst (λ (image : Image). IsImageOf (after_calls calls (map settled start)) image) (sym is_current)
      (content_image (after_calls calls (map settled start))));
  whole = λ honest moment image is.
      subst (λ (size : ℕ). IsWhole size image)
      (length-after_calls (calls_until moment calls) (map settled start) ∙ length-map start settled)
      (whole_image (held_at start calls moment) image is);
}
