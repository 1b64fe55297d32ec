-- A `MemDisk` before its first call.
use Rattle.std.proofs.Common.{◌≡◌, ℕ, Ok, Err, Result, IfOk, List, [], ◌∷◌, map, refl, sym, ◌∙◌, ap, subst, length, ◌<◌, ◌^◌}
use Rattle.std.proofs.lemmas.List.{length-map}
use Rattle.audit_disk_model.specs.Image.{Sector, Image}
use Rattle.audit_disk_model.specs.View.{View}
use Rattle.audit_disk_model.specs.Moments.{IsAfterCrash}
use Rattle.audit_disk.specs.Held.{Held, settled, content_of, bytes_of_blocks, IsImageOf, crashed}
use Rattle.audit_disk.specs.Memory.{after_calls, held_at}
use Rattle.audit_disk.specs.MemDisk.{disk_view, disk_held, IsFresh, HoldsOnly, IsEachPicked}
use Rattle.audit_disk.specs.declared.block.Block.{Block}
use Rattle.audit_disk.specs.declared.call.Call.{Call}
use Rattle.audit_disk.specs.declared.call_log.CallLog.{CallLog}
use Rattle.audit_disk.specs.declared.mem_disk.MemDisk.{MemDisk}
use Rattle.audit_disk.proofs.HeldLemmas.{crashed_image, image_crashed}
use Rattle.audit_disk.proofs.MemoryLemmas.{held_now}
use Rattle.audit_disk.proofs.MemoryCalls.{IsCurrent}
use Rattle.audit_disk.proofs.MemDiskCalls.{view_of}

pub content_of-settled : (blocks : List Block) → content_of (map settled blocks) ≡ bytes_of_blocks blocks
content_of-settled [] = refl
content_of-settled (block ∷ blocks) = ap (λ (image : Image). block.bytes ∷ image) (content_of-settled blocks)

settled_image : (blocks : List Block) (image : Image) → IsImageOf (map settled blocks) image → image ≡ bytes_of_blocks blocks
settled_image [] [] is = refl
settled_image [] (bytes ∷ image) is = absurd is
settled_image (block ∷ blocks) [] is = absurd is
settled_image (block ∷ blocks) (bytes ∷ image) is = ap (λ (s : Sector). s ∷ image) is.0.1 ∙ ap (λ (i : Image). block.bytes ∷ i) (settled_image blocks image is.1)

-- the content before the first call
pub current_fresh : (start content : List Block) (log : CallLog) → start ≡ content → log.calls.items ≡ [] → IsCurrent start (bytes_of_blocks content) log.calls.items
current_fresh start content log same none =
    ap bytes_of_blocks (sym same) ∙ sym (content_of-settled start) ∙ ap (λ (calls : List Call). content_of (after_calls calls (map settled start))) (sym none)

pub fresh : (start content : List Block) (log : CallLog) (current : IsCurrent start (bytes_of_blocks content) log.calls.items) (sized : length start < 2 ^ 64) → start ≡ content → log.calls.items ≡ []
    → log.clock ≡ 0 → log.failures ≡ 0 → IsFresh (view_of start content log current sized) (bytes_of_blocks content)
fresh start content log current sized same none clock failures = record {
  size = ap length same ∙ sym (length-map content (λ (block : Block). block.bytes));
  content = refl;
  clock = clock;
  failures = failures;
  honest = tt;
  settled = record {
    left = (view_of start content log current sized).content_left;
    only = λ honest other left.
        settled_image start other (subst (λ (calls : List Call). IsImageOf (held_at start calls log.clock) other) none left) ∙ ap bytes_of_blocks same;
  };
}

pub fresh_held : (start content : List Block) (log : CallLog) → start ≡ content → log.calls.items ≡ [] → HoldsOnly (after_calls log.calls.items (map settled start)) (bytes_of_blocks content)
fresh_held start content log same none = (start, ap (λ (calls : List Call). after_calls calls (map settled start)) none, ap bytes_of_blocks same)

-- the image of each pick may be left, and each image that may be left is the image of some pick
pub crash_image : (disk : MemDisk) (pick : List ℕ) → (disk_view disk).left_at disk.log.clock (crashed (disk_held disk) pick)
crash_image disk pick =
    subst (λ (held : List Held). IsImageOf held (crashed (disk_held disk) pick)) (sym (held_now disk.start.items disk.log.calls.items disk.log.clock disk.log.stamped))
    (crashed_image (disk_held disk) pick)

pub crash_every : (disk : MemDisk) → IsEachPicked (disk_view disk) (disk_held disk)
crash_every disk = λ image left.
    image_crashed (disk_held disk) image
    (subst (λ (held : List Held). IsImageOf held image) (held_now disk.start.items disk.log.calls.items disk.log.clock disk.log.stamped) left)

-- the device that a crash leaves
pub after_crash_of : (disk : MemDisk) (pick : List ℕ) (after : View) → IsFresh after (crashed (disk_held disk) pick) → IsAfterCrash (disk_view disk) after
after_crash_of disk pick after fresh =
    let left = crash_image disk pick in record {
      size = fresh.size ∙ ((disk_view disk).whole tt disk.log.clock (crashed (disk_held disk) pick) left).sectors;
      content = λ honest. subst (λ (image : Image). (disk_view disk).left_at disk.log.clock image) (sym fresh.content) left;
      honest = λ honest. fresh.honest;
      settled = fresh.settled;
    }

pub after_crash_if : {E : Type 0} (disk : MemDisk) (pick : List ℕ) (image : Image) (result : Result MemDisk E) → IfOk result (λ after. IsFresh (disk_view after) image) → image ≡ crashed (disk_held disk) pick
    → IfOk result (λ after. IsAfterCrash (disk_view disk) (disk_view after))
after_crash_if disk pick image (Ok after) fresh same = after_crash_of disk pick (disk_view after) (subst (λ (i : Image). IsFresh (disk_view after) i) same fresh)
after_crash_if disk pick image (Err error) fresh same = tt
