-- Laws of writes that are kept over a source.
use Rattle.std.specs.Prelude.{◌≡◌, ℕ, ◌<◌, List, [], ◌∷◌, length, refl}
use Rattle.std.proofs.Common.{inr, ⊎_elim, sym, ◌∙◌, ap, subst, arith}
use Rattle.std.proofs.lemmas.Bool.{cases_eq}
use Rattle.std.proofs.lemmas.List.{length-set, get_or-set_same, get_or-set_other}
use Rattle.audit_disk_model.specs.Image.{Image, IsWhole, sector_at, with_sector}
use Rattle.audit_disk.specs.declared.block.Block.{Block}
use Rattle.audit_disk.specs.declared.call.Call.{Call}
use Rattle.audit_disk.specs.declared.call.Effect.{Effect}
use Rattle.audit_disk.specs.declared.call.Effect.TheVariants.{Write, Sync}
use Rattle.audit_base.specs.declared.limits.TheConstants.{SECTOR_SIZE}
use Rattle.audit_disk.specs.ReadOnly.{content_by, content_over, images_after, left_over}

-- the content is one of the possible images
pub content_is_left : (calls : List Call) (start : Image) → left_over calls start (content_over calls start)
content_is_left [] start = refl
content_is_left (call ∷ older) start =
    by_effect call.effect (content_over older start) (left_over older start) (content_is_left older start)
  where
    by_effect : (effect : Effect) (content : Image) (left : Image → Type 0) → left content
        → images_after effect content left (content_by effect content)
    by_effect (Write at block) content left is =
        record { either = inr (content, is, refl) }
    by_effect Sync content left is = refl

-- an image is still a whole device after a whole sector was written
pub whole_with_sector : (size : ℕ) (image : Image) (at : ℕ) (block : Block) → IsWhole size image
    → IsWhole size (with_sector image at block.bytes)
whole_with_sector size image at block whole =
    record { sectors = length-set image at block.bytes ∙ whole.sectors; each = each }
  where
    each : (other : ℕ) → other < size → length (sector_at (with_sector image at block.bytes) other) ≡ SECTOR_SIZE
    each other lt =
        ⊎_elim
        (λ (same : other ≡ at).
        ap (λ (n : ℕ). length (sector_at (with_sector image at block.bytes) n)) same
        ∙ ap length (get_or-set_same image at block.bytes [] (omega (arith, whole.sectors))) ∙ block.whole)
        (λ (no : other ≡ at → ⊥). ap length (get_or-set_other image at other block.bytes [] no) ∙ whole.each other lt)
        (cases_eq other at)

pub whole_content : (size : ℕ) (calls : List Call) (start : Image) → IsWhole size start
    → IsWhole size (content_over calls start)
whole_content size [] start whole = whole
whole_content size (call ∷ older) start whole =
    by_effect call.effect (content_over older start) (whole_content size older start whole)
  where
    by_effect : (effect : Effect) (content : Image) → IsWhole size content → IsWhole size (content_by effect content)
    by_effect (Write at block) content is = whole_with_sector size content at block is
    by_effect Sync content is = is

-- each possible image is a whole device
pub whole_left : (size : ℕ) (calls : List Call) (start image : Image) → IsWhole size start
    → left_over calls start image → IsWhole size image
whole_left size [] start image whole left = subst (IsWhole size) (sym left) whole
whole_left size (call ∷ older) start image whole left =
    by_effect call.effect (content_over older start) (left_over older start) (whole_content size older start whole)
    (λ before is. whole_left size older start before whole is) left
  where
    by_effect : (effect : Effect) (content : Image) (earlier : Image → Type 0) → IsWhole size content
        → ((before : Image) → earlier before → IsWhole size before)
        → images_after effect content earlier image → IsWhole size image
    by_effect (Write at block) content earlier is each may =
        ⊎_elim
        (λ (before : earlier image). each image before)
        (λ (over : (before : Image) × earlier before × (image ≡ with_sector before at block.bytes)).
        subst (IsWhole size) (sym over.2) (whole_with_sector size over.0 at block (each over.0 over.1)))
        may.either
    by_effect Sync content earlier is each same = subst (IsWhole size) (sym same) is
