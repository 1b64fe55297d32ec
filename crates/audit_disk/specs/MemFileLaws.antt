-- The length of joined sectors.
use Rattle.std.specs.Prelude.{◌≡◌, ℕ, zero, suc, ◌*◌, ◌<◌, [], ◌∷◌, length, refl}
use Rattle.std.proofs.Common.{arith}
use Rattle.std.proofs.lemmas.List.{length-append}
use Rattle.audit_disk_model.specs.Image.{Image, IsWhole, sector_at}
use Rattle.audit_base.specs.declared.limits.TheConstants.{SECTOR_SIZE}
use Rattle.audit_disk.specs.MemFile.{bytes_of_image}

pub length-joined : (size : ℕ) (image : Image) → IsWhole size image → length (bytes_of_image image) ≡ SECTOR_SIZE * size
length-joined size image whole = all size image whole.sectors whole.each
  where
    all : (size : ℕ) (image : Image) → length image ≡ size
        → ((at : ℕ) → at < size → length (sector_at image at) ≡ SECTOR_SIZE)
        → length (bytes_of_image image) ≡ SECTOR_SIZE * size
    all zero [] is each = refl
    all (suc size) [] is each = absurd (omega arith)
    all zero (bytes ∷ image) is each = absurd (omega arith)
    all (suc size) (bytes ∷ image) is each =
        omega (
          arith,
          length-append bytes (bytes_of_image image),
          each zero (omega arith),
          all size image (omega arith) (λ at lt. each (suc at) (omega arith)),
        )
