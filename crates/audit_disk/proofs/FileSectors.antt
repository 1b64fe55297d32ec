-- Sectors in a file.
use Rattle.std.proofs.Common.{◌≡◌, ℕ, zero, suc, ◌+◌, ◌*◌, ◌<◌, ◌≤◌, List, ◌∷◌, ◌++◌, length, take, drop, set, refl, sym, ◌∙◌, ap, arith}
use Rattle.std.proofs.lemmas.List.{length-append, length-take-le, length-drop, take_at, drop_at, take-take, take-append-le, drop-append-le, drop-drop, drop-take}
use Rattle.audit_disk_model.specs.Image.{Image, sector_at}
use Rattle.audit_disk.specs.File.{overlaid, sectors_of}
use Rattle.audit_base.specs.declared.limits.TheConstants.{SECTOR_SIZE}

pub length-overlaid : (file : List ℕ) (offset : ℕ) (bytes : List ℕ) → offset + length bytes ≤ length file → length (overlaid file offset bytes) ≡ length file
length-overlaid file offset bytes le =
    omega (arith, length-append (take offset file ++ bytes) (drop (offset + length bytes) file), length-append (take offset file) bytes, length-take-le offset file (omega arith), length-drop (offset + length bytes) file)

-- the first sector, and those after it
overlaid_first : (file bytes : List ℕ) → length bytes ≡ SECTOR_SIZE → overlaid file 0 bytes ≡ bytes ++ drop SECTOR_SIZE file
overlaid_first file bytes long = let n : 0 + length bytes ≡ SECTOR_SIZE = omega arith in ap (λ (m : ℕ). bytes ++ drop m file) n

take-overlaid : (file bytes : List ℕ) (offset : ℕ) → SECTOR_SIZE ≤ offset → offset ≤ length file → take SECTOR_SIZE (overlaid file offset bytes) ≡ take SECTOR_SIZE file
take-overlaid file bytes offset le fits =
    let front = take offset file in
    let long : length front ≡ offset = length-take-le offset file fits in
    take-append-le SECTOR_SIZE (front ++ bytes) (drop (offset + length bytes) file) (omega (arith, length-append front bytes))
    ∙ take-append-le SECTOR_SIZE front bytes (omega arith)
    ∙ take-take SECTOR_SIZE offset file le

drop-overlaid : (file bytes : List ℕ) (offset : ℕ) → SECTOR_SIZE + offset ≤ length file → drop SECTOR_SIZE (overlaid file (SECTOR_SIZE + offset) bytes) ≡ overlaid (drop SECTOR_SIZE file) offset bytes
drop-overlaid file bytes offset fits =
    let front = take (SECTOR_SIZE + offset) file in
    let rest = drop (SECTOR_SIZE + offset + length bytes) file in
    let long : length front ≡ SECTOR_SIZE + offset = length-take-le (SECTOR_SIZE + offset) file fits in
    let far : SECTOR_SIZE + offset + length bytes ≡ SECTOR_SIZE + (offset + length bytes) = omega arith in
    drop-append-le SECTOR_SIZE (front ++ bytes) rest (omega (arith, length-append front bytes))
    ∙ ap (λ (l : List ℕ). l ++ rest) (drop-append-le SECTOR_SIZE front bytes (omega arith))
    ∙ ap (λ (l : List ℕ). l ++ bytes ++ rest) (drop-take SECTOR_SIZE offset file)
    ∙ ap (λ (l : List ℕ). take offset (drop SECTOR_SIZE file) ++ bytes ++ l) (ap (λ (n : ℕ). drop n file) far ∙ sym (drop-drop (offset + length bytes) SECTOR_SIZE file))

-- bytes at a multiple of the sector's size are a sector
pub sectors_of-overlaid : (count at : ℕ) (file bytes : List ℕ) → SECTOR_SIZE * count ≤ length file → SECTOR_SIZE * at + SECTOR_SIZE ≤ length file → length bytes ≡ SECTOR_SIZE
    → sectors_of count (overlaid file (SECTOR_SIZE * at) bytes) ≡ set (sectors_of count file) at bytes
sectors_of-overlaid zero at file bytes long within size = refl
sectors_of-overlaid (suc count) zero file bytes long within size =
    ap (λ (l : List ℕ). sectors_of (suc count) l) (overlaid_first file bytes size)
    ∙ ap (λ (l : List ℕ). l ∷ sectors_of count (drop SECTOR_SIZE (bytes ++ drop SECTOR_SIZE file))) (take_at bytes (drop SECTOR_SIZE file) SECTOR_SIZE size)
    ∙ ap (λ (l : List ℕ). bytes ∷ sectors_of count l) (drop_at bytes (drop SECTOR_SIZE file) SECTOR_SIZE size)
sectors_of-overlaid (suc count) (suc at) file bytes long within size =
    let there : SECTOR_SIZE * suc at ≡ SECTOR_SIZE + SECTOR_SIZE * at = omega arith in
    ap (λ (n : ℕ). sectors_of (suc count) (overlaid file n bytes)) there
    ∙ ap (λ (l : List ℕ). l ∷ sectors_of count (drop SECTOR_SIZE (overlaid file (SECTOR_SIZE + SECTOR_SIZE * at) bytes))) (take-overlaid file bytes (SECTOR_SIZE + SECTOR_SIZE * at) (omega arith) (omega arith))
    ∙ ap (λ (l : List ℕ). take SECTOR_SIZE file ∷ sectors_of count l) (drop-overlaid file bytes (SECTOR_SIZE * at) (omega arith))
    ∙ ap (λ (image : Image). take SECTOR_SIZE file ∷ image) (sectors_of-overlaid count at (drop SECTOR_SIZE file) bytes (omega (arith, length-drop SECTOR_SIZE file)) (omega (arith, length-drop SECTOR_SIZE file)) size)

pub sector_at-sectors_of : (count at : ℕ) (file : List ℕ) → at < count → sector_at (sectors_of count file) at ≡ take SECTOR_SIZE (drop (SECTOR_SIZE * at) file)
sector_at-sectors_of zero at file lt = absurd (omega arith)
sector_at-sectors_of (suc count) zero file lt = refl
sector_at-sectors_of (suc count) (suc at) file lt =
    let there : SECTOR_SIZE + SECTOR_SIZE * at ≡ SECTOR_SIZE * suc at = omega arith in
    sector_at-sectors_of count at (drop SECTOR_SIZE file) (omega arith)
    ∙ ap (λ (l : List ℕ). take SECTOR_SIZE l) (drop-drop (SECTOR_SIZE * at) SECTOR_SIZE file ∙ ap (λ (n : ℕ). drop n file) there)

-- the first sectors are a prefix of more sectors
pub take-sectors_of : (count more : ℕ) (file : List ℕ) → count ≤ more → take count (sectors_of more file) ≡ sectors_of count file
take-sectors_of zero more file le = refl
take-sectors_of (suc count) zero file le = absurd (omega arith)
take-sectors_of (suc count) (suc more) file le = ap (λ (image : Image). take SECTOR_SIZE file ∷ image) (take-sectors_of count more (drop SECTOR_SIZE file) (omega arith))
