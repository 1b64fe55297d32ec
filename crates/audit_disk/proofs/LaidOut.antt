-- A device over a new file that was given its length.
use Rattle.std.proofs.Common.{◌≡◌, ℕ, zero, suc, ◌*◌, ◌-◌, List, ◌∷◌, drop, replicate, refl, sym, ◌∙◌, ap, subst, arith}
use Rattle.std.proofs.lemmas.List.{take-replicate, drop-replicate, length-replicate}
use Rattle.audit_base.specs.declared.limits.TheConstants.{SECTOR_SIZE}
use Rattle.audit_disk_model.specs.Image.{Sector, Image}
use Rattle.audit_disk_model.specs.View.{View}
use Rattle.audit_disk.specs.File.{sectors_of}
use Rattle.audit_disk.specs.MemDisk.{IsFresh}

-- the image of a device of zeros
abbrev pub zero_image : ℕ → Image
zero_image sectors = replicate sectors (replicate SECTOR_SIZE 0)

-- the sectors of a file of zeros
sectors_of-zeros : (count : ℕ) → sectors_of count (replicate (SECTOR_SIZE * count) 0) ≡ zero_image count
sectors_of-zeros zero = refl
sectors_of-zeros (suc count) =
    let size = SECTOR_SIZE * suc count in
    let rest : size - SECTOR_SIZE ≡ SECTOR_SIZE * count = omega arith in
    ap (λ (s : Sector). s ∷ sectors_of count (drop SECTOR_SIZE (replicate size 0))) (take-replicate SECTOR_SIZE size 0 (omega arith))
    ∙ ap (λ (file : List ℕ). replicate SECTOR_SIZE 0 ∷ sectors_of count file) (drop-replicate SECTOR_SIZE size 0 ∙ ap (λ (n : ℕ). replicate n 0) rest)
    ∙ ap (λ (i : Image). replicate SECTOR_SIZE 0 ∷ i) (sectors_of-zeros count)

-- over a file of zeros of which a crash leaves nothing else, a device is new and all zeros
pub fresh_zeros : (view : View) (bytes : List ℕ) (count : ℕ) (Leaves : List ℕ → Type 0) → bytes ≡ replicate (SECTOR_SIZE * count) 0 → ((left : List ℕ) → Leaves left → left ≡ bytes)
    → view.size ≡ count → view.content ≡ sectors_of count bytes → view.clock ≡ 0 → view.failures ≡ 0 → view.honest
    → ((other : Image) → view.left_at 0 other → (left : List ℕ) × Leaves left × (other ≡ sectors_of count left)) → IsFresh view (zero_image count)
fresh_zeros view bytes count Leaves zeros only size content clock failures honest no_other = record {
  size = size ∙ sym (length-replicate count (replicate SECTOR_SIZE 0));
  content = content ∙ ap (λ (file : List ℕ). sectors_of count file) zeros ∙ sectors_of-zeros count;
  clock = clock;
  failures = failures;
  honest = honest;
  settled = record {
    left = λ honest. view.content_left honest;
    only = λ honest other left.
        let was = no_other other (subst (λ (moment : ℕ). view.left_at moment other) clock left) in
        was.2 ∙ ap (λ (file : List ℕ). sectors_of count file) (only was.0 was.1) ∙ sym content;
  };
}
