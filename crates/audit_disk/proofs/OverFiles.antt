-- A device over a file, before its first call.
use Rattle.std.proofs.Common.{◌≡◌, ℕ, zero, suc, ◌<◌, List, [], ◌∷◌, ◌++◌, length, drop, refl, sym, ◌∙◌, ap, subst, arith}
use Rattle.std.proofs.lemmas.List.{take_at, drop_at}
use Rattle.audit_disk_model.specs.Image.{Sector, Image, sector_at}
use Rattle.audit_disk_model.specs.View.{View}
use Rattle.audit_disk.specs.File.{sectors_of}
use Rattle.audit_disk.specs.MemFile.{bytes_of_image}
use Rattle.audit_disk.specs.MemFileView.{joined_view}
use Rattle.audit_disk.specs.MemDisk.{IsFresh}
use Rattle.audit_base.specs.declared.limits.TheConstants.{SECTOR_SIZE}

-- the sectors of a whole image's bytes are that image
sectors_of-joined : (count : ℕ) (image : Image) → length image ≡ count → ((at : ℕ) → at < count → length (sector_at image at) ≡ SECTOR_SIZE) → sectors_of count (bytes_of_image image) ≡ image
sectors_of-joined zero [] many each = refl
sectors_of-joined zero (bytes ∷ image) many each = absurd (omega arith)
sectors_of-joined (suc count) [] many each = absurd (omega arith)
sectors_of-joined (suc count) (bytes ∷ image) many each =
    let long : length bytes ≡ SECTOR_SIZE = each zero (omega arith) in
    ap (λ (s : Sector). s ∷ sectors_of count (drop SECTOR_SIZE (bytes ++ bytes_of_image image))) (take_at bytes (bytes_of_image image) SECTOR_SIZE long)
    ∙ ap (λ (file : List ℕ). bytes ∷ sectors_of count file) (drop_at bytes (bytes_of_image image) SECTOR_SIZE long)
    ∙ ap (λ (i : Image). bytes ∷ i) (sectors_of-joined count image (omega arith) (λ at lt. each (suc at) (omega arith)))

-- over the file made of a new disk, a device is new and has the disk's content
module _ (memory view : View) (image : Image) (count : ℕ) (fresh : IsFresh memory image) (long : length image ≡ count) where
  same_sectors : sectors_of count (bytes_of_image memory.content) ≡ memory.content
  same_sectors =
      let whole = memory.whole fresh.honest memory.clock memory.content (memory.content_left fresh.honest) in
      sectors_of-joined count memory.content (whole.sectors ∙ fresh.size ∙ long) (λ at lt. whole.each at (omega (arith, fresh.size, long)))

  pub fresh_over : view.size ≡ count → view.content ≡ sectors_of count (bytes_of_image memory.content) → view.clock ≡ 0 → view.failures ≡ 0 → view.honest
      → ((other : Image) → view.left_at 0 other → (bytes : List ℕ) × (joined_view memory).left_at memory.clock bytes × (other ≡ sectors_of count bytes)) → IsFresh view image
  fresh_over size content clock failures honest no_other = record {
    size = size ∙ sym long;
    content = content ∙ same_sectors ∙ fresh.content;
    clock = clock;
    failures = failures;
    honest = honest;
    settled = record {
      left = λ honest. view.content_left honest;
      only = λ honest other left.
          let was = no_other other (subst (λ (moment : ℕ). view.left_at moment other) clock left) in
          was.2 ∙ ap (λ (file : List ℕ). sectors_of count file) (was.1.1.2 ∙ ap bytes_of_image (fresh.settled.only fresh.honest was.1.1.0 was.1.1.1)) ∙ sym content;
    };
  }
