-- Laws of rows, for the device over a file.
use Rattle.std.specs.Prelude.{◌≡◌, ◌⊎◌, ℕ, zero, suc, ◌+◌, ◌-◌, ◌*◌, ◌^◌, ◌<◌, ◌≤◌, min, nat_lt, cond, Bool, true, false}
use Rattle.std.specs.Prelude.{Option, Some, None, List, [], ◌∷◌, length, take, drop, refl}
use Rattle.std.proofs.Common.{sym, ◌∙◌, ap, arith, inl, inr, ⊎_elim}
use Rattle.std.proofs.lemmas.Bool.{cases_eq, cases_lt, cond_above}
use Rattle.std.proofs.lemmas.List.{length-drop, length-take, length-set, get_or-set_same, get_or-set_other, get_or_past, get_or-take}
use Rattle.audit_disk_model.specs.Image.{Sector, Image, IsWhole, sector_at, with_sector}
use Rattle.audit_disk.specs.File.{sectors_of, FileView}
use Rattle.audit_base.specs.declared.limits.TheConstants.{SECTOR_SIZE}
use Rattle.audit_disk.specs.Rows.{IsWholeRow, MayHaveRow, StandsInRow, active_row, file_moment, row_at, with_row}

pub length-sectors_of : (count : ℕ) (file : List ℕ) → length (sectors_of count file) ≡ count
length-sectors_of zero file = refl
length-sectors_of (suc count) file = ap suc (length-sectors_of count (drop SECTOR_SIZE file))

pub whole_sectors : (count : ℕ) (file : List ℕ) → SECTOR_SIZE * count ≤ length file
    → IsWhole count (sectors_of count file)
whole_sectors count file is = record { sectors = length-sectors_of count file; each = each count file is }
  where
    each : (count : ℕ) (file : List ℕ) → SECTOR_SIZE * count ≤ length file → (at : ℕ) → at < count
        → length (sector_at (sectors_of count file) at) ≡ SECTOR_SIZE
    each zero file is at lt = absurd (omega arith)
    each (suc count) file is zero lt = omega (arith, length-take SECTOR_SIZE file)
    each (suc count) file is (suc at) lt =
        each count (drop SECTOR_SIZE file) (omega (arith, length-drop SECTOR_SIZE file)) at (omega arith)

pub sectors_fit : (sectors : ℕ) → SECTOR_SIZE * sectors < 2 ^ 64 → sectors < 2 ^ 64
sectors_fit sectors fits = omega arith

pub whole_with_row : (size start : ℕ) (row : List Sector) (old new : Image) → IsWholeRow row → IsWhole size old
    → MayHaveRow start row old new → IsWhole size new
whole_with_row size start row old new whole_row whole may = record {
  sectors = may.sectors ∙ whole.sectors;
  each = λ at lt.
      ⊎_elim
      (λ (same : sector_at new at ≡ sector_at old at). ap length same ∙ whole.each at lt)
      (λ (stands : StandsInRow start row at (sector_at new at)).
      ap length stands.is ∙ whole_row.each (at - start) (omega (arith, stands.from, stands.to)))
      (may.each at);
}

pub length-with_row : (image : Image) (at : ℕ) (row : List Sector) → length (with_row image at row) ≡ length image
length-with_row image at [] = refl
length-with_row image at (bytes ∷ row) = length-with_row (with_sector image at bytes) (at + 1) row
    ∙ length-set image at bytes

-- what a crash leaves of a file is as long as the file
pub still_sized : (file : FileView) (sectors at : ℕ) (bytes : List ℕ) → file.honest → file.left_at at bytes
    → SECTOR_SIZE * sectors ≤ length file.bytes → SECTOR_SIZE * sectors ≤ length bytes
still_sized file sectors at bytes honest left sized = omega (arith, file.same_length honest at bytes left, sized)

-- one sector, followed by the others
pub row_cons : (at : ℕ) (bytes : Sector) (row : List Sector) (old new : Image)
    → MayHaveRow (at + 1) row (with_sector old at bytes) new → MayHaveRow at (bytes ∷ row) old new
row_cons at bytes row old new may = record { sectors = may.sectors ∙ length-set old at bytes; each = each }
  where
    first : (k : ℕ) → k ≡ at → sector_at new k ≡ sector_at (with_sector old at bytes) k
        → (sector_at new k ≡ sector_at old k) ⊎ StandsInRow at (bytes ∷ row) k (sector_at new k)
    first k here same =
        ⊎_elim
        (λ (lt : at < length old).
        inr (record {
          from = omega arith;
          to = omega arith;
          is = same ∙ ap (λ (n : ℕ). sector_at (with_sector old at bytes) n) here ∙ get_or-set_same old at bytes [] lt
              ∙ ap (λ (n : ℕ). sector_at (bytes ∷ row) n) (let none : 0 ≡ k - at = omega arith in none);
        }))
        (λ (le : length old ≤ at).
        inl (same ∙ get_or_past (with_sector old at bytes) k [] (omega (arith, length-set old at bytes))
        ∙ sym (get_or_past old k [] (omega arith))))
        (cases_lt at (length old))

    each : (k : ℕ) → (sector_at new k ≡ sector_at old k) ⊎ StandsInRow at (bytes ∷ row) k (sector_at new k)
    each k =
        ⊎_elim
        (λ (same : sector_at new k ≡ sector_at (with_sector old at bytes) k).
        ⊎_elim
        (λ (here : k ≡ at). first k here same)
        (λ (other : k ≡ at → ⊥). inl (same ∙ get_or-set_other old at k bytes [] other))
        (cases_eq k at))
        (λ (stands : StandsInRow (at + 1) row k (sector_at new k)).
        inr (record {
          from = omega (arith, stands.from);
          to = omega (arith, stands.to);
          is = stands.is ∙ ap (λ (n : ℕ). sector_at (bytes ∷ row) n)
              (let next : suc (k - (at + 1)) ≡ k - at = omega (arith, stands.from) in next);
        }))
        (may.each k)

-- writing all sectors of the row
pub with_row_is : (image : Image) (at : ℕ) (row : List Sector) → MayHaveRow at row image (with_row image at row)
with_row_is image at [] = record { sectors = refl; each = λ k. inl refl }
with_row_is image at (bytes ∷ row) =
    row_cons at bytes row image (with_row (with_sector image at bytes) (at + 1) row)
    (with_row_is (with_sector image at bytes) (at + 1) row)

pub moment_now : (base split reached now clock : ℕ) → split ≤ reached → reached ≤ clock
    → file_moment base split reached now (min clock reached) ≡ now
moment_now base split reached now clock in_order le =
    sym (cond_above (min clock reached) split (min (min clock reached) base) (now - (reached - min clock reached)) now
    (omega arith) (omega arith))

pub whole_none : IsWholeRow []
whole_none = record { each = λ k lt. absurd (omega arith) }

pub whole_take : (count : ℕ) (row : List Sector) → IsWholeRow row → IsWholeRow (take count row)
whole_take count row whole = record {
  each = λ k lt.
      ap length (get_or-take count row k [] (omega (arith, length-take count row)))
      ∙ whole.each k (omega (arith, length-take count row));
}

pub whole_rows : (base split : ℕ) (kept active : List Sector) → IsWholeRow kept → IsWholeRow active → (at : ℕ)
    → IsWholeRow (row_at base split kept active at)
whole_rows base split kept active whole whole_active at =
    by_test (nat_lt at split)
  where
    by_test : (test : Bool) → IsWholeRow (cond test (take (at - base) kept) active)
    by_test true = whole_take (at - base) kept whole
    by_test false = whole_active

pub whole_active : (from : Option ℕ) (kept : List Sector) → IsWholeRow kept → IsWholeRow (active_row from kept)
whole_active None kept whole = whole
whole_active (Some from) kept whole = whole_none
