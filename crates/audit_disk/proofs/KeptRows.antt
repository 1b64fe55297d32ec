-- Images in which some sectors of a row may be written.
use Rattle.std.proofs.Common.{inl, inr, ⊎_elim, ◌≡◌, ◌≢◌, ◌⊎◌, ℕ, suc, ◌+◌, ◌-◌, ◌*◌, ◌<◌, ◌≤◌, List, [], ◌∷◌, ◌++◌, length, take, drop, refl, sym, ◌∙◌, ap, subst, arith}
use Rattle.std.proofs.lemmas.List.{ext_get_or, length-append, length-set, length-take, length-drop, get_or-set_same, get_or-set_other, get_or_past, get_or-take, get_or-drop, get_or_append_left, get_or-append_right, get_or_push, take-set-le, length-take-le, take_at}
use Rattle.std.proofs.Math.Seq.{take-set-lt}
use Rattle.std.proofs.lemmas.Bool.{cases_eq, cases_lt}
use Rattle.audit_disk_model.specs.Image.{Sector, Image, sector_at, with_sector}
use Rattle.audit_disk.specs.File.{overlaid, overlaid_row, sectors_of, SomeWritten}
use Rattle.audit_disk.specs.RowLaws.{row_cons}
use Rattle.audit_disk.specs.Rows.{with_row, StandsInRow, IsWholeRow, MayHaveRow}
use Rattle.audit_disk.proofs.FileSectors.{length-overlaid, sectors_of-overlaid}
use Rattle.audit_base.specs.declared.limits.TheConstants.{SECTOR_SIZE}

-- no sector is written
pub row_same : (at : ℕ) (row : List Sector) (image : Image) → MayHaveRow at row image image
row_same at row image = record { sectors = refl; each = λ k. inl refl }

-- an empty row changes nothing
pub row_nothing : (at : ℕ) (old new : Image) → MayHaveRow at [] old new → new ≡ old
row_nothing at old new may =
    ext_get_or [] new old may.sectors
    (λ k lt.
    ⊎_elim
    (λ (same : sector_at new k ≡ sector_at old k). same)
    (λ (stands : StandsInRow at [] k (sector_at new k)). absurd (omega (arith, stands.from, stands.to)))
    (may.each k))

pub nothing_row : (at : ℕ) (old new : Image) → new ≡ old → MayHaveRow at [] old new
nothing_row at old new same = subst (λ (image : Image). MayHaveRow at [] old image) (sym same) (row_same at [] old)

-- the same row twice
pub row_trans : (at : ℕ) (row : List Sector) (first second third : Image) → MayHaveRow at row first second → MayHaveRow at row second third → MayHaveRow at row first third
row_trans at row first second third one two = record {
  sectors = two.sectors ∙ one.sectors;
  each = λ k.
      ⊎_elim
      (λ (same : sector_at third k ≡ sector_at second k).
      ⊎_elim
      (λ (old : sector_at second k ≡ sector_at first k). inl (same ∙ old))
      (λ (stands : StandsInRow at row k (sector_at second k)). inr (record { from = stands.from; to = stands.to; is = same ∙ stands.is }))
      (one.each k))
      (λ (stands : StandsInRow at row k (sector_at third k)). inr stands)
      (two.each k);
}

-- one more sector, which isn't written
pub row_push_old : (at : ℕ) (row : List Sector) (bytes : Sector) (old new : Image) → MayHaveRow at row old new → MayHaveRow at (row ++ bytes ∷ []) old new
row_push_old at row bytes old new may = record {
  sectors = may.sectors;
  each = λ k.
      ⊎_elim
      (λ (same : sector_at new k ≡ sector_at old k). inl same)
      (λ (stands : StandsInRow at row k (sector_at new k)).
      inr (record {
        from = stands.from;
        to = omega (arith, stands.to, length-append row (bytes ∷ []));
        is = stands.is ∙ sym (get_or_append_left row (bytes ∷ []) [] (k - at) (omega (arith, stands.from, stands.to)));
      }))
      (may.each k);
}

-- one more sector, which is written
pub row_push_new : (at : ℕ) (row : List Sector) (bytes : Sector) (old new : Image) (next : ℕ) → next ≡ at + length row → MayHaveRow at row old new → MayHaveRow at (row ++ bytes ∷ []) old (with_sector new next bytes)
row_push_new at row bytes old new next here may = record { sectors = length-set new next bytes ∙ may.sectors; each = each }
  where
    before : MayHaveRow at (row ++ bytes ∷ []) old new
    before = row_push_old at row bytes old new may

    at_last : (k : ℕ) → k ≡ next → (sector_at (with_sector new next bytes) k ≡ sector_at old k) ⊎ StandsInRow at (row ++ bytes ∷ []) k (sector_at (with_sector new next bytes) k)
    at_last k last =
        ⊎_elim
        (λ (lt : next < length new).
        inr (record {
          from = omega (arith, here, last);
          to = omega (arith, here, last, length-append row (bytes ∷ []));
          is = ap (λ (n : ℕ). sector_at (with_sector new next bytes) n) last ∙ get_or-set_same new next bytes [] lt ∙ sym (get_or_push row bytes [] (k - at) (omega (arith, here, last)));
        }))
        (λ (le : length new ≤ next).
        inl (get_or_past (with_sector new next bytes) k [] (omega (arith, length-set new next bytes, last)) ∙ sym (get_or_past old k [] (omega (arith, may.sectors, last)))))
        (cases_lt next (length new))

    each : (k : ℕ) → (sector_at (with_sector new next bytes) k ≡ sector_at old k) ⊎ StandsInRow at (row ++ bytes ∷ []) k (sector_at (with_sector new next bytes) k)
    each k =
        ⊎_elim
        (λ (last : k ≡ next). at_last k last)
        (λ (other : k ≡ next → ⊥).
        let same = get_or-set_other new next k bytes [] other in
        ⊎_elim
        (λ (old_one : sector_at new k ≡ sector_at old k). inl (same ∙ old_one))
        (λ (stands : StandsInRow at (row ++ bytes ∷ []) k (sector_at new k)). inr (record { from = stands.from; to = stands.to; is = same ∙ stands.is }))
        (before.each k))
        (cases_eq k next)

-- the last sector is written or not
pub row_pop : (at : ℕ) (row : List Sector) (bytes : Sector) (old new : Image) (next : ℕ) → next ≡ at + length row → MayHaveRow at (row ++ bytes ∷ []) old new
    → MayHaveRow at row old new ⊎ ((before : Image) × MayHaveRow at row old before × (new ≡ with_sector before next bytes))
row_pop at row bytes old new next here may =
    ⊎_elim
    (λ (same : sector_at new next ≡ sector_at old next). inl (without same))
    (λ (stands : StandsInRow at (row ++ bytes ∷ []) next (sector_at new next)). inr ((with_sector new next (sector_at old next)), before, again stands))
    (may.each next)
  where
    earlier : (k : ℕ) → k ≢ next → (sector_at new k ≡ sector_at old k) ⊎ StandsInRow at row k (sector_at new k)
    earlier k other =
        ⊎_elim
        (λ (same : sector_at new k ≡ sector_at old k). inl same)
        (λ (stands : StandsInRow at (row ++ bytes ∷ []) k (sector_at new k)).
        let less : k < at + length row = omega (arith, stands.to, length-append row (bytes ∷ []), here, other) in
        inr (record { from = stands.from; to = less; is = stands.is ∙ get_or_append_left row (bytes ∷ []) [] (k - at) (omega (arith, stands.from, less)) }))
        (may.each k)

    without : sector_at new next ≡ sector_at old next → MayHaveRow at row old new
    without same = record {
      sectors = may.sectors;
      each = λ k.
          ⊎_elim
          (λ (last : k ≡ next). inl (ap (λ (n : ℕ). sector_at new n) last ∙ same ∙ ap (λ (n : ℕ). sector_at old n) (sym last)))
          (λ (other : k ≡ next → ⊥). earlier k other)
          (cases_eq k next);
    }

    at_next : (k : ℕ) → k ≡ next → sector_at (with_sector new next (sector_at old next)) k ≡ sector_at old k
    at_next k last =
        ⊎_elim
        (λ (lt : next < length new). ap (λ (n : ℕ). sector_at (with_sector new next (sector_at old next)) n) last ∙ get_or-set_same new next (sector_at old next) [] lt ∙ ap (λ (n : ℕ). sector_at old n) (sym last))
        (λ (le : length new ≤ next).
        get_or_past (with_sector new next (sector_at old next)) k [] (omega (arith, length-set new next (sector_at old next), last)) ∙ sym (get_or_past old k [] (omega (arith, may.sectors, last))))
        (cases_lt next (length new))

    before : MayHaveRow at row old (with_sector new next (sector_at old next))
    before = record {
      sectors = length-set new next (sector_at old next) ∙ may.sectors;
      each = λ k.
          ⊎_elim
          (λ (last : k ≡ next). inl (at_next k last))
          (λ (other : k ≡ next → ⊥).
          let same = get_or-set_other new next k (sector_at old next) [] other in
          ⊎_elim
          (λ (old_one : sector_at new k ≡ sector_at old k). inl (same ∙ old_one))
          (λ (stands : StandsInRow at row k (sector_at new k)). inr (record { from = stands.from; to = stands.to; is = same ∙ stands.is }))
          (earlier k other))
          (cases_eq k next);
    }

    again : StandsInRow at (row ++ bytes ∷ []) next (sector_at new next) → new ≡ with_sector (with_sector new next (sector_at old next)) next bytes
    again stands =
        ext_get_or [] new (with_sector (with_sector new next (sector_at old next)) next bytes) (sym (length-set (with_sector new next (sector_at old next)) next bytes ∙ length-set new next (sector_at old next)))
        (λ k lt.
        ⊎_elim
        (λ (last : k ≡ next).
        ap (λ (n : ℕ). sector_at new n) last ∙ stands.is ∙ get_or_push row bytes [] (next - at) (omega (arith, here))
        ∙ sym (ap (λ (n : ℕ). sector_at (with_sector (with_sector new next (sector_at old next)) next bytes) n) last ∙ get_or-set_same (with_sector new next (sector_at old next)) next bytes [] (omega (arith, length-set new next (sector_at old next), last, lt))))
        (λ (other : k ≡ next → ⊥).
        sym (get_or-set_other (with_sector new next (sector_at old next)) next k bytes [] other ∙ get_or-set_other new next k (sector_at old next) [] other))
        (cases_eq k next))

-- one more sector
pub with_row-push : (image : Image) (at : ℕ) (row : List Sector) (bytes : Sector) (next : ℕ) → next ≡ at + length row → with_row image at (row ++ bytes ∷ []) ≡ with_sector (with_row image at row) next bytes
with_row-push image at [] bytes next here = let there : at ≡ next = omega arith in ap (λ (n : ℕ). with_sector image n bytes) there
with_row-push image at (first ∷ row) bytes next here = with_row-push (with_sector image at first) (at + 1) row bytes next (omega arith)

-- writing the whole row makes irrelevant which of its sectors were written before
pub with_row-over : (at : ℕ) (row : List Sector) (old new : Image) → MayHaveRow at row old new → with_row new at row ≡ with_row old at row
with_row-over at [] old new may = row_nothing at old new may
with_row-over at (bytes ∷ row) old new may = with_row-over (at + 1) row (with_sector old at bytes) (with_sector new at bytes) (record { sectors = length-set new at bytes ∙ may.sectors ∙ sym (length-set old at bytes); each = each })
  where
    at_first : (k : ℕ) → k ≡ at → sector_at (with_sector new at bytes) k ≡ sector_at (with_sector old at bytes) k
    at_first k here =
        ⊎_elim
        (λ (lt : at < length new).
        ap (λ (n : ℕ). sector_at (with_sector new at bytes) n) here ∙ get_or-set_same new at bytes [] lt ∙ sym (ap (λ (n : ℕ). sector_at (with_sector old at bytes) n) here ∙ get_or-set_same old at bytes [] (omega (arith, may.sectors))))
        (λ (le : length new ≤ at).
        get_or_past (with_sector new at bytes) k [] (omega (arith, length-set new at bytes, here)) ∙ sym (get_or_past (with_sector old at bytes) k [] (omega (arith, length-set old at bytes, may.sectors, here))))
        (cases_lt at (length new))

    each : (k : ℕ) → (sector_at (with_sector new at bytes) k ≡ sector_at (with_sector old at bytes) k) ⊎ StandsInRow (at + 1) row k (sector_at (with_sector new at bytes) k)
    each k =
        ⊎_elim
        (λ (here : k ≡ at). inl (at_first k here))
        (λ (other : k ≡ at → ⊥).
        let now = get_or-set_other new at k bytes [] other in
        let was = get_or-set_other old at k bytes [] other in
        ⊎_elim
        (λ (same : sector_at new k ≡ sector_at old k). inl (now ∙ same ∙ sym was))
        (λ (stands : StandsInRow at (bytes ∷ row) k (sector_at new k)).
        let after : at + 1 ≤ k = omega (arith, stands.from, other) in
        let next : k - at ≡ suc (k - (at + 1)) = omega arith in
        inr (record { from = after; to = omega (arith, stands.to); is = now ∙ stands.is ∙ ap (λ (n : ℕ). sector_at (bytes ∷ row) n) next }))
        (may.each k))
        (cases_eq k at)

-- a sector outside the row
pub with_row-other : (image : Image) (at : ℕ) (row : List Sector) (k : ℕ) → (k < at) ⊎ (at + length row ≤ k) → sector_at (with_row image at row) k ≡ sector_at image k
with_row-other image at [] k apart = refl
with_row-other image at (bytes ∷ row) k apart =
    let other : k ≢ at = ⊎_elim (λ (less : k < at). let ne : k ≢ at = omega arith in ne) (λ (le : at + suc (length row) ≤ k). let ne : k ≢ at = omega arith in ne) apart in
    with_row-other (with_sector image at bytes) (at + 1) row k
    (⊎_elim (λ (less : k < at). inl (omega arith)) (λ (le : at + suc (length row) ≤ k). inr (omega arith)) apart)
    ∙ get_or-set_other image at k bytes [] other

-- the first sector is written or not
pub row_skip : (at : ℕ) (bytes : Sector) (row : List Sector) (old new : Image) → MayHaveRow (at + 1) row old new → MayHaveRow at (bytes ∷ row) old new
row_skip at bytes row old new may = record {
  sectors = may.sectors;
  each = λ k.
      ⊎_elim
      (λ (same : sector_at new k ≡ sector_at old k). inl same)
      (λ (stands : StandsInRow (at + 1) row k (sector_at new k)).
      let next : suc (k - (at + 1)) ≡ k - at = omega (arith, stands.from) in
      inr (record { from = omega (arith, stands.from); to = omega (arith, stands.to); is = stands.is ∙ ap (λ (n : ℕ). sector_at (bytes ∷ row) n) next }))
      (may.each k);
}

pub row_uncons : (at : ℕ) (bytes : Sector) (row : List Sector) (old new : Image) → MayHaveRow at (bytes ∷ row) old new → MayHaveRow (at + 1) row old new ⊎ MayHaveRow (at + 1) row (with_sector old at bytes) new
row_uncons at bytes row old new may =
    ⊎_elim
    (λ (same : sector_at new at ≡ sector_at old at). inl (record {
      sectors = may.sectors;
      each = λ k.
          ⊎_elim
          (λ (here : k ≡ at). inl (ap (λ (n : ℕ). sector_at new n) here ∙ same ∙ ap (λ (n : ℕ). sector_at old n) (sym here)))
          (λ (other : k ≡ at → ⊥). later k other (may.each k))
          (cases_eq k at);
    }))
    (λ (stands : StandsInRow at (bytes ∷ row) at (sector_at new at)). inr (record {
      sectors = may.sectors ∙ sym (length-set old at bytes);
      each = λ k.
          ⊎_elim
          (λ (here : k ≡ at). inl (first stands k here))
          (λ (other : k ≡ at → ⊥).
          ⊎_elim
          (λ (old_one : sector_at new k ≡ sector_at old k). inl (old_one ∙ sym (get_or-set_other old at k bytes [] other)))
          (λ (still : StandsInRow (at + 1) row k (sector_at new k)). inr still)
          (later k other (may.each k)))
          (cases_eq k at);
    }))
    (may.each at)
  where
    later : (k : ℕ) → k ≢ at → (sector_at new k ≡ sector_at old k) ⊎ StandsInRow at (bytes ∷ row) k (sector_at new k) → (sector_at new k ≡ sector_at old k) ⊎ StandsInRow (at + 1) row k (sector_at new k)
    later k other either =
        ⊎_elim
        (λ (same : sector_at new k ≡ sector_at old k). inl same)
        (λ (stands : StandsInRow at (bytes ∷ row) k (sector_at new k)).
        let after : at + 1 ≤ k = omega (arith, stands.from, other) in
        let next : k - at ≡ suc (k - (at + 1)) = omega arith in
        inr (record { from = after; to = omega (arith, stands.to); is = stands.is ∙ ap (λ (n : ℕ). sector_at (bytes ∷ row) n) next }))
        either

    first : StandsInRow at (bytes ∷ row) at (sector_at new at) → (k : ℕ) → k ≡ at → sector_at new k ≡ sector_at (with_sector old at bytes) k
    first stands k here =
        let none : at - at ≡ 0 = omega arith in
        ⊎_elim
        (λ (lt : at < length old).
        ap (λ (n : ℕ). sector_at new n) here ∙ stands.is ∙ ap (λ (n : ℕ). sector_at (bytes ∷ row) n) none ∙ sym (ap (λ (n : ℕ). sector_at (with_sector old at bytes) n) here ∙ get_or-set_same old at bytes [] lt))
        (λ (le : length old ≤ at).
        get_or_past new k [] (omega (arith, may.sectors, here)) ∙ sym (get_or_past (with_sector old at bytes) k [] (omega (arith, length-set old at bytes, here))))
        (cases_lt at (length old))

whole_tail : (bytes : Sector) (row : List Sector) → IsWholeRow (bytes ∷ row) → IsWholeRow row
whole_tail bytes row whole = record { each = λ k lt. whole.each (suc k) (omega arith) }

-- sectors written to a file are written to its image
pub row_of_some : (count at offset : ℕ) (row : List Sector) (file new : List ℕ) → offset ≡ SECTOR_SIZE * at → SECTOR_SIZE * count ≤ length file → SECTOR_SIZE * (at + length row) ≤ length file → IsWholeRow row
    → SomeWritten file offset row new → MayHaveRow at row (sectors_of count file) (sectors_of count new)
row_of_some count at offset [] file new here long within whole some = nothing_row at (sectors_of count file) (sectors_of count new) (ap (λ (f : List ℕ). sectors_of count f) some)
row_of_some count at offset (bytes ∷ row) file new here long within whole some =
    let size : length bytes ≡ SECTOR_SIZE = whole.each 0 (omega arith) in
    let over = overlaid file offset bytes in
    let same : length over ≡ length file = length-overlaid file offset bytes (omega arith) in
    ⊎_elim
    (λ (old : SomeWritten file (offset + SECTOR_SIZE) row new).
    row_skip at bytes row (sectors_of count file) (sectors_of count new)
    (row_of_some count (at + 1) (offset + SECTOR_SIZE) row file new (omega arith) long (omega arith) (whole_tail bytes row whole) old))
    (λ (next : SomeWritten (overlaid file offset bytes) (offset + SECTOR_SIZE) row new).
    row_cons at bytes row (sectors_of count file) (sectors_of count new)
    (subst (λ (image : Image). MayHaveRow (at + 1) row image (sectors_of count new))
    (ap (λ (n : ℕ). sectors_of count (overlaid file n bytes)) here ∙ sectors_of-overlaid count at file bytes long (omega arith) size)
    (row_of_some count (at + 1) (offset + SECTOR_SIZE) row (overlaid file offset bytes) new (omega arith) (omega (arith, same)) (omega (arith, same)) (whole_tail bytes row whole) next)))
    some

-- sectors written to the image of a file are written to the file
pub some_of_row : (count at offset : ℕ) (row : List Sector) (file : List ℕ) (image : Image) → offset ≡ SECTOR_SIZE * at → SECTOR_SIZE * count ≤ length file → SECTOR_SIZE * (at + length row) ≤ length file → IsWholeRow row
    → MayHaveRow at row (sectors_of count file) image → (new : List ℕ) × SomeWritten file offset row new × (image ≡ sectors_of count new)
some_of_row count at offset [] file image here long within whole may = (file, refl, row_nothing at (sectors_of count file) image may)
some_of_row count at offset (bytes ∷ row) file image here long within whole may =
    let size : length bytes ≡ SECTOR_SIZE = whole.each 0 (omega arith) in
    let over = overlaid file offset bytes in
    let same : length over ≡ length file = length-overlaid file offset bytes (omega arith) in
    ⊎_elim
    (λ (old : MayHaveRow (at + 1) row (sectors_of count file) image).
    let rest = some_of_row count (at + 1) (offset + SECTOR_SIZE) row file image (omega arith) long (omega arith) (whole_tail bytes row whole) old in (rest.0, inl rest.1, rest.2))
    (λ (next : MayHaveRow (at + 1) row (with_sector (sectors_of count file) at bytes) image).
    let rest = some_of_row count (at + 1) (offset + SECTOR_SIZE) row (overlaid file offset bytes) image (omega arith) (omega (arith, same)) (omega (arith, same)) (whole_tail bytes row whole)
    (subst (λ (i : Image). MayHaveRow (at + 1) row i image) (sym (ap (λ (n : ℕ). sectors_of count (overlaid file n bytes)) here ∙ sectors_of-overlaid count at file bytes long (omega arith) size)) next) in
    (rest.0, inr rest.1, rest.2))
    (row_uncons at bytes row (sectors_of count file) image may)

pub sectors_of-overlaid_row : (count at offset : ℕ) (row : List Sector) (file : List ℕ) → offset ≡ SECTOR_SIZE * at → SECTOR_SIZE * count ≤ length file → SECTOR_SIZE * (at + length row) ≤ length file → IsWholeRow row
    → sectors_of count (overlaid_row file offset row) ≡ with_row (sectors_of count file) at row
sectors_of-overlaid_row count at offset [] file here long within whole = refl
sectors_of-overlaid_row count at offset (bytes ∷ row) file here long within whole =
    let size : length bytes ≡ SECTOR_SIZE = whole.each 0 (omega arith) in
    let over = overlaid file offset bytes in
    let same : length over ≡ length file = length-overlaid file offset bytes (omega arith) in
    sectors_of-overlaid_row count (at + 1) (offset + SECTOR_SIZE) row (overlaid file offset bytes) (omega arith) (omega (arith, same)) (omega (arith, same)) (whole_tail bytes row whole)
    ∙ ap (λ (image : Image). with_row image (at + 1) row) (ap (λ (n : ℕ). sectors_of count (overlaid file n bytes)) here ∙ sectors_of-overlaid count at file bytes long (omega arith) size)

-- the first sectors
pub take-with_row : (count : ℕ) (image : Image) (at : ℕ) (row : List Sector) → take count (with_row image at row) ≡ with_row (take count image) at row
take-with_row count image at [] = refl
take-with_row count image at (bytes ∷ row) = take-with_row count (with_sector image at bytes) (at + 1) row ∙ ap (λ (i : Image). with_row i (at + 1) row) (taken (cases_lt at count))
  where
    unchanged : (front : Image) → length front ≤ at → with_sector front at bytes ≡ front
    unchanged front le = ext_get_or [] (with_sector front at bytes) front (length-set front at bytes) (λ k lt. let ne : k ≢ at = omega (arith, lt, length-set front at bytes) in get_or-set_other front at k bytes [] ne)

    taken : (at < count) ⊎ (count ≤ at) → take count (with_sector image at bytes) ≡ with_sector (take count image) at bytes
    taken either =
        ⊎_elim
        (λ (lt : at < count). take-set-lt count image at bytes lt)
        (λ (le : count ≤ at). take-set-le count image at bytes le ∙ sym (unchanged (take count image) (omega (arith, length-take count image))))
        either

pub row_front : (count at : ℕ) (row : List Sector) (old new : Image) → MayHaveRow at row old new → MayHaveRow at row (take count old) (take count new)
row_front count at row old new may = record {
  sectors = omega (arith, length-take count new, length-take count old, may.sectors);
  each = λ k.
      ⊎_elim
      (λ (lt : k < count).
      let now = get_or-take count new k [] lt in
      ⊎_elim
      (λ (same : sector_at new k ≡ sector_at old k). inl (now ∙ same ∙ sym (get_or-take count old k [] lt)))
      (λ (stands : StandsInRow at row k (sector_at new k)). inr (record { from = stands.from; to = stands.to; is = now ∙ stands.is }))
      (may.each k))
      (λ (le : count ≤ k). inl (get_or_past (take count new) k [] (omega (arith, length-take count new)) ∙ sym (get_or_past (take count old) k [] (omega (arith, length-take count old)))))
      (cases_lt k count);
}

pub row_back : (count at : ℕ) (row : List Sector) (old image : Image) → count ≤ length old → MayHaveRow at row (take count old) image → (full : Image) × MayHaveRow at row old full × (image ≡ take count full)
row_back count at row old image le may =
    (image ++ drop count old, record { sectors = omega (arith, length-append image (drop count old), length-drop count old, long); each = each }, sym (take_at image (drop count old) count long))
  where
    long : length image ≡ count
    long = may.sectors ∙ length-take-le count old le

    each : (k : ℕ) → (sector_at (image ++ drop count old) k ≡ sector_at old k) ⊎ StandsInRow at row k (sector_at (image ++ drop count old) k)
    each k =
        ⊎_elim
        (λ (lt : k < count).
        let now = get_or_append_left image (drop count old) [] k (omega (arith, long)) in
        ⊎_elim
        (λ (same : sector_at image k ≡ sector_at (take count old) k). inl (now ∙ same ∙ get_or-take count old k [] lt))
        (λ (stands : StandsInRow at row k (sector_at image k)). inr (record { from = stands.from; to = stands.to; is = now ∙ stands.is }))
        (may.each k))
        (λ (past : count ≤ k).
        let there : count + (k - count) ≡ k = omega arith in
        inl (get_or-append_right image (drop count old) count k [] long past ∙ get_or-drop count old (k - count) [] ∙ ap (λ (n : ℕ). sector_at old n) there))
        (cases_lt k count)
