-- Calls of a file at offsets, with a separate count of failures, have the effects of calls of a file of sectors.
use Rattle.std.proofs.Common.{◌≡◌, ℕ, ◌+◌, ◌*◌, ◌≤◌, Ok, Err, Result, OnOk, List, [], ◌∷◌, length, slice_index_or, take, drop, sym, ◌∙◌, ap, subst, arith}
use Rattle.std.proofs.lemmas.Bool.{false≢true}
use Rattle.audit_disk_model.specs.Image.{Sector, Image}
use Rattle.audit_disk_model.specs.View.{View}
use Rattle.audit_disk_model.specs.Calls.{CountsFailure}
use Rattle.audit_disk.specs.File.{FileView, sectors_of, FileContinues, OnlyFileReads, IsFileRead, IsRowRead, IsRowWrite, IsFileSync}
use Rattle.audit_disk.specs.Positioned.{AnswersAlike}
use Rattle.audit_disk.specs.Positioned.{FailsAsCalled, PositionedView, counted_file, uncounted, ShowsFront, IsPositionedRead, IsPositionedWrite, IsPositionedSync}
use Rattle.audit_base.specs.declared.limits.TheConstants.{SECTOR_SIZE}

alike_counts : {E D : Type 0} (failures failures' : ℕ) (outcome : Result (Unit {0}) E) (result : Result (Unit {0}) D) → AnswersAlike outcome result → CountsFailure failures failures' outcome
    → CountsFailure failures failures' result
alike_counts failures failures' (Ok done) (Ok too) alike counts = counts
alike_counts failures failures' (Ok done) (Err fault) alike counts = absurd (false≢true alike)
alike_counts failures failures' (Err fault) (Ok done) alike counts = absurd (false≢true alike)
alike_counts failures failures' (Err fault) (Err too) alike counts = counts

goes_on_recounted : {old new : FileView} (failures failures' : ℕ) → FileContinues old new → FileContinues (counted_file (uncounted old) failures) (counted_file (uncounted new) failures')
goes_on_recounted failures failures' goes_on = record { honest = goes_on.honest; was_honest = goes_on.was_honest; kept = goes_on.kept; no_other = goes_on.no_other }

-- the same call beside another count, and its outcome without the cause or with another one
module _ {E D : Type 0} {old new : FileView} (failures failures' : ℕ) where
  row_recounted : {offset count : ℕ} {sectors : Image} (outcome : Result (Unit {0}) E) (result : Result (Unit {0}) D) → AnswersAlike outcome result → CountsFailure failures failures' result
      → IsRowRead old new offset count sectors outcome → IsRowRead (counted_file (uncounted old) failures) (counted_file (uncounted new) failures') offset count sectors result
  row_recounted (Ok done) (Err fault) alike counts is = absurd (false≢true alike)
  row_recounted (Err fault) (Ok done) alike counts is = absurd (false≢true alike)
  row_recounted (Ok done) (Ok too) alike counts is = record {
    only = record { goes_on = goes_on_recounted failures failures' is.only.goes_on; failures = omega (arith, counts); moment = is.only.moment; same = is.only.same };
    failures = counts;
    row = record { given = is.row.given; found = is.row.found };
    still_given = is.still_given;
  }
  row_recounted (Err fault) (Err too) alike counts is = record {
    only = record { goes_on = goes_on_recounted failures failures' is.only.goes_on; failures = omega (arith, counts); moment = is.only.moment; same = is.only.same };
    failures = counts;
    row = tt;
    still_given = is.still_given;
  }

  write_recounted : {offset : ℕ} {row : List Sector} (outcome : Result (Unit {0}) E) (result : Result (Unit {0}) D) → AnswersAlike outcome result → CountsFailure failures failures' result
      → IsRowWrite old new offset row outcome → IsRowWrite (counted_file (uncounted old) failures) (counted_file (uncounted new) failures') offset row result
  write_recounted (Ok done) (Err fault) alike counts is = absurd (false≢true alike)
  write_recounted (Err fault) (Ok done) alike counts is = absurd (false≢true alike)
  write_recounted (Ok done) (Ok too) alike counts is = record {
    goes_on = goes_on_recounted failures failures' is.goes_on;
    failures = counts;
    still_given = is.still_given;
    moment = is.moment;
    later = is.later;
    stands = is.stands;
    stands_err = is.stands_err;
    images = is.images;
    unwritten = is.unwritten;
    pending = is.pending;
    written = is.written;
    no_other = is.no_other;
  }
  write_recounted (Err fault) (Err too) alike counts is = record {
    goes_on = goes_on_recounted failures failures' is.goes_on;
    failures = counts;
    still_given = is.still_given;
    moment = is.moment;
    later = is.later;
    stands = is.stands;
    stands_err = is.stands_err;
    images = is.images;
    unwritten = is.unwritten;
    pending = is.pending;
    written = is.written;
    no_other = is.no_other;
  }

  sync_recounted : (outcome : Result (Unit {0}) E) (result : Result (Unit {0}) D) → AnswersAlike outcome result → CountsFailure failures failures' result → IsFileSync old new outcome
      → IsFileSync (counted_file (uncounted old) failures) (counted_file (uncounted new) failures') result
  sync_recounted (Ok done) (Err fault) alike counts is = absurd (false≢true alike)
  sync_recounted (Err fault) (Ok done) alike counts is = absurd (false≢true alike)
  sync_recounted (Ok done) (Ok too) alike counts is = record {
    goes_on = goes_on_recounted failures failures' is.goes_on;
    failures = counts;
    still_given = is.still_given;
    moment = is.moment;
    same = is.same;
    only = is.only;
    no_other = is.no_other;
    kept = is.kept;
  }
  sync_recounted (Err fault) (Err too) alike counts is = record {
    goes_on = goes_on_recounted failures failures' is.goes_on;
    failures = counts;
    still_given = is.still_given;
    moment = is.moment;
    same = is.same;
    only = is.only;
    no_other = is.no_other;
    kept = is.kept;
  }

-- calls of the file below that are counted here
module _ {E D : Type 0} {old new : PositionedView} {failures failures' : ℕ} (outcome : Result (Unit {0}) E) (result : Result (Unit {0}) D)
    (alike : AnswersAlike outcome result) (counts : CountsFailure failures failures' outcome) where
  pub row_counted : {offset count : ℕ} {sectors : Image} → IsPositionedRead old new offset count sectors outcome
      → IsRowRead (counted_file old failures) (counted_file new failures') offset count sectors result
  row_counted read = row_recounted failures failures' outcome result alike (alike_counts failures failures' outcome result alike counts) (read.counted failures failures' counts)

  pub write_counted : {offset : ℕ} {row : List Sector} → IsPositionedWrite old new offset row outcome → IsRowWrite (counted_file old failures) (counted_file new failures') offset row result
  write_counted write = write_recounted failures failures' outcome result alike (alike_counts failures failures' outcome result alike counts) (write.counted failures failures' counts)

  pub sync_counted : IsPositionedSync old new outcome → IsFileSync (counted_file old failures) (counted_file new failures') result
  sync_counted sync = sync_recounted failures failures' outcome result alike (alike_counts failures failures' outcome result alike counts) (sync.counted failures failures' counts)

-- a failure was counted for an error
counted_cause : {E D : Type 0} (old new : FileView) (outcome : Result (Unit {0}) E) (result : Result (Unit {0}) D) → AnswersAlike outcome result → CountsFailure old.failures new.failures outcome → FailsAsCalled (uncounted old) (uncounted new) result
counted_cause old new (Ok done) (Ok done') alike counts = record { fails = tt; last = tt; still = λ was. omega (arith, was, counts) }
counted_cause old new (Err fault) (Err fault') alike counts = record { fails = omega (arith, counts); last = omega (arith, counts); still = λ was. omega (arith, was, counts) }
counted_cause old new (Ok done) (Err fault) alike counts = absurd (false≢true alike)
counted_cause old new (Err fault) (Ok done) alike counts = absurd (false≢true alike)

-- calls of a file that counts, stated without its count
module _ {E D : Type 0} {old new : FileView} (outcome : Result (Unit {0}) E) (result : Result (Unit {0}) D) (alike : AnswersAlike outcome result) where
  fails_as_counted : CountsFailure old.failures new.failures outcome → FailsAsCalled (uncounted old) (uncounted new) result
  fails_as_counted counts = counted_cause old new outcome result alike counts

  pub row_uncounted : {offset count : ℕ} {sectors : Image} → IsRowRead old new offset count sectors outcome → IsPositionedRead (uncounted old) (uncounted new) offset count sectors result
  row_uncounted is = record { counted = λ failures failures' counts. row_recounted failures failures' outcome result alike counts is; cause = fails_as_counted is.failures }

  pub write_uncounted : {offset : ℕ} {row : List Sector} → IsRowWrite old new offset row outcome → IsPositionedWrite (uncounted old) (uncounted new) offset row result
  write_uncounted is = record { counted = λ failures failures' counts. write_recounted failures failures' outcome result alike counts is; cause = fails_as_counted is.failures }

  pub sync_uncounted : IsFileSync old new outcome → IsPositionedSync (uncounted old) (uncounted new) result
  sync_uncounted is = record { counted = λ failures failures' counts. sync_recounted failures failures' outcome result alike counts is; cause = fails_as_counted is.failures }

-- a row of one sector is that sector
pub row_of_one : {E : Type 0} {old new : FileView} {offset : ℕ} {into : Sector} (result : Result (Unit {0}) E) → IsRowRead old new offset 1 (into ∷ []) result → IsFileRead old new offset into result
row_of_one {E = E} {old = old} {new = new} {offset = offset} {into = into} result row = record {
  goes_on = row.only.goes_on;
  failures = row.failures;
  given = by_result result row;
  still_given = λ other bytes apart was. row.still_given other bytes (λ at lt same. apart (omega (arith, lt, same))) was;
  moment = row.only.moment;
  same = row.only.same;
  found = λ honest. found result row honest;
}
  where
    here : offset + SECTOR_SIZE * 0 ≡ offset
    here = omega arith

    by_result : (result : Result (Unit {0}) E) → IsRowRead old new offset 1 (into ∷ []) result → OnOk result (new.gave offset into)
    by_result (Ok done) row = subst (λ (there : ℕ). new.gave there into) here (row.row.given 0 (omega arith))
    by_result (Err fault) row = tt

    found : (result : Result (Unit {0}) E) → IsRowRead old new offset 1 (into ∷ []) result → old.honest → OnOk result (into ≡ take SECTOR_SIZE (drop offset old.bytes))
    found (Ok done) row honest =
        row.row.found (row.only.goes_on.honest honest) 0 (omega arith)
        ∙ ap (λ (there : ℕ). take SECTOR_SIZE (drop there new.bytes)) here
        ∙ ap (λ (file : List ℕ). take SECTOR_SIZE (drop offset file)) (row.only.same honest)
    found (Err fault) row honest = tt

-- the sectors of a row of one
pub one_of : {E : Type 0} {old new : PositionedView} {offset count : ℕ} {result : Result (Unit {0}) E} (into : Image) (before : Sector) → count ≡ 1 → length into ≡ count
    → IsPositionedRead old new offset count into result → IsPositionedRead old new offset 1 (slice_index_or into 0 before ∷ []) result
one_of [] before one long read = absurd (omega arith)
one_of {old = old} {new = new} {offset = offset} {result = result} (sector ∷ []) before one long read =
    subst (λ (n : ℕ). IsPositionedRead old new offset n (sector ∷ []) result) one read
one_of (sector ∷ other ∷ more) before one long read = absurd (omega arith)

-- a device over a file whose length alone was measured has the first sectors of the file as it was
module _ (file measured : PositionedView) (view : View) (count : ℕ) (only : OnlyFileReads (counted_file file 0) (counted_file measured 0))
    (size : view.size ≡ count) (content : view.content ≡ sectors_of count measured.bytes) where
  pub shows_front : (file.honest → SECTOR_SIZE * count ≤ length file.bytes) → (measured.honest → view.honest) → (view.honest → measured.honest)
      → (measured.honest → (bytes : List ℕ) → measured.left_at measured.moment bytes → view.left_at 0 (sectors_of count bytes))
      → ((image : Image) → view.left_at 0 image → measured.honest)
      → ((image : Image) → view.left_at 0 image → (bytes : List ℕ) × measured.left_at measured.moment bytes × (image ≡ sectors_of count bytes))
      → ShowsFront file view
  shows_front within honest was_honest left left_honest no_other = record {
    honest = λ before. honest (only.goes_on.honest before);
    was_honest = λ now. only.goes_on.was_honest (was_honest now);
    within = λ before. omega (arith, within before, size);
    content = λ before.
        content ∙ ap (λ (bytes : List ℕ). sectors_of count bytes) (only.same before) ∙ ap (λ (n : ℕ). sectors_of n file.bytes) (sym size);
    left = λ before bytes was.
        subst (λ (n : ℕ). view.left_at 0 (sectors_of n bytes)) (sym size)
        (left (only.goes_on.honest before) bytes
        (subst (λ (moment : ℕ). measured.left_at moment bytes) (sym (only.moment before)) (only.goes_on.kept before file.moment bytes (omega arith) was)));
    no_other = λ image now.
        let before = only.goes_on.was_honest (left_honest image now) in
        let other = no_other image now in (
          other.0,
          only.goes_on.no_other before file.moment other.0 (omega arith) (subst (λ (moment : ℕ). measured.left_at moment other.0) (only.moment before) other.1),
          other.2 ∙ ap (λ (n : ℕ). sectors_of n other.0) (sym size),
        );
  }
