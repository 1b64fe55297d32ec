-- Consecutive writes of a file.
use Rattle.std.proofs.Common.{inl, inr, ⊎_elim, ◌≡◌, ◌⊎◌, ℕ, zero, suc, ◌+◌, ◌*◌, ◌<◌, ◌≤◌, Ok, Err, Result, is_err, true, false, OnOk, OnErr, List, [], ◌∷◌, ◌++◌, length, take, refl, sym, ◌∙◌, ap, subst, arith}
use Rattle.std.proofs.lemmas.List.{length-append, take-append-le, take_all}
use Rattle.std.proofs.lemmas.Bool.{cases_lt, false≢true}
use Rattle.audit_disk_model.specs.Image.{Sector}
use Rattle.audit_disk_model.specs.View.{last_count}
use Rattle.audit_disk_model.specs.Calls.{CountsFailure, HasRisen}
use Rattle.audit_disk.specs.File.{FileView, FileContinues, KeepsOutside, overlaid, overlaid_row, SomeWritten, MayLeaveRow, IsSectorOffset, IsRowOffset, IsFileWrite, IsRowWrite}
use Rattle.audit_base.specs.declared.limits.TheConstants.{SECTOR_SIZE}

-- none of the sectors is written
pub some_none : (file : List ℕ) (offset : ℕ) (row : List Sector) → SomeWritten file offset row file
some_none file offset [] = refl
some_none file offset (bytes ∷ row) = inl (some_none file (offset + SECTOR_SIZE) row)

-- all of the sectors are written
pub some_all : (file : List ℕ) (offset : ℕ) (row : List Sector) → SomeWritten file offset row (overlaid_row file offset row)
some_all file offset [] = refl
some_all file offset (bytes ∷ row) = inr (some_all (overlaid file offset bytes) (offset + SECTOR_SIZE) row)

-- one more sector, which is written or not
pub some_push_old : (file : List ℕ) (offset : ℕ) (row : List Sector) (bytes : Sector) (new : List ℕ) → SomeWritten file offset row new → SomeWritten file offset (row ++ bytes ∷ []) new
some_push_old file offset [] bytes new some = inl some
some_push_old file offset (first ∷ row) bytes new some =
    ⊎_elim
    (λ (old : SomeWritten file (offset + SECTOR_SIZE) row new). inl (some_push_old file (offset + SECTOR_SIZE) row bytes new old))
    (λ (over : SomeWritten (overlaid file offset first) (offset + SECTOR_SIZE) row new). inr (some_push_old (overlaid file offset first) (offset + SECTOR_SIZE) row bytes new over))
    some

pub some_push_new : (file : List ℕ) (offset : ℕ) (row : List Sector) (bytes : Sector) (new : List ℕ) (next : ℕ) → next ≡ offset + SECTOR_SIZE * length row → SomeWritten file offset row new
    → SomeWritten file offset (row ++ bytes ∷ []) (overlaid new next bytes)
some_push_new file offset [] bytes new next here some =
    let there : next ≡ offset = omega arith in
    inr (ap (λ (n : ℕ). overlaid new n bytes) there ∙ ap (λ (f : List ℕ). overlaid f offset bytes) some)
some_push_new file offset (first ∷ row) bytes new next here some =
    ⊎_elim
    (λ (old : SomeWritten file (offset + SECTOR_SIZE) row new). inl (some_push_new file (offset + SECTOR_SIZE) row bytes new next (omega arith) old))
    (λ (over : SomeWritten (overlaid file offset first) (offset + SECTOR_SIZE) row new). inr (some_push_new (overlaid file offset first) (offset + SECTOR_SIZE) row bytes new next (omega arith) over))
    some

-- the last sector is written or not
pub some_pop : (file : List ℕ) (offset : ℕ) (row : List Sector) (bytes : Sector) (new : List ℕ) (next : ℕ) → next ≡ offset + SECTOR_SIZE * length row → SomeWritten file offset (row ++ bytes ∷ []) new
    → SomeWritten file offset row new ⊎ ((before : List ℕ) × SomeWritten file offset row before × (new ≡ overlaid before next bytes))
some_pop file offset [] bytes new next here some =
    let there : offset ≡ next = omega arith in
    ⊎_elim
    (λ (old : new ≡ file). inl old)
    (λ (over : new ≡ overlaid file offset bytes). inr (file, refl, over ∙ ap (λ (n : ℕ). overlaid file n bytes) there))
    some
some_pop file offset (first ∷ row) bytes new next here some =
    ⊎_elim
    (λ (old : SomeWritten file (offset + SECTOR_SIZE) (row ++ bytes ∷ []) new).
    ⊎_elim
    (λ (without : SomeWritten file (offset + SECTOR_SIZE) row new). inl (inl without))
    (λ (over : (before : List ℕ) × SomeWritten file (offset + SECTOR_SIZE) row before × (new ≡ overlaid before next bytes)). inr (over.0, inl over.1, over.2))
    (some_pop file (offset + SECTOR_SIZE) row bytes new next (omega arith) old))
    (λ (old : SomeWritten (overlaid file offset first) (offset + SECTOR_SIZE) (row ++ bytes ∷ []) new).
    ⊎_elim
    (λ (without : SomeWritten (overlaid file offset first) (offset + SECTOR_SIZE) row new). inl (inr without))
    (λ (over : (before : List ℕ) × SomeWritten (overlaid file offset first) (offset + SECTOR_SIZE) row before × (new ≡ overlaid before next bytes)). inr (over.0, inr over.1, over.2))
    (some_pop (overlaid file offset first) (offset + SECTOR_SIZE) row bytes new next (omega arith) old))
    some

pub overlaid_row-push : (file : List ℕ) (offset : ℕ) (row : List Sector) (bytes : Sector) (next : ℕ) → next ≡ offset + SECTOR_SIZE * length row
    → overlaid_row file offset (row ++ bytes ∷ []) ≡ overlaid (overlaid_row file offset row) next bytes
overlaid_row-push file offset [] bytes next here = let there : offset ≡ next = omega arith in ap (λ (n : ℕ). overlaid file n bytes) there
overlaid_row-push file offset (first ∷ row) bytes next here = overlaid_row-push (overlaid file offset first) (offset + SECTOR_SIZE) row bytes next (omega arith)

-- some calls, followed by others
pub goes_then : {old mid new : FileView} → FileContinues old mid → FileContinues mid new → (old.honest → old.moment ≤ mid.moment) → FileContinues old new
goes_then first next later = record {
  honest = λ honest. next.honest (first.honest honest);
  was_honest = λ honest. first.was_honest (next.was_honest honest);
  kept = λ honest at file le left. next.kept (first.honest honest) at file (omega (arith, later honest)) (first.kept honest at file le left);
  no_other = λ honest at file le left. first.no_other honest at file le (next.no_other (first.honest honest) at file (omega (arith, later honest)) left);
}

-- no sector
pub row_start : {E : Type 0} (file : FileView) (offset : ℕ) → IsRowWrite {E = E} file file offset [] (Ok tt)
row_start file offset = record {
  goes_on = record { honest = λ honest. honest; was_honest = λ honest. honest; kept = λ honest at bytes le left. left; no_other = λ honest at bytes le left. left };
  failures = refl;
  still_given = λ other bytes apart was. was;
  moment = λ honest room. omega arith;
  later = λ honest. omega arith;
  stands = λ honest. refl;
  stands_err = λ honest. tt;
  images = λ honest bytes left. (bytes, left, refl);
  unwritten = λ honest bytes left. left;
  pending = λ honest bytes may. subst (λ (f : List ℕ). file.left_at file.moment f) (sym may.2) may.1;
  written = λ honest room count bytes le may.
      let none : file.moment ≡ file.moment + count = omega arith in
      subst (λ (at : ℕ). file.left_at at bytes) none (subst (λ (f : List ℕ). file.left_at file.moment f) (sym (none_taken count may.0 bytes may.2)) may.1);
  no_other = λ honest room count bytes le left.
      let none : file.moment + count ≡ file.moment = omega arith in
      (bytes, subst (λ (at : ℕ). file.left_at at bytes) none left, some_none bytes offset (take count []));
}
  where
    none_taken : (count : ℕ) (before bytes : List ℕ) → SomeWritten before offset (take count []) bytes → bytes ≡ before
    none_taken zero before bytes some = some
    none_taken (suc count) before bytes some = some

module _ {E : Type 0} (old mid new : FileView) (offset next : ℕ) (row : List Sector) (bytes : Sector) (before : Result (Unit {0}) E) (first : IsRowWrite {E = E} old mid offset row before)
    (here : next ≡ offset + SECTOR_SIZE * length row) where
  long : length (row ++ bytes ∷ []) ≡ length row + 1
  long = length-append row (bytes ∷ [])

  whole : (count : ℕ) → count ≡ length row + 1 → take count (row ++ bytes ∷ []) ≡ row ++ bytes ∷ []
  whole count all = take_all count (row ++ bytes ∷ []) (omega (arith, long))

  -- what reads return afterwards
  mid_some : old.honest → SomeWritten old.bytes offset row mid.bytes
  mid_some honest = by_result before (first.stands honest) (first.stands_err honest)
    where
      by_result : (before : Result (Unit {0}) E) → OnOk before (mid.bytes ≡ overlaid_row old.bytes offset row) → OnErr before (SomeWritten old.bytes offset row mid.bytes) → SomeWritten old.bytes offset row mid.bytes
      by_result (Ok done) all some = subst (λ (f : List ℕ). SomeWritten old.bytes offset row f) (sym all) (some_all old.bytes offset row)
      by_result (Err fault) all some = some

  module _ {after : Result (Unit {0}) E} (write : IsFileWrite {E = E} mid new next bytes after) where
    goes : FileContinues old new
    goes = goes_then first.goes_on write.goes_on first.later

    given : KeepsOutside old new offset (length (row ++ bytes ∷ []))
    given = λ other some apart was.
        write.still_given other some (λ same. apart (length row) (omega (arith, long)) (same ∙ here)) (first.still_given other some (λ at less. apart at (omega (arith, less, long))) was)

    clock : old.honest → old.moment + length (row ++ bytes ∷ []) ≤ last_count → new.moment ≡ old.moment + length (row ++ bytes ∷ [])
    clock honest room =
        let so_far = first.moment honest (omega (arith, long)) in
        omega (arith, long, write.moment (first.goes_on.honest honest) (omega (arith, so_far, long)))

    left_images : old.honest → (file : List ℕ) → new.left_at new.moment file → MayLeaveRow old offset (row ++ bytes ∷ []) file
    left_images honest file left =
        ⊎_elim
        (λ (same : mid.left_at mid.moment file). let was = first.images honest file same in (was.0, was.1, some_push_old was.0 offset row bytes file was.2))
        (λ (over : (start : List ℕ) × mid.left_at mid.moment start × (file ≡ overlaid start next bytes)).
        let was = first.images honest over.0 over.1 in
        (was.0, was.1, subst (λ (f : List ℕ). SomeWritten was.0 offset (row ++ bytes ∷ []) f) (sym over.2) (some_push_new was.0 offset row bytes over.0 next here was.2)))
        (write.images (first.goes_on.honest honest) file left)

  -- the write of the next sector failed
  pub row_push_failed : {fault error : E} → IsFileWrite {E = E} mid new next bytes (Err fault) → IsRowWrite {E = E} old new offset (row ++ bytes ∷ []) (Err error)
  row_push_failed {fault = fault} {error = error} write = record {
    goes_on = goes write;
    failures = counts before first.failures write.failures;
    still_given = given write;
    moment = clock write;
    later = λ honest. omega (arith, first.later honest, write.later (first.goes_on.honest honest));
    stands = λ honest. tt;
    stands_err = λ honest.
        ⊎_elim
        (λ (same : new.bytes ≡ mid.bytes). subst (λ (f : List ℕ). SomeWritten old.bytes offset (row ++ bytes ∷ []) f) (sym same) (some_push_old old.bytes offset row bytes mid.bytes (mid_some honest)))
        (λ (over : new.bytes ≡ overlaid mid.bytes next bytes).
        subst (λ (f : List ℕ). SomeWritten old.bytes offset (row ++ bytes ∷ []) f) (sym over) (some_push_new old.bytes offset row bytes mid.bytes next here (mid_some honest)))
        (write.stands_err (first.goes_on.honest honest));
    images = left_images write;
    unwritten = λ honest file left. write.unwritten (first.goes_on.honest honest) file (first.unwritten honest file left);
    pending = λ honest. tt;
    written = λ honest room. tt;
    no_other = λ honest room. tt;
  }
    where
      counts : (before : Result (Unit {0}) E) → CountsFailure old.failures mid.failures before → HasRisen mid.failures new.failures → HasRisen old.failures new.failures
      counts (Ok done) one two = omega (arith, one, two)
      counts (Err failed) one two = omega (arith, one, two)

  -- the write of the next sector succeeded
  pub row_push_done : {done : Unit {0}} → IsFileWrite {E = E} mid new next bytes (Ok done) → IsRowWrite {E = E} old new offset (row ++ bytes ∷ []) before
  row_push_done write = record {
    goes_on = goes write;
    failures = subst (λ (n : ℕ). CountsFailure old.failures n before) (sym write.failures) first.failures;
    still_given = given write;
    moment = clock write;
    later = λ honest. omega (arith, first.later honest, write.later (first.goes_on.honest honest));
    stands = λ honest. all before (first.stands honest) (write.stands (first.goes_on.honest honest));
    stands_err = λ honest. some before (write.stands (first.goes_on.honest honest)) (mid_some honest);
    images = left_images write;
    unwritten = λ honest file left. write.unwritten (first.goes_on.honest honest) file (first.unwritten honest file left);
    pending = λ honest. is_pending before honest (first.pending honest);
    written = λ honest room. is_written before honest room (first.written honest (omega (arith, room, long))) (is_pending before honest (first.pending honest));
    no_other = λ honest room. is_alone before honest room (first.no_other honest (omega (arith, room, long)));
  }
    where
      all : (before : Result (Unit {0}) E) → OnOk before (mid.bytes ≡ overlaid_row old.bytes offset row) → new.bytes ≡ overlaid mid.bytes next bytes → OnOk before (new.bytes ≡ overlaid_row old.bytes offset (row ++ bytes ∷ []))
      all (Ok done) was is = is ∙ ap (λ (f : List ℕ). overlaid f next bytes) was ∙ sym (overlaid_row-push old.bytes offset row bytes next here)
      all (Err fault) was is = tt

      some : (before : Result (Unit {0}) E) → new.bytes ≡ overlaid mid.bytes next bytes → SomeWritten old.bytes offset row mid.bytes → OnErr before (SomeWritten old.bytes offset (row ++ bytes ∷ []) new.bytes)
      some (Ok done) is was = tt
      some (Err fault) is was = subst (λ (f : List ℕ). SomeWritten old.bytes offset (row ++ bytes ∷ []) f) (sym is) (some_push_new old.bytes offset row bytes mid.bytes next here was)

      so_far : old.honest → old.moment + length (row ++ bytes ∷ []) ≤ last_count → mid.moment ≡ old.moment + length row
      so_far honest room = first.moment honest (omega (arith, room, long))

      now : old.honest → old.moment + length (row ++ bytes ∷ []) ≤ last_count → (count : ℕ) → count ≡ length row + 1 → old.moment + count ≡ new.moment
      now honest room count last = let at = clock write honest room in omega (arith, at, last, long)

      is_pending : (before : Result (Unit {0}) E) → old.honest → OnOk before ((file : List ℕ) → MayLeaveRow old offset row file → mid.left_at mid.moment file)
          → OnOk before ((file : List ℕ) → MayLeaveRow old offset (row ++ bytes ∷ []) file → new.left_at new.moment file)
      is_pending (Err fault) honest was = tt
      is_pending (Ok done) honest was = λ file may.
          let mid_honest = first.goes_on.honest honest in
          ⊎_elim
          (λ (without : SomeWritten may.0 offset row file). write.unwritten mid_honest file (was file (may.0, may.1, without)))
          (λ (over : (start : List ℕ) × SomeWritten may.0 offset row start × (file ≡ overlaid start next bytes)).
          subst (λ (f : List ℕ). new.left_at new.moment f) (sym over.2) (write.written mid_honest over.0 (was over.0 (may.0, may.1, over.1))))
          (some_pop may.0 offset row bytes file next here may.2)

      is_written : (before : Result (Unit {0}) E) → old.honest → old.moment + length (row ++ bytes ∷ []) ≤ last_count
          → OnOk before ((count : ℕ) (file : List ℕ) → count ≤ length row → MayLeaveRow old offset (take count row) file → mid.left_at (old.moment + count) file)
          → OnOk before ((file : List ℕ) → MayLeaveRow old offset (row ++ bytes ∷ []) file → new.left_at new.moment file)
          → OnOk before ((count : ℕ) (file : List ℕ) → count ≤ length (row ++ bytes ∷ []) → MayLeaveRow old offset (take count (row ++ bytes ∷ [])) file → new.left_at (old.moment + count) file)
      is_written (Err fault) honest room was all_of = tt
      is_written (Ok done) honest room was all_of = λ count file le may.
          ⊎_elim
          (λ (less : count < length row + 1).
          write.goes_on.kept (first.goes_on.honest honest) (old.moment + count) file (omega (arith, so_far honest room, less))
          (was count file (omega (arith, less)) (may.0, may.1, subst (λ (r : List Sector). SomeWritten may.0 offset r file) (take-append-le count row (bytes ∷ []) (omega (arith, less))) may.2)))
          (λ (last : length row + 1 ≤ count).
          let end : count ≡ length row + 1 = omega (arith, last, le, long) in
          subst (λ (n : ℕ). new.left_at n file) (sym (now honest room count end))
          (all_of file (may.0, may.1, subst (λ (r : List Sector). SomeWritten may.0 offset r file) (whole count end) may.2)))
          (cases_lt count (length row + 1))

      is_alone : (before : Result (Unit {0}) E) → old.honest → old.moment + length (row ++ bytes ∷ []) ≤ last_count
          → OnOk before ((count : ℕ) (file : List ℕ) → count ≤ length row → mid.left_at (old.moment + count) file → MayLeaveRow old offset (take count row) file)
          → OnOk before ((count : ℕ) (file : List ℕ) → count ≤ length (row ++ bytes ∷ []) → new.left_at (old.moment + count) file → MayLeaveRow old offset (take count (row ++ bytes ∷ [])) file)
      is_alone (Err fault) honest room was = tt
      is_alone (Ok done) honest room was = λ count file le left.
          ⊎_elim
          (λ (less : count < length row + 1).
          let may = was count file (omega (arith, less)) (write.goes_on.no_other (first.goes_on.honest honest) (old.moment + count) file (omega (arith, so_far honest room, less)) left) in
          (may.0, may.1, subst (λ (r : List Sector). SomeWritten may.0 offset r file) (sym (take-append-le count row (bytes ∷ []) (omega (arith, less)))) may.2))
          (λ (last : length row + 1 ≤ count).
          let end : count ≡ length row + 1 = omega (arith, last, le, long) in
          let may = left_images write honest file (subst (λ (n : ℕ). new.left_at n file) (now honest room count end) left) in
          (may.0, may.1, subst (λ (r : List Sector). SomeWritten may.0 offset r file) (sym (whole count end)) may.2))
          (cases_lt count (length row + 1))

  -- the failure, by the result of the call
  pub row_failed_by : (result : Result (Unit {0}) E) (error : E) → is_err result ≡ true → IsFileWrite {E = E} mid new next bytes result → IsRowWrite {E = E} old new offset (row ++ bytes ∷ []) (Err error)
  row_failed_by (Ok done) error failed write = absurd (false≢true failed)
  row_failed_by (Err fault) error failed write = row_push_failed write

  pub row_done_by : (result : Result (Unit {0}) E) → is_err result ≡ false → IsFileWrite {E = E} mid new next bytes result → IsRowWrite {E = E} old new offset (row ++ bytes ∷ []) before
  row_done_by (Ok done) passed write = row_push_done write
  row_done_by (Err fault) passed write = absurd (false≢true (sym passed))

-- a row of one sector is that sector
pub write_of_one : {E : Type 0} {old new : FileView} {offset : ℕ} {bytes : Sector} (result : Result (Unit {0}) E) → IsRowWrite {E = E} old new offset (bytes ∷ []) result → IsFileWrite {E = E} old new offset bytes result
write_of_one {E = E} {old = old} {new = new} {offset = offset} {bytes = bytes} result row = record {
  goes_on = row.goes_on;
  failures = row.failures;
  still_given = λ other some apart was. row.still_given other some (λ at less same. apart (omega (arith, less, same))) was;
  moment = λ honest room. row.moment honest (omega (arith, room));
  later = row.later;
  stands = λ honest. stands result (row.stands honest);
  stands_err = λ honest. stands_err result (row.stands_err honest);
  images = λ honest file left.
      let may = row.images honest file left in
      ⊎_elim
      (λ (same : file ≡ may.0). inl (subst (λ (f : List ℕ). old.left_at old.moment f) (sym same) may.1))
      (λ (over : file ≡ overlaid may.0 offset bytes). inr (may.0, may.1, over))
      may.2;
  unwritten = row.unwritten;
  written = λ honest. written result (row.pending honest);
}
  where
    stands : (result : Result (Unit {0}) E) → OnOk result (new.bytes ≡ overlaid_row old.bytes offset (bytes ∷ [])) → OnOk result (new.bytes ≡ overlaid old.bytes offset bytes)
    stands (Ok done) is = is
    stands (Err fault) is = tt

    stands_err : (result : Result (Unit {0}) E) → OnErr result (SomeWritten old.bytes offset (bytes ∷ []) new.bytes) → OnErr result ((new.bytes ≡ old.bytes) ⊎ (new.bytes ≡ overlaid old.bytes offset bytes))
    stands_err (Ok done) is = tt
    stands_err (Err fault) is = is

    written : (result : Result (Unit {0}) E) → OnOk result ((file : List ℕ) → MayLeaveRow old offset (bytes ∷ []) file → new.left_at new.moment file)
        → OnOk result ((file : List ℕ) → old.left_at old.moment file → new.left_at new.moment (overlaid file offset bytes))
    written (Ok done) all = λ file left. all (overlaid file offset bytes) (file, left, inr refl)
    written (Err fault) all = tt

-- the length of the file doesn't change
pub same_length_after : {old new : FileView} → FileContinues old new → old.honest → length new.bytes ≡ length old.bytes
same_length_after {old = old} {new = new} goes_on honest =
    sym (new.same_length (goes_on.honest honest) old.moment old.bytes (goes_on.kept honest old.moment old.bytes (omega arith) (old.bytes_left honest)))

-- the next sector of a row is within the file
pub next_offset : {E : Type 0} {old mid : FileView} {offset count next : ℕ} {row : List Sector} {before : Result (Unit {0}) E} → IsRowOffset old offset count → IsRowWrite {E = E} old mid offset row before
    → next ≡ offset + SECTOR_SIZE * length row → length row < count → IsSectorOffset mid next
next_offset offset first here lt = record {
  multiple = omega (arith, offset.multiple, here);
  within = λ honest.
      let was = first.goes_on.was_honest honest in
      omega (arith, offset.within was, same_length_after first.goes_on was, here, lt);
}
