-- Consecutive reads of a file, and sectors that are read ahead.
use Rattle.std.proofs.Common.{inl, inr, ◌≡◌, ℕ, ◌+◌, ◌*◌, ◌<◌, ◌≤◌, min, Ok, Err, Result, IsErr, OnOk, OnErr, List, [], ◌++◌, length, take, drop, set, refl, sym, ◌∙◌, ap, subst, arith}
use Rattle.std.proofs.lemmas.List.{get_or-set_same, get_or-set_other, get_or_append_left}
use Rattle.std.proofs.lemmas.Bool.{cases_eq, false≢true}
use Rattle.audit_disk_model.specs.Image.{Sector, Image, sector_at}
use Rattle.audit_disk_model.specs.View.{last_count}
use Rattle.audit_disk_model.specs.Calls.{CountsFailure, HasRisen}
use Rattle.audit_disk.specs.File.{FileView, OnlyFileReads, HasRow, IsFileRead, IsRowRead, IsReadThrough}
use Rattle.audit_disk.specs.ReadAhead.{StandsAt}
use Rattle.audit_base.specs.declared.limits.TheConstants.{SECTOR_SIZE}

-- no call
pub only_none : (file : FileView) → OnlyFileReads file file
only_none file = record {
  goes_on = record {
    honest = λ honest. honest;
    was_honest = λ honest. honest;
    kept = λ honest at bytes le left. left;
    no_other = λ honest at bytes le left. left;
  };
  failures = omega arith;
  moment = λ honest. refl;
  same = λ honest. refl;
}

-- one more read
pub only_then : {E : Type 0} {old mid new : FileView} {offset : ℕ} {into : Sector} {result : Result (Unit {0}) E} → OnlyFileReads old mid → IsFileRead mid new offset into result → OnlyFileReads old new
only_then {E = E} {old = old} {mid = mid} {new = new} {result = result} first read = record {
  goes_on = record {
    honest = λ honest. read.goes_on.honest (first.goes_on.honest honest);
    was_honest = λ honest. first.goes_on.was_honest (read.goes_on.was_honest honest);
    kept = λ honest at bytes le left. read.goes_on.kept (first.goes_on.honest honest) at bytes (omega (arith, first.moment honest)) (first.goes_on.kept honest at bytes le left);
    no_other = λ honest at bytes le left. first.goes_on.no_other honest at bytes le (read.goes_on.no_other (first.goes_on.honest honest) at bytes (omega (arith, first.moment honest)) left);
  };
  failures = more result read.failures;
  moment = λ honest. read.moment (first.goes_on.honest honest) ∙ first.moment honest;
  same = λ honest. read.same (first.goes_on.honest honest) ∙ first.same honest;
}
  where
    more : (result : Result (Unit {0}) E) → CountsFailure mid.failures new.failures result → min old.failures last_count ≤ new.failures
    more (Ok done) counts = omega (arith, first.failures, counts)
    more (Err fault) counts = omega (arith, first.failures, counts)

-- no sector
pub row_none : {E : Type 0} (file : FileView) (offset : ℕ) (sectors : Image) → IsRowRead {E = E} file file offset 0 sectors (Ok tt)
row_none {E = E} file offset sectors = record {
  only = only_none file;
  failures = refl;
  row = record { given = λ at lt. absurd (omega arith); found = λ honest at lt. absurd (omega arith) };
  still_given = λ other bytes apart was. was;
}

module _ {E : Type 0} {old mid new : FileView} {offset count next : ℕ} {sectors : Image} {bytes : Sector} (row : IsRowRead {E = E} old mid offset count sectors (Ok tt)) (here : next ≡ offset + SECTOR_SIZE * count) where
  -- one more sector
  pub row_next : {done : Unit {0}} → IsFileRead {E = E} mid new next bytes (Ok done) → count < length sectors → IsRowRead {E = E} old new offset (count + 1) (set sectors count bytes) (Ok tt)
  row_next read lt = record {
    only = only_then row.only read;
    failures = read.failures ∙ row.failures;
    row = record {
      given = λ at less. elim (cases_eq at count) [
        | inl same ↦ rw same (
            subst (λ (there : ℕ). new.gave there (sector_at (set sectors count bytes) count)) here
            (subst (λ (sector : Sector). new.gave next sector) (sym (get_or-set_same sectors count bytes [] lt)) read.given))
        | inr other ↦
            subst (λ (sector : Sector). new.gave (offset + SECTOR_SIZE * at) sector) (sym (get_or-set_other sectors count at bytes [] other))
            (read.still_given (offset + SECTOR_SIZE * at) (sector_at sectors at) (omega (arith, here)) (row.row.given at (omega (arith, less))))
      ];
      found = λ honest at less.
          let was = read.goes_on.was_honest honest in
          let before = row.only.goes_on.was_honest was in
          elim (cases_eq at count) [
            | inl same ↦ rw same (
                get_or-set_same sectors count bytes [] lt ∙ read.found was
                ∙ ap (λ (file : List ℕ). take SECTOR_SIZE (drop next file)) (sym (read.same was))
                ∙ ap (λ (there : ℕ). take SECTOR_SIZE (drop there new.bytes)) here)
            | inr other ↦
                get_or-set_other sectors count at bytes [] other ∙ row.row.found was at (omega (arith, less))
                ∙ ap (λ (file : List ℕ). take SECTOR_SIZE (drop (offset + SECTOR_SIZE * at) file)) (sym (read.same was))
          ];
    };
    still_given = λ other given apart was.
        read.still_given other given (λ same. apart count (omega arith) (same ∙ here)) (row.still_given other given (λ at less. apart at (omega (arith, less))) was);
  }

  -- the read of the next sector failed
  pub row_failed : {fault : E} {total : ℕ} {any : Image} (result : Result (Unit {0}) E) → IsErr result → IsFileRead {E = E} mid new next bytes (Err fault) → count < total
      → IsRowRead {E = E} old new offset total any result
  row_failed (Ok done) failed read lt = absurd (false≢true failed)
  row_failed (Err error) failed read lt = record {
    only = only_then row.only read;
    failures = omega (arith, row.failures, read.failures);
    row = tt;
    still_given = λ other given apart was.
        read.still_given other given (λ same. apart count lt (same ∙ here)) (row.still_given other given (λ at less. apart at (omega (arith, less, lt))) was);
  }

-- a read of one sector alone, after other reads
pub through_alone : {E : Type 0} {old mid new : FileView} {offset : ℕ} {into : Sector} {result : Result (Unit {0}) E} → OnlyFileReads old mid → IsFileRead mid new offset into result
    → IsReadThrough old new offset into result
through_alone {E = E} {old = old} {mid = mid} {new = new} {offset = offset} {into = into} {result = result} first read = record {
  only = only_then first read;
  file = record { given = read.given; fault = fault result read.failures };
  found = λ honest.
      subst (λ (file : List ℕ). OnOk result (into ≡ take SECTOR_SIZE (drop offset file))) (first.same honest) (read.found (first.goes_on.honest honest));
}
  where
    fault : (result : Result (Unit {0}) E) → CountsFailure mid.failures new.failures result → OnErr result (HasRisen old.failures new.failures)
    fault (Ok done) counts = tt
    fault (Err failed) counts = omega (arith, first.failures, counts)

-- the sector was read ahead
pub through_row : {E : Type 0} {old new : FileView} {start held offset place : ℕ} {row : Image} → OnlyFileReads old new → HasRow new start held row → StandsAt start held offset place
    → IsReadThrough {E = E} old new offset (sector_at row place) (Ok tt)
through_row {E = E} {old = old} {new = new} {offset = offset} {place = place} {row = row} only has stands = record {
  only = only;
  file = record {
    given = subst (λ (there : ℕ). new.gave there (sector_at row place)) (sym stands.there) (has.given place stands.read);
    fault = tt;
  };
  found = λ honest.
      has.found (only.goes_on.honest honest) place stands.read
      ∙ ap (λ (there : ℕ). take SECTOR_SIZE (drop there new.bytes)) (sym stands.there)
      ∙ ap (λ (file : List ℕ). take SECTOR_SIZE (drop offset file)) (only.same honest);
}

-- nothing is held
pub row_dropped : (file : FileView) (start : ℕ) (row : Image) → HasRow file start 0 row
row_dropped file start row = record { given = λ at lt. absurd (omega arith); found = λ honest at lt. absurd (omega arith) }

-- the row, with more sectors after it
pub row_in : {file : FileView} {start count : ℕ} {row : Image} (rest : Image) → HasRow file start count row → count ≤ length row → HasRow file start count (row ++ rest)
row_in {file = file} {start = start} {row = row} rest has le = record {
  given = λ at lt. subst (λ (sector : Sector). file.gave (start + SECTOR_SIZE * at) sector) (sym (get_or_append_left row rest [] at (omega arith))) (has.given at lt);
  found = λ honest at lt. get_or_append_left row rest [] at (omega arith) ∙ has.found honest at lt;
}
