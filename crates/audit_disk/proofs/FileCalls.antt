-- The calls of a file have the effects of device calls.
use Rattle.std.proofs.Common.{◌≡◌, ◌⊎◌, inl, inr, ⊎_elim, ℕ, ◌+◌, ◌*◌, ◌^◌, ◌<◌, ◌≤◌, Ok, Err, IsErr, OnOk, OnErr, List, [], ◌∷◌, ◌++◌, length, take, drop, refl, sym, ◌∙◌, ap, subst, arith}
use Rattle.std.proofs.lemmas.Bool.{false≢true}
use Rattle.audit_disk_model.specs.Image.{Sector, Image, sector_at, with_sector}
use Rattle.audit_disk_model.specs.View.{View, last_count}
use Rattle.audit_disk_model.specs.Calls.{Outcome, Continues, CountsFailure, HasRisen, Ticks, IsRead, IsWrite, IsSync}
use Rattle.audit_disk.specs.File.{overlaid, sectors_of, FileView, FileContinues, IsReadThrough, IsFileWrite, IsFileSync}
use Rattle.audit_disk.specs.FileView.{LeftWithRow, row_view, IsSameDevice, IsCallRefused}
use Rattle.audit_disk.specs.Rows.{with_row, MayHaveRow, IsWholeRow}
use Rattle.audit_base.specs.declared.limits.TheConstants.{SECTOR_SIZE}
use Rattle.audit_disk.proofs.FileSectors.{sectors_of-overlaid, sector_at-sectors_of}
use Rattle.audit_disk.proofs.KeptRows.{row_nothing, nothing_row, row_push_old, row_push_new, row_pop, with_row-push, with_row-other}
use Rattle.audit_disk_model.proofs.Moments.{continues_trans}

-- at least as many bytes as the sectors have
abbrev pub IsSized : FileView → ℕ → Type 0
IsSized file sectors = file.honest → SECTOR_SIZE * sectors ≤ length file.bytes

module _ (old new : FileView) (sectors start start' : ℕ) (moment_of moment_of' : ℕ → ℕ) (row_of row_of' : ℕ → List Sector) (clock clock' failures failures' : ℕ) (fits fits' : sectors < 2 ^ 64)
    (in_range : clock < 2 ^ 64) (in_range' : clock' < 2 ^ 64) (now : moment_of clock ≡ old.moment) (now' : moment_of' clock' ≡ new.moment) (whole : (at : ℕ) → IsWholeRow (row_of at)) (whole' : (at : ℕ) → IsWholeRow (row_of' at))
    (sized : IsSized old sectors) (sized' : IsSized new sectors) where
  abbrev before : View
  before = row_view old sectors start moment_of row_of clock failures fits in_range now whole sized

  abbrev after : View
  after = row_view new sectors start' moment_of' row_of' clock' failures' fits' in_range' now' whole' sized'

  module _ (goes_on : FileContinues old new) (left_then : (at : ℕ) (image : Image) → at ≤ clock → before.left_at at image → after.left_at at image)
      (left_was : (at : ℕ) (image : Image) → at ≤ clock → after.left_at at image → before.left_at at image) (later : clock ≤ clock') (more : failures ≤ failures') where
    continues : Continues before after
    continues = record {
      size = refl;
      clock = later;
      failures = more;
      honest = goes_on.honest;
      was_honest = goes_on.was_honest;
      kept = λ at image le left. left_then at image le left;
      no_other = λ at image le left. left_was at image le left;
    }

    -- a read of a sector that isn't kept
    pub read_file : (at : ℕ) (into : Sector) (answer result : Outcome) → at < sectors → (at < start) ⊎ (start + length (row_of clock) ≤ at) → IsReadThrough old new (SECTOR_SIZE * at) into answer → clock' ≡ clock
        → start' ≡ start → row_of' clock' ≡ row_of clock → CountsFailure failures failures' answer → result ≡ answer → IsRead before after at into result
    read_file at into answer result lt apart read still start_same row_same counts same =
        subst (λ (r : Outcome). IsRead before after at into r) (sym same)
        (record {
          continues = continues;
          clock = still;
          failures = counts;
          content = λ honest.
              ap (λ (bytes : List ℕ). with_row (sectors_of sectors bytes) start' (row_of' clock')) (read.only.same honest)
              ∙ ap (λ (s : ℕ). with_row (sectors_of sectors old.bytes) s (row_of' clock')) start_same
              ∙ ap (λ (r : List Sector). with_row (sectors_of sectors old.bytes) start r) row_same;
          bytes = λ honest. found answer (read.found honest);
        })
      where
        found : (result : Outcome) → OnOk result (into ≡ take SECTOR_SIZE (drop (SECTOR_SIZE * at) old.bytes)) → OnOk result (into ≡ sector_at (with_row (sectors_of sectors old.bytes) start (row_of clock)) at)
        found (Ok done) is = is ∙ sym (sector_at-sectors_of sectors at old.bytes lt) ∙ sym (with_row-other (sectors_of sectors old.bytes) start (row_of clock) at apart)
        found (Err fault) is = tt

    -- a write that is kept
    pub write_kept : (at : ℕ) (bytes : Sector) → new.bytes ≡ old.bytes → ((image : Image) → before.left_at clock image → LeftWithRow old sectors old.moment start' (row_of clock) image)
        → ((image : Image) → LeftWithRow old sectors old.moment start' (row_of clock) image → before.left_at clock image)
        → ((image : Image) → after.left_at clock' image → LeftWithRow old sectors old.moment start' (row_of clock ++ bytes ∷ []) image)
        → ((image : Image) → LeftWithRow old sectors old.moment start' (row_of clock ++ bytes ∷ []) image → after.left_at clock' image)
        → at ≡ start' + length (row_of clock) → with_row (sectors_of sectors old.bytes) start (row_of clock) ≡ with_row (sectors_of sectors old.bytes) start' (row_of clock) → row_of' clock' ≡ row_of clock ++ bytes ∷ []
        → clock < last_count → clock' ≡ clock + 1 → failures' ≡ failures → IsWrite before after at bytes (Ok tt)
    write_kept at bytes same now_in now_out next_in next_out here same_start row_next free next none = record {
      continues = continues;
      clock = record { before_end = λ lt. next; at_end = λ le. absurd (omega arith) };
      failures = none;
      content = λ honest.
          ap (λ (f : List ℕ). with_row (sectors_of sectors f) start' (row_of' clock')) same
          ∙ ap (λ (r : List Sector). with_row (sectors_of sectors old.bytes) start' r) row_next
          ∙ with_row-push (sectors_of sectors old.bytes) start' (row_of clock) bytes at here
          ∙ ap (λ (i : Image). with_sector i at bytes) (sym same_start);
      content_err = λ honest. tt;
      images = λ honest image left.
          let last = next_in image left in
          ⊎_elim
          (λ (without : MayHaveRow start' (row_of clock) (sectors_of sectors last.1.0) image). record { either = inl (now_out image (last.0, (last.1.0, last.1.1, without))) })
          (λ (over : (start_image : Image) × MayHaveRow start' (row_of clock) (sectors_of sectors last.1.0) start_image × (image ≡ with_sector start_image at bytes)).
          record { either = inr (over.0, now_out over.0 (last.0, (last.1.0, last.1.1, over.1)), over.2) })
          (row_pop start' (row_of clock) bytes (sectors_of sectors last.1.0) image at here last.1.2);
      unwritten = λ honest image left.
          let was = now_in image left in next_out image (was.0, (was.1.0, was.1.1, row_push_old start' (row_of clock) bytes (sectors_of sectors was.1.0) image was.1.2));
      written = λ honest image left.
          let was = now_in image left in next_out (with_sector image at bytes) (was.0, (was.1.0, was.1.1, row_push_new start' (row_of clock) bytes (sectors_of sectors was.1.0) image at here was.1.2));
      at_end = λ end. absurd (omega arith);
      at_end_same = λ end honest. absurd (omega arith);
    }

    -- if nothing is kept, the device's images are the file's
    module _ (none : row_of clock ≡ []) (none' : row_of' clock' ≡ []) where
      now_in : (image : Image) → before.left_at clock image → old.honest × ((bytes : List ℕ) × old.left_at old.moment bytes × (image ≡ sectors_of sectors bytes))
      now_in image left = (
        left.0,
        (
          left.1.0,
          subst (λ (m : ℕ). old.left_at m left.1.0) now left.1.1,
          row_nothing start (sectors_of sectors left.1.0) image (subst (λ (r : List Sector). MayHaveRow start r (sectors_of sectors left.1.0) image) none left.1.2),
        ),
      )

      now_out : (image : Image) → old.honest × ((bytes : List ℕ) × old.left_at old.moment bytes × (image ≡ sectors_of sectors bytes)) → before.left_at clock image
      now_out image left = (
        left.0,
        (
          left.1.0,
          subst (λ (m : ℕ). old.left_at m left.1.0) (sym now) left.1.1,
          subst (λ (r : List Sector). MayHaveRow start r (sectors_of sectors left.1.0) image) (sym none) (nothing_row start (sectors_of sectors left.1.0) image left.1.2),
        ),
      )

      next_in : (image : Image) → after.left_at clock' image → new.honest × ((bytes : List ℕ) × new.left_at new.moment bytes × (image ≡ sectors_of sectors bytes))
      next_in image left = (
        left.0,
        (
          left.1.0,
          subst (λ (m : ℕ). new.left_at m left.1.0) now' left.1.1,
          row_nothing start' (sectors_of sectors left.1.0) image (subst (λ (r : List Sector). MayHaveRow start' r (sectors_of sectors left.1.0) image) none' left.1.2),
        ),
      )

      next_out : (image : Image) → new.honest × ((bytes : List ℕ) × new.left_at new.moment bytes × (image ≡ sectors_of sectors bytes)) → after.left_at clock' image
      next_out image left = (
        left.0,
        (
          left.1.0,
          subst (λ (m : ℕ). new.left_at m left.1.0) (sym now') left.1.1,
          subst (λ (r : List Sector). MayHaveRow start' r (sectors_of sectors left.1.0) image) (sym none') (nothing_row start' (sectors_of sectors left.1.0) image left.1.2),
        ),
      )

      was_content : before.content ≡ sectors_of sectors old.bytes
      was_content = ap (λ (r : List Sector). with_row (sectors_of sectors old.bytes) start r) none

      content_now : after.content ≡ sectors_of sectors new.bytes
      content_now = ap (λ (r : List Sector). with_row (sectors_of sectors new.bytes) start' r) none'

      module _ (free : clock < last_count) (next : clock' ≡ clock + 1) where
        ticks : Ticks clock clock'
        ticks = record { before_end = λ lt. next; at_end = λ le. absurd (omega arith) }

        write_file : (at : ℕ) (bytes : Sector) (result : Outcome) → at < sectors → length bytes ≡ SECTOR_SIZE → IsFileWrite old new (SECTOR_SIZE * at) bytes result → CountsFailure failures failures' result → IsWrite before after at bytes result
        write_file at bytes result lt long write counts = record {
          continues = continues;
          clock = ticks;
          failures = counts;
          content = λ honest. stands result honest (write.stands honest);
          content_err = λ honest. stands_err result honest (write.stands_err honest);
          images = λ honest image left.
              let last = next_in image left in
              ⊎_elim
              (λ (same : old.left_at old.moment last.1.0). record { either = inl (now_out image (honest, (last.1.0, same, last.1.2))) })
              (λ (over : (first : List ℕ) × old.left_at old.moment first × (last.1.0 ≡ overlaid first (SECTOR_SIZE * at) bytes)).
              record {
                either = inr (
                  sectors_of sectors over.0,
                  now_out (sectors_of sectors over.0) (honest, (over.0, over.1, refl)),
                  last.1.2 ∙ ap (λ (file : List ℕ). sectors_of sectors file) over.2 ∙ placed over.0 (omega (arith, old.same_length honest old.moment over.0 over.1, sized honest)),
                );
              })
              (write.images honest last.1.0 last.1.1);
          unwritten = λ honest image left.
              let was = now_in image left in next_out image (write.goes_on.honest honest, (was.1.0, write.unwritten honest was.1.0 was.1.1, was.1.2));
          written = λ honest. written result honest (write.written honest);
          at_end = λ end. absurd (omega arith);
          at_end_same = λ end honest. absurd (omega arith);
        }
          where
            placed : (file : List ℕ) → SECTOR_SIZE * sectors ≤ length file → sectors_of sectors (overlaid file (SECTOR_SIZE * at) bytes) ≡ with_sector (sectors_of sectors file) at bytes
            placed file is = sectors_of-overlaid sectors at file bytes is (omega arith) long

            over_content : old.honest → new.bytes ≡ overlaid old.bytes (SECTOR_SIZE * at) bytes → after.content ≡ with_sector before.content at bytes
            over_content honest is =
                content_now ∙ ap (λ (file : List ℕ). sectors_of sectors file) is ∙ placed old.bytes (sized honest) ∙ ap (λ (i : Image). with_sector i at bytes) (sym was_content)

            stands : (result : Outcome) → old.honest → OnOk result (new.bytes ≡ overlaid old.bytes (SECTOR_SIZE * at) bytes) → OnOk result (after.content ≡ with_sector before.content at bytes)
            stands (Ok done) honest is = over_content honest is
            stands (Err fault) honest is = tt

            stands_err : (result : Outcome) → old.honest → OnErr result ((new.bytes ≡ old.bytes) ⊎ (new.bytes ≡ overlaid old.bytes (SECTOR_SIZE * at) bytes))
                → OnErr result ((after.content ≡ before.content) ⊎ (after.content ≡ with_sector before.content at bytes))
            stands_err (Ok done) honest is = tt
            stands_err (Err fault) honest is =
                ⊎_elim
                (λ (same : new.bytes ≡ old.bytes). inl (content_now ∙ ap (λ (file : List ℕ). sectors_of sectors file) same ∙ sym was_content))
                (λ (changed : new.bytes ≡ overlaid old.bytes (SECTOR_SIZE * at) bytes). inr (over_content honest changed))
                is

            written : (result : Outcome) → old.honest → OnOk result ((file : List ℕ) → old.left_at old.moment file → new.left_at new.moment (overlaid file (SECTOR_SIZE * at) bytes))
                → OnOk result ((image : Image) → before.left_at clock image → after.left_at clock' (with_sector image at bytes))
            written (Ok done) honest over = λ image left.
                let was = now_in image left in
                next_out (with_sector image at bytes) (
                  write.goes_on.honest honest,
                  (
                    overlaid was.1.0 (SECTOR_SIZE * at) bytes,
                    over was.1.0 was.1.1,
                    ap (λ (i : Image). with_sector i at bytes) was.1.2 ∙ sym (placed was.1.0 (omega (arith, old.same_length honest old.moment was.1.0 was.1.1, sized honest))),
                  ),
                )
            written (Err fault) honest over = tt

        sync_file : (result : Outcome) → IsFileSync old new result → CountsFailure failures failures' result → IsSync before after result
        sync_file result sync counts = record {
          continues = continues;
          clock = ticks;
          failures = counts;
          content = λ honest. content_now ∙ ap (λ (file : List ℕ). sectors_of sectors file) (sync.same honest) ∙ sym was_content;
          only = λ honest. only result (sync.only honest);
          no_other = λ honest. no_other result honest (sync.no_other honest);
          kept = λ honest. kept result honest (sync.kept honest);
          at_end = λ end. absurd (omega arith);
        }
          where
            only : (result : Outcome) → OnOk result ((file : List ℕ) → new.left_at new.moment file → file ≡ old.bytes) → OnOk result ((image : Image) → after.left_at clock' image → image ≡ before.content)
            only (Ok done) is = λ image left. let last = next_in image left in last.1.2 ∙ ap (λ (file : List ℕ). sectors_of sectors file) (is last.1.0 last.1.1) ∙ sym was_content
            only (Err fault) is = tt

            no_other : (result : Outcome) → old.honest → OnErr result ((file : List ℕ) → new.left_at new.moment file → old.left_at old.moment file)
                → OnErr result ((image : Image) → after.left_at clock' image → before.left_at clock image)
            no_other (Ok done) honest is = tt
            no_other (Err fault) honest is = λ image left. let last = next_in image left in now_out image (honest, (last.1.0, is last.1.0 last.1.1, last.1.2))

            kept : (result : Outcome) → old.honest → OnErr result ((file : List ℕ) → old.left_at old.moment file → new.left_at new.moment file)
                → OnErr result ((image : Image) → before.left_at clock image → after.left_at clock' image)
            kept (Ok done) honest is = tt
            kept (Err fault) honest is = λ image left. let was = now_in image left in next_out image (sync.goes_on.honest honest, (was.1.0, is was.1.0 was.1.1, was.1.2))

        pub write_counted : (at : ℕ) (bytes : Sector) (answer result : Outcome) → at < sectors → length bytes ≡ SECTOR_SIZE → IsFileWrite old new (SECTOR_SIZE * at) bytes answer
            → CountsFailure failures failures' answer → result ≡ answer → IsWrite before after at bytes result
        write_counted at bytes answer result lt long write counts same = subst (λ (r : Outcome). IsWrite before after at bytes r) (sym same) (write_file at bytes answer lt long write counts)

        pub sync_counted : (answer result : Outcome) → IsFileSync old new answer → CountsFailure failures failures' answer → result ≡ answer → IsSync before after result
        sync_counted answer result sync counts same = subst (λ (r : Outcome). IsSync before after r) (sym same) (sync_file answer sync counts)

-- something happened below the device, followed by a call
module _ (old mid new : View) (same : IsSameDevice old mid) where
  pub same_then_read : {at : ℕ} {into : Sector} {result : Outcome} → IsRead mid new at into result → IsRead old new at into result
  same_then_read {at = at} {into = into} {result = result} read = record {
    continues = continues_trans same.continues read.continues;
    clock = read.clock ∙ same.clock;
    failures = subst (λ (n : ℕ). CountsFailure n new.failures result) same.failures read.failures;
    content = λ honest. read.content (same.continues.honest honest) ∙ same.content honest;
    bytes = λ honest. subst (λ (image : Image). OnOk result (into ≡ sector_at image at)) (same.content honest) (read.bytes (same.continues.honest honest));
  }

  now_then : (image : Image) → old.left_at old.clock image → mid.left_at mid.clock image
  now_then image left = subst (λ (at : ℕ). mid.left_at at image) (sym same.clock) (same.continues.kept old.clock image (omega arith) left)

  now_was : (image : Image) → mid.left_at mid.clock image → old.left_at old.clock image
  now_was image left = same.continues.no_other old.clock image (omega arith) (subst (λ (at : ℕ). mid.left_at at image) same.clock left)

  pub same_then_write : {at : ℕ} {bytes : Sector} {result : Outcome} → IsWrite mid new at bytes result → IsWrite old new at bytes result
  same_then_write {at = at} {bytes = bytes} {result = result} write = record {
    continues = continues_trans same.continues write.continues;
    clock = subst (λ (n : ℕ). Ticks n new.clock) same.clock write.clock;
    failures = subst (λ (n : ℕ). CountsFailure n new.failures result) same.failures write.failures;
    content = λ honest. subst (λ (image : Image). OnOk result (new.content ≡ with_sector image at bytes)) (same.content honest) (write.content (same.continues.honest honest));
    content_err = λ honest.
        subst (λ (image : Image). OnErr result ((new.content ≡ image) ⊎ (new.content ≡ with_sector image at bytes))) (same.content honest) (write.content_err (same.continues.honest honest));
    images = λ honest image left.
        ⊎_elim
        (λ (was : mid.left_at mid.clock image). record { either = inl (now_was image was) })
        (λ (over : (before : Image) × mid.left_at mid.clock before × (image ≡ with_sector before at bytes)). record { either = inr (over.0, now_was over.0 over.1, over.2) })
        (write.images (same.continues.honest honest) image left).either;
    unwritten = λ honest image left. write.unwritten (same.continues.honest honest) image (now_then image left);
    written = λ honest. written result (write.written (same.continues.honest honest));
    at_end = λ end. write.at_end (omega (arith, same.clock, end));
    at_end_same = λ end honest. write.at_end_same (omega (arith, same.clock, end)) (same.continues.honest honest) ∙ same.content honest;
  }
    where
      written : (result : Outcome) → OnOk result ((image : Image) → mid.left_at mid.clock image → new.left_at new.clock (with_sector image at bytes)) → OnOk result ((image : Image) → old.left_at old.clock image → new.left_at new.clock (with_sector image at bytes))
      written (Ok done) all = λ image left. all image (now_then image left)
      written (Err fault) all = tt

  pub same_then_sync : {result : Outcome} → IsSync mid new result → IsSync old new result
  same_then_sync {result = result} sync = record {
    continues = continues_trans same.continues sync.continues;
    clock = subst (λ (n : ℕ). Ticks n new.clock) same.clock sync.clock;
    failures = subst (λ (n : ℕ). CountsFailure n new.failures result) same.failures sync.failures;
    content = λ honest. sync.content (same.continues.honest honest) ∙ same.content honest;
    only = λ honest. subst (λ (content : Image). OnOk result ((image : Image) → new.left_at new.clock image → image ≡ content)) (same.content honest) (sync.only (same.continues.honest honest));
    no_other = λ honest. no_other result (sync.no_other (same.continues.honest honest));
    kept = λ honest. kept result (sync.kept (same.continues.honest honest));
    at_end = λ end. sync.at_end (omega (arith, same.clock, end));
  }
    where
      no_other : (result : Outcome) → OnErr result ((image : Image) → new.left_at new.clock image → mid.left_at mid.clock image) → OnErr result ((image : Image) → new.left_at new.clock image → old.left_at old.clock image)
      no_other (Ok done) is = tt
      no_other (Err fault) is = λ image left. now_was image (is image left)

      kept : (result : Outcome) → OnErr result ((image : Image) → mid.left_at mid.clock image → new.left_at new.clock image) → OnErr result ((image : Image) → old.left_at old.clock image → new.left_at new.clock image)
      kept (Ok done) is = tt
      kept (Err fault) is = λ image left. is image (now_then image left)

-- a refused call
pub refused_write : {old new : View} (at : ℕ) (bytes : Sector) (result : Outcome) → IsErr result → IsCallRefused old new → IsWrite old new at bytes result
refused_write at bytes (Ok done) failed refused = absurd (false≢true failed)
refused_write at bytes (Err fault) failed refused = record {
  continues = refused.continues;
  clock = refused.clock;
  failures = refused.failures;
  content = λ honest. tt;
  content_err = λ honest. inl (refused.content honest);
  images = λ honest image left. record { either = inl (refused.no_other honest image left) };
  unwritten = refused.kept;
  written = λ honest. tt;
  at_end = λ end. refl;
  at_end_same = λ end honest. refused.content honest;
}

pub refused_sync : {old new : View} (result : Outcome) → IsErr result → IsCallRefused old new → IsSync old new result
refused_sync (Ok done) failed refused = absurd (false≢true failed)
refused_sync (Err fault) failed refused = record {
  continues = refused.continues;
  clock = refused.clock;
  failures = refused.failures;
  content = refused.content;
  only = λ honest. tt;
  no_other = refused.no_other;
  kept = refused.kept;
  at_end = λ end. refl;
}

-- a read that fails without reading the file
pub refused_read : {old new : View} (at : ℕ) (into : Sector) (result : Outcome) → IsErr result → IsSameDevice old new → (last : View) → Continues new last → last.clock ≡ new.clock → HasRisen new.failures last.failures
    → (new.honest → last.content ≡ new.content) → IsRead old last at into result
refused_read at into (Ok done) failed same last goes_on still risen content = absurd (false≢true failed)
refused_read {old = old} {new = new} at into (Err fault) failed same last goes_on still risen content = record {
  continues = continues_trans same.continues goes_on;
  clock = still ∙ same.clock;
  failures = omega (arith, risen, same.failures);
  content = λ honest. content (same.continues.honest honest) ∙ same.content honest;
  bytes = λ honest. tt;
}
