-- Handing a row to the file leaves the device as it looked.
use Rattle.std.proofs.Common.{⊎_elim, ◌≡◌, ℕ, ◌+◌, ◌-◌, ◌*◌, ◌^◌, ◌<◌, ◌≤◌, min, Ok, Err, Result, is_ok, true, false, List, [], length, take, refl, sym, ◌∙◌, ap, subst, arith}
use Rattle.std.proofs.lemmas.List.{take_all}
use Rattle.std.proofs.lemmas.Bool.{cases_lt, false≢true}
use Rattle.audit_disk_model.specs.Image.{Sector, Image}
use Rattle.audit_disk_model.specs.View.{View, last_count}
use Rattle.audit_disk_model.specs.Calls.{HasRisen}
use Rattle.audit_disk_model.specs.declared.fault.DeviceFault.{DeviceFault}
use Rattle.audit_disk.specs.File.{FileView, FileContinues, sectors_of, IsRowWrite}
use Rattle.audit_disk.specs.FileView.{LeftWithRow, file_view, IsSameDevice}
use Rattle.audit_disk.specs.Rows.{with_row, IsWholeRow, file_moment, row_at}
use Rattle.audit_disk.proofs.RowTries.{IsTried, left_kept, left_no_other, left_nothing, left_at_same, row_reached, row_came, row_content, row_lost, row_lost_only, row_lost_content, each_reached, each_came}
use Rattle.audit_disk.proofs.RowTries.{moment_below, moment_above, row_below, row_above, moment_rows, row_rows, not_tried}
use Rattle.audit_base.specs.declared.limits.TheConstants.{SECTOR_SIZE}

module _ (old new : FileView) (sectors start start' clock failures : ℕ) (kept active kept' active' : List Sector) (base split reached base' split' reached' : ℕ) (fits fits' : sectors < 2 ^ 64)
    (in_range in_range' : clock < 2 ^ 64) (in_order : split ≤ reached) (in_order' : split' ≤ reached') (le : reached ≤ clock) (le' : reached' ≤ clock) (whole : IsWholeRow kept) (whole' : IsWholeRow kept')
    (whole_now : IsWholeRow active) (whole_now' : IsWholeRow active') (sized : old.honest → SECTOR_SIZE * sectors ≤ length old.bytes) (sized' : new.honest → SECTOR_SIZE * sectors ≤ length new.bytes) where
  abbrev before : View
  before = file_view old (record { sectors = sectors; clock = clock; failures = failures; start = start; kept = kept; active = active; base = base; split = split; reached = reached; fits = fits; in_range = in_range; in_order = in_order; le = le; whole = whole; whole_active = whole_now; sized = sized })

  abbrev after : View
  after = file_view new (record { sectors = sectors; clock = clock; failures = failures; start = start'; kept = kept'; active = active'; base = base'; split = split'; reached = reached'; fits = fits'; in_range = in_range'; in_order = in_order'; le = le'; whole = whole'; whole_active = whole_now'; sized = sized' })

  -- what a crash leaves at a moment of the clock
  abbrev Before : ℕ → Image → Type 0
  Before at image = LeftWithRow old sectors (file_moment base split reached old.moment (min at reached)) start (row_at base split kept active (min at reached)) image

  abbrev After : ℕ → Image → Type 0
  After at image = LeftWithRow new sectors (file_moment base' split' reached' new.moment (min at reached')) start' (row_at base' split' kept' active' (min at reached')) image

  same : FileContinues old new → ((at : ℕ) (image : Image) → at ≤ clock → Before at image → After at image) → ((at : ℕ) (image : Image) → at ≤ clock → After at image → Before at image)
      → (old.honest → with_row (sectors_of sectors new.bytes) start' (row_at base' split' kept' active' (min clock reached')) ≡ with_row (sectors_of sectors old.bytes) start (row_at base split kept active (min clock reached)))
      → IsSameDevice before after
  same goes_on left_then left_was content = record {
    continues = record {
      size = refl;
      clock = omega arith;
      failures = omega arith;
      honest = goes_on.honest;
      was_honest = goes_on.was_honest;
      kept = λ at image up_to left. left_then at image up_to left;
      no_other = λ at image up_to left. left_was at image up_to left;
    };
    clock = refl;
    failures = refl;
    content = content;
  }

  -- rows were kept before
  module _ (at_clock : reached ≡ clock) (split_now : split ≡ reached) (long : base + length kept ≡ clock) (all : active ≡ kept) (in_step : old.honest → old.moment ≡ base) where
    was_at : (at : ℕ) (image : Image) → at ≤ clock → Before at image → LeftWithRow old sectors (min at base) start (take (at - base) kept) image
    was_at at image up_to left =
        left_at_same old sectors start image _ (min at base) _ (take (at - base) kept)
        (moment_rows base split reached old.moment at (omega arith) split_now (in_step left.0) (omega arith)) (row_rows base split reached at kept active (omega arith) split_now (omega arith) all) left

    at_was : (at : ℕ) (image : Image) → at ≤ clock → LeftWithRow old sectors (min at base) start (take (at - base) kept) image → Before at image
    at_was at image up_to left =
        left_at_same old sectors start image (min at base) _ (take (at - base) kept) _
        (sym (moment_rows base split reached old.moment at (omega arith) split_now (in_step left.0) (omega arith))) (sym (row_rows base split reached at kept active (omega arith) split_now (omega arith) all)) left

    row_now : row_at base split kept active (min clock reached) ≡ kept
    row_now = row_rows base split reached clock kept active (omega arith) split_now (omega arith) all ∙ take_all (clock - base) kept (omega arith)

    -- the row was written in one call
    pub flush_done : (offset : ℕ) → offset ≡ SECTOR_SIZE * start → (old.honest → SECTOR_SIZE * (start + length kept) ≤ length old.bytes) → {done : Unit {0}} → IsRowWrite {E = DeviceFault} old new offset kept (Ok done)
        → reached' ≡ clock → split' ≡ reached' → base' ≡ clock → kept' ≡ [] → active' ≡ [] → IsSameDevice before after
    flush_done offset here within write at_clock' split_now' base_now nothing nothing_now = same write.goes_on then_is was content
      where
        room : base + length kept ≤ last_count
        room = omega arith

        moment_now : old.honest → new.moment ≡ clock
        moment_now honest = let is = in_step honest in omega (arith, write.moment honest (omega arith))

        to_new : old.honest → (at : ℕ) → at ≤ clock → file_moment base' split' reached' new.moment (min at reached') ≡ at
        to_new honest at up_to =
            let is = moment_now honest in
            let last : min at base' ≡ at = omega arith in
            moment_rows base' split' reached' new.moment at (omega arith) split_now' (omega arith) (omega arith) ∙ last

        none_new : (at : ℕ) → at ≤ clock → row_at base' split' kept' active' (min at reached') ≡ []
        none_new at up_to =
            ⊎_elim
            (λ (lt : min at reached' < split'). row_below base' split' (min at reached') kept' active' lt ∙ ap (λ (r : List Sector). take (min at reached' - base') r) nothing ∙ taken (min at reached' - base'))
            (λ (past : split' ≤ min at reached'). row_above base' split' (min at reached') kept' active' past ∙ nothing_now)
            (cases_lt (min at reached') split')
          where
            taken : (n : ℕ) → take {A = Sector} n [] ≡ []
            taken n = take_all n [] (omega arith)

        then_is : (at : ℕ) (image : Image) → at ≤ clock → Before at image → After at image
        then_is at image up_to left =
            let honest = left.0 in
            let is = in_step honest in
            let at_old = was_at at image up_to left in
            left_at_same new sectors start' image at _ [] _ (sym (to_new honest at up_to)) (sym (none_new at up_to))
            (⊎_elim
            (λ (early : at < base).
            let none : take (at - base) kept ≡ [] = ap (λ (n : ℕ). take n kept) (let z : at - base ≡ 0 = omega arith in z) in
            let same_at : min at base ≡ at = omega arith in
            left_nothing new sectors start start' at image
            (left_kept old new sectors start at [] image write.goes_on (omega arith) (left_at_same old sectors start image (min at base) at (take (at - base) kept) [] same_at none at_old)))
            (λ (late : base ≤ at).
            let same_at : min at base ≡ old.moment = omega arith in
            let there : old.moment + (at - base) ≡ at = omega arith in
            left_at_same new sectors start' image (old.moment + (at - base)) at [] [] there refl
            (each_reached old new sectors start start' offset kept here sized within whole write (at - base) image (omega arith) (omega arith)
            (left_at_same old sectors start image (min at base) old.moment (take (at - base) kept) (take (at - base) kept) same_at refl at_old)))
            (cases_lt at base))

        was : (at : ℕ) (image : Image) → at ≤ clock → After at image → Before at image
        was at image up_to left =
            let honest = write.goes_on.was_honest left.0 in
            let is = in_step honest in
            let at_new = left_at_same new sectors start' image _ at _ [] (to_new honest at up_to) (none_new at up_to) left in
            at_was at image up_to
            (⊎_elim
            (λ (early : at < base).
            let none : take (at - base) kept ≡ [] = ap (λ (n : ℕ). take n kept) (let z : at - base ≡ 0 = omega arith in z) in
            let same_at : at ≡ min at base = omega arith in
            left_at_same old sectors start image at (min at base) [] (take (at - base) kept) same_at (sym none)
            (left_no_other old new sectors start at [] image write.goes_on (omega arith) (left_nothing new sectors start' start at image at_new)))
            (λ (late : base ≤ at).
            let same_at : old.moment ≡ min at base = omega arith in
            let there : at ≡ old.moment + (at - base) = omega arith in
            left_at_same old sectors start image old.moment (min at base) (take (at - base) kept) (take (at - base) kept) same_at refl
            (each_came old new sectors start start' offset kept here sized within whole write (at - base) image (omega arith) (omega arith)
            (left_at_same new sectors start' image at (old.moment + (at - base)) [] [] there refl at_new)))
            (cases_lt at base))

        content : old.honest → with_row (sectors_of sectors new.bytes) start' (row_at base' split' kept' active' (min clock reached')) ≡ with_row (sectors_of sectors old.bytes) start (row_at base split kept active (min clock reached))
        content honest =
            ap (λ (r : List Sector). with_row (sectors_of sectors new.bytes) start' r) (none_new clock (omega arith))
            ∙ row_content old old new sectors start offset kept here sized within whole (not_tried old sectors start kept) start' write honest
            ∙ ap (λ (r : List Sector). with_row (sectors_of sectors old.bytes) start r) (sym row_now)

    -- the call failed, and the sectors were written one by one
    module _ (tried : IsTried old new sectors start kept) (at_clock' : reached' ≡ clock) (split_now' : split' ≡ reached') (base_same : base' ≡ base) (start_same : start' ≡ start) (kept_same : kept' ≡ kept) where
      early_then : (at : ℕ) (image : Image) → at < clock → Before at image → After at image
      early_then at image lt left =
          let is = in_step left.0 in
          let there : min at base ≡ min (min at reached') base' = omega arith in
          let rows : take (at - base) kept ≡ take (min at reached' - base') kept' = ap (λ (n : ℕ). take n kept) (let z : at - base ≡ min at reached' - base' = omega arith in z) ∙ ap (λ (r : List Sector). take (min at reached' - base') r) (sym kept_same) in
          subst (λ (s : ℕ). LeftWithRow new sectors (file_moment base' split' reached' new.moment (min at reached')) s (row_at base' split' kept' active' (min at reached')) image) (sym start_same)
          (left_at_same new sectors start image (min at base) _ (take (at - base) kept) _ (there ∙ sym (moment_below base' split' reached' new.moment (min at reached') (omega arith)))
          (rows ∙ sym (row_below base' split' (min at reached') kept' active' (omega arith)))
          (left_kept old new sectors start (min at base) (take (at - base) kept) image tried.goes_on (omega arith) (was_at at image (omega arith) left)))

      early_was : (at : ℕ) (image : Image) → at < clock → After at image → Before at image
      early_was at image lt left =
          let honest = tried.goes_on.was_honest left.0 in
          let is = in_step honest in
          let there : min (min at reached') base' ≡ min at base = omega arith in
          let rows : take (min at reached' - base') kept' ≡ take (at - base) kept = ap (λ (r : List Sector). take (min at reached' - base') r) kept_same ∙ ap (λ (n : ℕ). take n kept) (let z : min at reached' - base' ≡ at - base = omega arith in z) in
          at_was at image (omega arith)
          (left_no_other old new sectors start (min at base) (take (at - base) kept) image tried.goes_on (omega arith)
          (left_at_same new sectors start image _ (min at base) _ (take (at - base) kept) (moment_below base' split' reached' new.moment (min at reached') (omega arith) ∙ there)
          (row_below base' split' (min at reached') kept' active' (omega arith) ∙ rows)
          (subst (λ (s : ℕ). LeftWithRow new sectors (file_moment base' split' reached' new.moment (min at reached')) s (row_at base' split' kept' active' (min at reached')) image) start_same left)))

      moment_last : file_moment base' split' reached' new.moment (min clock reached') ≡ new.moment
      moment_last = let z : new.moment - (reached' - min clock reached') ≡ new.moment = omega arith in moment_above base' split' reached' new.moment (min clock reached') (omega arith) ∙ z

      row_last : row_at base' split' kept' active' (min clock reached') ≡ active'
      row_last = row_above base' split' (min clock reached') kept' active' (omega arith)

      last_old : (image : Image) → Before clock image → LeftWithRow old sectors old.moment start kept image
      last_old image left =
          let is = in_step left.0 in
          let there : min clock base ≡ old.moment = omega arith in
          left_at_same old sectors start image (min clock base) old.moment (take (clock - base) kept) kept there (take_all (clock - base) kept (omega arith)) (was_at clock image (omega arith) left)

      old_last : (image : Image) → LeftWithRow old sectors old.moment start kept image → Before clock image
      old_last image left =
          let is = in_step left.0 in
          let there : old.moment ≡ min clock base = omega arith in
          at_was clock image (omega arith) (left_at_same old sectors start image old.moment (min clock base) kept (take (clock - base) kept) there (sym (take_all (clock - base) kept (omega arith))) left)

      tried_same : ((image : Image) → LeftWithRow old sectors old.moment start kept image → LeftWithRow new sectors new.moment start' active' image)
          → ((image : Image) → LeftWithRow new sectors new.moment start' active' image → LeftWithRow old sectors old.moment start kept image)
          → (old.honest → with_row (sectors_of sectors new.bytes) start' active' ≡ with_row (sectors_of sectors old.bytes) start kept) → IsSameDevice before after
      tried_same then_is was content =
          same tried.goes_on
          (λ at image up_to left.
          ⊎_elim
          (λ (lt : at < clock). early_then at image lt left)
          (λ (last : clock ≤ at).
          let here : at ≡ clock = omega arith in
          subst (λ (n : ℕ). After n image) (sym here)
          (left_at_same new sectors start' image new.moment _ active' _ (sym moment_last) (sym row_last) (then_is image (last_old image (subst (λ (n : ℕ). Before n image) here left)))))
          (cases_lt at clock))
          (λ at image up_to left.
          ⊎_elim
          (λ (lt : at < clock). early_was at image lt left)
          (λ (last : clock ≤ at).
          let here : at ≡ clock = omega arith in
          subst (λ (n : ℕ). Before n image) (sym here)
          (old_last image (was image (left_at_same new sectors start' image _ new.moment _ active' moment_last row_last (subst (λ (n : ℕ). After n image) here left)))))
          (cases_lt at clock))
          (λ honest.
          ap (λ (r : List Sector). with_row (sectors_of sectors new.bytes) start' r) row_last ∙ content honest ∙ ap (λ (r : List Sector). with_row (sectors_of sectors old.bytes) start r) (sym row_now))

      -- the row is lost: the device never drops it
      pub flush_lost : active' ≡ kept → IsSameDevice before after
      flush_lost now =
          tried_same
          (λ image left. subst (λ (s : ℕ). LeftWithRow new sectors new.moment s active' image) (sym start_same) (left_at_same new sectors start image new.moment new.moment kept active' refl (sym now) (row_lost tried image left)))
          (λ image left. row_lost_only tried image (left_at_same new sectors start image new.moment new.moment active' kept refl now (subst (λ (s : ℕ). LeftWithRow new sectors new.moment s active' image) start_same left)))
          (λ honest. ap (λ (s : ℕ). with_row (sectors_of sectors new.bytes) s active') start_same ∙ ap (λ (r : List Sector). with_row (sectors_of sectors new.bytes) start r) now ∙ row_lost_content tried honest)

      -- each sector was written
      pub flush_singly : (mid : FileView) (offset : ℕ) → offset ≡ SECTOR_SIZE * start → (old.honest → SECTOR_SIZE * (start + length kept) ≤ length old.bytes) → IsTried old mid sectors start kept → {done : Unit {0}}
          → IsRowWrite {E = DeviceFault} mid new offset kept (Ok done) → active' ≡ [] → IsSameDevice before after
      flush_singly mid offset here within first write now =
          tried_same
          (λ image left. left_at_same new sectors start' image new.moment new.moment [] active' refl (sym now) (row_reached old mid new sectors start offset kept here sized within whole first start' write image left))
          (λ image left. row_came old mid new sectors start offset kept here sized within whole first start' write image (left_at_same new sectors start' image new.moment new.moment active' [] refl now left))
          (λ honest. ap (λ (r : List Sector). with_row (sectors_of sectors new.bytes) start' r) now ∙ row_content old mid new sectors start offset kept here sized within whole first start' write honest)

-- by the result of the call
pub row_ok : {old new : FileView} {offset : ℕ} {row : List Sector} (result : Result (Unit {0}) DeviceFault) → is_ok result ≡ true → IsRowWrite {E = DeviceFault} old new offset row result → IsRowWrite {E = DeviceFault} old new offset row (Ok tt)
row_ok (Ok done) passed write = write
row_ok (Err fault) passed write = absurd (false≢true passed)

-- a row that failed was counted
pub row_failed : {old new : FileView} {offset : ℕ} {row : List Sector} (result : Result (Unit {0}) DeviceFault) → is_ok result ≡ false → IsRowWrite {E = DeviceFault} old new offset row result → HasRisen old.failures new.failures
row_failed (Ok done) passed write = absurd (false≢true (sym passed))
row_failed (Err fault) passed write = write.failures
