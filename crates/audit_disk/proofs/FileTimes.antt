-- The file's moments and the kept row, before and after a call that reaches the file when nothing is kept.
use Rattle.std.proofs.Common.{inl, inr, ⊎_elim, ◌≡◌, ◌⊎◌, ℕ, ◌+◌, ◌-◌, ◌<◌, ◌≤◌, min, Option, Some, None, is_some, unwrap_or, true, false, List, [], length, take, refl, sym, ◌∙◌, ap, arith}
use Rattle.std.proofs.lemmas.List.{take_all}
use Rattle.std.proofs.lemmas.Bool.{cases_lt}
use Rattle.audit_disk_model.specs.Image.{Sector, Image}
use Rattle.audit_disk.specs.File.{FileView, FileContinues}
use Rattle.audit_disk.specs.FileView.{LeftWithRow}
use Rattle.audit_disk.specs.Rows.{file_moment, row_at, active_row}
use Rattle.audit_disk_model.specs.View.{last_count}
use Rattle.audit_disk.specs.FileDisk.{end_from}
use Rattle.audit_disk.specs.declared.read_ahead.TheConstants.{ROW_SECTORS}
use Rattle.audit_disk.proofs.RowTries.{left_kept, left_no_other, left_at_same, moment_below, moment_above, row_below, row_above, moment_rows, row_rows}

-- the clock at which single writes began, or the clock up to which calls were made
abbrev pub split_of : Option ℕ → ℕ → ℕ
split_of single reached = unwrap_or single reached

module _ (clock reached reached' count now next : ℕ) (kept : List Sector) (here : reached ≡ clock) (there : reached' ≡ clock + 1) (long : length kept ≡ count) (ticks : next ≡ now + 1) where
  pub moment_kept : (single : Option ℕ) → active_row single kept ≡ [] → count ≤ split_of single reached → split_of single reached ≤ reached → (is_some single ≡ false → now + count ≡ clock) → (at : ℕ) → at ≤ clock
      → file_moment (split_of single reached' - count) (split_of single reached') reached' next (min at reached') ≡ file_moment (split_of single reached - count) (split_of single reached) reached now (min at reached)
  moment_kept None nothing row_order order rows at le =
      let none : count ≡ 0 = omega (arith, ap length nothing, long) in
      let step = rows refl in
      let same : min (min at reached') (reached' - count) ≡ min at (reached - count) = omega arith in
      moment_below (reached' - count) reached' reached' next (min at reached') (omega arith) ∙ same
      ∙ sym (moment_rows (reached - count) reached reached now at (omega arith) refl (omega arith) (omega arith))
  moment_kept (Some from) nothing row_order order rows at le =
      ⊎_elim
      (λ (lt : at < from).
      let same : min (min at reached') (from - count) ≡ min (min at reached) (from - count) = omega arith in
      moment_below (from - count) from reached' next (min at reached') (omega arith) ∙ same ∙ sym (moment_below (from - count) from reached now (min at reached) (omega arith)))
      (λ (past : from ≤ at).
      let same : next - (reached' - min at reached') ≡ now - (reached - min at reached) = omega arith in
      moment_above (from - count) from reached' next (min at reached') (omega arith) ∙ same ∙ sym (moment_above (from - count) from reached now (min at reached) (omega arith)))
      (cases_lt at from)

  pub row_kept : (single : Option ℕ) → active_row single kept ≡ [] → count ≤ split_of single reached → split_of single reached ≤ reached → (at : ℕ) → at ≤ clock
      → row_at (split_of single reached' - count) (split_of single reached') kept (active_row single kept) (min at reached') ≡ row_at (split_of single reached - count) (split_of single reached) kept (active_row single kept) (min at reached)
  row_kept None nothing row_order order at le =
      let none : count ≡ 0 = omega (arith, ap length nothing, long) in
      row_below (reached' - count) reached' (min at reached') kept kept (omega arith)
      ∙ ap (λ (r : List Sector). take (min at reached' - (reached' - count)) r) nothing ∙ take_all {A = Sector} (min at reached' - (reached' - count)) [] (omega arith)
      ∙ sym (row_rows (reached - count) reached reached at kept kept (omega arith) refl (omega arith) refl ∙ ap (λ (r : List Sector). take (at - (reached - count)) r) nothing ∙ take_all {A = Sector} (at - (reached - count)) [] (omega arith))
  row_kept (Some from) nothing row_order order at le =
      ⊎_elim
      (λ (lt : at < from).
      let same : min at reached' - (from - count) ≡ min at reached - (from - count) = omega arith in
      row_below (from - count) from (min at reached') kept [] (omega arith) ∙ ap (λ (n : ℕ). take n kept) same ∙ sym (row_below (from - count) from (min at reached) kept [] (omega arith)))
      (λ (past : from ≤ at). row_above (from - count) from (min at reached') kept [] (omega arith) ∙ sym (row_above (from - count) from (min at reached) kept [] (omega arith)))
      (cases_lt at from)

-- no moment is later than the file's
pub moment_most : (clock reached count now : ℕ) (single : Option ℕ) → reached ≡ clock → count ≤ split_of single reached → split_of single reached ≤ reached → (is_some single ≡ false → now + count ≡ clock)
    → (is_some single ≡ true → now ≡ clock + count) → (at : ℕ) → at ≤ clock → file_moment (split_of single reached - count) (split_of single reached) reached now (min at reached) ≤ now
moment_most clock reached count now None here row_order order rows singly at le =
    let step = rows refl in
    omega (arith, moment_rows (reached - count) reached reached now at (omega arith) refl (omega arith) (omega arith))
moment_most clock reached count now (Some from) here row_order order rows singly at le =
    let step = singly refl in
    ⊎_elim
    (λ (lt : at < from). let is = moment_below (from - count) from reached now (min at reached) (omega arith) in omega arith)
    (λ (past : from ≤ at). let is = moment_above (from - count) from reached now (min at reached) (omega arith) in omega arith)
    (cases_lt at from)

-- nothing is kept now
pub row_none : (single : Option ℕ) (clock reached base : ℕ) (kept : List Sector) → active_row single kept ≡ [] → split_of single reached ≤ reached → reached ≤ clock
    → row_at base (split_of single reached) kept (active_row single kept) (min clock reached) ≡ []
row_none single clock reached base kept nothing order le = row_above base (split_of single reached) (min clock reached) kept (active_row single kept) (omega arith) ∙ nothing

pub row_active : (single : Option ℕ) (clock reached base : ℕ) (kept : List Sector) → split_of single reached ≤ reached → reached ≤ clock
    → row_at base (split_of single reached) kept (active_row single kept) (min clock reached) ≡ active_row single kept
row_active single clock reached base kept order le = row_above base (split_of single reached) (min clock reached) kept (active_row single kept) (omega arith)

-- the images of earlier moments, after a call of the file
module _ (old new : FileView) (sectors start at moment moment' : ℕ) (row row' : List Sector) (image : Image) (goes_on : FileContinues old new) where
  pub earlier_then : (old.honest → moment' ≡ moment) → row' ≡ row → (old.honest → moment ≤ old.moment) → LeftWithRow old sectors moment start row image → LeftWithRow new sectors moment' start row' image
  earlier_then same same_row le left =
      left_at_same new sectors start image moment moment' row row' (sym (same left.0)) (sym same_row) (left_kept old new sectors start moment row image goes_on (le left.0) left)

  pub earlier_was : (old.honest → moment' ≡ moment) → row' ≡ row → (old.honest → moment ≤ old.moment) → LeftWithRow new sectors moment' start row' image → LeftWithRow old sectors moment start row image
  earlier_was same same_row le left =
      let honest = goes_on.was_honest left.0 in
      left_no_other old new sectors start moment row image goes_on (le honest) (left_at_same new sectors start image moment' moment row' row (same honest) same_row left)

-- the file's clock isn't at its end
pub below_last : (single : Option ℕ) (clock count now : ℕ) → clock < end_from single → count ≤ ROW_SECTORS → (is_some single ≡ false → now + count ≡ clock) → (is_some single ≡ true → now ≡ clock + count) → now < last_count
below_last None clock count now below le rows singly = let step = rows refl in omega arith
below_last (Some from) clock count now below le rows singly = let step = singly refl in omega arith

pub below_end : (single : Option ℕ) (clock : ℕ) → clock < end_from single → clock < last_count
below_end None clock below = below
below_end (Some from) clock below = omega arith

pub split_up : (single : Option ℕ) (reached reached' : ℕ) → split_of single reached ≤ reached → reached ≤ reached' → split_of single reached' ≤ reached'
split_up None reached reached' order le = omega arith
split_up (Some from) reached reached' order le = omega arith

-- the sector isn't in the row
pub apart_active : (single : Option ℕ) (kept : List Sector) (at start count : ℕ) → length kept ≡ count → (active_row single kept ≡ []) ⊎ ((at < start) ⊎ (start + count ≤ at)) → (at < start) ⊎ (start + length (active_row single kept) ≤ at)
apart_active single kept at start count long apart =
    ⊎_elim
    (λ (none : active_row single kept ≡ []). ⊎_elim (λ (lt : at < start). inl lt) (λ (le : start ≤ at). inr (omega (arith, ap length none))) (cases_lt at start))
    (λ (either : (at < start) ⊎ (start + count ≤ at)). ⊎_elim (λ (lt : at < start). inl lt) (λ (le : start + count ≤ at). inr (omega (arith, shorter single))) either)
    apart
  where
    shorter : (single : Option ℕ) → length (active_row single kept) ≤ length kept
    shorter None = omega arith
    shorter (Some from) = omega arith
