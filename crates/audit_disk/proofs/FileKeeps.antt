-- One more write is kept.
use Rattle.std.proofs.Common.{⊎_elim, ◌≡◌, ◌⊎◌, ℕ, ◌+◌, ◌-◌, ◌≤◌, min, List, [], ◌∷◌, ◌++◌, length, take, refl, sym, ◌∙◌, ap, subst, arith}
use Rattle.std.proofs.lemmas.List.{take-append-le, take_all}
use Rattle.audit_disk_model.specs.Image.{Sector, Image}
use Rattle.audit_disk.specs.File.{FileView, sectors_of}
use Rattle.audit_disk.specs.FileView.{LeftWithRow}
use Rattle.audit_disk.specs.Rows.{with_row, file_moment, row_at}
use Rattle.audit_disk.proofs.RowTries.{left_nothing, left_at_same, moment_below, moment_above, row_below, row_above, moment_rows, row_rows}

module _ (file : FileView) (sectors start start' clock reached reached' base base' split split' : ℕ) (kept active kept' active' : List Sector) (bytes : Sector) (here : reached ≡ clock) (split_now : split ≡ reached)
    (long : base + length kept ≡ clock) (all : active ≡ kept) (there : reached' ≡ clock + 1) (split_next : split' ≡ reached') (base_same : base' ≡ base) (more : kept' ≡ kept ++ bytes ∷ []) (all_next : active' ≡ kept')
    (step : file.honest → file.moment ≡ base) (first : (length kept ≡ 0) ⊎ (start' ≡ start)) where
  abbrev Before : ℕ → Image → Type 0
  Before at image = LeftWithRow file sectors (file_moment base split reached file.moment (min at reached)) start (row_at base split kept active (min at reached)) image

  abbrev After : ℕ → Image → Type 0
  After at image = LeftWithRow file sectors (file_moment base' split' reached' file.moment (min at reached')) start' (row_at base' split' kept' active' (min at reached')) image

  -- the row may begin elsewhere where it was empty
  moved : (count moment : ℕ) (image : Image) → LeftWithRow file sectors moment start (take count kept) image → LeftWithRow file sectors moment start' (take count kept) image
  moved count moment image left =
      ⊎_elim
      (λ (none : length kept ≡ 0).
      let nothing : take count kept ≡ [] = no_row count none in
      left_at_same file sectors start' image moment moment [] (take count kept) refl (sym nothing) (left_nothing file sectors start start' moment image (left_at_same file sectors start image moment moment (take count kept) [] refl nothing left)))
      (λ (same : start' ≡ start). subst (λ (s : ℕ). LeftWithRow file sectors moment s (take count kept) image) (sym same) left)
      first
    where
      no_row : (count : ℕ) → length kept ≡ 0 → take count kept ≡ []
      no_row count none = ap (λ (r : List Sector). take count r) (empty kept none) ∙ take_all {A = Sector} count [] (omega arith)
        where
          empty : (row : List Sector) → length row ≡ 0 → row ≡ []
          empty [] none = refl
          empty (bytes ∷ row) none = absurd (omega arith)

  moved_back : (count moment : ℕ) (image : Image) → LeftWithRow file sectors moment start' (take count kept) image → LeftWithRow file sectors moment start (take count kept) image
  moved_back count moment image left =
      ⊎_elim
      (λ (none : length kept ≡ 0).
      let nothing : take count kept ≡ [] = no_row count none in
      left_at_same file sectors start image moment moment [] (take count kept) refl (sym nothing) (left_nothing file sectors start' start moment image (left_at_same file sectors start' image moment moment (take count kept) [] refl nothing left)))
      (λ (same : start' ≡ start). subst (λ (s : ℕ). LeftWithRow file sectors moment s (take count kept) image) same left)
      first
    where
      no_row : (count : ℕ) → length kept ≡ 0 → take count kept ≡ []
      no_row count none = ap (λ (r : List Sector). take count r) (empty kept none) ∙ take_all {A = Sector} count [] (omega arith)
        where
          empty : (row : List Sector) → length row ≡ 0 → row ≡ []
          empty [] none = refl
          empty (bytes ∷ row) none = absurd (omega arith)

  old_row : (at : ℕ) → at ≤ clock → row_at base split kept active (min at reached) ≡ take (at - base) kept
  old_row at le = row_rows base split reached at kept active (omega arith) split_now (omega arith) all

  old_moment : file.honest → (at : ℕ) → at ≤ clock → file_moment base split reached file.moment (min at reached) ≡ min at base
  old_moment honest at le = moment_rows base split reached file.moment at (omega arith) split_now (step honest) (omega arith)

  new_row : (at : ℕ) → at ≤ clock → row_at base' split' kept' active' (min at reached') ≡ take (at - base) kept
  new_row at le =
      let place : min at reached' - base' ≡ at - base = omega arith in
      row_below base' split' (min at reached') kept' active' (omega arith) ∙ ap (λ (n : ℕ). take n kept') place ∙ ap (λ (r : List Sector). take (at - base) r) more ∙ take-append-le (at - base) kept (bytes ∷ []) (omega arith)

  new_moment : (at : ℕ) → at ≤ clock → file_moment base' split' reached' file.moment (min at reached') ≡ min at base
  new_moment at le = let same : min (min at reached') base' ≡ min at base = omega arith in moment_below base' split' reached' file.moment (min at reached') (omega arith) ∙ same

  pub keep_then : (at : ℕ) (image : Image) → at ≤ clock → Before at image → After at image
  keep_then at image le left =
      left_at_same file sectors start' image (min at base) _ (take (at - base) kept) _ (sym (new_moment at le)) (sym (new_row at le))
      (moved (at - base) (min at base) image (left_at_same file sectors start image _ (min at base) _ (take (at - base) kept) (old_moment left.0 at le) (old_row at le) left))

  pub keep_was : (at : ℕ) (image : Image) → at ≤ clock → After at image → Before at image
  keep_was at image le left =
      left_at_same file sectors start image (min at base) _ (take (at - base) kept) _ (sym (old_moment left.0 at le)) (sym (old_row at le))
      (moved_back (at - base) (min at base) image (left_at_same file sectors start' image _ (min at base) _ (take (at - base) kept) (new_moment at le) (new_row at le) left))

  row_all : (row_at base split kept active (min clock reached)) ≡ take (clock - base) kept
  row_all = old_row clock (omega arith)

  pub row_now : row_at base split kept active (min clock reached) ≡ kept
  row_now = row_all ∙ take_all (clock - base) kept (omega arith)

  now_moment : file.honest → file_moment base split reached file.moment (min clock reached) ≡ file.moment
  now_moment honest = let is = step honest in let same : min clock base ≡ file.moment = omega arith in old_moment honest clock (omega arith) ∙ same

  pub keep_now_in : (image : Image) → Before clock image → LeftWithRow file sectors file.moment start' (row_at base split kept active (min clock reached)) image
  keep_now_in image left =
      left_at_same file sectors start' image file.moment file.moment (take (clock - base) kept) _ refl (sym row_all)
      (moved (clock - base) file.moment image (left_at_same file sectors start image _ file.moment _ (take (clock - base) kept) (now_moment left.0) row_all left))

  pub keep_now_out : (image : Image) → LeftWithRow file sectors file.moment start' (row_at base split kept active (min clock reached)) image → Before clock image
  keep_now_out image left =
      left_at_same file sectors start image file.moment _ (take (clock - base) kept) _ (sym (now_moment left.0)) (sym row_all)
      (moved_back (clock - base) file.moment image (left_at_same file sectors start' image file.moment file.moment _ (take (clock - base) kept) refl row_all left))

  pub row_next : row_at base' split' kept' active' (min (clock + 1) reached') ≡ row_at base split kept active (min clock reached) ++ bytes ∷ []
  row_next = row_above base' split' (min (clock + 1) reached') kept' active' (omega arith) ∙ all_next ∙ more ∙ ap (λ (r : List Sector). r ++ bytes ∷ []) (sym row_now)

  next_moment : file_moment base' split' reached' file.moment (min (clock + 1) reached') ≡ file.moment
  next_moment = let same : file.moment - (reached' - min (clock + 1) reached') ≡ file.moment = omega arith in moment_above base' split' reached' file.moment (min (clock + 1) reached') (omega arith) ∙ same

  pub keep_next_in : (image : Image) → After (clock + 1) image → LeftWithRow file sectors file.moment start' (row_at base split kept active (min clock reached) ++ bytes ∷ []) image
  keep_next_in image left = left_at_same file sectors start' image _ file.moment _ _ next_moment row_next left

  pub keep_next_out : (image : Image) → LeftWithRow file sectors file.moment start' (row_at base split kept active (min clock reached) ++ bytes ∷ []) image → After (clock + 1) image
  keep_next_out image left = left_at_same file sectors start' image file.moment _ _ _ (sym next_moment) (sym row_next) left

  pub same_content : with_row (sectors_of sectors file.bytes) start (row_at base split kept active (min clock reached)) ≡ with_row (sectors_of sectors file.bytes) start' (row_at base split kept active (min clock reached))
  same_content =
      ⊎_elim
      (λ (none : length kept ≡ 0).
      let nothing : row_at base split kept active (min clock reached) ≡ [] = row_now ∙ empty kept none in
      ap (λ (r : List Sector). with_row (sectors_of sectors file.bytes) start r) nothing ∙ sym (ap (λ (r : List Sector). with_row (sectors_of sectors file.bytes) start' r) nothing))
      (λ (same : start' ≡ start). ap (λ (s : ℕ). with_row (sectors_of sectors file.bytes) s (row_at base split kept active (min clock reached))) (sym same))
      first
    where
      empty : (row : List Sector) → length row ≡ 0 → row ≡ []
      empty [] none = refl
      empty (bytes ∷ row) none = absurd (omega arith)
