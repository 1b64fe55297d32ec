-- Where a kind is counted.
use Rattle.std.specs.Prelude.{◌≡◌, ℕ, ◌+◌, ◌<◌, ◌≤◌, List, length, slice_set}
use Rattle.std.specs.List.{insert}
use Rattle.audit_link.specs.declared.counts.Place.{Place}
use Rattle.audit_link.specs.declared.counts.Place.TheVariants.{At, Before}
use Rattle.audit_link.specs.declared.kind_count.KindCount.{KindCount}
use Rattle.audit_link.specs.Counts.{Ascends, count_of, added}

-- the kinds ascend
abbrev pub IsAscending : List KindCount → Type 0
IsAscending counts = (lowest : ℕ) × Ascends lowest counts

-- one more event of the kind changes the number at a place, or puts the kind before the one at a place
pub record IsAt (kind : ℕ) (counts : List KindCount) (place count : ℕ) : Type 0 where
  pub within : place < length counts
  pub count_is : count_of kind counts ≡ count
  pub added_is : added kind counts ≡ slice_set counts place (record { kind = kind; count = count + 1 })

pub record IsBefore (kind : ℕ) (counts : List KindCount) (place : ℕ) : Type 0 where
  pub within : place ≤ length counts
  pub count_is : count_of kind counts ≡ 0
  pub added_is : added kind counts ≡ insert counts place (record { kind = kind; count = 1 })

abbrev pub IsPlaceOf : ℕ → List KindCount → Place → Type 0
IsPlaceOf kind counts (At place count) = IsAt kind counts place count
IsPlaceOf kind counts (Before place) = IsBefore kind counts place
