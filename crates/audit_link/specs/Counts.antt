-- Numbers of events by kind.
use Rattle.std.specs.Prelude.{◌≡◌, ℕ, ◌+◌, ◌<◌, ◌≤◌, ◌^◌, ◌==◌, nat_lt, List, [], ◌∷◌, length, if◌then◌else◌}
use Rattle.audit_base.specs.declared.limits.TheConstants.{RESERVED_KIND}
use Rattle.audit_link.specs.declared.kind_count.KindCount.{KindCount}
use Rattle.audit_link.specs.declared.counts.TheConstants.{MAX_KINDS}
use Rattle.audit_link.specs.declared.counts_error.CountsError.{CountsError}
use Rattle.audit_link.specs.declared.counts_error.CountsError.TheVariants.{Reserved, TooManyKinds, TooManyEvents, Memory}

-- a kind that an event may have, and a number of eight bytes, at least one
pub record IsCount (counted : KindCount) : Type 0 where
  pub kind : counted.kind < RESERVED_KIND
  pub some : 1 ≤ counted.count
  pub small : counted.count < 2 ^ 64

-- the kinds ascend, and none is below the lowest
abbrev pub Ascends : ℕ → List KindCount → Type 0
Ascends lowest [] = Unit {0}
Ascends lowest (counted ∷ more) = (lowest ≤ counted.kind) × IsCount counted × Ascends (counted.kind + 1) more

-- each kind once, in ascending order, and not too many
pub record AreCounts (counts : List KindCount) : Type 0 where
  pub ascend : Ascends 0 counts
  pub few : length counts ≤ MAX_KINDS

-- how many events of a kind there are
abbrev pub count_of : ℕ → List KindCount → ℕ
count_of kind [] = 0
count_of kind (counted ∷ more) = if counted.kind == kind then counted.count else count_of kind more

-- one more event of a kind
unfoldable pub added : ℕ → List KindCount → List KindCount
added kind [] = record { kind = kind; count = 1 } ∷ []
added kind (counted ∷ more) =
    if counted.kind == kind then record { kind = counted.kind; count = counted.count + 1 } ∷ more
    else (if nat_lt kind counted.kind then record { kind = kind; count = 1 } ∷ counted ∷ more
    else counted ∷ added kind more)

-- one more event of each of these kinds
abbrev pub added_all : List ℕ → List KindCount → List KindCount
added_all [] counts = counts
added_all (kind ∷ kinds) counts = added_all kinds (added kind counts)

-- why an event isn't counted
abbrev pub IsUncounted : ℕ → List KindCount → CountsError → Type 0
IsUncounted kind counts Reserved = kind ≡ RESERVED_KIND
IsUncounted kind counts TooManyKinds = MAX_KINDS < length (added kind counts)
IsUncounted kind counts TooManyEvents = 2 ^ 64 ≤ count_of kind counts + 1
IsUncounted kind counts Memory = Unit {0}
