-- What a witness keeps.
use Rattle.std.specs.Prelude.{◌≡◌, ◌⊎◌, ◌<◌, Option, Some, None, List, [], ◌∷◌, ◌++◌}
use Rattle.audit_proof.specs.declared.commitment.Commitment.{Commitment}
use Rattle.audit_wire_ask.specs.declared.watching.Sight.{Sight}
use Rattle.audit_wire_ask.specs.declared.watching.Sight.TheVariants.{Began, Same, Grew}
use Rattle.audit_wire_ask.specs.Joined.{IsJoined}

-- the last of the commitments
abbrev pub last_kept : List Commitment → Option Commitment
last_kept [] = None
last_kept (only ∷ []) = Some only
last_kept (first ∷ second ∷ later) = last_kept (second ∷ later)

-- a commitment that may be added: the first, or one of more entries to which the newest is joined
abbrev pub FollowsKept : Option Commitment → Commitment → Type 0
FollowsKept None seen = Unit {0}
FollowsKept (Some newest) seen = (newest.count < seen.count) × IsJoined newest seen

-- the same commitments are kept, or one more that may follow
abbrev pub KeepsOn : List Commitment → List Commitment → Type 0
KeepsOn old new = (new ≡ old) ⊎ ((seen : Commitment) × (new ≡ old ++ seen ∷ []) × FollowsKept (last_kept old) seen)

-- what is kept after a sight
abbrev pub KeepsSight : List Commitment → List Commitment → Sight → Type 0
KeepsSight old new (Began seen) = new ≡ old ++ seen ∷ []
KeepsSight old new (Same seen) = new ≡ old
KeepsSight old new (Grew seen) = new ≡ old ++ seen ∷ []

-- what was kept after each of several runs, one after another
abbrev pub AreRuns : List Commitment → List (List Commitment) → Type 0
AreRuns start [] = Unit {0}
AreRuns start (next ∷ later) = KeepsOn start next × AreRuns next later

-- what is kept at the end of several runs
abbrev pub kept_after : List Commitment → List (List Commitment) → List Commitment
kept_after start [] = start
kept_after start (next ∷ later) = kept_after next later
