-- Commitments of one log, each joined to the next by an increment.
use Rattle.std.specs.Prelude.{◌≡◌, ◌⊎◌, ℕ, List, [], ◌∷◌}
use Rattle.sha2.specs.Sha256.{sha256}
use Rattle.audit_base.specs.Hashes.{AreHashes}
use Rattle.audit_proof.specs.declared.commitment.Commitment.{Commitment}
use Rattle.audit_proof.specs.Acceptance.{AcceptsIncrement}

-- An accepted increment of whole hashes leads from the older commitment to the newer. From the empty log, whose
-- commitment says nothing, every other follows.
abbrev pub IsJoined : Commitment → Commitment → Type 0
IsJoined older newer = (older.count ≡ 0)
    ⊎ ((hashes : List (List ℕ)) × AcceptsIncrement sha256 older newer hashes × AreHashes hashes)

-- each is joined to the next
abbrev pub AreJoined : List Commitment → Type 0
AreJoined [] = Unit {0}
AreJoined (first ∷ []) = Unit {0}
AreJoined (first ∷ second ∷ later) = IsJoined first second × AreJoined (second ∷ later)

-- a commitment that the newest vouches for: it is the newest, or an increment leads from it to the newest
abbrev pub IsVouchedFor : Commitment → Commitment → Type 0
IsVouchedFor older newest =
    (older ≡ newest) ⊎ ((hashes : List (List ℕ)) × AcceptsIncrement sha256 older newest hashes × AreHashes hashes)
