-- A newest commitment that is judged by a witness, and by what a reader kept.
use Rattle.std.specs.Prelude.{◌≡◌, ◌≢◌, ◌⊎◌, ◌<◌, ℕ, Option, Some, List}
use Rattle.audit_proof.specs.declared.commitment.Commitment.{Commitment}
use Rattle.audit_wire_ask.specs.declared.fault.ClientError.{ClientError}
use Rattle.audit_wire_ask.specs.declared.fault.ClientError.TheVariants as client
use Rattle.audit_wire_ask.specs.Failing.{FailsWatch, FailsJoiningBy}
use Rattle.audit_wire_read.specs.declared.not_under.NotUnder.{NotUnder}
use Rattle.audit_wire_read.specs.declared.under.TheConstants.{KEPT_TAG}
use Rattle.audit_wire_read.specs.Newest.{SeesNewest}

-- It is of fewer entries than the one that was kept, or of as many and another one; or the increment to it didn't come
-- or isn't accepted.
abbrev pub IsNotAfter : Option (List ℕ) → Option (List ℕ) → Option (List ℕ) → Option (List ℕ) → Commitment → Commitment
    → ClientError → Type 0
IsNotAfter written_old written_new read_old read_new kept newest error =
    ((error ≡ client.Shorter) × (newest.count < kept.count))
    ⊎ (((error ≡ client.OtherRoot) × (newest.count ≡ kept.count) × (newest ≢ kept))
    ⊎ ((kept.count < newest.count)
    × FailsJoiningBy KEPT_TAG written_old written_new read_old read_new kept newest error))

-- It didn't come, or isn't believed after the one that the witness saw; or it isn't after the one that was kept. The
-- fault has the one of the two by which it was judged.
abbrev pub FailsUnder : Option (List ℕ) → Option (List ℕ) → Option (List ℕ) → Option (List ℕ) → Commitment → Commitment
    → NotUnder → Type 0
FailsUnder written_old written_new read_old read_new kept witnessed fault =
    ((fault.held ≡ witnessed) × FailsWatch written_old written_new read_old read_new (Some witnessed) fault.unseen)
    ⊎ ((fault.held ≡ kept) × (newest : Commitment) × (fault.unseen.given ≡ Some newest)
    × (written read : Option (List ℕ)) × SeesNewest written_old written read_old read witnessed newest
    × IsNotAfter written written_new read read_new kept newest fault.unseen.error)
