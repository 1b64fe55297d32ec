-- The newest commitment of a log that is read on.
use Rattle.std.specs.Prelude.{◌≡◌, ◌⊎◌, ◌<◌, ℕ, Option, Some, List}
use Rattle.audit_proof.specs.declared.commitment.Commitment.{Commitment}
use Rattle.audit_wire_ask.specs.declared.watching.Sight.{Sight}
use Rattle.audit_wire_ask.specs.declared.watching.Sight.TheVariants.{Began, Same, Grew}
use Rattle.audit_wire_ask.specs.Joined.{IsJoined}
use Rattle.audit_wire_ask.specs.Watching.{Sees}

-- the commitment that was seen
abbrev pub seen_in : Sight → Commitment
seen_in (Began seen) = seen
seen_in (Same seen) = seen
seen_in (Grew seen) = seen

-- the newest commitment was asked for and given after the one that was kept, as a witness sees it
pub record SeesNewest (written_old written_new read_old read_new : Option (List ℕ)) (kept newest : Commitment)
    : Type 0 where
  pub sight : Sight
  pub sees : Sees written_old written_new read_old read_new (Some kept) sight
  pub newest_is : newest ≡ seen_in sight

-- it is the commitment that was kept, or one of more entries to which that one is joined
abbrev pub Extends : Commitment → Commitment → Type 0
Extends kept newest = (newest ≡ kept) ⊎ ((kept.count < newest.count) × IsJoined kept newest)

-- the server gave it first of all, and it extends the one that was kept
pub record IsNewest (written_old read_old : Option (List ℕ)) (kept newest : Commitment) : Type 0 where
  pub written : Option (List ℕ)
  pub read : Option (List ℕ)
  pub sees : SeesNewest written_old written read_old read kept newest
  pub extends : Extends kept newest
