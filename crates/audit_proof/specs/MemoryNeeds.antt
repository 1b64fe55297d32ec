-- For what a search for a collision over any hash function needs memory.
use Rattle.std.specs.Prelude.{◌≢◌, ◌⊎◌, ℕ, ◌<◌, List, length}
use Rattle.audit_base.specs.declared.limits.TheConstants.{MAX_ENTRY}
use Rattle.audit_proof.specs.declared.commitment.Commitment.{Commitment}
use Rattle.audit_proof.specs.Acceptance.{AcceptsMembership, LeadsUp}

-- for a leaf's text, to judge its proof: the entry is longer than any of a log, and the hashes lead to a root
pub record NeedsText (H : List ℕ → List ℕ) (commitment : Commitment) (place : ℕ) (entry : List ℕ)
    (hashes : List (List ℕ)) : Type 0 where
  pub long : MAX_ENTRY < length entry
  pub leads : LeadsUp H commitment.count place hashes

-- for two texts of one value: both proofs are accepted, and the entries differ
pub record NeedsTexts (H : List ℕ → List ℕ) (older newer : Commitment) (place : ℕ) (entry1 : List ℕ)
    (hashes1 : List (List ℕ)) (entry2 : List ℕ) (hashes2 : List (List ℕ)) : Type 0 where
  pub first : AcceptsMembership H older place entry1 hashes1
  pub second : AcceptsMembership H newer place entry2 hashes2
  pub differ : entry1 ≢ entry2

-- for the first text, if both proofs' hashes lead to a root; otherwise for the second one, if the first proof is
-- accepted; otherwise for both
abbrev pub NeedsMemory : (List ℕ → List ℕ) → Commitment → Commitment → ℕ → List ℕ → List (List ℕ) → List ℕ
    → List (List ℕ) → Type 0
NeedsMemory H older newer place entry1 hashes1 entry2 hashes2 =
    (NeedsText H older place entry1 hashes1 × LeadsUp H newer.count place hashes2)
    ⊎ ((AcceptsMembership H older place entry1 hashes1 × NeedsText H newer place entry2 hashes2)
    ⊎ NeedsTexts H older newer place entry1 hashes1 entry2 hashes2)
