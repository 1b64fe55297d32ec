-- Answers that are put into a file.
use Rattle.std.specs.Prelude.{◌≡◌, ◌⊎◌, ℕ, Option, Some, None, List}
use Rattle.std.specs.List.{concat}
use Rattle.audit_proof.specs.declared.commitment.Commitment.{Commitment}
use Rattle.audit_proof.specs.ProofBytes.{Member, Increment, member_bytes, increment_bytes}
use Rattle.audit_wire_ask.specs.Asking.{AnswersEntry, AnswersMember, AnswersIncrement}
use Rattle.audit_wire_ask.specs.Exporting.{GivesExport}

-- a file was put, and these are its bytes, where they are known
abbrev pub IsFile : Option (Option (List ℕ)) → List ℕ → Type 0
IsFile None bytes = ⊥
IsFile (Some None) bytes = Unit {0}
IsFile (Some (Some known)) bytes = known ≡ bytes

-- nothing was put, or a file of accepted bytes
abbrev pub PutsOnly : Option (Option (List ℕ)) → Option (Option (List ℕ)) → (List ℕ → Type 0) → Type 0
PutsOnly old new IsAccepted = (new ≡ old) ⊎ ((bytes : List ℕ) × IsAccepted bytes × IsFile new bytes)

-- the bytes of the entry of an index, which is accepted under the commitment that the server gave
abbrev pub IsGivenEntry : Option (List ℕ) → Option (List ℕ) → Option (List ℕ) → Option (List ℕ) → ℕ → List ℕ → Type 0
IsGivenEntry written_old written_new read_old read_new index bytes =
    (newest : Commitment) × AnswersEntry written_old written_new read_old read_new newest index bytes

-- the bytes of a membership proof for this index and count, which is accepted under a commitment for which that one
-- vouches
abbrev pub IsGivenMember : Option (List ℕ) → Option (List ℕ) → Option (List ℕ) → Option (List ℕ) → ℕ → ℕ → List ℕ
    → Type 0
IsGivenMember written_old written_new read_old read_new index count bytes = (newest : Commitment) × (proof : Member)
    × (proof.index ≡ index) × (proof.count ≡ count) × (bytes ≡ member_bytes proof)
    × AnswersMember written_old written_new read_old read_new newest proof

-- the same of an incremental proof between two counts
abbrev pub IsGivenIncrement : Option (List ℕ) → Option (List ℕ) → Option (List ℕ) → Option (List ℕ) → ℕ → ℕ → List ℕ
    → Type 0
IsGivenIncrement written_old written_new read_old read_new older newer bytes =
    (newest : Commitment) × (proof : Increment)
    × (proof.older ≡ older) × (proof.newer ≡ newer) × (bytes ≡ increment_bytes proof)
    × AnswersIncrement written_old written_new read_old read_new newest proof

-- the bytes of all entries from one index on, to which, after what came before, the commitment that the server gave is
-- the commitment
abbrev pub AreGivenEntries : Option (List ℕ) → Option (List ℕ) → Option (List ℕ) → Option (List ℕ) → ℕ → List ℕ → Type 0
AreGivenEntries written_old written_new read_old read_new first bytes = (entries : List (List ℕ))
    × GivesExport written_old written_new read_old read_new first entries × (bytes ≡ concat entries)
