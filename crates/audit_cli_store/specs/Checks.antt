-- The result of checking the proof in a file against one commitment or two.
use denote.Ref.{Bor}
use Rattle.std.specs.Prelude.{◌≡◌, ◌≢◌, ◌⊎◌, Bool, true, false, Option, Some, None, Result, Ok, Err, ℕ}
use Rattle.std.specs.Prelude.{List, [], ◌++◌, codes, IfSome}
use Rattle.std.specs.Io.KnownBytes.{Appends, Keeps}
use Rattle.sha2.specs.Sha256.{sha256}
use Rattle.audit_disk.specs.FileFacts.{FileFacts}
use Rattle.audit_text.specs.Writing.{WritesInPart}
use Rattle.audit_text.specs.declared.fault.LinesError.TheVariants as lines
use Rattle.audit_proof.specs.declared.commitment.Commitment.{Commitment}
use Rattle.audit_proof.specs.Acceptance.{AcceptsMembership, AcceptsIncrement}
use Rattle.audit_proof.specs.ProofBytes.{Member, Increment, member_of, increment_of}
use Rattle.audit_cli_offline.specs.declared.check_form.CheckForm.{CheckForm}
use Rattle.audit_cli_offline.specs.declared.check_form.CheckForm.TheVariants.{Judgment, Contents}
use Rattle.audit_cli_offline.specs.Judgment.{SpellsProof}
use Rattle.audit_cli_offline.specs.ProofLines.{member_line, increment_line}
use Rattle.audit_store.specs.declared.store_error.StoreError.TheVariants as store
use Rattle.audit_cli_base.specs.Arguments.{IsCommitmentAsked}
use Rattle.audit_cli_base.specs.declared.fault.CommandError.{CommandError}
use Rattle.audit_cli_base.specs.declared.fault.CommandError.TheVariants.{BadArgument}
use Rattle.audit_cli_base.specs.declared.fault.CommandError.TheVariants.{Lines, Refused}
use Rattle.audit_cli_base.specs.declared.fault.CommandError.TheVariants.{BadProof, NotAccepted}
use Rattle.audit_cli_store.specs.declared.checking.Judged.{Judged}

-- the bytes are a membership proof of the commitment's count, and it is accepted
pub record IsAcceptedMember (bytes : List ℕ) (commitment : Commitment) : Type 0 where
  pub proof : Member
  pub spelled : member_of bytes ≡ Some proof
  pub count : proof.count ≡ commitment.count
  pub accepted : AcceptsMembership sha256 commitment proof.index proof.entry proof.hashes

-- the bytes are an incremental proof between the commitments' counts, and it is accepted
pub record IsAcceptedIncrement (bytes : List ℕ) (older newer : Commitment) : Type 0 where
  pub proof : Increment
  pub spelled : increment_of bytes ≡ Some proof
  pub older_count : proof.older ≡ older.count
  pub newer_count : proof.newer ≡ newer.count
  pub accepted : AcceptsIncrement sha256 older newer proof.hashes

-- with one commitment a membership proof, with two an incremental proof
abbrev pub IsAccepted : List ℕ → Commitment → Option Commitment → Type 0
IsAccepted bytes older None = IsAcceptedMember bytes older
IsAccepted bytes older (Some newer) = IsAcceptedIncrement bytes older newer

-- the bytes are a proof of the kind that is checked against this number of commitments
abbrev pub IsProofKind : List ℕ → Option Commitment → Type 0
IsProofKind bytes None = member_of bytes ≢ None
IsProofKind bytes (Some newer) = increment_of bytes ≢ None

-- the bytes are such a proof, and it isn't accepted
pub record IsNotAccepted (bytes : List ℕ) (older : Commitment) (newer : Option Commitment) : Type 0 where
  pub kind : IsProofKind bytes newer
  pub refused : ¬ IsAccepted bytes older newer

-- the bytes are a proof of the other kind
pub record IsOfOtherKind (bytes : List ℕ) (newer : Option Commitment) : Type 0 where
  pub proof : (member_of bytes ≢ None) ⊎ (increment_of bytes ≢ None)
  pub other : ¬ IsProofKind bytes newer

-- the bytes aren't a proof
pub record IsNoProof (bytes : List ℕ) : Type 0 where
  pub member : member_of bytes ≡ None
  pub increment : increment_of bytes ≡ None

-- why no proof was read
abbrev pub IsUnread : CommandError → List ℕ → Type 0
IsUnread BadProof bytes = IsNoProof bytes
IsUnread (Lines cause) bytes = (cause ≡ lines.Read) ⊎ (cause ≡ lines.Memory)
IsUnread (Refused error) bytes = error ≡ store.Memory
IsUnread _ bytes = ⊥

-- what the judgment states about the bytes
abbrev pub IsProofJudged : Result Bool CommandError → List ℕ → Commitment → Option Commitment → Type 0
IsProofJudged (Ok true) bytes older newer = IsAccepted bytes older newer
IsProofJudged (Ok false) bytes older newer = IsNotAccepted bytes older newer
IsProofJudged (Err fault) bytes older newer = IsUnread fault bytes ⊎ ((fault ≡ BadArgument) × IsOfOtherKind bytes newer)

-- what the judgment with the proof states about the bytes
abbrev pub IsReadAndJudged : Result Judged CommandError → List ℕ → Commitment → Option Commitment → Type 0
IsReadAndJudged (Ok judged) bytes older newer =
    SpellsProof bytes judged.proof × IsProofJudged (Ok judged.accepted) bytes older newer
IsReadAndJudged (Err fault) bytes older newer = IsProofJudged (Err fault) bytes older newer

-- what a proof is about, as a line; bytes encode at most one proof
abbrev pub contents_line : Option Member → Option Increment → List ℕ
contents_line (Some proof) other = member_line proof
contents_line None (Some proof) = increment_line proof
contents_line None None = []

-- the lines for the accepted proof that the bytes encode
abbrev pub accepted_lines : CheckForm → List ℕ → List ℕ
accepted_lines Judgment bytes = codes "accepted\n"
accepted_lines Contents bytes = codes "accepted\n" ++ contents_line (member_of bytes) (increment_of bytes)

-- a prefix of the lines with the judgment was written
abbrev pub WritesLinesInPart : CheckForm → List ℕ → Commitment → Option Commitment → Option (List ℕ)
    → Option (List ℕ) → Type 0
WritesLinesInPart form bytes older newer old new =
    (IsAccepted bytes older newer × WritesInPart old new (accepted_lines form bytes))
    ⊎ (IsNotAccepted bytes older newer × WritesInPart old new (codes "not accepted\n"))

-- what the result of a check states about the bytes, and what was written
abbrev pub IsChecked : CheckForm → Result Unit CommandError → List ℕ → Commitment → Option Commitment
    → Option (List ℕ) → Option (List ℕ) → Type 0
IsChecked form (Ok _) bytes older newer old new = IsAccepted bytes older newer
    × Appends old new (accepted_lines form bytes)
IsChecked form (Err NotAccepted) bytes older newer old new = IsNotAccepted bytes older newer
    × Appends old new (codes "not accepted\n")
IsChecked form (Err BadArgument) bytes older newer old new = IsOfOtherKind bytes newer × Keeps old new
IsChecked form (Err BadProof) bytes older newer old new = IsNoProof bytes × Keeps old new
IsChecked form (Err (Lines lines.Read)) bytes older newer old new = Keeps old new
IsChecked form (Err (Lines lines.Memory)) bytes older newer old new = Keeps old new
IsChecked form (Err (Lines lines.Write)) bytes older newer old new =
    WritesLinesInPart form bytes older newer old new
IsChecked form (Err (Refused error)) bytes older newer old new = (error ≡ store.Memory) × Keeps old new
IsChecked form _ bytes older newer old new = ⊥

-- the fault isn't in the bytes: reading or writing failed, or memory was refused
abbrev pub IsFailure : CommandError → Type 0
IsFailure (Lines cause) = (cause ≡ lines.Read) ⊎ ((cause ≡ lines.Write) ⊎ (cause ≡ lines.Memory))
IsFailure (Refused error) = error ≡ store.Memory
IsFailure _ = ⊥

module _ {F : Type 0} (facts : F → FileFacts) (remaining : F → Option (List ℕ)) where
  -- a file that was opened at this path, to read, has a proof of the other kind than the words for commitments ask for
  pub record HasOtherKindAt (path : List ℕ) (word : Option (Bor (List ℕ))) : Type 0 where
    pub file : F
    pub opened : (facts file).opened_to_read path
    pub newer : Option Commitment
    pub newer_is : IsCommitmentAsked word newer
    pub other : IfSome (remaining file) (λ bytes. IsOfOtherKind bytes newer)
