-- The result of opening the entry of the proof in a file with the key of its keystream.
use Rattle.std.specs.Prelude.{◌≡◌, ◌≢◌, ◌⊎◌, ℕ, Option, Some, None, IfSome, Result, Ok, Err, List, length, codes}
use Rattle.std.specs.Result.{result_ok}
use Rattle.std.specs.Io.KnownBytes.{Appends, Keeps}
use Rattle.hex.specs.Hex.{decode_sized}
use Rattle.audit_disk.specs.FileFacts.{FileFacts}
use Rattle.audit_text.specs.Writing.{WritesInPart}
use Rattle.audit_text.specs.declared.fault.LinesError.TheVariants as lines
use Rattle.audit_chain.specs.EntryForm.{EntryParts}
use Rattle.audit_proof.specs.declared.commitment.Commitment.{Commitment}
use Rattle.audit_cli_offline.specs.declared.report_form.ReportForm.{ReportForm}
use Rattle.audit_cli_offline.specs.CommitmentWord.{commitment_in_word}
use Rattle.audit_cli_offline.specs.OpenedEntry.{IsEntryOf, read_under}
use Rattle.audit_cli_offline.specs.ReportLines.{event_text}
use Rattle.audit_store.specs.declared.store_error.StoreError.TheVariants as store
use Rattle.audit_cli_base.specs.declared.fault.CommandError.{CommandError}
use Rattle.audit_cli_base.specs.declared.fault.CommandError.TheVariants.{BadArgument, Lines, Refused, BadProof}
use Rattle.audit_cli_base.specs.declared.fault.CommandError.TheVariants.{NotAccepted}
use Rattle.audit_cli_store.specs.Checks.{IsAcceptedMember, IsNotAccepted, IsOfOtherKind, IsNoProof}
use Rattle.audit_cli_store.specs.declared.opening.Opening.{Opening}

-- what opening an entry at an index with a key returns, the number of its payload's bytes, and writes
abbrev pub WritesEvent : ReportForm → List ℕ → ℕ → List ℕ → Result ℕ CommandError → Option (List ℕ)
    → Option (List ℕ) → Type 0
WritesEvent form key index entry (Ok size) old new = (parts : EntryParts) × IsEntryOf entry parts
    × (size ≡ length parts.cipher) × Appends old new (event_text form index (read_under key parts))
WritesEvent form key index entry (Err BadProof) old new = ((parts : EntryParts) → ¬ IsEntryOf entry parts)
    × Keeps old new
WritesEvent form key index entry (Err (Lines lines.Write)) old new = (parts : EntryParts) × IsEntryOf entry parts
    × WritesInPart old new (event_text form index (read_under key parts))
WritesEvent form key index entry (Err (Lines lines.Memory)) old new = Keeps old new
WritesEvent form key index entry (Err (Refused error)) old new = (error ≡ store.Memory) × Keeps old new
WritesEvent form key index entry _ old new = ⊥

-- the key in a word: 64 hex digits in either case
abbrev pub key_in_word : List ℕ → Option (List ℕ)
key_in_word word = result_ok (decode_sized word 32)

-- a second commitment is given, a word isn't a commitment, or the other one isn't a key
abbrev pub HasWrongWords : Opening → Type 0
HasWrongWords asked = (asked.newer ≢ None)
    ⊎ ((commitment_in_word asked.commitment.now ≡ None) ⊎ (key_in_word asked.key.now ≡ None))

-- the bytes are an accepted membership proof, whose entry has these parts
pub record IsAcceptedEntry (bytes : List ℕ) (commitment : Commitment) : Type 0 where
  pub member : IsAcceptedMember bytes commitment
  pub parts : EntryParts
  pub entry : IsEntryOf member.proof.entry parts

-- the bytes are an accepted membership proof of something that isn't one entry
pub record IsAcceptedOther (bytes : List ℕ) (commitment : Commitment) : Type 0 where
  pub member : IsAcceptedMember bytes commitment
  pub other : (parts : EntryParts) → ¬ IsEntryOf member.proof.entry parts

-- the event that the entry of an accepted proof reads as under a key, as it is printed in a form
abbrev pub opened_text : {bytes : List ℕ} {commitment : Commitment} → ReportForm → List ℕ
    → IsAcceptedEntry bytes commitment → List ℕ
opened_text form key found = event_text form found.member.proof.index (read_under key found.parts)

-- a prefix of what was due was written: the event, or that the proof isn't accepted
abbrev pub WritesOpenedInPart : ReportForm → List ℕ → List ℕ → Commitment → Option (List ℕ) → Option (List ℕ) → Type 0
WritesOpenedInPart form key bytes commitment old new =
    ((found : IsAcceptedEntry bytes commitment) × WritesInPart old new (opened_text form key found))
    ⊎ (IsNotAccepted bytes commitment None × WritesInPart old new (codes "not accepted\n"))

-- what the result, the number of the payload's bytes, states about the bytes of a proof, and what was written
abbrev pub IsProofOpened : ReportForm → List ℕ → Result ℕ CommandError → List ℕ → Commitment → Option (List ℕ)
    → Option (List ℕ) → Type 0
IsProofOpened form key (Ok size) bytes commitment old new = (found : IsAcceptedEntry bytes commitment)
    × (size ≡ length found.parts.cipher) × Appends old new (opened_text form key found)
IsProofOpened form key (Err NotAccepted) bytes commitment old new = IsNotAccepted bytes commitment None
    × Appends old new (codes "not accepted\n")
IsProofOpened form key (Err BadArgument) bytes commitment old new = IsOfOtherKind bytes None × Keeps old new
IsProofOpened form key (Err BadProof) bytes commitment old new =
    (IsNoProof bytes ⊎ IsAcceptedOther bytes commitment) × Keeps old new
IsProofOpened form key (Err (Lines lines.Read)) bytes commitment old new = Keeps old new
IsProofOpened form key (Err (Lines lines.Memory)) bytes commitment old new = Keeps old new
IsProofOpened form key (Err (Lines lines.Write)) bytes commitment old new =
    WritesOpenedInPart form key bytes commitment old new
IsProofOpened form key (Err (Refused error)) bytes commitment old new = (error ≡ store.Memory) × Keeps old new
IsProofOpened form key _ bytes commitment old new = ⊥

module _ {F : Type 0} (facts : F → FileFacts) (remaining : F → Option (List ℕ)) where
  -- the event of the accepted proof in a file that was opened at the named path, to read, was written, as its entry reads
  -- under the key
  pub record OpensProofAt (asked : Opening) (before after : Option (List ℕ)) : Type 0 where
    pub file : F
    pub opened : (facts file).opened_to_read asked.proof.now
    pub commitment : Commitment
    pub commitment_is : commitment_in_word asked.commitment.now ≡ Some commitment
    pub key : List ℕ
    pub key_is : key_in_word asked.key.now ≡ Some key
    pub written : IfSome (remaining file) (λ bytes. (found : IsAcceptedEntry bytes commitment)
        × Appends before after (opened_text asked.form key found))
