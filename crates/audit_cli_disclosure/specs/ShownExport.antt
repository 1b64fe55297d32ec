-- What judging an export without a key of its log, and printing it, writes. The first pass matches or refuses the
-- export. The second reads it again and writes its lines.
use Rattle.std.specs.Prelude.{◌≡◌, ◌≢◌, ◌⊎◌, ℕ, ◌+◌, ◌<◌, Option, List, [], ◌++◌, length, IfSome}
use Rattle.std.specs.Io.KnownBytes.{Appends, Keeps}
use Rattle.audit_chain.specs.EntryForm.{EntryParts}
use Rattle.audit_text.specs.Writing.{WritesInPart}
use Rattle.audit_text.specs.declared.fault.LinesError.TheVariants as lines
use Rattle.audit_proof.specs.declared.commitment.Commitment.{Commitment}
use Rattle.audit_verify.specs.declared.accepted.Accepted.{Accepted}
use Rattle.audit_verify.specs.declared.fault.Cause.{Cause}
use Rattle.audit_verify.specs.declared.fault.Cause.TheVariants.{WrongCommitment, ReadFault}
use Rattle.audit_verify.specs.declared.fault.VerifyFault.{VerifyFault}
use Rattle.audit_verify.specs.declared.verifying.TheConstants.{BYTE_LIMIT}
use Rattle.audit_disclosure.specs.declared.disclosure.DisclosedKey.{DisclosedKey}
use Rattle.audit_disclosure.specs.declared.disclosure.Start.{Start}
use Rattle.audit_disclosure.specs.LinkedEntries.{MayFollowStart, IsMatched, IsUnmatched, IsUnlinkedThen}
use Rattle.audit_disclosure.specs.LinkedEntries.{bytes_of_entries}
use Rattle.audit_disclosure.specs.LinkReading.{end_of_entries}
use Rattle.audit_disclosure.specs.SameSealed.{AreSameSealed}
use Rattle.audit_cli_offline.specs.declared.fault.OfflineError.{OfflineError}
use Rattle.audit_cli_offline.specs.declared.fault.OfflineError.TheVariants.{Export, Lines}
use Rattle.audit_cli_offline.specs.declared.report_form.ReportForm.{ReportForm}
use Rattle.audit_cli_offline.specs.VerifiedExport.{IsUnwrittenReport}
use Rattle.audit_cli_disclosure.specs.ShownReport.{shown_entry_lines, shown_report}

-- the bytes begin with entries that may follow a start, and then comes this rest
pub record BeginsWithEntries (start : Start) (bytes : List ℕ) (entries : List EntryParts) (rest : List ℕ) : Type 0 where
  pub follow : MayFollowStart start entries
  pub split : bytes ≡ bytes_of_entries entries ++ rest

-- nothing follows the entries, and the log has another end than the accepted one
pub record EndsOtherwise (start : Start) (accepted : Accepted) (entries : List EntryParts) (rest : List ℕ)
    (cause : Cause) : Type 0 where
  pub whole : rest ≡ []
  pub cause_is : cause ≡ WrongCommitment
  pub other : accepted ≢ end_of_entries start entries

-- What is printed of an export that begins after this start, with these keys, in this form.
module _ (form : ReportForm) (start : Start) (keys : List DisclosedKey) where
  -- the second pass: these bytes are entries after which the log ends as the accepted one does, and their report was
  -- written
  pub record WritesShown (accepted : Accepted) (again : List ℕ) (old new : Option (List ℕ)) : Type 0 where
    pub entries : List EntryParts
    pub begins : BeginsWithEntries start again entries []
    pub same_end : accepted ≡ end_of_entries start entries
    pub written : Appends old new (shown_report form start keys entries)

  -- these bytes have a fault after some entries, or another end, and the lines of these entries were written
  pub record StopsShown (accepted : Accepted) (again : List ℕ) (old new : Option (List ℕ)) (fault : VerifyFault)
      : Type 0 where
    pub entries : List EntryParts
    pub rest : List ℕ
    pub begins : BeginsWithEntries start again entries rest
    pub index : fault.index ≡ start.tree.count + length entries
    pub wrong : IsUnlinkedThen fault.cause start entries rest ⊎ EndsOtherwise start accepted entries rest fault.cause
    pub written : Appends old new (shown_entry_lines form keys start.tree.count entries)

  -- the lines of linked entries were written, the last one in part
  pub record WritesShownPart (again : List ℕ) (old new : Option (List ℕ)) : Type 0 where
    pub entries : List EntryParts
    pub rest : List ℕ
    pub begins : BeginsWithEntries start again entries rest
    pub part : WritesInPart old new (shown_report form start keys entries)

  -- the lines of linked entries were written, each of them whole
  pub record WritesShownLines (again : List ℕ) (old new : Option (List ℕ)) : Type 0 where
    pub entries : List EntryParts
    pub rest : List ℕ
    pub begins : BeginsWithEntries start again entries rest
    pub written : Appends old new (shown_entry_lines form keys start.tree.count entries)

  -- a fault of the second pass
  abbrev pub FailsShownAgain : OfflineError → Accepted → List ℕ → Option (List ℕ) → Option (List ℕ) → Type 0
  FailsShownAgain (Export fault) accepted again old new = StopsShown accepted again old new fault
  FailsShownAgain (Lines lines.Write) accepted again old new = WritesShownPart again old new
  FailsShownAgain (Lines lines.Memory) accepted again old new = WritesShownLines again old new
  FailsShownAgain _ accepted again old new = ⊥

  -- Both passes. The first bytes match the commitment, and this is how their log ends. The second ones have the same
  -- end, and with it the same kinds and ciphers, or two texts have one SHA-256; and their report was written.
  pub record ShowsTwice (commitment : Commitment) (bytes again : List ℕ) (end : Accepted)
      (old new : Option (List ℕ)) : Type 0 where
    pub entries : List EntryParts
    pub others : List EntryParts
    pub matched : IsMatched start commitment bytes entries
    pub end_is : end ≡ end_of_entries start entries
    pub begins : BeginsWithEntries start again others []
    pub same_end : end_of_entries start others ≡ end_of_entries start entries
    pub same : AreSameSealed start.link entries others
    pub written : Appends old new (shown_report form start keys others)

  -- the first bytes match the commitment, and the second pass has a fault
  pub record FailsSecondShowing (commitment : Commitment) (bytes again : List ℕ) (old new : Option (List ℕ))
      (error : OfflineError) : Type 0 where
    pub entries : List EntryParts
    pub matched : IsMatched start commitment bytes entries
    pub fails : FailsShownAgain error (end_of_entries start entries) again old new

  -- The first bytes have this fault, and nothing was written; or they match, and the second pass has this fault.
  abbrev pub FailsToShow : Commitment → List ℕ → List ℕ → Option (List ℕ) → Option (List ℕ) → OfflineError → Type 0
  FailsToShow commitment bytes again old new (Export fault) =
      (IsUnmatched start commitment bytes fault × Keeps old new)
      ⊎ FailsSecondShowing commitment bytes again old new (Export fault)
  FailsToShow commitment bytes again old new (Lines fault) =
      FailsSecondShowing commitment bytes again old new (Lines fault)

-- the reader failed, or there are too many bytes
abbrev pub IsReaderGivenUp : (failed : Type 0) → Option (List ℕ) → Type 0
IsReaderGivenUp failed before = failed ⊎ IfSome before (λ bytes. BYTE_LIMIT < length bytes)

-- a fault of the second pass: a reader's is that of its reader, and writing the lines can fail only by a write or by
-- memory
abbrev pub IsAgainFault : OfflineError → (failed : Type 0) → Option (List ℕ) → Type 0
IsAgainFault (Export fault) failed before = fault.cause ≡ ReadFault → IsReaderGivenUp failed before
IsAgainFault (Lines fault) failed before = IsUnwrittenReport fault

-- the same of both passes
abbrev pub IsShowingFault : OfflineError → (first_failed second_failed : Type 0) → Option (List ℕ) → Option (List ℕ)
    → Type 0
IsShowingFault (Export fault) first_failed second_failed first second = fault.cause ≡ ReadFault
    → IsReaderGivenUp first_failed first ⊎ IsReaderGivenUp second_failed second
IsShowingFault (Lines fault) first_failed second_failed first second = IsUnwrittenReport fault
