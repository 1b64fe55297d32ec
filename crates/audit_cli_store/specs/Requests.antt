-- The effect of carrying out a request, apart from its files.
use Rattle.std.specs.Prelude.{◌≡◌, ◌⊎◌, ℕ, Option, None, Result, Ok, Err, List, IfSome, IfOk, IsOkAnd}
use Rattle.std.specs.Io.KnownBytes.{Keeps, Appends}
use Rattle.audit_disk_model.specs.declared.sectors.Sectors as sectors
use Rattle.audit_disk.specs.FileFacts.{FileFacts}
use Rattle.audit_disk.specs.Positioned.{PositionedView}
use Rattle.audit_text.specs.declared.fault.LinesError.{LinesError}
use Rattle.audit_text.specs.Answers.{IsFaultOf, IsBeforeWriting}
use Rattle.audit_text.specs.Writing.{WritesInPart}
use Rattle.audit_cli_base.specs.Arguments.{number_asked, sectors_asked, proof_asked, IsNewFileFault, AreNoCommitments}
use Rattle.audit_cli_base.specs.Arguments.{RefusesWords}
use Rattle.audit_cli_base.specs.Faults.{status_of_end}
use Rattle.audit_cli_base.specs.declared.status.Status.{Status}
use Rattle.audit_cli_base.specs.declared.status.Status.TheVariants as ends
use Rattle.audit_cli_base.specs.declared.fault.CommandError.{CommandError}
use Rattle.audit_cli_base.specs.declared.fault.CommandError.TheVariants.{BadArgument, Lines}
use Rattle.audit_cli_store.specs.OnFiles.{IsDoneOnFile}
use Rattle.audit_cli_store.specs.LinkChecks.{LacksCommitment}
use Rattle.audit_cli_store.specs.OpenedProofs.{HasWrongWords}
use Rattle.audit_cli_store.specs.Replay.{replay_output}
use Rattle.audit_cli_store.specs.declared.request.Site.{Site}
use Rattle.audit_cli_store.specs.declared.request.Site.TheVariants.{NewFile, InPlace}
use Rattle.audit_cli_store.specs.declared.request.Request.{Request}
use Rattle.audit_cli_store.specs.declared.request.Request.TheVariants.{Replay, Format, Check, CheckLink, Open}
use Rattle.audit_cli_store.specs.declared.request.Request.TheVariants.{Export, Prove, Verify}
use Rattle.audit_cli_base.specs.KeyFile.{HasNoKeyAt}
use Rattle.audit_cli_store.specs.Checks.{HasOtherKindAt}
use Rattle.audit_cli_store.specs.Verifications.{IsWrongVerification}

-- ---- words

abbrev pub IsFormatFault : Site → List ℕ → CommandError → Type 0
IsFormatFault (NewFile mode) sectors fault = IsNewFileFault mode sectors fault
IsFormatFault (InPlace erase) sectors fault = sectors_asked sectors ≡ Err fault

-- the first fault of the words that are checked before any file is opened
abbrev pub IsWordFault : Request → CommandError → Type 0
IsWordFault (Format file site sectors key_file) fault = IsFormatFault site sectors.now fault
IsWordFault (Check proof older newer form) fault = AreNoCommitments older.now newer × (fault ≡ BadArgument)
IsWordFault (Open asked) fault = HasWrongWords asked × (fault ≡ BadArgument)
IsWordFault (CheckLink asked) fault = LacksCommitment asked × (fault ≡ BadArgument)
IsWordFault (Export file out access from) fault = number_asked from 0 ≡ Err fault
IsWordFault (Prove file kind first second out access) fault =
    (proof_asked kind.now first.now second.now ≡ None) × (fault ≡ BadArgument)
IsWordFault _ fault = ⊥

module _ {F : Type 0} (facts : F → FileFacts) (remaining : F → Option (List ℕ)) where
  -- What makes an argument a bad one: a word, or what is in a file that a word names, a key, a start or a proof.
  abbrev pub HasBadArgument : Request → Type 0
  HasBadArgument (Format file site sectors key_file) =
      IsFormatFault site sectors.now BadArgument ⊎ HasNoKeyAt facts remaining key_file.now
  HasBadArgument (Check proof older newer form) =
      AreNoCommitments older.now newer ⊎ HasOtherKindAt facts remaining proof.now newer
  HasBadArgument (Open asked) = HasWrongWords asked ⊎ HasOtherKindAt facts remaining asked.proof.now None
  HasBadArgument (CheckLink asked) = LacksCommitment asked
  HasBadArgument (Export file out access from) = number_asked from 0 ≡ Err BadArgument
  HasBadArgument (Verify asked) = IsWrongVerification facts remaining asked
  HasBadArgument (Prove file kind first second out access) = proof_asked kind.now first.now second.now ≡ None
  HasBadArgument _ = ⊥

-- ---- a replay

-- why a replay stopped, and what it wrote
pub record StopsReplay (input : Option (List ℕ)) (before after : Option (List ℕ)) (fault : CommandError) : Type 0 where
  pub cause : LinesError
  pub fault_is : fault ≡ Lines cause
  pub found : IfSome input (λ bytes. IsFaultOf cause (replay_output bytes))
  pub unwritten : IsBeforeWriting cause → Keeps before after
  pub part : IfSome input (λ bytes. IfOk (replay_output bytes) (WritesInPart before after))

-- the definition's output was written, or the replay stopped
abbrev pub IsReplayed : Option (List ℕ) → Option (List ℕ) → Option (List ℕ) → Result Unit CommandError → Type 0
IsReplayed input before after (Ok done) = IfSome input (λ bytes. IsOkAnd (replay_output bytes) (Appends before after))
IsReplayed input before after (Err fault) = StopsReplay input before after fault

-- ---- the whole command

abbrev pub IsReplayOf : Request → Option (List ℕ) → Option (List ℕ) → Option (List ℕ) → Result Unit CommandError
    → Type 0
IsReplayOf Replay input before after result = IsReplayed input before after result
IsReplayOf _ input before after result = Unit {0}

module _ {F : Type 0} (facts : F → FileFacts) (positioned : F → PositionedView) {E : Type 0} (h : sectors.Ghosts E)
    (remaining : F → Option (List ℕ)) where
  -- A request was carried out with this result, and the output was then flushed. The program's status is that of the
  -- result, or that of an output that couldn't be flushed.
  pub record IsCarriedOut (request : Request) (input before after : Option (List ℕ)) (status : Status) : Type 0 where
    pub done : Result Unit CommandError
    pub written : Option (List ℕ)
    pub words : RefusesWords (IsWordFault request) before written done
    pub only : done ≡ Err BadArgument → HasBadArgument facts remaining request
    pub replayed : IsReplayOf request input before written done
    pub on_file : IsDoneOnFile facts positioned h remaining request before written done
    pub flushed : Keeps written after
    pub status_is : (status ≡ status_of_end done) ⊎ (status ≡ ends.Device)
