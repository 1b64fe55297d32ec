-- What is called and written where an export is shown by a disclosure, and why it isn't.
use Rattle.std.specs.Prelude.{◌≡◌, ◌⊎◌, ℕ, ◌<◌, Option, Result, Ok, Err, List, [], ◌∷◌, length, IfSome}
use Rattle.std.specs.Io.KnownBytes.{Appends, Keeps}
use Rattle.audit_disclosure.specs.declared.disclosure.DisclosedKey.{DisclosedKey}
use Rattle.audit_disclosure.specs.declared.disclosure.Start.{Start}
use Rattle.audit_disclosure.specs.DisclosureText.{IsNoDisclosure, SpellsDisclosure}
use Rattle.audit_proof.specs.declared.commitment.Commitment.{Commitment}
use Rattle.audit_store.specs.declared.store_error.StoreError.TheVariants as store
use Rattle.audit_text.specs.declared.fault.LinesError.TheVariants as lines
use Rattle.audit_text.specs.declared.input.TheConstants.{INPUT_LIMIT}
use Rattle.audit_verify.specs.declared.accepted.Accepted.{Accepted}
use Rattle.audit_cli_offline.specs.declared.fault.OfflineError.{OfflineError}
use Rattle.audit_cli_offline.specs.declared.report_form.ReportForm.{ReportForm}
use Rattle.audit_cli_offline.specs.TwoPasses.{IsLineUnwritten}
use Rattle.audit_cli_base.specs.Arguments.{commitment_asked}
use Rattle.audit_cli_base.specs.Faults.{IsNoWordFault, of_auditor}
use Rattle.audit_cli_base.specs.declared.fault.CommandError.{CommandError}
use Rattle.audit_cli_base.specs.declared.fault.CommandError.TheVariants.{BadArgument, File, Lines, Refused}
use Rattle.audit_cli_disclosure.specs.FileCalls.{ExportBytes, FileCall, FilesModel, a_file_opening, an_export_opening}
use Rattle.audit_cli_disclosure.specs.ShownExport.{FailsToShow, IsShowingFault, ShowsTwice}
use Rattle.audit_cli_disclosure.specs.ShownReport.{matched_message}
use Rattle.audit_cli_disclosure.specs.Words.{HasWrongShowingWord}
use Rattle.audit_cli_disclosure.specs.declared.words.Showing.{Showing}

-- the text has no disclosure, or more bytes than one may have that is read
abbrev pub IsUnreadDisclosure : List ℕ → Type 0
IsUnreadDisclosure text = IsNoDisclosure text ⊎ (INPUT_LIMIT < length text)

-- why no disclosure was read: the file has none, or reading failed, or memory was refused
abbrev pub IsDisclosureFault : Option (List ℕ) → CommandError → Type 0
IsDisclosureFault known BadArgument = IfSome known IsUnreadDisclosure
IsDisclosureFault known (Lines cause) = (cause ≡ lines.Read) ⊎ (cause ≡ lines.Memory)
IsDisclosureFault known (Refused error) = error ≡ store.Memory
IsDisclosureFault known _ = ⊥

-- why there is none: the file wasn't opened, or none was read
abbrev pub IsUndisclosedFile : Result (Option (List ℕ)) CommandError → CommandError → Type 0
IsUndisclosedFile (Err cause) fault = (fault ≡ cause) × IsNoWordFault cause
IsUndisclosedFile (Ok known) fault = IsDisclosureFault known fault

-- what the words say, and the disclosure in the file that they name
pub record ShowingTask (asked : Showing) : Type 0 where
  pub commitment : Commitment
  pub commitment_is : commitment_asked asked.commitment.now ≡ Ok commitment
  pub text : Option (List ℕ)
  pub start : Start
  pub keys : List DisclosedKey
  pub spells : IfSome text (λ text. SpellsDisclosure text start keys)

-- What is shown of an export that begins after this start, with these keys, in this form, under this commitment.
module _ (form : ReportForm) (start : Start) (keys : List DisclosedKey) (commitment : Commitment) where
  -- it was shown, as far as its bytes are known, and this is how its log ends
  abbrev pub ShowsKnown : ExportBytes → Accepted → Option (List ℕ) → Option (List ℕ) → Type 0
  ShowsKnown known end old new = IfSome known.first (λ bytes. IfSome known.second (λ again.
      ShowsTwice form start keys commitment bytes again end old new))

  module _ {R : Type 0} (failed : R → Type 0) (old new : Option (List ℕ)) where
    -- It isn't shown, or not all of it, for this reason. It is that of a reader only if one failed, or gives too many
    -- bytes.
    pub record IsUnshown (known : ExportBytes) (error : OfflineError) : Type 0 where
      pub found : IfSome known.first (λ bytes. IfSome known.second (λ again.
          FailsToShow form start keys commitment bytes again old new error))
      pub first : R
      pub second : R
      pub reader : IsShowingFault error (failed first) (failed second) known.first known.second

    -- it wasn't opened, and nothing was written; or it isn't shown
    abbrev pub IsUnshownExport : Result ExportBytes CommandError → CommandError → Type 0
    IsUnshownExport (Err cause) fault = (fault ≡ cause) × (IsNoWordFault cause × Keeps old new)
    IsUnshownExport (Ok known) fault = (error : OfflineError) × (fault ≡ of_auditor error) × IsUnshown known error

-- why a report isn't ended: the output couldn't be flushed, and nothing was said; or the message wasn't written
abbrev pub IsUnended : (Flushed Unflushed : Type 0) → Option (List ℕ) → Option (List ℕ) → List ℕ → CommandError → Type 0
IsUnended Flushed Unflushed said_before said_after message File = Unflushed × Keeps said_before said_after
IsUnended Flushed Unflushed said_before said_after message (Lines cause) =
    Flushed × IsLineUnwritten cause said_before said_after message
IsUnended Flushed Unflushed said_before said_after message _ = ⊥

-- the disclosure was found, and the export opened
abbrev pub calls_to_showing : (asked : Showing) → ShowingTask asked → Result ExportBytes CommandError → List FileCall
calls_to_showing asked task opened =
    a_file_opening asked.disclosed.now (Ok task.text) ∷ an_export_opening asked.export.now opened ∷ []

module _ {F R : Type 0} (files : FilesModel F) (failed : R → Type 0) (asked : Showing) (was now : F)
    (before after said_before said_after : Option (List ℕ)) (Flushed Unflushed : Type 0) where
  -- The word is wrong: nothing was called.
  pub record EndsAtWord (fault : CommandError) : Type 0 where
    pub why : HasWrongShowingWord asked × (fault ≡ BadArgument)
    pub calls : files.DidCalls was now []
    pub unwritten : Keeps before after
    pub unsaid : Keeps said_before said_after

  -- There is no disclosure in the file for it.
  pub record EndsAtDisclosure (fault : CommandError) : Type 0 where
    pub commitment : Commitment
    pub commitment_is : commitment_asked asked.commitment.now ≡ Ok commitment
    pub opened : Result (Option (List ℕ)) CommandError
    pub why : IsUndisclosedFile opened fault
    pub calls : files.DidCalls was now (a_file_opening asked.disclosed.now opened ∷ [])
    pub unwritten : Keeps before after
    pub unsaid : Keeps said_before said_after

  -- The export isn't shown, or not all of it.
  pub record EndsAtShowing (fault : CommandError) : Type 0 where
    pub task : ShowingTask asked
    pub opened : Result ExportBytes CommandError
    pub why : IsUnshownExport asked.form task.start task.keys task.commitment failed before after opened fault
    pub calls : files.DidCalls was now (calls_to_showing asked task opened)
    pub unsaid : Keeps said_before said_after

  -- The word is right, the file has a disclosure, and the export matches the commitment and was shown by it. Nothing
  -- else was called.
  pub record ShowsExport : Type 0 where
    pub task : ShowingTask asked
    pub export : ExportBytes
    pub end : Accepted
    pub written : Option (List ℕ)
    pub shown : ShowsKnown asked.form task.start task.keys task.commitment export end before written
    pub calls : files.DidCalls was now (calls_to_showing asked task (Ok export))
    pub kept : Keeps written after

  -- The export was shown, and the output couldn't be flushed, or the message wasn't written.
  pub record EndsAtEnd (fault : CommandError) : Type 0 where
    pub shown : ShowsExport
    pub why : IsUnended Flushed Unflushed said_before said_after (matched_message asked.form shown.end) fault

  -- The export was shown, the output was flushed, and the message was written.
  pub record ShowsDisclosed : Type 0 where
    pub shown : ShowsExport
    pub flushed : Flushed
    pub said : Appends said_before said_after (matched_message asked.form shown.end)

  -- how it ended
  abbrev pub EndsShowing : Result (Unit {0}) CommandError → Type 0
  EndsShowing (Ok done) = ShowsDisclosed
  EndsShowing (Err fault) = EndsAtWord fault ⊎ (EndsAtDisclosure fault ⊎ (EndsAtShowing fault ⊎ EndsAtEnd fault))

-- How it ends after the call by which it came to this disclosure.
module _ {F R : Type 0} (files : FilesModel F) (failed : R → Type 0) (asked : Showing) (mid now : F)
    (before after said_before said_after : Option (List ℕ)) (Flushed Unflushed : Type 0) where
  abbrev pub EndsAfterDisclosure : Commitment → Start → List DisclosedKey → Result (Unit {0}) CommandError → Type 0
  EndsAfterDisclosure commitment start keys result = (was : F) (task : ShowingTask asked)
      → (task.commitment ≡ commitment) × (task.start ≡ start) × (task.keys ≡ keys)
      → files.DidCalls was mid (a_file_opening asked.disclosed.now (Ok task.text) ∷ [])
      → EndsShowing files failed asked was now before after said_before said_after Flushed Unflushed result
