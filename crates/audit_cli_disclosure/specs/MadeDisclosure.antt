-- What is called, made and written where chosen events of an export are disclosed, and why they aren't.
use Rattle.std.specs.Prelude.{◌≡◌, ◌⊎◌, ℕ, ◌<◌, ◌≤◌, Option, Result, Ok, Err, List, [], ◌∷◌, ◌++◌, length, codes}
use Rattle.std.specs.Prelude.{IfSome}
use Rattle.std.specs.Fmt.{decimal}
use Rattle.std.specs.Io.KnownBytes.{Appends, Keeps}
use Rattle.audit_disclosure.specs.declared.choice.Choice.{Choice}
use Rattle.audit_disclosure.specs.declared.disclosure.DisclosedKey.{DisclosedKey}
use Rattle.audit_disclosure.specs.declared.disclosure.Start.{Start}
use Rattle.audit_disclosure.specs.declared.making.Chosen.{Chosen}
use Rattle.audit_disclosure.specs.Choosing.{DisclosesChosen, FailsDisclosing}
use Rattle.audit_disclosure.specs.DisclosureText.{disclosure_text}
use Rattle.audit_proof.specs.declared.commitment.Commitment.{Commitment}
use Rattle.audit_store.specs.declared.store_error.StoreError.TheVariants.{Memory}
use Rattle.audit_text.specs.declared.fault.LinesError.TheVariants.{InputTooLong}
use Rattle.audit_text.specs.declared.input.TheConstants.{INPUT_LIMIT}
use Rattle.audit_verify.specs.declared.fault.Cause.TheVariants.{ReadFault}
use Rattle.audit_verify.specs.declared.fault.VerifyFault.{VerifyFault}
use Rattle.audit_verify.specs.declared.verifying.TheConstants.{BYTE_LIMIT}
use Rattle.audit_verify.specs.GivenUp.{IsGivenUpFrom}
use Rattle.audit_verify.specs.State.{StateData}
use Rattle.audit_cli_base.specs.Faults.{IsNoWordFault, IsUnwritten}
use Rattle.audit_cli_base.specs.StartFile.{IsStart, IsStartFault}
use Rattle.audit_cli_base.specs.declared.fault.CommandError.{CommandError}
use Rattle.audit_cli_base.specs.declared.fault.CommandError.TheVariants.{BadArgument, Lines, Refused, Export}
use Rattle.audit_cli_disclosure.specs.FileCalls.{ExportBytes, FileCall, FilesModel, a_file_opening, a_look_for_nothing}
use Rattle.audit_cli_disclosure.specs.FileCalls.{an_export_opening, a_file_making}
use Rattle.audit_cli_disclosure.specs.Words.{AreDisclosingWords, IsDisclosingWordFault}
use Rattle.audit_cli_disclosure.specs.declared.words.Disclosing.{Disclosing}

-- how many entries are disclosed, and how many there are
abbrev pub disclosed_count : ℕ → ℕ → List ℕ
disclosed_count chosen count = codes "disclosed " ++ decimal chosen ++ codes " " ++ decimal count ++ codes "\n"

-- what was disclosed: where the export begins, the keys, and how many entries there are
pub record DisclosedData : Type 0 where
  pub start : Start
  pub keys : List DisclosedKey
  pub count : ℕ

abbrev pub disclosed_data : Chosen → DisclosedData
disclosed_data chosen =
    record { start = chosen.disclosure.start; keys = chosen.disclosure.keys.items; count = chosen.count }

-- its text
abbrev pub text_of_disclosed : DisclosedData → List ℕ
text_of_disclosed made = disclosure_text made.start made.keys

-- the keys are those of the chosen ones of the events that the export is verified with, as far as its bytes are known
abbrev pub AreKeysOfExport : Choice → StateData → Commitment → ExportBytes → DisclosedData → Type 0
AreKeysOfExport choice state commitment known made =
    IfSome known.first (λ bytes. IfSome known.second (λ again.
    DisclosesChosen choice state commitment bytes made.start made.keys made.count))

-- why there is no state from which the export may be verified: the file wasn't opened; it has none, or reading it
-- failed; or its state is beyond the commitment
abbrev pub IsUnstarted : Commitment → Result (Option (List ℕ)) CommandError → CommandError → Type 0
IsUnstarted commitment (Err cause) fault = (fault ≡ cause) × IsNoWordFault cause
IsUnstarted commitment (Ok known) fault = IsStartFault known fault
    ⊎ ((fault ≡ BadArgument) × ((state : StateData) × IfSome known (λ text. IsStart text state)
    × (commitment.count < state.frontier.count)))

module _ {R : Type 0} (failed : R → Type 0) where
  -- a reader of the export failed, or there are too many bytes
  pub record HasGivenUpReading (state : StateData) (known : Option (List ℕ)) (fault : VerifyFault) : Type 0 where
    pub left : Option (List ℕ)
    pub reader : R
    pub given_up : IsGivenUpFrom state BYTE_LIMIT known left (failed reader) fault

  -- The export isn't verified: some bytes have this fault. It is that of a reader only if one has given up.
  pub record IsUnverifiedExport (state : StateData) (commitment : Commitment) (known : ExportBytes)
      (fault : VerifyFault) : Type 0 where
    pub found : IfSome known.first (λ bytes. IfSome known.second (λ again.
        FailsDisclosing state commitment bytes again fault))
    pub read : fault.cause ≡ ReadFault
        → HasGivenUpReading state known.first fault ⊎ HasGivenUpReading state known.second fault

  -- why no keys were taken: the export wasn't opened, or isn't verified
  abbrev pub IsUndisclosed : StateData → Commitment → Result ExportBytes CommandError → CommandError → Type 0
  IsUndisclosed state commitment (Err cause) fault = (fault ≡ cause) × IsNoWordFault cause
  IsUndisclosed state commitment (Ok known) fault =
      (found : VerifyFault) × (fault ≡ Export found) × IsUnverifiedExport state commitment known found

-- why the keys aren't written: as text they are longer than what is read as a disclosure, or memory was refused
abbrev pub IsNoText : DisclosedData → CommandError → Type 0
IsNoText made fault = ((fault ≡ Lines InputTooLong) × (INPUT_LIMIT < length (text_of_disclosed made)))
    ⊎ (fault ≡ Refused Memory)

-- what the words say, and the start in the file that they name
pub record DisclosingTask (asked : Disclosing) : Type 0 where
  pub commitment : Commitment
  pub choice : Choice
  pub words : AreDisclosingWords asked commitment choice
  pub start : Option (List ℕ)
  pub state : StateData
  pub start_is : IfSome start (λ text. IsStart text state)
  pub within : state.frontier.count ≤ commitment.count

-- and the keys that were taken from the export
pub record TakenKeys (asked : Disclosing) (task : DisclosingTask asked) : Type 0 where
  pub export : ExportBytes
  pub made : DisclosedData
  pub keys_are : AreKeysOfExport task.choice task.state task.commitment export made

-- the start was found, and nothing is at OUT
abbrev pub calls_to_start : (asked : Disclosing) → DisclosingTask asked → List FileCall
calls_to_start asked task =
    a_file_opening asked.start.now (Ok task.start) ∷ a_look_for_nothing asked.out.now (Ok tt) ∷ []

-- and then the export was opened
abbrev pub calls_to_export : (asked : Disclosing) → DisclosingTask asked → Result ExportBytes CommandError
    → List FileCall
calls_to_export asked task opened = calls_to_start asked task ++ an_export_opening asked.export.now opened ∷ []

-- and then OUT was to be made, with the text of the keys that were taken
abbrev pub calls_to_making : (asked : Disclosing) (task : DisclosingTask asked) → TakenKeys asked task
    → Result (Unit {0}) CommandError → List FileCall
calls_to_making asked task taken done =
    calls_to_export asked task (Ok taken.export) ++ a_file_making asked.out.now (text_of_disclosed taken.made) done ∷ []

module _ {F R : Type 0} (files : FilesModel F) (failed : R → Type 0) (asked : Disclosing) (was now : F)
    (before after : Option (List ℕ)) where
  -- A word is wrong, or memory was refused: nothing was called.
  pub record EndsAtWords (fault : CommandError) : Type 0 where
    pub why : IsDisclosingWordFault asked fault
    pub calls : files.DidCalls was now []
    pub unwritten : Keeps before after

  -- There is no start in the file for it.
  pub record EndsAtStart (fault : CommandError) : Type 0 where
    pub commitment : Commitment
    pub choice : Choice
    pub words : AreDisclosingWords asked commitment choice
    pub opened : Result (Option (List ℕ)) CommandError
    pub why : IsUnstarted commitment opened fault
    pub calls : files.DidCalls was now (a_file_opening asked.start.now opened ∷ [])
    pub unwritten : Keeps before after

  -- Something is at OUT, or nobody knows.
  pub record EndsAtOut (fault : CommandError) : Type 0 where
    pub task : DisclosingTask asked
    pub why : IsNoWordFault fault
    pub calls : files.DidCalls was now (a_file_opening asked.start.now (Ok task.start)
        ∷ a_look_for_nothing asked.out.now (Err fault) ∷ [])
    pub unwritten : Keeps before after

  -- The export isn't verified.
  pub record EndsAtExport (fault : CommandError) : Type 0 where
    pub task : DisclosingTask asked
    pub opened : Result ExportBytes CommandError
    pub why : IsUndisclosed failed task.state task.commitment opened fault
    pub calls : files.DidCalls was now (calls_to_export asked task opened)
    pub unwritten : Keeps before after

  -- The export is verified, and there is no text for OUT.
  pub record EndsAtText (fault : CommandError) : Type 0 where
    pub task : DisclosingTask asked
    pub taken : TakenKeys asked task
    pub why : IsNoText taken.made fault
    pub calls : files.DidCalls was now (calls_to_export asked task (Ok taken.export))
    pub unwritten : Keeps before after

  -- The words are right, the start isn't beyond the commitment, the export is verified, and OUT was to be made of the
  -- text of the chosen keys and of nothing else. Nothing else was called.
  pub record CallsForDisclosure (done : Result (Unit {0}) CommandError) : Type 0 where
    pub task : DisclosingTask asked
    pub taken : TakenKeys asked task
    pub few : length (text_of_disclosed taken.made) ≤ INPUT_LIMIT
    pub calls : files.DidCalls was now (calls_to_making asked task taken done)

  -- There is no file for OUT.
  pub record EndsAtMaking (fault : CommandError) : Type 0 where
    pub called : CallsForDisclosure (Err fault)
    pub why : IsNoWordFault fault
    pub unwritten : Keeps before after

  -- OUT was made, and its line wasn't written.
  pub record EndsAtLine (fault : CommandError) : Type 0 where
    pub called : CallsForDisclosure (Ok tt)
    pub why : IsUnwritten before after fault

  -- OUT was made, and its line written.
  pub record MakesDisclosure : Type 0 where
    pub called : CallsForDisclosure (Ok tt)
    pub line : Appends before after (disclosed_count (length called.taken.made.keys) called.taken.made.count)

  -- how it ended
  abbrev pub EndsDisclosing : Result (Unit {0}) CommandError → Type 0
  EndsDisclosing (Ok done) = MakesDisclosure
  EndsDisclosing (Err fault) = EndsAtWords fault ⊎ (EndsAtStart fault ⊎ (EndsAtOut fault ⊎ (EndsAtExport fault
      ⊎ (EndsAtText fault ⊎ (EndsAtMaking fault ⊎ EndsAtLine fault)))))

-- How it ends after these calls, by which it came to these keys.
module _ {F R : Type 0} (files : FilesModel F) (failed : R → Type 0) (asked : Disclosing) (mid now : F)
    (before after : Option (List ℕ)) where
  abbrev pub EndsAfterStart : Commitment → Choice → StateData → Result (Unit {0}) CommandError → Type 0
  EndsAfterStart commitment choice state result = (was : F) (task : DisclosingTask asked)
      → (task.commitment ≡ commitment) × (task.choice ≡ choice) × (task.state ≡ state)
      → files.DidCalls was mid (calls_to_start asked task)
      → EndsDisclosing files failed asked was now before after result

  abbrev pub EndsAfterKeys : DisclosedData → Result (Unit {0}) CommandError → Type 0
  EndsAfterKeys made result = (was : F) (task : DisclosingTask asked) (taken : TakenKeys asked task)
      → taken.made ≡ made → files.DidCalls was mid (calls_to_export asked task (Ok taken.export))
      → EndsDisclosing files failed asked was now before after result
