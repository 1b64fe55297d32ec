-- What is printed of an export, by the words of the command line, and which of these are wrong.
use denote.Ref.{Bor}
use Rattle.std.specs.Prelude.{◌≡◌, ◌⊎◌, ℕ, ◌<◌, ◌≤◌, Option, Some, None, Ok, Err, List, [], IfSome}
use Rattle.audit_disk.specs.FileFacts.{FileFacts}
use Rattle.audit_proof.specs.declared.commitment.Commitment.{Commitment}
use Rattle.audit_store.specs.declared.store_error.StoreError.TheVariants.{Memory}
use Rattle.audit_verify.specs.State.{StateData}
use Rattle.audit_cli_offline.specs.declared.report_form.ReportForm.{ReportForm}
use Rattle.audit_cli_offline.specs.KindsWord.{AreKindsInWord}
use Rattle.audit_cli_offline.specs.Printing.{PrintingData}
use Rattle.audit_cli_base.specs.Arguments.{commitment_asked, number_asked}
use Rattle.audit_cli_base.specs.StartFile.{IsNoStart, IsStart}
use Rattle.audit_cli_base.specs.declared.fault.CommandError.{CommandError}
use Rattle.audit_cli_base.specs.declared.fault.CommandError.TheVariants.{BadArgument, Refused}
use Rattle.audit_cli_store.specs.declared.auditing.Verification.{Verification}

-- the kinds in a word; without a word, none
abbrev pub AreKindsAsked : Option (Bor (List ℕ)) → List ℕ → Type 0
AreKindsAsked None kinds = kinds ≡ []
AreKindsAsked (Some word) kinds = AreKindsInWord word.now kinds

-- what is printed: the form, the kinds in the first word, and the index in the second, or 0
pub record IsPrintingAsked (form : ReportForm) (kinds from : Option (Bor (List ℕ)))
    (printing : PrintingData) : Type 0 where
  pub form_is : printing.form ≡ form
  pub kinds_are : AreKindsAsked kinds printing.kinds
  pub from_is : number_asked from 0 ≡ Ok printing.from

-- why there are no kinds: the word lists none, or memory was refused
abbrev pub IsKindsFault : Option (Bor (List ℕ)) → CommandError → Type 0
IsKindsFault word BadArgument = (kinds : List ℕ) → AreKindsAsked word kinds → ⊥
IsKindsFault word (Refused error) = error ≡ Memory
IsKindsFault word _ = ⊥

-- or the other word is no number
abbrev pub IsPrintingFault : Option (Bor (List ℕ)) → Option (Bor (List ℕ)) → CommandError → Type 0
IsPrintingFault kinds from fault = IsKindsFault kinds fault ⊎ (number_asked from 0 ≡ Err fault)

module _ {F : Type 0} (facts : F → FileFacts) (remaining : F → Option (List ℕ)) where
  -- a file that was opened at this path, to read, has a first key, or the text of a bookmark, with this state
  pub record IsStartAt (path : List ℕ) (state : StateData) : Type 0 where
    pub file : F
    pub opened : (facts file).opened_to_read path
    pub start : IfSome (remaining file) (λ text. IsStart text state)

  -- or it has neither
  pub record HasNoStartAt (path : List ℕ) : Type 0 where
    pub file : F
    pub opened : (facts file).opened_to_read path
    pub none : IfSome (remaining file) IsNoStart

  -- the state in the file is after more entries than the commitment is to
  pub record IsAheadOfCommitment (asked : Verification) : Type 0 where
    pub state : StateData
    pub at : IsStartAt asked.start.now state
    pub commitment : Commitment
    pub commitment_is : commitment_asked asked.commitment.now ≡ Ok commitment
    pub ahead : commitment.count < state.frontier.count

  -- Why a verification is asked for wrongly: its start isn't one, or is beyond the commitment; or another word is wrong.
  abbrev pub IsWrongVerification : Verification → Type 0
  IsWrongVerification asked = HasNoStartAt asked.start.now
      ⊎ ((commitment_asked asked.commitment.now ≡ Err BadArgument)
      ⊎ (IsAheadOfCommitment asked ⊎ IsPrintingFault asked.kinds asked.from BadArgument))

  -- The words for a verification are right: its start isn't beyond the commitment, and the others say what is printed.
  pub record IsRightVerification (asked : Verification) : Type 0 where
    pub state : StateData
    pub at : IsStartAt asked.start.now state
    pub commitment : Commitment
    pub commitment_is : commitment_asked asked.commitment.now ≡ Ok commitment
    pub within : state.frontier.count ≤ commitment.count
    pub printing : PrintingData
    pub printing_is : IsPrintingAsked asked.form asked.kinds asked.from printing
