-- A request with a wrong word.
use Rattle.std.specs.Prelude.{IsErr, IsOk}
use Rattle.std.specs.Io.KnownBytes.{Keeps}
use Rattle.std.proofs.Common.{inl, inr, ◌≡◌, ◌⊎◌, ◌∙◌, ℕ, Option, Result, Ok, Err, List, [], refl, sym, ap}
use Rattle.audit_disclosure.specs.declared.choice.Choice.{Choice}
use Rattle.audit_proof.specs.declared.commitment.Commitment.{Commitment}
use Rattle.audit_store.specs.declared.store_error.StoreError.TheVariants.{Memory}
use Rattle.audit_cli_base.specs.Arguments.{commitment_asked}
use Rattle.audit_cli_base.specs.Faults.{status_of_end}
use Rattle.audit_cli_base.specs.declared.fault.CommandError.{CommandError}
use Rattle.audit_cli_base.specs.declared.fault.CommandError.TheVariants.{BadArgument, BadProof, Export, File, FileExists, InUse, Lines, NotAccepted, OtherCount, OtherLog, Refused, Replaced, Salvaged, TooSmall}
use Rattle.audit_cli_base.specs.declared.status.Status.{Status}
use Rattle.audit_cli_base.specs.declared.status.Status.TheVariants as ends
use Rattle.audit_cli_disclosure.specs.FileCalls.{FilesModel}
use Rattle.audit_cli_disclosure.specs.MadeDisclosure.{EndsDisclosing}
use Rattle.audit_cli_disclosure.specs.ShownDisclosure.{EndsShowing}
use Rattle.audit_cli_disclosure.specs.Requests.{EndsRequest, HasWrongDisclosureWord}
use Rattle.audit_cli_disclosure.specs.Words.{AreDisclosingWords, HasWrongDisclosingWord, HasWrongShowingWord, IsDisclosingWordFault}
use Rattle.audit_cli_disclosure.specs.declared.request.Request.{Request}
use Rattle.audit_cli_disclosure.specs.declared.request.Request.TheVariants.{Disclose, Show}
use Rattle.audit_cli_disclosure.specs.declared.words.Disclosing.{Disclosing}
use Rattle.audit_cli_disclosure.specs.declared.words.Showing.{Showing}

-- it ended with a fault of the words, or without memory to judge them, before any call
pub record HasEndedAtWord {F : Type 0} (files : FilesModel F) (was now : F) (before after : Option (List ℕ)) (result : Result (Unit {0}) CommandError) : Type 0 where
  pub fault : CommandError
  pub is : result ≡ Err fault
  pub kind : (fault ≡ BadArgument) ⊎ (fault ≡ Refused Memory)
  pub calls : files.DidCalls was now []
  pub unwritten : Keeps before after

word_kind : (asked : Disclosing) (fault : CommandError) → IsDisclosingWordFault asked fault → (fault ≡ BadArgument) ⊎ (fault ≡ Refused Memory)
word_kind asked BadArgument why = inl refl
word_kind asked (Refused error) why = inr (ap (λ e. Refused e) why)
word_kind asked FileExists why = absurd why
word_kind asked File why = absurd why
word_kind asked InUse why = absurd why
word_kind asked Replaced why = absurd why
word_kind asked (TooSmall sectors) why = absurd why
word_kind asked (OtherCount count) why = absurd why
word_kind asked (OtherLog held own) why = absurd why
word_kind asked Salvaged why = absurd why
word_kind asked (Lines cause) why = absurd why
word_kind asked (Export fault) why = absurd why
word_kind asked BadProof why = absurd why
word_kind asked NotAccepted why = absurd why

two_ends : (result : Result Commitment CommandError) (commitment : Commitment) → result ≡ Err BadArgument → result ≡ Ok commitment → ⊥
two_ends result commitment wrong right = let e = sym wrong ∙ right in cc

no_words : (asked : Disclosing) (commitment : Commitment) (choice : Choice) → HasWrongDisclosingWord asked → AreDisclosingWords asked commitment choice → ⊥
no_words asked commitment choice (inl wrong) words = two_ends (commitment_asked asked.commitment.now) commitment wrong words.commitment_is
no_words asked commitment choice (inr none) words = none choice words.choice_is

module _ {F R : Type 0} (files : FilesModel F) (failed : R → Type 0) (was now : F) (before after : Option (List ℕ)) where
  of_disclosing : (asked : Disclosing) (result : Result (Unit {0}) CommandError) → EndsDisclosing files failed asked was now before after result → HasWrongDisclosingWord asked → HasEndedAtWord files was now before after result
  of_disclosing asked (Ok done) made wrong = absurd (no_words asked made.called.task.commitment made.called.task.choice wrong made.called.task.words)
  of_disclosing asked (Err fault) (inl at) wrong = record { fault = fault; is = refl; kind = word_kind asked fault at.why; calls = at.calls; unwritten = at.unwritten }
  of_disclosing asked (Err fault) (inr (inl at)) wrong = absurd (no_words asked at.commitment at.choice wrong at.words)
  of_disclosing asked (Err fault) (inr (inr (inl at))) wrong = absurd (no_words asked at.task.commitment at.task.choice wrong at.task.words)
  of_disclosing asked (Err fault) (inr (inr (inr (inl at)))) wrong = absurd (no_words asked at.task.commitment at.task.choice wrong at.task.words)
  of_disclosing asked (Err fault) (inr (inr (inr (inr (inl at))))) wrong = absurd (no_words asked at.task.commitment at.task.choice wrong at.task.words)
  of_disclosing asked (Err fault) (inr (inr (inr (inr (inr (inl at)))))) wrong = absurd (no_words asked at.called.task.commitment at.called.task.choice wrong at.called.task.words)
  of_disclosing asked (Err fault) (inr (inr (inr (inr (inr (inr at)))))) wrong = absurd (no_words asked at.called.task.commitment at.called.task.choice wrong at.called.task.words)

  of_showing : (asked : Showing) (said_before said_after : Option (List ℕ)) (Flushed Unflushed : Type 0) (result : Result (Unit {0}) CommandError)
      → EndsShowing files failed asked was now before after said_before said_after Flushed Unflushed result → HasWrongShowingWord asked → HasEndedAtWord files was now before after result
  of_showing asked said_before said_after Flushed Unflushed (Ok done) ends wrong = absurd (two_ends (commitment_asked asked.commitment.now) ends.shown.task.commitment wrong ends.shown.task.commitment_is)
  of_showing asked said_before said_after Flushed Unflushed (Err fault) (inl at) wrong = record { fault = fault; is = refl; kind = inl at.why.1; calls = at.calls; unwritten = at.unwritten }
  of_showing asked said_before said_after Flushed Unflushed (Err fault) (inr (inl at)) wrong = absurd (two_ends (commitment_asked asked.commitment.now) at.commitment wrong at.commitment_is)
  of_showing asked said_before said_after Flushed Unflushed (Err fault) (inr (inr (inl at))) wrong = absurd (two_ends (commitment_asked asked.commitment.now) at.task.commitment wrong at.task.commitment_is)
  of_showing asked said_before said_after Flushed Unflushed (Err fault) (inr (inr (inr at))) wrong = absurd (two_ends (commitment_asked asked.commitment.now) at.shown.task.commitment wrong at.shown.task.commitment_is)

  pub ended_at_word : (request : Request) (said_before said_after : Option (List ℕ)) (Flushed Unflushed : Type 0) (result : Result (Unit {0}) CommandError)
      → EndsRequest files failed request was now before after said_before said_after Flushed Unflushed result → HasWrongDisclosureWord request → HasEndedAtWord files was now before after result
  ended_at_word (Disclose asked) said_before said_after Flushed Unflushed result ends wrong = of_disclosing asked result ends.0 wrong
  ended_at_word (Show asked) said_before said_after Flushed Unflushed result ends wrong = of_showing asked said_before said_after Flushed Unflushed result ends wrong

-- the program's status
status_of_word : (done : Result (Unit {0}) CommandError) (fault : CommandError) (status : Status) → done ≡ Err fault → (fault ≡ BadArgument) ⊎ (fault ≡ Refused Memory) → status ≡ status_of_end done → (status ≡ ends.Usage) ⊎ (status ≡ ends.Memory)
status_of_word done fault status is (inl bad) same = inl (same ∙ ap status_of_end (is ∙ ap (λ f. Err f) bad))
status_of_word done fault status is (inr full) same = inr (same ∙ ap status_of_end (is ∙ ap (λ f. Err f) full))

or_device : (status : Status) → (status ≡ ends.Usage) ⊎ (status ≡ ends.Memory) → (status ≡ ends.Usage) ⊎ ((status ≡ ends.Memory) ⊎ (status ≡ ends.Device))
or_device status (inl usage) = inl usage
or_device status (inr memory) = inr (inl memory)

pub status_at_word : {F E : Type 0} (files : FilesModel F) (was now : F) (before after : Option (List ℕ)) (done : Result (Unit {0}) CommandError) (flushed : Result (Unit {0}) E) (status : Status)
    → HasEndedAtWord files was now before after done → (IsOk flushed → status ≡ status_of_end done) → (IsErr flushed → status ≡ ends.Device)
    → (status ≡ ends.Usage) ⊎ ((status ≡ ends.Memory) ⊎ (status ≡ ends.Device))
status_at_word files was now before after done (Ok x) status at whole wrong = or_device status (status_of_word done at.fault status at.is at.kind (whole refl))
status_at_word files was now before after done (Err error) status at whole wrong = inr (inr (wrong refl))
