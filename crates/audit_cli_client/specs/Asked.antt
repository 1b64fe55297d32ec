-- What is asked of a server for a question, and how that ends.
use Rattle.std.specs.Prelude.{◌≡◌, ◌⊎◌, ℕ, Option, Some, None, List, [], ◌∷◌, Result, Ok, Err, codes}
use Rattle.std.specs.Io.KnownBytes.{Appends}
use Rattle.audit_text.specs.NumberedLine.{numbered_line}
use Rattle.audit_proof.specs.declared.commitment.Commitment.{Commitment}
use Rattle.audit_wire.specs.declared.request.Request.TheVariants as request
use Rattle.audit_wire.specs.declared.reply.Reply.TheVariants as reply
use Rattle.audit_cli_base.specs.declared.arguments.ProofRequest.TheVariants as proof
use Rattle.audit_wire_ask.specs.declared.asking.TheConstants.{ASKED_TAG}
use Rattle.audit_wire_ask.specs.declared.fault.ClientError.{ClientError}
use Rattle.audit_wire_ask.specs.Conversation.{Converses}
use Rattle.audit_wire_ask.specs.Failing.{FailsNewest, FailsClosing, FailsEntry, FailsMember, FailsIncrement, FailsExport}
use Rattle.audit_wire_ask.specs.Failing.{IsUnasked}
use Rattle.audit_wire_ask.specs.declared.store_state.StoreState.{StoreState}
use Rattle.audit_wire_ask.specs.StateAsking.{state_reply, FailsState}
use Rattle.audit_wire_ask.specs.declared.kind_place.KindPlace.{KindPlace}
use Rattle.audit_wire_ask.specs.PlaceAsking.{place_reply, FailsPlace}
use Rattle.audit_wire_ask.specs.PlaceLine.{place_line}
use Rattle.audit_wire_ask.specs.Putting.{IsGivenEntry, IsGivenMember, IsGivenIncrement, AreGivenEntries}
use Rattle.audit_wire_ask.specs.Watching.{GivesNewest}
use Rattle.audit_cli_connection.specs.declared.question.Evidence.{Evidence}
use Rattle.audit_cli_connection.specs.declared.question.Evidence.TheVariants as evidence
use Rattle.audit_cli_connection.specs.declared.question.Question.{Question}
use Rattle.audit_cli_connection.specs.declared.question.Question.TheVariants as question
use Rattle.audit_cli_connection.specs.declared.fault.RemoteError.{RemoteError}
use Rattle.audit_cli_connection.specs.declared.fault.RemoteError.TheVariants.{Server}
use Rattle.audit_cli_client.specs.StoreStateLine.{store_state_line}

-- these bytes were asked for and given, and are accepted
abbrev pub IsGivenEvidence : Option (List ℕ) → Option (List ℕ) → Option (List ℕ) → Option (List ℕ) → Evidence → List ℕ
    → Type 0
IsGivenEvidence written_old written_new read_old read_new (evidence.Entry index) bytes =
    IsGivenEntry written_old written_new read_old read_new index bytes
IsGivenEvidence written_old written_new read_old read_new (evidence.Proof (proof.Member index count)) bytes =
    IsGivenMember written_old written_new read_old read_new index count bytes
IsGivenEvidence written_old written_new read_old read_new (evidence.Proof (proof.Increment older newer)) bytes =
    IsGivenIncrement written_old written_new read_old read_new older newer bytes

-- they were asked for, and this is why they weren't given or aren't accepted
abbrev pub FailsEvidence : Option (List ℕ) → Option (List ℕ) → Option (List ℕ) → Option (List ℕ) → Evidence
    → ClientError → Type 0
FailsEvidence written_old written_new read_old read_new (evidence.Entry index) error =
    FailsEntry written_old written_new read_old read_new index error
FailsEvidence written_old written_new read_old read_new (evidence.Proof (proof.Member index count)) error =
    FailsMember written_old written_new read_old read_new index count error
FailsEvidence written_old written_new read_old read_new (evidence.Proof (proof.Increment older newer)) error =
    FailsIncrement written_old written_new read_old read_new older newer error

-- the log was closed, and this is its last commitment
abbrev pub GivesLast : Option (List ℕ) → Option (List ℕ) → Option (List ℕ) → Option (List ℕ) → Commitment → Type 0
GivesLast written_old written_new read_old read_new last =
    (index : ℕ) × Converses written_old written_new read_old read_new (request.Close ASKED_TAG ∷ [])
    (reply.Acknowledgement ASKED_TAG index last.count last.root ∷ [])

-- the state of the store was asked for and given
abbrev pub GivesState : Option (List ℕ) → Option (List ℕ) → Option (List ℕ) → Option (List ℕ) → StoreState → Type 0
GivesState written_old written_new read_old read_new state =
    Converses written_old written_new read_old read_new (request.State ASKED_TAG ∷ []) (state_reply state ∷ [])

-- the place of this kind was asked for and given
abbrev pub GivesPlace : Option (List ℕ) → Option (List ℕ) → Option (List ℕ) → Option (List ℕ) → ℕ → KindPlace → Type 0
GivesPlace written_old written_new read_old read_new kind place =
    Converses written_old written_new read_old read_new (request.Place ASKED_TAG kind ∷ []) (place_reply place ∷ [])

-- The question was asked and answered, and nothing else asked.
abbrev pub AnswersQuestion : Option (List ℕ) → Option (List ℕ) → Option (List ℕ) → Option (List ℕ) → Question → Type 0
AnswersQuestion written_old written_new read_old read_new question.Commitment =
    (newest : Commitment) × GivesNewest written_old written_new read_old read_new newest
AnswersQuestion written_old written_new read_old read_new question.State =
    (state : StoreState) × GivesState written_old written_new read_old read_new state
AnswersQuestion written_old written_new read_old read_new (question.Place kind) =
    (place : KindPlace) × GivesPlace written_old written_new read_old read_new kind place
AnswersQuestion written_old written_new read_old read_new question.Close =
    (last : Commitment) × GivesLast written_old written_new read_old read_new last
AnswersQuestion written_old written_new read_old read_new (question.Evidence asked out) =
    (bytes : List ℕ) × IsGivenEvidence written_old written_new read_old read_new asked bytes
AnswersQuestion written_old written_new read_old read_new (question.Export out first) =
    (bytes : List ℕ) × AreGivenEntries written_old written_new read_old read_new first bytes

-- It was asked, and this is why it wasn't answered; nothing else was asked.
abbrev pub FailsQuestion : Option (List ℕ) → Option (List ℕ) → Option (List ℕ) → Option (List ℕ) → Question
    → ClientError → Type 0
FailsQuestion written_old written_new read_old read_new question.Commitment error =
    FailsNewest written_old written_new read_old read_new error
FailsQuestion written_old written_new read_old read_new question.State error =
    FailsState written_old written_new read_old read_new error
FailsQuestion written_old written_new read_old read_new (question.Place kind) error =
    FailsPlace written_old written_new read_old read_new kind error
FailsQuestion written_old written_new read_old read_new question.Close error =
    FailsClosing written_old written_new read_old read_new error
FailsQuestion written_old written_new read_old read_new (question.Evidence asked out) error =
    FailsEvidence written_old written_new read_old read_new asked error
FailsQuestion written_old written_new read_old read_new (question.Export out first) error =
    (old new : Option (List ℕ)) × FailsExport written_old written_new read_old read_new first old new error

-- a question for which nothing may be asked: the file for an export can't be begun
abbrev pub IsUnaskedFor : Option (List ℕ) → Option (List ℕ) → Option (List ℕ) → Option (List ℕ) → Question → Type 0
IsUnaskedFor written_old written_new read_old read_new (question.Export out first) =
    IsUnasked written_old written_new read_old read_new
IsUnaskedFor written_old written_new read_old read_new _ = ⊥

-- How a question ended: it was answered; or it wasn't, for this error; or it was, and the answer couldn't be put or
-- printed; or its file couldn't be begun. In each case nothing else was asked.
abbrev pub AsksOnly : Option (List ℕ) → Option (List ℕ) → Option (List ℕ) → Option (List ℕ) → Question
    → Result (Unit {0}) RemoteError → Type 0
AsksOnly written_old written_new read_old read_new asked (Ok done) =
    AnswersQuestion written_old written_new read_old read_new asked
AsksOnly written_old written_new read_old read_new asked (Err fault) =
    ((error : ClientError) × (fault ≡ Server error)
    × FailsQuestion written_old written_new read_old read_new asked error)
    ⊎ (AnswersQuestion written_old written_new read_old read_new asked
    ⊎ IsUnaskedFor written_old written_new read_old read_new asked)

-- what is printed for a commitment, a state, the place of a kind, or the last commitment
abbrev pub PrintsAnswer : Option (List ℕ) → Option (List ℕ) → Option (List ℕ) → Option (List ℕ) → Option (List ℕ)
    → Option (List ℕ) → Question → Type 0
PrintsAnswer written_old written_new read_old read_new old new question.Commitment =
    (newest : Commitment) × GivesNewest written_old written_new read_old read_new newest
    × Appends old new (numbered_line (codes "commit ") newest.count newest.root)
PrintsAnswer written_old written_new read_old read_new old new question.State =
    (state : StoreState) × GivesState written_old written_new read_old read_new state
    × Appends old new (store_state_line state)
PrintsAnswer written_old written_new read_old read_new old new (question.Place kind) =
    (place : KindPlace) × GivesPlace written_old written_new read_old read_new kind place
    × Appends old new (place_line place.number place.count)
PrintsAnswer written_old written_new read_old read_new old new question.Close =
    (last : Commitment) × GivesLast written_old written_new read_old read_new last
    × Appends old new (numbered_line (codes "closed ") last.count last.root)
PrintsAnswer written_old written_new read_old read_new old new _ = Unit {0}
