-- Questions that were asked, and their answers put and printed.
use Rattle.std.specs.Prelude.{◌≡◌, ◌⊎◌, ℕ, Option, Some, None, List, Result, Ok, Err, IfOk, IfErr, OnOk, length}
use Rattle.std.specs.List.{concat}
use Rattle.std.proofs.Common.{inl, inr, refl, sym, ap, subst}
use Rattle.audit_proof.specs.declared.commitment.Commitment.{Commitment}
use Rattle.audit_wire_ask.specs.declared.exporting.Export.{Export}
use Rattle.audit_wire_ask.specs.declared.fault.ClientError.{ClientError}
use Rattle.audit_wire_ask.specs.declared.putting.AskError.{AskError}
use Rattle.audit_wire_ask.specs.declared.putting.AskError.TheVariants as asking
use Rattle.audit_wire_ask.specs.Exporting.{GivesExport}
use Rattle.audit_wire_ask.specs.Failing.{FailsNewest, FailsClosing, FailsExport, FailsPutting, FailsPuttingOne, IsUnasked}
use Rattle.audit_wire_ask.specs.declared.store_state.StoreState.{StoreState}
use Rattle.audit_wire_ask.specs.StateAsking.{FailsState}
use Rattle.audit_wire_ask.specs.declared.kind_place.KindPlace.{KindPlace}
use Rattle.audit_wire_ask.specs.PlaceAsking.{FailsPlace}
use Rattle.audit_wire_ask.specs.Putting.{IsFile, AreGivenEntries}
use Rattle.audit_wire_ask.specs.Watching.{GivesNewest}
use Rattle.audit_cli_connection.specs.declared.question.Evidence.{Evidence}
use Rattle.audit_cli_connection.specs.declared.question.Question.{Question}
use Rattle.audit_cli_connection.specs.declared.question.Question.TheVariants as question
use Rattle.audit_cli_connection.specs.declared.fault.RemoteError.{RemoteError}
use Rattle.audit_cli_connection.specs.declared.fault.RemoteError.TheVariants.{Server}
use Rattle.audit_cli_client.specs.Asked.{AsksOnly, AnswersQuestion, GivesState, GivesPlace, GivesLast, IsGivenEvidence, FailsEvidence}
use Rattle.audit_cli_client.specs.Arguments.{judged_question}
use Rattle.audit_cli_connection.specs.Faults.{of_asking}
use denote.Ref.{Bor}

-- what was put is given
pub given_of : {E : Type 0} (put : Result ℕ E) (IsPut IsGiven : List ℕ → Type 0) → IfOk put (λ size. (bytes : List ℕ) × (size ≡ length bytes) × IsPut bytes × IsGiven bytes) → OnOk put ((bytes : List ℕ) × IsGiven bytes)
given_of (Ok size) IsPut IsGiven h = (h.0, h.3)
given_of (Err error) IsPut IsGiven h = tt

pub entries_of : {E : Type 0} (put : Result Export E) (file : Option (Option (List ℕ))) (w0 w1 r0 r1 : Option (List ℕ)) (first : ℕ)
    → IfOk put (λ export. (entries : List (List ℕ)) × (export.count ≡ length entries) × (export.size ≡ length (concat entries)) × IsFile file (concat entries) × GivesExport w0 w1 r0 r1 first entries)
    → OnOk put ((bytes : List ℕ) × AreGivenEntries w0 w1 r0 r1 first bytes)
entries_of (Ok export) file w0 w1 r0 r1 first h = (concat h.0, (h.0, h.4, refl))
entries_of (Err error) file w0 w1 r0 r1 first h = tt

-- an answer that couldn't be printed
answered : (w0 w1 r0 r1 : Option (List ℕ)) (asked : Question) (result : Result (Unit {0}) RemoteError) → AnswersQuestion w0 w1 r0 r1 asked → AsksOnly w0 w1 r0 r1 asked result
answered w0 w1 r0 r1 asked (Ok done) h = h
answered w0 w1 r0 r1 asked (Err fault) h = inr (inl h)

pub newest_asked : (given : Result Commitment ClientError) (result : Result (Unit {0}) RemoteError) (w0 w1 r0 r1 : Option (List ℕ)) → IfOk given (GivesNewest w0 w1 r0 r1) → IfErr given (FailsNewest w0 w1 r0 r1)
    → ((error : ClientError) → given ≡ Err error → result ≡ Err (Server error)) → AsksOnly w0 w1 r0 r1 question.Commitment result
newest_asked (Ok newest) result w0 w1 r0 r1 done fails passes = answered w0 w1 r0 r1 question.Commitment result (newest, done)
newest_asked (Err error) result w0 w1 r0 r1 done fails passes = subst (AsksOnly w0 w1 r0 r1 question.Commitment) (sym (passes error refl)) (inl (error, refl, fails))

pub state_asked : (given : Result StoreState ClientError) (result : Result (Unit {0}) RemoteError) (w0 w1 r0 r1 : Option (List ℕ)) → IfOk given (GivesState w0 w1 r0 r1) → IfErr given (FailsState w0 w1 r0 r1)
    → ((error : ClientError) → given ≡ Err error → result ≡ Err (Server error)) → AsksOnly w0 w1 r0 r1 question.State result
state_asked (Ok state) result w0 w1 r0 r1 done fails passes = answered w0 w1 r0 r1 question.State result (state, done)
state_asked (Err error) result w0 w1 r0 r1 done fails passes = subst (AsksOnly w0 w1 r0 r1 question.State) (sym (passes error refl)) (inl (error, refl, fails))

pub place_asked : (given : Result KindPlace ClientError) (result : Result (Unit {0}) RemoteError) (w0 w1 r0 r1 : Option (List ℕ)) (kind : ℕ) → IfOk given (GivesPlace w0 w1 r0 r1 kind) → IfErr given (FailsPlace w0 w1 r0 r1 kind)
    → ((error : ClientError) → given ≡ Err error → result ≡ Err (Server error)) → AsksOnly w0 w1 r0 r1 (question.Place kind) result
place_asked (Ok place) result w0 w1 r0 r1 kind done fails passes = answered w0 w1 r0 r1 (question.Place kind) result (place, done)
place_asked (Err error) result w0 w1 r0 r1 kind done fails passes = subst (AsksOnly w0 w1 r0 r1 (question.Place kind)) (sym (passes error refl)) (inl (error, refl, fails))

pub last_asked : (given : Result Commitment ClientError) (result : Result (Unit {0}) RemoteError) (w0 w1 r0 r1 : Option (List ℕ)) → IfOk given (GivesLast w0 w1 r0 r1) → IfErr given (FailsClosing w0 w1 r0 r1)
    → ((error : ClientError) → given ≡ Err error → result ≡ Err (Server error)) → AsksOnly w0 w1 r0 r1 question.Close result
last_asked (Ok last) result w0 w1 r0 r1 done fails passes = answered w0 w1 r0 r1 question.Close result (last, done)
last_asked (Err error) result w0 w1 r0 r1 done fails passes = subst (AsksOnly w0 w1 r0 r1 question.Close) (sym (passes error refl)) (inl (error, refl, fails))

pub evidence_asked : (put : Result ℕ (AskError RemoteError)) (result : Result (Unit {0}) RemoteError) (w0 w1 r0 r1 : Option (List ℕ)) (asked : Evidence) (out : Bor (List ℕ)) → OnOk put ((bytes : List ℕ) × IsGivenEvidence w0 w1 r0 r1 asked bytes)
    → IfErr put (FailsPuttingOne (IsGivenEvidence w0 w1 r0 r1 asked) (FailsEvidence w0 w1 r0 r1 asked)) → ((error : AskError RemoteError) → put ≡ Err error → result ≡ Err (of_asking error)) → AsksOnly w0 w1 r0 r1 (question.Evidence asked out) result
evidence_asked (Ok size) result w0 w1 r0 r1 asked out given fails passes = answered w0 w1 r0 r1 (question.Evidence asked out) result given
evidence_asked (Err (asking.Client error)) result w0 w1 r0 r1 asked out given (inl fails) passes =
    subst (AsksOnly w0 w1 r0 r1 (question.Evidence asked out)) (sym (passes (asking.Client error) refl)) (inl (error, refl, fails))
evidence_asked (Err (asking.Client error)) result w0 w1 r0 r1 asked out given (inr had) passes = answered w0 w1 r0 r1 (question.Evidence asked out) result had.1
evidence_asked (Err (asking.Out error)) result w0 w1 r0 r1 asked out given had passes = answered w0 w1 r0 r1 (question.Evidence asked out) result had

pub export_asked : (put : Result Export (AskError RemoteError)) (result : Result (Unit {0}) RemoteError) (w0 w1 r0 r1 : Option (List ℕ)) (out : Bor (List ℕ)) (first : ℕ) → OnOk put ((bytes : List ℕ) × AreGivenEntries w0 w1 r0 r1 first bytes)
    → IfErr put (FailsPutting ⊥ (IsUnasked w0 w1 r0 r1 ⊎ ((bytes : List ℕ) × AreGivenEntries w0 w1 r0 r1 first bytes)) (λ error. (old new : Option (List ℕ)) × FailsExport w0 w1 r0 r1 first old new error))
    → ((error : AskError RemoteError) → put ≡ Err error → result ≡ Err (of_asking error)) → AsksOnly w0 w1 r0 r1 (question.Export out first) result
export_asked (Ok export) result w0 w1 r0 r1 out first given fails passes = answered w0 w1 r0 r1 (question.Export out first) result given
export_asked (Err (asking.Client error)) result w0 w1 r0 r1 out first given (inl fails) passes =
    subst (AsksOnly w0 w1 r0 r1 (question.Export out first)) (sym (passes (asking.Client error) refl)) (inl (error, refl, fails))
export_asked (Err (asking.Client error)) result w0 w1 r0 r1 out first given (inr none) passes = absurd none.1
export_asked (Err (asking.Out error)) result w0 w1 r0 r1 out first given (inl unasked) passes = subst (AsksOnly w0 w1 r0 r1 (question.Export out first)) (sym (passes (asking.Out error) refl)) (inr (inr unasked))
export_asked (Err (asking.Out error)) result w0 w1 r0 r1 out first given (inr had) passes = answered w0 w1 r0 r1 (question.Export out first) result had

-- the question of words that are right
pub asked_of : (words : Option Question) (asked : Question) → judged_question words ≡ Ok asked → words ≡ Some asked
asked_of None asked same = absurd (cc same)
asked_of (Some question) asked same = ap Some (let e : question ≡ asked = cc same in e)
