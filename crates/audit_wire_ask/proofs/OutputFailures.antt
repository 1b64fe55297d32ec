-- Only an output that failed gives the error of the output.
use Rattle.std.specs.Prelude.{Result, Ok, Err, IfErr, cond}
use Rattle.std.proofs.Common.{◌≡◌, ◌==◌, inl, inr, ℕ, Bool, true, false, Option, Some, None, List, [], sym, subst}
use Rattle.audit_proof.specs.declared.commitment.Commitment.{Commitment}
use Rattle.audit_wire.specs.declared.refusal.Refusal.{Refusal}
use Rattle.audit_wire.specs.declared.request.Request.{Request}
use Rattle.audit_wire.specs.declared.reply.Reply.{Reply}
use Rattle.audit_wire.specs.declared.reply.Reply.TheVariants as reply
use Rattle.audit_wire_ask.specs.declared.fault.ClientError.{ClientError}
use Rattle.audit_wire_ask.specs.declared.fault.ClientError.TheVariants.{Refused, BadReply, Ended, TimedOut, NotAccepted, Shorter, OtherRoot, Output, Memory}
use Rattle.audit_wire_ask.specs.Asking.{not_due}
use Rattle.audit_wire_ask.specs.Failing.{IsLost, FailsToRead, error_for, HasNoAnswer, FailsBeginning, FailsJoiningBy, FailsEntry, FailsMember, FailsIncrement, WritingBreaksOnlyIf}

pub lost_only : (Cause : Type 0) (error : ClientError) → IsLost error → WritingBreaksOnlyIf Cause error
lost_only Cause (Refused code) lost = tt
lost_only Cause BadReply lost = tt
lost_only Cause Ended lost = tt
lost_only Cause TimedOut lost = tt
lost_only Cause NotAccepted lost = tt
lost_only Cause Shorter lost = tt
lost_only Cause OtherRoot lost = tt
lost_only Cause Output lost = absurd lost
lost_only Cause Memory lost = tt

same_only : (Cause : Type 0) (error one : ClientError) → error ≡ one → WritingBreaksOnlyIf Cause one → WritingBreaksOnlyIf Cause error
same_only Cause error one same only = subst (WritingBreaksOnlyIf Cause) (sym same) only

refused_only : (Cause : Type 0) (is_it : Bool) (code : Refusal) → WritingBreaksOnlyIf Cause (cond is_it (Refused code) BadReply)
refused_only Cause true code = tt
refused_only Cause false code = tt

not_due_only : (Cause : Type 0) (tag : ℕ) (given : Reply) → WritingBreaksOnlyIf Cause (not_due tag given)
not_due_only Cause tag (reply.Refused given code) = refused_only Cause (given == tag) code
not_due_only Cause tag (reply.Commitment given count root) = tt
not_due_only Cause tag (reply.Entry given entry) = tt
not_due_only Cause tag (reply.State given count root end sectors generation version closed) = tt
not_due_only Cause tag (reply.Place given number count) = tt
not_due_only Cause tag (reply.Placed given index count root key) = tt
not_due_only Cause tag (reply.Membership given hashes entry) = tt
not_due_only Cause tag (reply.Incremental given hashes) = tt
not_due_only Cause tag (reply.Acknowledgement given index count root) = tt

said_only : (Cause : Type 0) (tag : ℕ) (said : Option Reply) → WritingBreaksOnlyIf Cause (error_for tag said)
said_only Cause tag None = tt
said_only Cause tag (Some given) = not_due_only Cause tag given

pub reading_only : (Cause : Type 0) (r0 r1 : Option (List ℕ)) (error : ClientError) → FailsToRead r0 r1 error → WritingBreaksOnlyIf Cause error
reading_only Cause r0 r1 error (inl lost) = lost_only Cause error lost.0
reading_only Cause r0 r1 error (inr (inl memory)) = same_only Cause error Memory memory.0 tt
reading_only Cause r0 r1 error (inr (inr bad)) = same_only Cause error BadReply bad.0 tt

pub none_only : (Cause : Type 0) (tag : ℕ) (given : Reply) (error : ClientError) → error ≡ not_due tag given → WritingBreaksOnlyIf Cause error
none_only Cause tag given error none = same_only Cause error (not_due tag given) none (not_due_only Cause tag given)

module _ {w0 w1 r0 r1 : Option (List ℕ)} (Cause : Type 0) (error : ClientError) where
  pub unanswered_only : {asked : List Request} {given : List Reply} {tag : ℕ} {IsAnswer : Reply → Type 0} → HasNoAnswer w0 w1 r0 r1 asked given tag IsAnswer error → WritingBreaksOnlyIf Cause error
  unanswered_only (inl (inl lost)) = lost_only Cause error lost.0
  unanswered_only (inl (inr memory)) = same_only Cause error Memory memory.0 tt
  unanswered_only {tag = tag} (inr other) = same_only Cause error _ other.error_is (said_only Cause tag other.said)

  pub joined_only : (tag : ℕ) (older newer : Commitment) → FailsJoiningBy tag w0 w1 r0 r1 older newer error → WritingBreaksOnlyIf Cause error
  joined_only tag older newer (inl none) = unanswered_only none
  joined_only tag older newer (inr refused) = same_only Cause error NotAccepted refused.0 tt

  pub beginning_only : (first : ℕ) (newest : Commitment) → FailsBeginning w0 w1 r0 r1 [] [] first newest error → WritingBreaksOnlyIf Cause error
  beginning_only first newest (some, inl none) = unanswered_only none
  beginning_only first newest (some, inr refused) = same_only Cause error NotAccepted refused.0 tt

  pub entry_only : {index : ℕ} → FailsEntry w0 w1 r0 r1 index error → WritingBreaksOnlyIf Cause error
  entry_only (inl none) = unanswered_only none
  entry_only (inr (newest, inl none)) = unanswered_only none
  entry_only (inr (newest, inr (hashes, entry, said, inl refused))) = same_only Cause error NotAccepted refused.0 tt
  entry_only (inr (newest, inr (hashes, entry, said, inr bad))) = same_only Cause error BadReply bad.0 tt

  pub member_only : {index count : ℕ} → FailsMember w0 w1 r0 r1 index count error → WritingBreaksOnlyIf Cause error
  member_only (inl none) = unanswered_only none
  member_only (inr (newest, inl none)) = unanswered_only none
  member_only (inr (newest, inr (inl (hashes, entry, inl refused)))) = same_only Cause error NotAccepted refused.0 tt
  member_only (inr (newest, inr (inl (hashes, entry, inr (root, accepts, other, inl none))))) = unanswered_only none
  member_only (inr (newest, inr (inl (hashes, entry, inr (root, accepts, other, inr refused))))) = same_only Cause error NotAccepted refused.0 tt
  member_only (inr (newest, inr (inr memory))) = same_only Cause error Memory memory.0 tt

  pub increment_only : {older newer : ℕ} → FailsIncrement w0 w1 r0 r1 older newer error → WritingBreaksOnlyIf Cause error
  increment_only (inl none) = unanswered_only none
  increment_only (inr (newest, inl none)) = unanswered_only none
  increment_only (inr (newest, inr (inl (hashes, inl refused)))) = same_only Cause error NotAccepted refused.0 tt
  increment_only (inr (newest, inr (inl (hashes, inr (root, accepts, other, inl none))))) = unanswered_only none
  increment_only (inr (newest, inr (inl (hashes, inr (root, accepts, other, inr refused))))) = same_only Cause error NotAccepted refused.0 tt
  increment_only (inr (newest, inr (inr memory))) = same_only Cause error Memory memory.0 tt

-- a cause of another cause
pub caused_only : (Cause Other : Type 0) (error : ClientError) → (Cause → Other) → WritingBreaksOnlyIf Cause error → WritingBreaksOnlyIf Other error
caused_only Cause Other (Refused code) by only = tt
caused_only Cause Other BadReply by only = tt
caused_only Cause Other Ended by only = tt
caused_only Cause Other TimedOut by only = tt
caused_only Cause Other NotAccepted by only = tt
caused_only Cause Other Shorter by only = tt
caused_only Cause Other OtherRoot by only = tt
caused_only Cause Other Output by only = by only
caused_only Cause Other Memory by only = tt

pub never_only : (Cause : Type 0) (error : ClientError) → WritingBreaksOnlyIf ⊥ error → WritingBreaksOnlyIf Cause error
never_only Cause error none = caused_only ⊥ Cause error (λ broken. absurd broken) none

-- it is this writer that failed
pub writer_broke : {W : Type 0} (failed : W → Type 0) (writer : W) (error : ClientError) → WritingBreaksOnlyIf (failed writer) error → WritingBreaksOnlyIf ((one : W) × failed one) error
writer_broke {W = W} failed writer error only = caused_only (failed writer) ((one : W) × failed one) error (λ broken. (writer, broken)) only

pub joined_if : {T : Type 0} (w0 w1 r0 r1 : Option (List ℕ)) (tag : ℕ) (older newer : Commitment) (result : Result T ClientError) → IfErr result (FailsJoiningBy tag w0 w1 r0 r1 older newer) → IfErr result (WritingBreaksOnlyIf ⊥)
joined_if w0 w1 r0 r1 tag older newer (Ok done) h = tt
joined_if w0 w1 r0 r1 tag older newer (Err error) h = joined_only ⊥ error tag older newer h
