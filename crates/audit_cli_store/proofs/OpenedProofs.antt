-- An event that was written is that of the proof in the bytes.
use Rattle.std.proofs.Common.{inl, inr, ◌≡◌, ℕ, Bool, true, false, List, length, Option, Some, None, IfSome, Result, Ok, Err, refl, sym, ap, ◌∙◌, subst}
use Rattle.std.proofs.lemmas.Bool.{false≢true}
use Rattle.std.specs.Prelude.{codes, OnOk}
use Rattle.audit_disk.specs.FileFacts.{FileFacts}
use Rattle.audit_cli_offline.specs.CommitmentWord.{commitment_in_word}
use Rattle.audit_cli_store.specs.declared.opening.Opening.{Opening}
use Rattle.std.specs.Io.KnownBytes.{Appends, Keeps}
use Rattle.audit_text.specs.Writing.{WritesInPart}
use Rattle.audit_text.specs.declared.fault.LinesError.TheVariants as lines
use Rattle.audit_proof.specs.declared.commitment.Commitment.{Commitment}
use Rattle.audit_proof.specs.declared.member_proof.MemberProof.{MemberProof}
use Rattle.audit_proof.specs.declared.increment_proof.IncrementProof.{IncrementProof}
use Rattle.audit_proof.specs.ProofBytes.{Member, member_in, increment_in, member_of}
use Rattle.audit_chain.specs.EntryForm.{EntryParts}
use Rattle.audit_cli_offline.specs.declared.checking.Proof.{Proof}
use Rattle.audit_cli_offline.specs.declared.checking.Proof.TheVariants as proofs
use Rattle.audit_cli_offline.specs.declared.report_form.ReportForm.{ReportForm}
use Rattle.audit_cli_offline.specs.Judgment.{SpellsProof}
use Rattle.audit_cli_offline.specs.OpenedEntry.{IsEntryOf, OpensAs, event_in, read_under}
use Rattle.audit_link.specs.declared.opening.OpenedEvent.{OpenedEvent}
use Rattle.audit_chain.specs.EventData.{EventData}
use Rattle.audit_chain.specs.Keystream.{keystream}
use Rattle.audit_chain.proofs.Words.{length-xor_bytes}
use Rattle.audit_cli_offline.specs.ReportLines.{event_text}
use Rattle.audit_cli_base.specs.declared.fault.CommandError.{CommandError}
use Rattle.audit_cli_base.specs.declared.fault.CommandError.TheVariants as faults
use Rattle.audit_cli_store.specs.declared.checking.Judged.{Judged}
use Rattle.audit_cli_store.specs.Checks.{IsReadAndJudged, IsProofJudged, IsAcceptedMember, IsNotAccepted}
use Rattle.audit_cli_store.specs.OpenedProofs.{IsProofOpened, WritesEvent, IsAcceptedEntry, key_in_word, opened_text, OpensProofAt}
use Rattle.audit_cli_store.proofs.Checks.{one_kind, no_other_member}

-- an opened entry that was written
pub written_event : (form : ReportForm) (key : List ℕ) (index : ℕ) (entry shown : List ℕ) (found : Option OpenedEvent) (opened : OpenedEvent) (size : ℕ) (old new : Option (List ℕ)) → shown ≡ entry → found ≡ Some opened
    → OpensAs key shown found → size ≡ length opened.payload.items → Appends old new (event_text form index (event_in opened)) → WritesEvent form key index entry (Ok size) old new
written_event form key index entry shown found opened size old new same is opens sized written =
    let one : OpensAs key entry (Some opened) = subst (OpensAs key entry) is (subst (λ (bytes : List ℕ). OpensAs key bytes found) same opens) in (
      one.0,
      one.1,
      sized ∙ ap (λ (e : EventData). length e.payload) one.2 ∙ length-xor_bytes one.0.cipher (keystream key (length one.0.cipher)),
      subst (λ (e : EventData). Appends old new (event_text form index e)) one.2 written,
    )

-- the accepted proof that bytes encode is the one that was read
member_is : (bytes : List ℕ) (commitment : Commitment) (member : MemberProof) (m : IsAcceptedMember bytes commitment) → member_of bytes ≡ Some (member_in member) → m.proof ≡ member_in member
member_is bytes commitment member m spelled = cc (sym m.spelled ∙ spelled)

abbrev entry_at : (bytes : List ℕ) (commitment : Commitment) (member : MemberProof) (m : IsAcceptedMember bytes commitment) (parts : EntryParts) → member_of bytes ≡ Some (member_in member) → IsEntryOf member.entry.items parts
    → IsAcceptedEntry bytes commitment
entry_at bytes commitment member m parts spelled is = record {
  member = m;
  parts = parts;
  entry = subst (λ (p : Member). IsEntryOf p.entry parts) (sym (member_is bytes commitment member m spelled)) is;
}

-- the event was written for the bytes
pub event_of : (form : ReportForm) (key : List ℕ) (result : Result ℕ CommandError) (bytes : List ℕ) (commitment : Commitment) (member : MemberProof) (m : IsAcceptedMember bytes commitment) (old new : Option (List ℕ))
    → member_of bytes ≡ Some (member_in member) → WritesEvent form key member.index member.entry.items result old new → IsProofOpened form key result bytes commitment old new
event_of form key (Ok size) bytes commitment member m old new spelled writes = (
  entry_at bytes commitment member m writes.0 spelled writes.1,
  writes.2,
  subst (λ (p : Member). Appends old new (event_text form p.index (read_under key writes.0))) (sym (member_is bytes commitment member m spelled)) writes.3,
)
event_of form key (Err faults.BadProof) bytes commitment member m old new spelled writes = (
  inr record { member = m; other = λ parts is. writes.0 parts (subst (λ (p : Member). IsEntryOf p.entry parts) (member_is bytes commitment member m spelled) is) },
  writes.1,
)
event_of form key (Err (faults.Lines lines.Write)) bytes commitment member m old new spelled writes = inl (
  entry_at bytes commitment member m writes.0 spelled writes.1,
  subst (λ (p : Member). WritesInPart old new (event_text form p.index (read_under key writes.0))) (sym (member_is bytes commitment member m spelled)) writes.2,
)
event_of form key (Err (faults.Lines lines.Memory)) bytes commitment member m old new spelled writes = writes
event_of form key (Err (faults.Lines lines.Read)) bytes commitment member m old new spelled writes = absurd writes
event_of form key (Err (faults.Lines lines.InputTooLong)) bytes commitment member m old new spelled writes = absurd writes
event_of form key (Err (faults.Lines (lines.Line place cause))) bytes commitment member m old new spelled writes = absurd writes
event_of form key (Err (faults.Refused error)) bytes commitment member m old new spelled writes = writes
event_of form key (Err faults.BadArgument) bytes commitment member m old new spelled writes = absurd writes
event_of form key (Err faults.FileExists) bytes commitment member m old new spelled writes = absurd writes
event_of form key (Err faults.File) bytes commitment member m old new spelled writes = absurd writes
event_of form key (Err faults.InUse) bytes commitment member m old new spelled writes = absurd writes
event_of form key (Err faults.Replaced) bytes commitment member m old new spelled writes = absurd writes
event_of form key (Err (faults.TooSmall sectors)) bytes commitment member m old new spelled writes = absurd writes
event_of form key (Err (faults.OtherCount count)) bytes commitment member m old new spelled writes = absurd writes
event_of form key (Err (faults.OtherLog held own)) bytes commitment member m old new spelled writes = absurd writes
event_of form key (Err faults.Salvaged) bytes commitment member m old new spelled writes = absurd writes
event_of form key (Err (faults.Export fault)) bytes commitment member m old new spelled writes = absurd writes
event_of form key (Err faults.NotAccepted) bytes commitment member m old new spelled writes = absurd writes

-- ---- what was judged

judged_true : (proof : Proof) (accepted : Bool) (bytes : List ℕ) (commitment : Commitment) → accepted ≡ true → IsProofJudged (Ok accepted) bytes commitment None → IsAcceptedMember bytes commitment
judged_true proof false bytes commitment is judged = absurd (false≢true is)
judged_true proof true bytes commitment is judged = judged

judged_false : (accepted : Bool) (bytes : List ℕ) (commitment : Commitment) → accepted ≡ false → IsProofJudged (Ok accepted) bytes commitment None → IsNotAccepted bytes commitment None
judged_false false bytes commitment is judged = judged
judged_false true bytes commitment is judged = absurd (false≢true (sym is))

pub opened : (form : ReportForm) (key : List ℕ) (result : Result ℕ CommandError) (judged : Judged) (member : MemberProof) (known : Option (List ℕ)) (commitment : Commitment) (old new : Option (List ℕ))
    → judged.proof ≡ proofs.Member member → judged.accepted ≡ true → IfSome known (λ bytes. IsReadAndJudged (Ok judged) bytes commitment None)
    → WritesEvent form key member.index member.entry.items result old new → IfSome known (λ bytes. IsProofOpened form key result bytes commitment old new)
opened form key result judged member None commitment old new is accepted found writes = tt
opened form key result judged member (Some bytes) commitment old new is accepted found writes =
    event_of form key result bytes commitment member (judged_true judged.proof judged.accepted bytes commitment accepted found.1) old new (subst (SpellsProof bytes) is found.0) writes

pub refused : (form : ReportForm) (key : List ℕ) (judged : Judged) (known : Option (List ℕ)) (commitment : Commitment) (old new : Option (List ℕ)) → judged.accepted ≡ false
    → IfSome known (λ bytes. IsReadAndJudged (Ok judged) bytes commitment None) → Appends old new (codes "not accepted\n") → IfSome known (λ bytes. IsProofOpened form key (Err faults.NotAccepted) bytes commitment old new)
refused form key judged None commitment old new is found written = tt
refused form key judged (Some bytes) commitment old new is found written = (judged_false judged.accepted bytes commitment is found.1, written)

pub refused_in_part : (form : ReportForm) (key : List ℕ) (judged : Judged) (known : Option (List ℕ)) (commitment : Commitment) (old new : Option (List ℕ)) → judged.accepted ≡ false
    → IfSome known (λ bytes. IsReadAndJudged (Ok judged) bytes commitment None) → WritesInPart old new (codes "not accepted\n") → IfSome known (λ bytes. IsProofOpened form key (Err (faults.Lines lines.Write)) bytes commitment old new)
refused_in_part form key judged None commitment old new is found part = tt
refused_in_part form key judged (Some bytes) commitment old new is found part = inr (judged_false judged.accepted bytes commitment is found.1, part)

-- the flush of what was written keeps it
pub kept_after : (old mid new : Option (List ℕ)) (text : List ℕ) → Appends old mid text → Keeps mid new → Appends old new text
kept_after None mid new text appends keeps = tt
kept_after (Some xs) None new text appends keeps = absurd appends
kept_after (Some xs) (Some ys) None text appends keeps = absurd keeps
kept_after (Some xs) (Some ys) (Some zs) text appends keeps = keeps ∙ appends

-- an incremental proof isn't judged under one commitment
unjudged : (accepted : Bool) (increment : IncrementProof) (bytes : List ℕ) (commitment : Commitment) → SpellsProof bytes (proofs.Increment increment) → IsProofJudged (Ok accepted) bytes commitment None → ⊥
unjudged true increment bytes commitment spelled judged = one_kind bytes judged.proof (increment_in increment) judged.spelled spelled
unjudged false increment bytes commitment spelled judged = judged.kind (no_other_member bytes (increment_in increment) (member_of bytes) spelled refl)

pub never : (P : List ℕ → Type 0) (judged : Judged) (increment : IncrementProof) (known : Option (List ℕ)) (commitment : Commitment) → judged.proof ≡ proofs.Increment increment
    → IfSome known (λ bytes. IsReadAndJudged (Ok judged) bytes commitment None) → IfSome known P
never P judged increment None commitment is found = tt
never P judged increment (Some bytes) commitment is found = absurd (unjudged judged.accepted increment bytes commitment (subst (SpellsProof bytes) is found.0) found.1)

-- ---- the whole command

pub opens_at : {F : Type 0} (facts : F → FileFacts) (remaining : F → Option (List ℕ)) (asked : Opening) (file : F) (commitment : Commitment) (key : List ℕ) (size : ℕ) (old mid new : Option (List ℕ)) (done : Result (Unit {0}) CommandError)
    → (facts file).opened_to_read asked.proof.now → commitment_in_word asked.commitment.now ≡ Some commitment → key_in_word asked.key.now ≡ Some key
    → IfSome (remaining file) (λ bytes. IsProofOpened asked.form key (Ok size) bytes commitment old mid) → Keeps mid new → OnOk done (OpensProofAt facts remaining asked old new)
opens_at {F = F} facts remaining asked file commitment key size old mid new (Err fault) at commitment_is key_is found keeps = tt
opens_at {F = F} facts remaining asked file commitment key size old mid new (Ok done) at commitment_is key_is found keeps = record {
  file = file;
  opened = at;
  commitment = commitment;
  commitment_is = commitment_is;
  key = key;
  key_is = key_is;
  written = by (remaining file) found;
}
  where
    by : (known : Option (List ℕ)) → IfSome known (λ bytes. IsProofOpened asked.form key (Ok size) bytes commitment old mid)
        → IfSome known (λ bytes. (one : IsAcceptedEntry bytes commitment) × Appends old new (opened_text asked.form key one))
    by None found = tt
    by (Some bytes) found = (found.0, kept_after old mid new (opened_text asked.form key found.0) found.2 keeps)
