-- A proof read from bytes, and the judgment on it.
use Rattle.std.proofs.Common.{inl, inr, ◌≡◌, ◌≢◌, ◌↔◌, ℕ, ◌+◌, ◌*◌, ◌<◌, ◌≤◌, Bool, true, false, ◌&&◌, ◌==◌, leb, List, length, drop, Option, Some, None, IfSome, Ok, Err, refl, sym, ap, ◌∙◌, ◌++◌, subst, arith, length-drop}
use Rattle.std.specs.Prelude.{IsTrue, codes}
use Rattle.std.proofs.lemmas.Bool.{false≢true}
use Rattle.std.proofs.lemmas.Option.{none-some}
use Rattle.sha2.specs.Sha256.{sha256}
use Rattle.std.proofs.lemmas.Bool.Decides.{nat_tests}
use Rattle.audit_base.specs.declared.limits.TheConstants.{HASH_LEN, MAX_MEMBER_HASHES, MAX_INCREMENT_HASHES, MAX_ENTRY}
use Rattle.audit_text.specs.declared.input.TheConstants.{INPUT_LIMIT}
use Rattle.audit_proof.specs.declared.commitment.Commitment.{Commitment}
use Rattle.audit_proof.specs.declared.bytes.Head.{Head}
use Rattle.audit_proof.specs.declared.bytes.TheConstants.{MEMBER_MARK, INCREMENT_MARK, HEAD_LEN}
use Rattle.audit_proof.specs.declared.member_proof.MemberProof.{MemberProof}
use Rattle.audit_proof.specs.declared.increment_proof.IncrementProof.{IncrementProof}
use Rattle.audit_proof.specs.Acceptance.{AcceptsMembership, AcceptsIncrement}
use Rattle.audit_proof.specs.ProofBytes.{Member, Increment, head_of, member_in, increment_in, member_from, member_of, increment_from, increment_of}
use Rattle.audit_proof.proofs.ReadBytes.{head_parts}
use Rattle.audit_cli_offline.specs.declared.checking.Proof.{Proof}
use Rattle.audit_cli_offline.specs.declared.checking.Proof.TheVariants as proofs
use Rattle.audit_cli_offline.specs.Judgment.{SpellsProof, IsAcceptable, IsAsked}
use Rattle.audit_cli_offline.specs.declared.check_form.CheckForm.{CheckForm}
use Rattle.audit_cli_offline.specs.declared.check_form.CheckForm.TheVariants as forms
use Rattle.audit_cli_offline.specs.ProofLines.{judgment_lines}
use Rattle.std.specs.Io.KnownBytes.{Appends}
use Rattle.audit_text.specs.Writing.{WritesInPart}
use Rattle.audit_text.specs.declared.fault.LinesError.{LinesError}
use Rattle.audit_text.specs.declared.fault.LinesError.TheVariants as lines
use Rattle.audit_cli_offline.specs.TwoPasses.{IsLineUnwritten}
use Rattle.audit_cli_base.specs.declared.fault.CommandError.TheVariants.{Lines}
use Rattle.audit_cli_store.specs.declared.checking.Judged.{Judged}
use Rattle.audit_cli_store.specs.Checks.{IsReadAndJudged, IsChecked, WritesLinesInPart, contents_line, accepted_lines, IsAcceptedMember, IsAcceptedIncrement, IsOfOtherKind, IsNoProof, IsProofJudged}

-- bytes that are too long for an input aren't a proof
few_after : (number size : ℕ) → 65536 ≤ size → (leb number MAX_MEMBER_HASHES && leb (HASH_LEN * number) size && leb size (HASH_LEN * number + MAX_ENTRY)) ≡ false
few_after number size long = grind (arith, nat_tests)

few_hashes : (number size : ℕ) → 65536 ≤ size → (leb number MAX_INCREMENT_HASHES && (size == HASH_LEN * number)) ≡ false
few_hashes number size long = grind (arith, nat_tests)

no_member : (body : List ℕ) (head : Option Head) → 65536 ≤ length body → member_from body head ≡ None
no_member body None long = refl
no_member body (Some head) long = rw (few_after head.number (length body) long) refl

no_increment : (body : List ℕ) (head : Option Head) → 65536 ≤ length body → increment_from body head ≡ None
no_increment body None long = refl
no_increment body (Some head) long = rw (few_hashes head.number (length body) long) refl

pub too_long : (bytes : List ℕ) → INPUT_LIMIT < length bytes → IsNoProof bytes
too_long bytes long =
    let after : 65536 ≤ length (drop HEAD_LEN bytes) = omega (arith, long, length-drop HEAD_LEN bytes) in
    record { member = no_member (drop HEAD_LEN bytes) (head_of MEMBER_MARK bytes) after; increment = no_increment (drop HEAD_LEN bytes) (head_of INCREMENT_MARK bytes) after }

-- a proof is accepted if and only if the bytes that encode it are an accepted proof
accepted_member : (bytes : List ℕ) (p : MemberProof) (older : Commitment) → member_of bytes ≡ Some (member_in p) → IsAcceptedMember bytes older → IsAcceptable (proofs.Member p) older None
accepted_member bytes p older spelled is =
    let same : is.proof ≡ member_in p = cc in
    subst (λ (m : Member). (m.count ≡ older.count) × AcceptsMembership sha256 older m.index m.entry m.hashes) same (is.count, is.accepted)

accepted_increment : (bytes : List ℕ) (p : IncrementProof) (older newer : Commitment) → increment_of bytes ≡ Some (increment_in p) → IsAcceptedIncrement bytes older newer
    → IsAcceptable (proofs.Increment p) older (Some newer)
accepted_increment bytes p older newer spelled is =
    let same : is.proof ≡ increment_in p = cc in
    subst (λ (i : Increment). (i.older ≡ older.count) × (i.newer ≡ newer.count) × AcceptsIncrement sha256 older newer i.hashes) same (is.older_count, is.newer_count, is.accepted)

-- bytes begin with only one mark
one_kind_by : (bytes : List ℕ) (first second : Option Head) (p : Member) (i : Increment) → head_of MEMBER_MARK bytes ≡ first → head_of INCREMENT_MARK bytes ≡ second
    → member_from (drop HEAD_LEN bytes) first ≡ Some p → increment_from (drop HEAD_LEN bytes) second ≡ Some i → ⊥
one_kind_by bytes None second p i one other member increment = none-some p member
one_kind_by bytes (Some head) None p i one other member increment = none-some i increment
one_kind_by bytes (Some head) (Some another) p i one other member increment =
    omega (arith, (head_parts MEMBER_MARK bytes head one).marked, (head_parts INCREMENT_MARK bytes another other).marked)

pub one_kind : (bytes : List ℕ) (p : Member) (i : Increment) → member_of bytes ≡ Some p → increment_of bytes ≡ Some i → ⊥
one_kind bytes p i member increment = one_kind_by bytes (head_of MEMBER_MARK bytes) (head_of INCREMENT_MARK bytes) p i refl refl member increment

no_other_increment : (bytes : List ℕ) (p : Member) (found : Option Increment) → member_of bytes ≡ Some p → increment_of bytes ≡ found → increment_of bytes ≡ None
no_other_increment bytes p None member increment = increment
no_other_increment bytes p (Some i) member increment = absurd (one_kind bytes p i member increment)

pub no_other_member : (bytes : List ℕ) (i : Increment) (found : Option Member) → increment_of bytes ≡ Some i → member_of bytes ≡ found → member_of bytes ≡ None
no_other_member bytes i None increment member = member
no_other_member bytes i (Some p) increment member = absurd (one_kind bytes p i member increment)

pub is_member : (bytes : List ℕ) (p : Member) → member_of bytes ≡ Some p → member_of bytes ≢ None
is_member bytes p spelled none = none-some p (sym none ∙ spelled)

is_increment : (bytes : List ℕ) (i : Increment) → increment_of bytes ≡ Some i → increment_of bytes ≢ None
is_increment bytes i spelled none = none-some i (sym none ∙ spelled)

-- the judgment on a proof is the judgment on the bytes that encode it
pub judged_bytes : (proof : Proof) (bytes : List ℕ) (older : Commitment) (newer : Option Commitment) (said : Bool) → SpellsProof bytes proof → IsAsked proof newer → (IsTrue said ↔ IsAcceptable proof older newer)
    → IsProofJudged (Ok said) bytes older newer
judged_bytes (proofs.Member p) bytes older None true spelled asked judged =
    let accepted = judged.0 refl in
    record { proof = member_in p; spelled = spelled; count = accepted.0; accepted = accepted.1 }
judged_bytes (proofs.Member p) bytes older None false spelled asked judged = record {
  kind = is_member bytes (member_in p) spelled;
  refused = λ is. false≢true (judged.1 (accepted_member bytes p older spelled is));
}
judged_bytes (proofs.Member p) bytes older (Some newer) said spelled asked judged = absurd asked
judged_bytes (proofs.Increment p) bytes older None said spelled asked judged = absurd asked
judged_bytes (proofs.Increment p) bytes older (Some newer) true spelled asked judged =
    let accepted = judged.0 refl in
    record { proof = increment_in p; spelled = spelled; older_count = accepted.0; newer_count = accepted.1; accepted = accepted.2 }
judged_bytes (proofs.Increment p) bytes older (Some newer) false spelled asked judged = record {
  kind = is_increment bytes (increment_in p) spelled;
  refused = λ is. false≢true (judged.1 (accepted_increment bytes p older newer spelled is));
}

pub other_kind : (proof : Proof) (bytes : List ℕ) (newer : Option Commitment) → SpellsProof bytes proof → ¬ IsAsked proof newer → IsOfOtherKind bytes newer
other_kind (proofs.Member p) bytes None spelled unasked = absurd (unasked tt)
other_kind (proofs.Member p) bytes (Some newer) spelled unasked = record {
  proof = inl (is_member bytes (member_in p) spelled);
  other = λ kind. kind (no_other_increment bytes (member_in p) (increment_of bytes) spelled refl);
}
other_kind (proofs.Increment p) bytes None spelled unasked = record {
  proof = inr (is_increment bytes (increment_in p) spelled);
  other = λ kind. kind (no_other_member bytes (increment_in p) (member_of bytes) spelled refl);
}
other_kind (proofs.Increment p) bytes (Some newer) spelled unasked = absurd (unasked tt)

-- the lines for an accepted proof are those for the bytes that encode it
pub lines_for : (form : CheckForm) (proof : Proof) (bytes : List ℕ) → SpellsProof bytes proof → judgment_lines form proof true ≡ accepted_lines form bytes
lines_for forms.Judgment proof bytes spelled = refl
lines_for forms.Contents (proofs.Member p) bytes spelled = ap (λ (first : Option Member). codes "accepted\n" ++ contents_line first (increment_of bytes)) (sym spelled)
lines_for forms.Contents (proofs.Increment p) bytes spelled =
    ap (λ (second : Option Increment). codes "accepted\n" ++ contents_line None second) (sym spelled)
    ∙ ap (λ (first : Option Member). codes "accepted\n" ++ contents_line first (increment_of bytes)) (sym (no_other_member bytes (increment_in p) (member_of bytes) spelled refl))

-- the lines for an accepted proof were written
said_by : (form : CheckForm) (proof : Proof) (accepted : Bool) (bytes : List ℕ) (older : Commitment) (newer : Option Commitment) (old new : Option (List ℕ)) → accepted ≡ true → SpellsProof bytes proof
    → IsProofJudged (Ok accepted) bytes older newer → Appends old new (judgment_lines form proof accepted) → IsChecked form (Ok tt) bytes older newer old new
said_by form proof false bytes older newer old new is spelled judged written = absurd (false≢true is)
said_by form proof true bytes older newer old new is spelled judged written = (judged, subst (Appends old new) (lines_for form proof bytes spelled) written)

pub said : (form : CheckForm) (judged : Judged) (known : Option (List ℕ)) (older : Commitment) (newer : Option Commitment) (old new : Option (List ℕ)) → judged.accepted ≡ true
    → IfSome known (λ bytes. IsReadAndJudged (Ok judged) bytes older newer) → Appends old new (judgment_lines form judged.proof judged.accepted) → IfSome known (λ bytes. IsChecked form (Ok tt) bytes older newer old new)
said form judged None older newer old new is found written = tt
said form judged (Some bytes) older newer old new is found written = said_by form judged.proof judged.accepted bytes older newer old new is found.0 found.1 written

-- the lines weren't written completely
part_by : (form : CheckForm) (proof : Proof) (accepted : Bool) (bytes : List ℕ) (older : Commitment) (newer : Option Commitment) (old new : Option (List ℕ)) → SpellsProof bytes proof
    → IsProofJudged (Ok accepted) bytes older newer → WritesInPart old new (judgment_lines form proof accepted) → WritesLinesInPart form bytes older newer old new
part_by form proof true bytes older newer old new spelled judged part = inl (judged, subst (WritesInPart old new) (lines_for form proof bytes spelled) part)
part_by form proof false bytes older newer old new spelled judged part = inr (judged, part)

unsaid_by : (form : CheckForm) (judged : Judged) (fault : LinesError) (bytes : List ℕ) (older : Commitment) (newer : Option Commitment) (old new : Option (List ℕ)) → IsReadAndJudged (Ok judged) bytes older newer
    → IsLineUnwritten fault old new (judgment_lines form judged.proof judged.accepted) → IsChecked form (Err (Lines fault)) bytes older newer old new
unsaid_by form judged lines.Write bytes older newer old new found unwritten = part_by form judged.proof judged.accepted bytes older newer old new found.0 found.1 unwritten
unsaid_by form judged lines.Memory bytes older newer old new found unwritten = unwritten
unsaid_by form judged lines.Read bytes older newer old new found unwritten = absurd unwritten
unsaid_by form judged lines.InputTooLong bytes older newer old new found unwritten = absurd unwritten
unsaid_by form judged (lines.Line place cause) bytes older newer old new found unwritten = absurd unwritten

pub unsaid : (form : CheckForm) (judged : Judged) (fault : LinesError) (known : Option (List ℕ)) (older : Commitment) (newer : Option Commitment) (old new : Option (List ℕ)) → IfSome known (λ bytes. IsReadAndJudged (Ok judged) bytes older newer)
    → IsLineUnwritten fault old new (judgment_lines form judged.proof judged.accepted) → IfSome known (λ bytes. IsChecked form (Err (Lines fault)) bytes older newer old new)
unsaid form judged fault None older newer old new found unwritten = tt
unsaid form judged fault (Some bytes) older newer old new found unwritten = unsaid_by form judged fault bytes older newer old new found unwritten
