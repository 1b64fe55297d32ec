-- The judgment of the bytes of a proof under commitments.
use Rattle.std.specs.Prelude.{◌≡◌, ◌⊎◌, ℕ, Option, None, Some}
use Rattle.sha2.specs.Sha256.{sha256}
use Rattle.audit_proof.specs.declared.commitment.Commitment.{Commitment}
use Rattle.audit_proof.specs.Acceptance.{AcceptsMembership, AcceptsIncrement}
use Rattle.audit_proof.specs.ProofBytes.{Member, Increment}
use Rattle.audit_c.specs.declared.answers.TheConstants.{OK, NOT_ACCEPTED, BAD_PROOF}
use Rattle.audit_c.specs.declared.proof_views.MemberView.{MemberView}
use Rattle.audit_c.specs.declared.proof_views.IncrementView.{IncrementView}

-- The proof is of the commitment's count, and is accepted.
pub record ProvesEntry (proof : Member) (commitment : Commitment) : Type 0 where
  pub count : proof.count ≡ commitment.count
  pub accepted : AcceptsMembership sha256 commitment proof.index proof.entry proof.hashes

-- The proof is between the two commitments' counts, and is accepted.
pub record ProvesExtension (proof : Increment) (older newer : Commitment) : Type 0 where
  pub from : proof.older ≡ older.count
  pub to : proof.newer ≡ newer.count
  pub accepted : AcceptsIncrement sha256 older newer proof.hashes

-- bytes that are no proof are refused as such, and otherwise the proof decides
abbrev pub IsProofAnswer : {Proof : Type 0} → (Proof → Type 0) → Option Proof → ℕ → Type 0
IsProofAnswer Proves None answer = answer ≡ BAD_PROOF
IsProofAnswer Proves (Some proof) answer = ((answer ≡ OK) × Proves proof) ⊎ ((answer ≡ NOT_ACCEPTED) × ¬ Proves proof)

-- the proofs that views of bytes show
abbrev pub member_shown : MemberView → Member
member_shown view = record { index = view.index; count = view.count; hashes = view.hashes.now; entry = view.entry.now }

abbrev pub increment_shown : IncrementView → Increment
increment_shown view = record { older = view.older; newer = view.newer; hashes = view.hashes.now }
