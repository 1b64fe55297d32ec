-- The judgment on a proof under one or two commitments.
use Rattle.std.specs.Prelude.{◌≡◌, ◌↔◌, Bool, ℕ, IsTrue, Option, Some, None, List, MatchOption}
use Rattle.sha2.specs.Sha256.{sha256}
use Rattle.audit_proof.specs.declared.commitment.Commitment.{Commitment}
use Rattle.audit_proof.specs.Acceptance.{AcceptsMembership, AcceptsIncrement}
use Rattle.audit_proof.specs.ProofBytes.{member_in, increment_in, member_of, increment_of}
use Rattle.audit_cli_offline.specs.declared.checking.Proof.{Proof}
use Rattle.audit_cli_offline.specs.declared.checking.Proof.TheVariants.{Member, Increment}

-- these bytes encode the proof
abbrev pub SpellsProof : List ℕ → Proof → Type 0
SpellsProof bytes (Member proof) = member_of bytes ≡ Some (member_in proof)
SpellsProof bytes (Increment proof) = increment_of bytes ≡ Some (increment_in proof)

-- A membership proof is judged under one commitment and an incremental proof under two. They must have the proof's
-- counts.
abbrev pub IsAcceptable : Proof → Commitment → Option Commitment → Type 0
IsAcceptable (Member proof) older None = (proof.count ≡ older.count)
    × AcceptsMembership sha256 older proof.index proof.entry.items proof.hashes.items
IsAcceptable (Member proof) older (Some newer) = ⊥
IsAcceptable (Increment proof) older None = ⊥
IsAcceptable (Increment proof) older (Some newer) =
    (proof.older ≡ older.count) × (proof.newer ≡ newer.count) × AcceptsIncrement sha256 older newer proof.hashes.items

-- the number of commitments is the one that the proof needs
abbrev pub IsAsked : Proof → Option Commitment → Type 0
IsAsked (Member proof) None = Unit {0}
IsAsked (Member proof) (Some newer) = ⊥
IsAsked (Increment proof) None = ⊥
IsAsked (Increment proof) (Some newer) = Unit {0}

-- nothing for another number of commitments; otherwise whether the proof is accepted
abbrev pub IsJudgment : Proof → Commitment → Option Commitment → Option Bool → Type 0
IsJudgment proof older newer said =
    MatchOption said (IsAsked proof newer → ⊥)
    (λ accepted. IsAsked proof newer × (IsTrue accepted ↔ IsAcceptable proof older newer))
