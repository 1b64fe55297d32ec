-- The words of a search, and the proofs that they name.
use denote.Ref.{Bor}
use Rattle.std.specs.Prelude.{◌≡◌, ◌≢◌, ◌⊎◌, ℕ, ◌-◌, nat_eq, Option, Some, None, IfSome, Result, Ok, Err, List, [], ◌∷◌}
use Rattle.std.specs.Prelude.{if◌then◌else◌}
use Rattle.sha2.specs.Sha256.{sha256}
use Rattle.audit_disk.specs.FileFacts.{FileFacts}
use Rattle.audit_proof.specs.Acceptance.{AcceptsMembership}
use Rattle.audit_proof.specs.ProofBytes.{Member, member_of}
use Rattle.audit_proof.specs.declared.commitment.Commitment.{Commitment}
use Rattle.audit_tree.specs.Subtree.{leaf_hash_of}
use Rattle.audit_cli_offline.specs.CommitmentWord.{commitment_in_word}
use Rattle.audit_cli_base.specs.Arguments.{number_asked}
use Rattle.audit_cli_base.specs.declared.fault.CommandError.{CommandError}
use Rattle.audit_cli_base.specs.declared.fault.CommandError.TheVariants.{BadArgument, BadProof, Lines}
use Rattle.audit_cli_base.specs.declared.fault.CommandError.TheVariants.{NotAccepted, Refused}
use Rattle.audit_store.specs.declared.store_error.StoreError.TheVariants as store
use Rattle.audit_cli_salvage.specs.declared.proofs.ProvedLeaf.{ProvedLeaf}
use Rattle.audit_cli_salvage.specs.declared.words.Salvaging.{Salvaging}
use Rattle.audit_cli_salvage.specs.declared.words.TheConstants.{WITHIN}

-- The number of indices that are tried after the least one, given the number of entries that a hole may have. A hole
-- of no entries is a bad argument.
abbrev pub beyond_of : Result ℕ CommandError → Result ℕ CommandError
beyond_of (Ok within) = if nat_eq within 0 then Err BadArgument else Ok (within - 1)
beyond_of (Err fault) = Err fault

abbrev pub beyond_asked : Option (Bor (List ℕ)) → Result ℕ CommandError
beyond_asked word = beyond_of (number_asked word WITHIN)

-- there is no commitment for the proofs, or the word for it is none
abbrev pub LacksUnder : Option (Bor (List ℕ)) → List (Bor (List ℕ)) → Type 0
LacksUnder None proofs = proofs ≢ []
LacksUnder (Some word) proofs = commitment_in_word word.now ≡ None

-- the commitment for the proofs
abbrev pub IsUnderAsked : Option (Bor (List ℕ)) → List (Bor (List ℕ)) → Option Commitment → Type 0
IsUnderAsked None proofs under = (proofs ≡ []) × (under ≡ None)
IsUnderAsked (Some word) proofs under = (commitment_in_word word.now ≢ None) × (under ≡ commitment_in_word word.now)

-- one of the words is wrong that are checked before any file is opened
abbrev pub HasWrongSalvageWord : Salvaging → Type 0
HasWrongSalvageWord asked = (beyond_asked asked.within ≡ Err BadArgument) ⊎ LacksUnder asked.under asked.proofs.now

-- an inclusion proof is one for the commitment's count, and accepted under it
abbrev pub IsAcceptedUnder : Commitment → Member → Type 0
IsAcceptedUnder commitment proof =
    (proof.count ≡ commitment.count) × AcceptsMembership sha256 commitment proof.index proof.entry proof.hashes

-- the bytes are an accepted inclusion proof, which shows this leaf
pub record ShowsLeaf (commitment : Commitment) (bytes : List ℕ) (proved : ProvedLeaf) : Type 0 where
  pub proof : Member
  pub spelled : member_of bytes ≡ Some proof
  pub accepted : IsAcceptedUnder commitment proof
  pub index : proved.index ≡ proof.index
  pub leaf : proved.leaf ≡ leaf_hash_of proof.entry

-- why bytes show no leaf: they are no inclusion proof, or one that isn't accepted; or reading failed, or memory was
-- refused
abbrev pub IsLeafFault : Commitment → List ℕ → CommandError → Type 0
IsLeafFault commitment bytes BadProof = member_of bytes ≡ None
IsLeafFault commitment bytes NotAccepted =
    (proof : Member) × (member_of bytes ≡ Some proof) × ¬ IsAcceptedUnder commitment proof
IsLeafFault commitment bytes (Lines cause) = Unit {0}
IsLeafFault commitment bytes (Refused error) = error ≡ store.Memory
IsLeafFault commitment bytes _ = ⊥

module _ {F : Type 0} (facts : F → FileFacts) (remaining : F → Option (List ℕ)) where
  -- a file that was opened at this path, to read, has such a proof
  pub record ShowsLeafAt (commitment : Commitment) (path : List ℕ) (proved : ProvedLeaf) : Type 0 where
    pub file : F
    pub opened : (facts file).opened_to_read path
    pub shows : IfSome (remaining file) (λ bytes. ShowsLeaf commitment bytes proved)

  -- so have the files at these paths, in order
  abbrev pub ShowLeavesAt : Commitment → List (Bor (List ℕ)) → List ProvedLeaf → Type 0
  ShowLeavesAt commitment [] [] = Unit {0}
  ShowLeavesAt commitment (path ∷ paths) (proved ∷ proofs) =
      ShowsLeafAt commitment path.now proved × ShowLeavesAt commitment paths proofs
  ShowLeavesAt commitment _ _ = ⊥

  -- the proofs that the words name
  abbrev pub AreProofsAsked : Option (Bor (List ℕ)) → List (Bor (List ℕ)) → List ProvedLeaf → Type 0
  AreProofsAsked None paths proofs = (paths ≡ []) × (proofs ≡ [])
  AreProofsAsked (Some word) paths proofs = (commitment : Commitment)
      × (commitment_in_word word.now ≡ Some commitment) × ShowLeavesAt commitment paths proofs
