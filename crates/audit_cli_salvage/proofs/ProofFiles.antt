-- What proofs in files show.
use Rattle.std.specs.Prelude.{Option, Some, None, IfSome}
use Rattle.std.proofs.Common.{◌≡◌, ◌∙◌, ℕ, Bor, List, [], ◌∷◌, ◌++◌, sym, ap}
use Rattle.audit_disk.specs.FileFacts.{FileFacts}
use Rattle.audit_proof.specs.ProofBytes.{Member, member_of}
use Rattle.audit_proof.specs.declared.commitment.Commitment.{Commitment}
use Rattle.audit_tree.specs.Subtree.{leaf_hash_of}
use Rattle.audit_cli_base.specs.declared.fault.CommandError.TheVariants.{NotAccepted}
use Rattle.audit_cli_salvage.specs.SalvageWords.{IsAcceptedUnder, IsLeafFault, ShowsLeaf, ShowsLeafAt, ShowLeavesAt}
use Rattle.audit_cli_salvage.specs.declared.proofs.ProvedLeaf.{ProvedLeaf}

-- what is known of the bytes that were read
module _ (known : Option (List ℕ)) (input bytes : List ℕ) (proof : Member) (whole : IfSome known (λ all. all ≡ input)) (read : bytes ≡ input) (spelled : member_of bytes ≡ Some proof) where
  spells : IfSome known (λ all. member_of all ≡ Some proof)
  spells = by_known known whole where
    by_known : (k : Option (List ℕ)) → IfSome k (λ all. all ≡ input) → IfSome k (λ all. member_of all ≡ Some proof)
    by_known None is = tt
    by_known (Some all) is = ap member_of (is ∙ sym read) ∙ spelled

  pub leaf_shown : (commitment : Commitment) (proved : ProvedLeaf) → IsAcceptedUnder commitment proof → proved.index ≡ proof.index → proved.leaf ≡ leaf_hash_of proof.entry → IfSome known (λ all. ShowsLeaf commitment all proved)
  leaf_shown commitment proved accepted index leaf = by_known known spells where
    by_known : (k : Option (List ℕ)) → IfSome k (λ all. member_of all ≡ Some proof) → IfSome k (λ all. ShowsLeaf commitment all proved)
    by_known None is = tt
    by_known (Some all) is = record { proof = proof; spelled = is; accepted = accepted; index = index; leaf = leaf }

  pub not_accepted : (commitment : Commitment) → ¬ IsAcceptedUnder commitment proof → IfSome known (λ all. IsLeafFault commitment all NotAccepted)
  not_accepted commitment refused = by_known known spells where
    by_known : (k : Option (List ℕ)) → IfSome k (λ all. member_of all ≡ Some proof) → IfSome k (λ all. IsLeafFault commitment all NotAccepted)
    by_known None is = tt
    by_known (Some all) is = (proof, is, refused)

module _ {F : Type 0} (facts : F → FileFacts) (remaining : F → Option (List ℕ)) where
  -- one more proof was read
  pub leaves_more : (commitment : Commitment) (paths : List (Bor (List ℕ))) (path : Bor (List ℕ)) (proofs : List ProvedLeaf) (proved : ProvedLeaf) → ShowLeavesAt facts remaining commitment paths proofs → ShowsLeafAt facts remaining commitment path.now proved
      → ShowLeavesAt facts remaining commitment (paths ++ path ∷ []) (proofs ++ proved ∷ [])
  leaves_more commitment [] path [] proved shown one = (one, tt)
  leaves_more commitment [] path (other ∷ proofs) proved shown one = absurd shown
  leaves_more commitment (first ∷ paths) path [] proved shown one = absurd shown
  leaves_more commitment (first ∷ paths) path (other ∷ proofs) proved shown one = (shown.0, leaves_more commitment paths path proofs proved shown.1 one)
