use Rattle.std.proofs.Common.{List, [], ◌∷◌, ◌++◌}
use Rattle.audit_proof.specs.declared.commitment.Commitment.{Commitment}
use Rattle.audit_wire_ask.specs.Joined.{IsJoined, AreJoined}
use Rattle.audit_wire_ask.proofs.laws.what_a_witness_keeps_is_joined.Goals as goal

joined_more : (before : List Commitment) (kept seen : Commitment) → AreJoined (before ++ kept ∷ []) → IsJoined kept seen → AreJoined (before ++ kept ∷ seen ∷ [])
joined_more [] kept seen h j = (j, tt)
joined_more (a ∷ []) kept seen h j = (h.0, (j, tt))
joined_more (a ∷ b ∷ before) kept seen h j = (h.0, joined_more (b ∷ before) kept seen h.1 j)

pub returns-clause-more : goal.returns-clause-more
returns-clause-more c = joined_more
