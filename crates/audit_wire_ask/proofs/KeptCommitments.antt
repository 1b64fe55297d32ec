-- What a witness keeps stays joined.
use Rattle.std.proofs.Common.{List, [], ◌∷◌, ◌++◌, inl, inr, sym, subst}
use Rattle.audit_proof.specs.declared.commitment.Commitment.{Commitment}
use Rattle.audit_wire_ask.specs.Joined.{AreJoined}
use Rattle.audit_wire_ask.specs.Keeping.{last_kept, FollowsKept, KeepsOn, AreRuns, kept_after}

joined_with : (kept : List Commitment) (seen : Commitment) → AreJoined kept → FollowsKept (last_kept kept) seen → AreJoined (kept ++ seen ∷ [])
joined_with [] seen joined may = tt
joined_with (only ∷ []) seen joined may = (may.1, tt)
joined_with (first ∷ second ∷ later) seen joined may = (joined.0, joined_with (second ∷ later) seen joined.1 may)

pub keeps_joined : (old new : List Commitment) → KeepsOn old new → AreJoined old → AreJoined new
keeps_joined old new (inl same) joined = subst AreJoined (sym same) joined
keeps_joined old new (inr more) joined = subst AreJoined (sym more.1) (joined_with old more.0 joined more.2)

pub runs_joined : (start : List Commitment) (runs : List (List Commitment)) → AreJoined start → AreRuns start runs → AreJoined (kept_after start runs)
runs_joined start [] joined runs = joined
runs_joined start (next ∷ later) joined runs = runs_joined next later (keeps_joined start next runs.0 joined) runs.1
