-- A store that has to extend a commitment, and doesn't.
use Rattle.std.proofs.Common.{ℕ, Some, List, map}
use Rattle.audit_disk_model.specs.View.{View}
use Rattle.audit_tree.specs.Subtree.{leaf_hash_of}
use Rattle.audit_proof.specs.declared.commitment.Commitment.{Commitment}
use Rattle.audit_store.specs.Recovered.{CanBeOpened, IsRefusal}
use Rattle.audit_store.specs.Extending.{IsOtherLog, IsOfOtherLog, OnExtendingError}
use Rattle.audit_store.specs.declared.extending_error.ExtendingError.{ExtendingError}
use Rattle.audit_store.specs.declared.extending_error.ExtendingError.TheVariants.{Refused, OtherLog}

pub other_of : (old new : View) (older : Commitment) (error : ExtendingError) → OnExtendingError error (IsRefusal old new) (λ own. IsOfOtherLog (Some older) own old new)
    → OnExtendingError error (λ _. Unit {0}) (λ own. (sound : CanBeOpened old) × IsOtherLog older own (map leaf_hash_of sound.entries))
other_of old new older (Refused error) is = tt
other_of old new older (OtherLog own) is = (is.sound, is.other)
