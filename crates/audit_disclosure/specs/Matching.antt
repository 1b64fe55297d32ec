-- An export that is judged without a key of its log.
use Rattle.std.specs.Prelude.{◌≡◌, ℕ, List}
use Rattle.audit_chain.specs.EntryForm.{EntryParts}
use Rattle.audit_proof.specs.declared.commitment.Commitment.{Commitment}
use Rattle.audit_verify.specs.declared.accepted.Accepted.{Accepted}
use Rattle.audit_disclosure.specs.declared.disclosure.Start.{Start}
use Rattle.audit_disclosure.specs.LinkedEntries.{IsMatched}
use Rattle.audit_disclosure.specs.LinkReading.{end_of_entries}

-- the bytes match the commitment, and this is how their log ends
pub record MatchesExport (start : Start) (commitment : Commitment) (bytes : List ℕ) (end : Accepted) : Type 0 where
  pub entries : List EntryParts
  pub matched : IsMatched start commitment bytes entries
  pub end_is : end ≡ end_of_entries start entries
