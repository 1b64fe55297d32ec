-- How a witness goes on from a log to the next one.
use Rattle.std.specs.Prelude.{◌≡◌, ◌≢◌, ◌⊎◌, ℕ, List}
use Rattle.audit_proof.specs.declared.commitment.Commitment.{Commitment}
use Rattle.audit_proof.specs.Acceptance.{commitment_to}
use Rattle.audit_link.specs.declared.checking.LinkJudgment.TheVariants.{Accepted}
use Rattle.audit_link.specs.Accepted.{AcceptsLink, IsLinkJudgment}
use Rattle.audit_link.specs.LinkBytes.{SpellsLink}
use Rattle.audit_link.specs.Links.{LinkData, entries_in}
use Rattle.audit_cli_base.specs.declared.fault.CommandError.TheVariants.{BadProof}
use Rattle.audit_cli_connection.specs.Faults.{no_memory}
use Rattle.audit_cli_connection.specs.declared.fault.RemoteError.{RemoteError}
use Rattle.audit_cli_connection.specs.declared.fault.RemoteError.TheVariants.{Command, NotLinked}

-- These bytes are a link from the log that ended with a commitment to the one that begins with the other commitment.
abbrev pub IsLinkedStart : Commitment → List ℕ → Commitment → Type 0
IsLinkedStart old bytes start = (link : LinkData) × SpellsLink bytes link × AcceptsLink old start link

-- The bytes are no link, or memory was refused.
abbrev pub IsNoLink : List ℕ → RemoteError → Type 0
IsNoLink bytes fault = ((fault ≡ Command BadProof) × ((link : LinkData) → SpellsLink bytes link → ⊥))
    ⊎ (fault ≡ no_memory)

-- The bytes are a link of which a half isn't so.
abbrev pub IsNotLinked : Commitment → List ℕ → RemoteError → Type 0
IsNotLinked old bytes (NotLinked half) = (half ≢ Accepted) × (link : LinkData) × SpellsLink bytes link
    × IsLinkJudgment old (commitment_to (entries_in link)) link half
IsNotLinked old bytes _ = ⊥

-- why there is no such link, or none was found
abbrev pub IsUnlinked : Commitment → List ℕ → RemoteError → Type 0
IsUnlinked old bytes fault = IsNotLinked old bytes fault ⊎ IsNoLink bytes fault
