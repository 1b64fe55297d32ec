use Rattle.std.proofs.Common.{length}
use Rattle.std.proofs.lemmas.List.Elements.{All-from_get_or}
use Rattle.audit_base.specs.declared.limits.TheConstants.{HASH_LEN}
use Rattle.audit_link.proofs.codec.are_few.Goals as goal
use Rattle.std.proofs.Common.{◌≡◌, List, ℕ, []}

pub returns-clause-whole : goal.returns-clause-whole
returns-clause-whole c = All-from_get_or (λ (hash : List ℕ). length hash ≡ HASH_LEN) c.args.hashes.now [] c.told-hashes
