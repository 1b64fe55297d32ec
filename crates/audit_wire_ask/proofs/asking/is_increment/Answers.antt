use Rattle.std.proofs.lemmas.List.Elements.{All-from_get_or}
use Rattle.std.proofs.Common.{◌≡◌, length, []}
use Rattle.audit_base.specs.declared.limits.TheConstants.{HASH_LEN}
use Rattle.audit_wire_ask.proofs.asking.is_increment.Goals as goal

pub returns-clause-whole : goal.returns-clause-whole
returns-clause-whole c = All-from_get_or (λ hash. length hash ≡ HASH_LEN) c.args.hashes.now [] c.told-hashes
