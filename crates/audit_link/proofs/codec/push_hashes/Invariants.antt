use Rattle.std.proofs.Common.{◌≡◌, ◌++◌, take}
use Rattle.std.specs.List.{concat}
use Rattle.audit_link.proofs.codec.push_hashes.Given as goal

abbrev pub invariant-loop-hash : goal.invariant-loop-hash
invariant-loop-hash l = l.bytes.items ≡ l.initial.bytes.items ++ concat (take l.hash-index l.hashes)
