use Rattle.std.proofs.Common.{◌≡◌, ◌++◌, drop}
use Rattle.audit_verify.specs.StateText.{node_lines}
use Rattle.audit_disclosure.proofs.text.push_nodes.Given as goal

-- the lines of the other nodes are still to be added
abbrev pub invariant-loop-hash : goal.invariant-loop-hash
invariant-loop-hash l = l.text.items ++ node_lines l.ones (drop l.hash-index l.hashes) ≡ l.fn.text.items ++ node_lines l.fn.count l.fn.hashes
