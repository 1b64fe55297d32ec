use Rattle.std.proofs.Common.{◌≡◌, ◌++◌, ℕ, List, drop}
use Rattle.std.specs.Prelude.{◌↔◌}
use Rattle.audit_verify.specs.StateText.{node_lines}
use Rattle.audit_verify_saved.proofs.lines.after_nodes.Given as goal

-- the text goes on with the lines of all nodes exactly if what is left of it goes on with those of the others
abbrev pub invariant-loop-hash : goal.invariant-loop-hash
invariant-loop-hash l = (tail : List ℕ)
    → (l.fn.text ≡ node_lines l.fn.count l.fn.hashes ++ tail) ↔ (l.rest ≡ node_lines l.ones (drop l.hash-index l.hashes) ++ tail)
