use Rattle.std.proofs.Common.{length}
use Rattle.audit_tree.specs.Subtree.{depth}
use Rattle.audit_tree.proofs.HashLengths.{length-root_of, length-node_at, path-hashes, increment-hashes, leaf-hashes}
use Rattle.audit_tree.proofs.laws.hashes_keep_their_length.Goals as goal

pub returns-clause-root : goal.returns-clause-root
returns-clause-root c = length-root_of

pub returns-clause-node : goal.returns-clause-node
returns-clause-node c = length-node_at

pub returns-clause-membership : goal.returns-clause-membership
returns-clause-membership c = λ leaves place whole within. path-hashes 0 (depth (length leaves)) place leaves whole within

pub returns-clause-increment : goal.returns-clause-increment
returns-clause-increment c = λ leaves older whole some order. increment-hashes older leaves whole some order

pub returns-clause-texts : goal.returns-clause-texts
returns-clause-texts c = leaf-hashes
