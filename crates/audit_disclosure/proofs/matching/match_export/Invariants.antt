use Rattle.std.proofs.Common.{◌-◌, ◌^◌}
use Rattle.audit_disclosure.proofs.MatchedSteps.{IsBuiltLinked}
use Rattle.audit_disclosure.proofs.matching.match_export.Given as goal

-- the entries read so far are linked, and the tree has their leaf hashes up to its limit
abbrev pub invariant-loop-tree : goal.invariant-loop-tree
invariant-loop-tree g l = IsBuiltLinked l.fn.start (g.R.Read.remaining l.fn.reader) (g.R.Read.remaining l.reader) l.entries l.tree

abbrev pub decreases-loop-tree : goal.decreases-loop-tree
decreases-loop-tree g l = 2 ^ 34 - l.entries.count
