use Rattle.std.proofs.Common.{◌≡◌, List, length}
use Rattle.audit_link.specs.declared.kind_count.KindCount.{KindCount}
use Rattle.audit_link.specs.Counts.{Ascends}
use Rattle.audit_link.specs.CountsText.{kind_lines}
use Rattle.audit_link.proofs.Lines.{IsHalfway}
use Rattle.audit_link.proofs.text.parse.Given as goal

-- whatever numbers have these lines, some were read, and the lines of the others are left
abbrev pub invariant-loop-rest : goal.invariant-loop-rest
invariant-loop-rest l = (counts : List KindCount) → Ascends 0 counts → l.lines ≡ kind_lines counts → IsHalfway counts l.counts.items l.rest

abbrev pub decreases-loop-rest : goal.decreases-loop-rest
decreases-loop-rest l = length l.rest
