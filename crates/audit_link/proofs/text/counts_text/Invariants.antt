use Rattle.std.proofs.Common.{◌≡◌, ◌++◌, take}
use Rattle.audit_link.specs.CountsText.{kind_lines, version_line}
use Rattle.audit_link.proofs.text.counts_text.Given as goal

abbrev pub invariant-loop-counted : goal.invariant-loop-counted
invariant-loop-counted l = l.text.items ≡ version_line ++ kind_lines (take l.counted-index l.counts)
