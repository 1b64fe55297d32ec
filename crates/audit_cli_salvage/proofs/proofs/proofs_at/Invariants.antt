use Rattle.std.proofs.Common.{take}
use Rattle.audit_cli_salvage.specs.SalvageWords.{ShowLeavesAt}
use Rattle.audit_cli_salvage.proofs.proofs.proofs_at.Given as goal

-- the first proofs were read
abbrev pub invariant-loop-path : goal.invariant-loop-path
invariant-loop-path g l = ShowLeavesAt g.F.File.SystemFile.facts g.F.File.Read.remaining l.commitment (take l.path-index l.paths) l.proofs.items
