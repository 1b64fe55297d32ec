use Rattle.std.proofs.Common.{◌≡◌, ◌⊎◌}
use Rattle.audit_cli_base.proofs.output_file.OutputFile.temporary.Given as goal

-- a name was tried, and that call failed
abbrev pub invariant-loop-number : goal.invariant-loop-number
invariant-loop-number g l = (l.number-counter ≡ 0) ⊎ g.R.OutputFiles.output_failed l.rt
