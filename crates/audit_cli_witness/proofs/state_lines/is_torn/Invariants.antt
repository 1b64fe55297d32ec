use Rattle.std.specs.List.{AllPass, after_first}
use Rattle.std.proofs.Common.{◌≡◌, ◌++◌, ◌+◌, ◌-◌, ◌≤◌, ℕ, List, length}
use Rattle.hex.specs.Hex.{is_hex_digit}
use Rattle.audit_cli_offline.specs.CommitmentWord.{is_colon}
use Rattle.audit_cli_witness.specs.State.{with_colon}
use Rattle.audit_cli_witness.proofs.state_lines.is_torn.Given as goal

abbrev pub invariant-loop-digits : goal.invariant-loop-digits
invariant-loop-digits l =
    (zeros : List ℕ) × (l.line.items ≡ with_colon l.part ++ zeros) × AllPass is_hex_digit zeros
    × (length (after_first is_colon l.part) + length zeros ≡ l.digits) × (length zeros ≤ 64 - length (after_first is_colon l.part))
