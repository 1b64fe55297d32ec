use Rattle.audit_cli_witness.proofs.WrittenFiles.{read_back, no_bad_line_added}
use Rattle.audit_cli_witness.proofs.laws.files_of_lines_are_read_back.Goals as goal

pub returns : goal.returns
returns c = record { read = read_back; sound = no_bad_line_added }
