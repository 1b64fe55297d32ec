use Rattle.audit_cli_rotate.proofs.Held.{found_rotated}
use Rattle.audit_cli_rotate.proofs.laws.rotated_logs_are_found.Goals as goal

pub returns : goal.returns
returns g c origin closed held = found_rotated c.args.old.now c.args.new.now origin closed held
