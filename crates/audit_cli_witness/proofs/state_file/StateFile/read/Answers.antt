use Rattle.audit_cli_witness.proofs.StateLines.{newest_known}
use Rattle.audit_cli_witness.proofs.EndFaults.{read_cause, sized_sound}
use Rattle.audit_cli_witness.proofs.state_file.StateFile.read.Goals as goal

pub returns-clause-newest : goal.returns-clause-newest
returns-clause-newest g c = newest_known (g.T.StateText.text c.args.file) c.in-Ok.tail.kept.items c.in-Ok.tail.torn c.in_ok-size.size c.in-Ok.tail.lacks_feed c.in_ok-size.ensures.found (rw c.in_ok-size.ensures.kept at c.in-Ok.ensures.read)

pub returns-clause-sound : goal.returns-clause-sound
returns-clause-sound g c = sized_sound (g.T.StateText.text c.args.file) c.in_ok-size.size c.in_ok-size.ensures.found (rw c.in_ok-size.ensures.kept at c.in-Ok.ensures.sound)

pub returns-in-Err-clause-failed : goal.returns-in-Err-clause-failed
returns-in-Err-clause-failed g c =
    read_cause g.T.StateText.failed c.tail_of.new.file c.in-Err.fault (g.T.StateText.text c.args.file) c.in_ok-size.size c.in_ok-size.ensures.found (rw c.in_ok-size.ensures.kept at c.in-Err.ensures.failed)
