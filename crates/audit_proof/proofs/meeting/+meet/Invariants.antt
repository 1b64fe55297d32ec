use Rattle.audit_proof.proofs.meeting.+meet.Given as goal

abbrev pub decreases-meet : goal.decreases-meet
decreases-meet g l = l.way.height
