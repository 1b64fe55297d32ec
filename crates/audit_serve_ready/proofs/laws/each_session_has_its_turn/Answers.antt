use Rattle.audit_serve_ready.proofs.Rounds.{turns_come}
use Rattle.audit_serve_ready.proofs.laws.each_session_has_its_turn.Goals as goal

pub returns : goal.returns
returns g c = λ k n first changes below begun passes. turns_come k n first changes below begun passes
