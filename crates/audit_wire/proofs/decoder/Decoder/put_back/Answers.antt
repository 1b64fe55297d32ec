use Rattle.audit_wire.proofs.Runs.{put_back_requests}
use Rattle.audit_wire.proofs.decoder.Decoder.put_back.Goals as goal

pub returns-clause-requests : goal.returns-clause-requests
returns-clause-requests c = λ grammar byte later taken. put_back_requests grammar c.args.self.now c.undo.new.self byte later c.undo.ensures.progress c.requires c.undo.ensures.before.begun taken
