use Rattle.std.proofs.Common.{Ok}
use Rattle.audit_server.proofs.Serving.{did_of}
use Rattle.audit_server.proofs.Durably.{piece_goes}
use Rattle.audit_server.proofs.session_core.CoreSessionCore.feed.Goals as goal

pub returns-in-Ok-clause-did : goal.returns-in-Ok-clause-did
returns-in-Ok-clause-did g c = did_of _ c.args.self.now c.feed.new.self (Ok tt) _ c.in-Ok.ensures.broken c.in-Ok.ensures.done

pub returns-in-Err-clause-reaches : goal.returns-in-Err-clause-reaches
returns-in-Err-clause-reaches g c = piece_goes c.args.session c.args.piece.now c.args.self.now c.feed.new.self c.in-Err.fault c.in-Err.ensures.durable
