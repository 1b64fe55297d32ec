use Rattle.audit_wire.proofs.Runs.{fed_ahead, fed_answer, fed_requests, fed_so_far, fed_spoils, kept, rest_partial}
use Rattle.audit_wire.proofs.decoder.Decoder.feed.Goals as goal

pub returns-clause-requests : goal.returns-clause-requests
returns-clause-requests c = λ grammar later. fed_requests grammar c.args.self.now c.args.piece.now c.advance.result c.advance.new.self later c.advance.ensures

pub returns-clause-rest : goal.returns-clause-rest
returns-clause-rest c = rest_partial c.advance.new.self (kept c.args.self.now c.args.piece.now c.advance.result c.advance.new.self c.advance.ensures)

pub returns-clause-taken : goal.returns-clause-taken
returns-clause-taken c = fed_answer c.args.self.now c.args.piece.now c.advance.result c.advance.new.self c.advance.ensures

pub returns-clause-ahead : goal.returns-clause-ahead
returns-clause-ahead c = λ grammar later. fed_ahead grammar c.args.self.now c.args.piece.now c.advance.result c.advance.new.self later c.advance.ensures

pub returns-clause-so_far : goal.returns-clause-so_far
returns-clause-so_far c = fed_so_far c.args.self.now c.args.piece.now c.advance.result c.advance.new.self c.advance.ensures

pub returns-clause-live : goal.returns-clause-live
returns-clause-live c = fed_spoils c.args.self.now c.args.piece.now c.advance.result c.advance.new.self c.advance.ensures
