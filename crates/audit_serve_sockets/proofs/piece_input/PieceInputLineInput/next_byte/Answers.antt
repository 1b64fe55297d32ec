use Rattle.std.proofs.Common.{subst, rules}
use Rattle.audit_serve_sockets.specs.PieceInput.{bytes_at_hand, TakesAtHand}
use Rattle.audit_serve_sockets.proofs.Pieces.{taken_by_next}
use Rattle.audit_serve_sockets.proofs.piece_input.PieceInputLineInput.next_byte.Goals as goal

pub returns-in_ok-read_piece-in-None-clause-taken : goal.returns-in_ok-read_piece-in-None-clause-taken
returns-in_ok-read_piece-in-None-clause-taken g c =
    let first = subst (TakesAtHand (bytes_at_hand c.args.self.now) (bytes_at_hand c.take_at_hand.new.self)) c.in-None.is c.take_at_hand.ensures.taken in
    taken_by_next (g.R.Read.remaining c.args.self.now.input.now) (g.R.Read.remaining c.take_at_hand.new.self.input.now) (g.R.Read.remaining c.read_piece.new.self.input.now) (g.R.Read.remaining c.take_at_hand-in-None.new.self.input.now) _ _ _ _
    (search rules) (search rules) first.0 c.in_ok-read_piece-in-None.ensures.read c.in_ok-read_piece-in-None.ensures.end c.take_at_hand-in-None.ensures.taken
