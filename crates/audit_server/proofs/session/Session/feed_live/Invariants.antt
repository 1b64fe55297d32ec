use Rattle.std.proofs.Common.{◌-◌, length}
use Rattle.audit_server.proofs.Pieces.{HasFed}
use Rattle.audit_server.proofs.session.Session.feed_live.Given as goal

abbrev pub invariant-loop-more : goal.invariant-loop-more
invariant-loop-more g l = HasFed l.fn.session l.fn.piece l.taken l.fn.self l.self l.fn.committer l.committer l.fn.limit l.limit

abbrev pub decreases-loop-more : goal.decreases-loop-more
decreases-loop-more g l = length l.fn.piece - l.taken
