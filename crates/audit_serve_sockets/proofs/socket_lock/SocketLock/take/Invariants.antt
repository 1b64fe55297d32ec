use Rattle.std.proofs.Common.{◌≡◌, ◌⊎◌}
use Rattle.audit_serve_sockets.proofs.socket_lock.SocketLock.take.Given as goal

-- each try before this one failed by a call
abbrev pub invariant-loop : goal.invariant-loop
invariant-loop g l = (l.counter ≡ 0) ⊎ g.R.SystemSockets.call_failed l.rt
