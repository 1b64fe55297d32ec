use Rattle.std.proofs.Common.{◌≡◌, ◌++◌, OnOk, OnErr}
use Rattle.std.specs.List.{AllByRecursion}
use Rattle.audit_cli_daemon.specs.Sockets.{IsRemoved}
use Rattle.audit_cli_daemon.proofs.sockets.remove_all.Given as goal

abbrev pub invariant-loop-socket : goal.invariant-loop-socket
invariant-loop-socket g l = (l.yielded ++ l.socket-iterator.rest.items ≡ l.fn.sockets.items)
    × OnOk l.removed (AllByRecursion (IsRemoved (g.R.SystemSockets.sockets l.fn.rt)) l.yielded)
    × OnErr l.removed (g.R.SystemSockets.call_failed l.fn.rt)
