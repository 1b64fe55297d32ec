use Rattle.std.specs.declared.io.ErrorKind.TheVariants.{WouldBlock}
use Rattle.std.proofs.Common.{◌≡◌, ◌⊎◌}
use Rattle.audit_cli_connection.proofs.connection.connected_in_time.Given as goal

-- a try was made, and no more clients could wait
abbrev pub invariant-loop-tries : goal.invariant-loop-tries
invariant-loop-tries g l = (l.tries ≡ 0) ⊎ (g.F.Dialing.dials l.rt).unconnected l.path WouldBlock
