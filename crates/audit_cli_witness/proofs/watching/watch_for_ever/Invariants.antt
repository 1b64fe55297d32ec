use Rattle.std.proofs.Common.{◌≡◌, List, length}
use Rattle.std.specs.Prelude.{Result}
use Rattle.audit_wire_ask.specs.declared.watching.Sight.{Sight}
use Rattle.audit_cli_connection.specs.declared.fault.RemoteError.{RemoteError}
use Rattle.audit_cli_witness.specs.Looks.{LooksOn}
use Rattle.audit_cli_witness.proofs.watching.watch_for_ever.Given as goal

abbrev pub invariant-loop-looks : goal.invariant-loop-looks
invariant-loop-looks g l =
    (seen : List (Result Sight RemoteError)) × (length seen ≡ l.looks)
    × LooksOn g.F.Servers.calls l.post l.every l.fn.servers l.servers (g.W.Write.contents l.fn.output) (g.W.Write.contents l.output) seen
