use Rattle.std.proofs.Common.{◌≡◌, List, length}
use Rattle.audit_cli_client.specs.ReadingTask.{OneReading, ReadsOnAgain}
use Rattle.audit_cli_client.proofs.reading.read_for_ever.Given as goal

abbrev pub invariant-loop-times : goal.invariant-loop-times
invariant-loop-times g l =
    (readings : List OneReading) × (length readings ≡ l.times)
    × ReadsOnAgain g.F.Servers.calls l.task l.every l.fn.servers l.servers (g.W.Write.contents l.fn.output) (g.W.Write.contents l.output) readings
