use Rattle.std.proofs.Common.{◌≡◌, vec_capacity}
use Rattle.audit_cli_serve.specs.Served.{AreAccepted}
use Rattle.audit_cli_serve.proofs.rounds.accept_streams.Given as goal

-- one stream for each connection that was accepted, with capacity for all
abbrev pub invariant-loop : goal.invariant-loop
invariant-loop g l = record {
  accepted : AreAccepted g.L.Listener.model l.counter l.fn.socket l.socket l.streams.items;
  room : vec_capacity l.streams ≡ l.fn.count;
}
