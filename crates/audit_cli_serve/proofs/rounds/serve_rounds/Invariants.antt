use Rattle.std.proofs.Common.{◌≡◌, ℕ, List, length}
use Rattle.std.specs.Io.KnownBytes.{Appends}
use Rattle.audit_server_commit.specs.Serving.{StoreKeepsOn}
use Rattle.audit_cli_serve.specs.Rounds.{round_lines}
use Rattle.audit_cli_serve.specs.Served.{ServesRounds}
use Rattle.audit_cli_serve.proofs.rounds.serve_rounds.Given as goal

-- the rounds so far were served, and have their lines
abbrev pub invariant-loop-round : goal.invariant-loop-round
invariant-loop-round g l = record {
  kept : StoreKeepsOn l.fn.store l.store;
  served : (turns : List ℕ) × (length turns ≡ l.round) × ServesRounds g.T.Duplex.calls g.L.Listener.model l.sessions turns l.fn.store l.store l.fn.socket l.socket
      × Appends (g.W.LineOutput.contents l.fn.writer) (g.W.LineOutput.contents l.writer) (round_lines 1 turns);
}
