use Rattle.std.proofs.Common.{Err, rules}
use Rattle.audit_server_commit.proofs.ServedSteps.{kept_none}
use Rattle.audit_serve_passes.specs.Pairs.{unknown_calls}
use Rattle.audit_serve_sockets.specs.Bound.{IsBound}
use Rattle.audit_serve_sockets.specs.Listening.{unknown_connections}
use Rattle.audit_cli_serve.specs.WatchedLines.{watched_lines}
use Rattle.audit_cli_serve.proofs.Carried.{no_socket}
use Rattle.audit_cli_serve.proofs.request.serve_store.Goals as goal

pub returns-in-Err-clause-kept : goal.returns-in-Err-clause-kept
returns-in-Err-clause-kept g c = kept_none c.args.store

pub returns-in-Err-clause-stopped : goal.returns-in-Err-clause-stopped
returns-in-Err-clause-stopped g c =
    no_socket unknown_calls unknown_connections (IsBound (g.F.SystemSockets.sockets c.args.rt.now) c.args.socket.now c.args.mode) c.args.sessions c.args.store (watched_lines g.W.Write.contents c.args.output.now) (Err c.into.result) (search rules)
