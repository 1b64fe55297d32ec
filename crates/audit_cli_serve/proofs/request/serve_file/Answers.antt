use Rattle.std.proofs.Common.{rules}
use Rattle.audit_serve_passes.specs.Pairs.{unknown_calls}
use Rattle.audit_serve_sockets.specs.Bound.{IsBound}
use Rattle.audit_serve_sockets.specs.Listening.{unknown_connections}
use Rattle.audit_cli_serve.proofs.Carried.{keeps_opened, serves_opened, stops_opened}
use Rattle.audit_cli_serve.proofs.request.serve_file.Goals as goal

pub returns-clause-served : goal.returns-clause-served
returns-clause-served g c =
    serves_opened unknown_calls unknown_connections g.O.Stores.calls (g.O.Stores.at c.args.stores.now) (IsBound (g.F.SystemSockets.sockets c.args.rt.now)) c.args.file.now c.args.socket.now c.args.mode c.args.sessions c.args.stores.now c.let_go.new.self _ c.serve_store-store.new.output.output.ghost_name _ (g.W.Write.contents c.args.output.now) (g.W.Write.contents c.serve_store-store.new.output.output.now) _ _ _
    (keeps_opened g.O.Stores.calls (g.O.Stores.at c.args.stores.now) c.args.file.now c.args.stores.now _ c.let_go.new.self _ _ c.in_ok-content.ensures.at c.in_ok-content.ensures.did c.let_go.ensures c.serve_store-store.ensures.kept)
    c.new-watched.ensures.bytes (search rules) c.args.rounds c.serve_store-store.result.1 c.serve_store-store.ensures.served

pub returns-clause-stopped : goal.returns-clause-stopped
returns-clause-stopped g c =
    stops_opened unknown_calls unknown_connections g.O.Stores.calls (g.O.Stores.at c.args.stores.now) (IsBound (g.F.SystemSockets.sockets c.args.rt.now)) c.args.file.now c.args.socket.now c.args.mode c.args.sessions c.args.stores.now c.let_go.new.self _ c.serve_store-store.new.output.output.ghost_name _ (g.W.Write.contents c.args.output.now) (g.W.Write.contents c.serve_store-store.new.output.output.now) _ _ _
    (keeps_opened g.O.Stores.calls (g.O.Stores.at c.args.stores.now) c.args.file.now c.args.stores.now _ c.let_go.new.self _ _ c.in_ok-content.ensures.at c.in_ok-content.ensures.did c.let_go.ensures c.serve_store-store.ensures.kept)
    c.new-watched.ensures.bytes (search rules) c.serve_store-store.result.1 c.serve_store-store.ensures.stopped
