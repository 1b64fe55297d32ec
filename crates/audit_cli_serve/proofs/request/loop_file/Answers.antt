use Rattle.std.proofs.Common.{rules}
use Rattle.audit_serve_sockets.specs.Bound.{IsBound}
use Rattle.audit_cli_serve.specs.Carried.{LosesLoop, failed_calls}
use Rattle.audit_cli_serve.proofs.Carried.{keeps_opened, loops_opened, loops_stopped}
use Rattle.audit_cli_serve.proofs.request.loop_file.Goals as goal

pub returns-clause-looped : goal.returns-clause-looped
returns-clause-looped g c =
    loops_opened g.O.Stores.calls (g.O.Stores.at c.args.stores.now) (IsBound (g.F.SystemSockets.sockets c.args.rt.now)) (g.F.SystemSockets.sockets c.args.rt.now).connects c.args.file.now c.args.socket.now c.args.mode c.args.stores.now c.let_go.new.self _ c.loop_store-store.new.output.output.ghost_name _ _ (g.W.Write.contents c.args.output.now) (g.W.Write.contents c.loop_store-store.new.output.output.now) _ _ _ c.loop_store-store.result.1
    (keeps_opened g.O.Stores.calls (g.O.Stores.at c.args.stores.now) c.args.file.now c.args.stores.now _ c.let_go.new.self _ _ c.in_ok-content.ensures.at c.in_ok-content.ensures.did c.let_go.ensures c.loop_store-store.ensures.kept)
    c.new-watched.ensures.bytes (search rules) c.loop_store-store.ensures.looped c.loop_store-store.ensures.bound c.loop_store-store.ensures.connected

pub returns-clause-stopped : goal.returns-clause-stopped
returns-clause-stopped g c =
    loops_stopped g.O.Stores.calls (g.O.Stores.at c.args.stores.now) (failed_calls (g.F.SystemSockets.call_failed c.args.rt.now) g.F.File.SystemFile.facts g.R.TriedRead.unread g.W.TriedWrite.unwritten) (LosesLoop g.F.OwnConnections.met g.E.TriedWrite.unwritten g.E.TriedRead.unread g.E.TriedRead.gave) c.args.file.now c.args.stores.now c.let_go.new.self _ c.loop_store-store.new.output.output.ghost_name _ _ (g.W.Write.contents c.args.output.now) (g.W.Write.contents c.loop_store-store.new.output.output.now) _ _ _ c.loop_store-store.result.1
    (keeps_opened g.O.Stores.calls (g.O.Stores.at c.args.stores.now) c.args.file.now c.args.stores.now _ c.let_go.new.self _ _ c.in_ok-content.ensures.at c.in_ok-content.ensures.did c.let_go.ensures c.loop_store-store.ensures.kept)
    c.new-watched.ensures.bytes (search rules) c.loop_store-store.ensures.stopped
