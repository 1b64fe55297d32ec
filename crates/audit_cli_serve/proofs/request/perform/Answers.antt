use Rattle.std.proofs.Common.{◌∙◌, Err, ap, sym}
use Rattle.std.proofs.lemmas.Result.{err_from_is_err_and}
use Rattle.audit_serve_sockets.specs.Bound.{IsBound}
use Rattle.audit_cli_serve.specs.Carried.{LosesLoop, failed_calls}
use Rattle.audit_cli_serve.proofs.Carried.{performed, loop_performed, unopened}
use Rattle.audit_cli_serve.proofs.request.perform.Goals as goal

pub returns-in_ok-mode-in-Serve-clause-served : goal.returns-in_ok-mode-in-Serve-clause-served
returns-in_ok-mode-in-Serve-clause-served g c =
    rw c.in-Serve.is (performed _ g.O.Stores.calls (g.O.Stores.at c.args.stores.now) _ _ (IsBound (g.F.SystemSockets.sockets c.args.rt.now)) (failed_calls (g.F.SystemSockets.call_failed c.args.rt.now) g.F.File.SystemFile.facts g.R.TriedRead.unread g.W.TriedWrite.unwritten) (g.F.SystemSockets.sockets c.args.rt.now).connects (LosesLoop g.F.OwnConnections.met g.E.TriedWrite.unwritten g.E.TriedRead.unread g.E.TriedRead.gave) c.args.stores.now c.serve_file.new.stores (g.R.Read.remaining c.args.input.now) (g.W.Write.contents c.args.output.now) (g.W.Write.contents c.serve_file.new.output) c.in-Serve.file c.in-Serve.socket c.in-Serve.rounds c.in-Serve.sessions c.in-Serve.socket_mode c.in_ok-rounds-in-Serve.rounds c.in_ok-sessions-in-Serve.sessions c.in_ok-mode-in-Serve.mode c.serve_file.result (sym c.in_ok-rounds-in-Serve.ensures.asked) c.in_ok-sessions-in-Serve.ensures.asked (λ none. cc (c.in_ok-mode-in-Serve.ensures.none none)) c.in_ok-mode-in-Serve.ensures.mode c.serve_file.ensures.served c.serve_file.ensures.stopped c.serve_file.ensures.failed c.serve_file.ensures.unwritten)

pub returns-in_ok-mode-in-Loop-clause-served : goal.returns-in_ok-mode-in-Loop-clause-served
returns-in_ok-mode-in-Loop-clause-served g c =
    loop_performed _ g.O.Stores.calls (g.O.Stores.at c.args.stores.now) _ _ (IsBound (g.F.SystemSockets.sockets c.args.rt.now)) (failed_calls (g.F.SystemSockets.call_failed c.args.rt.now) g.F.File.SystemFile.facts g.R.TriedRead.unread g.W.TriedWrite.unwritten) (g.F.SystemSockets.sockets c.args.rt.now).connects (LosesLoop g.F.OwnConnections.met g.E.TriedWrite.unwritten g.E.TriedRead.unread g.E.TriedRead.gave) c.args.stores.now c.loop_file.new.stores (g.R.Read.remaining c.args.input.now) (g.W.Write.contents c.args.output.now) (g.W.Write.contents c.loop_file.new.output) _ c.in-Loop.file c.in-Loop.socket c.in-Loop.socket_mode c.in_ok-mode-in-Loop.mode c.loop_file.result c.in-Loop.is (λ none. cc (c.in_ok-mode-in-Loop.ensures.none none)) c.in_ok-mode-in-Loop.ensures.mode c.loop_file.ensures.looped c.loop_file.ensures.stopped

pub returns-in_err-mode-in-Serve-clause-served : goal.returns-in_err-mode-in-Serve-clause-served
returns-in_err-mode-in-Serve-clause-served g c =
    let p = err_from_is_err_and c.from_residual-in_err-mode-in-Serve.result c.from_residual-in_err-mode-in-Serve.ensures.1 in
    unopened _ g.O.Stores.calls (g.O.Stores.at c.args.stores.now) _ _ (IsBound (g.F.SystemSockets.sockets c.args.rt.now)) (failed_calls (g.F.SystemSockets.call_failed c.args.rt.now) g.F.File.SystemFile.facts g.R.TriedRead.unread g.W.TriedWrite.unwritten) (g.F.SystemSockets.sockets c.args.rt.now).connects (LosesLoop g.F.OwnConnections.met g.E.TriedWrite.unwritten g.E.TriedRead.unread g.E.TriedRead.gave) c.args.stores.now c.args.request c.in_err-mode-in-Serve.field-0.0 c.from_residual-in_err-mode-in-Serve.result (g.R.Read.remaining c.args.input.now) (g.W.Write.contents c.args.output.now) (p.1 ∙ ap Err p.2)
