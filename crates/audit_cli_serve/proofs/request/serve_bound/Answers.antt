use Rattle.std.proofs.Common.{inl, inr}
use Rattle.audit_serve_passes.specs.Pairs.{unknown_calls}
use Rattle.audit_serve_sockets.specs.Bound.{IsBound}
use Rattle.audit_serve_sockets.specs.Listening.{unknown_connections}
use Rattle.audit_cli_serve.specs.WatchedLines.{watched_lines}
use Rattle.audit_cli_serve.proofs.Carried.{after_all, failed_after, line_failed_after, output_failed, removed_by, serves_at, stops_at}
use Rattle.audit_text.specs.declared.fault.LinesError.TheVariants.{Write}
use Rattle.audit_cli_serve.proofs.request.serve_bound.Goals as goal

pub returns-clause-served : goal.returns-clause-served
returns-clause-served g c =
    let bytes = watched_lines g.W.Write.contents in
    after_all _ c.is_replaced.result c.serve_rounds-store.result.1 c.unless_replaced-served.result c.after_removing-ended.result
    (serves_at unknown_calls unknown_connections (IsBound (g.F.SystemSockets.sockets c.args.rt.now) c.args.socket.now c.args.mode) c.args.rounds c.args.sessions c.args.store c.serve_rounds-store.result.0 c.args.bound c.serve_rounds-store.new.socket (bytes c.args.output.now) (bytes c.serve_rounds-store.new.writer) (bytes c.is_replaced.new.self) c.serve_rounds-store.result.1 c.requires.listens c.is_replaced.ensures.bytes c.serve_rounds-store.ensures.served)
    c.unless_replaced-served.ensures.replaced c.unless_replaced-served.ensures.served c.after_removing-ended.ensures.done

pub returns-clause-stopped : goal.returns-clause-stopped
returns-clause-stopped g c =
    let bytes = watched_lines g.W.Write.contents in
    stops_at unknown_calls unknown_connections (IsBound (g.F.SystemSockets.sockets c.args.rt.now) c.args.socket.now c.args.mode) c.args.sessions c.args.rounds c.args.store c.serve_rounds-store.result.0 c.args.bound c.serve_rounds-store.new.socket (bytes c.args.output.now) (bytes c.serve_rounds-store.new.writer) (bytes c.is_replaced.new.self) c.is_replaced.result
    c.serve_rounds-store.result.1 c.unless_replaced-served.result c.after_removing-ended.result c.requires.listens c.is_replaced.ensures.bytes c.serve_rounds-store.ensures.served
    c.serve_rounds-store.ensures.fault c.unless_replaced-served.ensures.replaced c.unless_replaced-served.ensures.served c.after_removing-ended.ensures.stopped

pub returns-clause-failed : goal.returns-clause-failed
returns-clause-failed g c = λ file.
    elim (c.after_removing-ended.ensures.removed file) [
      | inl watched ↦ inl (failed_after _ c.is_replaced.result c.serve_rounds-store.result.1 c.unless_replaced-served.result c.serve_rounds-store.ensures.unaccepted c.unless_replaced-served.ensures.replaced c.unless_replaced-served.ensures.served watched)
      | inr removed ↦ inl (removed_by _ c.remove.result c.remove.ensures.failed removed)
    ]

pub returns-clause-unwritten : goal.returns-clause-unwritten
returns-clause-unwritten g c =
    line_failed_after _ c.is_replaced.result c.serve_rounds-store.result.1 c.unless_replaced-served.result c.after_removing-ended.result Write
    (λ in_place line. output_failed g.W.TriedWrite.unwritten c.serve_rounds-store.new.writer (c.serve_rounds-store.ensures.unwritten line) (c.is_replaced.ensures.stays in_place))
    c.unless_replaced-served.ensures.replaced c.unless_replaced-served.ensures.served c.after_removing-ended.ensures.stopped
