use Rattle.std.proofs.Common.{inl, rules}
use Rattle.audit_cli_daemon.specs.Sockets.{prompt_sockets, BindFailed}
use Rattle.audit_cli_daemon.proofs.Carried.{performed, unopened}
use Rattle.audit_cli_daemon.proofs.Ending.{kept_bytes}
use Rattle.audit_cli_daemon.proofs.request.perform.Goals as goal

pub returns-clause-served : goal.returns-clause-served
returns-clause-served g c =
    performed _ g.O.Stores.calls _ (prompt_sockets (g.F.SystemSockets.sockets c.args.rt.now) (g.F.PromptListening.prompt c.args.rt.now)) (BindFailed (g.F.SystemSockets.call_failed c.args.rt.now) (g.F.PromptListening.unprompted c.args.rt.now) g.F.File.SystemFile.facts) _ _ c.args.stores.now c.open.new.self c.serve_store.new.stores c.args.settings c.in_ok-sockets.sockets c.in_ok-judged.judged.rights c.in_ok-judged.ensures.others.0 c.in_ok-judged.judged.sources c.in_ok-judged.judged.idle c.in_ok-judged.judged.reserve c.in_ok-judged.judged.most c.in_ok-judged.judged.mode c.in_ok-judged.ensures.kept.0 c.in_ok-judged.judged.kept c.in_ok-judged.judged.stops_when_full _
    (g.W.Write.contents c.args.output.now) (g.W.Write.contents c.serve_store.new.output) c.serve_store.result
    c.in_ok-sockets.ensures.clients c.in_ok-sockets.ensures.readers c.in_ok-sockets.ensures.sources c.in_ok-judged.ensures.sources c.in_ok-judged.ensures.others.1 c.in_ok-judged.ensures.others.2
    c.in_ok-judged.ensures.idle c.in_ok-judged.ensures.reserve c.in_ok-judged.ensures.backlog c.in_ok-judged.ensures.kept.1 c.in_ok-judged.ensures.kept.2 c.in_ok-judged.ensures.stops c.in_ok-judged.ensures.owner c.in_ok-judged.ensures.mode c.in_ok-content.ensures.at
    c.in_ok-content.ensures.did c.serve_store.ensures.ended c.serve_store.ensures.served c.serve_store.ensures.failed

pub returns-in_err-sockets-clause-served : goal.returns-in_err-sockets-clause-served
returns-in_err-sockets-clause-served g c =
    unopened _ g.O.Stores.calls (g.O.Stores.at c.args.stores.now) (prompt_sockets (g.F.SystemSockets.sockets c.args.rt.now) (g.F.PromptListening.prompt c.args.rt.now)) (BindFailed (g.F.SystemSockets.call_failed c.args.rt.now) (g.F.PromptListening.unprompted c.args.rt.now) g.F.File.SystemFile.facts) _ _ c.args.stores.now c.args.settings (g.W.Write.contents c.args.output.now) _ (search rules)

pub returns-in-Err-clause-served : goal.returns-in-Err-clause-served
returns-in-Err-clause-served g c = inl (inl (g.O.Stores.calls.nothing_called c.args.stores.now), kept_bytes (g.W.Write.contents c.args.output.now))
