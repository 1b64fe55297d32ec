use Rattle.std.proofs.Common.{◌≡◌, [], false, rules, arith}
use Rattle.audit_serve_passes.proofs.Runs.{live_found}
use Rattle.audit_serve_passes.proofs.rounds.has_live.Goals as goal

pub returns-then-not-ended-clause-live : goal.returns-then-not-ended-clause-live
returns-then-not-ended-clause-live g c =
    let live : g.C.SessionCore.model.ended c.args.core.now [] c.loop-session.session ≡ false = search rules in
    λ live_there. live_found c.args.count c.loop-session.session (g.C.SessionCore.model.ended c.args.core.now []) (omega arith) live
