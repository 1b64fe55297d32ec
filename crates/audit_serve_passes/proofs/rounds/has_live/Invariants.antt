use Rattle.std.proofs.Common.{◌≡◌, []}
use Rattle.audit_serve_passes.specs.Rounds.{live_below}
use Rattle.audit_serve_passes.proofs.rounds.has_live.Given as goal

abbrev pub invariant-loop-session : goal.invariant-loop-session
invariant-loop-session g l = live_below l.session (g.C.SessionCore.model.ended l.core []) ≡ []
