use Rattle.std.proofs.Common.{◌∙◌, sym, ap}
use Rattle.audit_server_commit.specs.Sessions.{SessionData}
use Rattle.audit_server.proofs.Pieces.{fed_ended}
use Rattle.audit_server.proofs.session.Session.feed.Goals as goal

pub returns-then-self : goal.returns-then-self
returns-then-self g c = fed_ended c.args.session c.args.piece.now c.args.self.now c.args.committer.now c.args.limit.now (sym (ap (λ (s : SessionData). s.ended) c.self.view_is) ∙ c.if-self.true)
