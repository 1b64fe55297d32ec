use Rattle.std.proofs.Common.{◌≡◌, ◌∙◌, false, sym, ap}
use Rattle.audit_server_commit.specs.Heard.{Terms}
use Rattle.audit_server_commit.specs.Arrivals.{malformed_from}
use Rattle.audit_server_commit.specs.Sessions.{SessionData}
use Rattle.audit_server.proofs.Runs.{enters_by}
use Rattle.audit_server.proofs.Pieces.{Shows, pending_so, not_pending_so, end_ended, end_idle, end_begun}
use Rattle.audit_server.proofs.session.Session.end_frame.Goals as goal
use Rattle.audit_server.proofs.session.Session.end_frame.Goals.{then-self-via-then-self, then-self-via-else-self+then-not-pending}

pub returns-then-self : goal.returns-then-self
returns-then-self g c = elim c.then-self.branch [
  | then-self-via-then-self w ↦ end_ended c.args.session c.args.self.now c.args.committer.now (sym (ap (λ (s : SessionData). s.ended) c.self.view_is) ∙ w.if-self.true)
  | then-self-via-else-self+then-not-pending w ↦
      let live : c.args.self.now.ended ≡ false = sym (ap (λ (s : SessionData). s.ended) c.self.view_is) ∙ w.if-self.false in
      let terms : Terms = record { grammar = c.self.inside.grammar; rights = c.self.inside.rights } in
      let shows : Shows terms c.self.inside.decoder c.self.inside.ended c.self.inside.cut_off c.args.self.now = record { view = c.self.view_is; live = live; inside = c.self.invariant } in
      end_idle c.args.session c.args.committer.now shows (not_pending_so w.pending.result w.pending.ensures.pending w.if-not-pending.true)
]

pub returns : goal.returns
returns g c =
    let live : c.args.self.now.ended ≡ false = sym (ap (λ (s : SessionData). s.ended) c.self.view_is) ∙ c.if-self.false in
    let terms : Terms = record { grammar = c.self.inside.grammar; rights = c.self.inside.rights } in
    let shows : Shows terms c.self.inside.decoder c.self.inside.ended c.self.inside.cut_off c.args.self.now = record { view = c.self.view_is; live = live; inside = c.self.invariant } in
    end_begun c.args.session c.args.committer.now c.ask.new.self c.ask.result shows (pending_so c.pending.result c.pending.ensures.pending c.if-not-pending.false) c.requires.sound
    (enters_by (malformed_from c.args.session) c.args.committer.now c.ask.new.self c.ask.result c.ask.ensures.end c.ask.ensures.entered)
    c.ask.ensures.end
