use Rattle.std.proofs.Common.{◌∙◌, refl}
use Rattle.audit_serve_door.proofs.Arriving.{receives_refl, receives_then}
use Rattle.audit_serve_door.proofs.socket_door.SocketDoor.accept_at.Goals as goal

pub loop-at-init : goal.loop-at-init
loop-at-init g c = (receives_refl g.L.Accepts.model g.J.Journal.notes c.args.self.now.entrances.items c.args.self.now.waiting c.args.self.now.journal, refl, refl)

pub returns-then-not-accept_one-clause-received : goal.returns-then-not-accept_one-clause-received
returns-then-not-accept_one-clause-received g c = receives_then g.L.Accepts.model g.J.Journal.notes _ _ _ _ _ _ _ _ _ c.loop-at.invariant.0 c.accept_one.ensures.received

pub loop-at-preserved : goal.loop-at-preserved
loop-at-preserved g c = (receives_then g.L.Accepts.model g.J.Journal.notes _ _ _ _ _ _ _ _ _ c.loop-at.invariant.0 c.accept_one.ensures.received, c.accept_one.ensures.flags ∙ c.loop-at.invariant.1, c.accept_one.ensures.places ∙ c.loop-at.invariant.2)
