use Rattle.std.proofs.Common.{◌∙◌, refl}
use Rattle.audit_serve_door.proofs.Arriving.{receives_refl, receives_then}
use Rattle.audit_serve_door.proofs.socket_door.SocketDoor.accept_clients.Goals as goal

pub loop-place-init : goal.loop-place-init
loop-place-init g c = (receives_refl g.L.Accepts.model g.J.Journal.notes c.args.self.now.entrances.items c.args.self.now.waiting c.args.self.now.journal, refl, refl)

pub loop-place-preserved : goal.loop-place-preserved
loop-place-preserved g c = (receives_then g.L.Accepts.model g.J.Journal.notes _ _ _ _ _ _ _ _ _ c.loop-place.invariant.0 c.accept_at.ensures.received, c.accept_at.ensures.flags ∙ c.loop-place.invariant.1, c.accept_at.ensures.places ∙ c.loop-place.invariant.2)
