use Rattle.audit_serve_door.proofs.Arriving.{receives_refl, receives_then}
use Rattle.audit_serve_door.proofs.socket_door.announce_all.Goals as goal

pub loop-event-init : goal.loop-event-init
loop-event-init g c = receives_refl g.L.Accepts.model g.J.Journal.notes c.args.entrances.now c.args.waiting.now c.args.journal.now

pub loop-event-preserved : goal.loop-event-preserved
loop-event-preserved g c = receives_then g.L.Accepts.model g.J.Journal.notes _ _ _ _ _ _ _ _ _ c.loop-event.invariant c.announce.ensures
