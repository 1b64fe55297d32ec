use Rattle.std.proofs.Common.{◌∙◌}
use Rattle.audit_serve_door.proofs.Passing.{nobody_then}
use Rattle.audit_serve_door.proofs.Calls.{changes_kept}
use Rattle.audit_serve_door.proofs.socket_door.SocketDoor.accept_orders.Goals as goal

pub loop-init : goal.loop-init
loop-init g c = (changes_kept g.J.Journal.notes _ _ _ _ c.keep_spare.ensures.kept.waiting c.keep_spare.ensures.kept.journal, c.keep_spare.ensures.kept.entrances, c.keep_spare.ensures.flags, c.keep_spare.ensures.places)

pub loop-preserved : goal.loop-preserved
loop-preserved g c = (nobody_then g.J.Journal.notes _ _ _ _ _ _ c.loop.invariant.0 c.accept_order.ensures.turned, c.accept_order.ensures.entrances ∙ c.loop.invariant.1, c.accept_order.ensures.flags ∙ c.loop.invariant.2, c.accept_order.ensures.places ∙ c.loop.invariant.3)

pub returns-then-not-accept_order-clause-turned : goal.returns-then-not-accept_order-clause-turned
returns-then-not-accept_order-clause-turned g c = nobody_then g.J.Journal.notes _ _ _ _ _ _ c.loop.invariant.0 c.accept_order.ensures.turned
