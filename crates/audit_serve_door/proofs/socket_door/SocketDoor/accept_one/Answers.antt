use Rattle.std.proofs.Common.{◌∙◌, ◌<◌, [], ◌∷◌, length, refl, ap, rules}
use Rattle.audit_serve_door.proofs.Passing.{changes_refl}
use Rattle.audit_serve_door.proofs.Arriving.{comes_there, receives_refl, receives_then, receives_on, received_one, received_quietly}
use Rattle.audit_serve_door.proofs.socket_door.SocketDoor.accept_one.Goals as goal

pub loop-init : goal.loop-init
loop-init g c = (receives_refl g.L.Accepts.model g.J.Journal.notes c.args.self.now.entrances.items c.args.self.now.waiting c.args.self.now.journal, refl, refl)

pub returns-in-One-clause-received : goal.returns-in-One-clause-received
returns-in-One-clause-received g c =
    let there : c.args.place < length c.loop.self.entrances.items = search rules in
    receives_then g.L.Accepts.model g.J.Journal.notes _ _ _ _ _ _ _ _ _ c.loop.invariant.0
    (receives_on g.L.Accepts.model g.J.Journal.notes _ _ _ _ _ _ _ (ap (λ entrances. entrances.items) c.admit.ensures.entrances)
    (received_one g.L.Accepts.model g.J.Journal.notes c.args.place c.in-One.arrival c.loop.self.entrances.items c.accept.new.self _ _ _ _ there
    (comes_there g.L.Accepts.model (c.in-One.arrival ∷ []) c.loop.self.entrances.items c.args.place c.index_mut.result.now c.accept.new.self there c.index_mut.ensures.value c.in-One.ensures) c.admit.ensures.waits))

pub returns-in-NoneLeft-clause-received : goal.returns-in-NoneLeft-clause-received
returns-in-NoneLeft-clause-received g c =
    let there : c.args.place < length c.loop.self.entrances.items = search rules in
    receives_then g.L.Accepts.model g.J.Journal.notes _ _ _ _ _ _ _ _ _ c.loop.invariant.0
    (received_quietly g.L.Accepts.model g.J.Journal.notes c.args.place c.loop.self.entrances.items c.accept.new.self _ _ _ _ there
    (comes_there g.L.Accepts.model [] c.loop.self.entrances.items c.args.place c.index_mut.result.now c.accept.new.self there c.index_mut.ensures.value c.in-NoneLeft.ensures)
    (changes_refl g.J.Journal.notes c.loop.self.waiting c.loop.self.journal))

pub loop-preserved : goal.loop-preserved
loop-preserved g c =
    let there : c.args.place < length c.loop.self.entrances.items = search rules in (
      receives_then g.L.Accepts.model g.J.Journal.notes _ _ _ _ _ _ _ _ _ c.loop.invariant.0
          (receives_on g.L.Accepts.model g.J.Journal.notes _ _ _ _ _ _ _ (ap (λ entrances. entrances.items) c.drop_silent.ensures.entrances)
          (received_quietly g.L.Accepts.model g.J.Journal.notes c.args.place c.loop.self.entrances.items c.accept.new.self _ _ _ _ there
          (comes_there g.L.Accepts.model [] c.loop.self.entrances.items c.args.place c.index_mut.result.now c.accept.new.self there c.index_mut.ensures.value c.in-Failed.ensures) c.drop_silent.ensures.turned)),
      c.drop_silent.ensures.flags ∙ c.loop.invariant.1,
      c.drop_silent.ensures.places ∙ c.loop.invariant.2,
    )

pub returns-then-not-drop_silent-clause-received : goal.returns-then-not-drop_silent-clause-received
returns-then-not-drop_silent-clause-received g c =
    let there : c.args.place < length c.loop.self.entrances.items = search rules in
    receives_then g.L.Accepts.model g.J.Journal.notes _ _ _ _ _ _ _ _ _ c.loop.invariant.0
    (receives_on g.L.Accepts.model g.J.Journal.notes _ _ _ _ _ _ _ (ap (λ entrances. entrances.items) c.drop_silent.ensures.entrances)
    (received_quietly g.L.Accepts.model g.J.Journal.notes c.args.place c.loop.self.entrances.items c.accept.new.self _ _ _ _ there
    (comes_there g.L.Accepts.model [] c.loop.self.entrances.items c.args.place c.index_mut.result.now c.accept.new.self there c.index_mut.ensures.value c.in-Failed.ensures) c.drop_silent.ensures.turned))
