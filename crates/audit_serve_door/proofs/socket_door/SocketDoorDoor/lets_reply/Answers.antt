use Rattle.std.proofs.Common.{inl, refl, sym, ap}
use Rattle.std.specs.Prelude.{not}
use Rattle.audit_serve_door.proofs.Calls.{release_call, lets_leave, looked}
use Rattle.audit_serve_door.proofs.socket_door.SocketDoorDoor.lets_reply.Goals as goal

pub returns-then-self : goal.returns-then-self
returns-then-self g c =
    release_call g.W.Watch.left _ c.args.self.now _ refl refl refl refl refl
    (record { lets_is = sym (ap not c.if-self.true); found = λ gone. inl gone; noted = λ gone. gone; failed = refl })

pub returns-in_default : goal.returns-in_default
returns-in_default g c =
    release_call g.W.Watch.left _ c.args.self.now _ c.look.ensures.kept.entrances c.look.ensures.kept.waiting c.look.ensures.kept.journal c.look.ensures.kept.until c.look.ensures.places
    (looked g.W.Watch.left _ c.args.self.now _ c.if-self.false c.look.ensures.replaced c.look.ensures.found c.look.ensures.failed)

pub returns-then-lt : goal.returns-then-lt
returns-then-lt g c = release_call g.W.Watch.left _ c.args.self.now _ refl refl refl refl refl (lets_leave g.W.Watch.left c.args.self.now _ c.if-self.false refl refl)

pub returns : goal.returns
returns g c =
    release_call g.W.Watch.left _ c.args.self.now _ c.look-2.ensures.kept.entrances c.look-2.ensures.kept.waiting c.look-2.ensures.kept.journal c.look-2.ensures.kept.until c.look-2.ensures.places
    (looked g.W.Watch.left _ c.args.self.now _ c.if-self.false c.look-2.ensures.replaced c.look-2.ensures.found c.look-2.ensures.failed)
