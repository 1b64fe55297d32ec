use Rattle.std.proofs.Common.{[], ◌∷◌, subst}
use Rattle.audit_serve_door.specs.Notes.{a_note}
use Rattle.audit_serve_door.specs.Comings.{IsParting}
use Rattle.audit_serve_door.proofs.Calls.{sockets_call}
use Rattle.audit_serve_door.proofs.socket_door.SocketDoorDoor.gone.Goals as goal

pub returns : goal.returns
returns g c = sockets_call (IsParting g.J.Journal.notes c.args.departure) _ c.args.self.now _ c.leave.ensures.entrances c.leave.ensures.flags c.leave.ensures.places
    (record { passes = c.leave.ensures.stay; noted = subst (λ journal. g.J.Journal.notes.DidNote journal c.note.new.self (a_note c.args.departure ∷ [])) c.leave.ensures.journal c.note.ensures })
