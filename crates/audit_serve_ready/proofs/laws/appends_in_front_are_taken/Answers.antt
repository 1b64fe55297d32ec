use Rattle.audit_serve_ready.specs.Places.{slot_at}
use Rattle.audit_serve_ready.proofs.Hearing.{heard_in, append_taken}
use Rattle.audit_serve_ready.proofs.laws.appends_in_front_are_taken.Goals as goal

pub returns : goal.returns
returns g c = λ backlog first k was now old new before after later pass within live unshut asked room.
    let M = g.C.SessionCore.model in
    append_taken M g.D.Stream.ReadyStream.calls g.D.Door.calls backlog k (pass.reads k) old (slot_at k pass.judged) (slot_at k after) later
    ((heard_in M g.D.Stream.ReadyStream.calls g.D.Door.calls backlog first k was now old new before after pass within live).taken unshut) asked room
