use Rattle.audit_serve_ready.specs.Places.{slot_at}
use Rattle.audit_serve_ready.proofs.Hearing.{kept_still, why_gone, offered_then}
use Rattle.audit_serve_ready.proofs.laws.whoever_is_done_goes.Goals as goal

pub returns-clause-goes : goal.returns-clause-goes
returns-clause-goes g c = λ backlog first k was now old new before after once within ended there.
    kept_still g.C.SessionCore.model g.D.Stream.ReadyStream.calls g.D.Door.calls backlog k once.mid (slot_at k once.left) (once.none_done k within) ended there

pub returns-clause-comes : goal.returns-clause-comes
returns-clause-comes g c = λ backlog first k was now old new before after once within ended vacant.
    offered_then g.C.SessionCore.model g.D.Stream.ReadyStream.calls g.D.Door.calls backlog k once.mid (slot_at k once.left) (once.comes.told k) (once.comes.changes k) (once.comes.at k within) ended vacant

pub returns-clause-why : goal.returns-clause-why
returns-clause-why g c = λ backlog first k was now old new before after once client why within told.
    why_gone g.C.SessionCore.model g.D.Stream.ReadyStream.calls g.D.Door.calls backlog k once.mid (slot_at k once.present) (once.goes.told k) (once.goes.changes k) client why (once.goes.at k within) told
