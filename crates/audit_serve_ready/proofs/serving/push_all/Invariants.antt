use Rattle.audit_serve_ready.proofs.Offers.{OffersBelow}
use Rattle.audit_serve_ready.proofs.serving.push_all.Given as goal

abbrev pub invariant-loop-place : goal.invariant-loop-place
invariant-loop-place g l = OffersBelow g.S.ReadyStream.calls l.place l.fn.slots l.slots
