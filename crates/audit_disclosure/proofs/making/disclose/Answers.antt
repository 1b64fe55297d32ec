use Rattle.std.proofs.Common.{inl, inr}
use Rattle.std.proofs.lemmas.Result.{err_from_is_err_and}
use Rattle.audit_disclosure.proofs.TakenKeys.{discloses, fails_first, fails_second}
use Rattle.audit_disclosure.proofs.making.disclose.Goals as goal

pub returns-in_err-next-clause-fault : goal.returns-in_err-next-clause-fault
returns-in_err-next-clause-fault g c =
    let p = err_from_is_err_and c.from_residual.result c.from_residual.ensures.1 in
    rw (p.1, p.2) (fails_first c.args.from.now c.args.commitment.now (g.R.Read.remaining c.args.first.now) (g.R.Read.remaining c.args.second.now) c.in_err-next.field-0.0 c.in_err-next.ensures.fault)

pub returns-in_err-next-clause-read : goal.returns-in_err-next-clause-read
returns-in_err-next-clause-read g c =
    let p = err_from_is_err_and c.from_residual.result c.from_residual.ensures.1 in
    rw (p.1, p.2) (λ is. inl (c.in_err-next.ensures.external is))

pub returns-in_err-keys-clause-fault : goal.returns-in_err-keys-clause-fault
returns-in_err-keys-clause-fault g c =
    let p = err_from_is_err_and c.from_residual-in_err-keys.result c.from_residual-in_err-keys.ensures.1 in
    rw (p.1, p.2) (fails_second c.args.from.now c.in_ok-next.next c.args.commitment.now c.end.result (g.R.Read.remaining c.args.first.now) (g.R.Read.remaining c.args.second.now) c.in_err-keys.field-0.0 c.end.ensures c.in_ok-next.ensures.verified c.in_err-keys.ensures.fault)

pub returns-in_err-keys-clause-read : goal.returns-in_err-keys-clause-read
returns-in_err-keys-clause-read g c =
    let p = err_from_is_err_and c.from_residual-in_err-keys.result c.from_residual-in_err-keys.ensures.1 in
    rw (p.1, p.2) (λ is. inr (c.in_err-keys.ensures.read is))

pub returns-clause-chosen : goal.returns-clause-chosen
returns-clause-chosen g c =
    discloses c.args.choice.now c.args.from.now c.in_ok-next.next c.start_after.result c.in_ok-keys.keys.items c.count.result c.args.commitment.now c.end.result (g.R.Read.remaining c.args.first.now) (g.R.Read.remaining c.args.second.now) c.end.ensures c.start_after.ensures c.count.ensures.count c.in_ok-next.ensures.verified c.in_ok-keys.ensures.keys
