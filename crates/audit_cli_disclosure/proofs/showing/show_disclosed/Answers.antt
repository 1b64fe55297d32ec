use Rattle.std.proofs.Common.{inl}
use Rattle.std.proofs.KnownBytes.{Keeps-refl}
use Rattle.std.proofs.lemmas.Result.{err_from_is_err_and}
use Rattle.audit_cli_disclosure.proofs.ShownSteps.{both_shown, first_failed, of_second, second_failed}
use Rattle.audit_cli_disclosure.proofs.showing.show_disclosed.Goals as goal

pub returns-clause-shown : goal.returns-clause-shown
returns-clause-shown g c =
    both_shown c.args.form c.args.disclosure.now.start c.args.disclosure.now.keys.items c.args.commitment.now c.in_ok-end.end (g.W.Write.contents c.args.writer.now) (g.W.Write.contents c.show_again.new.writer) (g.R.Read.remaining c.args.first.now) (g.R.Read.remaining c.args.second.now) c.in_ok-end.ensures.matched c.in_ok-show_again.ensures.shown

pub returns-in_err-end-clause-fault : goal.returns-in_err-end-clause-fault
returns-in_err-end-clause-fault g c =
    let p = err_from_is_err_and c.from_residual.result c.from_residual.ensures.1 in
    rw (p.1, p.2) (first_failed c.args.form c.args.disclosure.now.start c.args.disclosure.now.keys.items c.args.commitment.now c.in_err-end.field-0.0 (g.W.Write.contents c.args.writer.now) (g.R.Read.remaining c.args.first.now) (g.R.Read.remaining c.args.second.now) (Keeps-refl (g.W.Write.contents c.args.writer.now)) c.in_err-end.ensures.fault)

pub returns-in_err-end-clause-report : goal.returns-in_err-end-clause-report
returns-in_err-end-clause-report g c =
    let p = err_from_is_err_and c.from_residual.result c.from_residual.ensures.1 in
    rw (p.1, p.2) (λ is. inl (c.in_err-end.ensures.read is))

pub returns-in_err-show_again-clause-fault : goal.returns-in_err-show_again-clause-fault
returns-in_err-show_again-clause-fault g c =
    let p = err_from_is_err_and c.from_residual-in_err-show_again.result c.from_residual-in_err-show_again.ensures.1 in
    rw (p.1, p.2) (second_failed c.args.form c.args.disclosure.now.start c.args.disclosure.now.keys.items c.args.commitment.now c.in_ok-end.end (g.W.Write.contents c.args.writer.now) (g.W.Write.contents c.show_again.new.writer) (g.R.Read.remaining c.args.first.now) (g.R.Read.remaining c.args.second.now) c.in_err-show_again.field-0.0 c.in_ok-end.ensures.matched c.in_err-show_again.ensures.fault)

pub returns-in_err-show_again-clause-report : goal.returns-in_err-show_again-clause-report
returns-in_err-show_again-clause-report g c =
    let p = err_from_is_err_and c.from_residual-in_err-show_again.result c.from_residual-in_err-show_again.ensures.1 in
    rw (p.1, p.2) (of_second _ _ _ _ c.in_err-show_again.field-0.0 c.in_err-show_again.ensures.report)
