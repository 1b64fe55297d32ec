use Rattle.audit_cli_base.specs.declared.fault.CommandError.TheVariants.{BadArgument}
use Rattle.std.proofs.Common.{◌≡◌, ◌∙◌, inr, None, Err, refl, sym, ap}
use Rattle.std.proofs.lemmas.Result.{err_from_is_err_and}
use Rattle.audit_cli_store.proofs.BadArguments.{never_bad, other_opened}
use Rattle.audit_cli_store.proofs.OpenedProofs.{opens_at}
use Rattle.audit_cli_store.proofs.opening.open_file.Goals as goal

pub returns-clause-opened : goal.returns-clause-opened
returns-clause-opened g c =
    opens_at g.F.File.SystemFile.facts g.F.File.Read.remaining c.args.asked c.in_ok-proof.proof c.in_ok-commitment.commitment c.in_ok-commitment.key c.in_ok-size.size
    (g.W.Write.contents c.args.output.now) (g.W.Write.contents c.open_proof.new.writer) (g.W.Write.contents c.flush.new.self) c.end_opening.result
    c.in_ok-proof.ensures.opened c.in_ok-commitment.ensures.commitment c.in_ok-commitment.ensures.key c.in_ok-size.ensures.found c.flush.ensures.bytes

pub returns-clause-only : goal.returns-clause-only
returns-clause-only g c = λ bad. absurd (never_bad c.end_opening.result bad c.end_opening.ensures.words)

-- the proof is of the other kind
pub returns-in_err-size-clause-only : goal.returns-in_err-size-clause-only
returns-in_err-size-clause-only g c = λ bad.
    let p = err_from_is_err_and c.from_residual-in_err-size.result c.from_residual-in_err-size.ensures.1 in
    let fault_is : c.in_err-size.field-0.0 ≡ BadArgument = cc (sym (p.1 ∙ ap Err p.2) ∙ bad) in
    inr (record {
      file = c.in_ok-proof.proof;
      opened = c.in_ok-proof.ensures.opened;
      newer = None;
      newer_is = refl;
      other = other_opened c.args.asked.form _ (Err c.in_err-size.field-0.0) _ _ _ _ (ap Err fault_is) c.in_err-size.ensures.found;
    })
