use Rattle.std.proofs.lemmas.Result.{err_from_is_err_and}
use Rattle.audit_cli_store.proofs.Checks.{said, unsaid}
use Rattle.audit_cli_store.proofs.checking.check_proof.Goals as goal

pub returns-in_err-write_judgment-clause-found : goal.returns-in_err-write_judgment-clause-found
returns-in_err-write_judgment-clause-found g c =
    let p = err_from_is_err_and c.from_residual-in_err-write_judgment.result c.from_residual-in_err-write_judgment.ensures.1 in
    rw (p.1, p.2) (unsaid c.args.form c.in_ok-judged.judged c.in_err-write_judgment.field-0.0 (g.R.Read.remaining c.args.reader.now) c.args.older.now c.args.newer
    (g.W.Write.contents c.args.writer.now) (g.W.Write.contents c.write_judgment.new.writer) c.in_ok-judged.ensures c.in_err-write_judgment.ensures.fault)

pub returns-then-judged-clause-found : goal.returns-then-judged-clause-found
returns-then-judged-clause-found g c =
    said c.args.form c.in_ok-judged.judged (g.R.Read.remaining c.args.reader.now) c.args.older.now c.args.newer (g.W.Write.contents c.args.writer.now) (g.W.Write.contents c.write_judgment.new.writer)
    c.if-judged.true c.in_ok-judged.ensures c.in_ok-write_judgment.ensures.written
