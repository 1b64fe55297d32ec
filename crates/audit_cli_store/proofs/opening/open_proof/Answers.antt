use Rattle.std.proofs.Common.{rules}
use Rattle.audit_cli_store.proofs.OpenedProofs.{opened, never}
use Rattle.audit_cli_store.proofs.opening.open_proof.Goals as goal

-- An incremental proof isn't judged under one commitment.

pub returns-in_default-clause-found : goal.returns-in_default-clause-found
returns-in_default-clause-found g c = never _ c.in_ok-proof.field-0 c.in_default.field-0 (g.R.Read.remaining c.args.reader.now) c.args.commitment.now (search rules) c.in_ok-proof.ensures

pub returns-in_default-clause-accepted : goal.returns-in_default-clause-accepted
returns-in_default-clause-accepted g c = never _ c.in_ok-proof.field-0 c.in_default.field-0 (g.R.Read.remaining c.args.reader.now) c.args.commitment.now (search rules) c.in_ok-proof.ensures

pub returns-in_default-clause-not_accepted : goal.returns-in_default-clause-not_accepted
returns-in_default-clause-not_accepted g c = never _ c.in_ok-proof.field-0 c.in_default.field-0 (g.R.Read.remaining c.args.reader.now) c.args.commitment.now (search rules) c.in_ok-proof.ensures

pub returns-in_default-clause-no_proof : goal.returns-in_default-clause-no_proof
returns-in_default-clause-no_proof g c = never _ c.in_ok-proof.field-0 c.in_default.field-0 (g.R.Read.remaining c.args.reader.now) c.args.commitment.now (search rules) c.in_ok-proof.ensures

pub returns-clause-found : goal.returns-clause-found
returns-clause-found g c =
    opened c.args.form c.args.key.now c.write_event.result c.in_ok-proof.field-0 c.in-Member.member (g.R.Read.remaining c.args.reader.now) c.args.commitment.now
    (g.W.Write.contents c.args.writer.now) (g.W.Write.contents c.write_event.new.writer) (search rules) (search rules) c.in_ok-proof.ensures c.write_event.ensures
