use Rattle.std.proofs.Common.{◌∙◌, inl, inr}
use Rattle.audit_cli_store.proofs.BadArguments.{other_checked}
use Rattle.audit_cli_store.proofs.auditing.check_file.Goals as goal

-- the proof is of the other kind
pub returns-clause-only : goal.returns-clause-only
returns-clause-only g c = λ bad. inr (record {
  file = c.in_ok-proof.proof;
  opened = c.in_ok-proof.ensures.opened;
  newer = c.in_ok-older.newer;
  newer_is = c.in_ok-older.ensures.newer;
  other = other_checked c.args.form c.check_proof.result _ _ _ _ _ bad c.check_proof.ensures.found;
})
