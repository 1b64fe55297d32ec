use Rattle.std.specs.Prelude.{IsOk, IsErr, OnOk, OnErr}
use Rattle.std.proofs.Common.{◌≡◌, ◌⊎◌, inl, inr, Result, Ok, Err, refl}
use Rattle.audit_cli_base.specs.Faults.{status_of_end}
use Rattle.audit_cli_base.specs.declared.fault.CommandError.{CommandError}
use Rattle.audit_cli_base.specs.declared.status.Status.{Status}
use Rattle.audit_cli_base.specs.declared.status.Status.TheVariants as ends
use Rattle.audit_cli_daemon.proofs.request.run_sparing.Goals as goal

-- the output was flushed, or it couldn't be
status_by : {E : Type 0} (Flushed Unflushed : Type 0) (flushed : Result Unit E) (ended : Status) (done : Result Unit CommandError) → (IsOk flushed → ended ≡ status_of_end done) → (IsErr flushed → ended ≡ ends.Device) → OnOk flushed Flushed → OnErr flushed Unflushed
    → ((ended ≡ status_of_end done) × Flushed) ⊎ ((ended ≡ ends.Device) × Unflushed)
status_by Flushed Unflushed (Ok x) ended done whole failed did not = inl (whole refl, did)
status_by Flushed Unflushed (Err error) ended done whole failed did not = inr (failed refl, not)

pub returns-in-Some-clause-carried : goal.returns-in-Some-clause-carried
returns-in-Some-clause-carried g c = record {
  done = c.perform-done.result;
  written = g.W.Write.contents c.perform-done.new.output;
  served = c.perform-done.ensures.served;
  flushed = c.flush_last-flushed.ensures.kept;
  status_is = status_by _ _ c.flush_last-flushed.result c.report_end-status.result c.perform-done.result c.report_end-status.ensures.whole c.report_end-status.ensures.failed c.flush_last-flushed.ensures.flushed c.flush_last-flushed.ensures.unflushed;
}

pub returns-in_default-clause-carried : goal.returns-in_default-clause-carried
returns-in_default-clause-carried g c = record {
  done = c.perform-done.result;
  written = g.W.Write.contents c.perform-done.new.output;
  served = c.perform-done.ensures.served;
  flushed = c.flush_last-flushed.ensures.kept;
  status_is = status_by _ _ c.flush_last-flushed.result c.report_end-status.result c.perform-done.result c.report_end-status.ensures.whole c.report_end-status.ensures.failed c.flush_last-flushed.ensures.flushed c.flush_last-flushed.ensures.unflushed;
}
