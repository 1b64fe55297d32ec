use Rattle.std.specs.Prelude.{IsOk, IsErr}
use Rattle.std.proofs.Common.{◌≡◌, ◌⊎◌, Result, Ok, Err, inl, inr, refl}
use Rattle.audit_cli_base.specs.Faults.{status_of_end}
use Rattle.audit_cli_base.specs.declared.fault.CommandError.{CommandError}
use Rattle.audit_cli_base.specs.declared.status.Status.{Status}
use Rattle.audit_cli_base.specs.declared.status.Status.TheVariants as ends
use Rattle.audit_cli_store.proofs.request.run.Goals as goal

-- the output was flushed, or it couldn't be
status_by : {E : Type 0} (flushed : Result Unit E) (status : Status) (done : Result Unit CommandError) → (IsOk flushed → status ≡ status_of_end done)
    → (IsErr flushed → status ≡ ends.Device) → (status ≡ status_of_end done) ⊎ (status ≡ ends.Device)
status_by (Ok x) status done whole failed = inl (whole refl)
status_by (Err error) status done whole failed = inr (failed refl)

pub returns : goal.returns
returns g c = record {
  done = c.perform-done.result;
  written = g.W.Write.contents c.perform-done.new.output;
  words = c.perform-done.ensures.words;
  only = c.perform-done.ensures.only;
  replayed = c.perform-done.ensures.replayed;
  on_file = c.perform-done.ensures.done;
  flushed = c.flush.ensures.bytes;
  status_is = status_by c.flush.result c.report_end.result c.perform-done.result c.report_end.ensures.whole c.report_end.ensures.failed;
}
