use Rattle.std.specs.Prelude.{IsOk, IsErr, OnOk, OnErr}
use Rattle.std.proofs.Common.{◌≡◌, ◌⊎◌, ◌∙◌, Result, Ok, Err, inl, inr, refl, sym, ap, arith}
use Rattle.std.proofs.KnownBytes.{Keeps-trans}
use Rattle.audit_cli_base.specs.Faults.{status_of_lines, status_of_refusal}
use Rattle.audit_cli_base.specs.declared.fault.CommandError.TheVariants.{BadArgument, Lines, Refused, Export}
use Rattle.audit_store.specs.declared.store_error.StoreError.{StoreError}
use Rattle.audit_store.specs.declared.store_error.StoreError.TheVariants as store
use Rattle.audit_text.specs.declared.fault.LinesError.{LinesError}
use Rattle.audit_text.specs.declared.fault.LinesError.TheVariants as causes
use Rattle.audit_cli_base.specs.declared.status.Status.{Status}
use Rattle.audit_cli_base.specs.declared.status.Status.TheVariants as ends
use Rattle.audit_cli_serve.specs.Carried.{serving_end_status}
use Rattle.audit_cli_serve.specs.Faults.{serving_status}
use Rattle.audit_cli_serve.specs.declared.fault.ServingError.{ServingError}
use Rattle.audit_cli_serve.specs.declared.fault.ServingError.TheVariants.{Command, BadFrameLine, TooManyPasses}
use Rattle.audit_cli_serve.proofs.request.run.Goals.{in-Ok, in-Err}
use Rattle.audit_cli_serve.proofs.request.run.Goals as goal

-- the output was flushed, or it couldn't be
usage_by : {E : Type 0} (flushed : Result Unit E) (status ended : Status) → (IsOk flushed → ended ≡ status) → (IsErr flushed → ended ≡ ends.Device) → status ≡ ends.Usage
    → (ended ≡ ends.Usage) ⊎ (ended ≡ ends.Device)
usage_by (Ok x) status ended whole failed usage = inl (whole refl ∙ usage)
usage_by (Err error) status ended whole failed usage = inr (failed refl)

same_error : (fault : ServingError) (done : Result Unit ServingError) → done ≡ Err fault → done ≡ Err (Command BadArgument) → serving_status fault ≡ ends.Usage
same_error fault done is bad = let same : fault ≡ Command BadArgument = cc in ap serving_status same

pub returns-clause-words : goal.returns-clause-words
returns-clause-words g c wrong =
    let bad = (c.perform-done.ensures.words (Command BadArgument) (wrong, refl)).0 in
    usage_by c.flush_last-flushed.result c.match-done.status c.report_flush.result c.report_flush.ensures.whole c.report_flush.ensures.failed
    (elim c.match-done.branch [
      | in-Ok w ↦ let is = w.in-Ok.is in absurd (cc)
      | in-Err w ↦ w.status-is ∙ w.report-status.ensures ∙ same_error w.in-Err.fault c.perform-done.result w.in-Err.is bad
    ])

pub returns-clause-unwritten : goal.returns-clause-unwritten
returns-clause-unwritten g c wrong =
    Keeps-trans (g.W.Write.contents c.args.output.now) (g.W.Write.contents c.perform-done.new.output) (g.W.Write.contents c.flush_last-flushed.new.self)
    (c.perform-done.ensures.words (Command BadArgument) (wrong, refl)).1 c.flush_last-flushed.ensures.kept

-- the output was flushed, or it couldn't be
status_by : {E : Type 0} (Flushed Unflushed : Type 0) (flushed : Result Unit E) (status ended : Status) (done : Result Unit ServingError) → (IsOk flushed → ended ≡ status) → (IsErr flushed → ended ≡ ends.Device) → status ≡ serving_end_status done → OnOk flushed Flushed → OnErr flushed Unflushed
    → ((ended ≡ serving_end_status done) × Flushed) ⊎ ((ended ≡ ends.Device) × Unflushed)
status_by Flushed Unflushed (Ok x) status ended done whole failed is did not = inl (whole refl ∙ is, did)
status_by Flushed Unflushed (Err error) status ended done whole failed is did not = inr (failed refl, not)

pub returns-clause-carried : goal.returns-clause-carried
returns-clause-carried g c = record {
  done = c.perform-done.result;
  written = g.W.Write.contents c.perform-done.new.output;
  words = c.perform-done.ensures.words;
  served = c.perform-done.ensures.served;
  flushed = c.flush_last-flushed.ensures.kept;
  status_is = status_by _ _ c.flush_last-flushed.result c.match-done.status c.report_flush.result c.perform-done.result c.report_flush.ensures.whole c.report_flush.ensures.failed
      (elim c.match-done.branch [
        | in-Ok w ↦ w.status-is ∙ sym (ap serving_end_status w.in-Ok.is)
        | in-Err w ↦ w.status-is ∙ w.report-status.ensures ∙ sym (ap serving_end_status w.in-Err.is)
      ]) c.flush_last-flushed.ensures.flushed c.flush_last-flushed.ensures.unflushed;
}

-- which errors are of words
usage_lines : (cause : LinesError) → status_of_lines cause ≡ ends.Usage → ⊥
usage_lines causes.InputTooLong is = cc is
usage_lines (causes.Line line cause) is = cc is
usage_lines causes.Read is = cc is
usage_lines causes.Write is = cc is
usage_lines causes.Memory is = cc is

usage_refusal : (error : StoreError) → status_of_refusal error ≡ ends.Usage → ⊥
usage_refusal store.Device is = cc is
usage_refusal store.Memory is = cc is
usage_refusal _ is = cc is

usage_of : (done : Result Unit ServingError) → serving_end_status done ≡ ends.Usage → done ≡ Err (Command BadArgument)
usage_of (Ok done) is = absurd (cc is)
usage_of (Err (Command BadArgument)) is = refl
usage_of (Err (Command (Lines fault))) is = absurd (usage_lines fault is)
usage_of (Err (Command (Refused error))) is = absurd (usage_refusal error is)
usage_of (Err (Command (Export fault))) is = grind (arith, is)
usage_of (Err (Command _)) is = absurd (cc is)
usage_of (Err (BadFrameLine line)) is = absurd (cc is)
usage_of (Err TooManyPasses) is = absurd (cc is)

only_words : {E : Type 0} (flushed : Result Unit E) (status ended : Status) (done : Result Unit ServingError) → (IsOk flushed → ended ≡ status) → (IsErr flushed → ended ≡ ends.Device) → status ≡ serving_end_status done → ended ≡ ends.Usage → done ≡ Err (Command BadArgument)
only_words (Ok x) status ended done whole failed is usage = usage_of done (sym is ∙ sym (whole refl) ∙ usage)
only_words (Err error) status ended done whole failed is usage = let device : ended ≡ ends.Device = failed refl in absurd (cc (device, usage))

pub returns-clause-only : goal.returns-clause-only
returns-clause-only g c usage =
    c.perform-done.ensures.only (only_words c.flush_last-flushed.result c.match-done.status c.report_flush.result c.perform-done.result c.report_flush.ensures.whole c.report_flush.ensures.failed
    (elim c.match-done.branch [
      | in-Ok w ↦ w.status-is ∙ sym (ap serving_end_status w.in-Ok.is)
      | in-Err w ↦ w.status-is ∙ w.report-status.ensures ∙ sym (ap serving_end_status w.in-Err.is)
    ]) usage)
