-- How the showing of an export by a disclosure ended, by the step at which it did.
use Rattle.std.proofs.Common.{inl, inr, ◌≡◌, ℕ, Option, IfSome, Result, Ok, Err, List, [], ◌∷◌, refl, sym, subst}
use Rattle.std.specs.Prelude.{IfErr, OnOk}
use Rattle.std.specs.Io.KnownBytes.{Appends, Keeps}
use Rattle.std.proofs.KnownBytes.{Keeps-refl}
use Rattle.audit_disclosure.specs.declared.disclosure.DisclosedKey.{DisclosedKey}
use Rattle.audit_disclosure.specs.declared.disclosure.Start.{Start}
use Rattle.audit_disclosure.specs.DisclosureText.{SpellsDisclosure}
use Rattle.audit_proof.specs.declared.commitment.Commitment.{Commitment}
use Rattle.audit_verify.specs.declared.accepted.Accepted.{Accepted}
use Rattle.audit_cli_base.specs.Arguments.{commitment_asked}
use Rattle.audit_cli_base.specs.declared.fault.CommandError.{CommandError}
use Rattle.audit_cli_base.specs.declared.fault.CommandError.TheVariants.{BadArgument}
use Rattle.audit_cli_disclosure.specs.FileCalls.{ExportBytes, FilesModel, a_file_opening, an_export_opening}
use Rattle.audit_cli_disclosure.specs.ShownDisclosure.{EndsAfterDisclosure, EndsShowing, IsUndisclosedFile, IsUnended, IsUnshownExport, ShowingTask, ShowsKnown}
use Rattle.audit_cli_disclosure.specs.ShownReport.{matched_message}
use Rattle.audit_cli_disclosure.specs.Words.{HasWrongShowingWord}
use Rattle.audit_cli_disclosure.specs.declared.words.Showing.{Showing}

-- The same task with another start of the same value: what its parts say holds of them.
module _ {R : Type 0} (failed : R → Type 0) (asked : Showing) (task : ShowingTask asked) (commitment : Commitment) (start : Start) (keys : List DisclosedKey) (same : (task.commitment ≡ commitment) × (task.start ≡ start) × (task.keys ≡ keys)) where
  pub shows_task : (export : ExportBytes) (end : Accepted) (old new : Option (List ℕ)) → ShowsKnown asked.form start keys commitment export end old new → ShowsKnown asked.form task.start task.keys task.commitment export end old new
  shows_task export end old new shown =
      subst (λ (k : Commitment). ShowsKnown asked.form task.start task.keys k export end old new) (sym same.0)
      (subst (λ (s : Start). ShowsKnown asked.form s task.keys commitment export end old new) (sym same.1) (subst (λ (ks : List DisclosedKey). ShowsKnown asked.form start ks commitment export end old new) (sym same.2) shown))

  pub unshown_task : (opened : Result ExportBytes CommandError) (fault : CommandError) (old new : Option (List ℕ)) → IsUnshownExport asked.form start keys commitment failed old new opened fault → IsUnshownExport asked.form task.start task.keys task.commitment failed old new opened fault
  unshown_task opened fault old new why =
      subst (λ (k : Commitment). IsUnshownExport asked.form task.start task.keys k failed old new opened fault) (sym same.0)
      (subst (λ (s : Start). IsUnshownExport asked.form s task.keys commitment failed old new opened fault) (sym same.1) (subst (λ (ks : List DisclosedKey). IsUnshownExport asked.form start ks commitment failed old new opened fault) (sym same.2) why))

module _ {F R : Type 0} (files : FilesModel F) (failed : R → Type 0) (asked : Showing) (Flushed Unflushed : Type 0) where
  -- the word is wrong
  pub ends_at_word : (was : F) (known said : Option (List ℕ)) (fault : CommandError) → HasWrongShowingWord asked → fault ≡ BadArgument → EndsShowing files failed asked was was known known said said Flushed Unflushed (Err fault)
  ends_at_word was known said fault wrong is = inl record { why = (wrong, is); calls = files.nothing_called was; unwritten = Keeps-refl known; unsaid = Keeps-refl said }

  -- there is no disclosure
  pub ends_at_disclosure : (was now : F) (known said : Option (List ℕ)) (fault : CommandError) (commitment : Commitment) → commitment_asked asked.commitment.now ≡ Ok commitment → (opened : Result (Option (List ℕ)) CommandError) → IsUndisclosedFile opened fault
      → files.DidCalls was now (a_file_opening asked.disclosed.now opened ∷ []) → EndsShowing files failed asked was now known known said said Flushed Unflushed (Err fault)
  ends_at_disclosure was now known said fault commitment is opened why calls =
      inr (inl record { commitment = commitment; commitment_is = is; opened = opened; why = why; calls = calls; unwritten = Keeps-refl known; unsaid = Keeps-refl said })

  abbrev pub showing_task : (commitment : Commitment) → commitment_asked asked.commitment.now ≡ Ok commitment → (text : Option (List ℕ)) (start : Start) (keys : List DisclosedKey) → IfSome text (λ text. SpellsDisclosure text start keys) → ShowingTask asked
  showing_task commitment is text start keys spells = record { commitment = commitment; commitment_is = is; text = text; start = start; keys = keys; spells = spells }

  -- there is one
  pub ends_by_disclosure : (was mid now : F) (old new said_before said_after : Option (List ℕ)) (result : Result (Unit {0}) CommandError) (task : ShowingTask asked) → files.DidCalls was mid (a_file_opening asked.disclosed.now (Ok task.text) ∷ [])
      → EndsAfterDisclosure files failed asked mid now old new said_before said_after Flushed Unflushed task.commitment task.start task.keys result → EndsShowing files failed asked was now old new said_before said_after Flushed Unflushed result
  ends_by_disclosure was mid now old new said_before said_after result task opened further = further was task (refl, refl, refl) opened

  -- the export isn't shown
  pub ends_at_showing : (mid now : F) (old new said : Option (List ℕ)) (fault : CommandError) (commitment : Commitment) (start : Start) (keys : List DisclosedKey) (opened : Result ExportBytes CommandError) → IsUnshownExport asked.form start keys commitment failed old new opened fault
      → files.DidCalls mid now (an_export_opening asked.export.now opened ∷ []) → EndsAfterDisclosure files failed asked mid now old new said said Flushed Unflushed commitment start keys (Err fault)
  ends_at_showing mid now old new said fault commitment start keys opened why calls = λ was task same before. inr (inr (inl record {
    task = task;
    opened = opened;
    why = unshown_task failed asked task commitment start keys same opened fault old new why;
    calls = files.more_called was mid now (a_file_opening asked.disclosed.now (Ok task.text) ∷ []) _ before calls;
    unsaid = Keeps-refl said;
  }))

  -- it was shown, and the report ended or not
  pub ends_by_report : (mid now : F) (old written new said_before said_after : Option (List ℕ)) (commitment : Commitment) (start : Start) (keys : List DisclosedKey) (export : ExportBytes) (end : Accepted) (result : Result (Unit {0}) CommandError) → ShowsKnown asked.form start keys commitment export end old written
      → files.DidCalls mid now (an_export_opening asked.export.now (Ok export) ∷ []) → Keeps written new → OnOk result (Flushed × Appends said_before said_after (matched_message asked.form end)) → IfErr result (IsUnended Flushed Unflushed said_before said_after (matched_message asked.form end))
      → EndsAfterDisclosure files failed asked mid now old new said_before said_after Flushed Unflushed commitment start keys result
  ends_by_report mid now old written new said_before said_after commitment start keys export end (Ok done) shown calls kept ended unended = λ was task same before. record {
    shown = record {
      task = task;
      export = export;
      end = end;
      written = written;
      shown = shows_task failed asked task commitment start keys same export end old written shown;
      calls = files.more_called was mid now (a_file_opening asked.disclosed.now (Ok task.text) ∷ []) _ before calls;
      kept = kept;
    };
    flushed = ended.0;
    said = ended.1;
  }
  ends_by_report mid now old written new said_before said_after commitment start keys export end (Err fault) shown calls kept ended unended = λ was task same before. inr (inr (inr record {
    shown = record {
      task = task;
      export = export;
      end = end;
      written = written;
      shown = shows_task failed asked task commitment start keys same export end old written shown;
      calls = files.more_called was mid now (a_file_opening asked.disclosed.now (Ok task.text) ∷ []) _ before calls;
      kept = kept;
    };
    why = unended;
  }))
