-- How the making of a disclosure ended, by the step at which it did.
use Rattle.std.proofs.Common.{inl, inr, ◌≡◌, ◌∙◌, ℕ, ◌≤◌, Option, IfSome, Result, Ok, Err, List, [], ◌∷◌, ◌++◌, length, refl, sym, ap, subst}
use Rattle.std.specs.Prelude.{IfErr, OnOk}
use Rattle.std.specs.Io.KnownBytes.{Appends}
use Rattle.std.proofs.KnownBytes.{Keeps-refl}
use Rattle.audit_disclosure.specs.declared.choice.Choice.{Choice}
use Rattle.audit_proof.specs.declared.commitment.Commitment.{Commitment}
use Rattle.audit_text.specs.declared.input.TheConstants.{INPUT_LIMIT}
use Rattle.audit_verify.specs.State.{StateData}
use Rattle.audit_cli_base.specs.Faults.{IsNoWordFault, IsUnwritten}
use Rattle.audit_cli_base.specs.StartFile.{IsStart}
use Rattle.audit_cli_base.specs.declared.fault.CommandError.{CommandError}
use Rattle.audit_cli_disclosure.specs.FileCalls.{ExportBytes, FilesModel, a_file_opening, a_look_for_nothing, an_export_opening, a_file_making}
use Rattle.audit_cli_disclosure.specs.MadeDisclosure.{AreKeysOfExport, DisclosedData, DisclosingTask, EndsAfterKeys, EndsAfterStart, EndsDisclosing, IsNoText, IsUndisclosed, IsUnstarted, TakenKeys, calls_to_export, calls_to_start, disclosed_count, text_of_disclosed}
use Rattle.audit_cli_disclosure.specs.Words.{AreDisclosingWords, IsDisclosingWordFault}
use Rattle.audit_cli_disclosure.specs.declared.words.Disclosing.{Disclosing}

module _ {F R : Type 0} (files : FilesModel F) (failed : R → Type 0) (asked : Disclosing) where
  -- a word is wrong
  pub ends_at_words : (was : F) (known : Option (List ℕ)) (fault : CommandError) → IsDisclosingWordFault asked fault → EndsDisclosing files failed asked was was known known (Err fault)
  ends_at_words was known fault why = inl record { why = why; calls = files.nothing_called was; unwritten = Keeps-refl known }

  -- there is no start
  pub ends_at_start : (was now : F) (known : Option (List ℕ)) (fault : CommandError) (commitment : Commitment) (choice : Choice) → AreDisclosingWords asked commitment choice
      → (opened : Result (Option (List ℕ)) CommandError) → IsUnstarted commitment opened fault → files.DidCalls was now (a_file_opening asked.start.now opened ∷ []) → EndsDisclosing files failed asked was now known known (Err fault)
  ends_at_start was now known fault commitment choice words opened why calls =
      inr (inl record { commitment = commitment; choice = choice; words = words; opened = opened; why = why; calls = calls; unwritten = Keeps-refl known })

  -- what the words and the start say
  abbrev pub task_of : (commitment : Commitment) (choice : Choice) (state : StateData) → AreDisclosingWords asked commitment choice
      → (known : Option (List ℕ)) → IfSome known (λ text. IsStart text state) → state.frontier.count ≤ commitment.count → DisclosingTask asked
  task_of commitment choice state words known start within =
      record { commitment = commitment; choice = choice; words = words; start = known; state = state; start_is = start; within = within }

  -- something is at OUT
  pub ends_at_out : (was mid now : F) (known : Option (List ℕ)) (fault : CommandError) (task : DisclosingTask asked) → IsNoWordFault fault → files.DidCalls was mid (a_file_opening asked.start.now (Ok task.start) ∷ [])
      → files.DidCalls mid now (a_look_for_nothing asked.out.now (Err fault) ∷ []) → EndsDisclosing files failed asked was now known known (Err fault)
  ends_at_out was mid now known fault task why opened looked =
      inr (inr (inl record { task = task; why = why; calls = files.more_called was mid now _ _ opened looked; unwritten = Keeps-refl known }))

  -- there is a start, and nothing is at OUT
  pub ends_by_start : (was mid next now : F) (old new : Option (List ℕ)) (task : DisclosingTask asked) (result : Result (Unit {0}) CommandError) → files.DidCalls was mid (a_file_opening asked.start.now (Ok task.start) ∷ [])
      → files.DidCalls mid next (a_look_for_nothing asked.out.now (Ok tt) ∷ []) → EndsAfterStart files failed asked next now old new task.commitment task.choice task.state result → EndsDisclosing files failed asked was now old new result
  ends_by_start was mid next now old new task result opened looked further = further was task (refl, refl, refl) (files.more_called was mid next _ _ opened looked)

  -- the export isn't verified
  pub ends_at_export : (mid now : F) (known : Option (List ℕ)) (fault : CommandError) (commitment : Commitment) (choice : Choice) (state : StateData) (opened : Result ExportBytes CommandError) → IsUndisclosed failed state commitment opened fault
      → files.DidCalls mid now (an_export_opening asked.export.now opened ∷ []) → EndsAfterStart files failed asked mid now known known commitment choice state (Err fault)
  ends_at_export mid now known fault commitment choice state opened why calls = λ was task same before. inr (inr (inr (inl record {
    task = task;
    opened = opened;
    why = subst (λ (s : StateData). IsUndisclosed failed s task.commitment opened fault) (sym same.2) (subst (λ (k : Commitment). IsUndisclosed failed state k opened fault) (sym same.0) why);
    calls = files.more_called was mid now (calls_to_start asked task) _ before calls;
    unwritten = Keeps-refl known;
  })))

  -- the keys were taken
  pub ends_by_keys : (mid next now : F) (old new : Option (List ℕ)) (commitment : Commitment) (choice : Choice) (state : StateData) (export : ExportBytes) (made : DisclosedData) (result : Result (Unit {0}) CommandError) → AreKeysOfExport choice state commitment export made
      → files.DidCalls mid next (an_export_opening asked.export.now (Ok export) ∷ []) → EndsAfterKeys files failed asked next now old new made result → EndsAfterStart files failed asked mid now old new commitment choice state result
  ends_by_keys mid next now old new commitment choice state export made result keys calls further = λ was task same before.
      further was task
      (record {
        export = export;
        made = made;
        keys_are = subst (λ (s : StateData). AreKeysOfExport task.choice s task.commitment export made) (sym same.2)
            (subst (λ (c : Choice). AreKeysOfExport c state task.commitment export made) (sym same.1) (subst (λ (k : Commitment). AreKeysOfExport choice state k export made) (sym same.0) keys));
      })
      refl (files.more_called was mid next (calls_to_start asked task) _ before calls)

  -- there is no text for OUT
  pub ends_at_text : (now : F) (known : Option (List ℕ)) (fault : CommandError) (made : DisclosedData) → IsNoText made fault → EndsAfterKeys files failed asked now now known known made (Err fault)
  ends_at_text now known fault made why = λ was task taken same before. inr (inr (inr (inr (inl record {
    task = task;
    taken = taken;
    why = subst (λ (d : DisclosedData). IsNoText d fault) (sym same) why;
    calls = before;
    unwritten = Keeps-refl known;
  }))))

  -- OUT was to be made
  abbrev makes : (was mid now : F) (made : DisclosedData) (text : List ℕ) (done : Result (Unit {0}) CommandError) (task : DisclosingTask asked) (taken : TakenKeys asked task) → taken.made ≡ made → text ≡ text_of_disclosed made
      → files.DidCalls was mid (calls_to_export asked task (Ok taken.export)) → files.DidCalls mid now (a_file_making asked.out.now text done ∷ []) → files.DidCalls was now (calls_to_export asked task (Ok taken.export) ++ a_file_making asked.out.now (text_of_disclosed taken.made) done ∷ [])
  makes was mid now made text done task taken same is before calls =
      files.more_called was mid now (calls_to_export asked task (Ok taken.export)) _ before
      (subst (λ (t : List ℕ). files.DidCalls mid now (a_file_making asked.out.now t done ∷ [])) (is ∙ ap text_of_disclosed (sym same)) calls)

  pub ends_at_making : (mid now : F) (known : Option (List ℕ)) (fault : CommandError) (made : DisclosedData) (text : List ℕ) → text ≡ text_of_disclosed made → length text ≤ INPUT_LIMIT → IsNoWordFault fault
      → files.DidCalls mid now (a_file_making asked.out.now text (Err fault) ∷ []) → EndsAfterKeys files failed asked mid now known known made (Err fault)
  ends_at_making mid now known fault made text is few why calls = λ was task taken same before. inr (inr (inr (inr (inr (inl record {
    called = record {
      task = task;
      taken = taken;
      few = subst (λ (t : List ℕ). length t ≤ INPUT_LIMIT) (is ∙ ap text_of_disclosed (sym same)) few;
      calls = makes was mid now made text (Err fault) task taken same is before calls;
    };
    why = why;
    unwritten = Keeps-refl known;
  })))))

  -- OUT was made, and the line about it written or not
  pub ends_by_line : (mid now : F) (old new : Option (List ℕ)) (made : DisclosedData) (text : List ℕ) (result : Result (Unit {0}) CommandError) → text ≡ text_of_disclosed made → length text ≤ INPUT_LIMIT
      → files.DidCalls mid now (a_file_making asked.out.now text (Ok tt) ∷ []) → OnOk result (Appends old new (disclosed_count (length made.keys) made.count)) → IfErr result (IsUnwritten old new) → EndsAfterKeys files failed asked mid now old new made result
  ends_by_line mid now old new made text (Ok done) is few calls written unwritten = λ was task taken same before. record {
    called = record {
      task = task;
      taken = taken;
      few = subst (λ (t : List ℕ). length t ≤ INPUT_LIMIT) (is ∙ ap text_of_disclosed (sym same)) few;
      calls = makes was mid now made text (Ok tt) task taken same is before calls;
    };
    line = subst (λ (d : DisclosedData). Appends old new (disclosed_count (length d.keys) d.count)) (sym same) written;
  }
  ends_by_line mid now old new made text (Err fault) is few calls written unwritten = λ was task taken same before. inr (inr (inr (inr (inr (inr record {
    called = record {
      task = task;
      taken = taken;
      few = subst (λ (t : List ℕ). length t ≤ INPUT_LIMIT) (is ∙ ap text_of_disclosed (sym same)) few;
      calls = makes was mid now made text (Ok tt) task taken same is before calls;
    };
    why = unwritten;
  })))))
