-- What a daemon that ended with an error has written, and done to its store.
use Rattle.std.specs.Prelude.{OnErr, OnOk, IfOk, IsErr}
use Rattle.std.specs.Io.KnownBytes.{Appends, Keeps}
use Rattle.std.proofs.Common.{◌≡◌, ◌∙◌, ℕ, Option, Some, None, Result, Ok, Err, List, [], ◌++◌, append-nil, refl, sym, ap, subst}
use Rattle.std.proofs.KnownBytes.{Appends-trans}
use Rattle.std.proofs.lemmas.List.{append_assoc}
use Rattle.audit_disk_model.specs.declared.sectors.Sectors as sectors
use Rattle.audit_store.specs.Store.{active_header}
use Rattle.audit_store.specs.declared.store.Store.{Store}
use Rattle.audit_server_commit.specs.Serving.{StoreKeepsOn}
use Rattle.audit_text.specs.NumberedLine.{numbered_line}
use Rattle.audit_text.specs.Writing.{WritesInPart}
use Rattle.audit_cli_base.specs.declared.fault.CommandError.{CommandError}
use Rattle.audit_cli_base.specs.declared.fault.CommandError.TheVariants.{File}
use Rattle.audit_cli_daemon.specs.Carried.{EndsEarly}
use Rattle.audit_cli_daemon.specs.Sockets.{IsBindFault}
use Rattle.audit_cli_daemon.specs.declared.end.End.{End}
use Rattle.audit_cli_daemon.specs.declared.end.End.TheVariants.{Stopped, Full}
use Rattle.audit_cli_daemon.specs.State.{ready_line, word_of, end_in, closing_line}

abbrev Ending : Type 0
Ending = Result (Unit {0}) CommandError

pub kept_bytes : (known : Option (List ℕ)) → Keeps known known
kept_bytes None = tt
kept_bytes (Some bytes) = refl

-- nothing is written yet
pub nothing_yet : (known : Option (List ℕ)) (text : List ℕ) → WritesInPart known known text
nothing_yet known text = record { written = []; rest = text; split = refl; appended = by known }
  where
    by : (known : Option (List ℕ)) → Appends known known []
    by None = tt
    by (Some bytes) = sym (append-nil bytes)

-- all of the text is
pub all_written : (old new : Option (List ℕ)) (text : List ℕ) → Appends old new text → WritesInPart old new text
all_written old new text appended = record { written = text; rest = []; split = sym (append-nil text); appended = appended }

-- a prefix of a text is one of a longer text
of_longer : (old new : Option (List ℕ)) (text more : List ℕ) → WritesInPart old new text → WritesInPart old new (text ++ more)
of_longer old new text more part = record {
  written = part.written;
  rest = part.rest ++ more;
  split = ap (λ (front : List ℕ). front ++ more) part.split ∙ append_assoc part.written part.rest more;
  appended = part.appended;
}

-- and after a whole text
after_whole : (old mid new : Option (List ℕ)) (text more : List ℕ) → Appends old mid text → WritesInPart mid new more → WritesInPart old new (text ++ more)
after_whole old mid new text more first part = record {
  written = text ++ part.written;
  rest = part.rest;
  split = ap (λ (later : List ℕ). text ++ later) part.split ∙ sym (append_assoc text part.written part.rest);
  appended = Appends-trans old mid new text part.written first part.appended;
}

kept_after : (old now new : Option (List ℕ)) (text : List ℕ) → Appends old now text → Keeps now new → Appends old new text
kept_after None now new text appended kept = tt
kept_after (Some bytes) None new text appended kept = absurd appended
kept_after (Some bytes) (Some held) None text appended kept = absurd kept
kept_after (Some bytes) (Some held) (Some last) text appended kept = kept ∙ appended

part_kept : (old mid new : Option (List ℕ)) (text : List ℕ) → WritesInPart old mid text → Keeps mid new → WritesInPart old new text
part_kept old mid new text part kept = record { written = part.written; rest = part.rest; split = part.split; appended = kept_after old mid new part.written part.appended kept }

pub on_error : {T : Type 0} (P : Type 0) (done : Result T CommandError) → P → OnErr done P
on_error P (Ok done) holds = tt
on_error P (Err fault) holds = holds

pub whole_of : {T : Type 0} (old new : Option (List ℕ)) (text : List ℕ) (done : Result T CommandError) → OnOk done (Appends old new text) → OnOk done (WritesInPart old new text)
whole_of old new text (Ok done) appended = all_written old new text appended
whole_of old new text (Err fault) appended = tt

-- of a result and another one after it, whichever is the error
pub part_of_both : (P : Type 0) (first result : Result End CommandError) → OnErr first P → OnOk first P → OnErr result P
part_of_both P (Err fault) result failed done = on_error P result failed
part_of_both P (Ok end) result failed done = on_error P result done

pub ends_early : {D : Type 0} {g : sectors.Ghosts D} (LetGo : Store D g → Type 0) (Asked : Type 0) (opened left : Store D g) (before mid after : Option (List ℕ)) (served : Result End CommandError) (result : Ending) (count : ℕ) (root : List ℕ) → StoreKeepsOn opened left
    → OnErr served (WritesInPart before mid (ready_line (active_header opened))) → OnOk served (Appends before mid (ready_line (active_header opened))) → IfOk served (λ end. end ≡ Full → Asked)
    → OnErr served (Keeps mid after) → OnErr result (WritesInPart mid after (numbered_line (word_of (end_in served)) count root)) → count ≡ (active_header left).count → root ≡ (active_header left).root
    → LetGo left → OnErr result (EndsEarly LetGo Asked opened before after)
ends_early LetGo Asked opened left before mid after served (Ok done) count root keeps part whole asked kept stopped count_is root_is gone = tt
ends_early LetGo Asked opened left before mid after (Err cause) (Err fault) count root keeps part whole asked kept stopped count_is root_is gone = record {
  left = left;
  let_go = gone;
  kept = keeps;
  end = Stopped;
  asked = λ is. absurd (cc is);
  part = of_longer before after (ready_line (active_header opened)) (closing_line Stopped (active_header left)) (part_kept before mid after (ready_line (active_header opened)) part kept);
}
ends_early LetGo Asked opened left before mid after (Ok end) (Err fault) count root keeps part whole asked kept stopped count_is root_is gone = record {
  left = left;
  let_go = gone;
  kept = keeps;
  end = end;
  asked = asked;
  part = after_whole before mid after (ready_line (active_header opened)) (closing_line end (active_header left)) whole
      (subst (WritesInPart mid after) (ap (λ n. numbered_line (word_of end) n root) count_is ∙ ap (numbered_line (word_of end) (active_header left).count) root_is) stopped);
}

-- a file fault of making sockets is the fault of a call
pub bound_by : (Failed : Type 0) (fault : CommandError) → IsBindFault Failed fault → fault ≡ File → Failed
bound_by Failed fault of_bind file = subst (IsBindFault Failed) file of_bind

-- and so is one of removing them
pub removed_by : {A E : Type 0} {Failed : Type 0} (removed : Result A E) → OnErr removed Failed → IsErr removed → Failed
removed_by (Ok done) failed is = absurd (cc is)
removed_by (Err error) failed is = failed
