-- An export that is read again without a key of its log while its lines are written.
use Rattle.std.proofs.Common.{inl, inr, ◌≡◌, ℕ, ◌+◌, ◌≤◌, Option, Some, None, IfSome, List, [], ◌∷◌, ◌++◌, length, refl, sym, ap, ◌∙◌, subst, arith, append_assoc, append-nil}
use Rattle.std.specs.Io.KnownBytes.{Appends, Keeps}
use Rattle.std.proofs.KnownBytes.{Appends-nil, Appends-trans}
use Rattle.audit_chain.specs.EntryForm.{EntryParts, AreParts}
use Rattle.audit_link.specs.OpenedEntry.{IsEntryOf}
use Rattle.audit_text.specs.Writing.{WritesInPart}
use Rattle.audit_text.specs.declared.fault.LinesError.{LinesError}
use Rattle.audit_text.specs.declared.fault.LinesError.TheVariants as lines
use Rattle.audit_proof.specs.declared.commitment.Commitment.{Commitment}
use Rattle.audit_verify.specs.declared.accepted.Accepted.{Accepted}
use Rattle.audit_verify.specs.declared.fault.Cause.TheVariants.{WrongCommitment}
use Rattle.audit_verify.specs.declared.fault.VerifyFault.{VerifyFault}
use Rattle.audit_disclosure.specs.declared.disclosure.DisclosedKey.{DisclosedKey}
use Rattle.audit_disclosure.specs.declared.disclosure.Start.{Start}
use Rattle.audit_disclosure.specs.DisclosureText.{AreKeysFrom}
use Rattle.audit_disclosure.specs.LinkedEntries.{AreLinkedFrom, IsUnmatched, bytes_of_entries}
use Rattle.audit_disclosure.specs.LinkReading.{LinkState, HasReadLinked, HasTakenLinked, HasEndedLinked, StopsLinked, end_of_entries, end_of_reading}
use Rattle.audit_disclosure.specs.Matching.{MatchesExport}
use Rattle.audit_disclosure.specs.ShownEntries.{key_at, shown_event}
use Rattle.audit_disclosure.proofs.MatchedSteps.{end_is}
use Rattle.audit_disclosure.proofs.SameSealedEntries.{same_sealed}
use Rattle.audit_cli_offline.specs.declared.fault.OfflineError.{OfflineError}
use Rattle.audit_cli_offline.specs.declared.fault.OfflineError.TheVariants.{Export, Lines}
use Rattle.audit_cli_offline.specs.declared.report_form.ReportForm.{ReportForm}
use Rattle.audit_cli_offline.specs.TwoPasses.{IsLineUnwritten}
use Rattle.audit_cli_offline.specs.VerifiedExport.{IsUnwrittenReport}
use Rattle.audit_cli_disclosure.specs.ShownReport.{shown_text, shown_entry_lines, shown_report, last_matched}
use Rattle.audit_cli_disclosure.specs.ShownExport.{BeginsWithEntries, WritesShown, StopsShown, FailsShownAgain, ShowsTwice, FailsToShow, IsAgainFault, IsShowingFault}

last_are_parts : (link : List ℕ) (entries : List EntryParts) (parts : EntryParts) → AreLinkedFrom link (entries ++ parts ∷ []) → AreParts parts
last_are_parts link [] parts linked = linked.0
last_are_parts link (one ∷ entries) parts linked = last_are_parts one.link entries parts linked.2

-- the bytes that are held are the entry that was read last
pub held_entry : {start : Start} {before after : Option (List ℕ)} {state : LinkState} {entries : List EntryParts} → (taken : HasTakenLinked start before after state entries) → IsEntryOf state.held taken.parts
held_entry {start = start} {entries = entries} taken = (last_are_parts start.link entries taken.parts taken.read.follow.linked, taken.held)

-- the entries read so far are linked, their lines were written, and the keys that are left are those of later entries
pub record HasShown (form : ReportForm) (start : Start) (keys : List DisclosedKey) (before after : Option (List ℕ)) (state : LinkState) (left : List DisclosedKey) (old new : Option (List ℕ)) : Type 0 where
  pub entries : List EntryParts
  pub read : HasReadLinked start before after state entries
  pub order : (least : ℕ) × AreKeysFrom least left
  pub later : (index : ℕ) → start.tree.count + length entries ≤ index → key_at left index ≡ key_at keys index
  pub written : Appends old new (shown_entry_lines form keys start.tree.count entries)

pub shown_none : {form : ReportForm} {start : Start} {keys left : List DisclosedKey} {known : Option (List ℕ)} {state : LinkState} (old : Option (List ℕ)) → HasReadLinked start known known state [] → (least : ℕ) × AreKeysFrom least keys → left ≡ keys → HasShown form start keys known known state left old old
unfolding shown_entry_lines
shown_none old has order same = record {
  entries = [];
  read = has;
  order = (order.0, subst (λ ks. AreKeysFrom order.0 ks) (sym same) order.1);
  later = λ index from. ap (λ ks. key_at ks index) same;
  written = Appends-nil old;
}

-- the lines of one more entry
lines_of_more : (form : ReportForm) (keys : List DisclosedKey) (index : ℕ) (entries : List EntryParts) (parts : EntryParts)
    → shown_entry_lines form keys index (entries ++ parts ∷ []) ≡ shown_entry_lines form keys index entries ++ shown_text form (index + length entries) parts (shown_event (key_at keys (index + length entries)) parts)
unfolding shown_entry_lines
lines_of_more form keys index [] parts =
    append-nil (shown_text form index parts (shown_event (key_at keys index) parts))
    ∙ ap (λ n. shown_text form n parts (shown_event (key_at keys n) parts)) (let same : index ≡ index + 0 = omega arith in same)
lines_of_more form keys index (one ∷ entries) parts =
    let line = shown_text form index one (shown_event (key_at keys index) one) in
    let place : index + 1 + length entries ≡ index + length (one ∷ entries) = omega arith in
    ap (λ rest. line ++ rest) (lines_of_more form keys (index + 1) entries parts ∙ ap (λ n. shown_entry_lines form keys (index + 1) entries ++ shown_text form n parts (shown_event (key_at keys n) parts)) place)
    ∙ sym (append_assoc line (shown_entry_lines form keys (index + 1) entries) (shown_text form (index + length (one ∷ entries)) parts (shown_event (key_at keys (index + length (one ∷ entries))) parts)))

lines_to : (form : ReportForm) (start : Start) (keys : List DisclosedKey) (entries : List EntryParts) (parts : EntryParts) (index : ℕ) (line : List ℕ) → index ≡ start.tree.count + length entries → line ≡ shown_text form index parts (shown_event (key_at keys index) parts)
    → shown_entry_lines form keys start.tree.count entries ++ line ≡ shown_entry_lines form keys start.tree.count (entries ++ parts ∷ [])
lines_to form start keys entries parts index line place is =
    ap (λ l. shown_entry_lines form keys start.tree.count entries ++ l) (is ∙ ap (λ n. shown_text form n parts (shown_event (key_at keys n) parts)) place)
    ∙ sym (lines_of_more form keys start.tree.count entries parts)

-- the line of an entry, under the key that was found for it
line_is : (form : ReportForm) (keys left : List DisclosedKey) (index : ℕ) (parts : EntryParts) (key : Option (List ℕ)) → key ≡ key_at left index → key_at left index ≡ key_at keys index
    → shown_text form index parts (shown_event key parts) ≡ shown_text form index parts (shown_event (key_at keys index) parts)
line_is form keys left index parts key found same = ap (λ (k : Option (List ℕ)). shown_text form index parts (shown_event k parts)) (found ∙ same)

pub shown_one : {form : ReportForm} {start : Start} {keys left later : List DisclosedKey} {before mid after : Option (List ℕ)} {state next : LinkState} {old now new : Option (List ℕ)} (index : ℕ) (key : Option (List ℕ)) (had : HasShown form start keys before mid state left old now)
    → (taken : HasTakenLinked start before after next had.entries) → index ≡ start.tree.count + length had.entries → key ≡ key_at left index → ((other : ℕ) → index + 1 ≤ other → key_at later other ≡ key_at left other) → (least : ℕ) × AreKeysFrom least later
    → Appends now new (shown_text form index taken.parts (shown_event key taken.parts)) → HasShown form start keys before after next later old new
shown_one {form = form} {start = start} {keys = keys} {left = left} {old = old} {now = now} {new = new} index key had taken place found further order more =
    let all = had.entries ++ taken.parts ∷ [] in
    let line = shown_text form index taken.parts (shown_event key taken.parts) in
    let grown : length all ≡ length had.entries + 1 = length_more had.entries taken.parts in
    record {
      entries = all;
      read = taken.read;
      order = order;
      later = λ other from. further other (omega (arith, from, grown, place)) ∙ had.later other (omega (arith, from, grown));
      written = subst (Appends old new) (lines_to form start keys had.entries taken.parts index line place (line_is form keys left index taken.parts key found (had.later index (omega (arith, place)))))
          (Appends-trans old now new (shown_entry_lines form keys start.tree.count had.entries) line had.written more);
    }
  where
    length_more : (entries : List EntryParts) (parts : EntryParts) → length (entries ++ parts ∷ []) ≡ length entries + 1
    length_more [] parts = refl
    length_more (one ∷ entries) parts = let e = length_more entries parts in omega (arith, e)

-- the bytes begin with the entries that were read
begins_of : {start : Start} {bytes : List ℕ} {after : Option (List ℕ)} {state : LinkState} {entries : List EntryParts} → HasReadLinked start (Some bytes) after state entries → (rest : List ℕ) × BeginsWithEntries start bytes entries rest
begins_of {after = None} has = absurd has.taken
begins_of {after = Some more} has = (more, record { follow = has.follow; split = has.taken })

report_is : (form : ReportForm) (start : Start) (keys : List DisclosedKey) (entries : List EntryParts) → shown_entry_lines form keys start.tree.count entries ++ last_matched form (end_of_entries start entries) ≡ shown_report form start keys entries
unfolding shown_report
report_is form start keys entries = refl

begins_whole : {start : Start} {bytes : List ℕ} {after : Option (List ℕ)} {state : LinkState} {entries : List EntryParts} → HasEndedLinked start (Some bytes) after state entries → BeginsWithEntries start bytes entries []
begins_whole {entries = entries} ended = record { follow = ended.read.follow; split = ended.whole ∙ sym (append-nil (bytes_of_entries entries)) }

pub shown_all : (form : ReportForm) (start : Start) (keys left : List DisclosedKey) (old now new : Option (List ℕ)) {before mid after : Option (List ℕ)} {state next : LinkState} (accepted : Accepted) (had : HasShown form start keys before mid state left old now)
    → HasEndedLinked start before after next had.entries → end_of_reading next ≡ accepted → Appends now new (last_matched form accepted) → IfSome before (λ again. WritesShown form start keys accepted again old new)
shown_all form start keys left old now new {before = None} accepted had ended same more = tt
shown_all form start keys left old now new {before = Some again} accepted had ended same more =
    let is : accepted ≡ end_of_entries start had.entries = sym same ∙ end_is ended.read in
    record {
      entries = had.entries;
      begins = begins_whole ended;
      same_end = is;
      written = subst (Appends old new) (ap (λ (a : Accepted). shown_entry_lines form keys start.tree.count had.entries ++ last_matched form a) is ∙ report_is form start keys had.entries)
          (Appends-trans old now new (shown_entry_lines form keys start.tree.count had.entries) (last_matched form accepted) had.written more);
    }

abbrev pub wrong_end : ℕ → VerifyFault
wrong_end count = record { index = count; cause = WrongCommitment }

-- an end that differs from the accepted one
pub other_end : (form : ReportForm) (start : Start) (keys left : List DisclosedKey) (old now : Option (List ℕ)) {before mid after : Option (List ℕ)} {state next : LinkState} (accepted : Accepted) (had : HasShown form start keys before mid state left old now)
    → HasEndedLinked start before after next had.entries → (end_of_reading next ≡ accepted → ⊥) → IfSome before (λ again. StopsShown form start keys accepted again old now (wrong_end next.count))
other_end form start keys left old now {before = None} accepted had ended other = tt
other_end form start keys left old now {before = Some again} accepted had ended other = record {
  entries = had.entries;
  rest = [];
  begins = begins_whole ended;
  index = ended.read.count;
  wrong = inr record { whole = refl; cause_is = refl; other = λ end. other (end_is ended.read ∙ sym end) };
  written = had.written;
}

-- a fault of the bytes
pub stopped_again : {failed : Type 0} (form : ReportForm) (start : Start) (keys left : List DisclosedKey) (old now : Option (List ℕ)) {before mid : Option (List ℕ)} {state : LinkState} (accepted : Accepted) (fault : VerifyFault) (had : HasShown form start keys before mid state left old now)
    → StopsLinked start before failed had.entries fault → IfSome before (λ again. StopsShown form start keys accepted again old now fault)
stopped_again form start keys left old now {before = None} accepted fault had stops = tt
stopped_again form start keys left old now {before = Some again} accepted fault had stops = record {
  entries = had.entries;
  rest = stops.wrong.rest;
  begins = record { follow = had.read.follow; split = stops.wrong.split };
  index = stops.index;
  wrong = inl stops.wrong.wrong;
  written = had.written;
}

-- ---- lines that weren't written

part_of : {old now next : Option (List ℕ)} (front line rest : List ℕ) → Appends old now front → (part : WritesInPart now next line) → WritesInPart old next ((front ++ line) ++ rest)
part_of {old = old} {now = now} {next = next} front line rest first part = record {
  written = front ++ part.written;
  rest = part.rest ++ rest;
  split = ap (λ l. (front ++ l) ++ rest) part.split ∙ ap (λ l. l ++ rest) (sym (append_assoc front part.written part.rest)) ∙ append_assoc (front ++ part.written) part.rest rest;
  appended = Appends-trans old now next front part.written first part.appended;
}

kept_lines : (old now next : Option (List ℕ)) (text : List ℕ) → Appends old now text → Keeps now next → Appends old next text
kept_lines None now next text first kept = tt
kept_lines (Some bytes) None next text first kept = absurd first
kept_lines (Some bytes) (Some held) None text first kept = absurd kept
kept_lines (Some bytes) (Some held) (Some last) text first kept = kept ∙ first

pub entry_unwritten : (form : ReportForm) (start : Start) (keys left : List DisclosedKey) (old now new : Option (List ℕ)) {before mid after : Option (List ℕ)} {state next : LinkState} (accepted : Accepted) (index : ℕ) (key : Option (List ℕ)) (fault : LinesError) (had : HasShown form start keys before mid state left old now)
    → (taken : HasTakenLinked start before after next had.entries) → index ≡ start.tree.count + length had.entries → key ≡ key_at left index
    → IsLineUnwritten fault now new (shown_text form index taken.parts (shown_event key taken.parts)) → IfSome before (λ again. FailsShownAgain form start keys (Lines fault) accepted again old new)
entry_unwritten form start keys left old now new {before = None} accepted index key fault had taken place found unwritten = tt
entry_unwritten form start keys left old now new {before = Some again} accepted index key lines.Write had taken place found unwritten =
    let all = had.entries ++ taken.parts ∷ [] in
    let line = shown_text form index taken.parts (shown_event key taken.parts) in
    let began = begins_of taken.read in
    record {
      entries = all;
      rest = began.0;
      begins = began.1;
      part = subst (WritesInPart old new)
          (ap (λ l. l ++ last_matched form (end_of_entries start all)) (lines_to form start keys had.entries taken.parts index line place (line_is form keys left index taken.parts key found (had.later index (omega (arith, place))))) ∙ report_is form start keys all)
          (part_of (shown_entry_lines form keys start.tree.count had.entries) line (last_matched form (end_of_entries start all)) had.written unwritten);
    }
entry_unwritten form start keys left old now new {before = Some again} accepted index key lines.Memory had taken place found unwritten =
    let began = begins_of had.read in
    record { entries = had.entries; rest = began.0; begins = began.1; written = kept_lines old now new (shown_entry_lines form keys start.tree.count had.entries) had.written unwritten }
entry_unwritten form start keys left old now new {before = Some again} accepted index key lines.Read had taken place found unwritten = absurd unwritten
entry_unwritten form start keys left old now new {before = Some again} accepted index key lines.InputTooLong had taken place found unwritten = absurd unwritten
entry_unwritten form start keys left old now new {before = Some again} accepted index key (lines.Line number cause) had taken place found unwritten = absurd unwritten

pub last_unwritten : (form : ReportForm) (start : Start) (keys left : List DisclosedKey) (old now new : Option (List ℕ)) {before mid after : Option (List ℕ)} {state next : LinkState} (accepted : Accepted) (fault : LinesError) (had : HasShown form start keys before mid state left old now)
    → HasEndedLinked start before after next had.entries → end_of_reading next ≡ accepted → IsLineUnwritten fault now new (last_matched form accepted) → IfSome before (λ again. FailsShownAgain form start keys (Lines fault) accepted again old new)
last_unwritten form start keys left old now new {before = None} accepted fault had ended same unwritten = tt
last_unwritten form start keys left old now new {before = Some again} accepted lines.Write had ended same unwritten =
    let is : accepted ≡ end_of_entries start had.entries = sym same ∙ end_is ended.read in
    let last = last_matched form (end_of_entries start had.entries) in
    record {
      entries = had.entries;
      rest = [];
      begins = begins_whole ended;
      part = subst (WritesInPart old new) (append-nil (shown_entry_lines form keys start.tree.count had.entries ++ last) ∙ report_is form start keys had.entries)
          (part_of (shown_entry_lines form keys start.tree.count had.entries) last [] had.written (subst (λ (a : Accepted). WritesInPart now new (last_matched form a)) is unwritten));
    }
last_unwritten form start keys left old now new {before = Some again} accepted lines.Memory had ended same unwritten =
    record { entries = had.entries; rest = []; begins = begins_whole ended; written = kept_lines old now new (shown_entry_lines form keys start.tree.count had.entries) had.written unwritten }
last_unwritten form start keys left old now new {before = Some again} accepted lines.Read had ended same unwritten = absurd unwritten
last_unwritten form start keys left old now new {before = Some again} accepted lines.InputTooLong had ended same unwritten = absurd unwritten
last_unwritten form start keys left old now new {before = Some again} accepted (lines.Line number cause) had ended same unwritten = absurd unwritten

-- ---- both passes

pub both_shown : (form : ReportForm) (start : Start) (keys : List DisclosedKey) (commitment : Commitment) (end : Accepted) (old new : Option (List ℕ)) (first second : Option (List ℕ)) → IfSome first (λ bytes. MatchesExport start commitment bytes end)
    → IfSome second (λ again. WritesShown form start keys end again old new) → IfSome first (λ bytes. IfSome second (λ again. ShowsTwice form start keys commitment bytes again end old new))
both_shown form start keys commitment end old new None second matches writes = tt
both_shown form start keys commitment end old new (Some bytes) None matches writes = tt
both_shown form start keys commitment end old new (Some bytes) (Some again) matches writes =
    let same : end_of_entries start writes.entries ≡ end_of_entries start matches.entries = sym writes.same_end ∙ matches.end_is in
    record {
      entries = matches.entries;
      others = writes.entries;
      matched = matches.matched;
      end_is = matches.end_is;
      begins = writes.begins;
      same_end = same;
      same = same_sealed start.link matches.entries writes.entries matches.matched.follow.linked writes.begins.follow.linked
          (let counted = ap (λ (a : Accepted). a.count) same in omega (arith, counted)) (sym (ap (λ (a : Accepted). a.last_link) same));
      written = writes.written;
    }

pub first_failed : (form : ReportForm) (start : Start) (keys : List DisclosedKey) (commitment : Commitment) (fault : VerifyFault) (old : Option (List ℕ)) (first second : Option (List ℕ)) → Keeps old old → IfSome first (λ bytes. IsUnmatched start commitment bytes fault)
    → IfSome first (λ bytes. IfSome second (λ again. FailsToShow form start keys commitment bytes again old old (Export fault)))
first_failed form start keys commitment fault old None second kept wrong = tt
first_failed form start keys commitment fault old (Some bytes) None kept wrong = tt
first_failed form start keys commitment fault old (Some bytes) (Some again) kept wrong = inl (wrong, kept)

pub second_failed : (form : ReportForm) (start : Start) (keys : List DisclosedKey) (commitment : Commitment) (end : Accepted) (old new : Option (List ℕ)) (first second : Option (List ℕ)) (error : OfflineError) → IfSome first (λ bytes. MatchesExport start commitment bytes end)
    → IfSome second (λ again. FailsShownAgain form start keys error end again old new) → IfSome first (λ bytes. IfSome second (λ again. FailsToShow form start keys commitment bytes again old new error))
second_failed form start keys commitment end old new None second error matches fails = tt
second_failed form start keys commitment end old new (Some bytes) None error matches fails = tt
second_failed form start keys commitment end old new (Some bytes) (Some again) (Export fault) matches fails =
    inr record { entries = matches.entries; matched = matches.matched; fails = subst (λ (a : Accepted). FailsShownAgain form start keys (Export fault) a again old new) matches.end_is fails }
second_failed form start keys commitment end old new (Some bytes) (Some again) (Lines fault) matches fails =
    record { entries = matches.entries; matched = matches.matched; fails = subst (λ (a : Accepted). FailsShownAgain form start keys (Lines fault) a again old new) matches.end_is fails }

-- a fault of the second pass is one of both
pub of_second : (failed later : Type 0) (first second : Option (List ℕ)) (error : OfflineError) → IsAgainFault error later second → IsShowingFault error failed later first second
of_second failed later first second (Export fault) again = λ is. inr (again is)
of_second failed later first second (Lines fault) again = again

-- a line isn't written only if a write fails or memory is refused
pub unwritten_report : (old new : Option (List ℕ)) (line : List ℕ) (fault : LinesError) → IsLineUnwritten fault old new line → IsUnwrittenReport fault
unwritten_report old new line lines.Write unwritten = inl refl
unwritten_report old new line lines.Memory unwritten = inr refl
unwritten_report old new line lines.Read unwritten = absurd unwritten
unwritten_report old new line lines.InputTooLong unwritten = absurd unwritten
unwritten_report old new line (lines.Line number cause) unwritten = absurd unwritten
