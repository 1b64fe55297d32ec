-- Two stores of which the second was prepared.
use Rattle.std.specs.Prelude.{OnOk, OnErr, IfOk, IfErr, IfSome, IsTrue, ◌↔◌, ◌≢◌, ◌<◌, slice_get}
use denote.Ref.{Bor}
use Rattle.std.proofs.Common.{◌≡◌, ◌⊎◌, ◌∙◌, ◌-◌, ℕ, Bool, true, false, Option, None, Some, Result, Ok, Err, List, [], ◌∷◌, take, drop, length, append-nil, inl, inr, refl, sym, ap, subst}
use Rattle.std.proofs.KnownBytes.{Keeps-refl}
use Rattle.audit_disk_model.specs.declared.sectors.Sectors as sectors
use Rattle.audit_disk.specs.FileFacts.{FileFacts}
use Rattle.audit_disk.specs.declared.file_identity.FileIdentity.{FileIdentity}
use Rattle.audit_log.specs.declared.header.Header.{Header}
use Rattle.audit_proof.specs.declared.commitment.Commitment.{Commitment}
use Rattle.audit_store_commit.specs.IndexData.{IndexData}
use Rattle.audit_link.specs.Accepted.{AcceptsLink, AreCountsOf, IsLinkJudgment, SaysEvent}
use Rattle.audit_link.specs.Counts.{AreCounts, IsUncounted, added_all}
use Rattle.audit_link.specs.declared.counts_error.CountsError.{CountsError}
use Rattle.audit_link.specs.CountsText.{counts_text}
use Rattle.audit_link.specs.LinkBytes.{SpellsLink, link_bytes}
use Rattle.audit_link.specs.OpenedEntry.{IsEntryOf, read_under}
use Rattle.audit_link.specs.declared.checking.LinkJudgment.{LinkJudgment}
use Rattle.audit_link.specs.declared.checking.LinkJudgment.TheVariants.{OldHalf, NewHalf}
use Rattle.audit_chain.specs.EntryForm.{EntryParts, BeginsWithEntry, bytes_of_parts}
use Rattle.audit_chain.specs.EventData.{EventData}
use Rattle.audit_chain.proofs.Fronts.{one_entry}
use Rattle.audit_link.specs.Links.{Keyed, LinkData, counts_event, link_in}
use Rattle.audit_link.specs.declared.kind_count.KindCount.{KindCount}
use Rattle.audit_store.specs.Queries.{OnlyRead}
use Rattle.audit_store.specs.Store.{active_header, index_of}
use Rattle.audit_store.specs.declared.store.Store.{Store}
use Rattle.audit_store.specs.declared.store_error.StoreError.{StoreError}
use Rattle.audit_store.specs.declared.store_error.StoreError.TheVariants.{Memory, NoSuchVersion}
use Rattle.audit_join.proofs.Looking.{looked_none}
use Rattle.audit_join.specs.Counting.{StopsCounting, of_counts}
use Rattle.audit_join.specs.declared.join_error.JoinError.{JoinError}
use Rattle.audit_join.specs.declared.join_error.JoinError.TheVariants as joining
use Rattle.audit_join.specs.FirstKey.{IsJudgedFirst}
use Rattle.audit_join.specs.Joined.{IsJunction, open_count}
use Rattle.audit_join.specs.JoinOutcome.{StopsJoining}
use Rattle.audit_join.specs.declared.junction.Junction.{Junction}
use Rattle.audit_text.specs.Writing.{WritesInPart}
use Rattle.audit_cli_base.specs.declared.fault.CommandError.{CommandError}
use Rattle.audit_cli_base.specs.declared.fault.CommandError.TheVariants.{BadProof, File, Lines, Refused}
use Rattle.audit_text.specs.declared.input.TheConstants.{INPUT_LIMIT}
use Rattle.audit_cli_calls.specs.StoreCalls.{StoreCall, StoresModel, an_opening, a_letting_go}
use Rattle.audit_cli_rotate.specs.LinkFile.{HasBytesAt, HasLinkAt, IsJudgingFault, IsLinkNotIn, IsLinkUnread, IsNotKept}
use Rattle.audit_cli_rotate.specs.PreparedFaults.{of_unread}
use Rattle.audit_cli_rotate.specs.PreparedStores.{counted_from, AreCounted, IsNoJunction, IsNotCounted, IsLeftUnjoined, IsLinkKept, IsFoundJoined, JoinsCounted, JoinsStores, JoinsPrepared, IsLinkOf, joined_lines}
use Rattle.audit_cli_rotate.specs.PreparedCarried.{JoinsNext, OpensNext, OpensBoth, IsNoOpening, IsPreparedDone}
use Rattle.audit_cli_rotate.specs.declared.prepared.Prepared.{Prepared}
use Rattle.audit_cli_rotate.specs.declared.prepared_error.PreparedError.{PreparedError}
use Rattle.audit_cli_rotate.specs.declared.prepared_error.PreparedError.TheVariants.{Command, NotEmpty, OtherLink, OwnKey}

abbrev Ending : Type 0
Ending = Result (Unit {0}) PreparedError

counted_by : ℕ → Header → IndexData → List KindCount → List KindCount
counted_by first header index counts = added_all (take (open_count header - first) (drop first index.kinds)) counts

-- what was read is what was to be there
pub found_whole : (result : Ending) (known : Option (List ℕ)) (input read bytes : List ℕ) → IfSome known (λ found. found ≡ input) → read ≡ input → OnOk result (read ≡ bytes) → OnOk result (IfSome known (λ found. found ≡ bytes))
found_whole (Err fault) known input read bytes is value same = tt
found_whole (Ok done) None input read bytes is value same = tt
found_whole (Ok done) (Some found) input read bytes is value same = is ∙ sym value ∙ same

-- what was read isn't what was to be there
pub found_other : (result : Ending) (known : Option (List ℕ)) (input read bytes : List ℕ) → IfSome known (λ found. found ≡ input) → read ≡ input → OnErr result (read ≢ bytes) → result ≡ Err OtherLink → IfSome known (λ found. (INPUT_LIMIT < length found) ⊎ (found ≢ bytes))
found_other (Ok done) known input read bytes is value other fault = absurd (cc fault)
found_other (Err error) None input read bytes is value other fault = tt
found_other (Err error) (Some found) input read bytes is value other fault = inr (λ same. other (value ∙ sym is ∙ same))

-- or is too much
pub too_much : (known : Option (List ℕ)) (Other : List ℕ → Type 0) → IfSome known (λ bytes. INPUT_LIMIT < length bytes) → IfSome known (λ bytes. (INPUT_LIMIT < length bytes) ⊎ Other bytes)
too_much None Other long = tt
too_much (Some bytes) Other long = inl long

-- no link was read from what is known
pub link_not_in : (cause : CommandError) (known : Option (List ℕ)) (input read : List ℕ) → IfSome known (λ found. found ≡ input) → read ≡ input
    → ((cause ≡ BadProof) × ((link : LinkData) → SpellsLink read link → ⊥)) ⊎ (cause ≡ Refused Memory) → IsLinkNotIn known cause
link_not_in cause known input read is value (inr memory) = subst (IsLinkNotIn known) (sym memory) refl
link_not_in cause known input read is value (inl (bad, lacks)) = subst (IsLinkNotIn known) (sym bad) (by known is)
  where
    by : (known : Option (List ℕ)) → IfSome known (λ found. found ≡ input) → IsLinkNotIn known BadProof
    by None is = tt
    by (Some found) is = inr (λ link spells. lacks link (subst (λ (bytes : List ℕ). SpellsLink bytes link) (is ∙ sym value) spells))

pub link_not_in_if : {T : Type 0} (result : Result T CommandError) (known : Option (List ℕ)) (input read : List ℕ) → IfSome known (λ found. found ≡ input) → read ≡ input
    → IfErr result (λ fault. ((fault ≡ BadProof) × ((link : LinkData) → SpellsLink read link → ⊥)) ⊎ (fault ≡ Refused Memory)) → IfErr result (IsLinkNotIn known)
link_not_in_if (Ok link) known input read is value why = tt
link_not_in_if (Err cause) known input read is value why = link_not_in cause known input read is value why

-- numbers with one text are said alike
pub says_alike : (keyed : Keyed) (said counts : List KindCount) → AreCountsOf keyed (Some said) → counts_text said ≡ counts_text counts → AreCounts counts → AreCountsOf keyed (Some counts)
says_alike keyed said counts says same are = (are, subst (λ (text : List ℕ). SaysEvent keyed (record { kind = 0; payload = text })) same says.1)

-- an entry says one event
event_alone : (keyed : Keyed) (one other : EventData) → SaysEvent keyed one → SaysEvent keyed other → one ≡ other
event_alone keyed one other first second =
    first.2 ∙ ap (read_under keyed.key) (one_entry keyed.entry first.0 second.0 (begins keyed.entry first.0 first.1) (begins keyed.entry second.0 second.1)) ∙ sym second.2
  where
    begins : (bytes : List ℕ) (parts : EntryParts) → IsEntryOf bytes parts → BeginsWithEntry bytes parts
    begins bytes parts is = record { parts_fit = is.0; rest = []; split = is.1 ∙ sym (append-nil (bytes_of_parts parts)) }

pub says_same : (keyed : Keyed) (said counts : List KindCount) → AreCountsOf keyed (Some said) → AreCountsOf keyed (Some counts) → counts_text said ≡ counts_text counts
says_same keyed said counts one other = ap (λ (event : EventData). event.payload) (event_alone keyed (counts_event said) (counts_event counts) one.1 other.1)

-- a link that is accepted under the commitments of two stores
pub link_of_both : (counts : List KindCount) (old next : Header) (last new : Commitment) (link : LinkData) → old.closed ≡ true → last.count ≡ old.count → last.root ≡ old.root → new.count ≡ next.count → new.root ≡ next.root → AcceptsLink last new link → AreCountsOf link.second (Some counts) → IsLinkOf counts old next link
link_of_both counts old next last new link closed last_count last_root new_count new_root accepts says =
    record { closed = closed; last = last; last_is = (sym last_count, sym last_root); new = new; new_is = (sym new_count, sym new_root); accepts = accepts; says = says }

made : ℕ → List ℕ → Commitment
made count root = record { count = count; root = root }

-- a commitment is its count and its root
same_commitment : (one other : Commitment) → one.count ≡ other.count → one.root ≡ other.root → one ≡ other
unfolding made
same_commitment one other count root = ap (λ (n : ℕ). made n one.root) count ∙ ap (made other.count) root

-- a link that isn't accepted under the commitments of two stores isn't theirs
pub not_link_of : (counts : List KindCount) (old next : Header) (last new : Commitment) (link : LinkData) → last.count ≡ old.count → last.root ≡ old.root → new.count ≡ next.count → new.root ≡ next.root → (AcceptsLink last new link → ⊥) → IsLinkOf counts old next link → ⊥
not_link_of counts old next last new link last_count last_root new_count new_root refused is =
    let first : is.last ≡ last = same_commitment is.last last (sym is.last_is.0 ∙ sym last_count) (sym is.last_is.1 ∙ sym last_root) in
    let second : is.new ≡ new = same_commitment is.new new (sym is.new_is.0 ∙ sym new_count) (sym is.new_is.1 ∙ sym new_root) in
    refused (subst (λ (one : Commitment). AcceptsLink one new link) first (subst (λ (one : Commitment). AcceptsLink is.last one link) second is.accepts))

-- whatever half of it isn't so
pub rejected : (judgment : LinkJudgment) (last new : Commitment) (link : LinkData) → (judgment ≡ OldHalf) ⊎ (judgment ≡ NewHalf) → IsLinkJudgment last new link judgment → AcceptsLink last new link → ⊥
rejected judgment last new link (inl half) judged accepts = subst (IsLinkJudgment last new link) half judged accepts.old_half
rejected judgment last new link (inr half) judged accepts = (subst (IsLinkJudgment last new link) half judged).1 accepts.new_half

pub joined_if : {E : Type 0} (result : Result Bool E) (counts : List KindCount) (old next : Header) (last new : Commitment) (link : LinkData) → old.closed ≡ true → last.count ≡ old.count → last.root ≡ old.root → new.count ≡ next.count → new.root ≡ next.root → AcceptsLink last new link
    → IfOk result (λ said. IsTrue said ↔ AreCountsOf link.second (Some counts)) → IfOk result (λ joined. IsTrue joined ↔ IsLinkOf counts old next link)
joined_if (Err error) counts old next last new link closed last_count last_root new_count new_root accepts says = tt
joined_if (Ok said) counts old next last new link closed last_count last_root new_count new_root accepts says =
    (λ yes. link_of_both counts old next last new link closed last_count last_root new_count new_root accepts (says.0 yes), λ is. says.1 is.says)

-- why counting stopped at an event, by the index alone
abbrev WhyStopped : ℕ → ℕ → IndexData → List KindCount → JoinError → Type 0
WhyStopped first index kept counts error = ((slice_get kept.kinds index ≡ None) × (error ≡ joining.Store NoSuchVersion))
    ⊎ ((kind : ℕ) × (slice_get kept.kinds index ≡ Some kind) × (cause : CountsError)
    × IsUncounted kind (added_all (take (index - first) (drop first kept.kinds)) counts) cause × (error ≡ of_counts cause))

module _ {D : Type 0} {g : sectors.Ghosts D} where
  -- a store that was only looked at counts the same
  pub counted_same : (old looked : Store D g) (first : ℕ) (counts : List KindCount) → OnlyRead old looked → counted_from first looked counts ≡ counted_from first old counts
  unfolding counted_by
  counted_same old looked first counts reads =
      ap (λ (header : Header). counted_by first header (index_of looked) counts) reads.active_header_is
      ∙ ap (λ (index : IndexData). counted_by first (active_header old) index counts) reads.kept_is

  -- and stops at the same event
  pub stops_same : (old looked : Store D g) (first : ℕ) (counts : List KindCount) (error : JoinError) → OnlyRead old looked → StopsCounting first looked counts error → StopsCounting first old counts error
  stops_same old looked first counts error reads stops = record {
    index = stops.index;
    from = stops.from;
    before = subst (λ (header : Header). stops.index < open_count header) reads.active_header_is stops.before;
    why = subst (λ (kept : IndexData). WhyStopped first stops.index kept counts error) reads.kept_is stops.why;
  }

module _ {F : Type 0} (facts : F → FileFacts) (remaining : F → Option (List ℕ)) where
  -- what a file has instead of a link
  pub unread_at : (Failed : Type 0) (path : List ℕ) (file : F) (cause : CommandError) → (facts file).opened_to_read path → IsLinkNotIn (remaining file) cause → IsLinkUnread facts remaining Failed path cause
  unread_at Failed path file BadProof opened why = record { file = file; opened = opened; none = why }
  unread_at Failed path file (Lines fault) opened why = tt
  unread_at Failed path file (Refused error) opened why = why
  unread_at Failed path file _ opened why = absurd why

  pub unread_from : {T : Type 0} (Failed : Type 0) (path : List ℕ) (file : F) (result : Result T CommandError) → (facts file).opened_to_read path → IfErr result (IsLinkNotIn (remaining file)) → IfErr result (IsLinkUnread facts remaining Failed path)
  unread_from Failed path file (Ok link) opened why = tt
  unread_from Failed path file (Err cause) opened why = unread_at Failed path file cause opened why

  -- or instead of these bytes
  pub others_at : (Failed : Type 0) (path bytes : List ℕ) (file : F) (fault : PreparedError) → (facts file).opened_to_read path → (fault ≡ OtherLink → IfSome (remaining file) (λ found. (INPUT_LIMIT < length found) ⊎ (found ≢ bytes))) → IsJudgingFault fault → IsNotKept facts remaining Failed path bytes fault
  others_at Failed path bytes file OtherLink opened others why = inr (record { file = file; opened = opened; others = others refl })
  others_at Failed path bytes file (Command (Lines cause)) opened others why = tt
  others_at Failed path bytes file _ opened others why = absurd why

  module _ (Synced : List ℕ → Type 0) (Failed : Type 0) {D : Type 0} {g : sectors.Ghosts D} {E : Type 0} {h : sectors.Ghosts E} where
    -- the link that was found is kept
    pub found_by : (path : List ℕ) (counts : List KindCount) (old : Store D g) (next : Store E h) (link : LinkData) (result : Ending) → IsLinkOf counts (active_header old) (active_header next) link → OnOk result (HasBytesAt facts remaining Synced path (link_bytes link)) → OnOk result (IsFoundJoined facts remaining Synced Failed path counts old next)
    found_by path counts old next link (Err fault) joins kept = tt
    found_by path counts old next link (Ok done) joins kept = record { link = link; kept = kept; joins = joins }

    -- why they weren't joined
    pub no_junction : (path : List ℕ) (counts : List KindCount) (old : Store D g) (next : Store E h) (fault : PreparedError) → (active_header next).count ≡ 0 → IsNoJunction old next fault → IsLeftUnjoined facts remaining Synced Failed path counts old next fault
    no_junction path counts old next OwnKey empty why = (empty, why)
    no_junction path counts old next (Command (Refused error)) empty why = tt
    no_junction path counts old next _ empty why = absurd why

    pub not_kept_for : (path : List ℕ) (counts : List KindCount) (old : Store D g) (next : Store E h) (link : LinkData) (fault : PreparedError)
        → (((active_header next).count ≡ 0) × ((junction : Junction) × (link ≡ link_in junction.link) × IsJunction (active_header next).key (active_header next).last_link counts junction)) ⊎ IsLinkOf counts (active_header old) (active_header next) link
        → IsNotKept facts remaining Failed path (link_bytes link) fault → IsLeftUnjoined facts remaining Synced Failed path counts old next fault
    not_kept_for path counts old next link OtherLink is (inl failed) = inl failed
    not_kept_for path counts old next link OtherLink is (inr others) = inr (link, others, is)
    not_kept_for path counts old next link (Command cause) is why = why
    not_kept_for path counts old next link _ is why = absurd why

    pub not_found_by : (path : List ℕ) (counts : List KindCount) (old : Store D g) (next : Store E h) (link : LinkData) (result : Ending) → IsLinkOf counts (active_header old) (active_header next) link → IfErr result (IsNotKept facts remaining Failed path (link_bytes link)) → IfErr result (IsLeftUnjoined facts remaining Synced Failed path counts old next)
    not_found_by path counts old next link (Ok done) is why = tt
    not_found_by path counts old next link (Err fault) is why = not_kept_for path counts old next link fault (inr is) why

    pub unread_for : (path : List ℕ) (counts : List KindCount) (old : Store D g) (next : Store E h) (cause : CommandError) → 0 < (active_header next).count → IsLinkUnread facts remaining Failed path cause → IsLeftUnjoined facts remaining Synced Failed path counts old next (of_unread cause)
    unread_for path counts old next File some failed = (some, inl failed)
    unread_for path counts old next BadProof some none = (some, inr (inl none))
    unread_for path counts old next (Lines fault) some why = tt
    unread_for path counts old next (Refused error) some why = tt
    unread_for path counts old next _ some why = absurd why

    pub other_found : (path : List ℕ) (counts : List KindCount) (old : Store D g) (next : Store E h) (link : LinkData) → 0 < (active_header next).count → HasLinkAt facts remaining path link → (IsLinkOf counts (active_header old) (active_header next) link → ⊥) → IsLeftUnjoined facts remaining Synced Failed path counts old next NotEmpty
    other_found path counts old next link some at refused = (some, inr (inr (link, at, refused)))

    -- the stores were only looked at
    pub stops_looking : (path : List ℕ) (counts : List KindCount) (old looked : Store D g) (next : Store E h) (result : Ending) (fault : PreparedError) → result ≡ Err fault → IsLeftUnjoined facts remaining Synced Failed path counts old next fault → OnlyRead old looked → JoinsCounted facts remaining Synced Failed path counts old looked next next result
    stops_looking path counts old looked next result fault is why reads =
        subst (JoinsCounted facts remaining Synced Failed path counts old looked next next) (sym is) (inl (why, (reads, refl)))

    -- the link is in its file, and the join gave this
    pub link_kept : (path : List ℕ) (counts : List KindCount) (old looked : Store D g) (next : Store E h) (junction : Junction) → (active_header next).count ≡ 0 → IsJudgedFirst old next false
        → IsJunction (active_header next).key (active_header next).last_link counts junction → HasBytesAt facts remaining Synced path (link_bytes (link_in junction.link)) → OnlyRead old looked → IsLinkKept facts remaining Synced Failed path counts old looked next junction
    link_kept path counts old looked next junction empty judged is kept reads =
        record { empty = empty; judged = judged; junction_is = is; kept = kept; reads = reads }

    pub stops_joining : (path : List ℕ) (counts : List KindCount) (old looked closed : Store D g) (empty next : Store E h) (junction : Junction) (cause : StoreError) (result : Ending) (fault : PreparedError) → result ≡ Err fault → fault ≡ Command (Refused cause)
        → IsLinkKept facts remaining Synced Failed path counts old looked empty junction → StopsJoining junction cause looked closed empty next → JoinsCounted facts remaining Synced Failed path counts old closed empty next result
    stops_joining path counts old looked closed empty next junction cause result fault is fault_is linked stops =
        subst (JoinsCounted facts remaining Synced Failed path counts old closed empty next) (sym is)
        (inr (record { looked = looked; junction = junction; linked = linked; cause = cause; fault_is = fault_is; stops = stops }))

    -- a log that was found to be joined, or not
    pub joins_found : (after : Option (Bor (List ℕ))) (path : List ℕ) (counts : List KindCount) (old looked : Store D g) (next : Store E h) (result : Ending) → OnlyRead old looked → AreCounted facts remaining after old counts
        → OnOk result (IsFoundJoined facts remaining Synced Failed path counts looked next) → IfErr result (IsLeftUnjoined facts remaining Synced Failed path counts looked next) → JoinsStores facts remaining Synced Failed after path old looked next next result
    joins_found after path counts old looked next (Ok done) reads counted found why = (counts, looked, reads, counted, inr (found, (looked_none looked, refl)))
    joins_found after path counts old looked next (Err fault) reads counted found why = inr (counts, looked, reads, counted, inl (why, (looked_none looked, refl)))

    -- a log that is joined to an empty store
    pub joins_empty : (after : Option (Bor (List ℕ))) (path : List ℕ) (counts : List KindCount) (old looked left : Store D g) (next new : Store E h) (result : Ending) → OnlyRead old looked → AreCounted facts remaining after old counts
        → JoinsCounted facts remaining Synced Failed path counts looked left next new result → JoinsStores facts remaining Synced Failed after path old left next new result
    joins_empty after path counts old looked left next new (Ok done) reads counted joins = (counts, looked, reads, counted, joins)
    joins_empty after path counts old looked left next new (Err fault) reads counted joins = inr (counts, looked, reads, counted, joins)

    -- no numbers
    pub uncounted : (after : Option (Bor (List ℕ))) (path : List ℕ) (old looked : Store D g) (next : Store E h) (result : Ending) (fault : PreparedError) → result ≡ Err fault → IsNotCounted facts remaining Failed after old fault → OnlyRead old looked → JoinsStores facts remaining Synced Failed after path old looked next next result
    uncounted after path old looked next result fault is why reads =
        subst (JoinsStores facts remaining Synced Failed after path old looked next next) (sym is) (inl (why, (reads, refl)))

    -- the lines weren't written
    pub unwritten : (after : Option (Bor (List ℕ))) (path : List ℕ) (old left : Store D g) (next new : Store E h) (known : Option (List ℕ)) (result : Ending) (fault : PreparedError) → result ≡ Err fault
        → JoinsStores facts remaining Synced Failed after path old left next new (Err fault) → JoinsPrepared facts remaining Synced Failed after path old left next new known known result
    unwritten after path old left next new known result fault is joins =
        subst (JoinsPrepared facts remaining Synced Failed after path old left next new known known) (sym is) (inl (joins, Keeps-refl known))

    -- or a prefix of them was
    pub written_in_part : (after : Option (Bor (List ℕ))) (path : List ℕ) (old left : Store D g) (next new : Store E h) (before written : Option (List ℕ)) (result : Ending) (fault : PreparedError) → result ≡ Err fault → JoinsStores facts remaining Synced Failed after path old left next new (Ok tt)
        → WritesInPart before written (joined_lines (active_header left) (active_header new)) → JoinsPrepared facts remaining Synced Failed after path old left next new before written result
    written_in_part after path old left next new before written result fault is joins part =
        subst (JoinsPrepared facts remaining Synced Failed after path old left next new before written) (sym is) (inr (joins, part))

  module _ (Synced : List ℕ → Type 0) (Failed : Type 0) (LeadsTo : List ℕ → FileIdentity → Type 0) {O : Type 0} {E : Type 0} {h : sectors.Ghosts E} (stores : StoresModel O (Store E h)) (At : O → List ℕ → Store E h → Type 0) where
    -- the second store was opened, and let go
    pub opens_next : (request : Prepared) (was begun ended now : O) (old left next new : Store E h) (before after : Option (List ℕ)) (result : Ending) → At was request.next.now next → stores.DidCalls was begun (an_opening request.next.now (Ok next) ∷ []) → begun ≡ ended → stores.DidCalls ended now (a_letting_go new ∷ [])
        → JoinsPrepared facts remaining Synced Failed request.after request.link.now old left next new before after result → (between : List (StoreCall (Store E h))) × stores.DidCalls was now between × OpensNext facts remaining Synced Failed LeadsTo stores At request was between old left before after result
    opens_next request was begun ended now old left next new before after result at opens same goes joins =
        let made : JoinsNext facts remaining Synced Failed LeadsTo stores At request was (an_opening request.next.now (Ok next) ∷ a_letting_go new ∷ []) old left before after result =
        record { next = next; at = at; new = new; between_is = refl; joins = joins } in (
          an_opening request.next.now (Ok next) ∷ a_letting_go new ∷ [],
          stores.more_called was ended now (an_opening request.next.now (Ok next) ∷ []) (a_letting_go new ∷ []) (subst (λ (o : O). stores.DidCalls was o (an_opening request.next.now (Ok next) ∷ [])) same opens) goes,
          by_result result made,
        )
      where
        by_result : (ended : Ending) → JoinsNext facts remaining Synced Failed LeadsTo stores At request was (an_opening request.next.now (Ok next) ∷ a_letting_go new ∷ []) old left before after ended
            → OpensNext facts remaining Synced Failed LeadsTo stores At request was (an_opening request.next.now (Ok next) ∷ a_letting_go new ∷ []) old left before after ended
        by_result (Ok done) joined = joined
        by_result (Err fault) joined = inr joined

    -- it couldn't be opened
    pub lacks_next : (request : Prepared) (was now : O) (old : Store E h) (known : Option (List ℕ)) (cause : CommandError) (result : Ending) (fault : PreparedError) → result ≡ Err fault → fault ≡ Command cause → stores.DidCalls was now (an_opening request.next.now (Err cause) ∷ [])
        → (between : List (StoreCall (Store E h))) × stores.DidCalls was now between × OpensNext facts remaining Synced Failed LeadsTo stores At request was between old old known known result
    lacks_next request was now old known cause result fault is fault_is did = (
      an_opening request.next.now (Err cause) ∷ [],
      did,
      subst (OpensNext facts remaining Synced Failed LeadsTo stores At request was (an_opening request.next.now (Err cause) ∷ []) old old known known) (sym is)
          (inl (record { cause = cause; fault_is = fault_is; between_is = refl; left_is = refl; unwritten = Keeps-refl known })),
    )

    -- both were opened
    pub opens_both : (request : Prepared) (was begun ended now : O) (old left : Store E h) (before after : Option (List ℕ)) (result : Ending) → At was request.old.now old → stores.DidCalls was begun (an_opening request.old.now (Ok old) ∷ []) → stores.DidCalls ended now (a_letting_go left ∷ [])
        → ((between : List (StoreCall (Store E h))) × stores.DidCalls begun ended between × OpensNext facts remaining Synced Failed LeadsTo stores At request begun between old left before after result) → IsPreparedDone facts remaining Synced Failed LeadsTo stores At request was now before after result
    opens_both request was begun ended now old left before after result at opens goes (between, did, next) =
        by_result result (record {
          old = old;
          at = at;
          mid = begun;
          left = left;
          between = between;
          opens = opens;
          calls = stores.more_called was ended now (an_opening request.old.now (Ok old) ∷ between) (a_letting_go left ∷ []) (stores.more_called was begun ended (an_opening request.old.now (Ok old) ∷ []) between opens did) goes;
          next = next;
        })
      where
        by_result : (ending : Ending) → OpensBoth facts remaining Synced Failed LeadsTo stores At request was now before after ending → IsPreparedDone facts remaining Synced Failed LeadsTo stores At request was now before after ending
        by_result (Ok done) both = both
        by_result (Err fault) both = inr both

    -- none was opened
    pub opens_none : (request : Prepared) (was : O) (known : Option (List ℕ)) (cause : CommandError) (result : Ending) → result ≡ Err (Command cause) → IsNoOpening facts remaining Synced Failed LeadsTo stores At request cause → IsPreparedDone facts remaining Synced Failed LeadsTo stores At request was was known known result
    opens_none request was known cause result is why =
        subst (IsPreparedDone facts remaining Synced Failed LeadsTo stores At request was was known known) (sym is) (inl (cause, refl, (inl (stores.nothing_called was, why), Keeps-refl known)))

    -- a path couldn't be looked at
    pub unlooked : (request : Prepared) (was : O) (known : Option (List ℕ)) (cause : CommandError) (result : Ending) → result ≡ Err (Command cause) → (cause ≡ File) × Failed → IsPreparedDone facts remaining Synced Failed LeadsTo stores At request was was known known result
    unlooked request was known cause result is (file, failed) = opens_none request was known cause result is (subst (IsNoOpening facts remaining Synced Failed LeadsTo stores At request) (sym file) failed)

    pub lacks_old : (request : Prepared) (was now : O) (known : Option (List ℕ)) (cause : CommandError) (result : Ending) → result ≡ Err (Command cause) → stores.DidCalls was now (an_opening request.old.now (Err cause) ∷ []) → IsPreparedDone facts remaining Synced Failed LeadsTo stores At request was now known known result
    lacks_old request was now known cause result is did =
        subst (IsPreparedDone facts remaining Synced Failed LeadsTo stores At request was now known known) (sym is) (inl (cause, refl, (inr did, Keeps-refl known)))
