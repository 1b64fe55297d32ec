-- What a request to rotate comes to.
use Rattle.std.specs.Prelude.{OnOk, OnErr, IfOk, IfErr, IsOk, IsErr}
use Rattle.std.specs.Io.KnownBytes.{Appends, Keeps}
use Rattle.std.proofs.Common.{◌≡◌, ◌∙◌, ◌⊎◌, ℕ, Option, None, Some, Result, Ok, Err, List, [], ◌∷◌, append-nil, inl, inr, refl, sym, subst}
use Rattle.audit_disk_model.specs.View.{View}
use Rattle.audit_store_commit.specs.IndexData.{IndexData}
use Rattle.audit_disk_model.specs.declared.sectors.Sectors as sectors
use Rattle.audit_disk.specs.FileFacts.{FileFacts}
use Rattle.audit_disk.specs.Positioned.{PositionedView, ShowsFront}
use Rattle.audit_disk.specs.SectorSource.{source_of}
use Rattle.audit_store.specs.ReadOnlyOpening.{at_rest}
use Rattle.audit_store.specs.Recovered.{IsOpened}
use Rattle.audit_store.specs.Store.{active_header}
use Rattle.audit_store.specs.declared.store.Store.{Store}
use Rattle.audit_text.specs.Writing.{WritesInPart}
use Rattle.audit_cli_base.specs.Arguments.{sectors_asked}
use Rattle.audit_cli_base.specs.KeyFile.{IsKeyAt}
use Rattle.audit_cli_rotate.specs.declared.fault.RotationError.{RotationError}
use Rattle.audit_cli_rotate.specs.declared.fault.RotationError.TheVariants.{Command}
use Rattle.audit_cli_rotate.specs.declared.request.Request.{Request}
use Rattle.audit_log.specs.declared.header.Header.{Header}
use Rattle.audit_cli_base.specs.declared.fault.CommandError.{CommandError}
use Rattle.audit_cli_base.specs.declared.status.Status.{Status}
use Rattle.audit_cli_base.specs.declared.status.Status.TheVariants as ends
use Rattle.audit_cli_calls.specs.StoreCalls.{StoreCall, StoresModel, a_making, an_opening, a_letting_go}
use Rattle.audit_cli_rotate.specs.Carried.{IsRotationDone}
use Rattle.audit_cli_rotate.specs.Files.{temporary_name, FindsOn, FindsOnInPart, FindsRotated, SaysFound, IsMaking, IsMakingNone, MakesRotated, IsEnded, StopsMade, RotatesTo, RotatesOpened, IsNotOpened}
use Rattle.audit_cli_rotate.specs.Lines.{rotated_lines}
use Rattle.audit_cli_rotate.specs.Rotated.{FindingOutcome, RotationOutcome}

abbrev Ending : Type 0
Ending = Result (Unit {0}) RotationError

-- known bytes stay as they were
kept_bytes : (known : Option (List ℕ)) → Keeps known known
kept_bytes None = tt
kept_bytes (Some bytes) = refl

-- ---- a store that was found

pub says_found : (disk last : View) (index : IndexData) (sectors : ℕ) (first_key : List ℕ) (old new : Header) (before after : Option (List ℕ)) (result : Result (Unit {0}) CommandError) → IsOpened disk last new index → FindingOutcome first_key old new before after result → new.sectors ≡ sectors
    → OnOk result (FindsOn disk first_key sectors old before after)
says_found disk last index sectors first_key old new before after (Err fault) opened found size = tt
says_found disk last index sectors first_key old new before after (Ok done) opened found size = record {
  header = new;
  found = record {
    sound = record { chosen = opened.chosen; entries = opened.entries; two = opened.two; log = opened.log; opening = opened.opening };
    header_is = opened.header_is;
  };
  size = size;
  rotated = found;
}

pub part_found : (disk last : View) (index : IndexData) (sectors : ℕ) (first_key : List ℕ) (old new : Header) (before after : Option (List ℕ)) (result : Result (Unit {0}) CommandError) → IsOpened disk last new index → FindingOutcome first_key old new before after result → new.sectors ≡ sectors
    → OnErr result (Keeps before after ⊎ FindsOnInPart disk first_key sectors old before after)
part_found disk last index sectors first_key old new before after (Ok done) opened found size = tt
part_found disk last index sectors first_key old new before after (Err fault) opened (inl (none, absent, keeps)) size = inl keeps
part_found disk last index sectors first_key old new before after (Err fault) opened (inr (inl (memory, keeps))) size = inl keeps
part_found disk last index sectors first_key old new before after (Err fault) opened (inr (inr (is, cause, part))) size = inr (record {
  header = new;
  found = record {
    sound = record { chosen = opened.chosen; entries = opened.entries; two = opened.two; log = opened.log; opening = opened.opening };
    header_is = opened.header_is;
  };
  size = size;
  rotated = is;
  part = part;
})

-- all lines were written
said_whole : (before after : Option (List ℕ)) (lines : List ℕ) → Appends before after lines → WritesInPart before after lines
said_whole before after lines appends = record { written = lines; rest = []; split = sym (append-nil lines); appended = appends }

-- a rotation that was found, whatever comes after it
still_found : (disk : View) (first_key : List ℕ) (sectors : ℕ) (old : Header) (before after : Option (List ℕ)) (result : Result (Unit {0}) CommandError) → FindsOn disk first_key sectors old before after → OnErr result (Keeps before after ⊎ FindsOnInPart disk first_key sectors old before after)
still_found disk first_key sectors old before after (Ok done) finds = tt
still_found disk first_key sectors old before after (Err fault) finds =
    inr (record { header = finds.header; found = finds.found; size = finds.size; rotated = finds.rotated.0; part = said_whole before after (rotated_lines old finds.header) finds.rotated.1 })

-- on the same device
pub still_found_on : {T : Type 0} (view : T → View) (disk other : T) (first_key : List ℕ) (sectors : ℕ) (old : Header) (before after : Option (List ℕ)) (result : Result (Unit {0}) CommandError) → other ≡ disk → FindsOn (at_rest (source_of (view other))) first_key sectors old before after
    → OnErr result (Keeps before after ⊎ FindsOnInPart (at_rest (source_of (view disk))) first_key sectors old before after)
still_found_on {T = T} view disk other first_key sectors old before after result same finds =
    subst (λ (on : T). OnErr result (Keeps before after ⊎ FindsOnInPart (at_rest (source_of (view on))) first_key sectors old before after)) same (still_found (at_rest (source_of (view other))) first_key sectors old before after result finds)

module _ {F : Type 0} (facts : F → FileFacts) (positioned : F → PositionedView) {E : Type 0} (h : sectors.Ghosts E) where
  pub found_at : (path first_key : List ℕ) (sectors : ℕ) (old : Header) (before after : Option (List ℕ)) (disk : E) (file : F) (result : Result (Unit {0}) CommandError) → (facts file).opened_to_read path → (facts file).locked_shared → ShowsFront (positioned file) (h.view disk)
      → OnOk result (FindsOn (at_rest (source_of (h.view disk))) first_key sectors old before after) → OnOk result (FindsRotated facts positioned h path first_key sectors old before after)
  found_at path first_key sectors old before after disk file (Err fault) opened locked front finds = tt
  found_at path first_key sectors old before after disk file (Ok done) opened locked front finds = record {
    disk = disk;
    at = record { file = file; opened = opened; locked = locked; front = front };
    finds = finds;
  }

  pub said_at : (path first_key : List ℕ) (sectors : ℕ) (old : Header) (before after : Option (List ℕ)) (disk : E) (file : F) (result : Result (Unit {0}) CommandError) → (facts file).opened_to_read path → (facts file).locked_shared → ShowsFront (positioned file) (h.view disk)
      → OnErr result (Keeps before after ⊎ FindsOnInPart (at_rest (source_of (h.view disk))) first_key sectors old before after) → OnErr result (SaysFound facts positioned h path first_key sectors old before after)
  said_at path first_key sectors old before after disk file (Ok done) opened locked front said = tt
  said_at path first_key sectors old before after disk file (Err fault) opened locked front (inl keeps) = inl keeps
  said_at path first_key sectors old before after disk file (Err fault) opened locked front (inr finds) = inr (record {
    disk = disk;
    at = record { file = file; opened = opened; locked = locked; front = front };
    finds = finds;
  })

-- ---- a store that was made

module _ {E : Type 0} (h : sectors.Ghosts E) (Made : List ℕ → ℕ → E → Type 0) {D : Type 0} {g : sectors.Ghosts D} where
  -- the lines were gathered first, and then written
  made_printed : (temporary first_key : List ℕ) (sectors : ℕ) (old closed : Store D g) (before after : Option (List ℕ)) (lines written : List ℕ) → written ≡ lines → Appends before after written
      → MakesRotated h Made temporary first_key sectors old closed (Some []) (Some lines) → MakesRotated h Made temporary first_key sectors old closed before after
  made_printed temporary first_key sectors old closed before after lines written same appends made =
      let fresh = made.rotated in
      let outcome = fresh.outcome in
      let text = rotated_lines (active_header closed) (active_header made.new) in
      let gathered : lines ≡ text = outcome.written in
      record {
        disk = made.disk;
        made = made.made;
        size = made.size;
        new = made.new;
        rotated = record {
          looked = fresh.looked;
          judged = fresh.judged;
          outcome = record { made = outcome.made; formatted = outcome.formatted; linked = outcome.linked; written = subst (Appends before after) (same ∙ gathered) appends };
        };
      }

  -- of lines that weren't all written
  made_unprinted : (temporary first_key : List ℕ) (sectors : ℕ) (old closed : Store D g) (before after : Option (List ℕ)) (fault : RotationError) (lines written : List ℕ) → written ≡ lines → WritesInPart before after written
      → MakesRotated h Made temporary first_key sectors old closed (Some []) (Some lines) → StopsMade h Made temporary first_key sectors old closed before after fault
  made_unprinted temporary first_key sectors old closed before after fault lines written same part made =
      let text = rotated_lines (active_header closed) (active_header made.new) in
      let gathered : lines ≡ text = made.rotated.outcome.written in record {
        disk = made.disk;
        made = made.made;
        lines = lines;
        done = Ok made.new;
        outcome = made.rotated;
        ended = inr (subst (WritesInPart before after) (same ∙ gathered) part);
      }

  -- nothing was written yet
  ended_unwritten : (done : Result (Store E h) RotationError) (closed : Store D g) (known : Option (List ℕ)) (fault : RotationError) → OnErr done (done ≡ Err fault) → IsEnded h Made done closed known known fault
  ended_unwritten (Err error) closed known fault same = (cc same, kept_bytes known)
  ended_unwritten (Ok new) closed known fault same = inl (kept_bytes known)

  pub stops_made : (temporary first_key : List ℕ) (sectors : ℕ) (old left : Store D g) (known : Option (List ℕ)) (fault : RotationError) (disk : E) (lines : List ℕ) (done : Result (Store E h) RotationError) → Made temporary sectors disk → RotationOutcome (h.view disk) first_key old left (Some []) (Some lines) done
      → OnErr done (done ≡ Err fault) → StopsMade h Made temporary first_key sectors old left known known fault
  stops_made temporary first_key sectors old left known fault disk lines done made outcome same = record {
    disk = disk;
    made = made;
    lines = lines;
    done = done;
    outcome = outcome;
    ended = ended_unwritten done left known fault same;
  }

  -- a rotation to a device that was made for it
  pub makes_named : {O L : Type 0} (stores : StoresModel O (Store D g)) (items : L → List ℕ) (Named : Type 0) (temporary first_key : List ℕ) (sectors : ℕ) (was now : O) (old left : Store D g) (disk : E) (result : Result L RotationError) → stores.DidCalls was now (a_making temporary sectors (Ok tt) ∷ []) → Made temporary sectors disk → (h.view disk).size ≡ sectors
      → OnOk result Named → IfOk result (λ lines. (new : Store E h) × RotationOutcome (h.view disk) first_key old left (Some []) (Some (items lines)) (Ok new))
      → IfOk result (λ lines. (between : List (StoreCall (Store D g))) × stores.DidCalls was now between × IsMaking temporary sectors between × Named × MakesRotated h Made temporary first_key sectors old left (Some []) (Some (items lines)))
  makes_named stores items Named temporary first_key sectors was now old left disk (Err fault) did made size named rotated = tt
  makes_named stores items Named temporary first_key sectors was now old left disk (Ok lines) did made size named (new, outcome) =
      (a_making temporary sectors (Ok tt) ∷ [], did, refl, named, record { disk = disk; made = made; size = size; new = new; rotated = outcome })

-- whatever the result is
pub on_ok : {P : Type 0} (result : Ending) → P → OnOk result P
on_ok (Ok done) holds = holds
on_ok (Err fault) holds = tt

pub if_err : (P : RotationError → Type 0) {Q : Type 0} (result : Ending) → Q → IfErr result (λ fault. P fault ⊎ Q)
if_err P (Ok done) holds = tt
if_err P (Err fault) holds = inr holds

-- ---- both

module _ {F : Type 0} (facts : F → FileFacts) (positioned : F → PositionedView) {E : Type 0} (h : sectors.Ghosts E) (Made : List ℕ → ℕ → E → Type 0) (Named : List ℕ → List ℕ → Type 0) where
  module _ {D : Type 0} {g : sectors.Ghosts D} {O : Type 0} (stores : StoresModel O (Store D g)) where
    -- the calls between opening a store and letting it go, and what was done
    abbrev RotatesBy : (path first_key : List ℕ) (sectors : ℕ) (was now : O) (old left : Store D g) (before after : Option (List ℕ)) (result : Ending) → Type 0
    RotatesBy path first_key sectors was now old left before after result =
        (between : List (StoreCall (Store D g))) × stores.DidCalls was now between × RotatesTo facts positioned h Made Named path first_key sectors between old left before after result

    -- a store that was found
    pub finds_by : (path first_key : List ℕ) (sectors : ℕ) (was : O) (old : Store D g) (before after : Option (List ℕ)) → FindsRotated facts positioned h path first_key sectors (active_header old) before after → RotatesBy path first_key sectors was was old old before after (Ok tt)
    finds_by path first_key sectors was old before after finds = ([], stores.nothing_called was, inr (refl, refl, finds))

    -- or that wasn't
    pub finds_in_part : (path first_key : List ℕ) (sectors : ℕ) (was : O) (old : Store D g) (before after : Option (List ℕ)) (result : Ending) (fault : RotationError) → result ≡ Err fault → SaysFound facts positioned h path first_key sectors (active_header old) before after → RotatesBy path first_key sectors was was old old before after result
    finds_in_part path first_key sectors was old before after result fault is said =
        subst (RotatesBy path first_key sectors was was old old before after) (sym is) ([], stores.nothing_called was, inr (inl refl, refl, said))

    -- nothing was done
    pub makes_nothing : (path first_key : List ℕ) (sectors : ℕ) (was : O) (old : Store D g) (known : Option (List ℕ)) (result : Ending) (fault : RotationError) → result ≡ Err fault → RotatesBy path first_key sectors was was old old known known result
    makes_nothing path first_key sectors was old known result fault is = finds_in_part path first_key sectors was old known known result fault is (inl (kept_bytes known))

    -- the lines were written
    pub makes_by : (path first_key : List ℕ) (sectors : ℕ) (was now : O) (old left : Store D g) (before after : Option (List ℕ)) (temporary lines written : List ℕ) → temporary ≡ temporary_name path → written ≡ lines → Appends before after written
        → ((between : List (StoreCall (Store D g))) × stores.DidCalls was now between × IsMaking temporary sectors between × Named temporary path × MakesRotated h Made temporary first_key sectors old left (Some []) (Some lines)) → RotatesBy path first_key sectors was now old left before after (Ok tt)
    makes_by path first_key sectors was now old left before after temporary lines written name same appends (between, did, is, named, made) = (
      between,
      did,
      inl (
        subst (λ (at : List ℕ). IsMaking at sectors between) name is,
        subst (λ (at : List ℕ). Named at path) name named,
        made_printed h Made (temporary_name path) first_key sectors old left before after lines written same appends (subst (λ (at : List ℕ). MakesRotated h Made at first_key sectors old left (Some []) (Some lines)) name made),
      ),
    )

    -- or a prefix of them was
    pub makes_in_part : (path first_key : List ℕ) (sectors : ℕ) (was now : O) (old left : Store D g) (before after : Option (List ℕ)) (result : Ending) (fault : RotationError) (temporary lines written : List ℕ) → result ≡ Err fault → temporary ≡ temporary_name path → written ≡ lines → WritesInPart before after written
        → ((between : List (StoreCall (Store D g))) × stores.DidCalls was now between × IsMaking temporary sectors between × Named temporary path × MakesRotated h Made temporary first_key sectors old left (Some []) (Some lines)) → RotatesBy path first_key sectors was now old left before after result
    makes_in_part path first_key sectors was now old left before after result fault temporary lines written is name same part (between, did, making, named, made) = subst (RotatesBy path first_key sectors was now old left before after) (sym is) (
      between,
      did,
      inl (
        subst (λ (at : List ℕ). IsMaking at sectors between) name making,
        made_unprinted h Made (temporary_name path) first_key sectors old left before after fault lines written same part (subst (λ (at : List ℕ). MakesRotated h Made at first_key sectors old left (Some []) (Some lines)) name made),
      ),
    )

    -- the making stopped
    abbrev StopsBy : (temporary first_key : List ℕ) (sectors : ℕ) (was now : O) (old left : Store D g) (known : Option (List ℕ)) (fault : RotationError) → Type 0
    StopsBy temporary first_key sectors was now old left known fault = (between : List (StoreCall (Store D g))) × stores.DidCalls was now between
        × ((IsMaking temporary sectors between × StopsMade h Made temporary first_key sectors old left known known fault) ⊎ (IsMakingNone temporary sectors between fault × (left ≡ old)))

    pub stops_by : (path first_key : List ℕ) (sectors : ℕ) (was now : O) (old left : Store D g) (known : Option (List ℕ)) (result : Ending) (fault : RotationError) (temporary : List ℕ) → result ≡ Err fault → temporary ≡ temporary_name path → StopsBy temporary first_key sectors was now old left known fault
        → RotatesBy path first_key sectors was now old left known known result
    stops_by path first_key sectors was now old left known result fault temporary is name stops = subst (RotatesBy path first_key sectors was now old left known known) (sym is) (by (subst (λ (at : List ℕ). StopsBy at first_key sectors was now old left known fault) name stops))
      where
        by : StopsBy (temporary_name path) first_key sectors was now old left known fault → RotatesBy path first_key sectors was now old left known known (Err fault)
        by (between, did, inl made) = (between, did, inl made)
        by (between, did, inr none) = (between, did, inr (none.0, none.1, inl (kept_bytes known)))

  module _ {O : Type 0} (stores : StoresModel O (Store E h)) (At : List ℕ → Store E h → Type 0) where
    pub rotated_at : (from to first_key : List ℕ) (sectors : ℕ) (was begun ended now : O) (opened left : Store E h) (before after : Option (List ℕ)) (result : Ending) → At from opened → stores.DidCalls was begun (an_opening from (Ok opened) ∷ []) → stores.DidCalls ended now (a_letting_go left ∷ [])
        → ((between : List (StoreCall (Store E h))) × stores.DidCalls begun ended between × RotatesTo facts positioned h Made Named to first_key sectors between opened left before after result) → RotatesOpened facts positioned h Made Named stores At from to first_key sectors was now before after result
    rotated_at from to first_key sectors was begun ended now opened left before after result at opens goes (between, did, rotated) = record {
      opened = opened;
      at = at;
      between = between;
      left = left;
      calls = stores.more_called was ended now (an_opening from (Ok opened) ∷ between) (a_letting_go left ∷ []) (stores.more_called was begun ended (an_opening from (Ok opened) ∷ []) between opens did) goes;
      rotated = rotated;
    }

    pub performed : (remaining : F → Option (List ℕ)) (request : Request) (first_key : List ℕ) (sectors : ℕ) (was now : O) (before after : Option (List ℕ)) (result : Ending) → sectors_asked request.sectors.now ≡ Ok sectors → IsKeyAt facts remaining request.key_file.now first_key
        → OnOk result (RotatesOpened facts positioned h Made Named stores At request.old.now request.new.now first_key sectors was now before after result)
        → IfErr result (λ fault. IsNotOpened stores request.old.now was now before after fault ⊎ RotatesOpened facts positioned h Made Named stores At request.old.now request.new.now first_key sectors was now before after result)
        → IsRotationDone facts positioned remaining h Made Named stores At request was now before after result
    performed remaining request first_key sectors was now before after (Ok done) asked key rotates stopped = record { sectors = sectors; sectors_are = asked; first_key = first_key; key_is = key; rotates = rotates }
    performed remaining request first_key sectors was now before after (Err fault) asked key rotates (inl unopened) = inl unopened
    performed remaining request first_key sectors was now before after (Err fault) asked key rotates (inr stopped) = inr (record { sectors = sectors; sectors_are = asked; first_key = first_key; key_is = key; rotates = stopped })

    -- words that are refused open no store
    pub unasked : (remaining : F → Option (List ℕ)) (request : Request) (was : O) (known : Option (List ℕ)) (cause : CommandError) (result : Ending) → result ≡ Err (Command cause)
        → IsRotationDone facts positioned remaining h Made Named stores At request was was known known result
    unasked remaining request was known cause result is =
        subst (λ (ended : Ending). IsRotationDone facts positioned remaining h Made Named stores At request was was known known ended) (sym is)
        (inl (cause, refl, (inl (stores.nothing_called was), kept_bytes known)))

-- no store was opened
pub not_opened : {O S : Type 0} (stores : StoresModel O S) (path : List ℕ) (was : O) (known : Option (List ℕ)) (cause : CommandError) → IsNotOpened stores path was was known known (Command cause)
not_opened stores path was known cause = (cause, refl, (inl (stores.nothing_called was), kept_bytes known))

-- the output was flushed, or it couldn't be
pub status_by : {A E : Type 0} (flushed : Result A E) (status ended : Status) → (IsOk flushed → ended ≡ status) → (IsErr flushed → ended ≡ ends.Device) → (ended ≡ status) ⊎ (ended ≡ ends.Device)
status_by (Ok done) status ended whole failed = inl (whole refl)
status_by (Err error) status ended whole failed = inr (failed refl)

-- with what is known of the output
pub status_flushed : {A E : Type 0} (Flushed Unflushed : Type 0) (flushed : Result A E) (status ended : Status) → (IsOk flushed → ended ≡ status) → (IsErr flushed → ended ≡ ends.Device) → OnOk flushed Flushed → OnErr flushed Unflushed → ((ended ≡ status) × Flushed) ⊎ ((ended ≡ ends.Device) × Unflushed)
status_flushed Flushed Unflushed (Ok done) status ended whole failed did not = inl (whole refl, did)
status_flushed Flushed Unflushed (Err error) status ended whole failed did not = inr (failed refl, not)
