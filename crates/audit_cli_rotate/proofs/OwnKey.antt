-- Whether a log began with a key.
use Rattle.std.proofs.Common.{◌≡◌, ◌∙◌, ◌⊎◌, inl, inr, ℕ, ◌<◌, ◌≤◌, Bool, true, false, cond, Option, Result, Ok, Err, List, [], ◌∷◌, length, refl, sym, ap, subst, arith, append-nil, Global}
use Rattle.std.specs.Prelude.{slice_index_or}
use Rattle.std.specs.declared.vec.Vec.{Vec}
use Rattle.std.proofs.lemmas.Bool.{cases_lt}
use Rattle.audit_mac.specs.Hmac.{hmac}
use Rattle.audit_disk_model.specs.View.{View}
use Rattle.audit_disk_model.specs.declared.sectors.Sectors as sectors
use Rattle.audit_base.specs.Bytes.{zeros}
use Rattle.audit_chain.specs.Event.{EventData}
use Rattle.audit_chain.specs.Closing.{is_closed}
use Rattle.audit_chain.specs.declared.key.TheConstants.{KEY_LEN}
use Rattle.audit_chain.specs.Entries.{first_link, log_entries}
use Rattle.audit_chain.specs.EntryForm.{EntryParts, BeginsWithEntry, bytes_of_parts, sealed_parts}
use Rattle.audit_chain.specs.Key.{evolved_key}
use Rattle.audit_chain.proofs.Fronts.{one_entry}
use Rattle.audit_chain.proofs.Opening.{sealed_parts_fit}
use Rattle.audit_log.specs.declared.header.Header.{Header}
use Rattle.audit_store_commit.specs.Origin.{Origin}
use Rattle.audit_store_commit.specs.Headers.{contents_of, header_of, key_left}
use Rattle.audit_store_commit.specs.LogSectors.{IsLog}
use Rattle.audit_store_commit.specs.Recovery.{stamp_of}
use Rattle.audit_store.specs.EntryRead.{IsIndexedEntryRead}
use Rattle.audit_store.specs.Queries.{IsEntry}
use Rattle.audit_store.specs.Store.{device, active_header, index_of, is_broken, Holds}
use Rattle.audit_store.specs.declared.store.Store.{Store}
use Rattle.audit_cli_rotate.specs.declared.fault.RotationError.{RotationError}
use Rattle.audit_cli_rotate.specs.OwnKey.{IsAuthenticatedUnder, IsJudged}
use Rattle.audit_cli_rotate.specs.Rotated.{RotationOutcome, FreshOutcome}

-- the entry that bytes begin with was authenticated under the key
pub of_this_entry : (key bytes : List ℕ) (entry : EntryParts) → BeginsWithEntry bytes entry → IsAuthenticatedUnder key bytes → entry.tag ≡ hmac key entry.link
of_this_entry key bytes entry found authenticated =
    subst (λ (parts : EntryParts). parts.tag ≡ hmac key parts.link) (sym (one_entry bytes entry authenticated.0 found authenticated.1)) authenticated.2

-- the first entry of a log was authenticated under its first key
pub first_authenticated : (first_key : List ℕ) (events : List EventData) (entry : List ℕ) → is_closed events ≡ true → IsLog events
    → entry ≡ slice_index_or (log_entries first_key events) 0 [] → IsAuthenticatedUnder first_key entry
first_authenticated first_key [] entry closed log is = absurd (grind (arith, closed))
first_authenticated first_key (event ∷ events) entry closed log is = (
  sealed_parts first_key first_link event,
  record {
    parts_fit = sealed_parts_fit first_key first_link event log.0;
    rest = [];
    split = is ∙ sym (append-nil (bytes_of_parts (sealed_parts first_key first_link event)));
  },
  refl,
)

some_events : (events : List EventData) → is_closed events ≡ true → 0 < length events
some_events [] closed = absurd (grind (arith, closed))
some_events (event ∷ events) closed = omega arith

-- the header of events that don't close the log has the key that their first key has become
header_key : {header : Header} (origin : Origin) (events : List EventData) → header ≡ header_of (stamp_of header) origin events → header.key ≡ key_left origin.first_key events
unfolding contents_of
header_key origin events is = ap (λ (h : Header). h.key) is

header_count : {header : Header} (origin : Origin) (events : List EventData) → header ≡ header_of (stamp_of header) origin events → header.count ≡ length events
unfolding contents_of
header_count origin events is = ap (λ (h : Header). h.count) is

header_closed : {header : Header} (origin : Origin) (events : List EventData) → header ≡ header_of (stamp_of header) origin events → header.closed ≡ is_closed events
unfolding contents_of
header_closed origin events is = ap (λ (h : Header). h.closed) is

open_key : (first_key : List ℕ) (events : List EventData) (closed : Bool) → is_closed events ≡ closed → closed ≡ false → key_left first_key events ≡ evolved_key first_key (length events)
open_key first_key events closed is unclosed = ap (λ (c : Bool). cond c (zeros KEY_LEN) (evolved_key first_key (length events))) (is ∙ unclosed)

module _ {D : Type 0} {g : sectors.Ghosts D} {E : Type 0} {h : sectors.Ghosts E} where
  -- what a rotation under a fresh key comes to
  pub under_fresh_key : (view : View) (first_key : List ℕ) (old looked closed : Store D g) (before after : Option (List ℕ)) (result : Result (Store E h) RotationError)
      → IsJudged first_key old looked false → FreshOutcome view first_key looked closed before after result
      → RotationOutcome view first_key old closed before after result
  under_fresh_key view first_key old looked closed before after (Ok new) judged outcome = record { looked = looked; judged = judged; outcome = outcome }
  under_fresh_key view first_key old looked closed before after (Err error) judged outcome = inr (record { looked = looked; judged = judged; outcome = outcome })

module _ {D : Type 0} {g : sectors.Ghosts D} where
  pub judged_as : {key : List ℕ} {old new : Store D g} (found wanted : Bool) → found ≡ wanted → IsJudged key old new found → IsJudged key old new wanted
  judged_as {key = key} {old = old} {new = new} found wanted is judged = subst (IsJudged key old new) is judged

  -- an open log that holds events has the key that its first key has become
  pub held_open : (store : Store D g) (origin : Origin) (events : List EventData) → Holds store origin events → (active_header store).closed ≡ false → evolved_key origin.first_key (active_header store).count ≡ (active_header store).key
  held_open store origin events holds unclosed =
      let is = holds.events_are.header_is in
      ap (evolved_key origin.first_key) (header_count origin events is)
      ∙ sym (open_key origin.first_key events (active_header store).closed (sym (header_closed origin events is)) unclosed)
      ∙ sym (header_key origin events is)

  pub held_closed : (store : Store D g) (origin : Origin) (events : List EventData) → Holds store origin events → (active_header store).closed ≡ true → (is_closed events ≡ true) × (0 < length events)
  held_closed store origin events holds closed =
      let is = sym (header_closed origin events holds.events_are.header_is) ∙ closed in (is, some_events events is)

  -- the entry that was returned was read
  pub was_read : (old new : Store D g) (entry : Vec ℕ Global) → IsEntry {Z = Global} old new 0 (Ok entry) → IsIndexedEntryRead (device old) (active_header old) (index_of old) 0 entry.items
  was_read old new entry is = by_sound (is_broken old) refl
    where
      by_count : (is_broken old ≡ false) → (0 < (active_header old).count) ⊎ ((active_header old).count ≤ 0) → IsIndexedEntryRead (device old) (active_header old) (index_of old) 0 entry.items
      by_count sound (inl known) = is.known sound known
      by_count sound (inr unknown) = let no = is.unknown sound unknown in absurd (grind (arith, no))

      by_sound : (broken : Bool) → is_broken old ≡ broken → IsIndexedEntryRead (device old) (active_header old) (index_of old) 0 entry.items
      by_sound true broken = let no = is.broken broken in absurd (grind (arith, no))
      by_sound false sound = by_count sound (cases_lt 0 (active_header old).count)
