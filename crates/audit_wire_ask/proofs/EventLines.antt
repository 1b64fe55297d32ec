-- The event in a line has a kind that a client may use, and its request is one of a daemon's clients.
use Rattle.std.specs.Prelude.{◌≡◌, ◌≢◌, ◌+◌, ◌<◌, ◌≤◌, ◌^◌, ℕ, nat_lt, nat_eq, ◌==◌, Bool, true, false, Option, Some, None, Result, Ok, Err, List, length, drop, codes, if◌then◌else◌}
use Rattle.std.specs.List.{starts_with, before_first, after_first}
use Rattle.std.proofs.Common.{refl, ap, subst, arith}
use Rattle.std.proofs.lemmas.Bool.{eqb-false, ltb-false}
use Rattle.audit_chain.specs.EventData.{EventData}
use Rattle.audit_base.specs.declared.limits.TheConstants.{MAX_PAYLOAD, RESERVED_KIND}
use Rattle.audit_text.specs.declared.fault.LineError.{LineError}
use Rattle.audit_text.specs.declared.fault.LineError.TheVariants.{BadEventLine, ReservedKind, PayloadTooLong}
use Rattle.audit_text.specs.EventLine.{is_space, kind_in_text, payload_of, event_of_texts, event_of_line}
use Rattle.audit_text.specs.declared.line_form.LineForm.{LineForm}
use Rattle.audit_text.specs.declared.line_form.LineForm.TheVariants.{Spelled, Text}
use Rattle.audit_text.specs.LineEvents.{event_in_line}
use Rattle.audit_wire.specs.declared.limits.TheConstants.{MAX_PLACED_PAYLOAD}
use Rattle.audit_wire.specs.Request.{IsDaemonRequest}
use Rattle.audit_wire_ask.specs.declared.places.Places.{Places}
use Rattle.audit_wire_ask.specs.declared.places.Places.TheVariants as places
use Rattle.audit_wire_ask.specs.Sending.{event_request, event_to_send, placeable, HasPlace}

abbrev pub IsUnreserved : Result EventData LineError → Type 0
IsUnreserved (Ok event) = event.kind ≢ RESERVED_KIND
IsUnreserved (Err cause) = Unit {0}

if_short : (long : Bool) (event : EventData) → event.kind ≢ RESERVED_KIND → IsUnreserved (if long then Err PayloadTooLong else Ok event)
if_short true event other = tt
if_short false event other = other

if_other : (reserved : Bool) (kind : ℕ) (payload : List ℕ) → (reserved ≡ false → kind ≢ RESERVED_KIND)
    → IsUnreserved (if reserved then Err ReservedKind else (if nat_lt MAX_PAYLOAD (length payload) then Err PayloadTooLong else Ok (record { kind = kind; payload = payload })))
if_other true kind payload other = tt
if_other false kind payload other = if_short (nat_lt MAX_PAYLOAD (length payload)) (record { kind = kind; payload = payload }) (other refl)

unreserved_texts : (kind : Option ℕ) (payload : Option (List ℕ)) → IsUnreserved (event_of_texts kind payload)
unreserved_texts None payload = tt
unreserved_texts (Some kind) None = tt
unreserved_texts (Some kind) (Some payload) = if_other (kind == RESERVED_KIND) kind payload (eqb-false kind RESERVED_KIND)

if_begun : (begun : Bool) (kind : Option ℕ) (payload : Option (List ℕ)) → IsUnreserved (if begun then event_of_texts kind payload else Err BadEventLine)
if_begun true kind payload = unreserved_texts kind payload
if_begun false kind payload = tt

unreserved_line : (line : List ℕ) → IsUnreserved (event_of_line line)
unfolding event_of_line
unreserved_line line =
    if_begun (starts_with nat_eq line (codes "event ")) (kind_in_text (before_first is_space (drop 6 line))) (payload_of (after_first is_space (drop 6 line)))

pub unreserved_in_line : (form : LineForm) (line : List ℕ) → IsUnreserved (event_in_line form line)
unreserved_in_line Spelled line = unreserved_line line
unreserved_in_line (Text kind) line = if_other (kind == RESERVED_KIND) kind line (eqb-false kind RESERVED_KIND)

-- ---- events that are sent

short_if : (long : Bool) (made event : EventData) → nat_lt MAX_PLACED_PAYLOAD (length made.payload) ≡ long → (if long then Err PayloadTooLong else Ok made) ≡ Ok event
    → (made ≡ event) × (length event.payload ≤ MAX_PLACED_PAYLOAD)
short_if true made event is e = absurd cc
short_if false made event is e =
    let same : made ≡ event = cc in
    (same, subst (λ (one : EventData). length one.payload ≤ MAX_PLACED_PAYLOAD) same (ltb-false MAX_PLACED_PAYLOAD (length made.payload) is))

abbrev found : EventData → Result EventData LineError
found event = Ok event

placed_parts : (given : Result EventData LineError) (event : EventData) → placeable given ≡ Ok event → (given ≡ Ok event) × (length event.payload ≤ MAX_PLACED_PAYLOAD)
placed_parts (Ok made) event e =
    let parts = short_if (nat_lt MAX_PLACED_PAYLOAD (length made.payload)) made event refl e in
    (ap found parts.0, parts.1)
placed_parts (Err cause) event e = absurd cc

-- an event that is sent is that of its line
pub sent_event : (places : Places) (form : LineForm) (line : List ℕ) (event : EventData) → event_to_send places form line ≡ Ok event → event_in_line form line ≡ Ok event
sent_event places.Any form line event e = e
sent_event (places.From first) form line event e = (placed_parts (event_in_line form line) event e).0

-- and its request is one of a daemon's clients
pub request_allowed : (places : Places) (form : LineForm) (line : List ℕ) (before : ℕ) (event : EventData) → event_to_send places form line ≡ Ok event → HasPlace places (before + 1) → event.kind < 2 ^ 32
    → length event.payload ≤ MAX_PAYLOAD → IsDaemonRequest (event_request places before event)
request_allowed places.Any form line before event e place kind payload = (omega arith, kind, subst IsUnreserved e (unreserved_in_line form line), payload)
request_allowed (places.From first) form line before event e place kind payload =
    let parts = placed_parts (event_in_line form line) event e in
    (omega arith, kind, subst IsUnreserved parts.0 (unreserved_in_line form line), omega arith, parts.1)
