-- The body of a request: the kind in one byte, the request tag in four, then the fields of that kind.
use Rattle.std.specs.Prelude.{◌≢◌, ℕ, ◌+◌, ◌<◌, ◌≤◌, ◌^◌, not, ◌&&◌, ◌==◌, nat_le, if◌then◌else◌, List, [], ◌∷◌, ◌++◌}
use Rattle.std.specs.Prelude.{length, drop, Option, Some, None}
use Rattle.std.specs.Int.{w32, w64, to_be_bytes}
use Rattle.audit_base.specs.Bytes.{number_at}
use Rattle.audit_base.specs.declared.limits.TheConstants.{MAX_PAYLOAD, RESERVED_KIND}
use Rattle.audit_wire.specs.declared.limits.TheConstants.{MAX_PLACED_PAYLOAD}
use Rattle.audit_wire.specs.declared.grammar.Grammar.{Grammar}
use Rattle.audit_wire.specs.declared.grammar.Grammar.TheVariants as grammar
use Rattle.audit_wire.specs.declared.request.Request.{Request}
use Rattle.audit_wire.specs.declared.request.Request.TheVariants as request
use Rattle.audit_wire.specs.declared.request_kind.RequestKind.{RequestKind}
use Rattle.audit_wire.specs.declared.request_kind.RequestKind.TheVariants as kind

-- the first byte of each kind
abbrev pub request_byte : RequestKind → ℕ
request_byte kind.Append = 1
request_byte kind.Commitment = 2
request_byte kind.Membership = 3
request_byte kind.Incremental = 4
request_byte kind.Entry = 5
request_byte kind.Close = 6
request_byte kind.State = 7
request_byte kind.Place = 8
request_byte kind.PlacedAppend = 9

-- the body of each request
abbrev pub request_body : Request → List ℕ
request_body (request.Append tag event_kind payload) =
    1 ∷ (to_be_bytes w32 tag ++ to_be_bytes w32 event_kind ++ payload)
request_body (request.Commitment tag) = 2 ∷ to_be_bytes w32 tag
request_body (request.Membership tag index count) =
    3 ∷ (to_be_bytes w32 tag ++ to_be_bytes w64 index ++ to_be_bytes w64 count)
request_body (request.Incremental tag older newer) =
    4 ∷ (to_be_bytes w32 tag ++ to_be_bytes w64 older ++ to_be_bytes w64 newer)
request_body (request.Entry tag index) = 5 ∷ (to_be_bytes w32 tag ++ to_be_bytes w64 index)
request_body (request.Close tag) = 6 ∷ to_be_bytes w32 tag
request_body (request.State tag) = 7 ∷ to_be_bytes w32 tag
request_body (request.Place tag event_kind) = 8 ∷ (to_be_bytes w32 tag ++ to_be_bytes w32 event_kind)
request_body (request.PlacedAppend tag event_kind place payload) =
    9 ∷ (to_be_bytes w32 tag ++ to_be_bytes w32 event_kind ++ to_be_bytes w64 place ++ payload)

-- A request that every session may make and that has a body: its numbers fit their fields, and an append has an allowed
-- kind and payload.
abbrev pub IsRequest : Request → Type 0
IsRequest (request.Append tag event_kind payload) = (tag < 2 ^ 32) × (event_kind < 2 ^ 32)
    × (event_kind ≢ RESERVED_KIND) × (length payload ≤ MAX_PAYLOAD)
IsRequest (request.Commitment tag) = tag < 2 ^ 32
IsRequest (request.Membership tag index count) = (tag < 2 ^ 32) × (index < 2 ^ 64) × (count < 2 ^ 64)
IsRequest (request.Incremental tag older newer) = (tag < 2 ^ 32) × (older < 2 ^ 64) × (newer < 2 ^ 64)
IsRequest (request.Entry tag index) = (tag < 2 ^ 32) × (index < 2 ^ 64)
IsRequest (request.Close tag) = tag < 2 ^ 32
IsRequest (request.State tag) = ⊥
IsRequest (request.Place tag event_kind) = ⊥
IsRequest (request.PlacedAppend tag event_kind place payload) = ⊥

-- a request that the clients of a daemon alone may make
abbrev pub IsDaemonsAlone : Request → Type 0
IsDaemonsAlone (request.State tag) = Unit {0}
IsDaemonsAlone (request.Place tag event_kind) = Unit {0}
IsDaemonsAlone (request.PlacedAppend tag event_kind place payload) = Unit {0}
IsDaemonsAlone _ = ⊥

-- The same as `IsRequest`, of the clients of a daemon: they may also ask for the state and for the place of a kind, and
-- append at a place.
abbrev pub IsDaemonRequest : Request → Type 0
IsDaemonRequest (request.State tag) = tag < 2 ^ 32
IsDaemonRequest (request.Place tag event_kind) = (tag < 2 ^ 32) × (event_kind < 2 ^ 32)
IsDaemonRequest (request.PlacedAppend tag event_kind place payload) = (tag < 2 ^ 32) × (event_kind < 2 ^ 32)
    × (event_kind ≢ RESERVED_KIND) × (place < 2 ^ 64) × (length payload ≤ MAX_PLACED_PAYLOAD)
IsDaemonRequest asked = IsRequest asked

abbrev pub IsRequestBy : Grammar → Request → Type 0
IsRequestBy grammar.Plain asked = IsRequest asked
IsRequestBy grammar.Daemon asked = IsDaemonRequest asked

-- the kind that the first byte of a body denotes, of those that every session may make, and by a grammar
abbrev pub kind_at : ℕ → Option RequestKind
kind_at byte =
    if byte == 1 then Some kind.Append else
    if byte == 2 then Some kind.Commitment else
    if byte == 3 then Some kind.Membership else
    if byte == 4 then Some kind.Incremental else
    if byte == 5 then Some kind.Entry else
    if byte == 6 then Some kind.Close else None

abbrev pub kind_in : Grammar → ℕ → Option RequestKind
kind_in grammar.Plain byte = kind_at byte
kind_in grammar.Daemon byte =
    if byte == 7 then Some kind.State else
    if byte == 8 then Some kind.Place else
    if byte == 9 then Some kind.PlacedAppend else kind_at byte

-- the request in the bytes after the first one, for each kind
unfoldable pub append_in : List ℕ → Option Request
append_in fields =
    if (nat_le 8 (length fields) && nat_le (length fields) (8 + MAX_PAYLOAD)) && not
    (number_at w32 4 fields == RESERVED_KIND)
    then Some (request.Append (number_at w32 0 fields) (number_at w32 4 fields) (drop 8 fields)) else None

unfoldable pub commitment_in : List ℕ → Option Request
commitment_in fields = if length fields == 4 then Some (request.Commitment (number_at w32 0 fields)) else None

unfoldable pub membership_in : List ℕ → Option Request
membership_in fields =
    if length fields == 20
    then Some (request.Membership (number_at w32 0 fields) (number_at w64 4 fields) (number_at w64 12 fields)) else None

unfoldable pub incremental_in : List ℕ → Option Request
incremental_in fields =
    if length fields == 20
    then Some (request.Incremental (number_at w32 0 fields) (number_at w64 4 fields) (number_at w64 12 fields))
    else None

unfoldable pub entry_in : List ℕ → Option Request
entry_in fields = if length fields == 12 then Some (request.Entry (number_at w32 0 fields) (number_at w64 4 fields))
    else None

unfoldable pub close_in : List ℕ → Option Request
close_in fields = if length fields == 4 then Some (request.Close (number_at w32 0 fields)) else None

unfoldable pub state_in : List ℕ → Option Request
state_in fields = if length fields == 4 then Some (request.State (number_at w32 0 fields)) else None

unfoldable pub place_in : List ℕ → Option Request
place_in fields = if length fields == 8 then Some (request.Place (number_at w32 0 fields) (number_at w32 4 fields))
    else None

unfoldable pub placed_append_in : List ℕ → Option Request
placed_append_in fields =
    if (nat_le 16 (length fields) && nat_le (length fields) (16 + MAX_PLACED_PAYLOAD)) && not
    (number_at w32 4 fields == RESERVED_KIND)
    then Some (request.PlacedAppend (number_at w32 0 fields) (number_at w32 4 fields) (number_at w64 8 fields)
    (drop 16 fields)) else None

abbrev pub fields_in : Option RequestKind → List ℕ → Option Request
fields_in None fields = None
fields_in (Some kind.Append) fields = append_in fields
fields_in (Some kind.Commitment) fields = commitment_in fields
fields_in (Some kind.Membership) fields = membership_in fields
fields_in (Some kind.Incremental) fields = incremental_in fields
fields_in (Some kind.Entry) fields = entry_in fields
fields_in (Some kind.Close) fields = close_in fields
fields_in (Some kind.State) fields = state_in fields
fields_in (Some kind.Place) fields = place_in fields
fields_in (Some kind.PlacedAppend) fields = placed_append_in fields

-- the request whose body this is, by a grammar, and of those that every session may make
unfoldable pub request_by : Grammar → List ℕ → Option Request
request_by grammar [] = None
request_by grammar (first ∷ fields) = fields_in (kind_in grammar first) fields

abbrev pub request_in : List ℕ → Option Request
request_in body = request_by grammar.Plain body
