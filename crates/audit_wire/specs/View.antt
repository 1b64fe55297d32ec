-- A view of a request, and the request that it shows.
use Rattle.std.specs.Prelude.{Option, Some, None, Result, Ok, Err}
use Rattle.audit_wire.specs.declared.request.Request.{Request}
use Rattle.audit_wire.specs.declared.request.Request.TheVariants as request
use Rattle.audit_wire.specs.declared.view.RequestView.{RequestView}
use Rattle.audit_wire.specs.declared.view.RequestView.TheVariants as view
use Rattle.audit_wire.specs.declared.malformed.Malformed.{Malformed}

-- the request shown by a view
abbrev pub request_shown : RequestView → Request
request_shown (view.Append tag kind payload) = request.Append tag kind payload.now
request_shown (view.Commitment tag) = request.Commitment tag
request_shown (view.Membership tag index count) = request.Membership tag index count
request_shown (view.Incremental tag older newer) = request.Incremental tag older newer
request_shown (view.Entry tag index) = request.Entry tag index
request_shown (view.Close tag) = request.Close tag
request_shown (view.State tag) = request.State tag
request_shown (view.Place tag kind) = request.Place tag kind
request_shown (view.PlacedAppend tag kind place payload) = request.PlacedAppend tag kind place payload.now

-- a request without a payload
abbrev pub IsQuery : RequestView → Type 0
IsQuery (view.Append tag kind payload) = ⊥
IsQuery (view.PlacedAppend tag kind place payload) = ⊥
IsQuery _ = Unit {0}

-- the request that was read, if any
abbrev pub request_read : Result RequestView Malformed → Option Request
request_read (Ok view) = Some (request_shown view)
request_read (Err fault) = None
