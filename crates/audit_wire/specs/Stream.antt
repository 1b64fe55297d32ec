-- What a byte stream contains so far: the whole frames at its start; then either one malformed place, after which
-- nothing is read, or the start of an incomplete frame.
use Rattle.std.specs.Prelude.{◌≡◌, ◌≢◌, ℕ, zero, suc, ◌≤◌, Bool, true, false, nat_le, if◌then◌else◌, List, [], ◌∷◌}
use Rattle.std.specs.Prelude.{◌++◌, length, take, drop, Option, Some, None}
use Rattle.std.specs.List.{flat_map, AllByRecursion}
use Rattle.audit_wire.specs.declared.grammar.Grammar.{Grammar}
use Rattle.audit_wire.specs.declared.grammar.Grammar.TheVariants as grammar
use Rattle.audit_wire.specs.declared.request.Request.{Request}
use Rattle.audit_wire.specs.Frame.{frame, size_of, IsBodySize, is_body_size, IsPartial}
use Rattle.audit_wire.specs.Request.{request_body, request_by, IsRequestBy}

pub record Framed (Item : Type 0) : Type 0 where
  pub items : List Item
  pub malformed : Bool
  pub rest : List ℕ

-- only a rest
abbrev pub rest_alone : {Item : Type 0} → List ℕ → Framed Item
rest_alone bytes = record { items = []; malformed = false; rest = bytes }

-- only a malformed place
abbrev pub spoiled : {Item : Type 0} → Framed Item
spoiled = record { items = []; malformed = true; rest = [] }

-- the same with one more item at the front, or with several
abbrev pub in_front : {Item : Type 0} → Item → Framed Item → Framed Item
in_front item framed = record { items = item ∷ framed.items; malformed = framed.malformed; rest = framed.rest }

abbrev pub all_in_front : {Item : Type 0} → List Item → Framed Item → Framed Item
all_in_front items framed = record { items = items ++ framed.items; malformed = framed.malformed; rest = framed.rest }

-- ---- the bodies of the frames

-- at most `count` bodies of a stream
unfoldable pub bodies_within : ℕ → List ℕ → Framed (List ℕ)
bodies_within zero bytes = rest_alone bytes
bodies_within (suc count) [] = rest_alone []
bodies_within (suc count) (high ∷ []) = rest_alone (high ∷ [])
bodies_within (suc count) (high ∷ low ∷ bytes) =
    if is_body_size (size_of high low)
    then (if nat_le (size_of high low) (length bytes)
    then in_front (take (size_of high low) bytes) (bodies_within count (drop (size_of high low) bytes))
    else rest_alone (high ∷ low ∷ bytes))
    else spoiled

-- the bodies of a stream, of which there are at most as many as bytes
unfoldable pub framed_bodies : List ℕ → Framed (List ℕ)
framed_bodies bytes = bodies_within (length bytes) bytes

-- ---- the requests

-- the first body is a request, or else a malformed place
abbrev pub read_first : Option Request → Framed Request → Framed Request
read_first None after = spoiled
read_first (Some request) after = in_front request after

abbrev pub requests_of : Grammar → List (List ℕ) → Framed Request → Framed Request
requests_of grammar [] after = after
requests_of grammar (body ∷ bodies) after = read_first (request_by grammar body) (requests_of grammar bodies after)

abbrev pub requests_in : Grammar → Framed (List ℕ) → Framed Request
requests_in grammar bodies =
    requests_of grammar bodies.items (record { items = []; malformed = bodies.malformed; rest = bodies.rest })

-- the requests framed in a byte stream, by a grammar, and by that of every session
unfoldable pub framed_by : Grammar → List ℕ → Framed Request
framed_by grammar bytes = requests_in grammar (framed_bodies bytes)

abbrev pub framed_requests : List ℕ → Framed Request
framed_requests bytes = framed_by grammar.Plain bytes

-- the contents of a stream after more bytes, from its contents before
abbrev pub continued : Grammar → Framed Request → List ℕ → Framed Request
continued grammar framed more = if framed.malformed then framed
    else all_in_front framed.items (framed_by grammar (framed.rest ++ more))

-- ---- the same as a relation, independent of how a stream is read

abbrev pub request_frame : Request → List ℕ
request_frame request = frame (request_body request)

-- a place where no request's frame is or can come to be: a length that no request has, or a whole body that is no
-- request's
abbrev pub IsMalformedPlace : Grammar → List ℕ → Type 0
IsMalformedPlace grammar [] = ⊥
IsMalformedPlace grammar (high ∷ []) = ⊥
IsMalformedPlace grammar (high ∷ low ∷ bytes) =
    IsBodySize (size_of high low) → (size_of high low ≤ length bytes)
    × ((request : Request) → IsRequestBy grammar request → request_body request ≢ take (size_of high low) bytes)

-- what follows the requests
abbrev pub EndsIn : Grammar → Bool → List ℕ → List ℕ → Type 0
EndsIn grammar false rest place = IsPartial place × (rest ≡ place)
EndsIn grammar true rest place = IsMalformedPlace grammar place × (rest ≡ [])

-- the stream consists of the frames of these requests of the grammar, then a malformed place or the rest
pub record IsReading (grammar : Grammar) (bytes : List ℕ) (framed : Framed Request) : Type 0 where
  pub each : AllByRecursion (IsRequestBy grammar) framed.items
  pub place : List ℕ
  pub whole : bytes ≡ flat_map request_frame framed.items ++ place
  pub ends : EndsIn grammar framed.malformed framed.rest place
