-- Events as lines of JSON (RFC 8259), and read back.
use Rattle.std.specs.Prelude.{ℕ, Option, Some, None, option_and_then, List, [], ◌∷◌, ◌++◌, map, codes}
use Rattle.std.specs.Prelude.{if◌then◌else◌}
use Rattle.std.specs.Fmt.{decimal}
use Rattle.std.specs.Str.{is_utf8}
use Rattle.std.specs.Result.{result_ok}
use Rattle.hex.specs.Hex.{encode_lower, decode_of}
use Rattle.json.specs.Token.{Token}
use Rattle.json.specs.Json.{Json, number, string, object, Members, no_members, member, document}
use Rattle.json.specs.Tree.{json_tokens}
use Rattle.json.specs.Print.{print}
use Rattle.json.specs.Find.{get}
use Rattle.audit_text.specs.Lines.{lines_of, line_feed}
use Rattle.audit_text.specs.Number.{number_in_text}
use Rattle.audit_text.specs.NumberedEvent.{NumberedEvent, event_of_fields}

-- the payload as text if it is UTF-8, and otherwise in lower-case hex
abbrev pub payload_member : List ℕ → Members
payload_member payload =
    if is_utf8 payload then member (codes "text") (string payload) no_members
    else member (codes "hex") (string (encode_lower payload)) no_members

-- the object of an event: its index, its kind and its payload
abbrev pub event_object : NumberedEvent → Json
event_object event =
    object (member (codes "index") (number (decimal event.index))
    (member (codes "kind") (number (decimal event.kind)) (payload_member event.payload)))

-- the tokens of a payload's member
abbrev pub payload_tokens : List ℕ → List Token
payload_tokens payload =
    if is_utf8 payload then Token.key (codes "text") ∷ Token.string payload ∷ []
    else Token.key (codes "hex") ∷ Token.string (encode_lower payload) ∷ []

-- its line, as short as JSON allows
unfoldable pub json_line : NumberedEvent → List ℕ
json_line event = print (json_tokens (event_object event)) ++ line_feed ∷ []

abbrev pub number_of : Option Json → Option ℕ
number_of (Some (number digits)) = number_in_text digits
number_of _ = None

-- a text, or the bytes that hex digits spell
abbrev pub payload_of : Option Json → Option Json → Option (List ℕ)
payload_of (Some (string text)) _ = Some text
payload_of _ (Some (string digits)) = result_ok (decode_of digits)
payload_of _ _ = None

-- the event that an object is about, by its members
abbrev pub event_of_object : Json → Option NumberedEvent
event_of_object json =
    event_of_fields (number_of (get (codes "index") json)) (number_of (get (codes "kind") json))
    (payload_of (get (codes "text") json) (get (codes "hex") json))

-- the events whose lines were printed
abbrev pub events_of_json : List ℕ → List (Option NumberedEvent)
events_of_json printed = map (λ line. option_and_then event_of_object (document line)) (lines_of printed)
