-- The tokens of an event's line.
use Rattle.std.specs.Prelude.{IsUtf8, OnOk, is_ok, codes}
use Rattle.std.proofs.Common.{◌≡◌, Result, Ok, Err, ℕ, Bool, true, false, cond, List, [], ◌∷◌, ◌++◌, refl, sym, ap, ◌∙◌, append_assoc}
use Rattle.std.specs.Fmt.{decimal}
use Rattle.std.specs.Str.{is_utf8}
use Rattle.std.proofs.lemmas.Str.{is_utf8-from_IsUtf8, IsUtf8-from_is_utf8}
use Rattle.hex.specs.Hex.{encode_lower}
use Rattle.json.specs.Token.{Token, begin_object, end_object, key, string, number}
use Rattle.json.specs.Json as json
use Rattle.json.specs.Tree.{json_tokens, members_tokens}
use Rattle.json.specs.Print.{print}
use Rattle.audit_text.specs.NumberedEvent.{NumberedEvent}
use Rattle.audit_text.specs.JsonLine.{json_line, event_object, payload_tokens}

-- a test that fails for each proof of its statement
no_text : (payload : List ℕ) (test : Bool) → is_utf8 payload ≡ test → ¬ (IsUtf8 payload) → is_utf8 payload ≡ false
no_text payload true is other = absurd (other (IsUtf8-from_is_utf8 payload is))
no_text payload false is other = is

pub text_tokens : (payload : List ℕ) → IsUtf8 payload → payload_tokens payload ≡ key (codes "text") ∷ string payload ∷ []
text_tokens payload utf8 =
    ap (λ (b : Bool). cond b (key (codes "text") ∷ string payload ∷ []) (key (codes "hex") ∷ string (encode_lower payload) ∷ []))
    (is_utf8-from_IsUtf8 payload utf8)

pub hex_tokens : (payload : List ℕ) → ¬ (IsUtf8 payload) → payload_tokens payload ≡ key (codes "hex") ∷ string (encode_lower payload) ∷ []
hex_tokens payload other =
    ap (λ (b : Bool). cond b (key (codes "text") ∷ string payload ∷ []) (key (codes "hex") ∷ string (encode_lower payload) ∷ []))
    (no_text payload (is_utf8 payload) refl other)

member_tokens : (test : Bool) (payload digits : List ℕ)
    → members_tokens (cond test (json.member (codes "text") (json.string payload) json.no_members) (json.member (codes "hex") (json.string digits) json.no_members))
    ≡ cond test (key (codes "text") ∷ string payload ∷ []) (key (codes "hex") ∷ string digits ∷ []) ++ end_object ∷ []
member_tokens true payload digits = refl
member_tokens false payload digits = refl

-- what is written for an event
abbrev pub written_tokens : NumberedEvent → List Token
written_tokens event =
    begin_object ∷ key (codes "index") ∷ number (decimal event.index) ∷ key (codes "kind") ∷ number (decimal event.kind)
    ∷ (payload_tokens event.payload ++ end_object ∷ [])

pub object_tokens : (event : NumberedEvent) → json_tokens (event_object event) ≡ written_tokens event
object_tokens event =
    ap (λ (rest : List Token).
    begin_object ∷ key (codes "index") ∷ number (decimal event.index) ∷ key (codes "kind") ∷ number (decimal event.kind) ∷ rest)
    (member_tokens (is_utf8 event.payload) event.payload (encode_lower event.payload))

pub line_written : (event : NumberedEvent) (old made new : List ℕ) (tokens : List Token) → tokens ≡ written_tokens event
    → made ≡ old ++ print tokens → new ≡ made ++ 10 ∷ [] → new ≡ old ++ json_line event
unfolding json_line
line_written event old made new tokens are is_made is_new =
    is_new
    ∙ ap (λ (front : List ℕ). front ++ 10 ∷ []) (is_made ∙ ap (λ (ts : List Token). old ++ print ts) (are ∙ sym (object_tokens event)))
    ∙ append_assoc old (print (json_tokens (event_object event))) (10 ∷ [])

-- the last piece of the line, where it was written
pub line_ended : {E : Type 0} (result : Result (Unit {0}) E) (made new : List ℕ) → new ≡ cond (is_ok result) (made ++ 10 ∷ []) made → OnOk result (new ≡ made ++ 10 ∷ [])
line_ended (Ok unit) made new is = is
line_ended (Err error) made new is = tt
