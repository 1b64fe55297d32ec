-- What is at the start of a stream: less than a whole frame, a length that no request has, or a frame.
use Rattle.std.proofs.Common.{◌≡◌, ℕ, zero, suc, ◌+◌, ◌<◌, ◌≤◌, Bool, true, false, cond, leb, List, [], ◌∷◌, ◌++◌, length, take, drop, Option, Some, None, refl, sym, ap, subst, ◌∙◌, append_assoc, arith, inl, inr, length-append, length-drop, length-take}
use Rattle.std.specs.Int.{w16, to_be_bytes, from_be_bytes}
use Rattle.std.proofs.lemmas.Bool.{cases_lt, cases_Bool, both_ways, and_parts, and_from, leb-true, le-leb, lt-leb, cond-true, cond-false}
use Rattle.std.proofs.lemmas.List.{take_at, drop_at, take-append-drop}
use Rattle.std.proofs.lemmas.Nat.{from_be_bytes-to_be_bytes_2}
use Rattle.audit_wire.specs.declared.limits.TheConstants.{MAX_BODY}
use Rattle.audit_wire.specs.declared.grammar.Grammar.{Grammar}
use Rattle.audit_wire.specs.declared.request.Request.{Request}
use Rattle.audit_wire.specs.Frame.{frame, size_of, IsBodySize, is_body_size, IsPartial}
use Rattle.audit_wire.specs.Request.{request_by}
use Rattle.audit_wire.specs.Stream.{Framed, rest_alone, spoiled, in_front, all_in_front, bodies_within, framed_bodies, read_first, requests_in, framed_by, continued}

-- ---- the test of a size

pub size_passes : (size : ℕ) → IsBodySize size → is_body_size size ≡ true
size_passes size h = and_from (leb 1 size) (leb size MAX_BODY) (le-leb 1 size h.0) (le-leb size MAX_BODY h.1)

pub size_holds : (size : ℕ) → is_body_size size ≡ true → IsBodySize size
size_holds size h =
    let parts = and_parts (leb 1 size) (leb size MAX_BODY) h in
    (leb-true 1 size parts.0, leb-true size MAX_BODY parts.1)

pub size_fails : (size : ℕ) → (IsBodySize size → ⊥) → is_body_size size ≡ false
size_fails size h = elim (cases_Bool (is_body_size size)) [ inl e ↦ absurd (h (size_holds size e)) | inr e ↦ e ]

-- ---- at most a number of bodies

within_partial : (count : ℕ) (bytes : List ℕ) → IsPartial bytes → bodies_within count bytes ≡ rest_alone bytes
unfolding bodies_within
within_partial zero bytes h = refl
within_partial (suc count) [] h = refl
within_partial (suc count) (high ∷ []) h = refl
within_partial (suc count) (high ∷ low ∷ bytes) h =
    let size = size_of high low in
    let goes_on = in_front (take size bytes) (bodies_within count (drop size bytes)) in
    let stays : Framed (List ℕ) = rest_alone (high ∷ low ∷ bytes) in
    cond-true (is_body_size size) (cond (leb size (length bytes)) goes_on stays) spoiled (size_passes size h.0)
    ∙ cond-false (leb size (length bytes)) goes_on stays (lt-leb size (length bytes) h.1)

within_bad : (count high low : ℕ) (bytes : List ℕ) → (IsBodySize (size_of high low) → ⊥) → bodies_within (suc count) (high ∷ low ∷ bytes) ≡ spoiled
unfolding bodies_within
within_bad count high low bytes h =
    let size = size_of high low in
    let stays : Framed (List ℕ) = rest_alone (high ∷ low ∷ bytes) in
    cond-false (is_body_size size) (cond (leb size (length bytes)) (in_front (take size bytes) (bodies_within count (drop size bytes))) stays) spoiled (size_fails size h)

within_whole : (count high low : ℕ) (bytes : List ℕ) → IsBodySize (size_of high low) → size_of high low ≤ length bytes
    → bodies_within (suc count) (high ∷ low ∷ bytes) ≡ in_front (take (size_of high low) bytes) (bodies_within count (drop (size_of high low) bytes))
unfolding bodies_within
within_whole count high low bytes h le =
    let size = size_of high low in
    let goes_on = in_front (take size bytes) (bodies_within count (drop size bytes)) in
    let stays : Framed (List ℕ) = rest_alone (high ∷ low ∷ bytes) in
    cond-true (is_body_size size) (cond (leb size (length bytes)) goes_on stays) spoiled (size_passes size h)
    ∙ cond-true (leb size (length bytes)) goes_on stays (le-leb size (length bytes) le)

-- the number of bytes is a sufficient number of steps
within_enough : (count other : ℕ) (bytes : List ℕ) → length bytes ≤ count → length bytes ≤ other → bodies_within count bytes ≡ bodies_within other bytes
unfolding bodies_within
within_enough zero zero bytes h k = refl
within_enough zero (suc other) [] h k = refl
within_enough zero (suc other) (high ∷ bytes) h k = absurd (omega arith)
within_enough (suc count) zero [] h k = refl
within_enough (suc count) zero (high ∷ bytes) h k = absurd (omega arith)
within_enough (suc count) (suc other) [] h k = refl
within_enough (suc count) (suc other) (high ∷ []) h k = refl
within_enough (suc count) (suc other) (high ∷ low ∷ bytes) h k =
    let size = size_of high low in
    let stays : Framed (List ℕ) = rest_alone (high ∷ low ∷ bytes) in
    ap (λ (after : Framed (List ℕ)). cond (is_body_size size) (cond (leb size (length bytes)) (in_front (take size bytes) after) stays) spoiled)
    (within_enough count other (drop size bytes) (omega (arith, length-drop size bytes)) (omega (arith, length-drop size bytes)))

-- ---- the bodies of a stream

pub bodies_partial : (bytes : List ℕ) → IsPartial bytes → framed_bodies bytes ≡ rest_alone bytes
unfolding framed_bodies
bodies_partial bytes h = within_partial (length bytes) bytes h

pub bodies_bad : (high low : ℕ) (bytes : List ℕ) → (IsBodySize (size_of high low) → ⊥) → framed_bodies (high ∷ low ∷ bytes) ≡ spoiled
unfolding framed_bodies
bodies_bad high low bytes h = within_bad (suc (length bytes)) high low bytes h

pub bodies_whole : (high low : ℕ) (body more : List ℕ) → IsBodySize (length body) → size_of high low ≡ length body
    → framed_bodies (high ∷ low ∷ (body ++ more)) ≡ in_front body (framed_bodies more)
unfolding framed_bodies
bodies_whole high low body more h e =
    let size = size_of high low in
    let total : length (body ++ more) ≡ length body + length more = length-append body more in
    within_whole (suc (length (body ++ more))) high low (body ++ more) (subst IsBodySize (sym e) h) (omega arith)
    ∙ ap (λ (front : List ℕ). in_front front (bodies_within (suc (length (body ++ more))) (drop size (body ++ more)))) (take_at body more size (sym e))
    ∙ ap (λ (back : List ℕ). in_front body (bodies_within (suc (length (body ++ more))) back)) (drop_at body more size (sym e))
    ∙ ap (λ (after : Framed (List ℕ)). in_front body after) (within_enough (suc (length (body ++ more))) (length more) more (omega arith) (omega arith))

-- the size that a frame announces
pub frame_size : (size : ℕ) → IsBodySize size → from_be_bytes w16 (to_be_bytes w16 size) ≡ size
frame_size size h = from_be_bytes-to_be_bytes_2 size (omega (arith, h.1))

pub bodies_frame : (body more : List ℕ) → IsBodySize (length body) → framed_bodies (frame body ++ more) ≡ in_front body (framed_bodies more)
bodies_frame body more h = bodies_whole _ _ body more h (frame_size (length body) h)

-- ---- the requests of a stream

pub requests_partial : (grammar : Grammar) (bytes : List ℕ) → IsPartial bytes → framed_by grammar bytes ≡ rest_alone bytes
unfolding framed_by
requests_partial grammar bytes h = ap (requests_in grammar) (bodies_partial bytes h)

pub requests_bad : (grammar : Grammar) (high low : ℕ) (bytes : List ℕ) → (IsBodySize (size_of high low) → ⊥) → framed_by grammar (high ∷ low ∷ bytes) ≡ spoiled
unfolding framed_by
requests_bad grammar high low bytes h = ap (requests_in grammar) (bodies_bad high low bytes h)

pub requests_whole : (grammar : Grammar) (high low : ℕ) (body more : List ℕ) → IsBodySize (length body) → size_of high low ≡ length body
    → framed_by grammar (high ∷ low ∷ (body ++ more)) ≡ read_first (request_by grammar body) (framed_by grammar more)
unfolding framed_by
requests_whole grammar high low body more h e = ap (requests_in grammar) (bodies_whole high low body more h e)

pub requests_frame : (grammar : Grammar) (body more : List ℕ) → IsBodySize (length body) → framed_by grammar (frame body ++ more) ≡ read_first (request_by grammar body) (framed_by grammar more)
requests_frame grammar body more h = requests_whole grammar _ _ body more h (frame_size (length body) h)

-- ---- the cases of the start of a stream

pub data First (bytes : List ℕ) : Type 0 where
  partial : IsPartial bytes → First bytes
  bad : (high low : ℕ) (more : List ℕ) → (IsBodySize (size_of high low) → ⊥) → bytes ≡ high ∷ low ∷ more → First bytes
  whole : (high low : ℕ) (body more : List ℕ) → IsBodySize (length body) → size_of high low ≡ length body → bytes ≡ high ∷ low ∷ (body ++ more) → First bytes

pub first_of_stream : (bytes : List ℕ) → First bytes
first_of_stream [] = partial tt
first_of_stream (high ∷ []) = partial tt
first_of_stream (high ∷ low ∷ bytes) =
    let size = size_of high low in
    elim (cases_Bool (is_body_size size)) [
      | inl e ↦ elim (cases_lt (length bytes) size) [
        | inl lt ↦ partial (size_holds size e, lt)
        | inr le ↦
            let body_length : length (take size bytes) ≡ size = omega (arith, length-take size bytes) in
            whole high low (take size bytes) (drop size bytes) (subst IsBodySize (sym body_length) (size_holds size e)) (sym body_length)
            (ap (λ (after : List ℕ). high ∷ low ∷ after) (sym (take-append-drop size bytes)))
      ]
      | inr e ↦ bad high low bytes (λ h. both_ways (is_body_size size) e (size_passes size h)) refl
    ]

-- ---- more bytes at the end

-- a choice after a request is the request, followed by the choice
choice_in_front : (flag : Bool) (asked : Request) (framed later : Framed Request)
    → cond flag (in_front asked framed) (all_in_front (asked ∷ framed.items) later) ≡ in_front asked (cond flag framed (all_in_front framed.items later))
choice_in_front true asked framed later = refl
choice_in_front false asked framed later = refl

continued_first : (grammar : Grammar) (found : Option Request) (framed : Framed Request) (more : List ℕ) → continued grammar (read_first found framed) more ≡ read_first found (continued grammar framed more)
continued_first grammar None framed more = refl
continued_first grammar (Some asked) framed more = choice_in_front framed.malformed asked framed (framed_by grammar (framed.rest ++ more))

-- one step of the induction over the number of bytes
continued_step : (grammar : Grammar) (bytes more : List ℕ) → ((shorter : List ℕ) → length shorter < length bytes → framed_by grammar (shorter ++ more) ≡ continued grammar (framed_by grammar shorter) more)
    → First bytes → framed_by grammar (bytes ++ more) ≡ continued grammar (framed_by grammar bytes) more
continued_step grammar bytes more before (partial h) = sym (ap (λ (framed : Framed Request). continued grammar framed more) (requests_partial grammar bytes h))
continued_step grammar bytes more before (bad high low after h e) =
    ap (λ (all : List ℕ). framed_by grammar (all ++ more)) e ∙ requests_bad grammar high low (after ++ more) h
    ∙ sym (ap (λ (all : List ℕ). continued grammar (framed_by grammar all) more) e ∙ ap (λ (framed : Framed Request). continued grammar framed more) (requests_bad grammar high low after h))
continued_step grammar bytes more before (whole high low body after h size e) =
    ap (λ (all : List ℕ). framed_by grammar (all ++ more)) e
    ∙ ap (λ (all : List ℕ). framed_by grammar (high ∷ low ∷ all)) (append_assoc body after more)
    ∙ requests_whole grammar high low body (after ++ more) h size
    ∙ ap (λ (framed : Framed Request). read_first (request_by grammar body) framed) (before after (omega (arith, ap length e, length-append body after)))
    ∙ sym (continued_first grammar (request_by grammar body) (framed_by grammar after) more)
    ∙ sym (ap (λ (all : List ℕ). continued grammar (framed_by grammar all) more) e ∙ ap (λ (framed : Framed Request). continued grammar framed more) (requests_whole grammar high low body after h size))

continued_below : (grammar : Grammar) (count : ℕ) (bytes more : List ℕ) → length bytes < count → framed_by grammar (bytes ++ more) ≡ continued grammar (framed_by grammar bytes) more
continued_below grammar zero bytes more lt = absurd (omega arith)
continued_below grammar (suc count) bytes more lt = continued_step grammar bytes more (λ shorter less. continued_below grammar count shorter more (omega arith)) (first_of_stream bytes)

-- earlier requests are unchanged, and the rest is read together with the new bytes
pub requests-append : (grammar : Grammar) (bytes more : List ℕ) → framed_by grammar (bytes ++ more) ≡ continued grammar (framed_by grammar bytes) more
requests-append grammar bytes more = continued_below grammar (suc (length bytes)) bytes more (omega arith)
