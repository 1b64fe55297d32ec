-- A stream has one reading: the requests that its bytes frame.
use Rattle.std.proofs.Common.{◌≡◌, ◌≢◌, ℕ, zero, suc, ◌<◌, ◌≤◌, Bool, true, false, List, [], ◌∷◌, ◌++◌, length, take, drop, Option, Some, None, refl, sym, ap, subst, ◌∙◌, append_assoc, arith, inl, inr, length-append, length-take}
use Rattle.std.specs.List.{flat_map, AllByRecursion}
use Rattle.std.proofs.lemmas.Bool.{cases_Bool, both_ways}
use Rattle.std.proofs.lemmas.List.{take_at, take-append-drop}
use Rattle.std.proofs.lemmas.Nat.{be_bytes_2}
use Rattle.audit_wire.specs.declared.grammar.Grammar.{Grammar}
use Rattle.audit_wire.specs.declared.request.Request.{Request}
use Rattle.audit_base.specs.Bytes.{AreBytes}
use Rattle.audit_wire.specs.Frame.{frame, size_of, IsBodySize, is_body_size}
use Rattle.audit_wire.specs.Request.{request_body, request_by, IsRequestBy}
use Rattle.audit_wire.specs.Stream.{Framed, spoiled, in_front, read_first, framed_by, request_frame, IsMalformedPlace, EndsIn, IsReading}
use Rattle.audit_wire.proofs.Bodies.{AreBytes-take, request_found_by, request_again_by, request_size_by}
use Rattle.audit_wire.proofs.Filling.{two}
use Rattle.audit_wire.proofs.Framing.{size_holds, size_passes, requests_partial, requests_bad, requests_whole, requests_frame, First, partial, bad, whole, first_of_stream}

-- the frame of a request at the start reads grammar as that request
pub request_first : (grammar : Grammar) (asked : Request) (more : List ℕ) → IsRequestBy grammar asked → framed_by grammar (request_frame asked ++ more) ≡ in_front asked (framed_by grammar more)
request_first grammar asked more allowed =
    requests_frame grammar (request_body asked) more (request_size_by grammar asked allowed)
    ∙ ap (λ (found : Option Request). read_first found (framed_by grammar more)) (request_again_by grammar asked allowed)

-- ---- a body that isn't a request's

none_by : (grammar : Grammar) (body : List ℕ) (found : Option Request) → request_by grammar body ≡ found → AreBytes body → ((asked : Request) → IsRequestBy grammar asked → request_body asked ≢ body) → found ≡ None
none_by grammar body None e fits none = refl
none_by grammar body (Some asked) e fits none =
    let given = request_found_by grammar body asked fits e in
    absurd (none asked given.allowed (sym given.same))

no_request : (grammar : Grammar) (body : List ℕ) → AreBytes body → ((asked : Request) → IsRequestBy grammar asked → request_body asked ≢ body) → request_by grammar body ≡ None
no_request grammar body fits none = none_by grammar body (request_by grammar body) refl fits none

requests_malformed : (grammar : Grammar) (place : List ℕ) → AreBytes place → IsMalformedPlace grammar place → framed_by grammar place ≡ spoiled
requests_malformed grammar [] fits h = absurd h
requests_malformed grammar (high ∷ []) fits h = absurd h
requests_malformed grammar (high ∷ low ∷ bytes) fits h =
    let size = size_of high low in
    elim (cases_Bool (is_body_size size)) [
      | inl e ↦
          let known = h (size_holds size e) in
          let body_length : length (take size bytes) ≡ size = omega (arith, length-take size bytes, known.0) in
          let empty = no_request grammar (take size bytes) (AreBytes-take size bytes (λ place. fits (suc (suc place)))) known.1 in
          sym (ap (λ (after : List ℕ). framed_by grammar (high ∷ low ∷ after)) (take-append-drop size bytes))
          ∙ requests_whole grammar high low (take size bytes) (drop size bytes) (subst IsBodySize (sym body_length) (size_holds size e)) (sym body_length)
          ∙ ap (λ (found : Option Request). read_first found (framed_by grammar (drop size bytes))) empty
      | inr e ↦ requests_bad grammar high low bytes (λ k. both_ways (is_body_size size) e (size_passes size k))
    ]

-- ---- a reading agrees with the definition

reads : (grammar : Grammar) (items : List Request) (malformed : Bool) (rest place : List ℕ) → AreBytes place → AllByRecursion (IsRequestBy grammar) items → EndsIn grammar malformed rest place
    → framed_by grammar (flat_map request_frame items ++ place) ≡ record { items = items; malformed = malformed; rest = rest }
reads grammar [] false rest place fits each ends = requests_partial grammar place ends.0 ∙ ap (λ (left : List ℕ). record { items = []; malformed = false; rest = left }) (sym ends.1)
reads grammar [] true rest place fits each ends = requests_malformed grammar place fits ends.0 ∙ ap (λ (left : List ℕ). record { items = []; malformed = true; rest = left }) (sym ends.1)
reads grammar (asked ∷ items) malformed rest place fits each ends =
    ap (framed_by grammar) (append_assoc (request_frame asked) (flat_map request_frame items) place)
    ∙ request_first grammar asked (flat_map request_frame items ++ place) each.0
    ∙ ap (λ (framed : Framed Request). in_front asked framed) (reads grammar items malformed rest place fits each.1 ends)

AreBytes-after : (front bytes : List ℕ) → AreBytes (front ++ bytes) → AreBytes bytes
AreBytes-after [] bytes fits = fits
AreBytes-after (byte ∷ front) bytes fits = AreBytes-after front bytes (λ place. fits (suc place))

pub reading_is : (grammar : Grammar) (bytes : List ℕ) (framed : Framed Request) → AreBytes bytes → IsReading grammar bytes framed → framed ≡ framed_by grammar bytes
reading_is grammar bytes framed fits r =
    let after = AreBytes-after (flat_map request_frame framed.items) r.place (subst AreBytes r.whole fits) in
    sym (ap (framed_by grammar) r.whole ∙ reads grammar framed.items framed.malformed framed.rest r.place after r.each r.ends)

-- ---- the definition yields a reading

reading_spoiled : (grammar : Grammar) (high low : ℕ) (bytes : List ℕ) → (IsBodySize (size_of high low) → ⊥) → IsReading grammar (high ∷ low ∷ bytes) spoiled
reading_spoiled grammar high low bytes h = record { each = tt; place = high ∷ low ∷ bytes; whole = refl; ends = (λ k. absurd (h k), refl) }

abbrev nothing : Option Request
nothing = None

none_not_some : (asked : Request) → nothing ≡ Some asked → ⊥
none_not_some asked e = cc

-- a frame at the start, and a reading of what follows
reading_whole : (grammar : Grammar) (high low : ℕ) (body more : List ℕ) (found : Option Request) → high < 256 → low < 256 → AreBytes body → size_of high low ≡ length body → request_by grammar body ≡ found
    → IsReading grammar more (framed_by grammar more) → IsReading grammar (high ∷ low ∷ (body ++ more)) (read_first found (framed_by grammar more))
reading_whole grammar high low body more None high_fits low_fits fits size e r =
    let size_fits : size_of high low ≤ length (body ++ more) = omega (arith, length-append body more) in
    record {
      each = tt;
      place = high ∷ low ∷ (body ++ more);
      whole = refl;
      ends = (
        λ k. (
          size_fits,
          λ asked allowed same.
              let back : request_by grammar body ≡ Some asked = sym (ap (request_by grammar) (same ∙ take_at body more (size_of high low) (sym size))) ∙ request_again_by grammar asked allowed in
              absurd (none_not_some asked (sym e ∙ back)),
        ),
        refl,
      );
    }
reading_whole grammar high low body more (Some asked) high_fits low_fits fits size e r =
    let given = request_found_by grammar body asked fits e in
    let front : high ∷ low ∷ (body ++ more) ≡ frame body ++ more = ap (λ (bytes : List ℕ). (bytes ++ body) ++ more) (sym (be_bytes_2 (high ∷ low ∷ []) (length body) refl (two high low high_fits low_fits) (sym size))) in
    record {
      each = (given.allowed, r.each);
      place = r.place;
      whole = front ∙ ap (λ (bytes : List ℕ). frame bytes ++ more) given.same ∙ ap (λ (bytes : List ℕ). request_frame asked ++ bytes) r.whole
          ∙ sym (append_assoc (request_frame asked) (flat_map request_frame (framed_by grammar more).items) r.place);
      ends = r.ends;
    }

reading_step : (grammar : Grammar) (bytes : List ℕ) → AreBytes bytes → ((shorter : List ℕ) → length shorter < length bytes → AreBytes shorter → IsReading grammar shorter (framed_by grammar shorter))
    → First bytes → IsReading grammar bytes (framed_by grammar bytes)
reading_step grammar bytes fits before (partial h) = subst (λ (framed : Framed Request). IsReading grammar bytes framed) (sym (requests_partial grammar bytes h)) (record { each = tt; place = bytes; whole = refl; ends = (h, refl) })
reading_step grammar bytes fits before (bad high low more h e) =
    subst (λ (all : List ℕ). IsReading grammar all (framed_by grammar all)) (sym e)
    (subst (λ (framed : Framed Request). IsReading grammar (high ∷ low ∷ more) framed) (sym (requests_bad grammar high low more h)) (reading_spoiled grammar high low more h))
reading_step grammar bytes fits before (whole high low body more h size e) =
    let all_fit : AreBytes (high ∷ low ∷ (body ++ more)) = subst AreBytes e fits in
    let after_fits : AreBytes (body ++ more) = λ place. all_fit (suc (suc place)) in
    let body_fits : AreBytes body = subst AreBytes (take_at body more (length body) refl) (AreBytes-take (length body) (body ++ more) after_fits) in
    let r = before more (omega (arith, ap length e, length-append body more)) (AreBytes-after body more after_fits) in
    subst (λ (all : List ℕ). IsReading grammar all (framed_by grammar all)) (sym e)
    (subst (λ (framed : Framed Request). IsReading grammar (high ∷ low ∷ (body ++ more)) framed) (sym (requests_whole grammar high low body more h size))
    (reading_whole grammar high low body more (request_by grammar body) (all_fit 0) (all_fit 1) body_fits size refl r))

reading_below : (grammar : Grammar) (count : ℕ) (bytes : List ℕ) → length bytes < count → AreBytes bytes → IsReading grammar bytes (framed_by grammar bytes)
reading_below grammar zero bytes lt fits = absurd (omega arith)
reading_below grammar (suc count) bytes lt fits = reading_step grammar bytes fits (λ shorter less shorter_fits. reading_below grammar count shorter (omega arith) shorter_fits) (first_of_stream bytes)

pub reading_of : (grammar : Grammar) (bytes : List ℕ) → AreBytes bytes → IsReading grammar bytes (framed_by grammar bytes)
reading_of grammar bytes fits = reading_below grammar (suc (length bytes)) bytes (omega arith) fits
