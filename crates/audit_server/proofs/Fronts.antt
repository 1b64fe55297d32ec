-- What is found at the start of a piece.
use Rattle.std.proofs.Common.{◌≡◌, ◌∙◌, ℕ, ◌-◌, ◌<◌, ◌≤◌, false, Option, Some, None, List, [], ◌∷◌, ◌++◌, length, take, refl, sym, ap, subst, append_assoc}
use Rattle.audit_wire.specs.declared.grammar.Grammar.{Grammar}
use Rattle.audit_wire.specs.declared.grammar.Grammar.TheVariants as grammar
use Rattle.audit_wire.specs.declared.request.Request.{Request}
use Rattle.audit_wire.specs.declared.fed.Fed.{Fed}
use Rattle.audit_wire.specs.declared.fed.Fed.TheVariants as fed
use Rattle.audit_wire.specs.Frame.{IsBadLength}
use Rattle.audit_wire.specs.Request.{request_by}
use Rattle.audit_wire.specs.Stream.{rest_alone, spoiled, read_first, framed_by}
use Rattle.audit_wire.specs.Progress.{DecoderProgress, reading, whole, malformed, closed, rest_of, body_of, is_spoiled, taken_but_one, requests_ahead, HasJustTaken, IsPieceTaken, IsDecoderFed, PutsBack}
use Rattle.audit_wire.proofs.Framing.{requests_partial, requests_bad, requests_frame}
use Rattle.audit_wire.proofs.GivingBack.{any_given_back, ahead_given_back}
use Rattle.audit_server.specs.Feeding.{place_after}

-- a stream that isn't spoiled continues with the bytes held back
pub live_ahead : (grammar : Grammar) (progress : DecoderProgress) (bytes : List ℕ) → is_spoiled progress ≡ false → requests_ahead grammar progress bytes ≡ framed_by grammar (rest_of progress ++ bytes)
live_ahead grammar (reading held) bytes live = refl
live_ahead grammar (whole body) bytes live = refl
live_ahead grammar (malformed held) bytes live = absurd (cc live)
live_ahead grammar closed bytes live = absurd (cc live)

-- ---- no whole frame

pub record StaysPart (grammar : Grammar) (old new : DecoderProgress) (piece : List ℕ) : Type 0 where
  pub framed : framed_by grammar (rest_of old ++ piece) ≡ rest_alone (rest_of new)
  pub live : is_spoiled new ≡ false
  pub partial : framed_by grammar (rest_of new) ≡ rest_alone (rest_of new)

part_of : (grammar : Grammar) (old new : DecoderProgress) (held piece : List ℕ) → rest_of old ≡ held → IsPieceTaken held piece fed.More new → StaysPart grammar old new piece
part_of grammar old new held piece is taken = record {
  framed = ap (λ (bytes : List ℕ). framed_by grammar (bytes ++ piece)) is ∙ requests_partial grammar (held ++ piece) taken.0 ∙ ap (λ (p : DecoderProgress). rest_alone (rest_of p)) (sym taken.1);
  live = ap is_spoiled taken.1;
  partial = subst (λ (p : DecoderProgress). framed_by grammar (rest_of p) ≡ rest_alone (rest_of p)) (sym taken.1) (requests_partial grammar (held ++ piece) taken.0);
}

pub front_more : (grammar : Grammar) (old new : DecoderProgress) (piece : List ℕ) → is_spoiled old ≡ false → IsDecoderFed old piece fed.More new → StaysPart grammar old new piece
front_more grammar (reading held) new piece live taken = part_of grammar (reading held) new held piece refl taken
front_more grammar (whole body) new piece live taken = part_of grammar (whole body) new [] piece refl taken
front_more grammar (malformed held) new piece live taken = absurd (cc live)
front_more grammar closed new piece live taken = absurd (cc live)

-- ---- a whole frame, or a malformed length

pub record EndsFrame (grammar : Grammar) (old new : DecoderProgress) (piece : List ℕ) (taken : ℕ) : Type 0 where
  pub some : 0 < taken
  pub within : taken ≤ length piece
  pub just : HasJustTaken new
  pub rest : rest_of new ≡ []
  pub framed : (later : List ℕ) → framed_by grammar (rest_of old ++ (take taken piece ++ later)) ≡ read_first (request_by grammar (body_of new)) (framed_by grammar later)

bad_ahead : (grammar : Grammar) (bytes later : List ℕ) → IsBadLength bytes → framed_by grammar (bytes ++ later) ≡ spoiled
bad_ahead grammar [] later bad = absurd bad
bad_ahead grammar (high ∷ []) later bad = absurd bad
bad_ahead grammar (high ∷ low ∷ []) later bad = requests_bad grammar high low later bad
bad_ahead grammar (high ∷ low ∷ next ∷ bytes) later bad = absurd bad

pub no_request : (grammar : Grammar) → request_by grammar [] ≡ None
unfolding request_by
no_request grammar = refl

ends_body : (grammar : Grammar) (old new : DecoderProgress) (held piece : List ℕ) (taken : ℕ) → rest_of old ≡ held → IsPieceTaken held piece (fed.Body taken) new → EndsFrame grammar old new piece taken
ends_body grammar old new held piece taken is h =
    let body = h.2.0 in
    let now : new ≡ whole body = h.2.3 in
    record {
      some = h.0;
      within = h.1;
      just = subst HasJustTaken (sym now) tt;
      rest = ap rest_of now;
      framed = λ later.
          ap (λ (bytes : List ℕ). framed_by grammar (bytes ++ (take taken piece ++ later))) is
          ∙ ap (framed_by grammar) (sym (append_assoc held (take taken piece) later))
          ∙ ap (λ (bytes : List ℕ). framed_by grammar (bytes ++ later)) h.2.2
          ∙ requests_frame grammar body later h.2.1
          ∙ ap (λ (p : DecoderProgress). read_first (request_by grammar (body_of p)) (framed_by grammar later)) (sym now);
    }

ends_bad : (grammar : Grammar) (old new : DecoderProgress) (held piece : List ℕ) (taken : ℕ) → rest_of old ≡ held → IsPieceTaken held piece (fed.Malformed taken) new → EndsFrame grammar old new piece taken
ends_bad grammar old new held piece taken is h =
    let now : new ≡ malformed (held ++ take taken piece) = h.3 in
    record {
      some = h.0;
      within = h.1;
      just = subst HasJustTaken (sym now) tt;
      rest = ap rest_of now;
      framed = λ later.
          ap (λ (bytes : List ℕ). framed_by grammar (bytes ++ (take taken piece ++ later))) is
          ∙ ap (framed_by grammar) (sym (append_assoc held (take taken piece) later))
          ∙ bad_ahead grammar (held ++ take taken piece) later h.2
          ∙ ap (λ (read : Option Request). read_first read (framed_by grammar later)) (sym (no_request grammar))
          ∙ ap (λ (p : DecoderProgress). read_first (request_by grammar (body_of p)) (framed_by grammar later)) (sym now);
    }

pub front_ended : (grammar : Grammar) (old new : DecoderProgress) (piece : List ℕ) (answer : Fed) (taken : ℕ) → is_spoiled old ≡ false → IsDecoderFed old piece answer new → place_after answer ≡ Some taken → EndsFrame grammar old new piece taken
front_ended grammar old new piece fed.More taken live h is = absurd (cc is)
front_ended grammar (reading held) new piece (fed.Body count) taken live h is = subst (EndsFrame grammar (reading held) new piece) (cc is) (ends_body grammar (reading held) new held piece count refl h)
front_ended grammar (whole body) new piece (fed.Body count) taken live h is = subst (EndsFrame grammar (whole body) new piece) (cc is) (ends_body grammar (whole body) new [] piece count refl h)
front_ended grammar (malformed held) new piece (fed.Body count) taken live h is = absurd (cc live)
front_ended grammar closed new piece (fed.Body count) taken live h is = absurd (cc live)
front_ended grammar (reading held) new piece (fed.Malformed count) taken live h is = subst (EndsFrame grammar (reading held) new piece) (cc is) (ends_bad grammar (reading held) new held piece count refl h)
front_ended grammar (whole body) new piece (fed.Malformed count) taken live h is = subst (EndsFrame grammar (whole body) new piece) (cc is) (ends_bad grammar (whole body) new [] piece count refl h)
front_ended grammar (malformed held) new piece (fed.Malformed count) taken live h is = absurd (cc live)
front_ended grammar closed new piece (fed.Malformed count) taken live h is = absurd (cc live)

-- ---- the last byte of the frame is put back

but_one : (answer : Fed) (taken : ℕ) (piece : List ℕ) → place_after answer ≡ Some taken → taken_but_one answer piece ≡ take (taken - 1) piece
but_one fed.More taken piece is = absurd (cc is)
but_one (fed.Body count) taken piece is = ap (λ (n : ℕ). take (n - 1) piece) (cc is)
but_one (fed.Malformed count) taken piece is = ap (λ (n : ℕ). take (n - 1) piece) (cc is)

pub record GoesBack (grammar : Grammar) (old new : DecoderProgress) (piece : List ℕ) (taken : ℕ) : Type 0 where
  pub live : is_spoiled new ≡ false
  pub partial : framed_by grammar (rest_of new) ≡ rest_alone (rest_of new)
  pub framed : (later : List ℕ) → framed_by grammar (rest_of old ++ (take (taken - 1) piece ++ later)) ≡ framed_by grammar (rest_of new ++ later)

pub front_undone : (grammar : Grammar) (old mid new : DecoderProgress) (piece : List ℕ) (answer : Fed) (taken : ℕ) → is_spoiled old ≡ false → IsDecoderFed old piece answer mid → place_after answer ≡ Some taken → HasJustTaken mid → PutsBack mid new → GoesBack grammar old new piece taken
front_undone grammar old mid new piece answer taken live h is just back =
    let part : StaysPart grammar old new (taken_but_one answer piece) = front_more grammar old new (taken_but_one answer piece) live (any_given_back old mid new piece answer h just back) in
    record {
      live = part.live;
      partial = part.partial;
      framed = λ later.
          ap (λ (bytes : List ℕ). framed_by grammar (rest_of old ++ (bytes ++ later))) (sym (but_one answer taken piece is))
          ∙ sym (live_ahead grammar old (taken_but_one answer piece ++ later) live)
          ∙ ahead_given_back grammar old mid new piece answer later h just back
          ∙ live_ahead grammar new later part.live;
    }
