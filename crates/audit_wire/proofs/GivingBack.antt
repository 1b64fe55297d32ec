-- Putting back a byte that was fed.
use Rattle.std.proofs.Common.{◌≡◌, ◌+◌, ◌-◌, ◌<◌, ◌≤◌, ℕ, List, [], ◌∷◌, ◌++◌, length, take, get_or, refl, sym, ap, subst, ◌∙◌, append_assoc, arith, length-append}
use Rattle.std.proofs.lemmas.List.{take_at, take_more}
use Rattle.audit_wire.specs.declared.fed.Fed.{Fed}
use Rattle.audit_wire.specs.declared.grammar.Grammar.{Grammar}
use Rattle.audit_wire.specs.declared.fed.Fed.TheVariants as fed
use Rattle.audit_wire.specs.Frame.{IsPartial}
use Rattle.audit_wire.specs.Progress.{DecoderProgress, reading, whole, malformed, closed, rest_of, taken_of, taken_by, taken_but_one, handed_out, requests_ahead, HasJustTaken, IsPieceTaken, IsDecoderFed, PutsBack}
use Rattle.audit_wire.specs.Stream.{requests_of}
use Rattle.audit_wire.proofs.Runs.{fed_ahead}

-- two equal lists, each with a last byte
fronts : (xs ys : List ℕ) (x y : ℕ) → xs ++ x ∷ [] ≡ ys ++ y ∷ [] → xs ≡ ys
fronts xs ys x y same =
    let size : length xs ≡ length ys = omega (arith, ap length same, length-append xs (x ∷ []), length-append ys (y ∷ [])) in
    sym (take_at xs (x ∷ []) (length xs) refl) ∙ ap (take (length xs)) same ∙ take_at ys (y ∷ []) (length xs) (sym size)

-- the bytes held back together with the piece, and those held back after the byte is put back
without_last : (held piece : List ℕ) (byte : ℕ) (taken new : DecoderProgress) → held ++ (piece ++ byte ∷ []) ≡ taken_of taken → PutsBack taken new → IsPieceTaken held piece fed.More new
without_last held piece byte taken new all back =
    let same : held ++ piece ≡ rest_of new = fronts (held ++ piece) (rest_of new) byte back.byte (append_assoc held piece (byte ∷ []) ∙ all ∙ back.taken) in
    (subst IsPartial (sym same) back.partial, back.begun ∙ ap reading (sym same))

undone : (held piece : List ℕ) (byte : ℕ) (answer : Fed) (taken new : DecoderProgress) → IsPieceTaken held (piece ++ byte ∷ []) answer taken → taken_by answer (piece ++ byte ∷ []) ≡ piece ++ byte ∷ []
    → HasJustTaken taken → PutsBack taken new → IsPieceTaken held piece fed.More new
undone held piece byte fed.More taken new h all just back = absurd (subst HasJustTaken h.1 just)
undone held piece byte (fed.Body count) taken new h all just back =
    without_last held piece byte taken new (ap (λ (bytes : List ℕ). held ++ bytes) (sym all) ∙ h.2.2 ∙ ap taken_of (sym h.2.3)) back
undone held piece byte (fed.Malformed count) taken new h all just back =
    without_last held piece byte taken new (ap (λ (bytes : List ℕ). held ++ bytes) (sym all) ∙ ap taken_of (sym h.3)) back

pub given_back : (old taken new : DecoderProgress) (piece : List ℕ) (byte : ℕ) (answer : Fed) → IsDecoderFed old (piece ++ byte ∷ []) answer taken
    → taken_by answer (piece ++ byte ∷ []) ≡ piece ++ byte ∷ [] → HasJustTaken taken → PutsBack taken new → IsDecoderFed old piece fed.More new
given_back (reading held) taken new piece byte answer h all just back = undone held piece byte answer taken new h all just back
given_back (whole body) taken new piece byte answer h all just back = undone [] piece byte answer taken new h all just back
given_back (malformed bytes) taken new piece byte answer h all just back = absurd (subst HasJustTaken h.1 just)
given_back closed taken new piece byte answer h all just back = absurd (subst HasJustTaken h.1 just)

-- ---- for any piece

-- the bytes taken are all but the last of them, and that byte
last_taken : (held piece : List ℕ) (count : ℕ) (taken new : DecoderProgress) → 0 < count → count ≤ length piece → held ++ take count piece ≡ taken_of taken → PutsBack taken new
    → IsPieceTaken held (take (count - 1) piece) fed.More new
last_taken held piece count taken new some within all back =
    let next : (count - 1) + 1 ≡ count = omega arith in
    let front : take count piece ≡ take (count - 1) piece ++ get_or piece (count - 1) 0 ∷ [] = ap (λ (n : ℕ). take n piece) (sym next) ∙ take_more piece (count - 1) 0 (omega arith) in
    without_last held (take (count - 1) piece) (get_or piece (count - 1) 0) taken new (ap (λ (bytes : List ℕ). held ++ bytes) (sym front) ∙ all) back

any_undone : (held piece : List ℕ) (answer : Fed) (taken new : DecoderProgress) → IsPieceTaken held piece answer taken → HasJustTaken taken → PutsBack taken new
    → IsPieceTaken held (taken_but_one answer piece) fed.More new
any_undone held piece fed.More taken new h just back = absurd (subst HasJustTaken h.1 just)
any_undone held piece (fed.Body count) taken new h just back = last_taken held piece count taken new h.0 h.1 (h.2.2 ∙ ap taken_of (sym h.2.3)) back
any_undone held piece (fed.Malformed count) taken new h just back = last_taken held piece count taken new h.0 h.1 (ap taken_of (sym h.3)) back

pub any_given_back : (old taken new : DecoderProgress) (piece : List ℕ) (answer : Fed) → IsDecoderFed old piece answer taken → HasJustTaken taken → PutsBack taken new
    → IsDecoderFed old (taken_but_one answer piece) fed.More new
any_given_back (reading held) taken new piece answer h just back = any_undone held piece answer taken new h just back
any_given_back (whole body) taken new piece answer h just back = any_undone [] piece answer taken new h just back
any_given_back (malformed bytes) taken new piece answer h just back = absurd (subst HasJustTaken h.1 just)
any_given_back closed taken new piece answer h just back = absurd (subst HasJustTaken h.1 just)

-- a decoder to which a byte was put back has returned nothing
pub ahead_given_back : (grammar : Grammar) (old taken new : DecoderProgress) (piece : List ℕ) (answer : Fed) (later : List ℕ) → IsDecoderFed old piece answer taken → HasJustTaken taken → PutsBack taken new
    → requests_ahead grammar old (taken_but_one answer piece ++ later) ≡ requests_ahead grammar new later
ahead_given_back grammar old taken new piece answer later h just back =
    fed_ahead grammar old (taken_but_one answer piece) fed.More new later (any_given_back old taken new piece answer h just back)
    ∙ ap (λ (after : DecoderProgress). requests_of grammar (handed_out after) (requests_ahead grammar new later)) back.begun
