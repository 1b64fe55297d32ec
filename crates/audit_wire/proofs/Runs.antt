-- Consecutive pieces: the bodies returned and the bytes held back depend on the bytes so far.
use Rattle.std.proofs.Common.{◌≡◌, ℕ, true, false, if◌then◌else◌, List, [], ◌∷◌, ◌++◌, length, take, drop, refl, sym, ap, subst, ◌∙◌, append_assoc}
use Rattle.std.proofs.lemmas.List.{append-nil, take-append-drop}
use Rattle.audit_wire.specs.declared.fed.Fed.{Fed}
use Rattle.audit_wire.specs.declared.fed.Fed.TheVariants as fed
use Rattle.audit_wire.specs.declared.grammar.Grammar.{Grammar}
use Rattle.audit_wire.specs.declared.request.Request.{Request}
use Rattle.audit_wire.specs.Frame.{frame, IsPartial, IsBadLength}
use Rattle.audit_wire.specs.Request.{request_by}
use Rattle.audit_wire.specs.Stream.{Framed, spoiled, all_in_front, framed_bodies, read_first, requests_of, requests_in, framed_by}
use Rattle.audit_wire.specs.Progress.{DecoderProgress, reading, whole, malformed, closed, rest_of, taken_of, is_spoiled, HasJustTaken, IsDecoderProgress, IsDecoderAnswer, Spoils, taken_by, untaken, handed_out, requests_ahead, IsPieceTaken, IsDecoderFed, Feeding, IsRun, bytes_taken, bodies_given, progress_after}
use Rattle.audit_wire.proofs.Framing.{bodies_partial, bodies_bad, bodies_frame, requests_bad, requests_frame}

-- the bodies in the stream from here on, if these bytes come
abbrev pub bodies_ahead : DecoderProgress → List ℕ → Framed (List ℕ)
bodies_ahead progress bytes = if is_spoiled progress then spoiled else framed_bodies (rest_of progress ++ bytes)

bad-append : (bytes more : List ℕ) → IsBadLength bytes → framed_bodies (bytes ++ more) ≡ spoiled
bad-append [] more h = absurd h
bad-append (high ∷ []) more h = absurd h
bad-append (high ∷ low ∷ []) more h = bodies_bad high low more h
bad-append (high ∷ low ∷ next ∷ bytes) more h = absurd h

-- ---- one piece

taken_step : (held piece more : List ℕ) (answer : Fed) (new : DecoderProgress) → IsPieceTaken held piece answer new
    → framed_bodies (held ++ (taken_by answer piece ++ more)) ≡ all_in_front (handed_out new) (bodies_ahead new more)
taken_step held piece more fed.More new t =
    subst (λ (after : DecoderProgress). framed_bodies (held ++ (piece ++ more)) ≡ all_in_front (handed_out after) (bodies_ahead after more)) (sym t.1)
    (ap framed_bodies (sym (append_assoc held piece more)))
taken_step held piece more (fed.Body taken) new t =
    subst (λ (after : DecoderProgress). framed_bodies (held ++ (take taken piece ++ more)) ≡ all_in_front (handed_out after) (bodies_ahead after more)) (sym t.2.3)
    (ap framed_bodies (sym (append_assoc held (take taken piece) more)) ∙ ap (λ (front : List ℕ). framed_bodies (front ++ more)) t.2.2 ∙ bodies_frame t.2.0 more t.2.1)
taken_step held piece more (fed.Malformed taken) new t =
    subst (λ (after : DecoderProgress). framed_bodies (held ++ (take taken piece ++ more)) ≡ all_in_front (handed_out after) (bodies_ahead after more)) (sym t.3)
    (ap framed_bodies (sym (append_assoc held (take taken piece) more)) ∙ bad-append (held ++ take taken piece) more t.2)

dropped : (new : DecoderProgress) (more : List ℕ) → new ≡ closed → spoiled ≡ all_in_front (handed_out new) (bodies_ahead new more)
dropped new more e = subst (λ (after : DecoderProgress). spoiled ≡ all_in_front (handed_out after) (bodies_ahead after more)) (sym e) refl

-- the bodies ahead before a piece are those that it completes, followed by those ahead after it
pub fed_bodies : (old : DecoderProgress) (piece more : List ℕ) (answer : Fed) (new : DecoderProgress) → IsDecoderFed old piece answer new
    → bodies_ahead old (taken_by answer piece ++ more) ≡ all_in_front (handed_out new) (bodies_ahead new more)
fed_bodies (reading held) piece more answer new f = taken_step held piece more answer new f
fed_bodies (whole body) piece more answer new f = taken_step [] piece more answer new f
fed_bodies (malformed bytes) piece more answer new f = dropped new more f.1
fed_bodies closed piece more answer new f = dropped new more f.1

-- ---- the same for requests

requests_in-front : (grammar : Grammar) (bodies : List (List ℕ)) (framed : Framed (List ℕ)) → requests_in grammar (all_in_front bodies framed) ≡ requests_of grammar bodies (requests_in grammar framed)
requests_in-front grammar [] framed = refl
requests_in-front grammar (body ∷ bodies) framed = ap (λ (following : Framed Request). read_first (request_by grammar body) following) (requests_in-front grammar bodies framed)

ahead_in : (grammar : Grammar) (progress : DecoderProgress) (bytes : List ℕ) → requests_ahead grammar progress bytes ≡ requests_in grammar (bodies_ahead progress bytes)
unfolding framed_by
ahead_in grammar (reading held) bytes = refl
ahead_in grammar (whole body) bytes = refl
ahead_in grammar (malformed held) bytes = refl
ahead_in grammar closed bytes = refl

parts : (answer : Fed) (piece later : List ℕ) → piece ++ later ≡ taken_by answer piece ++ (untaken answer piece ++ later)
parts fed.More piece later = refl
parts (fed.Body taken) piece later = sym (sym (append_assoc (take taken piece) (drop taken piece) later) ∙ ap (λ (all : List ℕ). all ++ later) (take-append-drop taken piece))
parts (fed.Malformed taken) piece later = sym (sym (append_assoc (take taken piece) (drop taken piece) later) ∙ ap (λ (all : List ℕ). all ++ later) (take-append-drop taken piece))

-- the requests ahead before a piece are those that it returns, followed by those ahead after the bytes taken
pub fed_ahead : (grammar : Grammar) (old : DecoderProgress) (piece : List ℕ) (answer : Fed) (new : DecoderProgress) (later : List ℕ) → IsDecoderFed old piece answer new
    → requests_ahead grammar old (taken_by answer piece ++ later) ≡ requests_of grammar (handed_out new) (requests_ahead grammar new later)
fed_ahead grammar old piece answer new later f =
    ahead_in grammar old (taken_by answer piece ++ later)
    ∙ ap (requests_in grammar) (fed_bodies old piece later answer new f)
    ∙ requests_in-front grammar (handed_out new) (bodies_ahead new later)
    ∙ ap (λ (following : Framed Request). requests_of grammar (handed_out new) following) (sym (ahead_in grammar new later))

pub fed_requests : (grammar : Grammar) (old : DecoderProgress) (piece : List ℕ) (answer : Fed) (new : DecoderProgress) (later : List ℕ) → IsDecoderFed old piece answer new
    → requests_ahead grammar old (piece ++ later) ≡ requests_of grammar (handed_out new) (requests_ahead grammar new (untaken answer piece ++ later))
fed_requests grammar old piece answer new later f =
    ap (λ (bytes : List ℕ). requests_ahead grammar old bytes) (parts answer piece later)
    ∙ fed_ahead grammar old piece answer new (untaken answer piece ++ later) f

-- ---- how much of a piece is taken

answer_taken : (held piece : List ℕ) (answer : Fed) (new : DecoderProgress) → IsPieceTaken held piece answer new → IsDecoderAnswer answer (length piece) new
answer_taken held piece fed.More new t = tt
answer_taken held piece (fed.Body taken) new t = (t.0, t.1, subst HasJustTaken (sym t.2.3) tt)
answer_taken held piece (fed.Malformed taken) new t = (t.0, t.1, subst HasJustTaken (sym t.3) tt)

answer_dropped : (answer : Fed) (size : ℕ) (new : DecoderProgress) → answer ≡ fed.More → IsDecoderAnswer answer size new
answer_dropped answer size new e = subst (λ (given : Fed). IsDecoderAnswer given size new) (sym e) tt

pub fed_answer : (old : DecoderProgress) (piece : List ℕ) (answer : Fed) (new : DecoderProgress) → IsDecoderFed old piece answer new → IsDecoderAnswer answer (length piece) new
fed_answer (reading held) piece answer new f = answer_taken held piece answer new f
fed_answer (whole body) piece answer new f = answer_taken [] piece answer new f
fed_answer (malformed bytes) piece answer new f = answer_dropped answer (length piece) new f.0
fed_answer closed piece answer new f = answer_dropped answer (length piece) new f.0

-- ---- the bytes so far of a frame, and whether the stream is spoiled

so_far_taken : (held piece : List ℕ) (answer : Fed) (new : DecoderProgress) → IsPieceTaken held piece answer new → taken_of new ≡ held ++ taken_by answer piece
so_far_taken held piece fed.More new t = ap taken_of t.1
so_far_taken held piece (fed.Body taken) new t = ap taken_of t.2.3 ∙ sym t.2.2
so_far_taken held piece (fed.Malformed taken) new t = ap taken_of t.3

pub fed_so_far : (old : DecoderProgress) (piece : List ℕ) (answer : Fed) (new : DecoderProgress) → IsDecoderFed old piece answer new → is_spoiled old ≡ false
    → taken_of new ≡ rest_of old ++ taken_by answer piece
fed_so_far (reading held) piece answer new f live = so_far_taken held piece answer new f
fed_so_far (whole body) piece answer new f live = so_far_taken [] piece answer new f
fed_so_far (malformed bytes) piece answer new f live = absurd cc
fed_so_far closed piece answer new f live = absurd cc

spoils_taken : (held piece : List ℕ) (answer : Fed) (new : DecoderProgress) → IsPieceTaken held piece answer new → Spoils answer false (is_spoiled new)
spoils_taken held piece fed.More new t = ap is_spoiled t.1
spoils_taken held piece (fed.Body taken) new t = (refl, ap is_spoiled t.2.3)
spoils_taken held piece (fed.Malformed taken) new t = (refl, ap is_spoiled t.3)

spoils_dropped : (answer : Fed) (new : DecoderProgress) → answer ≡ fed.More → new ≡ closed → Spoils answer true (is_spoiled new)
spoils_dropped answer new none e = subst (λ (given : Fed). Spoils given true (is_spoiled new)) (sym none) (ap is_spoiled e)

pub fed_spoils : (old : DecoderProgress) (piece : List ℕ) (answer : Fed) (new : DecoderProgress) → IsDecoderFed old piece answer new → Spoils answer (is_spoiled old) (is_spoiled new)
fed_spoils (reading held) piece answer new f = spoils_taken held piece answer new f
fed_spoils (whole body) piece answer new f = spoils_taken [] piece answer new f
fed_spoils (malformed bytes) piece answer new f = spoils_dropped answer new f.0 f.1
fed_spoils closed piece answer new f = spoils_dropped answer new f.0 f.1

-- ---- a byte that was put back

bad_requests : (grammar : Grammar) (bytes more : List ℕ) → IsBadLength bytes → framed_by grammar (bytes ++ more) ≡ spoiled
bad_requests grammar [] more h = absurd h
bad_requests grammar (high ∷ []) more h = absurd h
bad_requests grammar (high ∷ low ∷ []) more h = requests_bad grammar high low more h
bad_requests grammar (high ∷ low ∷ next ∷ bytes) more h = absurd h

-- once the byte came again, the bytes are the original ones
again : (held taken later : List ℕ) (byte : ℕ) → taken ≡ held ++ byte ∷ [] → held ++ byte ∷ later ≡ taken ++ later
again held taken later byte e = sym (append_assoc held (byte ∷ []) later) ∙ ap (λ (bytes : List ℕ). bytes ++ later) (sym e)

given_back : (grammar : Grammar) (old : DecoderProgress) (held : List ℕ) (byte : ℕ) (later : List ℕ) → IsDecoderProgress old → HasJustTaken old → taken_of old ≡ held ++ byte ∷ []
    → framed_by grammar (held ++ byte ∷ later) ≡ requests_of grammar (handed_out old) (requests_ahead grammar old later)
given_back grammar (reading bytes) held byte later p h e = absurd h
given_back grammar (whole body) held byte later p h e = ap (framed_by grammar) (again held (frame body) later byte e) ∙ requests_frame grammar body later p
given_back grammar (malformed bytes) held byte later p h e = ap (framed_by grammar) (again held bytes later byte e) ∙ bad_requests grammar bytes later p
given_back grammar closed held byte later p h e = absurd h

pub put_back_requests : (grammar : Grammar) (old new : DecoderProgress) (byte : ℕ) (later : List ℕ) → IsDecoderProgress old → HasJustTaken old → new ≡ reading (rest_of new) → taken_of old ≡ rest_of new ++ byte ∷ []
    → requests_ahead grammar new (byte ∷ later) ≡ requests_of grammar (handed_out old) (requests_ahead grammar old later)
put_back_requests grammar old new byte later p h n e =
    ap (λ (after : DecoderProgress). requests_ahead grammar after (byte ∷ later)) n ∙ given_back grammar old (rest_of new) byte later p h e

-- ---- many pieces

kept_taken : (held piece : List ℕ) (answer : Fed) (new : DecoderProgress) → IsPieceTaken held piece answer new → IsDecoderProgress new
kept_taken held piece fed.More new t = subst IsDecoderProgress (sym t.1) t.0
kept_taken held piece (fed.Body taken) new t = subst IsDecoderProgress (sym t.2.3) t.2.1
kept_taken held piece (fed.Malformed taken) new t = subst IsDecoderProgress (sym t.3) t.2

pub kept : (old : DecoderProgress) (piece : List ℕ) (answer : Fed) (new : DecoderProgress) → IsDecoderFed old piece answer new → IsDecoderProgress new
kept (reading held) piece answer new f = kept_taken held piece answer new f
kept (whole body) piece answer new f = kept_taken [] piece answer new f
kept (malformed bytes) piece answer new f = subst IsDecoderProgress (sym f.1) tt
kept closed piece answer new f = subst IsDecoderProgress (sym f.1) tt

-- what is held back is less than a whole frame
pub rest_partial : (progress : DecoderProgress) → IsDecoderProgress progress → IsPartial (rest_of progress)
rest_partial (reading bytes) h = h
rest_partial (whole body) h = tt
rest_partial (malformed bytes) h = tt
rest_partial closed h = tt

ahead_at_end : (progress : DecoderProgress) → IsDecoderProgress progress → bodies_ahead progress [] ≡ record { items = []; malformed = is_spoiled progress; rest = rest_of progress }
ahead_at_end (reading bytes) h = ap framed_bodies (append-nil bytes) ∙ bodies_partial bytes h
ahead_at_end (whole body) h = bodies_partial [] tt
ahead_at_end (malformed bytes) h = refl
ahead_at_end closed h = refl

pub run_reads : (start : DecoderProgress) (run : List Feeding) → IsDecoderProgress start → IsRun start run
    → bodies_ahead start (bytes_taken run) ≡ record { items = bodies_given run; malformed = is_spoiled (progress_after start run); rest = rest_of (progress_after start run) }
run_reads start [] h r = ahead_at_end start h
run_reads start (feeding ∷ later) h r =
    fed_bodies start feeding.piece (bytes_taken later) feeding.answer feeding.after r.0
    ∙ ap (λ (framed : Framed (List ℕ)). all_in_front (handed_out feeding.after) framed)
    (run_reads feeding.after later (kept start feeding.piece feeding.answer feeding.after r.0) r.1)
