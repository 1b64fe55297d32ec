-- Pieces of a session's stream.
use Rattle.std.proofs.Common.{◌≡◌, ◌≢◌, ◌↔◌, ◌∙◌, IsTrue, ℕ, ◌+◌, ◌-◌, ◌≤◌, Bool, true, false, ◌&&◌, if◌then◌else◌, Option, Some, None, Result, Ok, Err, List, [], ◌∷◌, ◌++◌, length, map, take, drop, refl, sym, ap, subst, append_assoc, arith, length-drop}
use Rattle.std.proofs.lemmas.List.{append-nil, take-append-drop, take_all, map-append}
use Rattle.std.proofs.Math.Seq.{take-add}
use Rattle.audit_disk_model.specs.declared.sectors.Sectors as sectors
use Rattle.audit_wire.specs.declared.request.Request.{Request}
use Rattle.audit_wire.specs.declared.fed.Fed.{Fed}
use Rattle.audit_wire.specs.declared.fed.Fed.TheVariants as fed
use Rattle.audit_wire.specs.Request.{request_by}
use Rattle.audit_wire.specs.Stream.{Framed, read_first, framed_by}
use Rattle.audit_wire.specs.Progress.{DecoderProgress, reading, whole, malformed, closed, rest_of, body_of, is_spoiled, IsDecoderFed, PutsBack}
use Rattle.audit_server_commit.specs.declared.question.Query.{Query}
use Rattle.audit_server_commit.specs.declared.question.Query.TheVariants.{NotAllowed}
use Rattle.audit_serve_passes.specs.declared.rights.Rights.{Rights}
use Rattle.audit_server_commit.specs.Heard.{Terms, Heard, allows, request_tag, is_not_allowed, heard_rest, stops_with, request_in_front, requests_in_front, heard_of, heard, last_arrival, arrivals_heard}
use Rattle.audit_server_commit.proofs.Hearing.{heard_partial}
use Rattle.audit_server_commit.specs.Arrivals.{Arrival, a_question, arrival_of, malformed_from}
use Rattle.audit_store.specs.Store.{is_broken}
use Rattle.audit_store.specs.declared.store_error.StoreError.{StoreError}
use Rattle.audit_server_commit.specs.declared.committer.Committer.{Committer}
use Rattle.audit_server_commit.specs.Committer.{store_of}
use Rattle.audit_server_commit.specs.Entering.{IsArrivalEnd}
use Rattle.audit_server.specs.Ending.{IsFrameEnd}
use Rattle.audit_server.specs.declared.feed_fault.FeedFault.{FeedFault}
use Rattle.audit_server_commit.specs.Sessions.{SessionData, heard_after, session_after, with_piece, arrivals_by_piece, arrivals_of_rest, arrivals_by_end}
use Rattle.audit_server.specs.Running.{HaveEntered, IsRefusedAfter, Run}
use Rattle.audit_server.specs.Entering.{arrival_by, item_heard, Enters}
use Rattle.audit_server.specs.declared.limit.Limit.{Limit}
use Rattle.audit_server.specs.Limit.{IsNotAdmitted, AreAdmitted}
use Rattle.audit_server.specs.Feeding.{session_view, IsLive, place_after, IsHeldBack, IsPart, IsWholeFeed, IsLast, IsUntaken, IsWithheld, IsFedWhole, IsFedUpTo, IsFedUpToRefusal}
use Rattle.audit_server.proofs.Limits.{taken_append, taken_as}
use Rattle.audit_server.proofs.Sound.{entered_sound, arrival_not_broken, request_not_broken}
use Rattle.audit_server.proofs.Runs.{run_none, run_more, run_as, run_refused}
use Rattle.audit_server.proofs.Fronts.{no_request, StaysPart, front_more, EndsFrame, GoesBack, front_undone}

-- ---- a live session, by its decoder

pub record Shows (terms : Terms) (progress : DecoderProgress) (ended cut : Bool) (session : SessionData) : Type 0 where
  pub view : session_view terms progress ended cut ≡ session
  pub live : session.ended ≡ false
  pub inside : IsLive progress ended

rest_shown : (terms : Terms) (progress : DecoderProgress) (ended cut : Bool) → ended ≡ false → (session_view terms progress ended cut).rest ≡ rest_of progress
rest_shown terms progress ended cut is = ap (λ (b : Bool). if b then [] else rest_of progress) is

heard_by : (terms : Terms) (progress : DecoderProgress) (ended cut : Bool) (bytes : List ℕ) → ended ≡ false → heard_after (session_view terms progress ended cut) bytes ≡ heard terms (rest_of progress ++ bytes)
heard_by terms progress ended cut bytes is = ap (λ (rest : List ℕ). heard terms (rest ++ bytes)) (rest_shown terms progress ended cut is)

module _ {terms : Terms} {progress : DecoderProgress} {ended cut : Bool} {session : SessionData} where
  not_ended : Shows terms progress ended cut session → ended ≡ false
  not_ended shows = ap (λ (s : SessionData). s.ended) shows.view ∙ shows.live

  uncut : Shows terms progress ended cut session → (ended && cut) ≡ false
  uncut shows = ap (λ (b : Bool). b && cut) (not_ended shows)

  pub unspoiled : Shows terms progress ended cut session → is_spoiled progress ≡ false
  unspoiled shows = shows.inside (not_ended shows)

  terms_are : Shows terms progress ended cut session → terms ≡ session.terms
  terms_are shows = ap (λ (s : SessionData). s.terms) shows.view

  rest_is : Shows terms progress ended cut session → session.rest ≡ rest_of progress
  rest_is shows = ap (λ (s : SessionData). s.rest) (sym shows.view) ∙ rest_shown terms progress ended cut (not_ended shows)

  heard_shown : (bytes : List ℕ) → Shows terms progress ended cut session → heard_after session bytes ≡ heard terms (rest_of progress ++ bytes)
  heard_shown bytes shows =
      ap (λ (s : SessionData). heard_after s bytes) (sym shows.view) ∙ heard_by terms progress ended cut bytes (not_ended shows)

-- what is taken of a body, followed by what is taken of the bytes after it
abbrev first_heard : Result Request Query → Heard → Heard
first_heard (Ok asked) following = request_in_front asked following
first_heard (Err last) following = stops_with last

heard_first : (allowed : Rights) (read : Option Request) (after : Framed Request) → heard_of allowed (read_first read after) ≡ first_heard (item_heard allowed read) (heard_of allowed after)
heard_first allowed None after = refl
heard_first allowed (Some asked) after = by (allows allowed asked)
  where
    refused : Query
    refused = NotAllowed (request_tag asked)

    by : (may : Bool) → (if may then request_in_front asked (heard_of allowed after) else stops_with refused) ≡ first_heard (if may then Ok asked else Err refused) (heard_of allowed after)
    by true = refl
    by false = refl

-- ---- the start of a piece

part_more : (answer : Fed) → place_after answer ≡ None → answer ≡ fed.More
part_more fed.More is = refl
part_more (fed.Body taken) is = absurd (cc is)
part_more (fed.Malformed taken) is = absurd (cc is)

none_some : {P : Type 0} (allowed : Rights) (read : Option Request) (asked : Request) → read ≡ None → item_heard allowed read ≡ Ok asked → P
none_some allowed None asked none is = absurd (cc is)
none_some allowed (Some request) asked none is = absurd (cc none)

pub not_spoiled : (terms : Terms) (progress : DecoderProgress) (asked : Request) → item_heard terms.rights (request_by terms.grammar (body_of progress)) ≡ Ok asked → is_spoiled progress ≡ false
not_spoiled terms (reading held) asked is = refl
not_spoiled terms (whole body) asked is = refl
not_spoiled terms (malformed held) asked is = none_some terms.rights (request_by terms.grammar []) asked (no_request terms.grammar) is
not_spoiled terms closed asked is = none_some terms.rights (request_by terms.grammar []) asked (no_request terms.grammar) is

arrivals_first : (k : ℕ) (found : Result Request Query) → arrivals_heard k (first_heard found (heard_rest [])) ≡ arrival_by k found ∷ []
arrivals_first k (Ok asked) = refl
arrivals_first k (Err last) = refl

-- ---- the incomplete frame

pub pending_so : {P : Type 0} (answer : Bool) → (IsTrue answer ↔ P) → answer ≡ true → P
pending_so true is here = is.0 refl
pending_so false is here = absurd (cc here)

pub not_pending_so : {P : Type 0} (answer : Bool) → (IsTrue answer ↔ P) → answer ≡ false → P → ⊥
not_pending_so true is here p = absurd (cc here)
not_pending_so false is here p = absurd (cc (is.1 p))

-- ---- what arrives

arrivals_all : (k : ℕ) (items : List Request) (now : Heard) → arrivals_heard k (requests_in_front items now) ≡ map (arrival_of k) items ++ arrivals_heard k now
arrivals_all k items now =
    ap (λ (all : List Arrival). all ++ last_arrival k now.last) (map-append (arrival_of k) items now.requests)
    ∙ append_assoc (map (arrival_of k) items) (map (arrival_of k) now.requests) (last_arrival k now.last)

by_piece : (k : ℕ) (piece : List ℕ) (session : SessionData) → session.ended ≡ false → arrivals_by_piece k piece session ≡ arrivals_heard k (heard_after session piece)
by_piece k piece session live = ap (λ (b : Bool). if b then [] else arrivals_heard k (heard_after session piece)) live

with_live : (piece : List ℕ) (session : SessionData) → session.ended ≡ false → with_piece piece session ≡ session_after session.terms (heard_after session piece)
with_live piece session live = ap (λ (b : Bool). if b then session else session_after session.terms (heard_after session piece)) live

no_rest : (k : ℕ) (rest : List ℕ) → (rest ≢ [] → ⊥) → arrivals_of_rest k rest ≡ []
no_rest k [] none = refl
no_rest k (byte ∷ rest) none = absurd (none (λ is. cc is))

some_rest : (k : ℕ) (rest : List ℕ) → rest ≢ [] → arrivals_of_rest k rest ≡ malformed_from k ∷ []
some_rest k [] some = absurd (some refl)
some_rest k (byte ∷ rest) some = refl

by_end : (k : ℕ) (session : SessionData) → session.ended ≡ false → arrivals_by_end k session ≡ arrivals_of_rest k session.rest
by_end k session live = ap (λ (b : Bool). if b then [] else arrivals_of_rest k session.rest) live

begun_arrives : {terms : Terms} {progress : DecoderProgress} {ended cut : Bool} {session : SessionData} (k : ℕ) → Shows terms progress ended cut session → rest_of progress ≢ [] → arrivals_by_end k session ≡ malformed_from k ∷ []
begun_arrives {progress = progress} {session = session} k shows some = by_end k session shows.live ∙ ap (arrivals_of_rest k) (rest_is shows) ∙ some_rest k (rest_of progress) some

held_back : {terms : Terms} {old : DecoderProgress} {ended cut : Bool} {session : SessionData} (k : ℕ) (mid new : DecoderProgress) (piece : List ℕ) (answer : Fed) (taken : ℕ) → Shows terms old ended cut session → EndsFrame terms.grammar old mid piece taken
    → IsDecoderFed old piece answer mid → place_after answer ≡ Some taken → PutsBack mid new
    → IsHeldBack k piece (taken - 1) (arrival_by k (item_heard terms.rights (request_by terms.grammar (body_of mid)))) session (session_view terms new ended cut)
held_back {terms = terms} {old = old} {ended = ended} {cut = cut} {session = session} k mid new piece answer taken shows ends h is back =
    let undone : GoesBack terms.grammar old new piece taken = front_undone terms.grammar old mid new piece answer taken (unspoiled shows) h is ends.just back in
    let one_more : 1 + (taken - 1) ≡ taken = omega (arith, ends.some) in
    record {
      within = omega (arith, ends.some, ends.within);
      live = not_ended shows;
      uncut = uncut shows;
      terms = terms_are shows;
      heard = λ later. heard_shown (take (taken - 1) piece ++ later) shows ∙ ap (heard_of terms.rights) (undone.framed later) ∙ sym (heard_by terms new ended cut later (not_ended shows));
      partial =
          heard_by terms new ended cut [] (not_ended shows)
          ∙ ap (heard terms) (append-nil (rest_of new))
          ∙ ap (heard_of terms.rights) undone.partial
          ∙ ap (λ (b : Bool). heard_rest (if b then [] else rest_of new)) (sym (not_ended shows));
      next =
          ap (λ (n : ℕ). arrivals_by_piece k (take n piece) session) one_more
          ∙ by_piece k (take taken piece) session shows.live
          ∙ ap (λ (bytes : List ℕ). arrivals_heard k (heard_after session bytes)) (sym (append-nil (take taken piece)))
          ∙ ap (arrivals_heard k) (heard_shown (take taken piece ++ []) shows ∙ ap (heard_of terms.rights) (ends.framed []) ∙ heard_first terms.rights (request_by terms.grammar (body_of mid)) (framed_by terms.grammar []))
          ∙ ap (λ (later : Heard). arrivals_heard k (first_heard (item_heard terms.rights (request_by terms.grammar (body_of mid))) later)) (heard_partial terms [] tt)
          ∙ arrivals_first k (item_heard terms.rights (request_by terms.grammar (body_of mid)));
    }

-- what is taken of the bytes up to the end of a frame, followed by others
frame_heard : {terms : Terms} {old : DecoderProgress} {ended cut : Bool} {session : SessionData} (new : DecoderProgress) (piece : List ℕ) (taken : ℕ) (later : List ℕ) → Shows terms old ended cut session → EndsFrame terms.grammar old new piece taken
    → heard_after session (take taken piece ++ later) ≡ first_heard (item_heard terms.rights (request_by terms.grammar (body_of new))) (heard terms later)
frame_heard {terms = terms} new piece taken later shows ends =
    heard_shown (take taken piece ++ later) shows ∙ ap (heard_of terms.rights) (ends.framed later) ∙ heard_first terms.rights (request_by terms.grammar (body_of new)) (framed_by terms.grammar later)

module _ {D : Type 0} {g : sectors.Ghosts D} {terms : Terms} {old : DecoderProgress} {ended cut : Bool} {session : SessionData} where
  pub part_done : (new : DecoderProgress) (piece : List ℕ) (answer : Fed) (committer : Committer D g) (bound : Limit) → Shows terms old ended cut session → IsDecoderFed old piece answer new → place_after answer ≡ None
      → IsPart piece session (session_view terms new ended cut) committer committer bound bound
  part_done new piece answer committer bound shows h is =
      let part : StaysPart terms.grammar old new piece = front_more terms.grammar old new piece (unspoiled shows) (subst (λ (a : Fed). IsDecoderFed old piece a new) (part_more answer is) h) in
      record {
        live = not_ended shows;
        uncut = uncut shows;
        terms = terms_are shows;
        heard = heard_shown piece shows ∙ ap (heard_of terms.rights) part.framed ∙ ap (λ (b : Bool). heard_rest (if b then [] else rest_of new)) (sym (not_ended shows));
        same = refl;
        unspent = refl;
      }

  pub whole_done : (k : ℕ) (new : DecoderProgress) (piece : List ℕ) (taken : ℕ) (before after : Committer D g) (request : Request) → Shows terms old ended cut session → EndsFrame terms.grammar old new piece taken
      → item_heard terms.rights (request_by terms.grammar (body_of new)) ≡ Ok request → Enters (arrival_of k request) before after (Ok tt) → {bound left : Limit} → AreAdmitted (arrival_of k request ∷ []) bound left → IsWholeFeed k piece taken session (session_view terms new ended cut) before after bound left
  whole_done k new piece taken before after request shows ends is enters spent = record {
    some = ends.some;
    within = ends.within;
    live = not_ended shows;
    terms = terms_are shows;
    request = request;
    heard = λ later.
        frame_heard new piece taken later shows ends
        ∙ ap (λ (found : Result Request Query). first_heard found (heard terms later)) is
        ∙ ap (λ (rest : List ℕ). request_in_front request (heard terms (rest ++ later))) (sym ends.rest)
        ∙ ap (request_in_front request) (sym (heard_by terms new ended cut later (not_ended shows)));
    enters = enters;
    spent = spent;
  }

  pub last_done : (cut_off : Bool) (k : ℕ) (new : DecoderProgress) (piece : List ℕ) (taken : ℕ) (before after : Committer D g) (last : Query) → cut_off ≡ is_not_allowed (Some last) → Shows terms old ended cut session → EndsFrame terms.grammar old new piece taken
      → item_heard terms.rights (request_by terms.grammar (body_of new)) ≡ Err last → Enters (a_question (record { session = k; query = last })) before after (Ok tt) → {bound left : Limit} → AreAdmitted (a_question (record { session = k; query = last }) ∷ []) bound left
      → IsLast k piece session (session_view terms closed true cut_off) before after bound left
  last_done cut_off k new piece taken before after last same shows ends is enters spent = record {
    last = last;
    ended = ◌∙◌ {A = SessionData} (ap (λ (b : Bool). record { terms = terms; rest = []; ended = true; cut_off = b }) same) (ap (λ (r : Terms). session_after r (stops_with last)) (terms_are shows));
    heard =
        ap (heard_after session) (sym (take-append-drop taken piece))
        ∙ frame_heard new piece taken (drop taken piece) shows ends
        ∙ ap (λ (found : Result Request Query). first_heard found (heard terms (drop taken piece))) is;
    enters = enters;
    spent = spent;
  }

  pub untaken_done : (k : ℕ) (mid new : DecoderProgress) (piece : List ℕ) (answer : Fed) (taken : ℕ) (before after : Committer D g) (error : StoreError) → Shows terms old ended cut session → EndsFrame terms.grammar old mid piece taken
      → IsDecoderFed old piece answer mid → place_after answer ≡ Some taken → PutsBack mid new → Enters (arrival_by k (item_heard terms.rights (request_by terms.grammar (body_of mid)))) before after (Err error) → {bound left : Limit} → left ≡ bound
      → IsUntaken k piece (record { taken = taken - 1; error = error }) session (session_view terms new ended cut) before after bound left
  untaken_done k mid new piece answer taken before after error shows ends h is back enters unspent =
      record { arrival = arrival_by k (item_heard terms.rights (request_by terms.grammar (body_of mid))); held = held_back k mid new piece answer taken shows ends h is back; enters = enters; unspent = unspent }

  pub withheld_done : (k : ℕ) (mid new : DecoderProgress) (piece : List ℕ) (answer : Fed) (taken : ℕ) (before after : Committer D g) → Shows terms old ended cut session → EndsFrame terms.grammar old mid piece taken
      → IsDecoderFed old piece answer mid → place_after answer ≡ Some taken → PutsBack mid new → after ≡ before → {bound left : Limit} → left ≡ bound → IsNotAdmitted (arrival_by k (item_heard terms.rights (request_by terms.grammar (body_of mid)))) bound
      → IsWithheld k piece (taken - 1) session (session_view terms new ended cut) before after bound left
  withheld_done k mid new piece answer taken before after shows ends h is back same unspent over =
      record { arrival = arrival_by k (item_heard terms.rights (request_by terms.grammar (body_of mid))); held = held_back k mid new piece answer taken shows ends h is back; same = same; unspent = unspent; over = over }

module _ {D : Type 0} {g : sectors.Ghosts D} where
  -- ---- a whole piece, frame by frame

  -- the requests in the first bytes have entered, and the session is live
  pub record HasFed (k : ℕ) (piece : List ℕ) (taken : ℕ) (old now : SessionData) (before after : Committer D g) (bound left : Limit) : Type 0 where
    pub within : taken ≤ length piece
    pub was_live : old.ended ≡ false
    pub live : now.ended ≡ false
    pub sound : is_broken (store_of after) ≡ false
    pub terms : now.terms ≡ old.terms
    pub items : List Request
    pub ahead : (later : List ℕ) → heard_after old (take taken piece ++ later) ≡ requests_in_front items (heard_after now later)
    pub run : Run (map (arrival_of k) items) before after
    pub spent : AreAdmitted (map (arrival_of k) items) bound left

  -- a whole piece was taken
  all_taken : (k : ℕ) (piece : List ℕ) (old new : SessionData) (before after : Committer D g) (bound left : Limit) → IsFedWhole k piece old new before after → AreAdmitted (arrivals_by_piece k piece old) bound left
      → IsFedUpTo k piece (length piece) old new before after bound left
  all_taken k piece old new before after bound left fed spent =
      let all : piece ≡ take (length piece) piece = sym (take_all (length piece) piece (omega (arith))) in
      record {
        within = omega (arith);
        whole = subst (λ (bytes : List ℕ). IsFedWhole k bytes old new before after) all fed;
        spent = subst (λ (bytes : List ℕ). AreAdmitted (arrivals_by_piece k bytes old) bound left) all spent;
        stops = λ less. absurd (omega (arith, less));
      }

  module _ (k : ℕ) (piece : List ℕ) (taken : ℕ) (old now new : SessionData) (before mid after : Committer D g) (bound left later_left : Limit) (fed : HasFed k piece taken old now before mid bound left) where
    -- the arrivals in the whole piece
    all_heard : (rest : Heard) → heard_after now (drop taken piece) ≡ rest → heard_after old piece ≡ requests_in_front fed.items rest
    all_heard rest is = ap (heard_after old) (sym (take-append-drop taken piece)) ∙ fed.ahead (drop taken piece) ∙ ap (requests_in_front fed.items) is

    all_arrivals : (rest : Heard) → heard_after now (drop taken piece) ≡ rest → arrivals_by_piece k piece old ≡ map (arrival_of k) fed.items ++ arrivals_heard k rest
    all_arrivals rest is = by_piece k piece old fed.was_live ∙ ap (arrivals_heard k) (all_heard rest is) ∙ arrivals_all k fed.items rest

    -- the session after it, if it still has its rights
    session_left : (terms : Terms) (ended cut : Bool) → terms ≡ now.terms → ended ≡ false → cut ≡ false
        → ◌≡◌ {A = SessionData} (record { terms = old.terms; rest = new.rest; ended = false; cut_off = false }) (record { terms = terms; rest = new.rest; ended = ended; cut_off = cut })
    session_left terms ended cut same live uncut =
        ◌∙◌ {A = SessionData} (ap (λ (r : Terms). record { terms = r; rest = new.rest; ended = false; cut_off = false }) (sym (same ∙ fed.terms)))
        (◌∙◌ {A = SessionData} (ap (λ (b : Bool). record { terms = terms; rest = new.rest; ended = b; cut_off = false }) (sym live)) (ap (λ (b : Bool). record { terms = terms; rest = new.rest; ended = ended; cut_off = b }) (sym uncut)))

    pub fed_part : IsPart (drop taken piece) now new mid after left later_left → IsFedUpTo k piece (length piece) old new before after bound later_left
    fed_part part =
        let arrivals : arrivals_by_piece k piece old ≡ map (arrival_of k) fed.items = all_arrivals (heard_rest new.rest) part.heard ∙ append-nil (map (arrival_of k) fed.items) in
        all_taken k piece old new before after bound later_left (record {
          session =
              sym (with_live piece old fed.was_live ∙ ap (session_after old.terms) (all_heard (heard_rest new.rest) part.heard) ∙ session_left new.terms new.ended new.cut_off part.terms part.live part.uncut);
          run = subst (λ (c : Committer D g). Run (arrivals_by_piece k piece old) before c) (sym part.same) (run_as (sym arrivals) fed.run);
        }) (taken_as bound later_left (sym arrivals) (subst (λ (l : Limit). AreAdmitted (map (arrival_of k) fed.items) bound l) (sym part.unspent) fed.spent))

    pub fed_last : IsLast k (drop taken piece) now new mid after left later_left → IsFedUpTo k piece (length piece) old new before after bound later_left
    fed_last bad =
        let arrival : Arrival = a_question (record { session = k; query = bad.last }) in
        let arrivals : arrivals_by_piece k piece old ≡ map (arrival_of k) fed.items ++ arrival ∷ [] = all_arrivals (stops_with bad.last) bad.heard in
        all_taken k piece old new before after bound later_left (record {
          session = bad.ended ∙ ap (λ (r : Terms). session_after r (stops_with bad.last)) fed.terms ∙ sym (with_live piece old fed.was_live ∙ ap (session_after old.terms) (all_heard (stops_with bad.last) bad.heard));
          run = run_as (sym arrivals) (run_more arrival fed.run bad.enters);
        }) (taken_as bound later_left (sym arrivals) (taken_append (map (arrival_of k) fed.items) (arrival ∷ []) bound left later_left fed.spent bad.spent))

    pub fed_more : (more : ℕ) → IsWholeFeed k (drop taken piece) more now new mid after left later_left → HasFed k piece (taken + more) old new before after bound later_left
    fed_more more front = record {
      within = omega (arith, fed.within, front.within, length-drop taken piece);
      was_live = fed.was_live;
      live = front.live;
      sound = entered_sound (arrival_of k front.request) mid after front.enters.end fed.sound;
      terms = front.terms ∙ fed.terms;
      items = fed.items ++ front.request ∷ [];
      ahead = λ later.
          let next : Heard = heard_after new later in
          ap (λ (bytes : List ℕ). heard_after old (bytes ++ later)) (take-add taken more piece)
          ∙ ap (heard_after old) (append_assoc (take taken piece) (take more (drop taken piece)) later)
          ∙ fed.ahead (take more (drop taken piece) ++ later)
          ∙ ap (requests_in_front fed.items) (front.heard later)
          ∙ ap (λ (items : List Request). record { requests = items; last = next.last; rest = next.rest }) (sym (append_assoc fed.items (front.request ∷ []) next.requests));
      run = run_as (sym (map-append (arrival_of k) fed.items (front.request ∷ []))) (run_more (arrival_of k front.request) fed.run front.enters);
      spent = taken_as bound later_left (sym (map-append (arrival_of k) fed.items (front.request ∷ []))) (taken_append (map (arrival_of k) fed.items) (arrival_of k front.request ∷ []) bound left later_left fed.spent front.spent);
    }

    -- ---- the next arrival was held back

    module _ (first : ℕ) (arrival : Arrival) (held : IsHeldBack k (drop taken piece) first arrival now new) where
      held_heard : heard_after old (take (taken + first) piece) ≡ requests_in_front fed.items (heard_rest new.rest)
      held_heard =
          ap (heard_after old) (take-add taken first piece ∙ ap (λ (bytes : List ℕ). take taken piece ++ bytes) (sym (append-nil (take first (drop taken piece)))))
          ∙ fed.ahead (take first (drop taken piece) ++ [])
          ∙ ap (requests_in_front fed.items) (held.heard [] ∙ held.partial)

      held_arrivals : arrivals_by_piece k (take (taken + first) piece) old ≡ map (arrival_of k) fed.items
      held_arrivals =
          by_piece k (take (taken + first) piece) old fed.was_live
          ∙ ap (arrivals_heard k) held_heard
          ∙ arrivals_all k fed.items (heard_rest new.rest)
          ∙ append-nil (map (arrival_of k) fed.items)

      held_within : taken + first ≤ length piece
      held_within = omega (arith, fed.within, held.within, length-drop taken piece)

      held_session : new ≡ with_piece (take (taken + first) piece) old
      held_session = sym (with_live (take (taken + first) piece) old fed.was_live ∙ ap (session_after old.terms) held_heard ∙ session_left new.terms new.ended new.cut_off held.terms held.live held.uncut)

      held_next : arrivals_by_piece k (take (1 + (taken + first)) piece) old ≡ arrivals_by_piece k (take (taken + first) piece) old ++ arrival ∷ []
      held_next =
          let rest : List ℕ = drop taken piece in
          let one_more : 1 + (taken + first) ≡ taken + (1 + first) = omega (arith) in
          ap (λ (n : ℕ). arrivals_by_piece k (take n piece) old) one_more
          ∙ by_piece k (take (taken + (1 + first)) piece) old fed.was_live
          ∙ ap (λ (bytes : List ℕ). arrivals_heard k (heard_after old bytes)) (take-add taken (1 + first) piece)
          ∙ ap (arrivals_heard k) (fed.ahead (take (1 + first) rest))
          ∙ arrivals_all k fed.items (heard_after now (take (1 + first) rest))
          ∙ ap (λ (later : List Arrival). map (arrival_of k) fed.items ++ later) (sym (by_piece k (take (1 + first) rest) now fed.live) ∙ held.next)
          ∙ ap (λ (all : List Arrival). all ++ arrival ∷ []) (sym held_arrivals)

    pub fed_err : (fault : FeedFault) → IsUntaken k (drop taken piece) fault now new mid after left later_left → IsFedUpToRefusal k piece (record { taken = taken + fault.taken; error = fault.error }) old new before after bound later_left
    fed_err fault untaken =
        let arrivals = held_arrivals fault.taken untaken.arrival untaken.held in
        record {
          part = record {
            within = omega (arith, fed.within, untaken.held.within, length-drop taken piece);
            session = held_session fault.taken untaken.arrival untaken.held;
            mid = mid;
            entered = subst (λ (all : List Arrival). HaveEntered all before mid) (sym arrivals) fed.run.entered;
            arrival = untaken.arrival;
            next = held_next fault.taken untaken.arrival untaken.held;
            end = untaken.enters.end;
            not_broken = request_not_broken untaken.arrival mid after fault.error untaken.enters.end fed.sound;
            refused = subst (λ (all : List Arrival). IsRefusedAfter all fault.error before after) (sym arrivals) (run_refused untaken.arrival fault.error fed.run untaken.enters);
          };
          spent = taken_as bound later_left (sym arrivals) (subst (λ (l : Limit). AreAdmitted (map (arrival_of k) fed.items) bound l) (sym untaken.unspent) fed.spent);
        }

    pub fed_withheld : (first : ℕ) → IsWithheld k (drop taken piece) first now new mid after left later_left → IsFedUpTo k piece (taken + first) old new before after bound later_left
    fed_withheld first withheld =
        let arrivals = held_arrivals first withheld.arrival withheld.held in
        record {
          within = held_within first withheld.arrival withheld.held;
          whole = record {
            session = held_session first withheld.arrival withheld.held;
            run = subst (λ (c : Committer D g). Run (arrivals_by_piece k (take (taken + first) piece) old) before c) (sym withheld.same) (run_as (sym arrivals) fed.run);
          };
          spent = taken_as bound later_left (sym arrivals) (subst (λ (l : Limit). AreAdmitted (map (arrival_of k) fed.items) bound l) (sym withheld.unspent) fed.spent);
          stops = λ less. record {
            arrival = withheld.arrival;
            next = held_next first withheld.arrival withheld.held;
            over = subst (IsNotAdmitted withheld.arrival) (sym withheld.unspent) withheld.over;
          };
        }

  pub fed_start : (k : ℕ) (piece : List ℕ) (session : SessionData) (committer : Committer D g) (bound : Limit) → session.ended ≡ false → is_broken (store_of committer) ≡ false → HasFed k piece 0 session session committer committer bound bound
  fed_start k piece session committer bound live sound = record {
    within = omega (arith);
    was_live = live;
    live = live;
    sound = sound;
    terms = refl;
    items = [];
    ahead = λ later. refl;
    run = run_none committer;
    spent = refl;
  }

  -- bytes after the end are dropped
  pub fed_ended : (k : ℕ) (piece : List ℕ) (session : SessionData) (committer : Committer D g) (bound : Limit) → session.ended ≡ true → IsFedUpTo k piece (length piece) session session committer committer bound bound
  fed_ended k piece session committer bound ended =
      let none : arrivals_by_piece k piece session ≡ [] = ap (λ (b : Bool). if b then [] else arrivals_heard k (heard_after session piece)) ended in
      all_taken k piece session session committer committer bound bound (record {
        session = sym (ap (λ (b : Bool). if b then session else session_after session.terms (heard_after session piece)) ended);
        run = run_as (sym none) (run_none committer);
      }) (taken_as bound bound (sym none) refl)

  -- ---- the end of a session

  pub end_ended : (k : ℕ) (session : SessionData) (committer : Committer D g) → session.ended ≡ true → Run (arrivals_by_end k session) committer committer
  end_ended k session committer ended = run_as (sym (ap (λ (b : Bool). if b then [] else arrivals_of_rest k session.rest) ended)) (run_none committer)

  pub end_idle : {terms : Terms} {progress : DecoderProgress} {ended cut : Bool} {session : SessionData} (k : ℕ) (committer : Committer D g) → Shows terms progress ended cut session → (rest_of progress ≢ [] → ⊥) → Run (arrivals_by_end k session) committer committer
  end_idle {progress = progress} {ended = ended} {cut = cut} {session = session} k committer shows none =
      run_as (sym (by_end k session shows.live ∙ ap (arrivals_of_rest k) (rest_is shows) ∙ no_rest k (rest_of progress) none)) (run_none committer)

  pub end_begun : {terms : Terms} {progress : DecoderProgress} {ended cut : Bool} {session : SessionData} (k : ℕ) (before after : Committer D g) (result : Result (Unit {0}) StoreError) → Shows terms progress ended cut session → rest_of progress ≢ [] → is_broken (store_of before) ≡ false
      → Enters (malformed_from k) before after result → IsArrivalEnd (malformed_from k) before after result → IsFrameEnd k session before after result
  end_begun {progress = progress} {session = session} k before after (Ok done) shows some sound enters end =
      run_as (sym (begun_arrives k shows some)) (run_more (malformed_from k) (run_none before) enters)
  end_begun {progress = progress} {session = session} k before after (Err error) shows some sound enters end = record {
    begun = begun_arrives k shows some;
    end = end;
    not_broken = arrival_not_broken (malformed_from k) before after error end sound;
    refused = run_refused (malformed_from k) error (run_none before) enters;
  }
