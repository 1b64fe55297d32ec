-- The next request that the bytes of a session complete.
use Rattle.std.proofs.Common.{◌≡◌, ◌∙◌, ◌⊎◌, inl, inr, ℕ, ◌+◌, Bool, true, false, cond, Option, Some, None, List, [], ◌∷◌, ◌++◌, map, take, drop, refl, sym, ap, true≢false}
use Rattle.std.proofs.lemmas.Bool.{cases_Bool, cond-true, cond-false}
use Rattle.std.proofs.lemmas.List.{append-nil, append_assoc, map-append, take-append-drop}
use Rattle.audit_wire.specs.declared.request.Request.{Request}
use Rattle.audit_server_commit.specs.declared.question.Query.{Query}
use Rattle.audit_server_commit.specs.Arrivals.{Arrival, arrival_of}
use Rattle.audit_serve_passes.specs.Core.{RequestKind}
use Rattle.audit_server_commit.specs.Heard.{Heard, heard, is_last, ends_session, last_arrival, arrivals_heard, requests_in_front}
use Rattle.audit_server_commit.specs.Sessions.{SessionData, heard_after, arrivals_by_piece}
use Rattle.audit_server_commit.proofs.Hearing.{heard_on, heard-append}
use Rattle.audit_server.specs.RequestKinds.{kind_of}

none_last : (k : ℕ) (last : Option Query) → is_last last ≡ false → last_arrival k last ≡ []
none_last k None live = refl
none_last k (Some asked) live = absurd (true≢false live)

-- more bytes bring more arrivals, if the session goes on
pub arrivals_more : (k : ℕ) (bytes more : List ℕ) (session : SessionData) → (later : List Arrival) × (arrivals_by_piece k (bytes ++ more) session ≡ arrivals_by_piece k bytes session ++ later)
arrivals_more k bytes more session = by session.ended
  where
    now : Heard
    now = heard_after session bytes

    next : Heard
    next = heard session.terms (now.rest ++ more)

    joined : heard_after session (bytes ++ more) ≡ heard_on session.terms now more
    joined = ap (heard session.terms) (sym (append_assoc session.rest bytes more)) ∙ heard-append session.terms (session.rest ++ bytes) more

    live : ends_session now ≡ false → (later : List Arrival) × (arrivals_heard k (heard_after session (bytes ++ more)) ≡ arrivals_heard k now ++ later)
    live goes = (
      arrivals_heard k next,
      ap (arrivals_heard k) (joined ∙ cond-false (ends_session now) now (requests_in_front now.requests next) goes)
          ∙ ap (λ (all : List Arrival). all ++ last_arrival k next.last) (map-append (arrival_of k) now.requests next.requests)
          ∙ append_assoc (map (arrival_of k) now.requests) (map (arrival_of k) next.requests) (last_arrival k next.last)
          ∙ ap (λ (all : List Arrival). all ++ arrivals_heard k next) (sym (append-nil (map (arrival_of k) now.requests)) ∙ ap (λ (last : List Arrival). map (arrival_of k) now.requests ++ last) (sym (none_last k now.last goes))),
    )

    over : ends_session now ≡ true → (later : List Arrival) × (arrivals_heard k (heard_after session (bytes ++ more)) ≡ arrivals_heard k now ++ later)
    over ends = ([], ap (arrivals_heard k) (joined ∙ cond-true (ends_session now) now (requests_in_front now.requests next) ends) ∙ sym (append-nil (arrivals_heard k now)))

    by : (ended : Bool) → (later : List Arrival) × (cond ended [] (arrivals_heard k (heard_after session (bytes ++ more))) ≡ cond ended [] (arrivals_heard k now) ++ later)
    by true = ([], refl)
    by false = elim (cases_Bool (ends_session now)) [
      | inl ends ↦ over ends
      | inr goes ↦ live goes
    ]

-- the arrival that the next byte completes is the next that the piece completes
pub next_arrival : (k : ℕ) (piece : List ℕ) (taken : ℕ) (session : SessionData) (arrival : Arrival) → arrivals_by_piece k (take (1 + taken) piece) session ≡ arrivals_by_piece k (take taken piece) session ++ arrival ∷ []
    → (later : List Arrival) × (arrivals_by_piece k piece session ≡ arrivals_by_piece k (take taken piece) session ++ arrival ∷ later)
next_arrival k piece taken session arrival next =
    let more = arrivals_more k (take (1 + taken) piece) (drop (1 + taken) piece) session in (
      more.0,
      ap (λ (bytes : List ℕ). arrivals_by_piece k bytes session) (sym (take-append-drop (1 + taken) piece)) ∙ more.1 ∙ ap (λ (first : List Arrival). first ++ more.0) next ∙ append_assoc (arrivals_by_piece k (take taken piece) session) (arrival ∷ []) more.0,
    )

pub next_kind : (k : ℕ) (piece : List ℕ) (taken : ℕ) (session : SessionData) (arrival : Arrival) → arrivals_by_piece k (take (1 + taken) piece) session ≡ arrivals_by_piece k (take taken piece) session ++ arrival ∷ []
    → (later : List RequestKind) × (map kind_of (arrivals_by_piece k piece session) ≡ map kind_of (arrivals_by_piece k (take taken piece) session) ++ kind_of arrival ∷ later)
next_kind k piece taken session arrival next =
    let found = next_arrival k piece taken session arrival next in
    (map kind_of found.0, ap (map kind_of) found.1 ∙ map-append kind_of (arrivals_by_piece k (take taken piece) session) (arrival ∷ found.0))
