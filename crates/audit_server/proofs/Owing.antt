-- What the calls of a core make its sessions owed.
use Rattle.std.proofs.Common.{◌≡◌, ◌∙◌, inl, inr, ◌⊎◌, ℕ, ◌+◌, ◌-◌, ◌<◌, ◌≤◌, Bool, true, false, ◌||◌, ◌&&◌, cond, eqb, leb, Option, Some, None, IfSome, Result, Ok, Err, OnOk, List, [], ◌∷◌, ◌++◌, length, map, take, refl, sym, ap, subst, arith, true≢false}
use Rattle.std.specs.List.{AllByRecursion}
use Rattle.std.proofs.lemmas.Bool.{eqb-true, leb-true}
use Rattle.audit_disk_model.specs.declared.sectors.Sectors as sectors
use Rattle.audit_wire.specs.declared.limits.TheConstants.{MAX_MEMBERSHIP_FRAME, REFUSAL_FRAME}
use Rattle.audit_wire.specs.declared.request.Request.{Request}
use Rattle.audit_wire.specs.declared.request.Request.TheVariants as request
use Rattle.audit_server_commit.specs.declared.question.Query.{Query}
use Rattle.audit_server_commit.specs.declared.question.Question.{Question}
use Rattle.audit_server_commit.specs.declared.question.Query.TheVariants as query
use Rattle.audit_server_commit.specs.Arrivals.{Arrival, an_append, a_question, arrival_of}
use Rattle.audit_server_commit.specs.LongestReplies.{longest_answer, longest_reply, comes_from, share_of, owed_for}
use Rattle.audit_store.specs.Store.{is_broken}
use Rattle.audit_store.specs.declared.store_error.StoreError.{StoreError}
use Rattle.audit_server_commit.specs.declared.committer.Committer.{Committer}
use Rattle.audit_server_commit.specs.Committer.{store_of}
use Rattle.audit_server_commit.specs.Owing.{owed_of}
use Rattle.audit_server_commit.specs.Flush.{FlushOutcome}
use Rattle.audit_server_commit.proofs.Pendings.{longest_placed}
use Rattle.audit_server_commit.proofs.Owing.{flush_owed, entered_owed}
use Rattle.audit_serve_passes.specs.declared.allowance.Demand.{Demand}
use Rattle.audit_serve_passes.specs.declared.allowance.Share.{Share}
use Rattle.audit_serve_passes.specs.declared.allowance.Allowance.{Allowance}
use Rattle.audit_serve_passes.specs.Allowance.{has_room, has_room_to_ask, share_after_asking, spent}
use Rattle.audit_serve_passes.specs.Core.{RequestKind, appending, asking, asked_by}
use Rattle.audit_serve_passes.specs.Owing.{GrowsWithin, OwesNoMore, OwesWithin, OwesAtEnd, IsDemandFor, IsBeyondAllowance}
use Rattle.audit_server_commit.specs.Sessions.{SessionData, arrivals_by_piece, arrivals_of_rest, arrivals_by_end, heard_after}
use Rattle.audit_server_commit.specs.Heard.{Heard, last_arrival, arrivals_heard}
use Rattle.audit_server.specs.declared.limit.Limit.{Limit}
use Rattle.audit_server.specs.declared.limit.Limit.TheVariants as limit
use Rattle.audit_server.specs.declared.server_core.Core.{Core}
use Rattle.audit_server.specs.Limit.{AreAdmitted}
use Rattle.audit_server.specs.Running.{HaveEntered}
use Rattle.audit_server.specs.Core.{committer_of, session_of, is_core_broken, IsSound, AllowedOutcome, EndOutcome, IsCoreUntouched}
use Rattle.audit_server.specs.CoreModel.{core_model}
use Rattle.audit_server.specs.RequestKinds.{kind_of, longest_replies}
use Rattle.audit_server.specs.Limit.{IsPriceOf, IsNotAdmitted}
use Rattle.audit_server.proofs.NextRequests.{next_kind}

-- ---- the replies to arrivals

-- the longest replies to arrivals that are for session k
abbrev owed_for_all : ℕ → List Arrival → ℕ
owed_for_all k [] = 0
owed_for_all k (arrival ∷ arrivals) = owed_for k arrival + owed_for_all k arrivals

abbrev ComeFrom : ℕ → List Arrival → Type 0
ComeFrom j = AllByRecursion (λ arrival. comes_from arrival ≡ j)

share-most : (k session bytes : ℕ) → share_of k session bytes ≤ bytes
share-most k session bytes = by (eqb session k)
  where
    by : (same : Bool) → cond same bytes 0 ≤ bytes
    by true = omega arith
    by false = omega arith

no_share : (k session bytes : ℕ) → (session ≡ k → ⊥) → share_of k session bytes ≡ 0
no_share k session bytes apart = by (eqb session k) refl
  where
    by : (same : Bool) → eqb session k ≡ same → cond same bytes 0 ≡ 0
    by true is = absurd (apart (eqb-true session k is))
    by false is = refl

own_most : (k : ℕ) (arrivals : List Arrival) → owed_for_all k arrivals ≤ longest_replies arrivals
own_most k [] = omega arith
own_most k (arrival ∷ arrivals) = omega (arith, share-most k (comes_from arrival) (longest_reply arrival), own_most k arrivals)

others_none : (j k : ℕ) (arrivals : List Arrival) → (k ≡ j → ⊥) → ComeFrom j arrivals → owed_for_all k arrivals ≡ 0
others_none j k [] apart from = refl
others_none j k (arrival ∷ arrivals) apart from =
    omega (arith, no_share k (comes_from arrival) (longest_reply arrival) (λ same. apart (sym same ∙ from.0)), others_none j k arrivals apart from.1)

request_from : (k : ℕ) (one : Request) → comes_from (arrival_of k one) ≡ k
request_from k (request.Append tag kind payload) = refl
request_from k (request.PlacedAppend tag kind place payload) = refl
request_from k (request.Commitment tag) = refl
request_from k (request.Membership tag index count) = refl
request_from k (request.Incremental tag older newer) = refl
request_from k (request.Entry tag index) = refl
request_from k (request.Close tag) = refl
request_from k (request.State tag) = refl
request_from k (request.Place tag kind) = refl

arrivals_from : (k : ℕ) (requests : List Request) (last : Option Query) → ComeFrom k (map (arrival_of k) requests ++ last_arrival k last)
arrivals_from k [] (Some asked) = (refl, tt)
arrivals_from k [] None = tt
arrivals_from k (one ∷ requests) last = (request_from k one, arrivals_from k requests last)

piece_from : (k : ℕ) (piece : List ℕ) (session : SessionData) → ComeFrom k (arrivals_by_piece k piece session)
piece_from k piece session = by session.ended
  where
    heard : Heard
    heard = heard_after session piece

    by : (ended : Bool) → ComeFrom k (cond ended [] (arrivals_heard k heard))
    by true = tt
    by false = arrivals_from k heard.requests heard.last

end_from : (k : ℕ) (session : SessionData) → ComeFrom k (arrivals_by_end k session)
end_from k session = by session.ended session.rest
  where
    by : (ended : Bool) (rest : List ℕ) → ComeFrom k (cond ended [] (arrivals_of_rest k rest))
    by true rest = tt
    by false [] = tt
    by false (byte ∷ rest) = (refl, tt)

end_total : (k : ℕ) (session : SessionData) → longest_replies (arrivals_by_end k session) ≤ REFUSAL_FRAME
end_total k session = by session.ended session.rest
  where
    by : (ended : Bool) (rest : List ℕ) → longest_replies (cond ended [] (arrivals_of_rest k rest)) ≤ REFUSAL_FRAME
    by true rest = omega arith
    by false [] = omega arith
    by false (byte ∷ rest) = omega arith

-- ---- within an allowance

longest_query : (asked : Query) → longest_answer asked ≤ MAX_MEMBERSHIP_FRAME
longest_query (query.Commitment tag) = omega arith
longest_query (query.Membership tag index count) = omega arith
longest_query (query.Incremental tag older newer) = omega arith
longest_query (query.Entry tag index) = omega arith
longest_query query.Malformed = omega arith
longest_query (query.NotAllowed tag) = omega arith
longest_query (query.State tag) = omega arith
longest_query (query.Place tag kind) = omega arith

longest_arrival : (arrival : Arrival) → longest_reply arrival ≤ MAX_MEMBERSHIP_FRAME
longest_arrival (an_append append) = omega (arith, longest_placed append.place)
longest_arrival (a_question question) = longest_query question.query

room_or : (share : Share) (bytes : ℕ) (more : Bool) → (has_room share bytes && more) ≡ true → (share.is_whole ≡ true) ⊎ (bytes ≤ share.left)
room_or share bytes more is = by share.is_whole refl (leb bytes share.left) refl
  where
    by : (whole : Bool) → share.is_whole ≡ whole → (within : Bool) → leb bytes share.left ≡ within → (share.is_whole ≡ true) ⊎ (bytes ≤ share.left)
    by true whole within rest = inl whole
    by false whole true within = inr (leb-true bytes share.left within)
    by false whole false within = absurd (true≢false (sym is ∙ ap (λ (b : Bool). (b || leb bytes share.left) && more) whole ∙ ap (λ (b : Bool). b && more) within))

abbrev TotalWithin : Share → ℕ → Type 0
TotalWithin share total = (total ≤ share.left) ⊎ ((share.is_whole ≡ true) × (total ≤ MAX_MEMBERSHIP_FRAME))

more_within : (share : Share) (first rest : ℕ) → (share.is_whole ≡ true) ⊎ (first ≤ share.left) → first ≤ MAX_MEMBERSHIP_FRAME → rest ≤ share.left - first → TotalWithin share (first + rest)
more_within share first rest (inr room) most within = inl (omega (arith, room, within))
more_within share first rest (inl whole) most within = by (less_or share.left first)
  where
    less_or : (m n : ℕ) → (m < n) ⊎ (n ≤ m)
    less_or m n = search (arith)

    by : (share.left < first) ⊎ (first ≤ share.left) → TotalWithin share (first + rest)
    by (inl less) = inr (whole, omega (arith, less, most, within))
    by (inr room) = inl (omega (arith, room, within))

admitted_total : (arrivals : List Arrival) (old : Allowance) (left : Limit) → AreAdmitted arrivals (limit.Within old) left → TotalWithin old.session (longest_replies arrivals)
admitted_total [] old left taken = inl (omega arith)
admitted_total (arrival ∷ arrivals) old left taken = by (admitted_total arrivals (spent taken.0 old) left taken.3)
  where
    demand : Demand
    demand = taken.0

    room : (old.session.is_whole ≡ true) ⊎ (demand.reply ≤ old.session.left)
    room = room_or old.session demand.reply (has_room_to_ask old.questions demand.question) taken.2

    by : TotalWithin (spent demand old).session (longest_replies arrivals) → TotalWithin old.session (longest_reply arrival + longest_replies arrivals)
    by (inl within) = subst (λ (bytes : ℕ). TotalWithin old.session (bytes + longest_replies arrivals)) taken.1.reply (more_within old.session demand.reply (longest_replies arrivals) room (omega (arith, taken.1.reply, longest_arrival arrival)) within)
    by (inr whole) = absurd (true≢false (sym whole.0))

admitted_spent : (arrivals : List Arrival) (old new : Allowance) → AreAdmitted arrivals (limit.Within old) (limit.Within new) → old.session.left ≤ new.session.left + longest_replies arrivals
admitted_spent [] old new taken = omega (arith, ap (λ (allowance : Allowance). allowance.session.left) (same_allowance taken))
  where
    same_allowance : limit.Within new ≡ limit.Within old → new ≡ old
    same_allowance same = cc same
admitted_spent (arrival ∷ arrivals) old new taken = omega (arith, taken.1.reply, admitted_spent arrivals (spent taken.0 old) new taken.3)

-- a question spends at most its longest reply of what questions may ask for, and an append nothing
spent_asking : (arrival : Arrival) (price : Option ℕ) (share : Share) → IsPriceOf arrival price → ((share_after_asking price share).left ≤ share.left) × (share.left ≤ (share_after_asking price share).left + asked_by (kind_of arrival ∷ []))
spent_asking (an_append append) None share is = (omega arith, omega arith)
spent_asking (an_append append) (Some bytes) share is = absurd (cc is)
spent_asking (a_question question) None share is = absurd is
spent_asking (a_question question) (Some bytes) share is = (omega arith, omega (arith, is))

asked-cons : (kind : RequestKind) (kinds : List RequestKind) → asked_by (kind ∷ kinds) ≡ asked_by (kind ∷ []) + asked_by kinds
asked-cons appending kinds = omega arith
asked-cons (asking reply) kinds = omega arith

admitted_asked : (arrivals : List Arrival) (old new : Allowance) → AreAdmitted arrivals (limit.Within old) (limit.Within new) → (new.questions.left ≤ old.questions.left) × (old.questions.left ≤ new.questions.left + asked_by (map kind_of arrivals))
admitted_asked [] old new taken = (omega (arith, same), omega (arith, same))
  where
    of_within : limit.Within new ≡ limit.Within old → new ≡ old
    of_within h = cc h

    same : new.questions.left ≡ old.questions.left
    same = ap (λ (allowance : Allowance). allowance.questions.left) (of_within taken)
admitted_asked (arrival ∷ arrivals) old new taken =
    let both = asked-cons (kind_of arrival) (map kind_of arrivals) in
    let here = spent_asking arrival taken.0.question old.questions taken.1.price in
    let later = admitted_asked arrivals (spent taken.0 old) new taken.3 in
    (omega (arith, here.0, later.0), omega (arith, here.1, later.1, both))

grows : (share : Share) (old new total owed : ℕ) → new ≤ old + owed → owed ≤ total → TotalWithin share total → GrowsWithin share MAX_MEMBERSHIP_FRAME old new
grows share old new total owed grown most (inl within) = inl (omega (arith, grown, most, within))
grows share old new total owed grown most (inr (whole, within)) = inr (whole, omega (arith, grown, most, within))

module _ {D : Type 0} {g : sectors.Ghosts D} where
  entered_all : (k : ℕ) (arrivals : List Arrival) (old new : Committer D g) → HaveEntered arrivals old new → owed_of k new ≤ owed_of k old + owed_for_all k arrivals
  entered_all k [] old new same = omega (arith, ap (owed_of k) same)
  entered_all k (arrival ∷ arrivals) old new entered = omega (arith, entered_owed k arrival old entered.0 entered.1, entered_all k arrivals entered.0 new entered.2)

  pub within_owes : (k : ℕ) (piece : List ℕ) (taken : ℕ) (old new : Core D g) (allowance left : Allowance) → AllowedOutcome k piece old new allowance left (Ok taken) → OwesWithin core_model k allowance.session old new
  within_owes k piece taken old new allowance left end =
      let arrivals = arrivals_by_piece k (take taken piece) (session_of k old) in
      let entered = end.fed.whole.run.entered in
      record {
        own = grows allowance.session (owed_of k (committer_of old)) (owed_of k (committer_of new)) (longest_replies arrivals) (owed_for_all k arrivals) (entered_all k arrivals (committer_of old) (committer_of new) entered) (own_most k arrivals)
            (admitted_total arrivals allowance (limit.Within left) end.fed.spent);
        others = λ other apart. omega (arith, entered_all other arrivals (committer_of old) (committer_of new) entered, others_none k other arrivals apart (piece_from k (take taken piece) (session_of k old)));
      }

  pub within_stops : (k : ℕ) (piece : List ℕ) (taken : ℕ) (old new : Core D g) (allowance left : Allowance) → AllowedOutcome k piece old new allowance left (Ok taken) → taken < length piece → IsBeyondAllowance (core_model {D = D} {g = g}) k old (take taken piece) piece left
  within_stops k piece taken old new allowance left end less =
      let stops = end.fed.stops less in
      let found = next_kind k piece taken (session_of k old) stops.arrival stops.next in
      record {
        kind = kind_of stops.arrival;
        is = record { later = found.0; next = found.1 };
        demand = stops.over.demand;
        most = omega (arith, stops.over.its.reply, longest_arrival stops.arrival);
        its = wanted stops.arrival stops.over;
        over = stops.over.over;
      }
    where
      price_within : (question : Question) (price : Option ℕ) → IsPriceOf (a_question question) price → IfSome price (λ bytes. bytes ≤ longest_answer question.query)
      price_within question None is = tt
      price_within question (Some bytes) is = is

      wanted : (arrival : Arrival) (over : IsNotAdmitted arrival (limit.Within left)) → IsDemandFor (core_model {D = D} {g = g}) (kind_of arrival) over.demand
      wanted (an_append append) over = (omega (arith, over.its.reply, longest_placed append.place), over.its.price)
      wanted (a_question question) over = (omega (arith, over.its.reply), price_within question over.demand.question over.its.price)

  pub within_unspent : (k : ℕ) (piece : List ℕ) (taken : ℕ) (old new : Core D g) (allowance left : Allowance) → AllowedOutcome k piece old new allowance left (Ok taken) → map kind_of (arrivals_by_piece k (take taken piece) (session_of k old)) ≡ [] → left ≡ allowance
  within_unspent k piece taken old new allowance left end none = by (arrivals_by_piece k (take taken piece) (session_of k old)) none end.fed.spent
    where
      by : (arrivals : List Arrival) → map kind_of arrivals ≡ [] → AreAdmitted arrivals (limit.Within allowance) (limit.Within left) → left ≡ allowance
      by [] none same = cc same
      by (arrival ∷ arrivals) none same = absurd (cc none)

  pub within_spent : (k : ℕ) (piece : List ℕ) (taken : ℕ) (old new : Core D g) (allowance left : Allowance) → AllowedOutcome k piece old new allowance left (Ok taken) → allowance.session.left ≤ left.session.left + longest_replies (arrivals_by_piece k (take taken piece) (session_of k old))
  within_spent k piece taken old new allowance left end = admitted_spent (arrivals_by_piece k (take taken piece) (session_of k old)) allowance left end.fed.spent

  pub within_asked : (k : ℕ) (piece : List ℕ) (taken : ℕ) (old new : Core D g) (allowance left : Allowance) → AllowedOutcome k piece old new allowance left (Ok taken) → allowance.questions.left ≤ left.questions.left + asked_by (map kind_of (arrivals_by_piece k (take taken piece) (session_of k old)))
  within_asked k piece taken old new allowance left end = (admitted_asked (arrivals_by_piece k (take taken piece) (session_of k old)) allowance left end.fed.spent).1

  pub within_fewer : (k : ℕ) (piece : List ℕ) (taken : ℕ) (old new : Core D g) (allowance left : Allowance) → AllowedOutcome k piece old new allowance left (Ok taken) → left.questions.left ≤ allowance.questions.left
  within_fewer k piece taken old new allowance left end = (admitted_asked (arrivals_by_piece k (take taken piece) (session_of k old)) allowance left end.fed.spent).0

  pub end_owes : (k : ℕ) (old new : Core D g) → EndOutcome k old new (Ok tt) → OwesAtEnd core_model k old new
  end_owes k old new end =
      let arrivals = arrivals_by_end k (session_of k old) in
      let entered = end.ended.frame.entered in
      record {
        own = omega (arith, entered_all k arrivals (committer_of old) (committer_of new) entered, own_most k arrivals, end_total k (session_of k old));
        others = λ other apart. omega (arith, entered_all other arrivals (committer_of old) (committer_of new) entered, others_none k other arrivals apart (end_from k (session_of k old)));
      }

  pub end_over : (k : ℕ) (old new : Core D g) → EndOutcome k old new (Ok tt) → (session_of k new).ended ≡ true
  end_over k old new end = ap (λ (session : SessionData). session.ended) end.ended.session

  pub flush_owes : (old new : Core D g) (result : Result (Unit {0}) StoreError) → FlushOutcome (committer_of old) (committer_of new) result → OwesNoMore core_model old new
  flush_owes old new result end = λ k. flush_owed k (committer_of old) (committer_of new) result end

  -- a call that succeeded found the core sound
  pub was_sound : (core : Core D g) → (is_core_broken core → ⊥) → IsSound core
  was_sound core never = by (is_broken (store_of (committer_of core))) refl
    where
      by : (broken : Bool) → is_broken (store_of (committer_of core)) ≡ broken → IsSound core
      by true is = absurd (never is)
      by false is = is

  pub on_ok_sound : {E : Type 0} {P : Type 0} (old new : Core D g) (result : Result (Unit {0}) E) (error : E) → (is_core_broken old → (result ≡ Err error) × IsCoreUntouched old new) → ((done : Unit {0}) → result ≡ Ok done → IsSound old → P) → OnOk result P
  on_ok_sound old new (Err fault) error broken by = tt
  on_ok_sound old new (Ok done) error broken by = by done refl (was_sound old (λ here. absurd (cc (broken here).0)))

pub on_ok : {A E : Type 0} {P : Type 0} (result : Result A E) → P → OnOk result P
on_ok (Ok value) holds = holds
on_ok (Err error) holds = tt
