-- What rounds do for each client.
use Rattle.std.proofs.Common.{◌≡◌, ◌⊎◌, ◌↔◌, inl, inr, ◌∙◌, ℕ, zero, suc, ◌+◌, ◌<◌, ◌≤◌, Bool, true, false, not, ◌&&◌, Option, Some, None, List, [], ◌∷◌, ◌++◌, length, refl, sym, ap, subst, arith, true≢false}
use Rattle.std.proofs.lemmas.List.{append-nil}
use Rattle.audit_serve_passes.specs.Steps.{a_flush}
use Rattle.audit_serve_passes.specs.Streams.{StreamCall, CallModel, bytes_read}
use Rattle.audit_serve_passes.specs.Core.{CoreModel, RequestKind, appending, no_bytes}
use Rattle.audit_serve_ready.specs.declared.departure.Departure.{Departure}
use Rattle.audit_serve_ready.specs.declared.departure.Departure.TheVariants.{CutOff}
use Rattle.audit_serve_ready.specs.declared.note.Note.{Note}
use Rattle.audit_serve_ready.specs.declared.note.Note.TheVariants.{Finished, ReadFailed, WriteFailed, Dismissed, Memory}
use Rattle.audit_serve_ready.specs.Door.{DoorCall, DoorModel, a_parting, joined_below}
use Rattle.audit_serve_ready.specs.Slot.{SlotData, unread_of, kept_of, has_client, has_kept, is_shut, noted_of, departure_for, IsAskedForBytes}
use Rattle.audit_serve_ready.specs.Places.{slot_at}
use Rattle.audit_serve_ready.specs.Reading.{HasAskedMost, IsAttended}
use Rattle.audit_serve_ready.specs.Backlog.{TakesTurn, IsPutOff, TakesUp}
use Rattle.audit_serve_ready.specs.Clients.{ClientChange, a_pass, a_coming, a_refusal, a_going, next_first, first_after_all, AreChanges}
use Rattle.audit_serve_ready.specs.Turns.{passes_in}
use Rattle.audit_serve_ready.specs.Rounds.{first_after_rounds, is_done, IsLetGo, IsLetIn, IsOfferAnswered, nobody, let_in, turned_away, ServesPass, ServesPlacesOnce, IsHeard, AreRounds}
use Rattle.audit_serve_ready.proofs.Bounds.{ended_still}
use Rattle.audit_serve_ready.proofs.Changes.{changes_then, first_after-append}
use Rattle.audit_serve_ready.proofs.PlaceByPlace.{gone_turns, come_turns, joined_turns}

passes-append : {S : Type 0} (changes later : List (ClientChange S)) → passes_in (changes ++ later) ≡ passes_in changes + passes_in later
passes-append [] later = omega arith
passes-append (a_pass steps taken calls ∷ changes) later = omega (arith, passes-append changes later)
passes-append (a_coming k client ∷ changes) later = passes-append changes later
passes-append (a_refusal k client ∷ changes) later = passes-append changes later
passes-append (a_going k ∷ changes) later = passes-append changes later

no_passes : {S : Type 0} (count : ℕ) (changes : ℕ → List (ClientChange S)) → ((k : ℕ) → k < count → passes_in (changes k) ≡ 0) → passes_in (joined_below count changes) ≡ 0
no_passes zero changes none = refl
no_passes (suc k) changes none = omega (arith, passes-append (joined_below k changes) (changes k), no_passes k changes (λ j below. none j (omega (arith, below))), none k (omega arith))

answered_passes : {S : Type 0} (k : ℕ) (told : List (DoorCall S)) (changes : List (ClientChange S)) → IsOfferAnswered k told changes → passes_in changes ≡ 0
answered_passes k told changes nobody = refl
answered_passes k told changes (let_in client) = refl
answered_passes k told changes (turned_away client) = refl

module _ {C S : Type 0} (M : CoreModel C) where
  gone_passes : (k : ℕ) (core : C) (slot : SlotData S) (told : List (DoorCall S)) (changes : List (ClientChange S)) → IsLetGo M k core slot told changes → passes_in changes ≡ 0
  gone_passes k core slot told changes (inl none) = ap passes_in none.2
  gone_passes k core slot told changes (inr gone) = ap passes_in gone.4

  come_passes : (k : ℕ) (core : C) (slot : SlotData S) (told : List (DoorCall S)) (changes : List (ClientChange S)) → IsLetIn M k core slot told changes → passes_in changes ≡ 0
  come_passes k core slot told changes (inl none) = ap passes_in none.2
  come_passes k core slot told changes (inr (free, answered)) = answered_passes k told changes answered

module _ {C D S : Type 0} (M : CoreModel C) (N : CallModel S) (E : DoorModel D S) (backlog : ℕ) where
  -- changes with one pass for each round
  record AreCounted (rounds : ℕ) (old new : C) (before after : List (SlotData S)) : Type 0 where
    changes : List (ClientChange S)
    passes : passes_in changes ≡ rounds
    turns : first_after_all 0 changes ≡ first_after_rounds rounds
    are : AreChanges M N backlog 0 changes old new before after

  round_more : (rounds : ℕ) (was now : D) (old mid new : C) (before between after : List (SlotData S)) → AreCounted rounds old mid before between → ServesPlacesOnce M N E backlog (first_after_rounds rounds) was now mid new between after
      → AreCounted (suc rounds) old new before after
  round_more rounds was now old mid new before between after first once =
      let turn = first_after_rounds rounds in
      let served : ClientChange S = a_pass (once.pass.turns ++ a_flush ∷ []) once.pass.taken (λ k. once.pass.reads k ++ once.pass.writes k) in
      let gone = joined_below (length once.present) once.goes.changes in
      let come = joined_below (length once.left) once.comes.changes in
      let gone_turn : first_after_all (next_first turn) gone ≡ next_first turn = joined_turns M N E backlog (IsLetGo M) (gone_turns M) (length once.present) (next_first turn) once.mid once.present once.goes.told once.goes.changes once.goes.at in
      let come_turn : first_after_all (next_first turn) come ≡ next_first turn = joined_turns M N E backlog (IsLetIn M) (come_turns M) (length once.left) (next_first turn) once.mid once.left once.comes.told once.comes.changes once.comes.at in
      let later : List (ClientChange S) = served ∷ (gone ++ come) in
      let later_turn : first_after_all turn later ≡ next_first turn = first_after-append (next_first turn) gone come ∙ ap (λ (n : ℕ). first_after_all n come) gone_turn ∙ come_turn in
      let later_are : AreChanges M N backlog turn later mid new between after = (
        once.mid,
        once.present,
        once.pass.pass,
        changes_then M N backlog (next_first turn) once.mid once.mid new once.present once.left after gone come once.goes.are
            (subst (λ (n : ℕ). AreChanges M N backlog n come once.mid new once.left after) (sym gone_turn) once.comes.are),
      ) in
      record {
        changes = first.changes ++ later;
        passes = omega (
          arith,
          passes-append first.changes later,
          first.passes,
          passes-append gone come,
          no_passes (length once.present) once.goes.changes (λ k below. gone_passes M k once.mid (slot_at k once.present) (once.goes.told k) (once.goes.changes k) (once.goes.at k below)),
          no_passes (length once.left) once.comes.changes (λ k below. come_passes M k once.mid (slot_at k once.left) (once.comes.told k) (once.comes.changes k) (once.comes.at k below)),
        );
        turns = first_after-append 0 first.changes later ∙ ap (λ (n : ℕ). first_after_all n later) first.turns ∙ later_turn;
        are = changes_then M N backlog 0 old mid new before between after first.changes later first.are (subst (λ (n : ℕ). AreChanges M N backlog n later mid new between after) (sym first.turns) later_are);
      }

  counted : (rounds : ℕ) (was now : D) (old new : C) (before after : List (SlotData S)) → AreRounds M N E backlog rounds was now old new before after → AreCounted rounds old new before after
  counted zero was now old new before after are = record { changes = []; passes = refl; turns = refl; are = (are.1, are.2) }
  counted (suc rounds) was now old new before after are =
      round_more rounds are.0 are.4.unpaused old are.1 new before are.2 after (counted rounds was are.0 old are.1 before are.2 are.3) are.4.serves

  pub rounds_change : (rounds : ℕ) (was now : D) (old new : C) (before after : List (SlotData S)) → AreRounds M N E backlog rounds was now old new before after
      → (changes : List (ClientChange S)) × (passes_in changes ≡ rounds) × AreChanges M N backlog 0 changes old new before after
  rounds_change rounds was now old new before after are =
      let all = counted rounds was now old new before after are in
      (all.changes, all.passes, all.are)

  -- ---- one pass

  pub heard_in : (first k : ℕ) (was now : D) (old new : C) (before after : List (SlotData S)) (pass : ServesPass M N E backlog true first was now old new before after) → k < length before → M.ended old [] k ≡ false
      → IsHeard M N E backlog k first pass.turns (slot_at k pass.judged) (pass.reads k) (pass.writes k) old new (slot_at k before) (slot_at k after)
  heard_in first k was now old new before after pass within live = record {
    asked = still (pass.reading.seen k (omega (arith, within, pass.judges.same)) live);
    over = λ last. stays (pass.reading.last k (omega (arith, within, pass.judges.same)) last);
    taken = λ unshut.
        let here : k < length pass.judged = omega (arith, within, pass.judges.same) in
        let takes = pass.reading.left k here live unshut in
        let same : unread_of (slot_at k after) ≡ unread_of (slot_at k pass.between) = pass.writing.unread k in
        record {
          fed = takes.fed;
          all = takes.all ∙ ap (λ (rest : List ℕ). takes.fed ++ rest) (sym same);
          left = subst (λ (rest : List ℕ). (rest ≡ []) ⊎ IsPutOff M backlog (HasAskedMost M old pass.turns) k old takes.fed rest (slot_at k pass.judged)) (sym same) takes.left;
        };
    answered = pass.pass.answered;
    offered = pass.writing.offered k (omega (arith, within, pass.reading.pass.count, pass.judges.same));
    turn = λ same. subst (λ (j : ℕ). TakesTurn M backlog j old (slot_at j before) (slot_at j after)) same (pass.pass.turn (omega (arith, within, same)));
  }
    where
      stays : M.ended pass.mid [] k ≡ true → M.ended new [] k ≡ true
      stays ended = ended_still M pass.flushed new [] pass.taken k pass.writing.pass.did (ended_still M pass.mid pass.flushed (a_flush ∷ []) no_bytes k pass.flush ended)

      still : IsAttended M N k (pass.reads k) pass.mid (slot_at k pass.judged) → ((is_shut (slot_at k pass.judged) ≡ true) × (M.ended new [] k ≡ true)) ⊎ IsAskedForBytes (pass.reads k) (slot_at k pass.judged)
      still (inl (shut, ended)) = inl (shut, stays ended)
      still (inr asked) = inr asked

  -- whatever is taken of bytes that begin with an append begins with it
  pub append_taken : {AskNoMore : ℕ → Type 0} (k : ℕ) (calls : List StreamCall) (core : C) (before after : SlotData S) (later : List RequestKind) → TakesUp M backlog AskNoMore k calls core before after → M.requests core k (unread_of before ++ bytes_read calls) ≡ appending ∷ later
      → (kept_of before ≡ []) ⊎ (length (kept_of before) + M.acknowledgement ≤ backlog) → (fed : List ℕ) × (more : List RequestKind) × (unread_of before ++ bytes_read calls ≡ fed ++ unread_of after) × (M.requests core k fed ≡ appending ∷ more)
  append_taken {AskNoMore} k calls core before after later takes asked room = by takes.left
    where
      all_is : M.requests core k (takes.fed ++ unread_of after) ≡ appending ∷ later
      all_is = sym (ap (M.requests core k) takes.all) ∙ asked

      never : (off : IsPutOff M backlog AskNoMore k core takes.fed (unread_of after) before) → off.kind ≡ appending → M.requests core k takes.fed ≡ [] → (kept_of before ≡ []) ⊎ (length (kept_of before) + M.acknowledgement ≤ backlog) → ⊥
      never off is none (inl empty) = (off.appends is).first none empty
      never off is none (inr fits) = omega (arith, (off.appends is).full, fits, M.no_replies core k takes.fed none)

      front : (off : IsPutOff M backlog AskNoMore k core takes.fed (unread_of after) before) (taken : List RequestKind) → M.requests core k takes.fed ≡ taken → taken ++ off.kind ∷ off.is.later ≡ appending ∷ later → (more : List RequestKind) × (M.requests core k takes.fed ≡ appending ∷ more)
      front off [] none first = absurd (never off (cc first) none room)
      front off (kind ∷ more) is first = (more, is ∙ ap (λ (one : RequestKind). one ∷ more) (cc first))

      by : (unread_of after ≡ []) ⊎ IsPutOff M backlog AskNoMore k core takes.fed (unread_of after) before → (fed : List ℕ) × (more : List RequestKind) × (unread_of before ++ bytes_read calls ≡ fed ++ unread_of after) × (M.requests core k fed ≡ appending ∷ more)
      by (inl none) = (takes.fed, later, takes.all, sym (ap (M.requests core k) (ap (λ (rest : List ℕ). takes.fed ++ rest) none ∙ append-nil takes.fed)) ∙ all_is)
      by (inr off) =
          let first = front off (M.requests core k takes.fed) refl (sym off.is.next ∙ all_is) in
          (takes.fed, first.0, takes.all, first.1)

  -- ---- goings and comings

  and_of : (x y : Bool) → x ≡ true → (x && y) ≡ false → y ≡ false
  and_of true y is none = none
  and_of false y is none = absurd (true≢false (sym is))

  not_false : (x : Bool) → not x ≡ false → x ≡ true
  not_false true h = refl
  not_false false h = absurd (true≢false h)

  pub kept_still : (k : ℕ) (core : C) (slot : SlotData S) → is_done M k core slot ≡ false → M.ended core [] k ≡ true → has_client slot ≡ true → has_kept slot ≡ true
  kept_still k core slot none ended there =
      not_false (has_kept slot) (and_of (has_client slot) (not (has_kept slot)) there (and_of (M.ended core [] k) (has_client slot && not (has_kept slot)) ended none))

  pub offered_then : (k : ℕ) (core : C) (slot : SlotData S) (told : List (DoorCall S)) (changes : List (ClientChange S)) → IsLetIn M k core slot told changes → M.ended core [] k ≡ true → has_client slot ≡ false → IsOfferAnswered k told changes
  offered_then k core slot told changes (inl taken) ended vacant =
      absurd (true≢false (sym (ap (λ (b : Bool). b && not (has_client slot)) ended ∙ ap not vacant) ∙ taken.0))
  offered_then k core slot told changes (inr (free, answered)) ended vacant = answered

  -- why a client goes
  cut_only : (cut : Bool) (noted : Option Note) → (departure_for cut noted ≡ CutOff) ↔ (cut ≡ true)
  cut_only true noted = ((λ is. refl), λ cut. refl)
  cut_only false None = ((λ is. absurd (cc is)), λ cut. absurd (cc cut))
  cut_only false (Some Finished) = ((λ is. absurd (cc is)), λ cut. absurd (cc cut))
  cut_only false (Some ReadFailed) = ((λ is. absurd (cc is)), λ cut. absurd (cc cut))
  cut_only false (Some WriteFailed) = ((λ is. absurd (cc is)), λ cut. absurd (cc cut))
  cut_only false (Some Dismissed) = ((λ is. absurd (cc is)), λ cut. absurd (cc cut))
  cut_only false (Some Memory) = ((λ is. absurd (cc is)), λ cut. absurd (cc cut))

  pub why_gone : (k : ℕ) (core : C) (slot : SlotData S) (told : List (DoorCall S)) (changes : List (ClientChange S)) (client : S) (why : Departure) → IsLetGo M k core slot told changes → told ≡ a_parting k client why ∷ []
      → (why ≡ departure_for (M.cut_off core k) (noted_of slot)) × ((why ≡ CutOff) ↔ (M.cut_off core k ≡ true))
  why_gone k core slot told changes client why (inl none) is = absurd (cc (is, none.1))
  why_gone k core slot told changes client why (inr gone) is =
      let same : departure_for (M.cut_off core k) (noted_of slot) ≡ why = cc (sym gone.3 ∙ is) in
      (sym same, subst (λ (d : Departure). (d ≡ CutOff) ↔ (M.cut_off core k ≡ true)) same (cut_only (M.cut_off core k) (noted_of slot)))
