-- The calls of a door, one by one.
use Rattle.std.specs.Prelude.{if◌then◌else◌, ◌&&◌, ◌||◌, not}
use Rattle.std.specs.declared.time.Instant.{Instant}
use Rattle.std.proofs.Common.{◌≡◌, ◌≢◌, ◌⊎◌, inl, inr, ◌∙◌, ◌++◌, ℕ, is_some, Bool, true, false, Option, Some, None, List, [], ◌∷◌, length, refl, sym, ap, subst, true≢false}
use Rattle.audit_serve_ready.specs.declared.departure.Departure.TheVariants.{Memory}
use Rattle.audit_serve_ready.specs.declared.newcomer.Newcomer.{Newcomer}
use Rattle.audit_serve_ready.specs.declared.next.Next.{Next}
use Rattle.audit_serve_ready.specs.declared.next.Next.TheVariants as next
use Rattle.audit_serve_ready.specs.Door.{a_judging, an_offer}
use Rattle.audit_serve_door.specs.Accepting.{AcceptModel}
use Rattle.audit_serve_door.specs.Notes.{a_note, a_silent_note, NoteModel}
use Rattle.audit_serve_door.specs.declared.entrance.Arrival.{Arrival}
use Rattle.audit_serve_door.specs.declared.metered.Metered.{Metered}
use Rattle.audit_serve_door.specs.declared.nonblocking.Nonblocking.{Nonblocking}
use Rattle.audit_serve_door.specs.declared.waiting.Waiting.{Waiting}
use Rattle.audit_serve_door.specs.declared.socket_door.SocketDoor.{SocketDoor}
use Rattle.audit_serve_door.specs.Waits.{NoArrival, Passes, ChangesWaiters}
use Rattle.audit_serve_door.specs.Finishing.{IsFinishingTime, IsOver, has_order, SaysNext}
use Rattle.audit_serve_door.specs.Comings.{flags_of, KeepsFlags, IsRelease, IsPauseOfFlags, Receives, KeepsWaiters, KeepsSockets, IsPauseOfDoor, AreDoorCalls, IsGivenOut, ChangesSeats, PausesPlaces, candidates_of}
use Rattle.audit_serve_door.specs.Idle.{ChoosesDue, places_held, seated, is_idle, is_due, noted}
use Rattle.audit_serve_door.specs.Entering.{NobodyEnters}
use Rattle.audit_serve_door.specs.Metered.{moves_of_metered}
use Rattle.audit_serve_passes.specs.Rights.{only_reads}
use Rattle.audit_serve_door.specs.declared.places.Candidates.{Candidates}
use Rattle.audit_serve_door.specs.declared.places.Places.{Places}
use Rattle.audit_serve_door.proofs.Passing.{turned_one, turned_none, turned_then, passes_then, passes_as, passes_out, passes_gone, changes_refl, changes_as}

never_again : {A : Type 0} → next.Stop ≡ next.Again → A
never_again same = absurd (cc same)

never_none : {A B : Type 0} (found : Option A) (one : A) → found ≡ None → found ≡ Some one → B
never_none found one none some = absurd (cc (sym none ∙ some))

-- what a pause says if what is served is out of its place, or the system failed
pub says_stop : (is_replaced has_failed is_ordered : Bool) (now : Instant) (until : Option Instant) → (is_replaced ≡ true) ⊎ (has_failed ≡ true) → SaysNext next.Stop is_replaced has_failed is_ordered now until until
says_stop is_replaced has_failed is_ordered now until cause = record {
  begins = λ none stop. elim cause [ inl replaced ↦ inl replaced | inr failed ↦ inr (inl failed) ];
  goes = λ none again. never_again again;
  kept = λ last is. is;
  over = λ last is stop. elim cause [ inl replaced ↦ inl replaced | inr failed ↦ inr (inl failed) ];
  on = λ last is again over. never_again again;
}

-- if there is no order
pub says_again : (is_replaced has_failed is_ordered : Bool) (now : Instant) (until : Option Instant) → until ≡ None → SaysNext next.Again is_replaced has_failed is_ordered now until until
says_again is_replaced has_failed is_ordered now until none = record {
  begins = λ same stop. never_again (sym stop);
  goes = λ same again. none;
  kept = λ last is. is;
  over = λ last is stop. never_again (sym stop);
  on = λ last is again over. never_none until last none is;
}

-- if there is one, or there was
pub says_finish : (answer : Next) (is_replaced has_failed is_ordered : Bool) (now : Instant) (was until : Option Instant) → (is_some was ≡ true) ⊎ (is_ordered ≡ true) → (was ≡ None → (answer ≡ next.Stop) × IsFinishingTime now until)
    → ((last : Instant) → was ≡ Some last → until ≡ Some last) → ((last : Instant) → was ≡ Some last → answer ≡ next.Stop → IsOver now last) → ((last : Instant) → was ≡ Some last → answer ≡ next.Again → IsOver now last → ⊥)
    → SaysNext answer is_replaced has_failed is_ordered now was until
says_finish answer is_replaced has_failed is_ordered now was until cause begins kept over on = record {
  begins = λ none stop. inr (inr (elim cause [ inl some ↦ absurd (true≢false (sym some ∙ ap is_some none)) | inr ordered ↦ ordered ], (begins none).1));
  goes = λ none again. never_again (sym (begins none).0 ∙ again);
  kept = kept;
  over = λ last is stop. inr (inr (over last is stop));
  on = on;
}

pub says_stop_kept : (is_replaced has_failed is_ordered : Bool) (now : Instant) (was until : Option Instant) → until ≡ was → (is_replaced ≡ true) ⊎ (has_failed ≡ true) → SaysNext next.Stop is_replaced has_failed is_ordered now was until
says_stop_kept is_replaced has_failed is_ordered now was until same cause = subst (SaysNext next.Stop is_replaced has_failed is_ordered now was) (sym same) (says_stop is_replaced has_failed is_ordered now was cause)

pub says_again_kept : (is_replaced has_failed is_ordered : Bool) (now : Instant) (was until : Option Instant) → until ≡ was → was ≡ None → SaysNext next.Again is_replaced has_failed is_ordered now was until
says_again_kept is_replaced has_failed is_ordered now was until same none = subst (SaysNext next.Again is_replaced has_failed is_ordered now was) (sym same) (says_again is_replaced has_failed is_ordered now was none)

pub says_finish_kept : (answer : Next) (is_replaced has_failed is_ordered : Bool) (now : Instant) (was mid until : Option Instant) → mid ≡ was → (is_some mid ≡ true) ⊎ (is_ordered ≡ true) → (mid ≡ None → (answer ≡ next.Stop) × IsFinishingTime now until)
    → ((last : Instant) → mid ≡ Some last → until ≡ Some last) → ((last : Instant) → mid ≡ Some last → answer ≡ next.Stop → IsOver now last) → ((last : Instant) → mid ≡ Some last → answer ≡ next.Again → IsOver now last → ⊥)
    → SaysNext answer is_replaced has_failed is_ordered now was until
says_finish_kept answer is_replaced has_failed is_ordered now was mid until same cause begins kept over on =
    subst (λ (before : Option Instant). SaysNext answer is_replaced has_failed is_ordered now before until) same (says_finish answer is_replaced has_failed is_ordered now mid until cause begins kept over on)

-- there is no value
pub none_here : {A : Type 0} (found : Option A) → is_some found ≡ false → found ≡ None
none_here None none = refl
none_here (Some one) none = absurd (true≢false none)

module _ {C J W L S : Type 0} where
  pub kept_call : (old new : SocketDoor C J W L S) → new.entrances ≡ old.entrances → new.waiting ≡ old.waiting → new.journal ≡ old.journal → new.until ≡ old.until → new.places ≡ old.places → KeepsFlags old new → (mid : SocketDoor C J W L S) × (KeepsWaiters old mid × ((mid.places ≡ old.places) × KeepsFlags old mid)) × (new ≡ mid)
  kept_call old new entrances waiting journal until places flags = (new, (record { entrances = entrances; waiting = waiting; journal = journal; until = until }, (places, flags)), refl)

  -- it was asked whether replies may leave
  pub release_call : (Left : W → Type 0) (lets : Bool) (old new : SocketDoor C J W L S) → new.entrances ≡ old.entrances → new.waiting ≡ old.waiting → new.journal ≡ old.journal → new.until ≡ old.until → new.places ≡ old.places → IsRelease Left lets old new → (mid : SocketDoor C J W L S) × (KeepsWaiters old mid × ((mid.places ≡ old.places) × IsRelease Left lets old mid)) × (new ≡ mid)
  release_call Left lets old new entrances waiting journal until places flags = (new, (record { entrances = entrances; waiting = waiting; journal = journal; until = until }, (places, flags)), refl)

  -- what is served was found in its place, or wasn't looked for
  pub lets_leave : (Left : W → Type 0) (old new : SocketDoor C J W L S) → old.is_replaced ≡ false → new.is_replaced ≡ old.is_replaced → new.has_failed ≡ old.has_failed → IsRelease Left true old new
  lets_leave Left old new there same failed = record {
    lets_is = sym (ap not (same ∙ there));
    found = λ gone. inl (sym same ∙ gone);
    noted = λ gone. same ∙ gone;
    failed = failed;
  }

  -- it was looked for
  pub looked : (Left : W → Type 0) (lets : Bool) (old new : SocketDoor C J W L S) → old.is_replaced ≡ false → new.is_replaced ≡ (old.is_replaced || not lets) → (lets ≡ false → Left new.watch) → new.has_failed ≡ old.has_failed → IsRelease Left lets old new
  looked Left true old new there is found failed = lets_leave Left old new there (is ∙ ap (λ (was : Bool). was || false) there ∙ sym there) failed
  looked Left false old new there is found failed = record {
    lets_is = sym (ap not (is ∙ ap (λ (was : Bool). was || true) there));
    found = λ gone. inr (found refl);
    noted = λ gone. absurd (true≢false (sym gone ∙ there));
    failed = failed;
  }

  flags_kept : (old new : SocketDoor C J W L S) → flags_of new ≡ flags_of old → KeepsFlags old new
  flags_kept old new same = record { replaced = ap (λ flags. flags.1.0) same; failed = ap (λ flags. flags.1.1) same }

  -- a pause that noted nothing
  pub noted_nothing : (answer : Next) (old new : SocketDoor C J W L S) → new.is_replaced ≡ old.is_replaced → new.has_failed ≡ old.has_failed → IsPauseOfFlags answer old new
  noted_nothing answer old new replaced failed = record { replaced = replaced; failed = λ now. inl (sym failed ∙ now); noted = λ was. failed ∙ was }

  -- a client was judged
  pub judged_call : (place : ℕ) (client : Metered (Nonblocking S)) (said : Bool) (old new : SocketDoor C J W L S) → new.entrances ≡ old.entrances → new.waiting ≡ old.waiting → new.journal ≡ old.journal → new.until ≡ old.until → said ≡ (is_idle place (moves_of_metered client) old.places && is_due place old.places)
      → new.places ≡ noted place (moves_of_metered client) old.now old.places → KeepsFlags old new → (mid : SocketDoor C J W L S) × (KeepsWaiters old mid × (ChangesSeats old (a_judging place client said) mid × KeepsFlags old mid)) × (new ≡ mid)
  judged_call place client said old new entrances waiting journal until is places flags = (new, (record { entrances = entrances; waiting = waiting; journal = journal; until = until }, ((is, places), flags)), refl)

  pub sockets_call : (Waits : Waiting S → Waiting S → J → J → Type 0) (seats : Places) (old new : SocketDoor C J W L S) → new.entrances ≡ old.entrances → flags_of new ≡ flags_of old → new.places ≡ seats → Waits old.waiting new.waiting old.journal new.journal → (mid : SocketDoor C J W L S) × (KeepsSockets Waits old mid × ((mid.places ≡ seats) × KeepsFlags old mid)) × (new ≡ mid)
  sockets_call Waits seats old new entrances flags places waits = (new, (record { entrances = entrances; until = ap (λ noted. noted.0) flags; waits = waits }, (places, flags_kept old new flags)), refl)

-- a pause that doesn't choose leaves the places
pub places_kept : (answer : Next) (until : Option Instant) (who : Candidates) (now : Instant) (old new : Places) → (until ≡ None → answer ≡ next.Stop) → new ≡ old → PausesPlaces answer until who now old new
places_kept next.Stop until who now old new stops same = same
places_kept next.Again None who now old new stops same = never_again (sym (stops refl))
places_kept next.Again (Some last) who now old new stops same = same

-- before the order to stop it does
pub places_chosen : (until : Option Instant) (who : Candidates) (now : Instant) (old new : Places) → until ≡ None → ChoosesDue who now old new → PausesPlaces next.Again until who now old new
places_chosen None who now old new none chosen = chosen
places_chosen (Some last) who now old new none chosen = absurd (cc none)

some_end : {A : Type 0} (gone : List A) (one : A) → gone ++ one ∷ [] ≢ []
some_end [] one none = absurd (cc none)
some_end (first ∷ gone) one none = absurd (cc none)

module _ {S J : Type 0} (N : NoteModel J) where
  -- after others a further one was taken out and turned away
  pub turned_further : (arrival : Arrival S) (old mid left new : Waiting S) (was between now : J) → ChangesWaiters N NoArrival old mid was between → Passes NoArrival (arrival ∷ []) mid left → Passes NoArrival [] left new → N.DidNote between now (a_note Memory ∷ []) → (turned : ChangesWaiters N NoArrival old new was now) × (turned.gone ≢ [])
  turned_further arrival old mid left new was between now first out stay noted = (
    record {
      gone = first.gone ++ arrival ∷ [];
      passes = passes_as (λ one. NoArrival one ⊎ NoArrival one) NoArrival (first.gone ++ arrival ∷ []) old new
          (λ one either. elim either [ inl none ↦ none | inr none ↦ none ]) (λ one none. inl none)
          (passes_then NoArrival NoArrival first.gone (arrival ∷ []) old mid new first.passes (passes_out NoArrival (arrival ∷ []) mid left new out stay));
      notes = first.notes ++ a_note Memory ∷ [];
      noted = N.more_noted was between now first.notes (a_note Memory ∷ []) first.noted noted;
      each = turned_then first.gone (arrival ∷ []) first.notes (a_note Memory ∷ []) first.each (tt, tt);
    },
    some_end first.gone arrival,
  )

  -- the oldest one that had sent nothing was dropped
  pub dropped : (is : Bool) (old new : Waiting S) (was now : J) → is ≡ true → (gone : List (Arrival S)) × Passes NoArrival gone old new × (length gone ≡ (if is then 1 else 0)) → N.DidNote was now (a_silent_note ∷ []) → ChangesWaiters N NoArrival old new was now
  dropped is old new was now there passes noted = record {
    gone = passes.0;
    passes = passes.1;
    notes = a_silent_note ∷ [];
    noted = noted;
    each = turned_one passes.0 a_silent_note (passes.2 ∙ ap (λ (b : Bool). if b then 1 else 0) there) tt;
  }

  -- one was turned away for want of memory
  pub lost : (Came : Arrival S → Type 0) (is : Bool) (old new : Waiting S) (was now : J) → is ≡ false → (gone : List (Arrival S)) × Passes Came gone old new × (length gone ≡ (if is then 0 else 1)) → N.DidNote was now (a_note Memory ∷ []) → ChangesWaiters N Came old new was now
  lost Came is old new was now none passes noted = record {
    gone = passes.0;
    passes = passes.1;
    notes = a_note Memory ∷ [];
    noted = noted;
    each = turned_one passes.0 (a_note Memory) (passes.2 ∙ ap (λ (b : Bool). if b then 0 else 1) none) tt;
  }

  -- nobody was
  pub all_there : (Came : Arrival S → Type 0) (is : Bool) (old new : Waiting S) (was : J) → is ≡ true → (gone : List (Arrival S)) × Passes Came gone old new × (length gone ≡ (if is then 0 else 1)) → ChangesWaiters N Came old new was was
  all_there Came is old new was there passes = record {
    gone = passes.0;
    passes = passes.1;
    notes = [];
    noted = N.nothing_noted was;
    each = turned_none passes.0 (passes.2 ∙ ap (λ (b : Bool). if b then 0 else 1) there);
  }

  -- the same of one that came
  pub lost_one : (arrival other : Arrival S) (is : Bool) (old new : Waiting S) (was now : J) → other ≡ arrival → is ≡ false → (gone : List (Arrival S)) × Passes (λ (one : Arrival S). one ≡ other) gone old new × (length gone ≡ (if is then 0 else 1)) → N.DidNote was now (a_note Memory ∷ [])
      → ChangesWaiters N (λ (one : Arrival S). one ≡ arrival) old new was now
  lost_one arrival other is old new was now same none passes noted =
      changes_as N (λ (one : Arrival S). one ≡ other) (λ (one : Arrival S). one ≡ arrival) old new was now (λ one e. e ∙ same) (λ one e. e ∙ sym same) (lost (λ (one : Arrival S). one ≡ other) is old new was now none passes noted)

  pub there_one : (arrival other : Arrival S) (is : Bool) (old new : Waiting S) (was : J) → other ≡ arrival → is ≡ true → (gone : List (Arrival S)) × Passes (λ (one : Arrival S). one ≡ other) gone old new × (length gone ≡ (if is then 0 else 1)) → ChangesWaiters N (λ (one : Arrival S). one ≡ arrival) old new was was
  there_one arrival other is old new was same there passes =
      changes_as N (λ (one : Arrival S). one ≡ other) (λ (one : Arrival S). one ≡ arrival) old new was was (λ one e. e ∙ same) (λ one e. e ∙ sym same) (all_there (λ (one : Arrival S). one ≡ other) is old new was there passes)

  -- one that came was turned away at once
  pub refused : (arrival : Arrival S) (waiting : Waiting S) (was now : J) → N.DidNote was now (a_note Memory ∷ []) → ChangesWaiters N (λ (one : Arrival S). one ≡ arrival) waiting waiting was now
  refused arrival waiting was now noted = record {
    gone = arrival ∷ [];
    passes = passes_gone arrival waiting;
    notes = a_note Memory ∷ [];
    noted = noted;
    each = (tt, tt);
  }

  -- one that was taken out was turned away
  pub taken_away : (arrival : Arrival S) (old mid new : Waiting S) (was now : J) → Passes NoArrival (arrival ∷ []) old mid → Passes NoArrival [] mid new → N.DidNote was now (a_note Memory ∷ []) → ChangesWaiters N NoArrival old new was now
  taken_away arrival old mid new was now out stay noted = record {
    gone = arrival ∷ [];
    passes = passes_out NoArrival (arrival ∷ []) old mid new out stay;
    notes = a_note Memory ∷ [];
    noted = noted;
    each = (tt, tt);
  }

  -- who waits is the same
  pub changes_kept : (old new : Waiting S) (was now : J) → new ≡ old → now ≡ was → ChangesWaiters N NoArrival old new was now
  changes_kept old new was now same noted = subst (λ (journal : J). ChangesWaiters N NoArrival old new was journal) (sym noted) (subst (λ (waiting : Waiting S). ChangesWaiters N NoArrival old waiting was was) (sym same) (changes_refl N old was))

  -- after it nobody else is lost
  pub changes_on : (Came : Arrival S → Type 0) (old mid new : Waiting S) (was now : J) → ChangesWaiters N Came old mid was now → Passes NoArrival [] mid new → ChangesWaiters N Came old new was now
  changes_on Came old mid new was now first stay = record {
    gone = first.gone;
    passes = passes_out Came first.gone old mid new first.passes stay;
    notes = first.notes;
    noted = first.noted;
    each = first.each;
  }

module _ {C J W L S : Type 0} (A : AcceptModel L S) (N : NoteModel J) (Left : W → Type 0) where
  -- an offer that nobody took
  pub none_given : (old new : SocketDoor C J W L S) (place : ℕ) (given : Option (Newcomer (Metered (Nonblocking S)))) → given ≡ None → new.entrances ≡ old.entrances → flags_of new ≡ flags_of old → new.places ≡ old.places → (turned : ChangesWaiters N NoArrival old.waiting new.waiting old.journal new.journal)
      → NobodyEnters (places_held old.places) new.waiting ⊎ (turned.gone ≢ []) → AreDoorCalls A N Left old (an_offer place given ∷ []) new
  none_given old new place given is entrances flags places turned why =
      subst (λ (answer : Option (Newcomer (Metered (Nonblocking S)))). AreDoorCalls A N Left old (an_offer place answer ∷ []) new) (sym is)
      (new, (record { entrances = entrances; until = ap (λ noted. noted.0) flags; waits = record { turned = turned; why = why } }, (places, flags_kept old new flags)), refl)

  -- an offer that somebody took who was next
  pub one_given : (old new : SocketDoor C J W L S) (place number : ℕ) (newcomer : Newcomer (Metered (Nonblocking S))) → new.entrances ≡ old.entrances → flags_of new ≡ flags_of old → IsGivenOut N (places_held old.places) newcomer old.waiting new.waiting old.journal new.journal
      → new.places ≡ seated place number (only_reads newcomer.rights) old.now old.places → AreDoorCalls A N Left old (an_offer place (Some newcomer) ∷ []) new
  one_given old new place number newcomer entrances flags given places =
      (new, (record { entrances = entrances; until = ap (λ noted. noted.0) flags; waits = given }, ((number, places), flags_kept old new flags)), refl)

  pub pause_call : (answer : Next) (old new : SocketDoor C J W L S) → Receives A N old.entrances.items new.entrances.items old.waiting new.waiting old.journal new.journal → SaysNext answer old.is_replaced new.has_failed (has_order new.orders) new.now old.until new.until
      → PausesPlaces answer old.until (candidates_of new) new.now old.places new.places → IsPauseOfFlags answer old new
      → (mid : SocketDoor C J W L S) × (IsPauseOfDoor A N answer old mid × (PausesPlaces answer old.until (candidates_of mid) mid.now old.places mid.places × IsPauseOfFlags answer old mid)) × (new ≡ mid)
  pause_call answer old new received says places flags = (new, (record { received = received; says = says }, (places, flags)), refl)
