-- Who waits after several changes in a row, and who was turned away in them.
use Rattle.std.proofs.Common.{◌≡◌, ◌⊎◌, inl, inr, zero, List, [], ◌∷◌, ◌++◌, length, sym, arith}
use Rattle.std.proofs.lemmas.List.Elements.{Contains-append_left, Contains-append_right}
use Rattle.audit_serve_door.specs.Notes.{NoteCall, NoteModel}
use Rattle.audit_serve_door.specs.declared.entrance.Arrival.{Arrival}
use Rattle.audit_serve_door.specs.declared.waiting.Waiting.{Waiting}
use Rattle.audit_serve_door.specs.Waits.{NoArrival, Passes, IsTurningAway, AreTurnedAway, ChangesWaiters}

pub turned_then : {S : Type 0} (gone more : List (Arrival S)) (notes later : List NoteCall) → AreTurnedAway gone notes → AreTurnedAway more later → AreTurnedAway (gone ++ more) (notes ++ later)
turned_then [] more [] later first second = second
turned_then [] more (note ∷ notes) later first second = absurd first
turned_then (arrival ∷ gone) more [] later first second = absurd first
turned_then (arrival ∷ gone) more (note ∷ notes) later first second = (first.0, turned_then gone more notes later first.1 second)

-- one note for at most one connection
pub turned_one : {S : Type 0} (gone : List (Arrival S)) (note : NoteCall) → length gone ≡ 1 → IsTurningAway note → AreTurnedAway gone (note ∷ [])
turned_one [] note one why = absurd (cc one)
turned_one (arrival ∷ []) note one why = (why, tt)
turned_one (arrival ∷ other ∷ gone) note one why = absurd (omega (arith, one))

pub turned_none : {S : Type 0} (gone : List (Arrival S)) → length gone ≡ 0 → AreTurnedAway gone []
turned_none [] none = tt
turned_none (arrival ∷ gone) none = absurd (omega (arith, none))

module _ {S : Type 0} where
  pub passes_refl : (waiting : Waiting S) → Passes NoArrival [] waiting waiting
  passes_refl waiting = record {
    came = λ number arrival waits. inl waits;
    kept = λ number arrival waits. inl waits;
    entered = λ arrival none. absurd none;
  }

  pub passes_then : (Came More : Arrival S → Type 0) (gone lost : List (Arrival S)) (old mid new : Waiting S) → Passes Came gone old mid → Passes More lost mid new → Passes (λ arrival. Came arrival ⊎ More arrival) (gone ++ lost) old new
  passes_then Came More gone lost old mid new first second = record {
    came = λ number arrival waits. elim (second.came number arrival waits) [
      | inl there ↦ elim (first.came number arrival there) [
        | inl before ↦ inl before
        | inr came ↦ inr (inl came)
      ]
      | inr came ↦ inr (inr came)
    ];
    kept = λ number arrival waits. elim (first.kept number arrival waits) [
      | inl there ↦ elim (second.kept number arrival there) [
        | inl now ↦ inl now
        | inr out ↦ inr (Contains-append_right gone lost arrival out)
      ]
      | inr out ↦ inr (Contains-append_left gone lost arrival out)
    ];
    entered = λ arrival either. elim either [
      | inl came ↦ elim (first.entered arrival came) [
        | inl there ↦ elim (second.kept there.0 arrival there.1) [
          | inl now ↦ inl (there.0, now)
          | inr out ↦ inr (Contains-append_right gone lost arrival out)
        ]
        | inr out ↦ inr (Contains-append_left gone lost arrival out)
      ]
      | inr came ↦ elim (second.entered arrival came) [
        | inl now ↦ inl now
        | inr out ↦ inr (Contains-append_right gone lost arrival out)
      ]
    ];
  }

  -- the same of those that are called otherwise
  pub passes_as : (Came More : Arrival S → Type 0) (gone : List (Arrival S)) (old new : Waiting S) → ((arrival : Arrival S) → Came arrival → More arrival) → ((arrival : Arrival S) → More arrival → Came arrival) → Passes Came gone old new → Passes More gone old new
  passes_as Came More gone old new as_more as_came first = record {
    came = λ number arrival waits. elim (first.came number arrival waits) [
      | inl before ↦ inl before
      | inr came ↦ inr (as_more arrival came)
    ];
    kept = first.kept;
    entered = λ arrival came. first.entered arrival (as_came arrival came);
  }

  -- a connection that was taken out, and that was turned away then
  pub passes_out : (Came : Arrival S → Type 0) (gone : List (Arrival S)) (old mid new : Waiting S) → Passes Came gone old mid → Passes NoArrival [] mid new → Passes Came gone old new
  passes_out Came gone old mid new first second = record {
    came = λ number arrival waits. elim (second.came number arrival waits) [
      | inl there ↦ first.came number arrival there
      | inr came ↦ absurd came
    ];
    kept = λ number arrival waits. elim (first.kept number arrival waits) [
      | inl there ↦ elim (second.kept number arrival there) [
        | inl now ↦ inl now
        | inr out ↦ absurd (omega (arith, out.1))
      ]
      | inr out ↦ inr out
    ];
    entered = λ arrival came. elim (first.entered arrival came) [
      | inl there ↦ elim (second.kept there.0 arrival there.1) [
        | inl now ↦ inl (there.0, now)
        | inr out ↦ absurd (omega (arith, out.1))
      ]
      | inr out ↦ inr out
    ];
  }

  -- nobody waits: so nobody did, and a connection that comes is gone
  pub passes_gone : (arrival : Arrival S) (waiting : Waiting S) → Passes (λ (one : Arrival S). one ≡ arrival) (arrival ∷ []) waiting waiting
  passes_gone arrival waiting = record {
    came = λ number one waits. inl waits;
    kept = λ number one waits. inl waits;
    entered = λ one same. inr (zero, omega arith, sym same);
  }

module _ {S J : Type 0} (N : NoteModel J) where
  pub changes_refl : (waiting : Waiting S) (journal : J) → ChangesWaiters N NoArrival waiting waiting journal journal
  changes_refl waiting journal = record { gone = []; passes = passes_refl waiting; notes = []; noted = N.nothing_noted journal; each = tt }

  pub changes_then : (Came More : Arrival S → Type 0) (old mid new : Waiting S) (was between now : J) → ChangesWaiters N Came old mid was between → ChangesWaiters N More mid new between now → ChangesWaiters N (λ arrival. Came arrival ⊎ More arrival) old new was now
  changes_then Came More old mid new was between now first second = record {
    gone = first.gone ++ second.gone;
    passes = passes_then Came More first.gone second.gone old mid new first.passes second.passes;
    notes = first.notes ++ second.notes;
    noted = N.more_noted was between now first.notes second.notes first.noted second.noted;
    each = turned_then first.gone second.gone first.notes second.notes first.each second.each;
  }

  pub changes_as : (Came More : Arrival S → Type 0) (old new : Waiting S) (was now : J) → ((arrival : Arrival S) → Came arrival → More arrival) → ((arrival : Arrival S) → More arrival → Came arrival) → ChangesWaiters N Came old new was now → ChangesWaiters N More old new was now
  changes_as Came More old new was now as_more as_came first = record {
    gone = first.gone;
    passes = passes_as Came More first.gone old new as_more as_came first.passes;
    notes = first.notes;
    noted = first.noted;
    each = first.each;
  }

  pub nobody_then : (old mid new : Waiting S) (was between now : J) → ChangesWaiters N NoArrival old mid was between → ChangesWaiters N NoArrival mid new between now → ChangesWaiters N NoArrival old new was now
  nobody_then old mid new was between now first second =
      changes_as (λ arrival. NoArrival arrival ⊎ NoArrival arrival) NoArrival old new was now
      (λ arrival either. elim either [ inl none ↦ none | inr none ↦ none ]) (λ arrival none. inl none)
      (changes_then NoArrival NoArrival old mid new was between now first second)
