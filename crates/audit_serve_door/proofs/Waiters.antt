-- Those that wait at a door, change by change.
use Rattle.std.specs.Prelude.{Contains, option_to_list}
use Rattle.std.specs.BTreeMap.{BTreeMap, get}
use Rattle.std.specs.Ordering.{nat_cmp}
use Rattle.std.proofs.Common.{◌≡◌, ◌⊎◌, inl, inr, ◌∙◌, ℕ, zero, Bool, true, false, if◌then◌else◌, true≢false, Option, Some, None, List, [], ◌∷◌, length, refl, sym, ap, subst, arith}
use Rattle.std.proofs.lemmas.Bool.{cases_eq}
use Rattle.audit_serve_door.specs.declared.entrance.Arrival.{Arrival}
use Rattle.audit_serve_door.specs.declared.waiting.Waiting.{Waiting}
use Rattle.audit_serve_door.specs.Waits.{silent_at, heard_among, IsPut, KeepsOthers, WaitsWith, NoArrival, Passes}

some_is : {A : Type 0} (one other : A) → Some one ≡ Some other → one ≡ other
some_is one other same = cc same

none_some : {A B : Type 0} (one : A) → None ≡ Some one → B
none_some one none = absurd (cc none)

pub true_false : {A : Type 0} → true ≡ false → A
true_false same = absurd (true≢false same)

found_there : {A : Type 0} (found : Option A) (one : A) → found ≡ Some one → Contains (option_to_list found) one
found_there None one is = none_some one is
found_there (Some other) one is = (zero, omega arith, some_is other one is)

in_one : {A : Type 0} (one other : A) → one ≡ other → Contains (one ∷ []) other
in_one one other same = (zero, omega arith, same)

module _ {S : Type 0} where
  -- one of three is this one
  abbrev pub IsHeld : (silent reader other : Option (Arrival S)) → Arrival S → Type 0
  IsHeld silent reader other arrival = (silent ≡ Some arrival) ⊎ (reader ≡ Some arrival) ⊎ (other ≡ Some arrival)

  same_held : (silent reader other silent_too reader_too other_too : Option (Arrival S)) (arrival : Arrival S) → silent_too ≡ silent → reader_too ≡ reader → other_too ≡ other → IsHeld silent_too reader_too other_too arrival → IsHeld silent reader other arrival
  same_held silent reader other silent_too reader_too other_too arrival s r o held = elim held [
    | inl is ↦ inl (sym s ∙ is)
    | inr rest ↦ elim rest [ inl is ↦ inr (inl (sym r ∙ is)) | inr is ↦ inr (inr (sym o ∙ is)) ]
  ]

  -- who waits with one number changes
  pub passes_at : (Came : Arrival S → Type 0) (gone : List (Arrival S)) (number : ℕ) (old new : Waiting S) → KeepsOthers number old new
      → ((arrival : Arrival S) → WaitsWith new number arrival → WaitsWith old number arrival ⊎ Came arrival)
      → ((arrival : Arrival S) → WaitsWith old number arrival → WaitsWith new number arrival ⊎ Contains gone arrival)
      → ((arrival : Arrival S) → Came arrival → WaitsWith new number arrival ⊎ Contains gone arrival) → Passes Came gone old new
  passes_at Came gone number old new keeps came kept entered = record {
    came = λ at arrival waits. elim (cases_eq at number) [
      | inl same ↦ subst (λ (k : ℕ). WaitsWith old k arrival ⊎ Came arrival) (sym same) (came arrival (subst (λ (k : ℕ). WaitsWith new k arrival) same waits))
      | inr apart ↦ inl (same_held _ _ _ _ _ _ arrival (keeps.silent at apart) (keeps.heard true at apart) (keeps.heard false at apart) waits)
    ];
    kept = λ at arrival waits. elim (cases_eq at number) [
      | inl same ↦ subst (λ (k : ℕ). WaitsWith new k arrival ⊎ Contains gone arrival) (sym same) (kept arrival (subst (λ (k : ℕ). WaitsWith old k arrival) same waits))
      | inr apart ↦ inl (same_held _ _ _ _ _ _ arrival (sym (keeps.silent at apart)) (sym (keeps.heard true at apart)) (sym (keeps.heard false at apart)) waits)
    ];
    entered = λ arrival comes. elim (entered arrival comes) [
      | inl waits ↦ inl (number, waits)
      | inr out ↦ inr out
    ];
  }

  -- it came among those that have sent nothing, in the place of another one, if there was one
  pub passes_admitted : (number : ℕ) (arrival : Arrival S) (was : Option (Arrival S)) (old new : Waiting S) → KeepsOthers number old new → silent_at old number ≡ was → silent_at new number ≡ Some arrival → heard_among true new number ≡ heard_among true old number → heard_among false new number ≡ heard_among false old number
      → Passes (λ (one : Arrival S). one ≡ arrival) (option_to_list was) old new
  passes_admitted number arrival was old new keeps s0 s1 r o = passes_at (λ (one : Arrival S). one ≡ arrival) (option_to_list was) number old new keeps
      (λ one waits. elim waits [
        | inl is ↦ inr (sym (some_is arrival one (sym s1 ∙ is)))
        | inr rest ↦ elim rest [ inl is ↦ inl (inr (inl (sym r ∙ is))) | inr is ↦ inl (inr (inr (sym o ∙ is))) ]
      ])
      (λ one waits. elim waits [
        | inl is ↦ inr (found_there was one (sym s0 ∙ is))
        | inr rest ↦ elim rest [ inl is ↦ inl (inr (inl (r ∙ is))) | inr is ↦ inl (inr (inr (o ∙ is))) ]
      ])
      (λ one same. inl (inl (s1 ∙ ap (λ (a : Arrival S). Some a) (sym same))))

  -- one that had sent nothing is gone
  pub passes_silent_out : (number : ℕ) (arrival : Arrival S) (old new : Waiting S) → KeepsOthers number old new → silent_at old number ≡ Some arrival → silent_at new number ≡ None → heard_among true new number ≡ heard_among true old number → heard_among false new number ≡ heard_among false old number
      → Passes NoArrival (arrival ∷ []) old new
  passes_silent_out number arrival old new keeps s0 s1 r o = passes_at NoArrival (arrival ∷ []) number old new keeps
      (λ one waits. elim waits [
        | inl is ↦ none_some one (sym s1 ∙ is)
        | inr rest ↦ elim rest [ inl is ↦ inl (inr (inl (sym r ∙ is))) | inr is ↦ inl (inr (inr (sym o ∙ is))) ]
      ])
      (λ one waits. elim waits [
        | inl is ↦ inr (in_one arrival one (some_is arrival one (sym s0 ∙ is)))
        | inr rest ↦ elim rest [ inl is ↦ inl (inr (inl (r ∙ is))) | inr is ↦ inl (inr (inr (o ∙ is))) ]
      ])
      (λ one none. absurd none)

  -- one that only reads is gone, or another one
  pub passes_reader_out : (number : ℕ) (was : Option (Arrival S)) (old new : Waiting S) → KeepsOthers number old new → silent_at new number ≡ silent_at old number → heard_among true old number ≡ was → heard_among true new number ≡ None → heard_among false new number ≡ heard_among false old number
      → Passes NoArrival (option_to_list was) old new
  passes_reader_out number was old new keeps s r0 r1 o = passes_at NoArrival (option_to_list was) number old new keeps
      (λ one waits. elim waits [
        | inl is ↦ inl (inl (sym s ∙ is))
        | inr rest ↦ elim rest [ inl is ↦ none_some one (sym r1 ∙ is) | inr is ↦ inl (inr (inr (sym o ∙ is))) ]
      ])
      (λ one waits. elim waits [
        | inl is ↦ inl (inl (s ∙ is))
        | inr rest ↦ elim rest [ inl is ↦ inr (found_there was one (sym r0 ∙ is)) | inr is ↦ inl (inr (inr (o ∙ is))) ]
      ])
      (λ one none. absurd none)

  pub passes_other_out : (number : ℕ) (was : Option (Arrival S)) (old new : Waiting S) → KeepsOthers number old new → silent_at new number ≡ silent_at old number → heard_among true new number ≡ heard_among true old number → heard_among false old number ≡ was → heard_among false new number ≡ None
      → Passes NoArrival (option_to_list was) old new
  passes_other_out number was old new keeps s r o0 o1 = passes_at NoArrival (option_to_list was) number old new keeps
      (λ one waits. elim waits [
        | inl is ↦ inl (inl (sym s ∙ is))
        | inr rest ↦ elim rest [ inl is ↦ inl (inr (inl (sym r ∙ is))) | inr is ↦ none_some one (sym o1 ∙ is) ]
      ])
      (λ one waits. elim waits [
        | inl is ↦ inl (inl (s ∙ is))
        | inr rest ↦ elim rest [ inl is ↦ inl (inr (inl (r ∙ is))) | inr is ↦ inr (found_there was one (sym o0 ∙ is)) ]
      ])
      (λ one none. absurd none)

  -- one that has sent something for the first time, and takes the place of another one, if there was one
  pub passes_reader_heard : (number : ℕ) (arrival : Arrival S) (was : Option (Arrival S)) (old new : Waiting S) → KeepsOthers number old new → silent_at old number ≡ Some arrival → silent_at new number ≡ None → heard_among true old number ≡ was → heard_among true new number ≡ Some arrival
      → heard_among false new number ≡ heard_among false old number → Passes NoArrival (option_to_list was) old new
  passes_reader_heard number arrival was old new keeps s0 s1 r0 r1 o = passes_at NoArrival (option_to_list was) number old new keeps
      (λ one waits. elim waits [
        | inl is ↦ none_some one (sym s1 ∙ is)
        | inr rest ↦ elim rest [ inl is ↦ inl (inl (s0 ∙ sym r1 ∙ is)) | inr is ↦ inl (inr (inr (sym o ∙ is))) ]
      ])
      (λ one waits. elim waits [
        | inl is ↦ inl (inr (inl (r1 ∙ sym s0 ∙ is)))
        | inr rest ↦ elim rest [ inl is ↦ inr (found_there was one (sym r0 ∙ is)) | inr is ↦ inl (inr (inr (o ∙ is))) ]
      ])
      (λ one none. absurd none)

  pub passes_other_heard : (number : ℕ) (arrival : Arrival S) (was : Option (Arrival S)) (old new : Waiting S) → KeepsOthers number old new → silent_at old number ≡ Some arrival → silent_at new number ≡ None → heard_among true new number ≡ heard_among true old number → heard_among false old number ≡ was
      → heard_among false new number ≡ Some arrival → Passes NoArrival (option_to_list was) old new
  passes_other_heard number arrival was old new keeps s0 s1 r o0 o1 = passes_at NoArrival (option_to_list was) number old new keeps
      (λ one waits. elim waits [
        | inl is ↦ none_some one (sym s1 ∙ is)
        | inr rest ↦ elim rest [ inl is ↦ inl (inr (inl (sym r ∙ is))) | inr is ↦ inl (inl (s0 ∙ sym o1 ∙ is)) ]
      ])
      (λ one waits. elim waits [
        | inl is ↦ inl (inr (inr (o1 ∙ sym s0 ∙ is)))
        | inr rest ↦ elim rest [ inl is ↦ inl (inr (inl (r ∙ is))) | inr is ↦ inr (found_there was one (sym o0 ∙ is)) ]
      ])
      (λ one none. absurd none)

  heard_as : (reads : Bool) (number : ℕ) (old new : Waiting S) → new.readers ≡ old.readers → new.others ≡ old.others → heard_among reads new number ≡ heard_among reads old number
  heard_as true number old new r o = ap (λ (map : BTreeMap ℕ (Arrival S)). get nat_cmp map number) r
  heard_as false number old new r o = ap (λ (map : BTreeMap ℕ (Arrival S)). get nat_cmp map number) o

  pub keeps_silent : (number : ℕ) (old new : Waiting S) → ((other : ℕ) → (other ≡ number → ⊥) → silent_at new other ≡ silent_at old other) → new.readers ≡ old.readers → new.others ≡ old.others → KeepsOthers number old new
  keeps_silent number old new silent r o = record { silent = silent; heard = λ reads other apart. heard_as reads other old new r o }

  -- a connection came
  pub admits : (number : ℕ) (arrival : Arrival S) (is_put : Bool) (old new : Waiting S) → IsPut number arrival is_put old.silent new.silent → new.readers ≡ old.readers → new.others ≡ old.others
      → (gone : List (Arrival S)) × Passes (λ (one : Arrival S). one ≡ arrival) gone old new × (length gone ≡ (if is_put then 0 else 1))
  admits number arrival true old new put r o =
      ([], passes_admitted number arrival None old new (keeps_silent number old new put.others r o) (put.added refl).0 (put.added refl).1 (heard_as true number old new r o) (heard_as false number old new r o), refl)
  admits number arrival false old new put r o = elim (put.lost refl) [
    | inl both ↦ (both.0 ∷ [], passes_admitted number arrival (Some both.0) old new (keeps_silent number old new put.others r o) both.1 both.2 (heard_as true number old new r o) (heard_as false number old new r o), refl)
    | inr none ↦ (
      arrival ∷ [],
      passes_at (λ (one : Arrival S). one ≡ arrival) (arrival ∷ []) number old new (keeps_silent number old new put.others r o)
          (λ one waits. inl (same_held _ _ _ _ _ _ one (none.1 ∙ sym none.0) (heard_as true number old new r o) (heard_as false number old new r o) waits))
          (λ one waits. inl (same_held _ _ _ _ _ _ one (none.0 ∙ sym none.1) (sym (heard_as true number old new r o)) (sym (heard_as false number old new r o)) waits))
          (λ one same. inr (in_one arrival one (sym same))),
      refl,
    )
  ]

  -- a connection that only reads has sent something, or another one
  pub hears_reader : (number : ℕ) (arrival : Arrival S) (is_put : Bool) (old new : Waiting S) → silent_at old number ≡ Some arrival → silent_at new number ≡ None → ((other : ℕ) → (other ≡ number → ⊥) → silent_at new other ≡ silent_at old other) → IsPut number arrival is_put old.readers new.readers → new.others ≡ old.others
      → (gone : List (Arrival S)) × Passes NoArrival gone old new × (length gone ≡ (if is_put then 0 else 1))
  hears_reader number arrival is_put old new s0 s1 silent put o = by_put is_put put where
    same_others : (other : ℕ) → heard_among false new other ≡ heard_among false old other
    same_others other = ap (λ (map : BTreeMap ℕ (Arrival S)). get nat_cmp map other) o

    keeps : {is_put : Bool} → IsPut number arrival is_put old.readers new.readers → KeepsOthers number old new
    keeps put = record { silent = silent; heard = each } where
      each : (reads : Bool) (other : ℕ) → (other ≡ number → ⊥) → heard_among reads new other ≡ heard_among reads old other
      each true other apart = put.others other apart
      each false other apart = same_others other

    by_put : (is_put : Bool) → IsPut number arrival is_put old.readers new.readers → (gone : List (Arrival S)) × Passes NoArrival gone old new × (length gone ≡ (if is_put then 0 else 1))
    by_put true put = ([], passes_reader_heard number arrival None old new (keeps put) s0 s1 (put.added refl).0 (put.added refl).1 (same_others number), refl)
    by_put false put = elim (put.lost refl) [
      | inl both ↦ (both.0 ∷ [], passes_reader_heard number arrival (Some both.0) old new (keeps put) s0 s1 both.1 both.2 (same_others number), refl)
      | inr none ↦ (arrival ∷ [], passes_silent_out number arrival old new (keeps put) s0 s1 (none.1 ∙ sym none.0) (same_others number), refl)
    ]

  pub hears_other : (number : ℕ) (arrival : Arrival S) (is_put : Bool) (old new : Waiting S) → silent_at old number ≡ Some arrival → silent_at new number ≡ None → ((other : ℕ) → (other ≡ number → ⊥) → silent_at new other ≡ silent_at old other) → new.readers ≡ old.readers → IsPut number arrival is_put old.others new.others
      → (gone : List (Arrival S)) × Passes NoArrival gone old new × (length gone ≡ (if is_put then 0 else 1))
  hears_other number arrival is_put old new s0 s1 silent r put = by_put is_put put where
    same_readers : (other : ℕ) → heard_among true new other ≡ heard_among true old other
    same_readers other = ap (λ (map : BTreeMap ℕ (Arrival S)). get nat_cmp map other) r

    keeps : {is_put : Bool} → IsPut number arrival is_put old.others new.others → KeepsOthers number old new
    keeps put = record { silent = silent; heard = each } where
      each : (reads : Bool) (other : ℕ) → (other ≡ number → ⊥) → heard_among reads new other ≡ heard_among reads old other
      each true other apart = same_readers other
      each false other apart = put.others other apart

    by_put : (is_put : Bool) → IsPut number arrival is_put old.others new.others → (gone : List (Arrival S)) × Passes NoArrival gone old new × (length gone ≡ (if is_put then 0 else 1))
    by_put true put = ([], passes_other_heard number arrival None old new (keeps put) s0 s1 (same_readers number) (put.added refl).0 (put.added refl).1, refl)
    by_put false put = elim (put.lost refl) [
      | inl both ↦ (both.0 ∷ [], passes_other_heard number arrival (Some both.0) old new (keeps put) s0 s1 (same_readers number) both.1 both.2, refl)
      | inr none ↦ (arrival ∷ [], passes_silent_out number arrival old new (keeps put) s0 s1 (same_readers number) (none.1 ∙ sym none.0), refl)
    ]

  -- who waits is the same, whatever else changed
  pub passes_silent_same : (old new : Waiting S) → ((number : ℕ) → silent_at new number ≡ silent_at old number) → new.readers ≡ old.readers → new.others ≡ old.others → Passes NoArrival [] old new
  passes_silent_same old new silent r o = record {
    came = λ number one waits. inl (same_held _ _ _ _ _ _ one (silent number) (heard_as true number old new r o) (heard_as false number old new r o) waits);
    kept = λ number one waits. inl (same_held _ _ _ _ _ _ one (sym (silent number)) (sym (heard_as true number old new r o)) (sym (heard_as false number old new r o)) waits);
    entered = λ one none. absurd none;
  }

  -- one that had sent nothing was dropped
  pub drops_silent : (number : ℕ) (arrival : Arrival S) (old new : Waiting S) → silent_at old number ≡ Some arrival → silent_at new number ≡ None → ((other : ℕ) → (other ≡ number → ⊥) → silent_at new other ≡ silent_at old other) → new.readers ≡ old.readers → new.others ≡ old.others → Passes NoArrival (arrival ∷ []) old new
  drops_silent number arrival old new s0 s1 silent r o =
      passes_silent_out number arrival old new (keeps_silent number old new silent r o) s0 s1 (heard_as true number old new r o) (heard_as false number old new r o)
