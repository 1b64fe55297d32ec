-- Who came in by several sockets, one after another.
use Rattle.std.specs.Prelude.{Contains}
use Rattle.std.specs.List.{AllByRecursion}
use Rattle.std.proofs.Common.{◌≡◌, ◌⊎◌, inl, inr, ◌∙◌, ℕ, zero, suc, ◌<◌, List, [], ◌∷◌, ◌++◌, length, map, set, get_or, refl, sym, subst, arith}
use Rattle.std.proofs.lemmas.Bool.{cases_eq}
use Rattle.std.proofs.lemmas.List.{map-append, length-set, get_or_default, get_or-set_same, get_or-set_other}
use Rattle.std.proofs.lemmas.List.Elements.{Contains-append_left, Contains-append_right, Contains-append_cases}
use Rattle.audit_serve_passes.specs.declared.rights.Rights.{Rights}
use Rattle.audit_serve_door.specs.Accepting.{AcceptModel}
use Rattle.audit_serve_door.specs.Notes.{NoteModel}
use Rattle.audit_serve_door.specs.declared.entrance.Arrival.{Arrival}
use Rattle.audit_serve_door.specs.declared.entrance.Entrance.{Entrance}
use Rattle.audit_serve_door.specs.declared.waiting.Waiting.{Waiting}
use Rattle.audit_serve_door.specs.Entrances.{socket_of, stream_at_arrival, IsQuiet, ComesIn, ComeIn, IsOneOf}
use Rattle.audit_serve_door.specs.Waits.{NoArrival, ChangesWaiters}
use Rattle.audit_serve_door.specs.Comings.{Receives}
use Rattle.audit_serve_door.proofs.Passing.{changes_refl, changes_then, changes_as}

allowed_then : {S : Type 0} (rights : Rights) (first second : List (Arrival S)) → AllByRecursion (λ (arrival : Arrival S). arrival.rights ≡ rights) first → AllByRecursion (λ (arrival : Arrival S). arrival.rights ≡ rights) second → AllByRecursion (λ (arrival : Arrival S). arrival.rights ≡ rights) (first ++ second)
allowed_then rights [] second before after = after
allowed_then rights (arrival ∷ first) second before after = (before.0, allowed_then rights first second before.1 after)

module _ {L S : Type 0} (A : AcceptModel L S) where
  pub comes_quietly : (old new : Entrance L) → IsQuiet old new → ComesIn A [] old new
  comes_quietly old new quiet = record {
    did = subst (λ (socket : L). A.DidAccept (socket_of old) socket []) (sym quiet.socket) (A.none_did (socket_of old));
    allowed = tt;
    rights = quiet.rights;
    mode = quiet.mode;
  }

  pub comes_then : (first second : List (Arrival S)) (old mid new : Entrance L) → ComesIn A first old mid → ComesIn A second mid new → ComesIn A (first ++ second) old new
  comes_then first second old mid new before after = record {
    did = subst (λ (streams : List S). A.DidAccept (socket_of old) (socket_of new) streams) (sym (map-append stream_at_arrival first second))
        (A.more_did (socket_of old) (socket_of mid) (socket_of new) (map stream_at_arrival first) (map stream_at_arrival second) before.did after.did);
    allowed = allowed_then old.rights first second before.allowed (subst (λ (rights : Rights). AllByRecursion (λ (arrival : Arrival S). arrival.rights ≡ rights) second) before.rights after.allowed);
    rights = after.rights ∙ before.rights;
    mode = after.mode ∙ before.mode;
  }

  pub come_refl : (entrances : List (Entrance L)) → ComeIn A (λ k. []) entrances entrances
  come_refl entrances = record {
    same = refl;
    at = λ k none inside. comes_quietly (get_or entrances k none) (get_or entrances k none) (record { socket = refl; rights = refl; mode = refl });
  }

  pub come_then : (first second : ℕ → List (Arrival S)) (old mid new : List (Entrance L)) → ComeIn A first old mid → ComeIn A second mid new → ComeIn A (λ k. first k ++ second k) old new
  come_then first second old mid new before after = record {
    same = after.same ∙ before.same;
    at = λ k none inside. comes_then (first k) (second k) (get_or old k none) (get_or mid k none) (get_or new k none) (before.at k none inside) (after.at k none (subst (λ n. k < n) (sym before.same) inside));
  }

-- these at one place, and none at the others
abbrev pub these_if : {X : Type 0} (k place : ℕ) → List X → (k ≡ place) ⊎ (k ≡ place → ⊥) → List X
these_if k place these (inl same) = these
these_if k place these (inr apart) = []

abbrev pub these_at : {X : Type 0} → ℕ → List X → ℕ → List X
these_at place these k = these_if k place these (cases_eq k place)

these_there : {X : Type 0} (place : ℕ) (these : List X) (either : (place ≡ place) ⊎ (place ≡ place → ⊥)) → these_if place place these either ≡ these
these_there place these (inl same) = refl
these_there place these (inr apart) = absurd (apart refl)

module _ {L S : Type 0} (A : AcceptModel L S) where
  come_if : (k place : ℕ) (these : List (Arrival S)) (old : List (Entrance L)) (none other : Entrance L) → place < length old → k < length old → ((none : Entrance L) → ComesIn A these (get_or old place none) other) → (either : (k ≡ place) ⊎ (k ≡ place → ⊥))
      → ComesIn A (these_if k place these either) (get_or old k none) (get_or (set old place other) k none)
  come_if k place these old none other there inside comes (inl same) =
      subst (λ (j : ℕ). ComesIn A these (get_or old j none) (get_or (set old place other) j none)) (sym same)
      (subst (λ (entrance : Entrance L). ComesIn A these (get_or old place none) entrance) (sym (get_or-set_same old place other none there)) (comes none))
  come_if k place these old none other there inside comes (inr apart) =
      subst (λ (entrance : Entrance L). ComesIn A [] (get_or old k none) entrance) (sym (get_or-set_other old place k other none apart))
      (comes_quietly A (get_or old k none) (get_or old k none) (record { socket = refl; rights = refl; mode = refl }))

  pub comes_there : (came : List (Arrival S)) (entrances : List (Entrance L)) (place : ℕ) (found other : Entrance L) → place < length entrances → found ≡ get_or entrances place found → ComesIn A came found other → (none : Entrance L) → ComesIn A came (get_or entrances place none) other
  comes_there came entrances place found other there is comes none = subst (λ (entrance : Entrance L). ComesIn A came entrance other) (is ∙ get_or_default entrances place found none there) comes

  pub comes_anywhere : (came : List (Arrival S)) (entrances : List (Entrance L)) (place : ℕ) (some other : Entrance L) → place < length entrances → ComesIn A came (get_or entrances place some) other → (none : Entrance L) → ComesIn A came (get_or entrances place none) other
  comes_anywhere came entrances place some other there comes none = subst (λ (entrance : Entrance L). ComesIn A came entrance other) (get_or_default entrances place some none there) comes

  -- these came in by one socket
  pub come_at : (place : ℕ) (these : List (Arrival S)) (old : List (Entrance L)) (other : Entrance L) → place < length old → ((none : Entrance L) → ComesIn A these (get_or old place none) other) → ComeIn A (these_at place these) old (set old place other)
  come_at place these old other there comes = record {
    same = length-set old place other;
    at = λ k none inside. come_if k place these old none other there inside comes (cases_eq k place);
  }

module _ {L S J : Type 0} (A : AcceptModel L S) (N : NoteModel J) where
  -- nobody came in
  pub received_nobody : (entrances : List (Entrance L)) (old new : Waiting S) (was now : J) → ChangesWaiters N NoArrival old new was now → Receives A N entrances entrances old new was now
  received_nobody entrances old new was now turned = record {
    each = λ k. [];
    accepted = come_refl A entrances;
    waits = changes_as N NoArrival (IsOneOf (length entrances) (λ k. [])) old new was now (λ arrival none. absurd none) (λ arrival one. omega (arith, one.2.1)) turned;
  }

  pub receives_refl : (entrances : List (Entrance L)) (waiting : Waiting S) (journal : J) → Receives A N entrances entrances waiting waiting journal journal
  receives_refl entrances waiting journal = received_nobody entrances waiting waiting journal journal (changes_refl N waiting journal)

  pub receives_then : (before between after : List (Entrance L)) (old mid new : Waiting S) (was then now : J) → Receives A N before between old mid was then → Receives A N between after mid new then now → Receives A N before after old new was now
  receives_then before between after old mid new was then now first second = record {
    each = λ k. first.each k ++ second.each k;
    accepted = come_then A first.each second.each before between after first.accepted second.accepted;
    waits = changes_as N (λ arrival. IsOneOf (length before) first.each arrival ⊎ IsOneOf (length between) second.each arrival) (IsOneOf (length before) (λ k. first.each k ++ second.each k)) old new was now
        (λ arrival either. elim either [
          | inl one ↦ (one.0, one.1, Contains-append_left (first.each one.0) (second.each one.0) arrival one.2)
          | inr one ↦ (one.0, subst (λ n. one.0 < n) first.accepted.same one.1, Contains-append_right (first.each one.0) (second.each one.0) arrival one.2)
        ])
        (λ arrival one. elim (Contains-append_cases (first.each one.0) (second.each one.0) arrival one.2) [
          | inl early ↦ inl (one.0, one.1, early)
          | inr late ↦ inr (one.0, subst (λ n. one.0 < n) (sym first.accepted.same) one.1, late)
        ])
        (changes_then N (IsOneOf (length before) first.each) (IsOneOf (length between) second.each) old mid new was then now first.waits second.waits);
  }

  -- after it the sockets are the same
  pub receives_on : (before between after : List (Entrance L)) (old new : Waiting S) (was now : J) → after ≡ between → Receives A N before between old new was now → Receives A N before after old new was now
  receives_on before between after old new was now same first = subst (λ (entrances : List (Entrance L)). Receives A N before entrances old new was now) (sym same) first

  -- after it nothing of that changed
  pub receives_kept : (before between after : List (Entrance L)) (old mid new : Waiting S) (was then now : J) → after ≡ between → new ≡ mid → now ≡ then → Receives A N before between old mid was then → Receives A N before after old new was now
  receives_kept before between after old mid new was then now entrances waiting journal first =
      subst (λ (last : J). Receives A N before after old new was last) (sym journal)
      (subst (λ (waiting : Waiting S). Receives A N before after old waiting was then) (sym waiting)
      (subst (λ (entrances : List (Entrance L)). Receives A N before entrances old mid was then) (sym entrances) first))

  -- one came in by one socket
  pub received_one : (place : ℕ) (arrival : Arrival S) (entrances : List (Entrance L)) (other : Entrance L) (old new : Waiting S) (was now : J) → place < length entrances → ((none : Entrance L) → ComesIn A (arrival ∷ []) (get_or entrances place none) other) → ChangesWaiters N (λ one. one ≡ arrival) old new was now
      → Receives A N entrances (set entrances place other) old new was now
  received_one place arrival entrances other old new was now there comes waits = record {
    each = these_at place (arrival ∷ []);
    accepted = come_at A place (arrival ∷ []) entrances other there comes;
    waits = changes_as N (λ one. one ≡ arrival) (IsOneOf (length entrances) (these_at place (arrival ∷ []))) old new was now
        (λ one same. (place, there, subst (λ (these : List (Arrival S)). Contains these one) (sym (these_there place (arrival ∷ []) (cases_eq place place))) (zero, omega arith, sym same)))
        (λ one among. only_one (cases_eq among.0 place) among.2) waits;
  } where
    only_one : {k : ℕ} {one : Arrival S} (either : (k ≡ place) ⊎ (k ≡ place → ⊥)) → Contains (these_if k place (arrival ∷ []) either) one → one ≡ arrival
    only_one (inl same) (zero, inside, is) = sym is
    only_one (inl same) (suc j, inside, is) = absurd (omega (arith, inside))
    only_one (inr apart) (j, inside, is) = absurd (omega (arith, inside))

  -- nobody came in by a socket that was asked, or of which the system reported something
  pub received_quietly : (place : ℕ) (entrances : List (Entrance L)) (other : Entrance L) (old new : Waiting S) (was now : J) → place < length entrances → ((none : Entrance L) → ComesIn A [] (get_or entrances place none) other) → ChangesWaiters N NoArrival old new was now
      → Receives A N entrances (set entrances place other) old new was now
  received_quietly place entrances other old new was now there comes waits = record {
    each = these_at place [];
    accepted = come_at A place [] entrances other there comes;
    waits = changes_as N NoArrival (IsOneOf (length entrances) (these_at place [])) old new was now (λ one none. absurd none)
        (λ one among. no_one (cases_eq among.0 place) among.2) waits;
  } where
    no_one : {k : ℕ} {one : Arrival S} (either : (k ≡ place) ⊎ (k ≡ place → ⊥)) → Contains (these_if k place [] either) one → ⊥
    no_one (inl same) (j, inside, is) = absurd (omega (arith, inside))
    no_one (inr apart) (j, inside, is) = absurd (omega (arith, inside))
