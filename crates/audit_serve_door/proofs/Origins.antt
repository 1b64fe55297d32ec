-- Everybody who waits at a door, and everybody who is given a place, has the rights of one of its sockets.
use Rattle.std.specs.Prelude.{Contains}
use Rattle.std.specs.List.{AllByRecursion}
use Rattle.std.proofs.Common.{◌≡◌, ◌⊎◌, inl, inr, ◌∙◌, ℕ, ◌<◌, Option, Some, None, List, [], ◌∷◌, length, map, get_or, refl, sym, ap, subst, arith}
use Rattle.std.proofs.lemmas.List.{length-map, get_or-map, same_lists}
use Rattle.std.proofs.lemmas.List.Elements.{All-from_recursion}
use Rattle.audit_serve_passes.specs.declared.rights.Rights.{Rights}
use Rattle.audit_serve_ready.specs.Door.{DoorCall, a_judging, an_asking, a_release, a_parting, an_offer, a_pause}
use Rattle.audit_serve_door.specs.Accepting.{AcceptModel}
use Rattle.audit_serve_door.specs.Notes.{NoteModel}
use Rattle.audit_serve_door.specs.declared.entrance.Arrival.{Arrival}
use Rattle.audit_serve_door.specs.declared.entrance.Entrance.{Entrance}
use Rattle.audit_serve_door.specs.declared.metered.Metered.{Metered}
use Rattle.audit_serve_door.specs.declared.nonblocking.Nonblocking.{Nonblocking}
use Rattle.audit_serve_door.specs.declared.socket_door.SocketDoor.{SocketDoor}
use Rattle.audit_serve_door.specs.declared.waiting.Waiting.{Waiting}
use Rattle.audit_serve_door.specs.Entrances.{rights_of, ComeIn, IsOneOf}
use Rattle.audit_serve_door.specs.Waits.{first_found, WaitsWith, NobodyWaits, NoArrival, Passes}
use Rattle.audit_serve_door.specs.Comings.{GivesAllowed, KeepsWaiters, IsDoorCall, AreDoorCalls}

heard_waits : {S : Type 0} (other reader : Option (Arrival S)) (arrival : Arrival S) → first_found other reader ≡ Some arrival → (reader ≡ Some arrival) ⊎ (other ≡ Some arrival)
heard_waits None reader arrival is = inl is
heard_waits (Some one) reader arrival is = inr is

some_element : {A : Type 0} (values : List A) (k : ℕ) → k < length values → A
some_element [] k within = absurd (omega (arith, within))
some_element (value ∷ values) k within = value

-- sockets that keep their rights
rights_stay : {L S : Type 0} (A : AcceptModel L S) (each : ℕ → List (Arrival S)) (before after : List (Entrance L)) → ComeIn A each before after → map rights_of after ≡ map rights_of before
rights_stay A each before after accepted = same_lists (map rights_of after) (map rights_of before) (length-map after rights_of ∙ accepted.same ∙ sym (length-map before rights_of)) one where
  one : (k : ℕ) (d : Rights) → k < length (map rights_of after) → get_or (map rights_of after) k d ≡ get_or (map rights_of before) k d
  one k d within =
      let there : k < length after = subst (λ (n : ℕ). k < n) (length-map after rights_of) within in
      let here : k < length before = subst (λ (n : ℕ). k < n) accepted.same there in
      let none = some_element before k here in
      get_or-map rights_of after k none d there ∙ (accepted.at k none here).rights ∙ sym (get_or-map rights_of before k none d here)

module _ {S : Type 0} (allowed : List Rights) where
  -- each one who waits has one of these rights
  abbrev pub AreAllowed : Waiting S → Type 0
  AreAllowed waiting = (number : ℕ) (arrival : Arrival S) → WaitsWith waiting number arrival → Contains allowed arrival.rights

  passes_allowed : (Came : Arrival S → Type 0) (gone : List (Arrival S)) (old new : Waiting S) → Passes Came gone old new → ((arrival : Arrival S) → Came arrival → Contains allowed arrival.rights) → AreAllowed old → AreAllowed new
  passes_allowed Came gone old new passes came before number arrival waits = elim (passes.came number arrival waits) [
    | inl waited ↦ before number arrival waited
    | inr one ↦ came arrival one
  ]

  nobody_allowed : (gone : List (Arrival S)) (old new : Waiting S) → Passes NoArrival gone old new → AreAllowed old → AreAllowed new
  nobody_allowed gone old new passes before = passes_allowed NoArrival gone old new passes (λ arrival none. absurd none) before

  came_allowed : {L : Type 0} (A : AcceptModel L S) (each : ℕ → List (Arrival S)) (before after : List (Entrance L)) → ComeIn A each before after → map rights_of before ≡ allowed → (arrival : Arrival S) → IsOneOf (length before) each arrival → Contains allowed arrival.rights
  came_allowed A each before after accepted same arrival one =
      let k = one.0 in
      let none = some_element before k one.1 in
      let comes = accepted.at k none one.1 in
      let rights : arrival.rights ≡ rights_of (get_or before k none) =
      subst (λ (found : Arrival S). found.rights ≡ rights_of (get_or before k none)) one.2.2 (All-from_recursion (λ (found : Arrival S). found.rights ≡ rights_of (get_or before k none)) (each k) comes.allowed one.2.0 arrival one.2.1) in
      subst (λ (those : List Rights). Contains those arrival.rights) same
      (subst (Contains (map rights_of before)) (sym rights) (k, subst (λ (n : ℕ). k < n) (sym (length-map before rights_of)) one.1, get_or-map rights_of before k none (rights_of (get_or before k none)) one.1))

module _ {C J W L S : Type 0} (A : AcceptModel L S) (N : NoteModel J) (Left : W → Type 0) (allowed : List Rights) where
  abbrev pub HoldsAllowed : SocketDoor C J W L S → Type 0
  HoldsAllowed door = (map rights_of door.entrances.items ≡ allowed) × AreAllowed allowed door.waiting

  same_sockets : (old new : SocketDoor C J W L S) → new.entrances ≡ old.entrances → AreAllowed allowed new.waiting → HoldsAllowed old → HoldsAllowed new
  same_sockets old new same waits before = (ap (λ entrances. map rights_of entrances.items) same ∙ before.0, waits)

  kept_allowed : (old new : SocketDoor C J W L S) → KeepsWaiters old new → HoldsAllowed old → HoldsAllowed new
  kept_allowed old new keeps before = same_sockets old new keeps.entrances (subst (AreAllowed allowed) (sym keeps.waiting) before.1) before

  step_allowed : (old new : SocketDoor C J W L S) (call : DoorCall (Metered (Nonblocking S))) → IsDoorCall A N Left old call new → HoldsAllowed old → HoldsAllowed new × GivesAllowed allowed call
  step_allowed old new (a_judging place client answer) did before = (kept_allowed old new did.0 before, tt)
  step_allowed old new (an_asking found answer) did before = (kept_allowed old new did.0 before, tt)
  step_allowed old new (a_release answer) did before = (kept_allowed old new did.0 before, tt)
  step_allowed old new (a_parting place client departure) did before = (same_sockets old new did.0.entrances (nobody_allowed allowed [] old.waiting new.waiting did.0.waits.passes before.1) before, tt)
  step_allowed old new (an_offer place None) did before = (same_sockets old new did.0.entrances (nobody_allowed allowed did.0.waits.turned.gone old.waiting new.waiting did.0.waits.turned.passes before.1) before, tt)
  step_allowed old new (an_offer place (Some newcomer)) did before =
      let given = did.0.waits in
      let left = nobody_allowed allowed given.turned.gone old.waiting given.left given.turned.passes before.1 in (
        same_sockets old new did.0.entrances (nobody_allowed allowed _ given.left new.waiting given.out.passes left) before,
        subst (Contains allowed) (sym given.client.rights) (left given.number given.arrival (inr (heard_waits _ _ given.arrival given.waited))),
      )
  step_allowed old new (a_pause moved answer) did before =
      let received = did.0.received in (
        (
          rights_stay A received.each old.entrances.items new.entrances.items received.accepted ∙ before.0,
          passes_allowed allowed _ received.waits.gone old.waiting new.waiting received.waits.passes (came_allowed allowed A received.each old.entrances.items new.entrances.items received.accepted before.0) before.1,
        ),
        tt,
      )

  pub all_allowed : (old new : SocketDoor C J W L S) (calls : List (DoorCall (Metered (Nonblocking S)))) → AreDoorCalls A N Left old calls new → HoldsAllowed old → AllByRecursion (GivesAllowed allowed) calls
  all_allowed old new [] did before = tt
  all_allowed old new (call ∷ calls) did before = let step = step_allowed old did.0 call did.1 before in (step.1, all_allowed did.0 new calls did.2 step.0)

pub from_nobody : {C J W L S : Type 0} (A : AcceptModel L S) (N : NoteModel J) (Left : W → Type 0) (old new : SocketDoor C J W L S) (calls : List (DoorCall (Metered (Nonblocking S)))) → NobodyWaits old.waiting → AreDoorCalls A N Left old calls new → AllByRecursion (GivesAllowed (map rights_of old.entrances.items)) calls
from_nobody A N Left old new calls nobody did = all_allowed A N Left (map rights_of old.entrances.items) old new calls did (refl, λ number arrival waits. absurd (nobody number arrival waits))
