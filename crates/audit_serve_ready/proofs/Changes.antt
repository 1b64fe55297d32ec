-- Changes one after another.
use Rattle.std.proofs.Common.{◌≡◌, ◌∙◌, ℕ, List, [], ◌∷◌, ◌++◌, Result, Ok, Err, IfErr, refl, sym, ap, subst}
use Rattle.audit_serve_passes.specs.Streams.{CallModel}
use Rattle.audit_serve_passes.specs.Core.{CoreModel}
use Rattle.audit_serve_ready.specs.Slot.{SlotData}
use Rattle.audit_serve_ready.specs.Clients.{ClientChange, first_after, first_after_all, IsChange, AreChanges, ServesClients, StopsServing}

pub first_after-append : {S : Type 0} (first : ℕ) (changes later : List (ClientChange S)) → first_after_all first (changes ++ later) ≡ first_after_all (first_after_all first changes) later
first_after-append first [] later = refl
first_after-append first (change ∷ changes) later = first_after-append (first_after first change) changes later

module _ {C S : Type 0} (M : CoreModel C) (N : CallModel S) (backlog : ℕ) where
  pub changes_then : (first : ℕ) (old mid new : C) (before between after : List (SlotData S)) (changes later : List (ClientChange S)) → AreChanges M N backlog first changes old mid before between
      → AreChanges M N backlog (first_after_all first changes) later mid new between after → AreChanges M N backlog first (changes ++ later) old new before after
  changes_then first old mid new before between after [] later are next =
      subst (λ (core : C). AreChanges M N backlog first later core new before after) are.0
      (subst (λ (slots : List (SlotData S)). AreChanges M N backlog first later mid new slots after) are.1 next)
  changes_then first old mid new before between after (change ∷ changes) later are next =
      (are.0, are.1, are.2, changes_then (first_after first change) are.0 mid new are.1 between after changes later are.3 next)

  pub clients_then : (first then_ last : ℕ) (old mid new : C) (before between after : List (SlotData S)) → ServesClients M N backlog first then_ old mid before between → ServesClients M N backlog then_ last mid new between after
      → ServesClients M N backlog first last old new before after
  clients_then first then_ last old mid new before between after serves next = record {
    changes = serves.changes ++ next.changes;
    are = changes_then first old mid new before between after serves.changes next.changes serves.are (subst (λ (n : ℕ). AreChanges M N backlog n next.changes mid new between after) (sym serves.turns) next.are);
    turns = first_after-append first serves.changes next.changes ∙ ap (λ (n : ℕ). first_after_all n next.changes) serves.turns ∙ next.turns;
  }

  pub one_change : (first : ℕ) (old new : C) (before after : List (SlotData S)) (change : ClientChange S) → IsChange M N backlog first change old new before after → ServesClients M N backlog first (first_after first change) old new before after
  one_change first old new before after change is = record { changes = change ∷ []; are = (new, after, is, (refl, refl)); turns = refl }

  pub stops_later : {Refuses : C → C → Type 0} (first then_ : ℕ) (old mid new : C) (before between after : List (SlotData S)) → ServesClients M N backlog first then_ old mid before between → StopsServing M N backlog Refuses then_ mid new between after
      → StopsServing M N backlog Refuses first old new before after
  stops_later first then_ old mid new before between after serves next = record {
    mid = next.mid;
    between = next.between;
    changes = serves.changes ++ next.changes;
    are = changes_then first old mid next.mid before between next.between serves.changes next.changes serves.are (subst (λ (n : ℕ). AreChanges M N backlog n next.changes mid next.mid between next.between) (sym serves.turns) next.are);
    refused = next.refused;
    last = next.last;
  }

pub if_err_is : {A E : Type 0} {P : E → Type 0} (result : Result A E) → ((error : E) → result ≡ Err error → P error) → IfErr result P
if_err_is (Ok value) by = tt
if_err_is (Err error) by = by error refl
