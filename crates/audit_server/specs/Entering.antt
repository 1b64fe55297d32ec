-- How a session's request or malformed place enters the queue.
use Rattle.std.specs.Prelude.{◌≡◌, ◌⊎◌, ℕ, if◌then◌else◌, Result, Ok, Err, Option, Some, None, List, [], ◌∷◌}
use Rattle.audit_disk_model.specs.declared.sectors.Sectors as sectors
use Rattle.audit_chain.specs.Event.{EventData}
use Rattle.audit_store_commit.specs.Origin.{Origin}
use Rattle.audit_wire.specs.declared.request.Request.{Request}
use Rattle.audit_wire.specs.declared.view.RequestView.{RequestView}
use Rattle.audit_wire.specs.View.{request_shown}
use Rattle.audit_server_commit.specs.declared.question.Query.{Query}
use Rattle.audit_server_commit.specs.declared.question.Query.TheVariants as query
use Rattle.audit_server_commit.specs.Arrivals.{Arrival, a_question, arrival_of}
use Rattle.audit_serve_passes.specs.declared.rights.Rights.{Rights}
use Rattle.audit_server_commit.specs.Heard.{allows, request_tag, is_not_allowed}
use Rattle.audit_store.specs.Store.{Holds}
use Rattle.audit_store.specs.declared.store_error.StoreError.{StoreError}
use Rattle.audit_store.specs.declared.store_error.StoreError.TheVariants.{Memory}
use Rattle.audit_server_commit.specs.declared.committer.Committer.{Committer}
use Rattle.audit_server_commit.specs.Committer.{store_of}
use Rattle.audit_server_commit.specs.Entering.{IsArrivalEnd, IsEntered}
use Rattle.audit_server.specs.declared.limit.Limit.{Limit}
use Rattle.audit_server.specs.Limit.{IsNotAdmitted, AreAdmitted}
use Rattle.audit_server.specs.declared.entering.Item.{Item}
use Rattle.audit_server.specs.declared.entering.Item.TheVariants as item

-- what a session with these rights takes of a body: the request in it, or else the query with which it ends
abbrev pub item_heard : Rights → Option Request → Result Request Query
item_heard allowed (Some asked) =
    if allows allowed asked then Ok asked else Err (query.NotAllowed (request_tag asked))
item_heard allowed None = Err query.Malformed

-- the same with a view of the request
abbrev pub item_shown : Result RequestView Query → Result Request Query
item_shown (Ok view) = Ok (request_shown view)
item_shown (Err last) = Err last

-- how it arrives
abbrev pub arrival_by : ℕ → Result Request Query → Arrival
arrival_by k (Ok asked) = arrival_of k asked
arrival_by k (Err last) = a_question (record { session = k; query = last })

module _ {D : Type 0} {g : sectors.Ghosts D} where
  -- memory may also be refused earlier; the committer is then unchanged
  abbrev pub IsRequestEnd : Arrival → Committer D g → Committer D g → Result (Unit {0}) StoreError → Type 0
  IsRequestEnd arrival old new (Ok done) = IsArrivalEnd arrival old new (Ok done)
  IsRequestEnd arrival old new (Err error) = IsArrivalEnd arrival old new (Err error) ⊎ ((error ≡ Memory) × (new ≡ old))

  pub record Enters (arrival : Arrival) (old new : Committer D g) (result : Result (Unit {0}) StoreError) : Type 0 where
    -- on any device
    pub end : IsRequestEnd arrival old new result
    -- on a store that holds events
    pub entered : (origin : Origin) (events : List EventData) → Holds (store_of old) origin events
        → (after : List EventData) × IsEntered origin arrival old new events after result

  -- what was found in a body and entered
  abbrev pub IsEnteredItem : ℕ → Result Request Query → Committer D g → Committer D g → Result Item StoreError
      → Type 0
  IsEnteredItem k found old new (Ok item.Request) = (asked : Request) × (found ≡ Ok asked)
      × Enters (arrival_of k asked) old new (Ok tt)
  IsEnteredItem k found old new (Ok (item.Last is_cut_off)) = (last : Query) × (found ≡ Err last)
      × (is_cut_off ≡ is_not_allowed (Some last))
      × Enters (a_question (record { session = k; query = last })) old new (Ok tt)
  IsEnteredItem k found old new (Ok item.Withheld) = ⊥
  IsEnteredItem k found old new (Err error) = Enters (arrival_by k found) old new (Err error)

  -- the same under a limit
  abbrev pub IsItem : ℕ → Result Request Query → Committer D g → Committer D g → Limit → Limit
      → Result Item StoreError → Type 0
  IsItem k found old new limit left (Ok item.Withheld) = (new ≡ old) × (left ≡ limit)
      × IsNotAdmitted (arrival_by k found) limit
  IsItem k found old new limit left (Ok entered) = IsEnteredItem k found old new (Ok entered)
      × AreAdmitted (arrival_by k found ∷ []) limit left
  IsItem k found old new limit left (Err error) = IsEnteredItem k found old new (Err error) × (left ≡ limit)
