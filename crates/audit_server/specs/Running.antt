-- What happens to a store with its queue and its outputs while requests arrive.
use Rattle.std.specs.Prelude.{◌≡◌, true, false, List, [], ◌∷◌}
use Rattle.audit_disk_model.specs.declared.sectors.Sectors as sectors
use Rattle.audit_chain.specs.Event.{EventData}
use Rattle.audit_store_commit.specs.Origin.{Origin}
use Rattle.audit_server_commit.specs.Waiting.{Append, nothing_waits}
use Rattle.std.specs.List.{AllByRecursion}
use Rattle.audit_server_commit.specs.Replies.{Sent, all_delivered, AreWhole}
use Rattle.audit_server_commit.specs.Fitting.{TellsNoFull}
use Rattle.audit_server_commit.specs.GroupCommit.{ServerState}
use Rattle.audit_server_commit.specs.Arrivals.{Arrival, appends_among, all_entered}
use Rattle.audit_store.specs.Store.{device, is_broken, Holds}
use Rattle.audit_store.specs.declared.store_error.StoreError.{StoreError}
use Rattle.audit_store.specs.declared.store_error.StoreError.TheVariants.{Memory}
use Rattle.audit_server_commit.specs.declared.committer.Committer.{Committer}
use Rattle.audit_server_commit.specs.Faultless.{IsFaultless}
use Rattle.audit_server_commit.specs.Committer.{store_of, waiting_of, outputs_of, stops_of, state_of}
use Rattle.audit_server_commit.specs.Durable.{IsDurable}
use Rattle.audit_server_commit.specs.Entering.{HasEntered, IsLeftByFlush}

module _ {D : Type 0} {g : sectors.Ghosts D} where
  -- on any device: these arrivals entered in order
  abbrev pub HaveEntered : List Arrival → Committer D g → Committer D g → Type 0
  HaveEntered [] old new = new ≡ old
  HaveEntered (arrival ∷ arrivals) old new = (mid : Committer D g) × HasEntered arrival old mid
      × HaveEntered arrivals mid new

  -- who stops when it is full goes on so, and none of these replies is the refusal `Full`
  abbrev pub SparesFull : List Sent → Committer D g → Committer D g → Type 0
  SparesFull sent old new = stops_of old ≡ true → (stops_of new ≡ true) × AllByRecursion TellsNoFull sent

  -- on any device: whole replies, which can be read back, were appended to the outputs
  abbrev pub AddsReplies : Committer D g → Committer D g → Type 0
  AddsReplies old new = (sent : List Sent) × AreWhole sent × (outputs_of new ≡ all_delivered (outputs_of old) sent)
      × SparesFull sent old new

  -- On any device: a device fault broke the store in a commit. What waited is dropped, and the outputs lose nothing.
  pub record IsBrokenByDevice (old new : Committer D g) : Type 0 where
    pub broken : is_broken (store_of new) ≡ true
    pub dropped : waiting_of new ≡ nothing_waits
    pub outputs : AddsReplies old new

  -- From a store that holds `events` to one that holds `after`. Acknowledgements are durable. If the device counted no
  -- failure, `made` gives the state.
  pub record Advances (origin : Origin) (arrived : List Append) (made : ServerState → ServerState)
      (old new : Committer D g) (events after : List EventData) : Type 0 where
    pub durable : IsDurable origin (store_of old) (store_of new) (state_of old events) (state_of new after) arrived
    pub unbroken : is_broken (store_of new) ≡ false
    pub done : IsFaultless (device (store_of old)) (device (store_of new))
        → state_of new after ≡ made (state_of old events)

  -- The same if a call was refused after these arrivals. If memory was refused, the state is as these arrivals leave
  -- it, or as a flush after them leaves it.
  pub record IsRefused (origin : Origin) (arrivals : List Arrival) (error : StoreError) (old new : Committer D g)
      (events after : List EventData) : Type 0 where
    pub durable : IsDurable origin (store_of old) (store_of new) (state_of old events) (state_of new after)
        (appends_among arrivals)
    pub refused : IsFaultless (device (store_of old)) (device (store_of new)) → error ≡ Memory
        → IsLeftByFlush origin (all_entered origin arrivals (state_of old events)) (state_of new after)

  abbrev pub AdvancesBy : List Append → (Origin → ServerState → ServerState) → Committer D g → Committer D g → Type 0
  AdvancesBy arrived made old new = (origin : Origin) (events : List EventData) → Holds (store_of old) origin events
      → (after : List EventData) × Advances origin arrived (made origin) old new events after

  abbrev pub IsRefusedAfter : List Arrival → StoreError → Committer D g → Committer D g → Type 0
  IsRefusedAfter arrivals error old new = (origin : Origin) (events : List EventData)
      → Holds (store_of old) origin events → (after : List EventData)
      × IsRefused origin arrivals error old new events after

  -- both, if these arrivals entered and all succeeded
  pub record Run (arrivals : List Arrival) (old new : Committer D g) : Type 0 where
    pub entered : HaveEntered arrivals old new
    pub advances : AdvancesBy (appends_among arrivals) (λ origin. all_entered origin arrivals) old new
