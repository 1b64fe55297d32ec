-- What a request to rotate to a store that was prepared comes to.
use Rattle.std.specs.Prelude.{◌≡◌, ◌⊎◌, ℕ, Option, Result, Ok, Err, List, [], ◌∷◌}
use Rattle.std.specs.Io.KnownBytes.{Keeps}
use Rattle.audit_disk_model.specs.declared.sectors.Sectors as sectors
use Rattle.audit_disk.specs.FileFacts.{FileFacts}
use Rattle.audit_disk.specs.declared.file_identity.FileIdentity.{FileIdentity}
use Rattle.audit_store.specs.declared.store.Store.{Store}
use Rattle.audit_cli_base.specs.declared.fault.CommandError.{CommandError}
use Rattle.audit_cli_base.specs.declared.fault.CommandError.TheVariants.{BadArgument, File}
use Rattle.audit_cli_base.specs.declared.status.Status.{Status}
use Rattle.audit_cli_base.specs.declared.status.Status.TheVariants as ends
use Rattle.audit_cli_calls.specs.StoreCalls.{StoreCall, StoresModel, an_opening, a_letting_go, OpensAndLetsGoAfter}
use Rattle.audit_cli_rotate.specs.PreparedStores.{JoinsPrepared}
use Rattle.audit_cli_rotate.specs.PreparedFaults.{prepared_status}
use Rattle.audit_cli_rotate.specs.declared.prepared.Prepared.{Prepared}
use Rattle.audit_cli_rotate.specs.declared.prepared_error.PreparedError.{PreparedError}
use Rattle.audit_cli_rotate.specs.declared.prepared_error.PreparedError.TheVariants.{Command}

-- the status if the output was written completely
abbrev pub prepared_end_status : Result (Unit {0}) PreparedError → Status
prepared_end_status (Ok done) = ends.Done
prepared_end_status (Err fault) = prepared_status fault

-- `At` says at which path a store was opened, and `stores` which calls opened stores and let them go.
-- `Synced` says which folder was synced, `Failed` that a call of the system failed, and `LeadsTo` to which file a path
-- leads.
module _ {F : Type 0} (facts : F → FileFacts) (remaining : F → Option (List ℕ)) (Synced : List ℕ → Type 0)
    (Failed : Type 0) (LeadsTo : List ℕ → FileIdentity → Type 0) {O : Type 0} {E : Type 0} {h : sectors.Ghosts E}
    (stores : StoresModel O (Store E h))
    (At : O → List ℕ → Store E h → Type 0) where
  -- The store in the file at the path was opened, an open one was joined to it with this result, and it was let go.
  pub record JoinsNext (request : Prepared) (was : O) (between : List (StoreCall (Store E h))) (old left : Store E h)
      (before after : Option (List ℕ)) (result : Result (Unit {0}) PreparedError) : Type 0 where
    pub next : Store E h
    pub at : At was request.next.now next
    pub new : Store E h
    pub between_is : between ≡ an_opening request.next.now (Ok next) ∷ a_letting_go new ∷ []
    pub joins : JoinsPrepared facts remaining Synced Failed request.after request.link.now old left next new before
        after result

  -- It couldn't be opened, this is why, and nothing was written.
  pub record LacksNext (request : Prepared) (between : List (StoreCall (Store E h))) (old left : Store E h)
      (before after : Option (List ℕ)) (fault : PreparedError) : Type 0 where
    pub cause : CommandError
    pub fault_is : fault ≡ Command cause
    pub between_is : between ≡ an_opening request.next.now (Err cause) ∷ []
    pub left_is : left ≡ old
    pub unwritten : Keeps before after

  abbrev pub OpensNext : Prepared → O → List (StoreCall (Store E h)) → Store E h → Store E h → Option (List ℕ)
      → Option (List ℕ) → Result (Unit {0}) PreparedError → Type 0
  OpensNext request was between old left before after (Ok done) =
      JoinsNext request was between old left before after (Ok done)
  OpensNext request was between old left before after (Err fault) =
      LacksNext request between old left before after fault
      ⊎ JoinsNext request was between old left before after (Err fault)

  -- The store in the old file was opened, and joined to the one in the next file with this result. Each was let go as the
  -- join left it. Nothing else was done to them, and no other store was opened.
  pub record OpensBoth (request : Prepared) (was now : O) (before after : Option (List ℕ))
      (result : Result (Unit {0}) PreparedError) : Type 0 where
    pub old : Store E h
    pub at : At was request.old.now old
    pub mid : O
    pub left : Store E h
    pub between : List (StoreCall (Store E h))
    pub opens : stores.DidCalls was mid (an_opening request.old.now (Ok old) ∷ [])
    pub calls : OpensAndLetsGoAfter stores request.old.now was now old between left
    pub next : OpensNext request mid between old left before after result

  -- the words for the two stores are the same, or their paths lead to one file
  abbrev pub AreOneFile : Prepared → Type 0
  AreOneFile request = (request.old.now ≡ request.next.now)
      ⊎ ((identity : FileIdentity) × LeadsTo request.old.now identity × LeadsTo request.next.now identity)

  -- why no store was opened: they are one file; or a call failed by which that was judged
  abbrev pub IsNoOpening : Prepared → CommandError → Type 0
  IsNoOpening request BadArgument = AreOneFile request
  IsNoOpening request File = Failed
  IsNoOpening request _ = ⊥

  -- no store was opened, for this cause, or the opening of the one in the old file failed
  abbrev pub OpensNoStore : Prepared → O → O → CommandError → Type 0
  OpensNoStore request was now cause = (stores.DidCalls was now [] × IsNoOpening request cause)
      ⊎ stores.DidCalls was now (an_opening request.old.now (Err cause) ∷ [])

  -- With success it was; after an error it may be that no store was opened, and nothing was written.
  abbrev pub IsPreparedDone : Prepared → O → O → Option (List ℕ) → Option (List ℕ)
      → Result (Unit {0}) PreparedError → Type 0
  IsPreparedDone request was now before after (Ok done) = OpensBoth request was now before after (Ok done)
  IsPreparedDone request was now before after (Err fault) =
      ((cause : CommandError) × (fault ≡ Command cause)
      × (OpensNoStore request was now cause × Keeps before after))
      ⊎ OpensBoth request was now before after (Err fault)

  -- It had this result, and the output was then flushed. The program's status is that of the result once it was flushed,
  -- or that of an output that couldn't be.
  pub record IsPreparedCarriedOut (request : Prepared) (was now : O) (before after : Option (List ℕ))
      (Flushed Unflushed : Type 0) (status : Status) : Type 0 where
    pub done : Result (Unit {0}) PreparedError
    pub written : Option (List ℕ)
    pub rotated : IsPreparedDone request was now before written done
    pub flushed : Keeps written after
    pub status_is : ((status ≡ prepared_end_status done) × Flushed) ⊎ ((status ≡ ends.Device) × Unflushed)
