-- The store that was opened at a path.
use Rattle.std.specs.Prelude.{◌≡◌, ℕ, Option, List, map}
use Rattle.audit_chain.specs.Event.{EventData}
use Rattle.audit_disk_model.specs.View.{View}
use Rattle.audit_disk_model.specs.declared.sectors.Sectors as sectors
use Rattle.audit_disk.specs.FileFacts.{FileFacts}
use Rattle.audit_disk.specs.Positioned.{PositionedView, ShowsFront}
use Rattle.audit_log.specs.declared.header.Header.{Header}
use Rattle.audit_tree.specs.Subtree.{leaf_hash_of}
use Rattle.audit_proof.specs.declared.commitment.Commitment.{Commitment}
use Rattle.audit_store_commit.specs.Headers.{log_leaves}
use Rattle.audit_store_commit.specs.Layout.{IsRecoverable}
use Rattle.audit_store_commit.specs.Origin.{Origin}
use Rattle.audit_store_commit.specs.Recovery.{restored_header}
use Rattle.audit_store.specs.Recovered.{CanBeOpened, IsOpened, IsOfDeviceOrMemory}
use Rattle.audit_store.specs.Extending.{ExtendsGiven, IsOtherLog, OnExtendingError}
use Rattle.audit_store.specs.declared.extending_error.ExtendingError.{ExtendingError}
use Rattle.audit_store.specs.Store.{device, active_header, index_of, Holds}
use Rattle.audit_store.specs.declared.store.Store.{Store}
use Rattle.audit_cli_base.specs.Faults.{of_extending}
use Rattle.audit_cli_base.specs.declared.fault.CommandError.{CommandError}

module _ {D : Type 0} {g : sectors.Ghosts D} where
  -- The store is what an opening found on this device: the events of its content, if it is honest and they can be
  -- recovered.
  pub record IsStoreOn (disk : View) (store : Store D g) : Type 0 where
    pub opened : IsOpened disk (device store) (active_header store) (index_of store)
    pub holds : (origin : Origin) (events : List EventData) → disk.honest → IsRecoverable origin events disk.content
        → Holds store origin events

-- Why the store on this device isn't opened that has to extend a commitment: its log, which can be opened, is another
-- one, with its own commitment; or it is refused. If the events of an honest device can be recovered, it is another log
-- only if they don't extend the commitment, and is refused only by the device or for memory.
pub record IsExtendingFault (older : Commitment) (disk : View) (fault : CommandError) : Type 0 where
  pub error : ExtendingError
  pub fault_is : fault ≡ of_extending older error
  pub other : OnExtendingError error (λ _. Unit {0})
      (λ own. (sound : CanBeOpened disk) × IsOtherLog older own (map leaf_hash_of sound.entries))
  pub events : (origin : Origin) (events : List EventData) → disk.honest → IsRecoverable origin events disk.content
      → OnExtendingError error IsOfDeviceOrMemory (λ own. IsOtherLog older own (log_leaves origin.first_key events))

-- Opening the device finds this header: it was chosen from two sectors, and there is a whole log that belongs to it. An
-- honest device has this header and log.
pub record FindsHeader (view : View) (header : Header) : Type 0 where
  pub sound : CanBeOpened view
  pub header_is : header ≡ restored_header sound.chosen

module _ {F : Type 0} (facts : F → FileFacts) (positioned : F → PositionedView) where
  -- The device has the first sectors of a file that was opened at this path, for reading and writing, and then locked
  -- alone, before any other call of it.
  pub record IsDeviceAt (path : List ℕ) (view : View) : Type 0 where
    pub file : F
    pub opened : (facts file).opened path
    pub locked : (facts file).locked
    pub front : ShowsFront (positioned file) view

  -- the store is what an opening found on such a device
  pub record IsStoreAt {D : Type 0} {g : sectors.Ghosts D} (path : List ℕ) (store : Store D g) : Type 0 where
    pub disk : D
    pub file : IsDeviceAt path (g.view disk)
    pub found : IsStoreOn (g.view disk) store

  -- the same, and its log extends the commitment that is given, if one is
  abbrev pub IsExtendingStoreAt : {D : Type 0} {g : sectors.Ghosts D} → Option Commitment → List ℕ → Store D g → Type 0
  IsExtendingStoreAt older path store = IsStoreAt path store × ExtendsGiven older (index_of store).leaves

  -- The device has the first sectors of a file that was opened at this path, to read, and then locked against whoever
  -- writes it, before any other call of it.
  pub record IsReadDeviceAt (path : List ℕ) (view : View) : Type 0 where
    pub file : F
    pub opened : (facts file).opened_to_read path
    pub locked : (facts file).locked_shared
    pub front : ShowsFront (positioned file) view
