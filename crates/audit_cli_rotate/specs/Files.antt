-- What becomes of the files of a rotation.
use Rattle.std.specs.Prelude.{◌≡◌, ◌⊎◌, ℕ, Option, Some, Result, Ok, Err, List, [], ◌∷◌, ◌++◌, codes}
use Rattle.std.specs.Io.KnownBytes.{Keeps}
use Rattle.audit_disk_model.specs.View.{View}
use Rattle.audit_disk_model.specs.declared.sectors.Sectors as sectors
use Rattle.audit_disk.specs.FileFacts.{FileFacts}
use Rattle.audit_disk.specs.Folder.{folder_of}
use Rattle.audit_disk.specs.Positioned.{PositionedView}
use Rattle.audit_disk.specs.SectorSource.{source_of}
use Rattle.audit_log.specs.declared.header.Header.{Header}
use Rattle.audit_store.specs.ReadOnlyOpening.{at_rest}
use Rattle.audit_store.specs.Store.{active_header}
use Rattle.audit_store.specs.declared.store.Store.{Store}
use Rattle.audit_text.specs.Writing.{WritesInPart}
use Rattle.audit_cli_base.specs.OpenedStore.{FindsHeader, IsReadDeviceAt}
use Rattle.audit_cli_base.specs.declared.fault.CommandError.{CommandError}
use Rattle.audit_cli_calls.specs.StoreCalls.{StoreCall, StoresModel, a_making, OpensAndLetsGoAfter, OpensNone}
use Rattle.audit_cli_rotate.specs.Lines.{rotated_lines}
use Rattle.audit_cli_rotate.specs.Links.{IsFoundRotated}
use Rattle.audit_cli_rotate.specs.Rotated.{RotationOutcome, FindingOutcome}
use Rattle.audit_cli_rotate.specs.declared.fault.RotationError.{RotationError}
use Rattle.audit_cli_rotate.specs.declared.fault.RotationError.TheVariants.{Command}

-- the name of a new store until it has its first event
abbrev pub temporary_name : List ℕ → List ℕ
temporary_name path = path ++ codes ".rotate.tmp"

-- ---- a store that an earlier run made

-- an earlier run made a store of this size on this device, which continues a log, and the lines of both were written
pub record FindsOn (disk : View) (first_key : List ℕ) (sectors : ℕ) (old : Header) (before after : Option (List ℕ))
    : Type 0 where
  pub header : Header
  pub found : FindsHeader disk header
  pub size : header.sectors ≡ sectors
  pub rotated : FindingOutcome first_key old header before after (Ok tt)

-- a store of this size on this device continues a log, and a prefix of the lines of both was written
pub record FindsOnInPart (disk : View) (first_key : List ℕ) (sectors : ℕ) (old : Header)
    (before after : Option (List ℕ)) : Type 0 where
  pub header : Header
  pub found : FindsHeader disk header
  pub size : header.sectors ≡ sectors
  pub rotated : IsFoundRotated first_key old header
  pub part : WritesInPart before after (rotated_lines old header)

module _ {F : Type 0} (facts : F → FileFacts) (positioned : F → PositionedView) {E : Type 0}
    (h : sectors.Ghosts E) where
  -- the same in the file at this path, which is only read
  pub record FindsRotated (path first_key : List ℕ) (sectors : ℕ) (old : Header) (before after : Option (List ℕ))
      : Type 0 where
    pub disk : E
    pub at : IsReadDeviceAt facts positioned path (h.view disk)
    pub finds : FindsOn (at_rest (source_of (h.view disk))) first_key sectors old before after

  pub record FindsRotatedInPart (path first_key : List ℕ) (sectors : ℕ) (old : Header)
      (before after : Option (List ℕ)) : Type 0 where
    pub disk : E
    pub at : IsReadDeviceAt facts positioned path (h.view disk)
    pub finds : FindsOnInPart (at_rest (source_of (h.view disk))) first_key sectors old before after

  -- nothing was written, or a prefix of the lines of a rotation that was found
  abbrev pub SaysFound : List ℕ → List ℕ → ℕ → Header → Option (List ℕ) → Option (List ℕ) → Type 0
  SaysFound path first_key sectors old before after =
      Keeps before after ⊎ FindsRotatedInPart path first_key sectors old before after

-- ---- a store that is made. `temporary` is its name until it has its first event, `between` are the calls that made
-- devices, and `Made` says at which path a device was made, and with how many sectors.

module _ {E : Type 0} (h : sectors.Ghosts E) (Made : List ℕ → ℕ → E → Type 0) {D : Type 0} {g : sectors.Ghosts D} where
  -- A store of this size and with this first key was made in a new file, and continues a log, which is closed then.
  pub record MakesRotated (temporary first_key : List ℕ) (sectors : ℕ) (old closed : Store D g)
      (before after : Option (List ℕ)) : Type 0 where
    pub disk : E
    pub made : Made temporary sectors disk
    pub size : (h.view disk).size ≡ sectors
    pub new : Store E h
    pub rotated : RotationOutcome (h.view disk) first_key old closed before after (Ok new)

  -- Why the command ended with this error, after a rotation to a new device came to this: it failed, and nothing was
  -- written; or the new file didn't get its name, or a prefix of the lines was written.
  abbrev pub IsEnded : Result (Store E h) RotationError → Store D g → Option (List ℕ) → Option (List ℕ) → RotationError
      → Type 0
  IsEnded (Err error) closed before after fault = (error ≡ fault) × Keeps before after
  IsEnded (Ok new) closed before after fault =
      Keeps before after ⊎ WritesInPart before after (rotated_lines (active_header closed) (active_header new))

  -- a device was made in a new file, a rotation to it came to `done`, and the command ended with this error
  pub record StopsMade (temporary first_key : List ℕ) (sectors : ℕ) (old left : Store D g)
      (before after : Option (List ℕ)) (fault : RotationError) : Type 0 where
    pub disk : E
    pub made : Made temporary sectors disk
    pub lines : List ℕ
    pub done : Result (Store E h) RotationError
    pub outcome : RotationOutcome (h.view disk) first_key old left (Some []) (Some lines) done
    pub ended : IsEnded done left before after fault

module _ {S : Type 0} where
  -- a device was made
  abbrev pub IsMaking : List ℕ → ℕ → List (StoreCall S) → Type 0
  IsMaking temporary sectors between = between ≡ a_making temporary sectors (Ok tt) ∷ []

  -- none was made, and this is the error: there was no call, or it failed
  abbrev pub IsMakingNone : List ℕ → ℕ → List (StoreCall S) → RotationError → Type 0
  IsMakingNone temporary sectors between fault = (between ≡ [])
      ⊎ ((cause : CommandError) × (fault ≡ Command cause)
      × (between ≡ a_making temporary sectors (Err cause) ∷ []))

-- The file at the first path was given the second one for its name, and the folder of that was synced.
abbrev pub IsNamed : (List ℕ → List ℕ → Type 0) → (List ℕ → Type 0) → List ℕ → List ℕ → Type 0
IsNamed Named Synced path name = Named path name × Synced (folder_of name)

-- ---- both. `Named` says that the file at the first path was given the second one for its name, for good.

module _ {F : Type 0} (facts : F → FileFacts) (positioned : F → PositionedView) {E : Type 0}
    (h : sectors.Ghosts E) (Made : List ℕ → ℕ → E → Type 0) (Named : List ℕ → List ℕ → Type 0) where
  module _ {D : Type 0} {g : sectors.Ghosts D} {S : Type 0} where
    -- A log was rotated to a store that was made and got its name; or that was found, and nothing has changed. After an error a store was
    -- begun, and the rotation to it ended; or the old store is as it was.
    abbrev pub RotatesTo : List ℕ → List ℕ → ℕ → List (StoreCall S) → Store D g → Store D g → Option (List ℕ)
        → Option (List ℕ) → Result (Unit {0}) RotationError → Type 0
    RotatesTo path first_key sectors between old left before after (Ok done) =
        (IsMaking (temporary_name path) sectors between × Named (temporary_name path) path
        × MakesRotated h Made (temporary_name path) first_key sectors old left before after)
        ⊎ ((between ≡ []) × (left ≡ old)
        × FindsRotated facts positioned h path first_key sectors (active_header old) before after)
    RotatesTo path first_key sectors between old left before after (Err fault) =
        (IsMaking (temporary_name path) sectors between
        × StopsMade h Made (temporary_name path) first_key sectors old left before after fault)
        ⊎ (IsMakingNone (temporary_name path) sectors between fault × (left ≡ old)
        × SaysFound facts positioned h path first_key sectors (active_header old) before after)

  -- `At` says at which path a store was opened, and `stores` which calls opened stores, made devices and let stores go.
  module _ {O : Type 0} (stores : StoresModel O (Store E h)) (At : List ℕ → Store E h → Type 0) where
    -- The store in the file at the first path was opened, its log was rotated to the second with this result, and it was
    -- let go. Nothing else was done to it, no other store was opened, and no other device was made.
    pub record RotatesOpened (from to first_key : List ℕ) (sectors : ℕ) (was now : O) (before after : Option (List ℕ))
        (result : Result (Unit {0}) RotationError) : Type 0 where
      pub opened : Store E h
      pub at : At from opened
      pub between : List (StoreCall (Store E h))
      pub left : Store E h
      pub calls : OpensAndLetsGoAfter stores from was now opened between left
      pub rotated : RotatesTo to first_key sectors between opened left before after result

module _ {O S : Type 0} (stores : StoresModel O S) where
  -- no store was opened, this is why, and nothing was written
  abbrev pub IsNotOpened : List ℕ → O → O → Option (List ℕ) → Option (List ℕ) → RotationError → Type 0
  IsNotOpened path was now before after fault = (cause : CommandError) × (fault ≡ Command cause)
      × (OpensNone stores path was now cause × Keeps before after)
