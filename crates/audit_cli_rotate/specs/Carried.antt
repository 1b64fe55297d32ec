-- What a request to rotate comes to.
use Rattle.std.specs.Prelude.{◌≡◌, ◌⊎◌, ℕ, Option, Result, Ok, Err, List}
use Rattle.std.specs.Io.KnownBytes.{Keeps}
use Rattle.audit_disk_model.specs.declared.sectors.Sectors as sectors
use Rattle.audit_disk.specs.FileFacts.{FileFacts}
use Rattle.audit_disk.specs.Positioned.{PositionedView}
use Rattle.audit_store.specs.declared.store.Store.{Store}
use Rattle.audit_cli_base.specs.Arguments.{sectors_asked}
use Rattle.audit_cli_base.specs.KeyFile.{IsKeyAt}
use Rattle.audit_cli_base.specs.declared.status.Status.{Status}
use Rattle.audit_cli_base.specs.declared.status.Status.TheVariants as ends
use Rattle.audit_cli_calls.specs.StoreCalls.{StoresModel}
use Rattle.audit_cli_rotate.specs.Faults.{rotation_status}
use Rattle.audit_cli_rotate.specs.Files.{IsNotOpened, RotatesOpened}
use Rattle.audit_cli_rotate.specs.declared.fault.RotationError.{RotationError}
use Rattle.audit_cli_rotate.specs.declared.request.Request.{Request}

-- the status if the output was written completely
abbrev pub rotation_end_status : Result (Unit {0}) RotationError → Status
rotation_end_status (Ok done) = ends.Done
rotation_end_status (Err fault) = rotation_status fault

-- `At` says at which path a store was opened, `Made` at which path a device was made, and `stores` by which
-- calls; `Named` says that a file got its name.
module _ {F : Type 0} (facts : F → FileFacts) (positioned : F → PositionedView)
    (remaining : F → Option (List ℕ)) {E : Type 0} (h : sectors.Ghosts E) (Made : List ℕ → ℕ → E → Type 0)
    (Named : List ℕ → List ℕ → Type 0) {O : Type 0} (stores : StoresModel O (Store E h)) (At : List ℕ → Store E h → Type 0) where
  -- The store in the old file was opened and its log was rotated, with this result, to a store in the new one of the
  -- size and with the first key that were asked for.
  pub record RotatesAsked (request : Request) (was now : O) (before after : Option (List ℕ))
      (result : Result (Unit {0}) RotationError) : Type 0 where
    pub sectors : ℕ
    pub sectors_are : sectors_asked request.sectors.now ≡ Ok sectors
    pub first_key : List ℕ
    pub key_is : IsKeyAt facts remaining request.key_file.now first_key
    pub rotates : RotatesOpened facts positioned h Made Named stores At request.old.now request.new.now first_key sectors
        was now before after result

  -- With success it was; after an error it may be that no store was opened, and nothing was written.
  abbrev pub IsRotationDone : Request → O → O → Option (List ℕ) → Option (List ℕ)
      → Result (Unit {0}) RotationError → Type 0
  IsRotationDone request was now before after (Ok done) = RotatesAsked request was now before after (Ok done)
  IsRotationDone request was now before after (Err fault) =
      IsNotOpened stores request.old.now was now before after fault
      ⊎ RotatesAsked request was now before after (Err fault)

  -- A rotation had this result, and the output was then flushed. The program's status is that of the result once it was
  -- flushed, or that of an output that couldn't be.
  pub record IsRotationCarriedOut (request : Request) (was now : O) (before after : Option (List ℕ))
      (Flushed Unflushed : Type 0) (status : Status) : Type 0 where
    pub done : Result (Unit {0}) RotationError
    pub written : Option (List ℕ)
    pub rotated : IsRotationDone request was now before written done
    pub flushed : Keeps written after
    pub status_is : ((status ≡ rotation_end_status done) × Flushed) ⊎ ((status ≡ ends.Device) × Unflushed)
