-- What a search does with the files that its words name.
use Rattle.std.specs.Prelude.{◌≡◌, ◌⊎◌, ℕ, Bool, true, false, Option, Result, Ok, Err, List}
use Rattle.std.specs.Io.KnownBytes.{Appends, Keeps}
use Rattle.audit_disk_model.specs.declared.sectors.Sectors as sectors
use Rattle.audit_disk_model.specs.View.{View}
use Rattle.audit_disk.specs.FileFacts.{FileFacts}
use Rattle.audit_disk.specs.Positioned.{PositionedView}
use Rattle.audit_cli_base.specs.Arguments.{RefusesWords, selects_output}
use Rattle.audit_cli_base.specs.Faults.{status_of}
use Rattle.audit_cli_base.specs.KeyFile.{IsKeyAt, HasNoKeyAt}
use Rattle.audit_cli_base.specs.OpenedStore.{IsReadDeviceAt}
use Rattle.audit_cli_base.specs.declared.fault.CommandError.{CommandError}
use Rattle.audit_cli_base.specs.declared.fault.CommandError.TheVariants.{BadArgument}
use Rattle.audit_cli_base.specs.declared.status.Status.{Status}
use Rattle.audit_cli_base.specs.declared.status.Status.TheVariants as ends
use Rattle.audit_cli_salvage.specs.SalvageWords.{beyond_asked, HasWrongSalvageWord, AreProofsAsked}
use Rattle.audit_cli_salvage.specs.SalvagedText.{WritesPieces, end_line, is_whole}
use Rattle.audit_cli_salvage.specs.declared.proofs.ProvedLeaf.{ProvedLeaf}
use Rattle.audit_cli_salvage.specs.declared.salvage.Salvage.{Salvage}
use Rattle.audit_cli_salvage.specs.declared.words.Salvaging.{Salvaging}

-- what was found of a device was written, to the output, or to somewhere else, of which nothing is known
abbrev pub WritesTo : (Option (List ℕ) → Option (List ℕ) → Salvage → Type 0) → Bool → Option (List ℕ)
    → Option (List ℕ) → Salvage → Type 0
WritesTo writes true before after salvage = writes before after salvage
WritesTo writes false before after salvage = Keeps before after
    × ((empty : Option (List ℕ)) × (full : Option (List ℕ)) × writes empty full salvage)

-- a device was searched with this key, with some failures in the end
abbrev pub WritesSearchOf : View → List ℕ → ℕ → List ProvedLeaf → Option (List ℕ) → Option (List ℕ) → Salvage → Type 0
WritesSearchOf disk first_key beyond proofs before after salvage =
    (failures : ℕ) × WritesPieces disk failures first_key beyond proofs before after salvage

-- A device was searched with this key: what was found was written to OUT, and then the last line to the output.
pub record SearchesDevice (disk : View) (first_key : List ℕ) (beyond : ℕ) (proofs : List ProvedLeaf) (out : List ℕ)
    (before after : Option (List ℕ)) (whole : Bool) : Type 0 where
  pub salvage : Salvage
  pub between : Option (List ℕ)
  pub text : WritesTo (WritesSearchOf disk first_key beyond proofs) (selects_output out) before between salvage
  pub line : Appends between after (end_line salvage)
  pub whole_is : whole ≡ is_whole salvage

-- the status: that of the error, or whether all was found
abbrev pub salvage_status : Result Bool CommandError → Status
salvage_status (Ok true) = ends.Done
salvage_status (Ok false) = ends.Refused
salvage_status (Err fault) = status_of fault

module _ {F : Type 0} (facts : F → FileFacts) (positioned : F → PositionedView) {E : Type 0} (h : sectors.Ghosts E)
    (remaining : F → Option (List ℕ)) where
  -- The device of the file that was named, which was opened to be read, was searched with the key in the key file.
  pub record SearchesAt (asked : Salvaging) (before after : Option (List ℕ)) (whole : Bool) : Type 0 where
    pub beyond : ℕ
    pub beyond_is : beyond_asked asked.within ≡ Ok beyond
    pub first_key : List ℕ
    pub key_is : IsKeyAt facts remaining asked.key_file.now first_key
    pub proofs : List ProvedLeaf
    pub proofs_are : AreProofsAsked facts remaining asked.under asked.proofs.now proofs
    pub disk : E
    pub at : IsReadDeviceAt facts positioned asked.file.now (h.view disk)
    pub searches : SearchesDevice (h.view disk) first_key beyond proofs asked.out.now before after whole

  abbrev pub IsSearched : Salvaging → Option (List ℕ) → Option (List ℕ) → Result Bool CommandError → Type 0
  IsSearched asked before after (Ok whole) = SearchesAt asked before after whole
  IsSearched asked before after (Err fault) = fault ≡ BadArgument
      → HasWrongSalvageWord asked ⊎ HasNoKeyAt facts remaining asked.key_file.now

  -- A search was carried out with this result, and the output was then flushed. The program's status is that of the
  -- result, or that of an output that couldn't be flushed.
  pub record IsSalvageRun (asked : Salvaging) (before after : Option (List ℕ)) (status : Status) : Type 0 where
    pub done : Result Bool CommandError
    pub written : Option (List ℕ)
    pub words : RefusesWords (λ fault. HasWrongSalvageWord asked × (fault ≡ BadArgument)) before written done
    pub searched : IsSearched asked before written done
    pub flushed : Keeps written after
    pub status_is : (status ≡ salvage_status done) ⊎ (status ≡ ends.Device)
