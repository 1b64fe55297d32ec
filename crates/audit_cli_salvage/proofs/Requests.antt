-- A search that was carried out.
use Rattle.std.specs.Prelude.{Option, Some, None, IfOk, IfErr, IsOk, IsErr}
use Rattle.std.specs.Io.KnownBytes.{Appends, Keeps}
use Rattle.std.proofs.Common.{◌≡◌, ◌∙◌, ◌⊎◌, inl, inr, Bool, true, false, ℕ, Result, Ok, Err, List, ◌++◌, ap, subst, refl}
use Rattle.audit_disk_model.specs.View.{View}
use Rattle.audit_disk_model.specs.declared.sectors.Sectors as sectors
use Rattle.audit_disk.specs.FileFacts.{FileFacts}
use Rattle.audit_disk.specs.Positioned.{PositionedView}
use Rattle.audit_cli_base.specs.Faults.{IsNoWordFault}
use Rattle.audit_cli_base.specs.KeyFile.{IsKeyAt}
use Rattle.audit_cli_base.specs.OpenedStore.{IsReadDeviceAt}
use Rattle.audit_cli_base.specs.declared.fault.CommandError.{CommandError}
use Rattle.audit_cli_base.specs.declared.status.Status.{Status}
use Rattle.audit_cli_base.specs.declared.status.Status.TheVariants as ends
use Rattle.audit_cli_salvage.specs.SalvageWords.{beyond_asked, AreProofsAsked}
use Rattle.audit_cli_salvage.specs.SalvagedFiles.{WritesTo, WritesSearchOf, SearchesDevice, IsSearched, salvage_status}
use Rattle.audit_cli_salvage.specs.declared.proofs.ProvedLeaf.{ProvedLeaf}
use Rattle.audit_cli_salvage.specs.declared.salvage.Salvage.{Salvage}
use Rattle.audit_cli_salvage.specs.declared.words.Salvaging.{Salvaging}

-- what was appended after nothing was written
appends_since : (old mid new : Option (List ℕ)) (text : List ℕ) → Keeps old mid → Appends mid new text → Appends old new text
appends_since None mid new text kept more = tt
appends_since (Some bytes) None new text kept more = absurd kept
appends_since (Some bytes) (Some held) None text kept more = absurd more
appends_since (Some bytes) (Some held) (Some last) text kept more = more ∙ ap (λ (front : List ℕ). front ++ text) kept

keeps_since : (old mid new : Option (List ℕ)) → Keeps old mid → Keeps mid new → Keeps old new
keeps_since None mid new kept more = tt
keeps_since (Some bytes) None new kept more = absurd kept
keeps_since (Some bytes) (Some held) None kept more = absurd more
keeps_since (Some bytes) (Some held) (Some last) kept more = more ∙ kept

text_since : (disk : View) (first_key : List ℕ) (beyond : ℕ) (proofs : List ProvedLeaf) (is_output : Bool) (old mid new : Option (List ℕ)) (salvage : Salvage) → Keeps old mid
    → WritesTo (WritesSearchOf disk first_key beyond proofs) is_output mid new salvage → WritesTo (WritesSearchOf disk first_key beyond proofs) is_output old new salvage
text_since disk first_key beyond proofs true old mid new salvage kept text =
    let found = text.1 in (
      text.0,
      record {
        since = found.since;
        stated_is = found.stated_is;
        steps = found.steps;
        search = found.search;
        counts = found.counts;
        written = appends_since old mid new _ kept found.written;
        totals_are = found.totals_are;
        next_is = found.next_is;
      },
    )
text_since disk first_key beyond proofs false old mid new salvage kept text = (keeps_since old mid new kept text.0, text.1)

searches_since : (disk : View) (first_key : List ℕ) (beyond : ℕ) (proofs : List ProvedLeaf) (out : List ℕ) (old mid new : Option (List ℕ)) (whole : Bool) → Keeps old mid → SearchesDevice disk first_key beyond proofs out mid new whole
    → SearchesDevice disk first_key beyond proofs out old new whole
searches_since disk first_key beyond proofs out old mid new whole kept is = record {
  salvage = is.salvage;
  between = is.between;
  text = text_since disk first_key beyond proofs _ old mid is.between is.salvage kept is.text;
  line = is.line;
  whole_is = is.whole_is;
}

module _ {F : Type 0} (facts : F → FileFacts) (positioned : F → PositionedView) {E : Type 0} (h : sectors.Ghosts E) (remaining : F → Option (List ℕ)) where
  -- the search of the device that was opened
  pub searched_at : (asked : Salvaging) (beyond : ℕ) (first_key : List ℕ) (proofs : List ProvedLeaf) (disk : E) (old mid new : Option (List ℕ)) (result : Result Bool CommandError) → beyond_asked asked.within ≡ Ok beyond
      → IsKeyAt facts remaining asked.key_file.now first_key → AreProofsAsked facts remaining asked.under asked.proofs.now proofs → IsReadDeviceAt facts positioned asked.file.now (h.view disk) → Keeps old mid
      → IfOk result (SearchesDevice (h.view disk) first_key beyond proofs asked.out.now mid new) → IfErr result IsNoWordFault → IsSearched facts positioned h remaining asked old new result
  searched_at asked beyond first_key proofs disk old mid new (Ok whole) beyond_is key proofs_are at kept searches words = record {
    beyond = beyond;
    beyond_is = beyond_is;
    first_key = first_key;
    key_is = key;
    proofs = proofs;
    proofs_are = proofs_are;
    disk = disk;
    at = at;
    searches = searches_since (h.view disk) first_key beyond proofs asked.out.now old mid new whole kept searches;
  }
  searched_at asked beyond first_key proofs disk old mid new (Err fault) beyond_is key proofs_are at kept searches words = λ bad. absurd (subst IsNoWordFault bad words)

-- the output was flushed, or it couldn't be
pub status_by : {E : Type 0} (flushed : Result Unit E) (status : Status) (done : Result Bool CommandError) → (IsOk flushed → status ≡ salvage_status done) → (IsErr flushed → status ≡ ends.Device) → (status ≡ salvage_status done) ⊎ (status ≡ ends.Device)
status_by (Ok x) status done whole failed = inl (whole refl)
status_by (Err error) status done whole failed = inr (failed refl)
