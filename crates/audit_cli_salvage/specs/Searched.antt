-- What a search of a damaged store has written.
use Rattle.std.specs.Prelude.{◌≡◌, ◌⊎◌, ℕ, ◌+◌, ◌≤◌, min, Option, List, [], ◌∷◌}
use Rattle.std.specs.Io.KnownBytes.{Appends}
use Rattle.audit_disk_model.specs.View.{View, last_count}
use Rattle.audit_store_salvage.specs.Searches.{SearchData, unread, log_front, position_behind, AreStepsFrom, IsSearch}
use Rattle.audit_store_salvage.specs.Searching.{SearchesUnder}
use Rattle.audit_store_salvage.specs.declared.reach.Reach.{Reach}
use Rattle.audit_store_salvage.specs.declared.searcher.Searcher.{Searcher}
use Rattle.audit_text.specs.Writing.{WritesInPart}
use Rattle.audit_text.specs.declared.fault.LinesError.TheVariants.{Write}
use Rattle.audit_store.specs.declared.store_error.StoreError.TheVariants as store
use Rattle.audit_cli_base.specs.declared.fault.CommandError.{CommandError}
use Rattle.audit_cli_base.specs.declared.fault.CommandError.TheVariants.{Lines, Refused}
use Rattle.audit_cli_salvage.specs.Pieces.{steps_text, with_steps, no_totals}
use Rattle.audit_cli_salvage.specs.declared.proofs.ProvedLeaf.{ProvedLeaf}
use Rattle.audit_cli_salvage.specs.declared.totals.Totals.{Totals}

-- how many of the steps passed a sector because a read failed
abbrev pub unread_steps : List SearchData → ℕ
unread_steps [] = 0
unread_steps (unread ∷ steps) = unread_steps steps + 1
unread_steps (_ ∷ steps) = unread_steps steps

-- Each of them cost the device a failure. If there are none, no failure was counted.
pub record CountsUnreadSteps (old new : ℕ) (steps : List SearchData) : Type 0 where
  pub each : min (old + unread_steps steps) last_count ≤ new
  pub calm : unread_steps steps ≡ 0 → new ≡ old

-- steps of a search from the start of the log on
pub record BeginsSearch (view : View) (failures : ℕ) (first_key : List ℕ) (reach : Reach) (steps : List SearchData)
    : Type 0 where
  pub steps_are : AreStepsFrom view first_key reach log_front steps
  pub counts : CountsUnreadSteps view.failures failures steps

-- The text of a whole search was written, and these are its totals and where it ended.
pub record WritesSearch (view : View) (failures : ℕ) (first_key : List ℕ) (reach : Reach) (proofs : List ProvedLeaf)
    (old new : Option (List ℕ)) (totals : Totals) (next : ℕ) : Type 0 where
  pub steps : List SearchData
  pub search : IsSearch view first_key reach steps
  pub counts : CountsUnreadSteps view.failures failures steps
  pub written : Appends old new (steps_text first_key proofs log_front steps)
  pub totals_are : totals ≡ with_steps proofs log_front steps no_totals
  pub next_is : next ≡ (position_behind log_front steps).next

-- A prefix of the text of some steps of the search was written.
pub record WritesSearchInPart (view : View) (failures : ℕ) (first_key : List ℕ) (reach : Reach)
    (proofs : List ProvedLeaf) (old new : Option (List ℕ)) : Type 0 where
  pub steps : List SearchData
  pub begins : BeginsSearch view failures first_key reach steps
  pub part : WritesInPart old new (steps_text first_key proofs log_front steps)

-- a write failed, or memory was refused
abbrev pub IsWriteFault : CommandError → Type 0
IsWriteFault fault = (fault ≡ Lines Write) ⊎ (fault ≡ Refused store.Memory)

-- A search is under way: some of its steps were taken, and their text was written.
pub record IsSearching (view : View) (failures : ℕ) (first_key : List ℕ) (reach : Reach) (proofs : List ProvedLeaf)
    (searcher : Searcher) (totals : Totals) (old now : Option (List ℕ)) : Type 0 where
  pub steps : List SearchData
  pub begins : BeginsSearch view failures first_key reach steps
  pub position : searcher.position ≡ position_behind log_front steps
  pub reach_is : searcher.reach ≡ reach
  pub under : SearchesUnder first_key searcher
  pub written : Appends old now (steps_text first_key proofs log_front steps)
  pub totals_are : totals ≡ with_steps proofs log_front steps no_totals
