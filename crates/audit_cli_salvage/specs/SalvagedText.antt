-- What a search of a damaged store leaves behind: its text, its last line, and whether anything is missing.
use Rattle.std.specs.Prelude.{◌≡◌, ℕ, ◌-◌, min, nat_lt, nat_eq, Bool, true, false, ◌&&◌, if◌then◌else◌, Option, Some, None}
use Rattle.std.specs.Prelude.{List, [], ◌++◌, codes}
use Rattle.std.specs.Fmt.{decimal}
use Rattle.std.specs.Io.KnownBytes.{Appends}
use Rattle.audit_base.specs.declared.limits.TheConstants.{MAX_COUNT}
use Rattle.audit_disk_model.specs.View.{View}
use Rattle.audit_store_salvage.specs.Salvaging.{IsStatedOrUnread}
use Rattle.audit_store_salvage.specs.Searches.{SearchData, log_front, position_behind, IsSearch}
use Rattle.audit_store_salvage.specs.declared.reach.Reach.{Reach}
use Rattle.audit_cli_salvage.specs.Pieces.{steps_text, missing_line, with_steps, no_totals}
use Rattle.audit_cli_salvage.specs.Searched.{CountsUnreadSteps}
use Rattle.audit_cli_salvage.specs.declared.proofs.ProvedLeaf.{ProvedLeaf}
use Rattle.audit_cli_salvage.specs.declared.salvage.Salvage.{Salvage}

-- how many entries are looked for at most: as many as the headers state, or otherwise as many as the device has room
-- for
abbrev pub most_entries : Option ℕ → ℕ → ℕ
most_entries (Some count) size = count
most_entries None size = min size MAX_COUNT

-- how far a search goes
abbrev pub reach_of : Option ℕ → ℕ → ℕ → Reach
reach_of stated size beyond = record { count = most_entries stated size; beyond = beyond }

-- which entries are missing behind the last one that was found, if the headers state how many there are
abbrev pub tail_text : Option ℕ → ℕ → List ℕ
tail_text None next = []
tail_text (Some count) next = if nat_lt next count then missing_line next (count - next) else []

abbrev pub salvage_text : List ℕ → List ProvedLeaf → Option ℕ → List SearchData → List ℕ
salvage_text first_key proofs stated steps =
    steps_text first_key proofs log_front steps ++ tail_text stated (position_behind log_front steps).next

-- A device was searched with a first key, and the text of the search was written.
pub record WritesPieces (view : View) (failures : ℕ) (first_key : List ℕ) (beyond : ℕ) (proofs : List ProvedLeaf)
    (old new : Option (List ℕ)) (salvage : Salvage) : Type 0 where
  -- the number of failures once the headers were read
  pub since : ℕ
  pub stated_is : IsStatedOrUnread view since salvage.stated
  pub steps : List SearchData
  pub search : IsSearch view first_key (reach_of salvage.stated view.size beyond) steps
  pub counts : CountsUnreadSteps since failures steps
  pub written : Appends old new (salvage_text first_key proofs salvage.stated steps)
  pub totals_are : salvage.end.totals ≡ with_steps proofs log_front steps no_totals
  pub next_is : salvage.end.next ≡ (position_behind log_front steps).next

-- how many entries there should be: those that the headers state, or otherwise those up to the last one that was found
abbrev pub entries_due : Option ℕ → ℕ → ℕ
entries_due (Some count) next = count
entries_due None next = next

abbrev pub missing_entries : Salvage → ℕ
missing_entries salvage = entries_due salvage.stated salvage.end.next - salvage.end.totals.entries

abbrev pub counted_word : Option ℕ → List ℕ
counted_word (Some count) = codes "counted"
counted_word None = codes "uncounted"

-- the last line of a search
unfoldable pub end_line : Salvage → List ℕ
end_line salvage =
    codes "salvaged " ++ decimal salvage.end.totals.entries ++ codes " unbound " ++ decimal salvage.end.totals.unbound
    ++ codes " missing " ++ decimal (missing_entries salvage) ++ codes " unread " ++ decimal salvage.end.totals.unread
    ++ codes " shown " ++ decimal salvage.end.totals.shown ++ codes " " ++ counted_word salvage.stated ++ codes "\n"

-- whether all entries that the headers state are there, in their places
abbrev pub is_counted : Option ℕ → Bool
is_counted (Some count) = true
is_counted None = false

abbrev pub is_whole : Salvage → Bool
is_whole salvage =
    is_counted salvage.stated && (nat_eq (missing_entries salvage) 0 && nat_eq salvage.end.totals.unbound 0)
