-- What is printed of a search of a damaged store.
use Rattle.std.specs.Prelude.{ℕ, ◌+◌, ◌-◌, min, nat_eq, Bool, true, false, ◌&&◌, ◌||◌, if◌then◌else◌, List, [], ◌∷◌, ◌++◌}
use Rattle.std.specs.Prelude.{codes}
use Rattle.std.specs.Str.{bytes_eq}
use Rattle.std.specs.Fmt.{decimal}
use Rattle.audit_disk_model.specs.View.{last_count}
use Rattle.audit_chain.specs.Entry.{opened_event}
use Rattle.audit_chain.specs.EntryForm.{EntryParts, bytes_of_parts}
use Rattle.audit_chain.specs.Key.{evolved_key}
use Rattle.audit_tree.specs.Subtree.{leaf_hash_of}
use Rattle.audit_store_salvage.specs.Searches.{SearchData, an_entry, nothing, unread, passed, position_after}
use Rattle.audit_store_salvage.specs.declared.position.Position.{Position}
use Rattle.audit_cli_offline.specs.ReportLines.{event_line}
use Rattle.audit_cli_salvage.specs.declared.proofs.ProvedLeaf.{ProvedLeaf}
use Rattle.audit_cli_salvage.specs.declared.totals.Totals.{Totals}

-- a proof, or one of several, shows the entry with this index and these parts
abbrev pub shows : ProvedLeaf → ℕ → EntryParts → Bool
shows proved index parts = nat_eq proved.index index && bytes_eq proved.leaf (leaf_hash_of (bytes_of_parts parts))

abbrev pub is_shown : List ProvedLeaf → ℕ → EntryParts → Bool
is_shown [] index parts = false
is_shown (proved ∷ proofs) index parts = shows proved index parts || is_shown proofs index parts

-- An entry is bound if it follows another, or begins the log, so that its link is checked; or if a proof shows it.
abbrev pub is_bound_at : List ProvedLeaf → Position → ℕ → EntryParts → Bool
is_bound_at proofs position index parts = nat_eq (passed position) 0 || is_shown proofs index parts

-- ---- lines

abbrev pub piece_line : ℕ → List ℕ
piece_line first = codes "piece " ++ decimal first ++ codes "\n"

-- entries that are missing: the index of the first one, and their number
abbrev pub missing_line : ℕ → ℕ → List ℕ
missing_line first count = codes "missing " ++ decimal first ++ codes " " ++ decimal count ++ codes "\n"

-- what stands before an entry that begins a piece
abbrev pub heading : Position → ℕ → List ℕ
heading position index =
    if nat_eq (passed position) 0 then (if nat_eq position.next 0 then piece_line 0 else [])
    else missing_line position.next (index - position.next) ++ piece_line index

abbrev pub unbound_word : Bool → List ℕ
unbound_word true = []
unbound_word false = codes "unbound "

abbrev pub shown_line : Bool → ℕ → List ℕ
shown_line true index = codes "shown " ++ decimal index ++ codes "\n"
shown_line false index = []

-- an entry, opened with its key
unfoldable pub found_text : List ℕ → List ProvedLeaf → Position → ℕ → EntryParts → List ℕ
found_text first_key proofs position index parts =
    heading position index ++ unbound_word (is_bound_at proofs position index parts)
    ++ event_line index (opened_event (evolved_key first_key index) parts.kind parts.cipher)
    ++ shown_line (is_shown proofs index parts) index

-- what is printed of a step of a search, and of steps from a position on
abbrev pub step_text : List ℕ → List ProvedLeaf → Position → SearchData → List ℕ
step_text first_key proofs position (an_entry index parts) = found_text first_key proofs position index parts
step_text first_key proofs position _ = []

abbrev pub steps_text : List ℕ → List ProvedLeaf → Position → List SearchData → List ℕ
steps_text first_key proofs position [] = []
steps_text first_key proofs position (step ∷ steps) = step_text first_key proofs position step
    ++ steps_text first_key proofs (position_after position step) steps

-- ---- totals

abbrev pub no_totals : Totals
no_totals = record { entries = 0; unbound = 0; shown = 0; unread = 0 }

abbrev pub next_total : ℕ → ℕ
next_total number = min (number + 1) last_count

-- one more entry
abbrev pub with_entry : Bool → Bool → Totals → Totals
with_entry bound shown totals = record totals {
  entries = next_total totals.entries;
  unbound = if bound then totals.unbound else next_total totals.unbound;
  shown = if shown then next_total totals.shown else totals.shown;
}

abbrev pub with_unread_sector : Totals → Totals
with_unread_sector totals = record totals { unread = next_total totals.unread }

abbrev pub with_step : List ProvedLeaf → Position → SearchData → Totals → Totals
with_step proofs position (an_entry index parts) totals =
    with_entry (is_bound_at proofs position index parts) (is_shown proofs index parts) totals
with_step proofs position nothing totals = totals
with_step proofs position unread totals = with_unread_sector totals

-- the totals after these steps from a position on
abbrev pub with_steps : List ProvedLeaf → Position → List SearchData → Totals → Totals
with_steps proofs position [] totals = totals
with_steps proofs position (step ∷ steps) totals =
    with_steps proofs (position_after position step) steps (with_step proofs position step totals)
