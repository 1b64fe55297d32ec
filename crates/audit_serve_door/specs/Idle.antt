-- Who holds the places, and whose client has to make room for a connection that waits.
use Rattle.std.specs.Prelude.{◌≡◌, ◌≤◌, ◌-◌, ℕ, Bool, true, false, ◌&&◌, ◌||◌, not, ◌==◌, nat_le, nat_lt, if◌then◌else◌}
use Rattle.std.specs.Prelude.{Option, Some, None, List, slice_get, slice_set, count_by}
use Rattle.std.specs.Duration.{as_nanos}
use Rattle.std.specs.Time.{instant_nanos}
use Rattle.std.specs.declared.time.Duration.{Duration}
use Rattle.std.specs.declared.time.Instant.{Instant}
use Rattle.audit_serve_door.specs.declared.choice.Taken.{Taken}
use Rattle.audit_serve_door.specs.declared.places.Candidates.{Candidates}
use Rattle.audit_serve_door.specs.declared.places.Occupancy.{Occupancy}
use Rattle.audit_serve_door.specs.declared.places.Places.{Places}

-- ---- who holds the places

abbrev pub is_taken : Occupancy → Bool
is_taken here = here.is_taken

-- by a client that only reads, or by another one
abbrev pub is_reader : Occupancy → Bool
is_reader here = here.is_taken && here.only_reads

abbrev pub is_other : Occupancy → Bool
is_other here = here.is_taken && not here.only_reads

-- how many places either side holds, and may hold
abbrev pub places_held : Places → Taken
places_held these = record {
  readers = count_by is_reader these.places;
  others = count_by is_other these.places;
  most = these.most;
}

abbrev pub with_place : ℕ → Occupancy → Places → Places
with_place place here these = record these { places = slice_set these.places place here }

-- a client has taken a place, and has moved nothing yet
abbrev pub seated : ℕ → ℕ → Bool → Instant → Places → Places
seated place number only_reads now these =
    with_place place
    (record { is_taken = true; number = number; only_reads = only_reads; moves = 0; since = now }) these

-- the client of a place has left it
abbrev pub vacated_by : Option Occupancy → ℕ → Places → Places
vacated_by None place these = these
vacated_by (Some here) place these = with_place place (record here { is_taken = false }) these

abbrev pub vacated : ℕ → Places → Places
vacated place these = vacated_by (slice_get these.places place) place these

-- the number of calls that moved bytes of a client's stream is the one that was last noted
abbrev pub is_unmoved : Option Occupancy → ℕ → Bool
is_unmoved None moves = false
is_unmoved (Some here) moves = here.moves == moves

abbrev pub is_idle : ℕ → ℕ → Places → Bool
is_idle place moves these = is_unmoved (slice_get these.places place) moves

-- that number is noted, as reached now, unless it is the one that was noted before
abbrev pub noted_by : Option Occupancy → ℕ → ℕ → Instant → Places → Places
noted_by None place moves now these = these
noted_by (Some here) place moves now these =
    if here.moves == moves then these else with_place place (record here { moves = moves; since = now }) these

abbrev pub noted : ℕ → ℕ → Instant → Places → Places
noted place moves now these = noted_by (slice_get these.places place) place moves now these

-- ---- who has to make room

-- Whose leaving would give a place to one that has sent something and waits for want of one: if all places are held, or
-- its own side holds as many as it may. A place that the other side leaves is of use unless its own is at its limit.
abbrev pub candidates_for : Bool → Bool → Bool → Taken → Candidates
candidates_for has_reader has_other is_full taken =
    let readers_full = nat_le taken.most taken.readers in
    let others_full = nat_le taken.most taken.others in
    let reader_waits = has_reader && (is_full || readers_full) in
    let other_waits = has_other && (is_full || others_full) in
    record {
      readers = reader_waits || (other_waits && not others_full);
      others = other_waits || (reader_waits && not readers_full);
    }

abbrev pub is_candidate : Candidates → Occupancy → Bool
is_candidate who here = here.is_taken && (if here.only_reads then who.readers else who.others)

-- idle since an earlier time than what was found before
abbrev pub is_before : Instant → Option (ℕ × Instant) → Bool
is_before since None = true
is_before since (Some found) = nat_lt (instant_nanos since) (instant_nanos found.1)

-- what was found before, or this place
abbrev pub earlier_of : Option (ℕ × Instant) → ℕ → Occupancy → Candidates → Option (ℕ × Instant)
earlier_of found place here who =
    if is_candidate who here && is_before here.since found then Some (place, here.since) else found

-- Of the candidates, the client of this place has been idle for the longest time: since then.
pub record IsLongestIdle (who : Candidates) (places : List Occupancy) (place : ℕ) (since : Instant) : Type 0 where
  pub here : Occupancy
  pub there : slice_get places place ≡ Some here
  pub candidate : is_candidate who here ≡ true
  pub since_is : here.since ≡ since
  pub longest : (k : ℕ) (other : Occupancy) → slice_get places k ≡ Some other → is_candidate who other ≡ true
      → instant_nanos since ≤ instant_nanos other.since

-- there is such a place, or no candidate
abbrev pub FindsIdle : Candidates → List Occupancy → Option (ℕ × Instant) → Type 0
FindsIdle who places None = (k : ℕ) (other : Occupancy) → slice_get places k ≡ Some other
    → is_candidate who other ≡ false
FindsIdle who places (Some found) = IsLongestIdle who places found.0 found.1

-- whose client is to be dismissed: that of the place which was found, if it has been idle for the time that is allowed
abbrev pub due_after : Option Duration → Option (ℕ × Instant) → Instant → Option ℕ
due_after None found now = None
due_after (Some idle) None now = None
due_after (Some idle) (Some found) now =
    if nat_le (as_nanos idle) (instant_nanos now - instant_nanos found.1) then Some found.0 else None

pub record ChoosesDue (who : Candidates) (now : Instant) (old new : Places) : Type 0 where
  pub found : Option (ℕ × Instant)
  pub finds : FindsIdle who old.places found
  pub due : new ≡ record old { due = due_after old.idle found now }

abbrev pub is_place : ℕ → Option ℕ → Bool
is_place place None = false
is_place place (Some due) = due == place

-- the client of a place is to be dismissed, if it is still idle
abbrev pub is_due : ℕ → Places → Bool
is_due place these = is_place place these.due

-- nobody holds a place, and nobody is to be dismissed
pub record IsVacant (idle : Option Duration) (these : Places) : Type 0 where
  pub idle_is : these.idle ≡ idle
  pub none : (k : ℕ) (here : Occupancy) → slice_get these.places k ≡ Some here → here.is_taken ≡ false
  pub nobody : these.due ≡ None
