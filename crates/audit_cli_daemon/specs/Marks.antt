-- How full a store is.
use Rattle.std.specs.Prelude.{ℕ, ◌*◌, ◌≤◌, nat_le, nat_lt, Option, Some, None, if◌then◌else◌}

-- the sectors taken are at least this percentage of all sectors
abbrev pub IsReached : ℕ → ℕ → ℕ → Type 0
IsReached percent taken most = percent * most ≤ 100 * taken

-- the highest mark that is reached, in percent, or 0
abbrev pub highest_mark : ℕ → ℕ → ℕ
highest_mark taken most = if nat_le (100 * most) (100 * taken) then 100
    else if nat_le (90 * most) (100 * taken) then 90
    else if nat_le (80 * most) (100 * taken) then 80 else 0

-- the highest mark that is reached, if nothing was said of it or of a higher one
abbrev pub mark_passed : ℕ → ℕ → ℕ → Option ℕ
mark_passed said taken most = if nat_lt said (highest_mark taken most) then Some (highest_mark taken most) else None
