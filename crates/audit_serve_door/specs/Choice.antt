-- Who gets a vacant place. Connections have numbers in the order in which they were accepted.
use Rattle.std.specs.Prelude.{Bool, true, ℕ, nat_le, nat_lt, Option, Some, None, if◌then◌else◌}
use Rattle.audit_serve_door.specs.declared.choice.Heads.{Heads}
use Rattle.audit_serve_door.specs.declared.choice.Taken.{Taken}

-- not later than the bound, if there is one
abbrev pub is_first : ℕ → Option ℕ → Bool
is_first number None = true
is_first number (Some bound) = nat_le number bound

-- a number, if it may enter
abbrev pub if_first : Option ℕ → Option ℕ → Option ℕ
if_first None bound = None
if_first (Some number) bound = if is_first number bound then Some number else None

-- Of those that only read the first one may enter, if they hold fewer places than they may, and nobody before it has
-- hung up and has still to be served.
abbrev pub next_reader : Heads → Taken → Option ℕ
next_reader heads taken = if nat_lt taken.readers taken.most then if_first heads.reader heads.closing else None

-- So may the first of all others, if these hold fewer places than they may; if not, the first that has hung up may.
abbrev pub next_other : Heads → Taken → Option ℕ
next_other heads taken =
    if nat_lt taken.others taken.most then if_first heads.other heads.closing
    else if heads.closing_waits then heads.closing
    else None

abbrev pub earlier : Option ℕ → Option ℕ → Option ℕ
earlier None second = second
earlier (Some one) None = Some one
earlier (Some one) (Some other) = if nat_le one other then Some one else Some other

abbrev pub next_entry : Heads → Taken → Option ℕ
next_entry heads taken = earlier (next_reader heads taken) (next_other heads taken)
