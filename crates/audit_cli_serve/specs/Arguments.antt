-- Arguments that aren't checked by the parser of the command line.
use denote.Ref.{Bor}
use Rattle.std.specs.Prelude.{ℕ, nat_le, ◌&&◌, Option, Some, None, Result, Ok, Err, List, if◌then◌else◌}
use Rattle.audit_text.specs.Number.{number_in_text}
use Rattle.audit_base.specs.declared.limits.TheConstants.{SESSIONS}
use Rattle.audit_cli_base.specs.declared.fault.CommandError.{CommandError}
use Rattle.audit_cli_base.specs.declared.fault.CommandError.TheVariants.{BadArgument}

-- any number
abbrev pub or_bad : Option ℕ → Result ℕ CommandError
or_bad None = Err BadArgument
or_bad (Some rounds) = Ok rounds

abbrev pub rounds_asked : List ℕ → Result ℕ CommandError
rounds_asked word = or_bad (number_in_text word)

-- a number of sessions that a core can have, at least one
abbrev pub judged_sessions : Option ℕ → Result ℕ CommandError
judged_sessions None = Err BadArgument
judged_sessions (Some sessions) = if nat_le 1 sessions && nat_le sessions SESSIONS then Ok sessions else Err BadArgument

abbrev pub sessions_asked : List ℕ → Result ℕ CommandError
sessions_asked word = judged_sessions (number_in_text word)

-- one session, unless a word gives their number
abbrev pub sessions_wanted : Option (Bor (List ℕ)) → Result ℕ CommandError
sessions_wanted None = Ok 1
sessions_wanted (Some word) = sessions_asked word.now
