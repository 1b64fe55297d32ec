-- An output of lines that is watched.
use Rattle.std.specs.Prelude.{◌≡◌, ◌⊎◌, ℕ, true, Option, List}
use Rattle.audit_cli_base.specs.Watched.{after_reference}
use Rattle.audit_cli_serve.specs.declared.watched_lines.WatchedLines.{WatchedLines}

-- The bytes of the output, after the number of the reference to it: whoever only appends keeps that reference.
abbrev pub watched_lines : {F W : Type 0} → (W → Option (List ℕ)) → WatchedLines F W → Option (List ℕ)
watched_lines contents watched = after_reference watched.output.ghost_name (contents watched.output.now)

-- a call of the output failed, or the store wasn't in its place
abbrev pub LineFailed : {F W : Type 0} → (W → Type 0) → WatchedLines F W → Type 0
LineFailed Unwritten watched = (watched.is_replaced ≡ true) ⊎ Unwritten watched.output.now
