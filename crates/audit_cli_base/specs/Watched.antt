-- What is known of an output that is watched.
use base.Fml.{GName}
use Rattle.std.specs.Prelude.{ℕ, Option, Some, None, List, ◌∷◌}
use Rattle.audit_cli_base.specs.declared.watched_output.WatchedOutput.{WatchedOutput}

-- known bytes after the number of the reference through which they are written
abbrev pub after_reference : GName → Option (List ℕ) → Option (List ℕ)
after_reference reference None = None
after_reference reference (Some bytes) = Some (reference ∷ bytes)

-- The bytes of the output, after the number of the reference to it: whoever only appends keeps that reference, so that
-- the output is known to have these bytes once it isn't watched any more.
abbrev pub watched_bytes : {R W : Type 0} → (W → Option (List ℕ)) → WatchedOutput R W → Option (List ℕ)
watched_bytes contents watched = after_reference watched.output.ghost_name (contents watched.output.now)
