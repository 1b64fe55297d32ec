-- The words of a request to serve sessions.
use denote.Ref.{Bor}
use Rattle.std.specs.Prelude.{◌≡◌, ◌⊎◌, ℕ, Option, Some, None, Err, List}
use Rattle.audit_cli_base.specs.Arguments.{IsNoMode}
use Rattle.audit_cli_base.specs.SocketPath.{IsNoSocketPath}
use Rattle.audit_cli_base.specs.declared.fault.CommandError.TheVariants.{BadArgument}
use Rattle.audit_cli_serve.specs.Arguments.{rounds_asked, sessions_asked}
use Rattle.audit_cli_serve.specs.declared.fault.ServingError.{ServingError}
use Rattle.audit_cli_serve.specs.declared.fault.ServingError.TheVariants.{Command}
use Rattle.audit_cli_serve.specs.declared.request.Request.{Request}
use Rattle.audit_cli_serve.specs.declared.request.Request.TheVariants.{Serve, Loop}

-- the word for the number of sessions isn't such a number
abbrev pub IsWrongNumber : Option (Bor (List ℕ)) → Type 0
IsWrongNumber None = ⊥
IsWrongNumber (Some word) = sessions_asked word.now ≡ Err BadArgument

-- one of the words that are checked before the store is opened is wrong
abbrev pub HasWrongWord : Request → Type 0
HasWrongWord (Serve file socket rounds sessions mode) =
    IsNoSocketPath socket.now 0
    ⊎ ((rounds_asked rounds.now ≡ Err BadArgument) ⊎ (IsWrongNumber sessions ⊎ IsNoMode mode))
HasWrongWord (Loop file socket mode) = IsNoSocketPath socket.now 0 ⊎ IsNoMode mode

abbrev pub IsServingFault : Request → ServingError → Type 0
IsServingFault request fault = HasWrongWord request × (fault ≡ Command BadArgument)
