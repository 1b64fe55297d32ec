-- The words of a request to run a daemon.
use denote.Ref.{Bor}
use Rattle.std.specs.Prelude.{◌≡◌, ◌⊎◌, ℕ, nat_le, true, Option, Some, None, Result, Ok, Err, List, if◌then◌else◌}
use Rattle.audit_text.specs.Number.{number_in_text}
use Rattle.audit_serve_ready.specs.declared.limits.TheConstants.{DEFAULT_BACKLOG, MAX_BACKLOG}
use Rattle.audit_cli_base.specs.Arguments.{number_asked, IsNoMode}
use Rattle.audit_cli_base.specs.SocketPath.{IsNoSocketPath}
use Rattle.audit_cli_base.specs.declared.fault.CommandError.{CommandError}
use Rattle.audit_cli_base.specs.declared.fault.CommandError.TheVariants.{BadArgument}
use Rattle.audit_cli_daemon.specs.Sources.{words_of, are_no_sources}
use Rattle.audit_cli_daemon.specs.declared.arguments.TheConstants.{DEFAULT_IDLE, DEFAULT_RESERVE}
use Rattle.audit_cli_daemon.specs.declared.sockets.TheConstants.{STOP_SUFFIX_LEN}
use Rattle.audit_cli_daemon.specs.declared.request.Settings.{Settings}
use Rattle.audit_cli_daemon.specs.declared.request.Request.{Request}
use Rattle.audit_cli_daemon.specs.declared.request.Request.TheVariants.{Run, Stop}

-- a number of bytes up to the limit
abbrev pub bytes_judged : Option ℕ → Result ℕ CommandError
bytes_judged None = Err BadArgument
bytes_judged (Some bytes) = if nat_le bytes MAX_BACKLOG then Ok bytes else Err BadArgument

abbrev pub backlog_asked : Option (Bor (List ℕ)) → Result ℕ CommandError
backlog_asked None = Ok DEFAULT_BACKLOG
backlog_asked (Some word) = bytes_judged (number_in_text word.now)

-- a number of sectors, if there is a word
abbrev pub free_judged : Option ℕ → Result (Option ℕ) CommandError
free_judged None = Err BadArgument
free_judged (Some sectors) = Ok (Some sectors)

abbrev pub free_asked : Option (Bor (List ℕ)) → Result (Option ℕ) CommandError
free_asked None = Ok None
free_asked (Some word) = free_judged (number_in_text word.now)

-- how many sectors events leave: the reserve, and those until which the store is served
abbrev pub free_kept : ℕ → Option ℕ → ℕ
free_kept reserve None = reserve
free_kept reserve (Some sectors) = if nat_le reserve sectors then sectors else reserve

-- there is a word for the readers' socket, and it is no socket's path
abbrev pub IsNoReader : Option (Bor (List ℕ)) → Type 0
IsNoReader None = ⊥
IsNoReader (Some word) = IsNoSocketPath word.now 0

-- one of the words for sockets is no socket's path: that for clients also names the socket for stop orders
abbrev pub HasNoSocket : Settings → Type 0
HasNoSocket settings = IsNoSocketPath settings.socket.now STOP_SUFFIX_LEN ⊎ IsNoReader settings.reader

-- one of the words that are judged before the store is opened is wrong
abbrev pub HasBadSetting : Settings → Type 0
HasBadSetting settings =
    (number_asked settings.idle DEFAULT_IDLE ≡ Err BadArgument)
    ⊎ ((number_asked settings.reserve DEFAULT_RESERVE ≡ Err BadArgument)
    ⊎ ((backlog_asked settings.backlog ≡ Err BadArgument)
    ⊎ ((free_asked settings.until_free ≡ Err BadArgument)
    ⊎ (IsNoMode settings.socket_mode ⊎ (HasNoSocket settings
    ⊎ (are_no_sources (words_of settings.writers.now) ≡ true))))))

abbrev pub HasBadWord : Request → Type 0
HasBadWord (Run settings) = HasBadSetting settings
HasBadWord (Stop socket) = IsNoSocketPath socket.now STOP_SUFFIX_LEN
