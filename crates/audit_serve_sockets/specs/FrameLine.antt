-- A line that spells bytes.
use Rattle.std.specs.Prelude.{ℕ, nat_lt, Option, None, List, length, if◌then◌else◌}
use Rattle.std.specs.Result.{result_ok}
use Rattle.hex.specs.Hex.{decode_of}
use Rattle.audit_serve_sockets.specs.declared.limits.TheConstants.{MAX_DIGITS}

-- the bytes of hex digits of either case, two for each byte, at most `MAX_DIGITS` of them
unfoldable pub bytes_of_line : List ℕ → Option (List ℕ)
bytes_of_line line = if nat_lt MAX_DIGITS (length line) then None else result_ok (decode_of line)
