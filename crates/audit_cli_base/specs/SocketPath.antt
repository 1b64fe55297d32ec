-- The words that can be the path of a socket.
use Rattle.std.specs.Prelude.{◌≡◌, Bool, false, ℕ, nat_le, ◌-◌, ◌==◌, ◌&&◌, not, List, length}
use Rattle.std.specs.List.{list_any}
use Rattle.audit_cli_base.specs.declared.socket_path.TheConstants.{MAX_SOCKET_PATH}

-- it isn't empty, has no zero byte, and isn't too long with what is appended to it
abbrev pub is_socket_path : List ℕ → ℕ → Bool
is_socket_path word suffix = not (length word == 0)
    && (not (list_any (λ byte. byte == 0) word) && nat_le (length word) (MAX_SOCKET_PATH - suffix))

abbrev pub IsNoSocketPath : List ℕ → ℕ → Type 0
IsNoSocketPath word suffix = is_socket_path word suffix ≡ false
