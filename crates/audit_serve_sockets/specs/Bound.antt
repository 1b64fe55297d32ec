-- At which path a socket listens, and with which permissions its file was made.
use Rattle.std.specs.Prelude.{◌≡◌, ◌⊎◌, ℕ, ℤ, true, List, string_bytes}
use Rattle.std.specs.Net.Unix.{unix_listener_raw_fd}
use Rattle.audit_disk.specs.FileFacts.{FileFacts}
use Rattle.audit_disk.specs.declared.file_identity.FileIdentity.{FileIdentity}
use Rattle.audit_disk.specs.declared.files.TheConstants.{OWNER_ONLY}
use Rattle.audit_serve_sockets.specs.declared.socket_file.SocketFile.{SocketFile}
use Rattle.audit_serve_sockets.specs.declared.socket_file.SocketName.{SocketName}
use Rattle.audit_serve_sockets.specs.declared.socket_lock.SocketLock.{SocketLock}

-- What a program knows of sockets because calls of the system succeeded. Code that is generic over the system can have
-- these facts from the calls alone.
pub record SocketFacts : Type 1 where
  -- the socket of this descriptor was made at this path, where nothing was, for its owner alone, and listens there
  pub listens : List ℕ → ℤ → Type 0
  -- the file at this path was given these permission bits
  pub permits : List ℕ → ℕ → Type 0
  -- a connection was made to the socket at this path
  pub connects : List ℕ → Type 0
  -- the file at this path was removed
  pub removes : List ℕ → Type 0
  -- the file with this identity wasn't found at this path
  pub lacks : List ℕ → FileIdentity → Type 0

-- a system of which each call establishes its fact
abbrev pub sockets_of_calls : SocketFacts
sockets_of_calls = record {
  listens = λ path descriptor. Unit {0};
  permits = λ path mode. Unit {0};
  connects = λ path. Unit {0};
  removes = λ path. Unit {0};
  lacks = λ path identity. Unit {0};
}

-- The socket of this descriptor listens at this path. Its file has these permission bits: those with which it was made,
-- or it was given them.
pub record ListensAt (facts : SocketFacts) (path : List ℕ) (mode : ℕ) (descriptor : ℤ) : Type 0 where
  pub listens : facts.listens path descriptor
  pub permitted : (mode ≡ OWNER_ONLY) ⊎ facts.permits path mode

-- the descriptor of a socket
abbrev pub descriptor_of_socket : SocketFile → ℤ
descriptor_of_socket socket = unix_listener_raw_fd socket.listener

-- the permission bits that its file has
abbrev pub mode_of_name : SocketName → ℕ
mode_of_name name = name.mode

abbrev pub mode_of_socket : SocketFile → ℕ
mode_of_socket socket = mode_of_name socket.name

-- the same of a socket
abbrev pub IsBound : SocketFacts → List ℕ → ℕ → SocketFile → Type 0
IsBound facts path mode socket = ListensAt facts path mode (descriptor_of_socket socket)

-- The file with this identity is not at this path: it was removed, or not found there.
abbrev pub IsGone : SocketFacts → List ℕ → FileIdentity → Type 0
IsGone facts path identity = facts.removes path ⊎ facts.lacks path identity

-- so is the file of a socket
abbrev pub IsNameGone : SocketFacts → List ℕ → SocketName → Type 0
IsNameGone facts path name = IsGone facts path name.identity

-- and that of a lock, unless it shows that the socket beside it is abandoned
abbrev pub IsLockGone : {F : Type 0} → SocketFacts → SocketLock F → Type 0
IsLockGone facts lock = (lock.guards_one ≡ true) ⊎ IsGone facts (string_bytes lock.path) lock.identity

-- A call failed: one of the system, as `Failed` says, or one of a file.
abbrev pub CallFailed : {F : Type 0} → Type 0 → (F → FileFacts) → Type 0
CallFailed {F = F} Failed facts = Failed ⊎ ((file : F) × (facts file).failed)
