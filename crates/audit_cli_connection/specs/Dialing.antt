-- Connecting to a server's socket within a time.
use Rattle.std.specs.Prelude.{◌⊎◌, ℕ, ℤ, ◌*◌, ◌-◌, ◌≤◌, List}
use Rattle.std.specs.Net.Unix.{unix_stream_raw_fd}
use Rattle.std.specs.declared.io.ErrorKind.{ErrorKind}
use Rattle.std.specs.declared.io.ErrorKind.TheVariants.{WouldBlock}
use Rattle.audit_wire_ask.specs.declared.fault.ClientError.TheVariants.{TimedOut}
use Rattle.audit_cli_connection.specs.declared.fault.RemoteError.{RemoteError}
use Rattle.audit_cli_connection.specs.declared.fault.RemoteError.TheVariants.{NoConnection, Server}
use Rattle.audit_cli_connection.specs.declared.line.Line.{Line}

-- What calls showed that connect to sockets and read a clock. Each fact is established by a call alone: code that is
-- generic over the system can have it from nothing else.
pub record DialFacts : Type 1 where
  -- a call connected to this path, and this is the descriptor of the stream
  pub connected : List ℕ → ℤ → Type 0
  -- a call failed to connect to this path, for this reason; if no more clients can wait there, it is `WouldBlock`
  pub unconnected : List ℕ → ErrorKind → Type 0
  -- a call had reads and writes of this stream wait
  pub waits : ℤ → Type 0
  -- the clock read as many nanoseconds
  pub read : ℕ → Type 0
  -- the clock, or that other call, failed for this reason
  pub failed : ErrorKind → Type 0

-- from one reading of the clock to another these seconds passed
abbrev pub HavePassed : (ℕ → Type 0) → ℕ → Type 0
HavePassed read seconds =
    (begun : ℕ) × (now : ℕ) × read begun × read now × (seconds * 1000000000 ≤ now - begun)

-- Why there is no connection: a call failed, and for which reason; or no more clients could wait at the socket, and the
-- seconds are over.
abbrev pub IsUnconnected : DialFacts → List ℕ → ℕ → RemoteError → Type 0
IsUnconnected facts path seconds (NoConnection kind) = facts.unconnected path kind ⊎ facts.failed kind
IsUnconnected facts path seconds (Server TimedOut) =
    facts.unconnected path WouldBlock × HavePassed facts.read seconds
IsUnconnected facts path seconds _ = ⊥

-- Why the file of a socket isn't seen: a call of the system failed, as `Failed` says.
abbrev pub IsUnseen : (Failed : Type 0) → RemoteError → Type 0
IsUnseen Failed (NoConnection kind) = Failed
IsUnseen Failed _ = ⊥

-- a stream to this path was connected, and waits
abbrev pub IsConnected : DialFacts → List ℕ → ℤ → Type 0
IsConnected facts path stream = facts.connected path stream × facts.waits stream

abbrev pub descriptor_of_line : {R : Type 0} → Line R → ℤ
descriptor_of_line line = unix_stream_raw_fd line.stream

-- some stream to this path was
abbrev pub HasConnection : DialFacts → List ℕ → Type 0
HasConnection facts path = (stream : ℤ) × IsConnected facts path stream
