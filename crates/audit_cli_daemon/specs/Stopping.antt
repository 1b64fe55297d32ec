-- Ordering a daemon to stop.
use Rattle.std.specs.Prelude.{◌≡◌, ◌⊎◌, ◌++◌, ℕ, List, Result, Ok, Err, codes}
use Rattle.audit_store.specs.declared.store_error.StoreError.TheVariants.{Memory}
use Rattle.audit_cli_base.specs.Faults.{exit_status_of, status_of}
use Rattle.audit_cli_base.specs.SocketPath.{IsNoSocketPath}
use Rattle.audit_cli_base.specs.declared.status.Status.{Status}
use Rattle.audit_cli_base.specs.declared.fault.CommandError.{CommandError}
use Rattle.audit_cli_base.specs.declared.fault.CommandError.TheVariants.{BadArgument, File, Refused}
use Rattle.audit_cli_daemon.specs.declared.sockets.TheConstants.{STOP_SUFFIX_LEN}

-- the path at which the orders to the daemon at a socket come
abbrev pub orders_path : List ℕ → List ℕ
orders_path socket = socket ++ codes ".stop"

-- `Answered` says that the daemon whose orders come at a path took one, and answered with this byte; `Unanswered` that a
-- call failed.
module _ (Answered : List ℕ → ℕ → Type 0) (Unanswered : Type 0) where
  -- what the daemon answered is no status
  pub record HasNoStatus (socket : List ℕ) : Type 0 where
    pub code : ℕ
    pub answered : Answered (orders_path socket) code
    pub none : (status : Status) → exit_status_of status ≡ code → ⊥

  -- Ordering the daemon at a socket to stop has this result: the status that it answered, or a fault that has a cause.
  abbrev pub IsOrdered : List ℕ → Result Status CommandError → Type 0
  IsOrdered socket (Ok status) = Answered (orders_path socket) (exit_status_of status)
  IsOrdered socket (Err BadArgument) = IsNoSocketPath socket STOP_SUFFIX_LEN
  IsOrdered socket (Err File) = Unanswered ⊎ HasNoStatus socket
  IsOrdered socket (Err (Refused error)) = error ≡ Memory
  IsOrdered socket (Err _) = ⊥

-- the program's status for it
abbrev pub status_ordered : Result Status CommandError → Status
status_ordered (Ok status) = status
status_ordered (Err fault) = status_of fault
