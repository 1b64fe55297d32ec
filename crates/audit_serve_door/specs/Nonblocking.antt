-- A stream over a value whose reads and writes fail instead of waiting.
use Rattle.std.specs.Prelude.{ℕ, Bool, true, false, Result, Ok, Err, List, [], ◌∷◌, take, drop, if◌then◌else◌}
use Rattle.std.specs.IoError.{error_kind}
use Rattle.std.specs.declared.io.Error.{Error}
use Rattle.std.specs.declared.io.ErrorKind.{ErrorKind}
use Rattle.std.specs.declared.io.ErrorKind.TheVariants.{WouldBlock, Interrupted}
use Rattle.audit_serve_passes.specs.Streams.{StreamCall, a_read, a_read_in_vain, a_failed_read, a_write, a_failed_write}
use Rattle.audit_serve_passes.specs.Streams.{CallModel}
use Rattle.audit_serve_door.specs.declared.nonblocking.Nonblocking.{Nonblocking}

-- the call has to be made again later
abbrev pub is_not_ready : ErrorKind → Bool
is_not_ready WouldBlock = true
is_not_ready Interrupted = true
is_not_ready _ = false

-- a read with this result, and a write
abbrev pub attempted_read : Result ℕ Error → List ℕ → StreamCall
attempted_read (Ok count) buffer = a_read (take count buffer)
attempted_read (Err error) buffer = if is_not_ready (error_kind error) then a_read_in_vain else a_failed_read

abbrev pub attempted_write : Result ℕ Error → List ℕ → StreamCall
attempted_write (Ok count) bytes = a_write (take count bytes) (drop count bytes)
attempted_write (Err error) bytes = if is_not_ready (error_kind error) then a_write [] bytes else a_failed_write bytes

-- How contracts see such a value.
pub record PromptModel (T : Type 0) : Type 1 where
  pub calls : CallModel T
  -- writing nothing is no call
  pub nothing_written : (value : T) → calls.DidCalls value value (a_write [] [] ∷ [])

-- the value below
abbrev pub inner_of_nonblocking : {T : Type 0} → Nonblocking T → T
inner_of_nonblocking stream = stream.inner

-- the calls were those of the value
abbrev pub nonblocking_calls : {T : Type 0} → PromptModel T → CallModel (Nonblocking T)
nonblocking_calls N = record {
  DidCalls = λ old new calls. N.calls.DidCalls old.inner new.inner calls;
  nothing_called = λ stream. N.calls.nothing_called stream.inner;
  more_called = λ old mid new calls later first second.
      N.calls.more_called old.inner mid.inner new.inner calls later first second;
}

-- nothing is known of it
abbrev pub unknown_prompt : {T : Type 0} → PromptModel T
unknown_prompt = record {
  calls = record {
    DidCalls = λ old new calls. Unit {0};
    nothing_called = λ value. tt;
    more_called = λ old mid new calls later first second. tt;
  };
  nothing_written = λ value. tt;
}
