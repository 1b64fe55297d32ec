-- The calls of a session's stream, and how they correspond to the steps of its core.
use Rattle.std.specs.Prelude.{◌≡◌, ℕ, ◌+◌, Bool, true, false, ◌||◌, ◌==◌, if◌then◌else◌, List, [], ◌∷◌, ◌++◌, take}
use Rattle.std.specs.Prelude.{Result, Ok, Err}
use Rattle.audit_serve_passes.specs.declared.stream_fault.StreamError.{StreamError}
use Rattle.audit_serve_passes.specs.Steps.{StepData, bytes_fed}

pub data StreamCall : Type 0 where
  -- a read returned these bytes: none only at the end of the stream
  a_read : List ℕ → StreamCall
  -- a read found nothing yet, of a stream that doesn't wait
  a_read_in_vain : StreamCall
  -- a read failed
  a_failed_read : StreamCall
  -- these bytes were written, of those that the call offered, and these weren't
  a_write : List ℕ → List ℕ → StreamCall
  -- a write of these bytes failed: some of them may be written
  a_failed_write : List ℕ → StreamCall

-- the call that had this result
abbrev pub read_call : Result ℕ StreamError → List ℕ → StreamCall
read_call (Ok count) buffer = a_read (take count buffer)
read_call (Err fault) buffer = a_failed_read

abbrev pub write_call : Result (Unit {0}) StreamError → List ℕ → StreamCall
write_call (Ok unit) bytes = a_write bytes []
write_call (Err fault) bytes = a_failed_write bytes

-- the bytes that a call, or a list of calls, read; a failed read returns none
abbrev pub bytes_given : StreamCall → List ℕ
bytes_given (a_read bytes) = bytes
bytes_given _ = []

abbrev pub bytes_read : List StreamCall → List ℕ
bytes_read [] = []
bytes_read (call ∷ calls) = bytes_given call ++ bytes_read calls

-- the bytes that a call, or a list of calls, had to write
abbrev pub bytes_asked : StreamCall → List ℕ
bytes_asked (a_read bytes) = []
bytes_asked a_read_in_vain = []
bytes_asked a_failed_read = []
bytes_asked (a_write bytes left) = bytes
bytes_asked (a_failed_write bytes) = bytes

abbrev pub bytes_sent : List StreamCall → List ℕ
bytes_sent [] = []
bytes_sent (call ∷ calls) = bytes_asked call ++ bytes_sent calls

-- a write failed
abbrev pub is_failed_write : StreamCall → Bool
is_failed_write (a_failed_write bytes) = true
is_failed_write _ = false

abbrev pub has_failed_write : List StreamCall → Bool
has_failed_write [] = false
has_failed_write (call ∷ calls) = is_failed_write call || has_failed_write calls

-- how many times calls end a session: once for each read at the end of the stream and for each failed call
abbrev pub ends_of_call : StreamCall → ℕ
ends_of_call (a_read (byte ∷ bytes)) = 0
ends_of_call a_read_in_vain = 0
ends_of_call (a_write bytes left) = 0
ends_of_call _ = 1

abbrev pub ends_of_calls : List StreamCall → ℕ
ends_of_calls [] = 0
ends_of_calls (call ∷ calls) = ends_of_call call + ends_of_calls calls

-- nothing is written after a failed write
abbrev pub AreWrittenWhole : Bool → List StreamCall → Type 0
AreWrittenWhole closed [] = Unit {0}
AreWrittenWhole closed (a_read bytes ∷ calls) = AreWrittenWhole closed calls
AreWrittenWhole closed (a_read_in_vain ∷ calls) = AreWrittenWhole closed calls
AreWrittenWhole closed (a_failed_read ∷ calls) = AreWrittenWhole closed calls
AreWrittenWhole closed (a_write bytes left ∷ calls) = (closed ≡ false) × AreWrittenWhole closed calls
AreWrittenWhole closed (a_failed_write bytes ∷ calls) = (closed ≡ false) × AreWrittenWhole true calls

-- How contracts see a value that reads and writes.
pub record CallModel (S : Type 0) : Type 1 where
  -- these calls led from one state to another
  pub DidCalls : S → S → List StreamCall → Type 0
  pub nothing_called : (stream : S) → DidCalls stream stream []
  pub more_called : (old mid new : S) (calls later : List StreamCall) → DidCalls old mid calls
      → DidCalls mid new later → DidCalls old new (calls ++ later)

-- How contracts see a stream.
pub record StreamModel (S : Type 0) : Type 1 where
  pub calls : CallModel S
  -- a write has failed
  pub closed : S → Bool
  pub closed_by_calls : (old new : S) (done : List StreamCall) → calls.DidCalls old new done
      → closed new ≡ (closed old || has_failed_write done)

-- ---- streams and steps

-- these calls for one stream, and none for the others
abbrev pub calls_for : ℕ → List StreamCall → ℕ → List StreamCall
calls_for k calls session = if session == k then calls else []

-- In these calls the session's stream returned the bytes that the steps feed, followed by those that were lost. It
-- accepted what was sent; after a failed write the rest was dropped.
pub record IsStreamed {S : Type 0} (N : StreamModel S) (k : ℕ) (steps : List StepData) (lost sent : List ℕ)
    (calls : List StreamCall) (before after : S) : Type 0 where
  pub did : N.calls.DidCalls before after calls
  pub read : bytes_read calls ≡ bytes_fed k steps ++ lost
  pub dropped : List ℕ
  pub written : sent ≡ bytes_sent calls ++ dropped
  pub none_dropped : N.closed after ≡ false → dropped ≡ []
  pub whole : AreWrittenWhole (N.closed before) calls
