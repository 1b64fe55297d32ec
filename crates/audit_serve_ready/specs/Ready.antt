-- The calls of a stream that doesn't wait.
use Rattle.std.specs.Prelude.{◌≡◌, ℕ, Option, Some, None, Result, Ok, Err, List, [], length, take, drop}
use Rattle.audit_serve_passes.specs.declared.stream_fault.StreamError.{StreamError}
use Rattle.audit_serve_passes.specs.Streams.{StreamCall, a_read_in_vain, a_write, a_failed_write, read_call}

-- a read that had this result
abbrev pub ready_read_call : Option (Result ℕ StreamError) → List ℕ → StreamCall
ready_read_call None buffer = a_read_in_vain
ready_read_call (Some given) buffer = read_call given buffer

-- a write of these bytes with this result: the number of those that it took
abbrev pub ready_write_call : Result ℕ StreamError → List ℕ → StreamCall
ready_write_call (Ok count) bytes = a_write (take count bytes) (drop count bytes)
ready_write_call (Err fault) bytes = a_failed_write bytes

-- the bytes that such a read gave
abbrev pub IsReadInto : Option (Result ℕ StreamError) → List ℕ → Type 0
IsReadInto None bytes = bytes ≡ []
IsReadInto (Some (Ok count)) bytes = length bytes ≡ count
IsReadInto (Some (Err fault)) bytes = bytes ≡ []
