-- A count of the calls of a stream that moved bytes.
use Rattle.std.specs.Prelude.{ℕ, zero, suc, ◌+◌, ◌%◌, ◌^◌, List, [], ◌∷◌}
use Rattle.audit_serve_passes.specs.Streams.{StreamCall, a_read, a_write}

-- the count goes round at 2^64
abbrev pub one_more : ℕ → ℕ
one_more count = (count + 1) % 2 ^ 64

-- the count after a call that moved this number of bytes, or none
abbrev pub count_after : ℕ → ℕ → ℕ
count_after count zero = count
count_after count (suc bytes) = one_more count

-- the count after a call, and after calls
abbrev pub count_after_call : ℕ → StreamCall → ℕ
count_after_call count (a_read (byte ∷ bytes)) = one_more count
count_after_call count (a_write (byte ∷ bytes) left) = one_more count
count_after_call count _ = count

abbrev pub count_after_calls : ℕ → List StreamCall → ℕ
count_after_calls count [] = count
count_after_calls count (call ∷ calls) = count_after_calls (count_after_call count call) calls
