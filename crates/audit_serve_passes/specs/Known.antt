-- What calls do to a reader's remaining bytes and to the bytes written to a writer, if these are known.
use Rattle.std.specs.Prelude.{◌≡◌, ℕ, Bool, true, false, ◌||◌, Option, Some, None, List, [], ◌∷◌, ◌++◌}
use Rattle.std.specs.Io.KnownBytes.{Appends}
use Rattle.audit_serve_passes.specs.Streams.{StreamCall, a_read}
use Rattle.audit_serve_passes.specs.Streams.{bytes_read, bytes_sent, has_failed_write}

-- a read found the end
abbrev pub is_read_at_end : StreamCall → Bool
is_read_at_end (a_read []) = true
is_read_at_end _ = false

abbrev pub has_read_at_end : List StreamCall → Bool
has_read_at_end [] = false
has_read_at_end (call ∷ calls) = is_read_at_end call || has_read_at_end calls

-- the calls read a prefix of the known bytes, and all of them if one of the calls found the end
abbrev pub IsReadBy : Option (List ℕ) → Option (List ℕ) → List StreamCall → Type 0
IsReadBy None new calls = Unit {0}
IsReadBy (Some unread) None calls = ⊥
IsReadBy (Some unread) (Some rest) calls = (unread ≡ bytes_read calls ++ rest)
    × (has_read_at_end calls ≡ true → rest ≡ [])

-- known bytes grew by what was written, unless a write failed
abbrev pub IsWrittenBy : Option (List ℕ) → Option (List ℕ) → List StreamCall → Type 0
IsWrittenBy old new calls = has_failed_write calls ≡ false → Appends old new (bytes_sent calls)
