-- What an entry says to whoever has the key of its keystream, and the texts of such keys.
use Rattle.std.specs.Prelude.{ℕ, List, ◌++◌, codes}
use Rattle.std.specs.Int.{w32, to_be_bytes}
use Rattle.sha2.specs.Sha256.{sha256}
use Rattle.audit_proof.specs.Collision.{IsCollision}
pub use Rattle.audit_link.specs.OpenedEntry.{IsEntryOf, read_under, event_in, OpensAs}

-- the text whose SHA-256 is the key of an entry's keystream
abbrev pub entry_key_text : List ℕ → ℕ → List ℕ
entry_key_text key kind = codes "Encryption Key" ++ to_be_bytes w32 kind ++ key

-- the texts of two keys of keystreams are a collision
abbrev pub KeysCollide : List ℕ → ℕ → List ℕ → ℕ → Type 0
KeysCollide key kind other other_kind = IsCollision sha256 (entry_key_text key kind) (entry_key_text other other_kind)
