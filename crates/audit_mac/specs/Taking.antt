-- The state of a `Mac` while its text arrives in pieces.
use Rattle.std.specs.Prelude.{ℕ, List, ◌++◌}
use Rattle.sha2.specs.Hashers.{Holds256}
use Rattle.audit_mac.specs.Hmac.{masked_key}
use Rattle.audit_mac.specs.declared.mac.Mac.{Mac}

-- the HMAC has this key and has absorbed this text
pub record HasTaken (mac : Mac) (key text : List ℕ) : Type 0 where
  pub inside : Holds256 mac.inner (masked_key key 0x36 ++ text)
  pub outside : Holds256 mac.outer (masked_key key 0x5c)
