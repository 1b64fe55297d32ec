-- HMAC (RFC 2104, section 2) with SHA-256 (FIPS 180-4), over whole lists of bytes.
use Rattle.std.specs.Prelude.{ℕ, ◌-◌, List, ◌++◌, length, map, replicate, bit_xor, nat_lt, if◌then◌else◌}
use Rattle.sha2.specs.Sha256.{sha256}

-- the key, or its digest if it is longer than a block of 64 bytes (B in the RFC), padded with zeros to a block
abbrev pub key_block : List ℕ → List ℕ
key_block key =
    let short = if nat_lt 64 (length key) then sha256 key else key in
    short ++ replicate (64 - length short) 0

-- each byte of the key's block, xored with a padding byte
abbrev pub masked_key : List ℕ → ℕ → List ℕ
masked_key key pad = map (λ byte. bit_xor byte pad) (key_block key)

-- H(K xor opad, H(K xor ipad, text))
unfoldable pub hmac : List ℕ → List ℕ → List ℕ
hmac key text = sha256 (masked_key key 0x5c ++ sha256 (masked_key key 0x36 ++ text))
