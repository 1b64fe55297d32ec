-- Two exports with an equal last link: equal kinds and ciphers, or a collision of SHA-256.
use Rattle.std.specs.Prelude.{◌≡◌, ◌⊎◌, List, [], ◌∷◌, ◌++◌, ℕ}
use Rattle.std.specs.Int.{w32, to_be_bytes}
use Rattle.sha2.specs.Sha256.{sha256}
use Rattle.audit_chain.specs.EntryForm.{EntryParts}
use Rattle.audit_proof.specs.Collision.{IsCollision}
use Rattle.audit_disclosure.specs.LinkedEntries.{sealed_events}

-- the text whose SHA-256 is the link of an entry with these parts
abbrev pub sealed_link_text : List ℕ → EntryParts → List ℕ
sealed_link_text last_link parts = last_link ++ parts.cipher ++ to_be_bytes w32 parts.kind

-- at some place the links of two lists of entries, each after a link of its own, are equal and their texts differ
abbrev pub SealedLinksCollide : List ℕ → List ℕ → List EntryParts → List EntryParts → Type 0
SealedLinksCollide last_link another [] others = ⊥
SealedLinksCollide last_link another (parts ∷ entries) [] = ⊥
SealedLinksCollide last_link another (parts ∷ entries) (other ∷ others) =
    IsCollision sha256 (sealed_link_text last_link parts) (sealed_link_text another other)
    ⊎ SealedLinksCollide parts.link other.link entries others

-- the kinds and ciphers are the same, or two texts have one SHA-256
abbrev pub AreSameSealed : List ℕ → List EntryParts → List EntryParts → Type 0
AreSameSealed link entries others = (sealed_events others ≡ sealed_events entries) ⊎ SealedLinksCollide link link entries others
