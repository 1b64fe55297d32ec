-- What the keys of keystreams open.
use Rattle.std.proofs.Common.{inl, inr, ◌≡◌, ◌⊎◌, ℕ, ◌<◌, ◌^◌, List, ◌++◌, length, take, drop, refl, sym, ap, ◌∙◌, codes, bytes_eq}
use Rattle.std.specs.Int.{w32, to_be_bytes, from_be_bytes}
use Rattle.std.proofs.lemmas.Bool.{cases_Bool, true≢false}
use Rattle.std.proofs.lemmas.List.{take_at, drop_at}
use Rattle.std.proofs.lemmas.Nat.{from_be_bytes-to_be_bytes_4}
use Rattle.std.proofs.lemmas.Slice.Eq.{bytes_eq-Decides}
use Rattle.sha2.specs.Sha256.{sha256}
use Rattle.audit_chain.specs.Key.{entry_key}
use Rattle.audit_chain.specs.Event.{EventData}
use Rattle.audit_chain.specs.EntryForm.{sealed_parts}
use Rattle.audit_chain.proofs.Opening.{opened_event-cipher_of}
use Rattle.audit_cli_offline.specs.OpenedEntry.{read_under, entry_key_text, KeysCollide}

-- the key of its keystream opens an entry
pub opens : (key last_link : List ℕ) (event : EventData) → read_under (entry_key key event.kind) (sealed_parts key last_link event) ≡ event
opens key last_link event = opened_event-cipher_of key event

-- the text of a keystream's key determines the chain's key and the kind
same_front : (p q rest others : List ℕ) → length p ≡ length q → p ++ rest ≡ q ++ others → p ≡ q
same_front p q rest others long same =
    sym (take_at p rest (length p) refl) ∙ ap (take (length p)) same ∙ take_at q others (length p) (sym long)

same_back : (p q rest others : List ℕ) → length p ≡ length q → p ++ rest ≡ q ++ others → rest ≡ others
same_back p q rest others long same =
    sym (drop_at p rest (length p) refl) ∙ ap (drop (length p)) same ∙ drop_at q others (length p) (sym long)

same_kind : (kind other : ℕ) → kind < 2 ^ 32 → other < 2 ^ 32 → to_be_bytes w32 kind ≡ to_be_bytes w32 other → kind ≡ other
same_kind kind other fits within same =
    sym (from_be_bytes-to_be_bytes_4 kind fits) ∙ ap (from_be_bytes w32) same ∙ from_be_bytes-to_be_bytes_4 other within

same_text : (key other : List ℕ) (kind other_kind : ℕ) → kind < 2 ^ 32 → other_kind < 2 ^ 32 → entry_key_text key kind ≡ entry_key_text other other_kind → (key ≡ other) × (kind ≡ other_kind)
same_text key other kind other_kind fits within same =
    let label : List ℕ = codes "Encryption Key" in
    let one : List ℕ = to_be_bytes w32 kind in
    let another : List ℕ = to_be_bytes w32 other_kind in
    let after : one ++ key ≡ another ++ other = same_back label label (one ++ key) (another ++ other) refl same in
    (same_back one another key other refl after, same_kind kind other_kind fits within (same_front one another key other refl after))

key_is : (key : List ℕ) (kind : ℕ) → entry_key key kind ≡ sha256 (entry_key_text key kind)
unfolding entry_key
key_is key kind = refl

-- two keys of keystreams that are equal are of one entry, or of a collision
pub alone : (key other : List ℕ) (kind other_kind : ℕ) → kind < 2 ^ 32 → other_kind < 2 ^ 32 → entry_key key kind ≡ entry_key other other_kind
    → ((key ≡ other) × (kind ≡ other_kind)) ⊎ KeysCollide key kind other other_kind
alone key other kind other_kind fits within same =
    let left : List ℕ = entry_key_text key kind in
    let right : List ℕ = entry_key_text other other_kind in
    let judged = bytes_eq-Decides left right in
    elim (cases_Bool (bytes_eq left right)) [
      | inl found ↦ inl (same_text key other kind other_kind fits within (judged.0 found))
      | inr found ↦ inr record { different = λ one. true≢false (sym (judged.1 one) ∙ found); same = sym (key_is key kind) ∙ same ∙ key_is other other_kind }
    ]
