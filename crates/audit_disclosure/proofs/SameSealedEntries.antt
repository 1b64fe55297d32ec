-- Exports with the same number of entries and the same last link.
use Rattle.std.proofs.Common.{inl, inr, ◌≡◌, ◌⊎◌, ℕ, ◌<◌, ◌^◌, List, [], ◌∷◌, ◌++◌, length, take, drop, refl, sym, ap, ◌∙◌, arith, length-append, append_assoc}
use Rattle.std.specs.Int.{w32, to_be_bytes, from_be_bytes}
use Rattle.std.proofs.lemmas.List.{take_at, drop_at}
use Rattle.std.proofs.lemmas.Nat.{from_be_bytes-to_be_bytes_4}
use Rattle.sha2.specs.Sha256.{sha256}
use Rattle.audit_chain.specs.EventData.{EventData}
use Rattle.audit_chain.specs.Entry.{link_of}
use Rattle.audit_chain.specs.EntryForm.{EntryParts, AreParts}
use Rattle.audit_proof.proofs.SameEntries.{same_or_other}
use Rattle.audit_disclosure.specs.LinkedEntries.{AreLinkedFrom, last_link_of, sealed_event, sealed_events}
use Rattle.audit_disclosure.specs.SameSealed.{sealed_link_text, SealedLinksCollide, AreSameSealed}

same_front : (p q rest others : List ℕ) → length p ≡ length q → p ++ rest ≡ q ++ others → p ≡ q
same_front p q rest others long same =
    sym (take_at p rest (length p) refl) ∙ ap (take (length p)) same ∙ take_at q others (length p) (sym long)

same_back : (p q rest others : List ℕ) → length p ≡ length q → p ++ rest ≡ q ++ others → rest ≡ others
same_back p q rest others long same =
    sym (drop_at p rest (length p) refl) ∙ ap (drop (length p)) same ∙ drop_at q others (length p) (sym long)

long_kind : (kind : ℕ) → length (to_be_bytes w32 kind) ≡ 4
long_kind kind = refl

same_kind : (kind other : ℕ) → kind < 2 ^ 32 → other < 2 ^ 32 → to_be_bytes w32 kind ≡ to_be_bytes w32 other → kind ≡ other
same_kind kind other fits within same =
    sym (from_be_bytes-to_be_bytes_4 kind fits) ∙ ap (from_be_bytes w32) same ∙ from_be_bytes-to_be_bytes_4 other within

abbrev event_with : ℕ → List ℕ → EventData
event_with kind cipher = record { kind = kind; payload = cipher }

-- the text of a link determines the kind, the cipher and the link before
same_text : (last_link another : List ℕ) (parts other : EntryParts) → AreParts parts → AreParts other → length last_link ≡ length another
    → sealed_link_text last_link parts ≡ sealed_link_text another other → (last_link ≡ another) × (sealed_event parts ≡ sealed_event other)
same_text last_link another parts other is also long same =
    let kind : List ℕ = to_be_bytes w32 parts.kind in
    let kind_other : List ℕ = to_be_bytes w32 other.kind in
    let texts : last_link ++ (parts.cipher ++ kind) ≡ another ++ (other.cipher ++ kind_other) =
    sym (append_assoc last_link parts.cipher kind) ∙ same ∙ append_assoc another other.cipher kind_other in
    let front : last_link ≡ another = same_front last_link another (parts.cipher ++ kind) (other.cipher ++ kind_other) long texts in
    let back : parts.cipher ++ kind ≡ other.cipher ++ kind_other = same_back last_link another (parts.cipher ++ kind) (other.cipher ++ kind_other) long texts in
    let size : length parts.cipher ≡ length other.cipher =
    omega (arith, ap length back, length-append parts.cipher kind, length-append other.cipher kind_other, long_kind parts.kind, long_kind other.kind) in
    let ciphers : parts.cipher ≡ other.cipher = same_front parts.cipher other.cipher kind kind_other size back in
    let kinds : parts.kind ≡ other.kind = same_kind parts.kind other.kind is.kind also.kind (same_back parts.cipher other.cipher kind kind_other size back) in
    (front, ap (λ k. event_with k parts.cipher) kinds ∙ ap (event_with other.kind) ciphers)

link_is : (last_link : List ℕ) (parts : EntryParts) → link_of last_link parts.cipher parts.kind ≡ sha256 (sealed_link_text last_link parts)
unfolding link_of
link_is last_link parts = refl

abbrev SameSealedAfter : List ℕ → List ℕ → List EntryParts → List EntryParts → Type 0
SameSealedAfter last_link another entries others =
    ((last_link ≡ another) × (sealed_events others ≡ sealed_events entries)) ⊎ SealedLinksCollide last_link another entries others

same_first : (last_link another : List ℕ) (parts other : EntryParts) (entries others : List EntryParts) → AreParts parts → AreParts other → length last_link ≡ length another
    → sha256 (sealed_link_text last_link parts) ≡ sha256 (sealed_link_text another other) → sealed_events others ≡ sealed_events entries → SameSealedAfter last_link another (parts ∷ entries) (other ∷ others)
same_first last_link another parts other entries others is also long links rest =
    elim (same_or_other (sealed_link_text last_link parts) (sealed_link_text another other)) [
      | inl same ↦
          let both = same_text last_link another parts other is also long same in
          inl (both.0, ap (λ e. e ∷ sealed_events others) (sym both.1) ∙ ap (λ es. sealed_event parts ∷ es) rest)
      | inr differ ↦ inr (inl record { different = differ; same = links })
    ]

same_after : (last_link another : List ℕ) (entries others : List EntryParts) → AreLinkedFrom last_link entries → AreLinkedFrom another others → length entries ≡ length others
    → length last_link ≡ length another → last_link_of last_link entries ≡ last_link_of another others → SameSealedAfter last_link another entries others
same_after last_link another [] [] each also count long same = inl (same, refl)
same_after last_link another [] (other ∷ others) each also count long same = absurd (omega (arith, count))
same_after last_link another (parts ∷ entries) [] each also count long same = absurd (omega (arith, count))
same_after last_link another (parts ∷ entries) (other ∷ others) each also count long same =
    elim (same_after parts.link other.link entries others each.2 also.2 (omega (arith, count)) (each.0.link ∙ sym also.0.link) same) [
      | inl later ↦ same_first last_link another parts other entries others each.0 also.0 long
          (sym (link_is last_link parts) ∙ sym each.1 ∙ later.0 ∙ also.1 ∙ link_is another other) later.1
      | inr collide ↦ inr (inr collide)
    ]

pub same_sealed : (link : List ℕ) (entries others : List EntryParts) → AreLinkedFrom link entries → AreLinkedFrom link others → length entries ≡ length others
    → last_link_of link entries ≡ last_link_of link others → AreSameSealed link entries others
same_sealed link entries others each also count same =
    elim (same_after link link entries others each also count refl same) [
      | inl found ↦ inl found.1
      | inr collide ↦ inr collide
    ]
