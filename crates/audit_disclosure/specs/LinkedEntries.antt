-- Entries as they are read without a key of their log: by their form and their links.
use Rattle.std.specs.Prelude.{◌≡◌, ◌≢◌, ◌⊎◌, Bool, true, false, ℕ, ◌+◌, ◌<◌, ◌≤◌, List, [], ◌∷◌, ◌++◌, length, map}
use Rattle.std.specs.List.{flat_map}
use Rattle.audit_base.specs.declared.limits.TheConstants.{MAX_COUNT, RESERVED_KIND}
use Rattle.audit_chain.specs.EventData.{EventData}
use Rattle.audit_chain.specs.Entry.{link_of}
use Rattle.audit_chain.specs.EntryForm.{EntryParts, AreParts, BeginsWithEntry, IsOverLimit, bytes_of_parts}
use Rattle.audit_chain.specs.Closing.{is_closed, ClosesLast}
use Rattle.audit_tree.specs.Subtree.{leaf_hash_of}
use Rattle.audit_tree.specs.Continued.{root_after}
use Rattle.audit_proof.specs.declared.commitment.Commitment.{Commitment}
use Rattle.audit_verify.specs.declared.fault.Cause.{Cause}
use Rattle.audit_verify.specs.declared.fault.Cause.TheVariants.{Short, BadLength, BadLink, WrongCommitment, ReadFault}
use Rattle.audit_verify.specs.declared.fault.Cause.TheVariants.{BadClose}
use Rattle.audit_verify.specs.declared.fault.VerifyFault.{VerifyFault}
use Rattle.audit_verify.specs.Verdict.{EndsWithin, HasBadLink, IsWrongAfterClose}
use Rattle.audit_disclosure.specs.declared.disclosure.Start.{Start}

-- each entry has the form of one, and the link that the entry before it, its cipher and its kind make
abbrev pub AreLinkedFrom : List ℕ → List EntryParts → Type 0
AreLinkedFrom last_link [] = Unit {0}
AreLinkedFrom last_link (parts ∷ entries) =
    AreParts parts × (parts.link ≡ link_of last_link parts.cipher parts.kind) × AreLinkedFrom parts.link entries

-- the link of the last of them
abbrev pub last_link_of : List ℕ → List EntryParts → List ℕ
last_link_of last_link [] = last_link
last_link_of last_link (parts ∷ entries) = last_link_of parts.link entries

-- an entry as an event whose payload is the cipher, which is as long
abbrev pub sealed_event : EntryParts → EventData
sealed_event parts = record { kind = parts.kind; payload = parts.cipher }

abbrev pub sealed_events : List EntryParts → List EventData
sealed_events entries = map sealed_event entries

abbrev pub bytes_of_entries : List EntryParts → List ℕ
bytes_of_entries entries = flat_map bytes_of_parts entries

abbrev pub leaves_of : List EntryParts → List (List ℕ)
leaves_of entries = map (λ parts. leaf_hash_of (bytes_of_parts parts)) entries

-- the commitment to all entries, with these
abbrev pub commitment_with_entries : Start → List EntryParts → Commitment
commitment_with_entries start entries = record {
  count = start.tree.count + length entries;
  root = root_after start.tree (leaves_of entries);
}

-- entries that follow a start, of which only the last may close the log
pub record MayFollowStart (start : Start) (entries : List EntryParts) : Type 0 where
  pub linked : AreLinkedFrom start.link entries
  pub closing : ClosesLast (sealed_events entries)

-- the bytes are these entries, a log can have that many, and the commitment is to all
pub record IsMatched (start : Start) (commitment : Commitment) (bytes : List ℕ) (entries : List EntryParts) : Type 0 where
  pub follow : MayFollowStart start entries
  pub export : bytes ≡ bytes_of_entries entries
  pub committed : commitment_with_entries start entries ≡ commitment
  pub few : start.tree.count + length entries ≤ MAX_COUNT

-- the entry at the start has the right link, is of the reserved kind, and has a payload
pub record HasClosingPayload (last_link bytes : List ℕ) : Type 0 where
  pub parts : EntryParts
  pub stands : BeginsWithEntry bytes parts
  pub link : parts.link ≡ link_of last_link parts.cipher parts.kind
  pub kind : parts.kind ≡ RESERVED_KIND
  pub payload : parts.cipher ≢ []

-- the fault of the entry at the start of the bytes, after the last link, which shows without a key
abbrev pub IsUnlinkedEntry : Cause → List ℕ → List ℕ → Type 0
IsUnlinkedEntry Short last_link bytes = EndsWithin bytes
IsUnlinkedEntry BadLength last_link bytes = IsOverLimit bytes
IsUnlinkedEntry BadLink last_link bytes = HasBadLink last_link bytes
IsUnlinkedEntry BadClose last_link bytes = HasClosingPayload last_link bytes
IsUnlinkedEntry ReadFault last_link bytes = Unit {0}
IsUnlinkedEntry _ last_link bytes = ⊥

-- the fault of the bytes that follow some entries, which may have closed the log
abbrev pub IsUnlinkedNext : Cause → Bool → List ℕ → List ℕ → Type 0
IsUnlinkedNext cause false last_link bytes = IsUnlinkedEntry cause last_link bytes
IsUnlinkedNext cause true last_link bytes = IsWrongAfterClose cause bytes

-- nothing follows these entries, and the commitment isn't to all of them or they are too many
pub record IsOtherCommitment (start : Start) (commitment : Commitment) (entries : List EntryParts)
    (rest : List ℕ) : Type 0 where
  pub whole : rest ≡ []
  pub refused : (commitment_with_entries start entries ≢ commitment) ⊎ (MAX_COUNT < start.tree.count + length entries)

-- the fault after these entries
abbrev pub IsUnlinkedThen : Cause → Start → List EntryParts → List ℕ → Type 0
IsUnlinkedThen cause start entries rest =
    IsUnlinkedNext cause (is_closed (sealed_events entries)) (last_link_of start.link entries) rest

abbrev pub IsUnmatchedAfter : Cause → Start → Commitment → List EntryParts → List ℕ → Type 0
IsUnmatchedAfter WrongCommitment start commitment entries rest = IsOtherCommitment start commitment entries rest
IsUnmatchedAfter cause start commitment entries rest = IsUnlinkedThen cause start entries rest

-- The bytes have this fault: they begin with some entries, which may follow, and what follows these has a fault with its
-- cause. The index counts all entries before it.
pub record IsUnmatched (start : Start) (commitment : Commitment) (bytes : List ℕ) (fault : VerifyFault) : Type 0 where
  pub entries : List EntryParts
  pub rest : List ℕ
  pub follow : MayFollowStart start entries
  pub split : bytes ≡ bytes_of_entries entries ++ rest
  pub index : fault.index ≡ start.tree.count + length entries
  pub wrong : IsUnmatchedAfter fault.cause start commitment entries rest
