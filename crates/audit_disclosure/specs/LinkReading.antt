-- Reading an export entry by entry without a key of its log.
use Rattle.std.specs.Prelude.{◌≡◌, ◌⊎◌, Bool, ℕ, ◌+◌, ◌<◌, ◌≤◌, Option, List, [], ◌∷◌, ◌++◌, length, IfSome}
use Rattle.std.specs.Io.KnownBytes.{Consumes, IsAtEnd}
use Rattle.audit_base.specs.declared.limits.TheConstants.{MAX_COUNT, MAX_ENTRY, RESERVED_KIND}
use Rattle.audit_chain.specs.Entry.{link_of}
use Rattle.audit_chain.specs.EntryForm.{EntryParts, BeginsWithEntry, IsCutShort, bytes_of_parts}
use Rattle.audit_chain.specs.Closing.{is_closed}
use Rattle.audit_verify.specs.declared.accepted.Accepted.{Accepted}
use Rattle.audit_verify.specs.declared.fault.Cause.TheVariants.{ReadFault}
use Rattle.audit_verify.specs.declared.fault.VerifyFault.{VerifyFault}
use Rattle.audit_verify.specs.declared.verifying.TheConstants.{BYTE_LIMIT}
use Rattle.audit_disclosure.specs.declared.disclosure.Start.{Start}
use Rattle.audit_disclosure.specs.LinkedEntries.{MayFollowStart, IsUnlinkedThen, bytes_of_entries, last_link_of}
use Rattle.audit_disclosure.specs.LinkedEntries.{sealed_events}

-- A reader of entries as contracts see it: the link for the next entry, the number of entries of the log, whether one
-- of them closes it, the bytes of the last one, and how many bytes were read in all
pub record LinkState : Type 0 where
  pub link : List ℕ
  pub count : ℕ
  pub closed : Bool
  pub held : List ℕ
  pub total : ℕ

-- the ranges of a reader's numbers
pub record IsWithinLimits (held count total : ℕ) : Type 0 where
  pub small : held ≤ MAX_ENTRY
  pub few : count ≤ total + MAX_COUNT
  pub most : total ≤ BYTE_LIMIT + MAX_ENTRY

-- The bytes of the next entry were taken from an input, or fewer if the input ended before, or its head alone if the
-- length there is over the limit.
pub record TakesFront (before after : Option (List ℕ)) (front : List ℕ) : Type 0 where
  pub taken : Consumes before after front
  pub ended : IsCutShort front → IsAtEnd after
  pub alone : (parts : EntryParts) → BeginsWithEntry front parts → front ≡ bytes_of_parts parts

-- these bytes are one entry, which may follow this link, and it is of this kind and has this link
pub record IsFollowingEntry (closed : Bool) (last_link bytes : List ℕ) (kind : ℕ) (link : List ℕ) : Type 0 where
  pub parts : EntryParts
  pub goes_on : closed ≡ Bool.false
  pub stands : BeginsWithEntry bytes parts
  pub linked : parts.link ≡ link_of last_link parts.cipher parts.kind
  pub closing : parts.kind ≡ RESERVED_KIND → parts.cipher ≡ []
  pub kind_is : kind ≡ parts.kind
  pub link_is : link ≡ parts.link

-- the bytes taken from an input are these entries, which follow a start
pub record HasReadLinked (start : Start) (before after : Option (List ℕ)) (state : LinkState)
    (entries : List EntryParts) : Type 0 where
  pub follow : MayFollowStart start entries
  pub link : state.link ≡ last_link_of start.link entries
  pub count : state.count ≡ start.tree.count + length entries
  pub closed : state.closed ≡ is_closed (sealed_events entries)
  pub taken : Consumes before after (bytes_of_entries entries)
  pub total : state.total ≡ length (bytes_of_entries entries)

-- and the input has ended
pub record HasEndedLinked (start : Start) (before after : Option (List ℕ)) (state : LinkState)
    (entries : List EntryParts) : Type 0 where
  pub read : HasReadLinked start before after state entries
  pub whole : IfSome before (λ bytes. bytes ≡ bytes_of_entries entries)

-- one more entry was read, whose bytes are held
pub record HasTakenLinked (start : Start) (before after : Option (List ℕ)) (state : LinkState)
    (entries : List EntryParts) : Type 0 where
  pub parts : EntryParts
  pub held : state.held ≡ bytes_of_parts parts
  pub read : HasReadLinked start before after state (entries ++ parts ∷ [])

-- the bytes have this fault after these entries
pub record IsUnlinkedAt (start : Start) (bytes : List ℕ) (entries : List EntryParts) (fault : VerifyFault) : Type 0 where
  pub rest : List ℕ
  pub split : bytes ≡ bytes_of_entries entries ++ rest
  pub wrong : IsUnlinkedThen fault.cause start entries rest

-- Reading stopped after these entries: what follows has a fault, or the last read failed or there are too many bytes.
pub record StopsLinked (start : Start) (before : Option (List ℕ)) (failed : Type 0) (entries : List EntryParts)
    (fault : VerifyFault) : Type 0 where
  pub wrong : IfSome before (λ bytes. IsUnlinkedAt start bytes entries fault)
  pub index : fault.index ≡ start.tree.count + length entries
  pub reader : fault.cause ≡ ReadFault → failed ⊎ IfSome before (λ bytes. BYTE_LIMIT < length bytes)

-- how the log ends after these entries
abbrev pub end_of_entries : Start → List EntryParts → Accepted
end_of_entries start entries = record {
  count = start.tree.count + length entries;
  last_link = last_link_of start.link entries;
  closed = is_closed (sealed_events entries);
}

abbrev pub end_of_reading : LinkState → Accepted
end_of_reading state = record { count = state.count; last_link = state.link; closed = state.closed }
